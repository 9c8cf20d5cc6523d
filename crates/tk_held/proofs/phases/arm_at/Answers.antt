use Rattle.std.proofs.Common.{◌≤◌, ℕ, sym, ◌∙◌, subst, refl, ap, length}
use Rattle.std.proofs.lemmas.Option.{slice_get-get_or}
use Rattle.tk_cache.specs.Views.{seen}
use Rattle.tk_journal.specs.declared.object.Plan.{Plan}
use Rattle.tk_steps.proofs.Gets.{set_other}
use Rattle.tk_held.proofs.Every.{all_none, all_at, rises_at, failed_none, failed_at, done_armed}
use Rattle.tk_held.proofs.Left.{kept_at, left_at, left_failed}
use Rattle.tk_held.proofs.Stays.{stay_none, stay_at}
use Rattle.tk_held.proofs.phases.arm_at.Goals as goal

pub returns-then-is_left_out-clause-moves : goal.returns-then-is_left_out-clause-moves
returns-then-is_left_out-clause-moves g c = all_none _ _ _ _ refl c.requires.keeps

pub returns-then-is_left_out-clause-ready : goal.returns-then-is_left_out-clause-ready
returns-then-is_left_out-clause-ready g c placed = stay_none c.args.root.now c.args.held.now _ _ refl

pub returns-then-is_left_out-clause-failed : goal.returns-then-is_left_out-clause-failed
returns-then-is_left_out-clause-failed g c = failed_none c.args.held.now

pub returns-then-is_left_out-clause-done : goal.returns-then-is_left_out-clause-done
returns-then-is_left_out-clause-done g c pod at none =
    left_failed (seen c.args.cache.now).view c.args.moment pod (left_at (seen c.args.cache.now).view c.args.moment c.args.held.now c.args.place c.index-held-place.result pod c.requires.within (sym c.is_left_out.ensures ∙ c.if-is_left_out.true) at) none

pub arm-requires-clause-plan : goal.arm-requires-clause-plan
arm-requires-clause-plan g c = (c.requires.keeps c.args.place _ (slice_get-get_or c.args.held.now c.args.place c.index-held-place-2.result c.requires.within)).planned

pub arm-requires-clause-holds : goal.arm-requires-clause-holds
arm-requires-clause-holds g c = (c.requires.keeps c.args.place _ (slice_get-get_or c.args.held.now c.args.place c.index-held-place-2.result c.requires.within)).holds

pub arm-requires-clause-within : goal.arm-requires-clause-within
arm-requires-clause-within g c = (c.requires.keeps c.args.place _ (slice_get-get_or c.args.held.now c.args.place c.index-held-place-2.result c.requires.within)).within

pub arm-requires-clause-not_failed : goal.arm-requires-clause-not_failed
arm-requires-clause-not_failed g c = (kept_at (seen c.args.cache.now).view c.args.moment c.args.held.now c.args.place c.index-held-place.result c.index-held-place-2.result c.requires.within (sym c.is_left_out.ensures ∙ c.if-is_left_out.false))

pub returns-clause-moves : goal.returns-clause-moves
returns-clause-moves g c =
    all_at c.args.root.now c.args.held.now _ c.args.place _ c.arm.new.pod _ _ c.requires.keeps c.requires.apart (slice_get-get_or c.args.held.now c.args.place c.index-held-place-2.result c.requires.within) c.arm.ensures.moves
    (subst (λ (n : ℕ). length c.arm.new.pod.steps.items ≤ n) (ap (λ (p : Plan). length p.orders) (sym c.arm.ensures.moves.same_plan)) c.arm.ensures.within) refl

pub returns-clause-ready : goal.returns-clause-ready
returns-clause-ready g c placed =
    stay_at c.args.root.now c.args.held.now _ c.args.place _ c.arm.new.pod _ _ c.requires.keeps c.requires.apart (slice_get-get_or c.args.held.now c.args.place c.index-held-place-2.result c.requires.within) c.arm.ensures.moves c.arm.ensures.stays refl placed

pub returns-clause-rises : goal.returns-clause-rises
returns-clause-rises g c =
    rises_at c.args.held.now _ c.args.place _ c.arm.new.pod _ _ (slice_get-get_or c.args.held.now c.args.place c.index-held-place-2.result c.requires.within) (kept_at (seen c.args.cache.now).view c.args.moment c.args.held.now c.args.place c.index-held-place.result c.index-held-place-2.result c.requires.within (sym c.is_left_out.ensures ∙ c.if-is_left_out.false)) c.arm.ensures.count refl

pub returns-clause-failed : goal.returns-clause-failed
returns-clause-failed g c =
    failed_at c.args.held.now _ c.args.place _ c.arm.new.pod (slice_get-get_or c.args.held.now c.args.place c.index-held-place-2.result c.requires.within) (kept_at (seen c.args.cache.now).view c.args.moment c.args.held.now c.args.place c.index-held-place.result c.index-held-place-2.result c.requires.within (sym c.is_left_out.ensures ∙ c.if-is_left_out.false)) refl

pub returns-clause-done : goal.returns-clause-done
returns-clause-done g c =
    done_armed (seen c.args.cache.now).view c.args.moment c.args.held.now c.args.place _ c.arm.new.pod c.arm.result (slice_get-get_or c.args.held.now c.args.place c.index-held-place-2.result c.requires.within) c.arm.ensures.moves.same_plan c.arm.ensures.armed

pub returns-clause-others : goal.returns-clause-others
returns-clause-others g c other differ = set_other c.args.held.now c.arm.new.pod c.args.place other differ
