use Rattle.std.proofs.Common.{sym, ◌∙◌, refl, ap, get_or}
use Rattle.std.proofs.lemmas.Option.{slice_get-get_or}
use Rattle.tk_cache.specs.Views.{seen}
use Rattle.tk_steps.proofs.Gets.{set_other}
use Rattle.tk_held.specs.Settled.{settled_in}
use Rattle.tk_held.proofs.Every.{all_none, all_at, rises_at, failed_none, failed_at, done_none, done_at, watched_acts, steps_fit}
use Rattle.tk_held.proofs.Left.{kept_at, unsettled_at, left_at}
use Rattle.tk_held.proofs.Plays.{left_played, played_here}
use Rattle.tk_held.proofs.Stays.{stay_none, stay_at}
use Rattle.tk_held.proofs.Watches.{left_out_at, watched_here, only_at}
use Rattle.tk_held.proofs.phases.watch_at.Goals as goal

pub returns-then-is_left_out-clause-moves : goal.returns-then-is_left_out-clause-moves
returns-then-is_left_out-clause-moves g c = all_none _ _ _ _ refl c.requires.keeps

pub returns-then-is_left_out-clause-ready : goal.returns-then-is_left_out-clause-ready
returns-then-is_left_out-clause-ready g c placed = stay_none c.args.root.now c.args.held.now _ _ refl

pub returns-then-is_left_out-clause-failed : goal.returns-then-is_left_out-clause-failed
returns-then-is_left_out-clause-failed g c = failed_none c.args.held.now

pub returns-then-is_left_out-clause-done : goal.returns-then-is_left_out-clause-done
returns-then-is_left_out-clause-done g c = done_none c.args.held.now

pub returns-then-is_left_out-clause-watched : goal.returns-then-is_left_out-clause-watched
returns-then-is_left_out-clause-watched g c pod at none kept =
    left_out_at (seen c.args.cache.now).view c.args.moment pod _ _ (left_at (seen c.args.cache.now).view c.args.moment c.args.held.now c.args.place c.index-held-place.result pod c.requires.within (sym c.is_left_out.ensures ∙ c.if-is_left_out.true) at) none kept

pub returns-then-is_left_out-clause-played : goal.returns-then-is_left_out-clause-played
returns-then-is_left_out-clause-played g c pod at none kept =
    left_played (seen c.args.cache.now).view c.args.moment pod _ _ _ _ (left_at (seen c.args.cache.now).view c.args.moment c.args.held.now c.args.place c.index-held-place.result pod c.requires.within (sym c.is_left_out.ensures ∙ c.if-is_left_out.true) at) none kept

pub watch-requires-clause-holds : goal.watch-requires-clause-holds
watch-requires-clause-holds g c = (c.requires.keeps c.args.place _ (slice_get-get_or c.args.held.now c.args.place c.index-held-place-2.result c.requires.within)).holds

pub watch-requires-clause-not_failed : goal.watch-requires-clause-not_failed
watch-requires-clause-not_failed g c = (kept_at (seen c.args.cache.now).view c.args.moment c.args.held.now c.args.place c.index-held-place.result c.index-held-place-2.result c.requires.within (sym c.is_left_out.ensures ∙ c.if-is_left_out.false))

pub returns-clause-moves : goal.returns-clause-moves
returns-clause-moves g c =
    all_at c.args.root.now c.args.held.now _ c.args.place _ c.watch.new.pod _ _ c.requires.keeps c.requires.apart (slice_get-get_or c.args.held.now c.args.place c.index-held-place-2.result c.requires.within) c.watch.ensures.moves
    (steps_fit (get_or c.args.held.now c.args.place c.index-held-place-2.result) c.watch.new.pod c.watch.ensures.moves.same_plan c.watch.ensures.steps (c.requires.keeps c.args.place (get_or c.args.held.now c.args.place c.index-held-place-2.result) (slice_get-get_or c.args.held.now c.args.place c.index-held-place-2.result c.requires.within)).within) refl

pub returns-clause-ready : goal.returns-clause-ready
returns-clause-ready g c placed =
    stay_at c.args.root.now c.args.held.now _ c.args.place _ c.watch.new.pod _ _ c.requires.keeps c.requires.apart (slice_get-get_or c.args.held.now c.args.place c.index-held-place-2.result c.requires.within) c.watch.ensures.moves c.watch.ensures.stays refl placed

pub returns-clause-rises : goal.returns-clause-rises
returns-clause-rises g c =
    rises_at c.args.held.now _ c.args.place _ c.watch.new.pod _ _ (slice_get-get_or c.args.held.now c.args.place c.index-held-place-2.result c.requires.within) (kept_at (seen c.args.cache.now).view c.args.moment c.args.held.now c.args.place c.index-held-place.result c.index-held-place-2.result c.requires.within (sym c.is_left_out.ensures ∙ c.if-is_left_out.false)) c.watch.ensures.count refl

pub returns-clause-failed : goal.returns-clause-failed
returns-clause-failed g c =
    failed_at c.args.held.now _ c.args.place _ c.watch.new.pod (slice_get-get_or c.args.held.now c.args.place c.index-held-place-2.result c.requires.within) (kept_at (seen c.args.cache.now).view c.args.moment c.args.held.now c.args.place c.index-held-place.result c.index-held-place-2.result c.requires.within (sym c.is_left_out.ensures ∙ c.if-is_left_out.false)) refl

pub returns-clause-done : goal.returns-clause-done
returns-clause-done g c =
    done_at c.args.held.now _ c.args.place _ c.watch.new.pod (slice_get-get_or c.args.held.now c.args.place c.index-held-place-2.result c.requires.within) (kept_at (seen c.args.cache.now).view c.args.moment c.args.held.now c.args.place c.index-held-place.result c.index-held-place-2.result c.requires.within (sym c.is_left_out.ensures ∙ c.if-is_left_out.false)) c.watch.ensures.moves.same_plan c.watch.ensures.steps refl

pub returns-clause-actions : goal.returns-clause-actions
returns-clause-actions g c =
    watched_acts c.args.held.now c.args.place _ c.watch.new.pod _ _ c.watch.result (slice_get-get_or c.args.held.now c.args.place c.index-held-place-2.result c.requires.within) (kept_at (seen c.args.cache.now).view c.args.moment c.args.held.now c.args.place c.index-held-place.result c.index-held-place-2.result c.requires.within (sym c.is_left_out.ensures ∙ c.if-is_left_out.false)) c.watch.ensures.actions

pub returns-clause-others : goal.returns-clause-others
returns-clause-others g c other differ = set_other c.args.held.now c.watch.new.pod c.args.place other differ

pub returns-clause-watched : goal.returns-clause-watched
returns-clause-watched g c =
    watched_here (seen c.args.cache.now).view c.args.moment c.args.held.now c.args.place _ c.watch.new.pod (slice_get-get_or c.args.held.now c.args.place c.index-held-place-2.result c.requires.within) c.watch.ensures.children _ _ c.watch.result c.watch.ensures.watched

pub returns-clause-played : goal.returns-clause-played
returns-clause-played g c =
    played_here (seen c.args.cache.now).view c.args.moment c.args.held.now c.args.place _ c.watch.new.pod (slice_get-get_or c.args.held.now c.args.place c.index-held-place-2.result c.requires.within) c.watch.ensures.moves.same_name c.watch.ensures.children _ _ _ _ c.watch.result c.watch.ensures.turns

pub returns-clause-only : goal.returns-clause-only
returns-clause-only g c =
    only_at (seen c.args.cache.now).view c.args.moment c.args.held.now c.args.place _ c.watch.new.pod (slice_get-get_or c.args.held.now c.args.place c.index-held-place-2.result c.requires.within) c.watch.ensures.children _ _
    (ap (settled_in (seen c.args.cache.now).view c.args.moment) c.watch.ensures.moves.same_name ∙ (unsettled_at (seen c.args.cache.now).view c.args.moment c.args.held.now c.args.place c.index-held-place.result c.index-held-place-2.result c.requires.within (sym c.is_left_out.ensures ∙ c.if-is_left_out.false))) c.watch.ensures.only
