use Rattle.std.proofs.Common.{◌≡◌, ℕ, sym, ◌∙◌, subst, refl, Some, slice_get, inl, inr, arith}
use Rattle.std.proofs.lemmas.Bool.{cases_lt}
use Rattle.std.proofs.lemmas.Option.{slice_get_within}
use Rattle.tk_held.proofs.Every.{all_none, rises_none, failed_none, all_then, all_apart, rises_then, failed_then}
use Rattle.tk_held.proofs.Stays.{stay_none, stay_then, placed_all}
use Rattle.tk_held.proofs.phases.arm_all.Goals as goal

pub loop-place-init : goal.loop-place-init
loop-place-init g c = record {
  moves = all_none _ _ _ _ refl c.requires.keeps;
  ready = λ placed. stay_none c.args.root.now c.args.held.now _ _ refl;
  rises = rises_none _ _ _ refl;
  failed = failed_none c.args.held.now;
  apart = c.requires.apart;
  done = λ place below pod at none. absurd (omega (arith, below));
  quiet = refl;
  killed = refl;
  watches = refl;
  plays = refl;
}

pub returns-clause-done : goal.returns-clause-done
returns-clause-done g c place pod at none = c.loop-place.invariant.done place (omega (arith, slice_get_within c.loop-place.held place pod at)) pod at none

pub arm_at-requires-clause-keeps : goal.arm_at-requires-clause-keeps
arm_at-requires-clause-keeps g c = c.loop-place.invariant.moves.keeps

pub arm_at-requires-clause-apart : goal.arm_at-requires-clause-apart
arm_at-requires-clause-apart g c = c.loop-place.invariant.apart

pub returns-in_err-arm_at-clause-moves : goal.returns-in_err-arm_at-clause-moves
returns-in_err-arm_at-clause-moves g c = all_then _ _ _ _ _ _ _ c.loop-place.invariant.moves c.arm_at.ensures.moves

pub returns-in_err-arm_at-clause-rises : goal.returns-in_err-arm_at-clause-rises
returns-in_err-arm_at-clause-rises g c = rises_then _ _ _ _ _ _ c.loop-place.invariant.rises c.arm_at.ensures.rises

pub returns-in_err-arm_at-clause-failed : goal.returns-in_err-arm_at-clause-failed
returns-in_err-arm_at-clause-failed g c = failed_then c.args.held.now c.loop-place.held c.arm_at.new.held c.loop-place.invariant.moves.same_length c.loop-place.invariant.failed c.arm_at.ensures.failed

pub returns-in_err-arm_at-clause-ready : goal.returns-in_err-arm_at-clause-ready
returns-in_err-arm_at-clause-ready g c placed =
    stay_then c.args.root.now c.args.held.now c.loop-place.held c.arm_at.new.held _ _ _ c.loop-place.invariant.moves.same_length (c.loop-place.invariant.ready placed) (c.arm_at.ensures.ready (placed_all c.args.root.now c.args.held.now c.loop-place.held _ _ c.loop-place.invariant.moves placed))

pub loop-place-preserved : goal.loop-place-preserved
loop-place-preserved g c = record {
  moves = all_then _ _ _ _ _ _ _ c.loop-place.invariant.moves c.arm_at.ensures.moves;
  ready = λ placed. stay_then c.args.root.now c.args.held.now c.loop-place.held c.arm_at.new.held _ _ _ c.loop-place.invariant.moves.same_length (c.loop-place.invariant.ready placed) (c.arm_at.ensures.ready (placed_all c.args.root.now c.args.held.now c.loop-place.held _ _ c.loop-place.invariant.moves placed));
  rises = rises_then _ _ _ _ _ _ c.loop-place.invariant.rises c.arm_at.ensures.rises;
  failed = failed_then c.args.held.now c.loop-place.held c.arm_at.new.held c.loop-place.invariant.moves.same_length c.loop-place.invariant.failed c.arm_at.ensures.failed;
  apart = all_apart _ _ _ _ _ c.arm_at.ensures.moves c.loop-place.invariant.apart;
  done = λ place below pod at none. elim (cases_lt place c.loop-place.place) [
    | inl less ↦ c.loop-place.invariant.done place less pod (sym (c.arm_at.ensures.others place (λ same. absurd (omega (arith, same, less)))) ∙ at) none
    | inr most ↦
        let same : place ≡ c.loop-place.place = omega (arith, below, most) in
        c.in_ok-arm_at.ensures.done pod (subst (λ (n : ℕ). slice_get c.arm_at.new.held n ≡ Some pod) same at) none
  ];
  quiet = c.arm_at.ensures.quiet ∙ c.loop-place.invariant.quiet;
  killed = c.arm_at.ensures.killed ∙ c.loop-place.invariant.killed;
  watches = c.arm_at.ensures.watches ∙ c.loop-place.invariant.watches;
  plays = c.arm_at.ensures.plays ∙ c.loop-place.invariant.plays;
}
