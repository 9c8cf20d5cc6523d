use Rattle.std.proofs.Common.{◌≡◌, ◌≤◌, ℕ, Bool, true, false, sym, ◌∙◌, subst, refl, Some, slice_get, length, inl, inr, arith}
use Rattle.std.proofs.lemmas.Bool.{cases_lt}
use Rattle.std.proofs.lemmas.Option.{slice_get_within, slice_get_read, same_Some}
use Rattle.tk_steps.specs.declared.held.HeldPod.{HeldPod}
use Rattle.tk_steps.specs.Kills.{CountsKills}
use Rattle.tk_held.specs.Settling.{IsKilledPod}
use Rattle.tk_held.proofs.kills.kill_pods.Goals as goal

-- the count never falls
kills_later : (failed : Bool) (x y z : ℕ) → x ≤ y → CountsKills failed y z → x ≤ z
kills_later true x y z before kills = let later = kills.1 in omega (arith, before, later)
kills_later false x y z before kills = omega (arith, before, kills)

pub kill-failed-requires : goal.kill-failed-requires
kill-failed-requires g c = rw c.loop-place.invariant.told (c.requires.keeps c.loop-place.place c.index-held-place.result (slice_get_read c.args.held.now (length c.args.held.now) c.loop-place.place c.index-held-place.result refl (omega arith) c.index-held-place.is)).holds

pub loop-place-preserved : goal.loop-place-preserved
loop-place-preserved g c = record {
  told = c.kill-failed.ensures.told ∙ c.loop-place.invariant.told;
  watches = c.kill-failed.ensures.watches ∙ c.loop-place.invariant.watches;
  plays = c.kill-failed.ensures.plays ∙ c.loop-place.invariant.plays;
  killed = λ place below pod at. elim (cases_lt place c.loop-place.place) [
    | inl less ↦ λ i step at_step none. c.kill-failed.ensures.still step.child (c.loop-place.invariant.killed place less pod at i step at_step none)
    | inr most ↦
        let same : c.loop-place.place ≡ place = omega (arith, below, most) in
        let found : slice_get c.args.held.now c.loop-place.place ≡ Some pod = subst (λ (n : ℕ). slice_get c.args.held.now n ≡ Some pod) (sym same) at in
        let is : c.index-held-place.result ≡ pod = same_Some _ _ (sym (slice_get_read c.args.held.now (length c.args.held.now) c.loop-place.place c.index-held-place.result refl (omega arith) c.index-held-place.is) ∙ found) in
        subst (λ (p : HeldPod). IsKilledPod (g.H.Host.killed c.kill-failed.new.host) p) is c.kill-failed.ensures.killed
  ];
  still = λ child is. c.kill-failed.ensures.still child (c.loop-place.invariant.still child is);
  only = λ child is. elim (c.kill-failed.ensures.only child is) [
    | inl before ↦ c.loop-place.invariant.only child before
    | inr living ↦ inr record { place = c.loop-place.place; pod = c.index-held-place.result; at = (slice_get_read c.args.held.now (length c.args.held.now) c.loop-place.place c.index-held-place.result refl (omega arith) c.index-held-place.is); living = living }
  ];
  later = kills_later c.kill-failed.result _ _ _ c.loop-place.invariant.later c.kill-failed.ensures.count;
}

pub returns-clause-killed : goal.returns-clause-killed
returns-clause-killed g c place pod at = c.loop-place.invariant.killed place (omega (arith, slice_get_within c.args.held.now place pod at)) pod at
