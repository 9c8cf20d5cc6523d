use Rattle.std.proofs.Common.{◌≡◌, ◌≢◌, ℕ, sym, ◌∙◌, subst, refl, Some, None, slice_get, length, inl, inr, arith}
use Rattle.std.proofs.lemmas.Bool.{cases_lt}
use Rattle.std.proofs.lemmas.Option.{slice_get_within, slice_get_read, same_Some}
use Rattle.tk_cache.specs.Views.{seen}
use Rattle.tk_steps.specs.declared.held.HeldPod.{HeldPod}
use Rattle.tk_held.specs.Settled.{settled_in}
use Rattle.tk_held.specs.Settling.{IsKilledPod}
use Rattle.tk_held.proofs.Left.{kills_then}
use Rattle.tk_held.proofs.phases.settle_all.Goals as goal

pub settle_at-failed-requires : goal.settle_at-failed-requires
settle_at-failed-requires g c = record { holds = rw c.loop-place.invariant.told (c.requires.keeps c.loop-place.place c.index-held-place.result (slice_get_read c.args.held.now (length c.args.held.now) c.loop-place.place c.index-held-place.result refl (omega arith) c.index-held-place.is)).holds }

pub loop-place-preserved : goal.loop-place-preserved
loop-place-preserved g c = record {
  told = c.settle_at-failed.ensures.told ∙ c.loop-place.invariant.told;
  watches = c.settle_at-failed.ensures.watches ∙ c.loop-place.invariant.watches;
  plays = c.settle_at-failed.ensures.plays ∙ c.loop-place.invariant.plays;
  killed = λ place below pod at settled. elim (cases_lt place c.loop-place.place) [
    | inl less ↦ λ i step at_step none. c.settle_at-failed.ensures.still step.child (c.loop-place.invariant.killed place less pod at settled i step at_step none)
    | inr most ↦
        let same : c.loop-place.place ≡ place = omega (arith, below, most) in
        let found : slice_get c.args.held.now c.loop-place.place ≡ Some pod = subst (λ (n : ℕ). slice_get c.args.held.now n ≡ Some pod) (sym same) at in
        let is : c.index-held-place.result ≡ pod = same_Some _ _ (sym (slice_get_read c.args.held.now (length c.args.held.now) c.loop-place.place c.index-held-place.result refl (omega arith) c.index-held-place.is) ∙ found) in
        subst (λ (p : HeldPod). settled_in (seen c.args.cache.now).view c.args.moment p.name ≢ None → IsKilledPod (g.H.Host.killed c.settle_at-failed.new.host) p) is c.settle_at-failed.ensures.killed settled
  ];
  still = λ child is. c.settle_at-failed.ensures.still child (c.loop-place.invariant.still child is);
  only = λ child is. elim (c.settle_at-failed.ensures.only child is) [
    | inl before ↦ c.loop-place.invariant.only child before
    | inr own ↦ inr record { place = c.loop-place.place; pod = c.index-held-place.result; at = (slice_get_read c.args.held.now (length c.args.held.now) c.loop-place.place c.index-held-place.result refl (omega arith) c.index-held-place.is); own = own }
  ];
  count = kills_then _ _ _ _ _ c.loop-place.invariant.count c.settle_at-failed.ensures.count;
}

pub returns-clause-killed : goal.returns-clause-killed
returns-clause-killed g c place pod at settled =
    c.loop-place.invariant.killed place (omega (arith, slice_get_within c.args.held.now place pod at)) pod at settled
