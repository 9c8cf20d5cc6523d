use Rattle.std.proofs.Common.{◌≡◌, ℕ, List, sym, ◌∙◌, arith}
use Rattle.std.specs.Prelude.{bytes_eq}
use Rattle.tk_steps.specs.declared.held.HeldPod.{HeldPod}
use Rattle.tk_kubelet.proofs.Found.{find_at_place}
use Rattle.tk_kubelet.proofs.choose.place_named.Goals as goal

pub returns-then-is_named-clause-first : goal.returns-then-is_named-clause-first
returns-then-is_named-clause-first c =
    find_at_place (λ (pod : HeldPod). bytes_eq pod.name c.args.name.now) c.args.held.now c.loop-place.place c.index-held-place.result (omega arith) c.index-held-place.is (sym c.is_named.ensures ∙ c.if-is_named.true) c.loop-place.invariant
