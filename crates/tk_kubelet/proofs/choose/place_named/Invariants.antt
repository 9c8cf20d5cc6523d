use Rattle.std.proofs.Common.{◌≡◌, ℕ, List, drop}
use Rattle.std.specs.Prelude.{find, bytes_eq}
use Rattle.tk_steps.specs.declared.held.HeldPod.{HeldPod}
use Rattle.tk_kubelet.proofs.choose.place_named.Given as goal

abbrev pub invariant-loop-place : goal.invariant-loop-place
invariant-loop-place l = find (λ (pod : HeldPod). bytes_eq pod.name l.name) (drop l.place l.held) ≡ find (λ (pod : HeldPod). bytes_eq pod.name l.name) l.held
