use Rattle.std.proofs.Common.{◌≡◌, ℕ, ◌-◌, List, drop}
use Rattle.std.specs.Prelude.{find}
use Rattle.tk_cache.specs.Views.{seen}
use Rattle.tk_pod_cache.specs.Marks.{is_unclaimed}
use Rattle.tk_kubelet.proofs.choose.first_unclaimed.Given as goal

abbrev pub invariant-loop-place : goal.invariant-loop-place
invariant-loop-place l =
    find (λ (name : List ℕ). is_unclaimed ((seen l.cache).view.pod name)) (drop l.at (seen l.cache).view.pods)
    ≡ find (λ (name : List ℕ). is_unclaimed ((seen l.cache).view.pod name)) (seen l.cache).view.pods

abbrev pub decreases-loop-place : goal.decreases-loop-place
decreases-loop-place l = l.end - l.at
