use Rattle.std.proofs.Common.{◌≡◌, ℕ, ◌-◌, List, drop}
use Rattle.std.specs.Prelude.{find}
use Rattle.tk_cache.specs.Views.{seen}
use Rattle.tk_kubelet.specs.Choice.{ends_pod}
use Rattle.tk_kubelet.proofs.choose.first_end.Given as goal

abbrev pub invariant-loop-place : goal.invariant-loop-place
invariant-loop-place l =
    find (ends_pod l.me.number l.me.life (seen l.cache).view l.moment l.held) (drop l.at (seen l.cache).view.pods)
    ≡ find (ends_pod l.me.number l.me.life (seen l.cache).view l.moment l.held) (seen l.cache).view.pods

abbrev pub decreases-loop-place : goal.decreases-loop-place
decreases-loop-place l = l.end - l.at
