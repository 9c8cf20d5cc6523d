use Rattle.std.proofs.Common.{◌≡◌, ℕ, ◌<◌, ◌≤◌, true, length, get_or, drop}
use Rattle.tk_turn.specs.Claims.{owns}
use Rattle.tk_passes.specs.declared.actor.Member.{Member}
use Rattle.tk_passes.specs.Standing.{IsHanded, IsNoneOf, numbers}
use Rattle.tk_passes.proofs.handing.hand_out.Given as goal

abbrev pub invariant-loop-at : goal.invariant-loop-at
invariant-loop-at g l =
    let a = g.A.Actor in
    record {
      inside : l.at ≤ length l.members;
      count : length l.members ≡ length l.initial.members;
      lock : l.pass.lock ≡ l.initial.pass.lock;
      first : l.pass.claim.first ≡ true;
      seen : l.pass.claim.seen ≡ l.initial.pass.claim.seen;
      still : (x : ℕ) → owns l.initial.pass.claim x ≡ true → IsNoneOf (drop l.at (numbers a.number l.initial.members)) x → owns l.pass.claim x ≡ true;
      before : (k : ℕ) (d : Member g.row.A.Denot) → k < l.at → get_or l.members k d ≡ get_or l.initial.members k d;
      behind : (k : ℕ) (d : Member g.row.A.Denot) → l.at ≤ k → k < length l.members → IsHanded a.number l.lock l.initial.pass.claim.seen (get_or l.initial.members k d) (get_or l.members k d);
    }

abbrev pub decreases-loop-at : goal.decreases-loop-at
decreases-loop-at g l = l.at
