use Rattle.std.proofs.Common.{◌≡◌, ℕ, ◌<◌, ◌≤◌, true, length, get_or}
use Rattle.tk_turn.specs.Claims.{Follows, owns}
use Rattle.tk_passes.specs.declared.actor.Member.{Member}
use Rattle.tk_passes.specs.Standing.{IsBack}
use Rattle.tk_passes.proofs.back.take_back.Given as goal

abbrev pub invariant-loop-i : goal.invariant-loop-i
invariant-loop-i g l =
    let a = g.A.Actor in
    record {
      count : length l.members ≡ length l.initial.members;
      lock : l.pass.lock ≡ l.initial.pass.lock;
      first : l.pass.claim.first ≡ true;
      sound : a.sound l.pass.claim.seen;
      still : (x : ℕ) → owns l.initial.pass.claim x ≡ true → owns l.pass.claim x ≡ true;
      follows : Follows l.initial.pass.claim l.pass.claim.seen;
      done : (k : ℕ) (d : Member g.row.A.Denot) → k < l.i → k < length l.members → (owns l.pass.claim (a.number (get_or l.members k d).actor) ≡ true) × IsBack a.number a.such a.ready a.follows l.pass.claim.seen (get_or l.initial.members k d) (get_or l.members k d);
      rest : (k : ℕ) (d : Member g.row.A.Denot) → l.i ≤ k → k < length l.members → get_or l.members k d ≡ get_or l.initial.members k d;
    }
