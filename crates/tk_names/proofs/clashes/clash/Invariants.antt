use Rattle.std.proofs.Common.{◌≡◌, ℕ, ◌<◌, List, take, None, bytes_eq}
use Rattle.std.specs.List.{position}
use Rattle.std.specs.HashMap as hash
use Rattle.tk_names.specs.Clash.{with_earlier, name_at}
use Rattle.tk_names.proofs.clashes.clash.Given as goal

-- the map has the first place of each name so far, and none of these stood twice
abbrev pub invariant-loop-place : goal.invariant-loop-place
invariant-loop-place l = record {
  places : (q : List ℕ) → hash.get_by (λ k. bytes_eq q k.now) l.seen ≡ position (bytes_eq q) (take l.place l.names);
  none : (k : ℕ) → k < l.place → with_earlier l.names (k, name_at l.names k) ≡ None;
}
