use Rattle.std.proofs.Common.{◌≡◌, ◌≤◌, ℕ, List, length, map}
use Rattle.std.specs.Prelude.{bytes_eq, string_bytes}
use Rattle.std.specs.Option.{option_or}
use Rattle.std.specs.HashMap.{get_by_text, spare}
use Rattle.std.specs.Map.{lookup}
use Rattle.tk_script.specs.FileTable.{bytes_at, put_at}
use Rattle.tk_script.proofs.file_table.FileTable.write_all.Given as goal

-- there is room for those left; with them the table is as it is to be
abbrev pub invariant-loop-path : goal.invariant-loop-path
invariant-loop-path l = (length l.left.items ≤ spare l.self.held)
    × ((q : List ℕ) → option_or (lookup (bytes_eq q) (map (λ r. (string_bytes r.0, r.1)) l.left.items)) (bytes_at (get_by_text l.self.held) q)
    ≡ option_or (lookup (bytes_eq q) (map (λ r. (string_bytes r.0, r.1)) l.fn.results.items)) (bytes_at (get_by_text l.fn.self.held) q))
    × ((q : List ℕ) → put_at (get_by_text l.self.held) q ≡ put_at (get_by_text l.fn.self.held) q)

abbrev pub decreases-loop-path : goal.decreases-loop-path
decreases-loop-path l = goal.left-loop-path l
