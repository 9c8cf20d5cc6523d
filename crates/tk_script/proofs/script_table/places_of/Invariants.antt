use Rattle.std.proofs.Common.{◌≡◌, ◌≤◌, ℕ, List, length, drop}
use Rattle.std.specs.HashMap.{get_by_text}
use Rattle.tk_script.specs.ScriptHost.{script_at, script_of}
use Rattle.tk_script.proofs.script_table.places_of.Given as goal

-- the places so far are those of the scripts from this one on
abbrev pub invariant-loop-place : goal.invariant-loop-place
invariant-loop-place l = (l.place ≤ length l.pods) × ((pod : List ℕ) → script_at l.pods (get_by_text l.places pod) ≡ script_of (drop l.place l.pods) pod)

abbrev pub decreases-loop-place : goal.decreases-loop-place
decreases-loop-place l = l.place
