use Rattle.std.proofs.Common.{◌≡◌, ℕ, List, IsTrue, length, take}
use denote.Text.{Utf8}
use denote.Shadow.{shadow}
use Rattle.tk_script.specs.Folders.{is_named}
use Rattle.tk_script.proofs.Above.{AreNamed}
use Rattle.tk_script.proofs.folders.Folders.add_above.Given as goal

-- the folder begins the path, and those of the path that aren't shorter have their names
abbrev pub invariant-loop-place : goal.invariant-loop-place
invariant-loop-place l = shadow (Utf8 l.folder) × record {
  begins : take (length l.folder) l.path ≡ l.folder;
  added : AreNamed l.path (λ folder. IsTrue (is_named l.self folder)) l.folder;
  kept : (folder : List ℕ) → IsTrue (is_named l.fn.self folder) → IsTrue (is_named l.self folder);
  all : l.self.all ≡ l.fn.self.all;
}

abbrev pub decreases-loop-place : goal.decreases-loop-place
decreases-loop-place l = length l.folder
