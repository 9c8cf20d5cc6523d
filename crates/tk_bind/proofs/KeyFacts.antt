-- Keys of words.
use Rattle.std.proofs.Common.{◌≡◌, ℕ, List, [], ◌∷◌, ◌++◌, ap, sym, append-nil}
use Rattle.std.specs.List.{flat_map}
use Rattle.tk_vars.specs.declared.part.Part.{Part}
use Rattle.tk_vars.specs.Target.{key_part, key_of}

-- a part behind a dot
abbrev pub dotted : Part → List ℕ
dotted q = 46 ∷ key_part q

-- the first part, then each other one behind a dot
pub key_of-cons : (p : Part) (ps : List Part) → key_of (p ∷ ps) ≡ key_part p ++ flat_map dotted ps
key_of-cons p [] = sym (append-nil (key_part p))
key_of-cons p (q ∷ qs) = ap (λ rest. key_part p ++ 46 ∷ rest) (key_of-cons q qs)
