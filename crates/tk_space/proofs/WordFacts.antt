-- Words that are added one by one.
use Rattle.std.proofs.Common.{◌≡◌, List, [], ◌∷◌, ◌++◌, append_assoc}

-- three elements, each behind the one before it
pub three_behind : {X : Type 0} → (old first second third : List X) {a b c x y z : X} → x ≡ a → y ≡ b → z ≡ c → first ≡ old ++ x ∷ [] → second ≡ first ++ y ∷ [] → third ≡ second ++ z ∷ [] → third ≡ old ++ (a ∷ b ∷ c ∷ [])
three_behind old first second third h i j p q r = rw r (rw q (rw p (rw h (rw i (rw j (simp append_assoc))))))
