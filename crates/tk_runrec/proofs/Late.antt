-- Two tests in either order.
use Rattle.std.proofs.Common.{◌≡◌, Bool, true, false, ◌&&◌, refl}

pub either_order : (a b : Bool) → (a && b) ≡ (b && a)
either_order true true = refl
either_order true false = refl
either_order false true = refl
either_order false false = refl
