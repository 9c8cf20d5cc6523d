-- Bytes that are a text, and bytes that are none.
use Rattle.std.proofs.Common.{◌≡◌, ℕ, Bool, true, false, cond, List, refl, sym, ap, Some, None}
use Rattle.std.specs.Prelude.{Option, IsUtf8}
use Rattle.std.specs.Str.{is_utf8}
use Rattle.std.proofs.lemmas.Str.{IsUtf8-from_is_utf8, is_utf8-from_IsUtf8}
use Rattle.tk_types.specs.Json.{text_of}

no_text : (bytes : List ℕ) (b : Bool) → is_utf8 bytes ≡ b → (IsUtf8 bytes → ⊥) → (let none : Option (List ℕ) = None in none) ≡ cond b (Some bytes) None
no_text bytes true e not_text = absurd (not_text (IsUtf8-from_is_utf8 bytes e))
no_text bytes false e not_text = refl

pub text_of-no_text : (bytes : List ℕ) → (IsUtf8 bytes → ⊥) → (let none : Option (List ℕ) = None in none) ≡ text_of bytes
text_of-no_text bytes not_text = no_text bytes (is_utf8 bytes) refl not_text

pub text_of-text : (bytes : List ℕ) → IsUtf8 bytes → Some bytes ≡ text_of bytes
text_of-text bytes is_text = ap (λ b. cond b (Some bytes) (let none : Option (List ℕ) = None in none)) (sym (is_utf8-from_IsUtf8 bytes is_text))
