-- Words that stand in front of others.
use Rattle.std.proofs.Common.{◌≡◌, ℕ, List, ◌++◌, Option, Some, None, option_map, find, bytes_eq, refl, ap, ◌∙◌}
use Rattle.std.specs.Option.{option_or}
use Rattle.std.proofs.lemmas.List.Folds.{find-append}
use Rattle.tk_types.specs.declared.value.Pair.{Pair}
use Rattle.tk_types.specs.Value.{text_at}

map_or : {X Y : Type 0} (f : X → Y) (a b : Option X) → option_map f (option_or a b) ≡ option_or (option_map f a) (option_map f b)
map_or f None b = refl
map_or f (Some x) b = refl

-- the text at a key: among the first words, or else among the others
pub text_at-append : (key : List ℕ) (front rest : List Pair) → text_at key (front ++ rest) ≡ option_or (text_at key front) (text_at key rest)
text_at-append key front rest =
    let test = λ (p : Pair). bytes_eq p.key key in
    ap (option_map (λ (p : Pair). p.value)) (find-append test front rest) ∙ map_or (λ (p : Pair). p.value) (find test front) (find test rest)
