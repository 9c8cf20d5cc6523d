-- The names of runs, and the objects that have them.
use Rattle.std.proofs.Common.{◌≡◌, ℕ, ◌+◌, ◌<◌, List, [], ◌∷◌, ◌++◌, map, length, take, get_or, replicate, Some, Bor, refl, sym, ap, ◌∙◌, arith}
use Rattle.std.specs.List.{flat_map}
use Rattle.std.specs.Option.{option_map}
use Rattle.std.proofs.lemmas.List.{flat_map_more, length-append, length-map, take_more}
use Rattle.tk_types.specs.Place.{Place}
use Rattle.tk_names.specs.Clash.{clash, IsClash}
use Rattle.tk_names.proofs.ClashLaw.{clash-found_is}
use Rattle.tk_admit.specs.declared.taken.Taken.{Taken}
use Rattle.tk_journal.specs.Names.{task_run_names}
use Rattle.tk_admit.specs.Names.{all_names, clash_of, names_finding, owners}

-- one value in place of each element
pub replicated : {X Y : Type 0} (y : Y) (xs : List X) → replicate (length xs) y ≡ map (λ (x : X). y) xs
replicated y [] = refl
replicated y (x ∷ xs) = ap (λ ys. y ∷ ys) (replicated y xs)

-- each name has one owner
length-owners : (runs : List Taken) → length (owners runs) ≡ length (all_names runs)
length-owners [] = refl
length-owners (run ∷ runs) =
    let here : length (map (λ (name : List ℕ). run.place) (task_run_names run.spec)) ≡ length (task_run_names run.spec) = length-map (task_run_names run.spec) (λ (name : List ℕ). run.place) in
    let rest : length (owners runs) ≡ length (all_names runs) = length-owners runs in
    length-append (map (λ (name : List ℕ). run.place) (task_run_names run.spec)) (owners runs)
    ∙ (omega arith ∙ sym (length-append (task_run_names run.spec) (all_names runs)))

-- a name that clashes is one of them, and has an owner
pub clash_owned : (runs : List Taken) (names : List (List ℕ)) (held : List (Bor Place)) (earlier later : ℕ) → names ≡ all_names runs → map (λ (p : Bor Place). p.now) held ≡ owners runs → clash names ≡ Some (earlier, later) → (earlier < length held) × (later < length held)
clash_owned runs names held earlier later named owned found =
    let is : IsClash names earlier later = (clash-found_is names earlier later).0 found in
    let long : length held ≡ length names =
    sym (length-map held (λ (p : Bor Place). p.now)) ∙ (ap length owned ∙ (length-owners runs ∙ ap length (sym named))) in
    let ordered : earlier < later = is.ordered in
    let within : later < length names = is.within in
    (omega arith, omega arith)

-- the clash that is found among all of them
pub clash_told : (runs : List Taken) (names : List (List ℕ)) (places : List Place) (found : ℕ × ℕ) → names ≡ all_names runs → places ≡ owners runs → clash names ≡ Some found → Some (clash_of places found) ≡ names_finding runs
clash_told runs names places found named owned is =
    ap (λ ps. Some (clash_of ps found)) owned ∙ ap (option_map (clash_of (owners runs))) (sym is ∙ ap clash named)

-- what the elements so far give, and then one more
pub gathered_more : {X A : Type 0} (f : X → List A) (xs : List X) (i : ℕ) (x : X) (made new : List A) → i < length xs → x ≡ get_or xs i x → made ≡ flat_map f (take i xs) → new ≡ made ++ f x → new ≡ flat_map f (take (i + 1) xs)
gathered_more f xs i x made new lt is before now =
    now
    ∙ (ap (λ m. m ++ f x) before
    ∙ (flat_map_more f [] (take i xs) x ∙ ap (flat_map f) (ap (λ y. take i xs ++ y ∷ []) is ∙ sym (take_more xs i x lt))))
