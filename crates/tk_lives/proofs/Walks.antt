-- Walks over the entries of a journal, the nodes and the pods.
use Rattle.std.proofs.Common.{◌≡◌, ◌<◌, ◌≤◌, ◌+◌, ◌-◌, ℕ, suc, List, [], ◌∷◌, length, get_or, drop, reverse, Option, Some, None, true, false, refl, sym, ◌∙◌, ap, inl, inr, subst, arith, drop_of_length-le}
use Rattle.std.specs.Prelude.{Bool, is_some, max, nat_eq, option_map, slice_get, if◌then◌else◌}
use Rattle.std.proofs.lemmas.List.{drop-drop, drop_more, length-reverse, reverse-reverse}
use Rattle.std.proofs.lemmas.Option.{get_or_from_slice_get, same_Some, slice_get-get_or, slice_get_cases, slice_get_within}
use Rattle.tk_journal.specs.declared.entry.Entry.{Entry}
use Rattle.tk_journal.specs.declared.object.PodState.{PodState}
use Rattle.tk_journal.specs.History.{View, past}
use Rattle.tk_journal.specs.Journal.{entry_at}
use Rattle.tk_journal.proofs.Entries.{entry_in}
use Rattle.tk_journal.proofs.Past.{past_whole}
use Rattle.tk_journal.proofs.Positions.{past_step}
use Rattle.tk_cache.specs.Fronts.{Shows}
use Rattle.tk_cache.specs.Views.{Seen}
use Rattle.tk_lives.specs.Lives.{greatest_life, life_in}
use Rattle.tk_lives.specs.Taking.{GoesOnFrom, IsFirst, first_difference, first_some, fits_first, last_life, spent_from, strange_claim, strange_node}
use Rattle.tk_lives.proofs.Taken.{goes_on, whole}

pub greatest_more : (number : ℕ) (history : List Entry) (place : ℕ) (e : Entry) → entry_at (place + 1) history ≡ Some e
    → greatest_life number (past (place + 1) history) ≡ max (life_in number e.actor) (greatest_life number (past place history))
greatest_more number history place e at = ap (greatest_life number) (past_step place e history at)

if_hit : {T : Type 0} → (b : Bool) (a other : T) → b ≡ true → (if b then a else other) ≡ a
if_hit true a other is = refl
if_hit false a other is = cc (is)

if_miss : {T : Type 0} → (b : Bool) (a other : T) → b ≡ false → (if b then a else other) ≡ other
if_miss true a other is = cc (is)
if_miss false a other is = refl

-- the last life of each node

spent_more : (i n : ℕ) (history : List Entry) → i < n → spent_from i (n - i) history ≡ (if nat_eq (greatest_life i history) last_life then Some i else spent_from (suc i) (n - suc i) history)
spent_more i n history less = ap (λ (k : ℕ). spent_from i k history) (let same : n - i ≡ suc (n - suc i) = omega (arith, less) in same)

pub spent_on : (i n : ℕ) (history : List Entry) → i < n → nat_eq (greatest_life i history) last_life ≡ false → spent_from i (n - i) history ≡ spent_from (i + 1) (n - (i + 1)) history
spent_on i n history less miss =
    subst (λ (k : ℕ). spent_from i (n - i) history ≡ spent_from k (n - k) history) (let same : suc i ≡ i + 1 = omega arith in same)
    (spent_more i n history less ∙ if_miss (nat_eq (greatest_life i history) last_life) _ _ miss)

pub spent_here : (i n : ℕ) (history : List Entry) → i < n → nat_eq (greatest_life i history) last_life ≡ true → spent_from i (n - i) history ≡ Some i
spent_here i n history less hit = spent_more i n history less ∙ if_hit (nat_eq (greatest_life i history) last_life) _ _ hit

pub spent_none : (i n : ℕ) (history : List Entry) → n ≤ i → spent_from i (n - i) history ≡ None
spent_none i n history le = ap (λ (k : ℕ). spent_from i k history) (let zero_is : n - i ≡ 0 = omega (arith, le) in zero_is)

-- the first difference

abbrev pub shift : ℕ → Option ℕ → Option ℕ
shift k None = None
shift k (Some n) = Some (k + n)

shift_zero : (o : Option ℕ) → o ≡ shift 0 o
shift_zero None = refl
shift_zero (Some n) = ap Some (omega arith)

shift_suc : (k : ℕ) (o : Option ℕ) → shift k (option_map suc o) ≡ shift (k + 1) o
shift_suc k None = refl
shift_suc k (Some n) = ap Some (omega arith)

-- the entries of a history, the oldest first, from a place on
reverse_at : (history : List Entry) (place : ℕ) (e : Entry) → place < length history → entry_at (place + 1) history ≡ Some e → drop place (reverse history) ≡ e ∷ drop (place + 1) (reverse history)
reverse_at history place e less at =
    let xs = reverse history in
    let long : length xs ≡ length history = length-reverse history in
    let back : entry_at (place + 1) (reverse xs) ≡ Some (get_or xs (place + 1 - 1) e) = entry_in xs (place + 1) e (omega arith) (omega (arith, less, long)) in
    let one_less : place + 1 - 1 ≡ place = omega arith in
    let is : e ≡ get_or xs place e =
    same_Some e (get_or xs place e) (sym at ∙ ap (entry_at (place + 1)) (sym (reverse-reverse history)) ∙ back ∙ ap (λ (k : ℕ). Some (get_or xs k e)) one_less) in
    drop_more xs place e (omega (arith, less, long)) ∙ ap (λ (y : Entry). y ∷ drop (place + 1) xs) (sym is)

module _ (history given : List Entry) where
  -- what is left at a place tells the first difference, and whether the input goes on
  pub record Left (place : ℕ) : Type 0 where
    pub same : first_difference (reverse history) given ≡ shift place (first_difference (drop place (reverse history)) (drop place given))
    pub on : GoesOnFrom (drop place (reverse history)) (drop place given) → GoesOnFrom (reverse history) given

  pub left_starts : Left 0
  left_starts = record { same = shift_zero (first_difference (reverse history) given); on = λ is. is }

  module _ (place : ℕ) (e : Entry) (less : place < length history) (at : entry_at (place + 1) history ≡ Some e) (left : Left place) where
    here : drop place (reverse history) ≡ e ∷ drop (place + 1) (reverse history)
    here = reverse_at history place e less at

    behind : drop 1 (drop place given) ≡ drop (place + 1) given
    behind = drop-drop 1 place given

    abbrev rest : Option ℕ
    rest = first_difference (drop (place + 1) (reverse history)) (drop 1 (drop place given))

    step : first_difference (drop place (reverse history)) (drop place given) ≡ (if fits_first e (drop place given) then option_map suc rest else Some 0)
    step = ap (λ (l : List Entry). first_difference l (drop place given)) here

    pub left_more : fits_first e (drop place given) ≡ true → IsFirst e (drop place given) → Left (place + 1)
    left_more fits first = record {
      same = left.same ∙ ap (shift place) (step ∙ if_hit (fits_first e (drop place given)) (option_map suc rest) (Some 0) fits) ∙ shift_suc place rest
          ∙ ap (λ (l : List Entry). shift (place + 1) (first_difference (drop (place + 1) (reverse history)) l)) behind;
      on = λ is. left.on (subst (λ (l : List Entry). GoesOnFrom l (drop place given)) (sym here)
          (goes_on e (drop (place + 1) (reverse history)) (drop place given) first (subst (λ (l : List Entry). GoesOnFrom (drop (place + 1) (reverse history)) l) (sym behind) is)));
    }

    pub left_differs : fits_first e (drop place given) ≡ false → first_difference (reverse history) given ≡ Some place
    left_differs differs = left.same ∙ ap (shift place) (step ∙ if_miss (fits_first e (drop place given)) (option_map suc rest) (Some 0) differs) ∙ ap Some (omega arith)

  pub left_none : (place : ℕ) → length history ≤ place → Left place → (first_difference (reverse history) given ≡ None) × GoesOnFrom (reverse history) given
  left_none place le left =
      let empty : drop place (reverse history) ≡ [] = drop_of_length-le (reverse history) {i = place} (omega (arith, le, length-reverse history)) in (
        left.same ∙ ap (λ (l : List Entry). shift place (first_difference l (drop place given))) empty,
        left.on (subst (λ (l : List Entry). GoesOnFrom l (drop place given)) (sym empty) (whole (drop place given))),
      )

-- what is given at a place
pub given_at : (given : List Entry) (place : ℕ) (g : Entry) → slice_get given place ≡ Some g → drop place given ≡ g ∷ drop (place + 1) given
given_at given place g at =
    drop_more given place g (slice_get_within given place g at) ∙ ap (λ (y : Entry). y ∷ drop (place + 1) given) (get_or_from_slice_get given place g g at)

pub given_none : (given : List Entry) (place : ℕ) → slice_get given place ≡ None → drop place given ≡ []
given_none given place none = elim (slice_get_cases given place).1 [
  | inl some ↦ (let is = some.2 in cc (is, none))
  | inr over ↦ drop_of_length-le given {i = place} over.0
]

name_at : (names : List (List ℕ)) (place : ℕ) → place < length names → drop place names ≡ get_or names place [] ∷ drop (place + 1) names
name_at names place less = drop_more names place [] less

module _ (nodes : ℕ) (pod : List ℕ → Option PodState) (names : List (List ℕ)) (place : ℕ) (found : PodState) (result : Option ℕ) (less : place < length names)
    (at : (name : List ℕ) → slice_get names place ≡ Some name → pod name ≡ Some found) (is : result ≡ strange_claim nodes (Some found)) where
  abbrev strange : List ℕ → Option ℕ
  strange name = strange_claim nodes (pod name)

  abbrev rest_of : Option ℕ
  rest_of = first_some strange (drop (place + 1) names)

  here_is : strange (get_or names place []) ≡ result
  here_is = ap (strange_claim nodes) (at (get_or names place []) (slice_get-get_or names place [] less)) ∙ sym is

  split : first_some strange (drop place names) ≡ (elim result [ Some number ↦ Some number | None ↦ rest_of ])
  split = ap (first_some strange) (name_at names place less) ∙ ap (λ (o : Option ℕ). elim o [ Some number ↦ Some number | None ↦ rest_of ]) here_is

  pub strange_more : is_some result ≡ false → first_some strange (drop place names) ≡ first_some strange (drop (place + 1) names)
  strange_more none = split ∙ skip result none
    where
      skip : (o : Option ℕ) → is_some o ≡ false → (elim o [ Some number ↦ Some number | None ↦ rest_of ]) ≡ rest_of
      skip None none = refl
      skip (Some number) none = cc

  pub strange_here : is_some result ≡ true → first_some strange (drop place names) ≡ result
  strange_here some = split ∙ take_it result some
    where
      take_it : (o : Option ℕ) → is_some o ≡ true → (elim o [ Some number ↦ Some number | None ↦ rest_of ]) ≡ o
      take_it None some = cc
      take_it (Some number) some = refl

-- a cache whose pods are those at the end
pub strange_seen : (nodes : ℕ) (s : Seen) (history : List Entry) → Shows s history → s.fronts.pods ≡ length history → first_some (λ name. strange_claim nodes (s.view.pod name)) s.view.pods ≡ strange_node nodes history
strange_seen nodes s history shows end =
    ap (λ (v : View). first_some (λ name. strange_claim nodes (v.pod name)) v.pods) shows.same
    ∙ ap (strange_node nodes) (ap (λ (n : ℕ). past n history) end ∙ past_whole (length history) history (omega arith))
