-- What stays of a list of attempts while it grows, and while its open attempt is closed.
use Rattle.std.proofs.Common.{◌≡◌, ℕ, zero, suc, ◌<◌, List, [], ◌∷◌, ◌++◌, length, map, Option, Some, None, refl, sym, ◌∙◌, ap, arith, inl, inr, ◌⊎◌, slice_get, option_map}
use Rattle.std.proofs.lemmas.Option.{slice_get-map, same_Some}
use Rattle.tk_types.specs.declared.run.Outcome.{Outcome}
use Rattle.tk_journal.specs.declared.object.Attempt.{Attempt}
use Rattle.tk_journal.specs.Lists.{IsThere}
use Rattle.tk_journal.specs.Effects.{attempt_closed, attempts_closed, outcome_kept}
use Rattle.tk_journal.specs.TaskRunRows.{IsOpenAttempt, NoneOpen}
use Rattle.tk_journal.specs.Right.{EndedAttempt}

pub get_append : {X : Type 0} (xs ys : List X) (place : ℕ) (x : X) → slice_get xs place ≡ Some x → slice_get (xs ++ ys) place ≡ Some x
get_append [] ys place x is = cc
get_append (a ∷ xs) ys zero x is = is
get_append (a ∷ xs) ys (suc place) x is = get_append xs ys place x is

pub ended_push : (attempts more : List Attempt) (place : ℕ) (outcome : Outcome) → EndedAttempt attempts place outcome → EndedAttempt (attempts ++ more) place outcome
ended_push attempts more place outcome e = record { attempt = e.attempt; at = get_append attempts more place e.attempt e.at; ended = e.ended }

pub ended_closed : (now : Outcome) (attempts : List Attempt) (place : ℕ) (outcome : Outcome) → EndedAttempt attempts place outcome → EndedAttempt (attempts_closed now attempts) place outcome
ended_closed now attempts place outcome e = record {
  attempt = attempt_closed now e.attempt;
  at = slice_get-map (attempt_closed now) attempts place ∙ ap (option_map (attempt_closed now)) e.at;
  ended = ap (λ (o : Option Outcome). outcome_kept o now) e.ended;
}

-- an attempt that ended is the same

closed_same : (now : Outcome) (attempt : Attempt) → IsThere attempt.outcome → attempt_closed now attempt ≡ attempt
closed_same now attempt (outcome, is) =
    let kept : outcome_kept attempt.outcome now ≡ attempt.outcome = ap (λ (o : Option Outcome). outcome_kept o now) is ∙ sym is in
    ap (λ (o : Option Outcome). record attempt { outcome = o }) kept

pub kept_closed : (now : Outcome) (attempts : List Attempt) (place : ℕ) (attempt : Attempt) → slice_get attempts place ≡ Some attempt → IsThere attempt.outcome → slice_get (attempts_closed now attempts) place ≡ Some attempt
kept_closed now attempts place attempt at there =
    slice_get-map (attempt_closed now) attempts place ∙ (ap (option_map (attempt_closed now)) at ∙ ap Some (closed_same now attempt there))

pub get_below : {X : Type 0} (xs : List X) (place : ℕ) (x : X) → slice_get xs place ≡ Some x → place < length xs
get_below [] place x is = cc
get_below (a ∷ xs) zero x is = omega arith
get_below (a ∷ xs) (suc place) x is = omega (arith, get_below xs place x is)

pub get_push_cases : {X : Type 0} (xs : List X) (y : X) (place : ℕ) (x : X) → slice_get (xs ++ y ∷ []) place ≡ Some x → (slice_get xs place ≡ Some x) ⊎ ((place ≡ length xs) × (y ≡ x))
get_push_cases [] y zero x is = inr (refl, same_Some y x is)
get_push_cases [] y (suc place) x is = cc
get_push_cases (a ∷ xs) y zero x is = inl is
get_push_cases (a ∷ xs) y (suc place) x is = elim (get_push_cases xs y place x is) [ inl before ↦ inl before | inr last ↦ inr (ap suc last.0, last.1) ]

-- an element of a mapped list comes from one of the list
get_map : {X Y : Type 0} (f : X → Y) (xs : List X) (place : ℕ) (y : Y) → slice_get (map f xs) place ≡ Some y → (x : X) × (slice_get xs place ≡ Some x) × (f x ≡ y)
get_map f [] place y is = cc
get_map f (a ∷ xs) zero y is = (a, refl, same_Some (f a) y is)
get_map f (a ∷ xs) (suc place) y is = get_map f xs place y is

kept_cases : (was : Option Outcome) (now outcome : Outcome) → outcome_kept was now ≡ Some outcome → (was ≡ Some outcome) ⊎ ((was ≡ None) × (now ≡ outcome))
kept_cases None now outcome is = inr (refl, same_Some now outcome is)
kept_cases (Some before) now outcome is = inl is

-- an attempt that ended: before, or as the open one, now
pub closed_cases : (now : Outcome) (attempts : List Attempt) (place : ℕ) (outcome : Outcome) → EndedAttempt (attempts_closed now attempts) place outcome → EndedAttempt attempts place outcome ⊎ (IsOpenAttempt attempts place × (now ≡ outcome))
closed_cases now attempts place outcome e =
    let from = get_map (attempt_closed now) attempts place e.attempt e.at in
    elim (kept_cases from.0.outcome now outcome (ap (λ (a : Attempt). a.outcome) from.2 ∙ e.ended)) [
      | inl before ↦ inl (record { attempt = from.0; at = from.1; ended = before })
      | inr fresh ↦ inr (record { attempt = from.0; at = from.1; no_outcome = fresh.0 }, fresh.1)
    ]

none_kept : (was : Option Outcome) (now : Outcome) → outcome_kept was now ≡ None → ⊥
none_kept None now is = cc
none_kept (Some before) now is = cc

pub none_open_closed : (now : Outcome) (attempts : List Attempt) → NoneOpen (attempts_closed now attempts)
none_open_closed now attempts place o =
    let from = get_map (attempt_closed now) attempts place o.attempt o.at in
    none_kept from.0.outcome now (ap (λ (a : Attempt). a.outcome) from.2 ∙ o.no_outcome)

-- the open attempt, closed
pub open_closed : (now : Outcome) (attempts : List Attempt) (place : ℕ) → IsOpenAttempt attempts place → EndedAttempt (attempts_closed now attempts) place now
open_closed now attempts place o = record {
  attempt = attempt_closed now o.attempt;
  at = slice_get-map (attempt_closed now) attempts place ∙ ap (option_map (attempt_closed now)) o.at;
  ended = ap (λ (was : Option Outcome). outcome_kept was now) o.no_outcome;
}

pub push_ended_cases : (attempts : List Attempt) (moment place : ℕ) (outcome : Outcome) → EndedAttempt (attempts ++ record { moment = moment; outcome = None } ∷ []) place outcome → EndedAttempt attempts place outcome
push_ended_cases attempts moment place outcome e = elim (get_push_cases attempts (record { moment = moment; outcome = None }) place e.attempt e.at) [
  | inl before ↦ record { attempt = e.attempt; at = before; ended = e.ended }
  | inr last ↦ let fresh : e.attempt.outcome ≡ None = ap (λ (a : Attempt). a.outcome) (sym last.1) in cc (fresh, e.ended)
]

pub push_open_last : (attempts : List Attempt) (moment place : ℕ) → NoneOpen attempts → IsOpenAttempt (attempts ++ record { moment = moment; outcome = None } ∷ []) place → place ≡ length attempts
push_open_last attempts moment place none o = elim (get_push_cases attempts (record { moment = moment; outcome = None }) place o.attempt o.at) [
  | inl before ↦ absurd (none place (record { attempt = o.attempt; at = before; no_outcome = o.no_outcome }))
  | inr last ↦ last.0
]
