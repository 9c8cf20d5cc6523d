-- A task that isn't Ready and of whose children none runs has the same children after a step.
use Rattle.std.proofs.Common.{◌≡◌, ◌≢◌, ℕ, Bool, true, false, List, [], ◌∷◌, ◌++◌, Option, Some, None, refl, sym, ap, ◌∙◌, inl, inr, nat_eq, nat_le, append-nil}
use Rattle.std.specs.Prelude.{All, find, is_none, slice_get}
use Rattle.std.specs.List.{list_any, list_all}
use Rattle.std.specs.Option.{option_or, option_map_or}
use Rattle.std.proofs.lemmas.Bool.{cases_Bool, ne_eqb, and_parts, or_parts}
use Rattle.std.proofs.lemmas.List.Elements.{All-head, All-tail, filter-append}
use Rattle.std.proofs.lemmas.List.Folds.{find-append}
use Rattle.tk_types.specs.declared.run.Facts.{Facts}
use Rattle.tk_types.specs.declared.run.Child.{Child}
use Rattle.tk_types.specs.declared.run.Outcome.{Outcome}
use Rattle.tk_types.specs.declared.run.Stop.{Stop}
use Rattle.tk_types.specs.declared.verdict.Verdict.TheVariants.{Ready}
use Rattle.tk_types.specs.Behaviour.{level_of}
use Rattle.tk_verdict.specs.Facts.{children_at, children_of, is_running, has_ended, first_stop, first_late_stop}
use Rattle.tk_verdict.specs.Gives.{label_of}
use Rattle.tk_verdict.specs.Moves.{IsLater, KeepOutcomes, Moves, by_outcomes, by_stop, by_children}

-- children that stay, of which more may have ended

pub keep_at : (place : ℕ) (cs ds : List Child) → KeepOutcomes cs ds → KeepOutcomes (children_at cs place) (children_at ds place)
keep_at place [] [] keep = tt
keep_at place [] (d ∷ ds) keep = absurd keep
keep_at place (c ∷ cs) [] keep = absurd keep
keep_at place (c ∷ cs) (d ∷ ds) keep =
    let same : nat_eq d.task place ≡ nat_eq c.task place = ap (λ (t : ℕ). nat_eq t place) keep.0.task in
    elim (cases_Bool (nat_eq c.task place)) [
      | inl hit ↦ rw (same, hit) (keep.0, keep_at place cs ds keep.1)
      | inr miss ↦ rw (same, miss) (keep_at place cs ds keep.1)
    ]

pub keep_none : (ds : List Child) → KeepOutcomes [] ds → ds ≡ []
keep_none [] keep = refl
keep_none (d ∷ ds) keep = absurd keep

there : (o : Option Outcome) → is_none o ≡ false → (outcome : Outcome) × (o ≡ Some outcome)
there None is = cc
there (Some outcome) is = (outcome, refl)

same_child : (c d : Child) → IsLater c d → is_running c ≡ false → d ≡ c
same_child c d later ended =
    let found = there c.outcome ended in
    let outcome : d.outcome ≡ c.outcome = later.outcome found.0 found.1 ∙ sym found.1 in
    λ i. record { task = later.task i; index = later.index i; outcome = outcome i }

pub keep_ended : (cs ds : List Child) → KeepOutcomes cs ds → list_any is_running cs ≡ false → ds ≡ cs
keep_ended [] [] keep none = refl
keep_ended [] (d ∷ ds) keep none = absurd keep
keep_ended (c ∷ cs) [] keep none = absurd keep
keep_ended (c ∷ cs) (d ∷ ds) keep none =
    let parts = or_parts (is_running c) (list_any is_running cs) none in
    λ i. same_child c d keep.0 parts.0 i ∷ keep_ended cs ds keep.1 parts.1 i

-- all children that are good have ended, and there are some
pub all_ended_rests : (test : Outcome → Bool) (children : List Child) → list_all (has_ended test) children ≡ true → list_any is_running children ≡ false
all_ended_rests test [] all = refl
all_ended_rests test (c ∷ cs) all =
    let parts = and_parts (has_ended test c) (list_all (has_ended test) cs) all in
    rw (ended_rests c.outcome parts.0, all_ended_rests test cs parts.1) refl
  where
    ended_rests : (o : Option Outcome) → option_map_or test o false ≡ true → is_none o ≡ false
    ended_rests None is = cc
    ended_rests (Some outcome) is = refl

-- children of another task
others_at : (place other : ℕ) (more : List Child) → (place ≡ other → ⊥) → All (λ (child : Child). child.task ≡ other) more → children_at more place ≡ []
others_at place other [] differ all = refl
others_at place other (c ∷ cs) differ all =
    rw (ne_eqb c.task place (λ same. differ (sym same ∙ All-head (λ (child : Child). child.task ≡ other) c cs all)))
    (others_at place other cs differ (All-tail (λ (child : Child). child.task ≡ other) c cs all))

pub rests : (old new : Facts) → Moves old new → (place : ℕ) → label_of old place ≢ Ready → list_any is_running (children_of old place) ≡ false
    → children_of new place ≡ children_of old place
rests old new (by_outcomes g) place not_ready none = keep_ended (children_of old place) (children_of new place) (keep_at place old.children new.children g.children) none
rests old new (by_stop g) place not_ready none = ap (λ (cs : List Child). children_at cs place) g.children
rests old new (by_children g) place not_ready none =
    let differ : place ≡ g.place → ⊥ = λ same. not_ready (ap (label_of old) same ∙ g.ready) in
    ap (λ (cs : List Child). children_at cs place) g.children
    ∙ (filter-append (λ (c : Child). nat_eq c.task place) old.children g.more
    ∙ (ap (λ (cs : List Child). children_of old place ++ cs) (others_at place g.place g.more differ g.of_task)
    ∙ append-nil (children_of old place)))

-- the spec stays, and the first stop of each kind

pub spec_stays : (old new : Facts) → Moves old new → new.spec ≡ old.spec
spec_stays old new (by_outcomes g) = g.spec
spec_stays old new (by_stop g) = g.spec
spec_stays old new (by_children g) = g.spec

pub record StopsStay (old new : Facts) : Type 0 where
  pub first : (s : Stop) → first_stop old ≡ Some s → first_stop new ≡ Some s
  pub late : (s : Stop) → first_late_stop old ≡ Some s → first_late_stop new ≡ Some s

abbrev is_late : Stop → Bool
is_late stop = nat_le 3 (level_of stop)

front_stays : (xs ys : List Stop) (s : Stop) → slice_get xs 0 ≡ Some s → slice_get (xs ++ ys) 0 ≡ Some s
front_stays [] ys s is = cc
front_stays (x ∷ xs) ys s is = is

found_stays : (xs ys : List Stop) (s : Stop) → find is_late xs ≡ Some s → find is_late (xs ++ ys) ≡ Some s
found_stays xs ys s is = find-append is_late xs ys ∙ ap (λ (o : Option Stop). option_or o (find is_late ys)) is

same_stops : (old new : Facts) → new.stops ≡ old.stops → StopsStay old new
same_stops old new same =
    record {
      first = λ s is. ap (λ (stops : List Stop). slice_get stops 0) same ∙ is;
      late = λ s is. ap (find is_late) same ∙ is;
    }

pub stops_stay : (old new : Facts) → Moves old new → StopsStay old new
stops_stay old new (by_outcomes g) = same_stops old new g.stops
stops_stay old new (by_stop g) =
    record {
      first = λ s is. ap (λ (stops : List Stop). slice_get stops 0) g.stops ∙ front_stays old.stops (g.stop ∷ []) s is;
      late = λ s is. ap (find is_late) g.stops ∙ found_stays old.stops (g.stop ∷ []) s is;
    }
stops_stay old new (by_children g) = same_stops old new g.stops
