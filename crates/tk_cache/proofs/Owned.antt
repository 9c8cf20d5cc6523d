-- What is kept of whose the TaskRuns are, once one was added or changed in place.
use Rattle.std.proofs.Common.{◌≡◌, ℕ, List, [], ◌∷◌, ◌++◌, map, filter, Option, Some, None, Bool, true, false, refl, sym, ap, ap₂, ◌∙◌, subst, inl, inr, cond}
use Rattle.std.specs.Prelude.{bytes_eq, option_map, string_bytes, if◌then◌else◌}
use Rattle.std.specs.Map.{keys_of, lookup}
use Rattle.std.specs.declared.string.String.{String}
use Rattle.std.proofs.lemmas.Bool.{cases_Bool}
use Rattle.std.proofs.lemmas.List.{append-nil}
use Rattle.std.proofs.lemmas.List.Elements.{filter-append}
use Rattle.std.proofs.lemmas.Slice.Eq.{bytes_eq-Decides}
use Rattle.indexmap.specs.IndexMap.{IndexMap}
use Rattle.tk_groups.specs.Groups.{Group, names_of}
use Rattle.tk_journal.specs.declared.act.Act.{Act}
use Rattle.tk_journal.specs.declared.act.Act.TheVariants as acts
use Rattle.tk_journal.specs.declared.act.Closing.{Closing}
use Rattle.tk_journal.specs.declared.act.Closing.TheVariants as closings
use Rattle.tk_journal.specs.declared.object.TaskRunState.{TaskRunState}
use Rattle.tk_journal.specs.Effects.{task_run_after, task_run_closed}
use Rattle.tk_cache.specs.declared.objects.Held.{Held}
use Rattle.tk_cache.specs.Children.{AreOwned, children_of, is_made_for, is_name, IsNoted, made_in}
use Rattle.tk_cache.specs.Objects.{held_at, names_in, object_at}
use Rattle.tk_cache.specs.Views.{named, object_in}
use Rattle.tk_cache.proofs.Named.{names_named, object_named}

-- tests that agree on all
module _ {X : Type 0} (p q : X → Bool) (same : (x : X) → p x ≡ q x) where
  filter_alike : (xs : List X) → filter p xs ≡ filter q xs
  filter_alike [] = refl
  filter_alike (x ∷ xs) = ap₂ (λ (b : Bool) (rest : List X). cond b (x ∷ rest) rest) (same x) (filter_alike xs)

-- whose it is stays
closed_run : (closing : Closing) (t : TaskRunState) → (task_run_closed closing t).run ≡ t.run
closed_run (closings.Attempt outcome) t = refl
closed_run closings.TaskRun t = refl
closed_run (closings.Run condition skipped results) t = refl

pub kept_run : (moment : ℕ) (act : Act) (t : TaskRunState) → (task_run_after moment act t).run ≡ t.run
kept_run moment (acts.Ask name status) t = refl
kept_run moment (acts.CancelTaskRun name) t = refl
kept_run moment (acts.OpenAttempt name) t = refl
kept_run moment (acts.Close name closing) t = closed_run closing t
kept_run moment _ t = refl

module _ {A : Type 0} (name : List ℕ) (p q : List ℕ → Bool) (same : (x : List ℕ) → bytes_eq name x ≡ false → q x ≡ p x) where
  -- what isn't held is no name
  behind : (e : String A × Held TaskRunState) (es : List (String A × Held TaskRunState)) (b : Bool) → bytes_eq name (string_bytes e.0) ≡ b
      → cond b (Some e.1) (lookup (λ (k : String A). bytes_eq name (string_bytes k)) es) ≡ None
      → (lookup (λ (k : String A). bytes_eq name (string_bytes k)) es ≡ None → filter q (map string_bytes (keys_of es)) ≡ filter p (map string_bytes (keys_of es)))
      → filter q (string_bytes e.0 ∷ map string_bytes (keys_of es)) ≡ filter p (string_bytes e.0 ∷ map string_bytes (keys_of es))
  behind e es true hit is rest = absurd (cc (is))
  behind e es false miss is rest = ap₂ (λ (b : Bool) (names : List (List ℕ)). cond b (string_bytes e.0 ∷ names) names) (same (string_bytes e.0) miss) (rest is)

  names_without : (es : List (String A × Held TaskRunState)) → lookup (λ (k : String A). bytes_eq name (string_bytes k)) es ≡ None
      → filter q (map string_bytes (keys_of es)) ≡ filter p (map string_bytes (keys_of es))
  names_without [] none = refl
  names_without (e ∷ es) none = behind e es (bytes_eq name (string_bytes e.0)) refl none (names_without es)

module _ {A S : Type 0} (m : IndexMap (String A) (Held TaskRunState) S) where
  pub none_owned : (owned : List Group) → m.entries ≡ [] → owned ≡ [] → AreOwned m owned
  none_owned owned empty nothing run =
      let none : names_in m ≡ [] = ap (λ (es : List (String A × Held TaskRunState)). map string_bytes (keys_of es)) empty in
      ap (λ (groups : List Group). names_of groups run) nothing
      ∙ sym (ap (filter (λ (name : List ℕ). is_made_for run (object_at m name))) none)

  -- what is read
  pub owned_seen : (owned : List Group) → AreOwned m owned → (run : List ℕ)
      → names_of owned run ≡ filter (λ (name : List ℕ). is_made_for run (object_in (named m) name)) (keys_of (named m))
  owned_seen owned are run =
      are run
      ∙ filter_alike (λ (name : List ℕ). is_made_for run (object_at m name)) (λ (name : List ℕ). is_made_for run (object_in (named m) name)) (λ name. ap (is_made_for run) (sym (object_named m name))) (names_in m)
      ∙ ap (filter (λ (name : List ℕ). is_made_for run (object_in (named m) name))) (sym (names_named m))

  module _ (n : IndexMap (String A) (Held TaskRunState) S) (name : List ℕ) where
    -- one was changed in place
    pub owned_written : (h w : Held TaskRunState) → held_at m name ≡ Some h → w.object.run ≡ h.object.run → ((other : List ℕ) → held_at n other ≡ (if bytes_eq name other then Some w else held_at m other))
        → names_in n ≡ names_in m → (owned : List Group) → AreOwned m owned → AreOwned n owned
    owned_written h w there same at names owned are run =
        are run
        ∙ filter_alike (λ (other : List ℕ). is_made_for run (object_at m other)) (λ (other : List ℕ). is_made_for run (object_at n other)) each (names_in m)
        ∙ ap (filter (λ (other : List ℕ). is_made_for run (object_at n other))) (sym names)
      where
        each : (other : List ℕ) → is_made_for run (object_at m other) ≡ is_made_for run (object_at n other)
        each other = elim (cases_Bool (bytes_eq name other)) [
          | inl hit ↦
              let own : name ≡ other = (bytes_eq-Decides name other).0 hit in
              let was : held_at m other ≡ Some h = subst (λ (x : List ℕ). held_at m x ≡ Some h) own there in
              let now : held_at n other ≡ Some w = at other ∙ rw hit refl in
              ap (λ (o : Option (Held TaskRunState)). is_made_for run (option_map (λ (x : Held TaskRunState). x.object) o)) was
              ∙ ap (is_name run) (sym same)
              ∙ sym (ap (λ (o : Option (Held TaskRunState)). is_made_for run (option_map (λ (x : Held TaskRunState). x.object) o)) now)
          | inr miss ↦
              let now : held_at n other ≡ held_at m other = at other ∙ rw miss refl in
              sym (ap (λ (o : Option (Held TaskRunState)). is_made_for run (option_map (λ (x : Held TaskRunState). x.object) o)) now)
        ]

    -- one was added
    module _ (x : Held TaskRunState) (absent : held_at m name ≡ None) (at : (other : List ℕ) → held_at n other ≡ (if bytes_eq name other then Some x else held_at m other))
        (names : names_in n ≡ names_in m ++ name ∷ []) (old new : List Group) (noted : IsNoted x.object.run name old new) (are : AreOwned m old) where
      others : (run other : List ℕ) → bytes_eq name other ≡ false → is_made_for run (object_at n other) ≡ is_made_for run (object_at m other)
      others run other miss =
          let now : held_at n other ≡ held_at m other = at other ∙ rw miss refl in
          ap (λ (o : Option (Held TaskRunState)). is_made_for run (option_map (λ (h : Held TaskRunState). h.object) o)) now

      own : (run : List ℕ) → is_made_for run (object_at n name) ≡ is_name run x.object.run
      own run =
          let hit : bytes_eq name name ≡ true = (bytes_eq-Decides name name).1 refl in
          let now : held_at n name ≡ Some x = at name ∙ rw hit refl in
          ap (λ (o : Option (Held TaskRunState)). is_made_for run (option_map (λ (h : Held TaskRunState). h.object) o)) now

      last : (run : List ℕ) → made_in n run ≡ made_in m run ++ cond (is_name run x.object.run) (name ∷ []) []
      last run =
          ap (filter (λ (other : List ℕ). is_made_for run (object_at n other))) names
          ∙ filter-append (λ (other : List ℕ). is_made_for run (object_at n other)) (names_in m) (name ∷ [])
          ∙ ap₂ (λ (xs : List (List ℕ)) (b : Bool). xs ++ cond b (name ∷ []) [])
          (names_without name (λ (other : List ℕ). is_made_for run (object_at m other)) (λ (other : List ℕ). is_made_for run (object_at n other)) (others run) m.entries absent) (own run)

      by : (b : Bool) (was now made : List (List ℕ)) → was ≡ made → now ≡ (if b then was ++ name ∷ [] else was) → now ≡ made ++ cond b (name ∷ []) []
      by true was now made is more = more ∙ ap (λ (xs : List (List ℕ)). xs ++ name ∷ []) is
      by false was now made is more = more ∙ is ∙ sym (append-nil made)

      pub owned_added : AreOwned n new
      owned_added run = by (is_name run x.object.run) (names_of old run) (names_of new run) (made_in m run) (are run) (noted run) ∙ sym (last run)
