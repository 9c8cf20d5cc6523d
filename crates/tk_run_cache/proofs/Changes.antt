-- What a map holds once one run of it was changed, and which ends leave a run as it was.
use Rattle.std.proofs.Common.{◌≡◌, ℕ, List, Option, Some, None, true, false, refl, sym, ◌∙◌, ap, subst, inl, inr, Contains}
use Rattle.std.specs.Prelude.{◌==◌, ◌&&◌, bytes_eq, is_none, if◌then◌else◌}
use Rattle.std.specs.List.{list_any}
use Rattle.std.specs.declared.string.String.{String}
use Rattle.std.proofs.lemmas.Bool.{cases_Bool, and_from, and_parts, both_ways, eqb-true}
use Rattle.std.proofs.lemmas.List.Elements.{All-contains_itself, All-weaker}
use Rattle.std.proofs.lemmas.List.Folds.{Any-from_list_any, list_any-from_Any, map_fixed}
use Rattle.std.proofs.lemmas.Slice.Eq.{bytes_eq-Decides}
use Rattle.indexmap.specs.IndexMap.{IndexMap, get_by_text}
use Rattle.tk_types.specs.declared.run.Child.{Child}
use Rattle.tk_types.specs.declared.run.Facts.{Facts}
use Rattle.tk_types.specs.declared.run.Outcome.{Outcome}
use Rattle.tk_labels.specs.Change.{changed, once_ended, runs_at}
use Rattle.tk_labels.specs.Kept.{MayChange}
use Rattle.tk_labels.specs.declared.change.Change.TheVariants.{Ended}
use Rattle.tk_run_cache.specs.Follow.{ChangesAt, IsOpen}

module _ {A X S : Type 0} (m : IndexMap (String A) X S) (name : List ℕ) (after : Option X → Option X) where
  pub changes_at : (n : IndexMap (String A) X S) (x : X) → after (get_by_text m name) ≡ Some x → ((other : List ℕ) → get_by_text n other ≡ (if bytes_eq name other then Some x else get_by_text m other)) → ChangesAt name after m n
  changes_at n x is at other = elim (cases_Bool (bytes_eq name other)) [
    | inl hit ↦ at other ∙ rw hit (subst (λ (own : List ℕ). Some x ≡ after (get_by_text m own)) ((bytes_eq-Decides name other).0 hit) (sym is))
    | inr miss ↦ at other ∙ rw miss refl
  ]

-- a child that runs, and one that doesn't

was_none : (o : Option Outcome) → is_none o ≡ true → o ≡ None
was_none None is = refl
was_none (Some outcome) is = cc

module _ (task index : ℕ) where
  that_one : (child : Child) → runs_at task index child ≡ true → child ≡ record { task = task; index = index; outcome = None }
  that_one child runs =
      let parts = and_parts (child.task == task && child.index == index) (is_none child.outcome) runs in
      let same = and_parts (child.task == task) (child.index == index) parts.0 in
      let of_task : child.task ≡ task = eqb-true child.task task same.0 in
      let of_index : child.index ≡ index = eqb-true child.index index same.1 in
      let still : child.outcome ≡ None = was_none child.outcome parts.1 in
      ap (λ (k : ℕ). record { task = k; index = child.index; outcome = child.outcome }) of_task
      ∙ ap (λ (k : ℕ). record { task = task; index = k; outcome = child.outcome }) of_index
      ∙ ap (λ (o : Option Outcome). record { task = task; index = index; outcome = o }) still

  pub some_running : (children : List Child) → list_any (runs_at task index) children ≡ true → Contains children (record { task = task; index = index; outcome = None })
  some_running children is =
      let found = Any-from_list_any (runs_at task index) children is in
      subst (Contains children) (that_one found.1 found.4) (found.0, found.2, found.3)

  pub may_end : (outcome : Outcome) (facts : Facts) → list_any (runs_at task index) facts.children ≡ true → MayChange (Ended task index outcome) facts
  may_end outcome facts is = some_running facts.children is

  pub none_running : (outcome : Outcome) (facts : Facts) → IsOpen task index facts → list_any (runs_at task index) facts.children ≡ false → changed (Ended task index outcome) facts ≡ facts
  none_running outcome facts opens none =
      ap (λ (children : List Child). record { spec = facts.spec; stops = facts.stops; children = children })
      (map_fixed (once_ended task index outcome) facts.children (All-weaker (Contains facts.children) (λ (c : Child). once_ended task index outcome c ≡ c) stays facts.children (All-contains_itself facts.children)))
    where
      stays : (child : Child) → Contains facts.children child → once_ended task index outcome child ≡ child
      stays child has = elim (cases_Bool (child.task == task && child.index == index)) [
        | inl hit ↦
            let same = and_parts (child.task == task) (child.index == index) hit in
            let still : child.outcome ≡ None = opens child has (eqb-true child.task task same.0) (eqb-true child.index index same.1) in
            let runs : runs_at task index child ≡ true = and_from (child.task == task && child.index == index) (is_none child.outcome) hit (ap is_none still) in
            absurd (both_ways (list_any (runs_at task index) facts.children) none (list_any-from_Any (runs_at task index) facts.children (has.0, child, has.1, has.2, runs)))
        | inr miss ↦ rw miss refl
      ]
