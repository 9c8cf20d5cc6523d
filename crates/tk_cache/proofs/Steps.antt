-- One entry more: what it leaves of a kind's objects, versions and names.
use Rattle.std.proofs.Common.{◌≡◌, ℕ, suc, List, [], ◌∷◌, ◌++◌, length, Option, Some, None, true, false, refl, sym, ap, ◌∙◌, subst, inl, inr, arith}
use Rattle.std.specs.Prelude.{option_map, bytes_eq, nat_lt, if◌then◌else◌}
use Rattle.std.specs.Option.{option_map_or}
use Rattle.std.specs.declared.string.String.{String}
use Rattle.std.proofs.lemmas.Bool.{cases_Bool, ltb-false, or_right}
use Rattle.std.proofs.lemmas.Slice.Eq.{bytes_eq-Decides}
use Rattle.indexmap.specs.IndexMap.{IndexMap}
use Rattle.tk_types.specs.declared.scenario.Kind.{Kind}
use Rattle.tk_types.specs.declared.scenario.Kind.TheVariants as kinds
use Rattle.tk_journal.specs.declared.act.Act.{Act}
use Rattle.tk_journal.specs.declared.act.Act.TheVariants as acts
use Rattle.tk_journal.specs.declared.act.Admission.TheVariants as admissions
use Rattle.tk_journal.specs.declared.entry.Entry.{Entry}
use Rattle.tk_journal.specs.Effects.{name_of, kind_of, same_kind, writes, is_create}
use Rattle.tk_journal.specs.History.{state_of, version_of, creates, counts}
use Rattle.tk_journal.specs.Made.{MakesOrChanges}
use Rattle.tk_journal.proofs.Past.{no_state}
use Rattle.tk_cache.specs.declared.objects.Held.{Held}
use Rattle.tk_cache.specs.Objects.{held_at, object_at, version_at, names_in, held_after}
use Rattle.tk_cache.specs.Shown.{AreThose, Stand}

abbrev pub written_by : {T : Type 0} → (T → T) → Option T → Option T → Option T
written_by after made None = made
written_by after made (Some x) = Some (after x)

objects_of : {T : Type 0} (position : ℕ) (made : Option T) → option_map (λ (h : Held T). h.object) (option_map (λ (object : T). record { object = object; version = position }) made) ≡ made
objects_of position None = refl
objects_of position (Some x) = refl

held_object : {T : Type 0} (position : ℕ) (after : T → T) (made : Option T) (o : Option (Held T)) → option_map (λ (h : Held T). h.object) (held_after position after made o) ≡ written_by after made (option_map (λ (h : Held T). h.object) o)
held_object position after made None = objects_of position made
held_object position after made (Some h) = refl

held_version : {T : Type 0} (kind : Kind) (e : Entry) (position : ℕ) (after : T → T) (made : Option T) (o : Option (Held T)) → MakesOrChanges kind e made (option_map (λ (h : Held T). h.object) o)
    → option_map_or (λ (h : Held T). h.version) (held_after position after made o) 0 ≡ position
held_version kind e position after None None fits = cc
held_version kind e position after (Some x) None fits = refl
held_version kind e position after made (Some h) fits = refl

-- an entry of another kind makes nothing of this one
other_makes : (kind : Kind) (act : Act) → same_kind kind (kind_of act) ≡ false → creates kind act ≡ false
other_makes kinds.Runs (acts.Admit name (admissions.Run spec) pending asked root) other = cc
other_makes kinds.Runs (acts.Admit name (admissions.Task spec) pending asked root) other = refl
other_makes kinds.Runs act other = refl
other_makes kinds.TaskRuns (acts.Admit name (admissions.Task spec) pending asked root) other = cc
other_makes kinds.TaskRuns (acts.Admit name (admissions.Run spec) pending asked root) other = refl
other_makes kinds.TaskRuns (acts.MakeTaskRun name run task index mark) other = cc
other_makes kinds.TaskRuns act other = refl
other_makes kinds.Pods (acts.MakePod name task_run attempt plan mark) other = cc
other_makes kinds.Pods act other = refl

creates_create : (kind : Kind) (act : Act) → creates kind act ≡ true → is_create act ≡ true
creates_create kind (acts.Admit name spec pending asked root) is = refl
creates_create kind (acts.MakeTaskRun name run task index mark) is = refl
creates_create kind (acts.MakePod name task_run attempt plan mark) is = refl
creates_create kinds.Runs act is = cc
creates_create kinds.TaskRuns act is = cc
creates_create kinds.Pods act is = cc

abbrev pub state_by : {T : Type 0} → Kind → (List Entry → Entry → Option T → Option T) → List Entry → List ℕ → Option T
state_by kind written history name = state_of (writes kind name) written history

module _ {T : Type 0} (kind : Kind) (written : List Entry → Entry → Option T → Option T)
    (waits : (older : List Entry) (e : Entry) → is_create e.act ≡ false → written older e None ≡ None) where
  -- an object that is there has a version
  numbered : (history : List Entry) (name : List ℕ) (x : T) → state_by kind written history name ≡ Some x → nat_lt 0 (version_of kind name history) ≡ true
  numbered history name x is = elim (cases_Bool (nat_lt 0 (version_of kind name history))) [
    | inl hit ↦ hit
    | inr miss ↦
        let none : version_of kind name history ≡ 0 = omega (arith, ltb-false 0 (version_of kind name history) miss) in
        let gone : state_by kind written history name ≡ None = no_state (writes kind name) written (λ older e mine update. waits older e update) history none in
        absurd (cc (is, gone))
  ]

  -- an entry that fits gives its object a new version
  counted : (older : List Entry) (e : Entry) (made : Option T) (name : List ℕ) → MakesOrChanges kind e made (state_by kind written older name) → counts e (version_of kind name older) ≡ true
  counted older e made name fits = by (state_by kind written older name) refl fits
    where
      by : (o : Option T) → state_by kind written older name ≡ o → MakesOrChanges kind e made o → counts e (version_of kind name older) ≡ true
      by None none fit = let create = creates_create kind e.act fit.1 in rw create refl
      by (Some x) there fit = or_right (is_create e.act) (nat_lt 0 (version_of kind name older)) (numbered older name x there)

module _ {A T S : Type 0} (kind : Kind) (written : List Entry → Entry → Option T → Option T) (older : List Entry) (e : Entry) (after : T → T) (made : Option T)
    (same : (o : Option T) → written older e o ≡ written_by after made o) where
  -- an entry of another kind leaves the objects as they are
  pub objects_passed : (m : IndexMap (String A) (Held T) S) → same_kind kind (kind_of e.act) ≡ false → Stand (state_by kind written older) m → Stand (state_by kind written (e ∷ older)) m
  objects_passed m other before name = before name ∙ sym (rw other refl)

  pub passed : (m : IndexMap (String A) (Held T) S) → same_kind kind (kind_of e.act) ≡ false → AreThose kind (state_by kind written older) older m → AreThose kind (state_by kind written (e ∷ older)) (e ∷ older) m
  passed m other before = record {
    objects = objects_passed m other before.objects;
    versions = λ name. before.versions name ∙ sym (rw other refl);
    names = let none = other_makes kind e.act other in before.names ∙ sym (rw none refl);
  }

  module _ (m n : IndexMap (String A) (Held T) S) (own : same_kind kind (kind_of e.act) ≡ true)
      (at : (name : List ℕ) → held_at n name ≡ (if bytes_eq (name_of e.act) name then held_after (suc (length older)) after made (held_at m name) else held_at m name)) where
    pub objects_changed : Stand (state_by kind written older) m → Stand (state_by kind written (e ∷ older)) n
    objects_changed before name = elim (cases_Bool (bytes_eq (name_of e.act) name)) [
      | inl hit ↦
          let held : held_at n name ≡ held_after (suc (length older)) after made (held_at m name) = at name ∙ rw hit refl in
          ap (option_map (λ (h : Held T). h.object)) held
          ∙ held_object (suc (length older)) after made (held_at m name)
          ∙ ap (written_by after made) (before name)
          ∙ sym (same (state_by kind written older name))
          ∙ sym (rw (own, hit) refl)
      | inr miss ↦
          let held : held_at n name ≡ held_at m name = at name ∙ rw miss refl in
          ap (option_map (λ (h : Held T). h.object)) held ∙ before name ∙ sym (rw (own, miss) refl)
    ]

    module _ (waits : (before : List Entry) (d : Entry) → is_create d.act ≡ false → written before d None ≡ None)
        (fits : MakesOrChanges kind e made (object_at m (name_of e.act)))
        (names : names_in n ≡ (if creates kind e.act then names_in m ++ name_of e.act ∷ [] else names_in m))
        (before : AreThose kind (state_by kind written older) older m) where
      version_now : (name : List ℕ) → version_at n name ≡ version_of kind name (e ∷ older)
      version_now name = elim (cases_Bool (bytes_eq (name_of e.act) name)) [
        | inl hit ↦
            let is : name_of e.act ≡ name = (bytes_eq-Decides (name_of e.act) name).0 hit in
            let held : held_at n name ≡ held_after (suc (length older)) after made (held_at m name) = at name ∙ rw hit refl in
            let fit : MakesOrChanges kind e made (object_at m name) = subst (λ (x : List ℕ). MakesOrChanges kind e made (object_at m x)) is fits in
            let count : counts e (version_of kind name older) ≡ true = counted kind written waits older e made name (subst (λ (o : Option T). MakesOrChanges kind e made o) (before.objects name) fit) in
            ap (λ o. option_map_or (λ (h : Held T). h.version) o 0) held
            ∙ held_version kind e (suc (length older)) after made (held_at m name) fit
            ∙ sym (rw (own, hit, count) refl)
        | inr miss ↦
            let held : held_at n name ≡ held_at m name = at name ∙ rw miss refl in
            ap (λ o. option_map_or (λ (h : Held T). h.version) o 0) held ∙ before.versions name ∙ sym (rw (own, miss) refl)
      ]

      pub changed : AreThose kind (state_by kind written (e ∷ older)) (e ∷ older) n
      changed = record {
        objects = objects_changed before.objects;
        versions = version_now;
        names = names ∙ ap (λ (ns : List (List ℕ)). if creates kind e.act then ns ++ name_of e.act ∷ [] else ns) before.names;
      }
