-- What an input gives in which no fault is found.
use Rattle.std.proofs.Common.{◌≡◌, ◌≢◌, ℕ, List, [], ◌∷◌, ◌++◌, map, Option, Some, None, reverse, refl, ap, subst, sym}
use Rattle.std.specs.Prelude.{All, AllPairs, flat_map, option_and_then}
use Rattle.std.specs.List.{cons_option, list_any}
use Rattle.std.specs.Option.{ForSome, option_or}
use Rattle.std.proofs.lemmas.List.Elements.{All-cons, All-head, All-map, All-nil, All-push, All-tail}
use Rattle.tk_types.specs.declared.object.Item.{Item}
use Rattle.tk_types.specs.Behaviour.{name_of}
use Rattle.tk_types.specs.Fault.{duplicate}
use Rattle.tk_types.specs.First.{Finding, first_of}
use Rattle.tk_manifest.specs.declared.kinds.KindSet.{KindSet}
use Rattle.tk_manifest.specs.Input.{objects_of, reading_fault}
use Rattle.tk_validate.specs.Validate.{item_fault}
use Rattle.tk_journal.specs.declared.act.Admission.{Admission}
use Rattle.tk_journal.specs.declared.entry.Entry.{Entry}
use Rattle.tk_journal.specs.Legal.{IsLegal, compared_names}
use Rattle.tk_journal.specs.Names.{task_run_names}
use Rattle.tk_admit.specs.declared.taken.Taken.{Taken}
use Rattle.tk_admit.specs.Admit.{admitted, count_finding, input_fault, items_fault}
use Rattle.tk_admit.specs.Names.{all_names, names_finding}
use Rattle.tk_admit.specs.Objects.{is_same_object, matrix_finding, object_finding, objects_finding, same_name_finding}
use Rattle.tk_admit.specs.Sound.{IsSound, IsValid}
use Rattle.tk_admit.specs.Taken.{behind, entry_of, resolved, taken, taken_of}
use Rattle.tk_read_laws.specs.Read.{IsRead}
use Rattle.tk_read_laws.proofs.Nothing.{first_none, mapped_none, not_refused, rest_none}
use Rattle.tk_read_laws.proofs.Objects.{objects_are_read}
use Rattle.tk_sound.specs.Laws.{AreSound, IsSoundEntry}
use Rattle.tk_sound.proofs.Kept.{IsKept, kept}
use Rattle.tk_sound.proofs.Legal.{AreNew, legal_items, names_differ, runs_from}
use Rattle.tk_sound.proofs.SoundRuns.{IsSoundTaken, sound_taken}

-- the law on which it rests
abbrev pub KnowsTaken : Type 0
KnowsTaken = (earlier : List Item) (item : Item) (spec : Admission) → All IsValid earlier → IsValid item → resolved earlier item.object ≡ Some spec → IsSound spec

-- what is wrong first with these objects beside those that stand earlier
abbrev objects_from : List Item → List Item → Finding
objects_from earlier items = first_of (map object_finding (behind earlier items))

-- each object is the first of its kind and name
pub are_new : (earlier items : List Item) → objects_from earlier items ≡ None → AreNew earlier items
are_new earlier [] e = tt
are_new earlier (item ∷ items) e =
    let here : object_finding (earlier, item) ≡ None = first_none (object_finding (earlier, item)) (objects_from (earlier ++ item ∷ []) items) e in (
      not_refused (list_any (is_same_object item.object) earlier) (duplicate item.place (name_of item.object)) (first_none (same_name_finding earlier item) _ here),
      are_new (earlier ++ item ∷ []) items (rest_none (object_finding (earlier, item)) (objects_from (earlier ++ item ∷ []) items) e),
    )

-- each run is sound
sound_cons : (found : Option Taken) (runs : List Taken) → ForSome found IsSoundTaken → All IsSoundTaken runs → All IsSoundTaken (cons_option found runs)
sound_cons None runs here rest = rest
sound_cons (Some run) runs here rest = All-cons IsSoundTaken run runs (here run refl) rest

module _ (knows : KnowsTaken) where
  item_sound : (earlier : List Item) (item : Item) → All IsRead earlier → All IsValid earlier → IsRead item → IsValid item → object_finding (earlier, item) ≡ None → ForSome (taken_of (earlier, item)) IsSoundTaken
  item_sound earlier item read_before valid_before read valid e =
      let all : All IsKept earlier = λ k d inside. kept _ (read_before k d inside) (valid_before k d inside) in
      let matrix = option_and_then (matrix_finding item.place) (resolved earlier item.object) in
      sound_taken item.place earlier item.object all read (kept item read valid) (λ spec is. knows earlier item spec valid_before valid is)
      (first_none matrix None (rest_none (same_name_finding earlier item) _ e))

  all_sound : (earlier items : List Item) → All IsRead earlier → All IsValid earlier → All IsRead items → All IsValid items → objects_from earlier items ≡ None → All IsSoundTaken (runs_from earlier items)
  all_sound earlier [] read_before valid_before read valid e = All-nil IsSoundTaken
  all_sound earlier (item ∷ items) read_before valid_before read valid e =
      let more = earlier ++ item ∷ [] in
      let read_here = All-head IsRead item items read in
      let valid_here = All-head IsValid item items valid in
      sound_cons (taken_of (earlier, item)) (runs_from more items)
      (item_sound earlier item read_before valid_before read_here valid_here (first_none (object_finding (earlier, item)) (objects_from more items) e))
      (all_sound more items (All-push IsRead earlier item read_before read_here) (All-push IsValid earlier item valid_before valid_here) (All-tail IsRead item items read) (All-tail IsValid item items valid)
      (rest_none (object_finding (earlier, item)) (objects_from more items) e))

  -- what no fault means
  record IsRight (items : List Item) : Type 0 where
    sound : All IsSoundTaken (taken items)
    new : AreNew [] items
    differ : AllPairs (λ a b. a ≢ b) (all_names (taken items))

  three_none : (a b c d rest : Finding) → option_or a (option_or b (option_or c (option_or d rest))) ≡ None → (b ≡ None) × (c ≡ None) × (d ≡ None)
  three_none a b c d rest e =
      let behind_a = rest_none a (option_or b (option_or c (option_or d rest))) e in
      let behind_b = rest_none b (option_or c (option_or d rest)) behind_a in
      let behind_c = rest_none c (option_or d rest) behind_b in
      (first_none b (option_or c (option_or d rest)) behind_a, first_none c (option_or d rest) behind_b, first_none d rest behind_c)

  items_right : (kinds : KindSet) (asks : ℕ) (items : List Item) → All IsRead items → items_fault kinds asks items ≡ None → IsRight items
  items_right kinds asks items read e =
      let none = three_none (count_finding items) (first_of (map item_fault items)) (objects_finding items) (names_finding (taken items)) _ e in
      let valid = mapped_none item_fault IsValid (λ item is. is) items none.0 in
      record {
        sound = all_sound [] items (All-nil IsRead) (All-nil IsValid) read valid none.1;
        new = are_new [] items none.1;
        differ = names_differ (taken items) none.2;
      }

  input_right : (kinds : KindSet) (asks : ℕ) (bytes : List ℕ) → input_fault kinds asks bytes ≡ None → IsRight (objects_of kinds bytes)
  input_right kinds asks bytes e =
      let items = objects_of kinds bytes in
      items_right kinds asks items (objects_are_read kinds bytes (first_none (reading_fault kinds bytes) _ e))
      (first_none (items_fault kinds asks items) None (rest_none (reading_fault kinds bytes) _ e))

  -- the laws
  pub admitted_is_legal : (kinds : KindSet) (asks : ℕ) (root bytes : List ℕ) → input_fault kinds asks bytes ≡ None → IsLegal (reverse (admitted kinds asks root bytes).entries)
  admitted_is_legal kinds asks root bytes e =
      let right = input_right kinds asks bytes e in
      legal_items root (objects_of kinds bytes) right.new right.sound right.differ

  names_of_entries : (root : List ℕ) (runs : List Taken) → flat_map (λ (e : Entry). compared_names e.act) (map (entry_of root) runs) ≡ all_names runs
  names_of_entries root [] = refl
  names_of_entries root (run ∷ runs) = ap (λ names. task_run_names run.spec ++ names) (names_of_entries root runs)

  pub admitted_is_sound : (kinds : KindSet) (asks : ℕ) (root bytes : List ℕ) → input_fault kinds asks bytes ≡ None → AreSound (admitted kinds asks root bytes).entries
  admitted_is_sound kinds asks root bytes e =
      let items = objects_of kinds bytes in
      let right = input_right kinds asks bytes e in
      record {
        sound = All-map IsSoundEntry (entry_of root) (taken items) right.sound;
        differ = subst (AllPairs (λ a b. a ≢ b)) (sym (names_of_entries root (taken items))) right.differ;
      }
