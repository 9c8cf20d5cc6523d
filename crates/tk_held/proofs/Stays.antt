-- A held pod that is ready stays so, whatever is done for the others.
use Rattle.std.proofs.Common.{◌≡◌, ◌≢◌, ℕ, ◌<◌, ◌≤◌, ◌^◌, List, ◌∷◌, length, Some, true, false, refl, sym, ◌∙◌, ap, subst, inl, inr, arith, set, slice_get, get_or, codes}
use Rattle.std.specs.Prelude.{◌⊎◌, bytes_eq, decimal}
use Rattle.std.proofs.lemmas.Bool.{false_from_ne_true}
use Rattle.std.proofs.lemmas.Option.{same_Some, slice_get_within, slice_get-get_or}
use Rattle.std.proofs.lemmas.Slice.Eq.{bytes_eq-Decides}
use Rattle.tk_edge.specs.declared.event.Event.{Event}
use Rattle.tk_edge.specs.declared.event.Event.TheVariants as events
use Rattle.tk_edge.specs.History.{was_put}
use Rattle.tk_journal.specs.declared.object.Plan.{Plan}
use Rattle.tk_space.specs.Apart.{LiesUnder}
use Rattle.tk_space.specs.Space.{below, pod_folder, claims_folder}
use Rattle.tk_space.proofs.Apart.{same_pod}
use Rattle.tk_steps.specs.declared.held.HeldPod.{HeldPod}
use Rattle.tk_steps.specs.Held.{IsPlanOf}
use Rattle.tk_steps.specs.May.{May, IsOwnPut}
use Rattle.tk_steps.specs.Moves.{Moves}
use Rattle.tk_steps.specs.Paths.{start_path, script_path}
use Rattle.tk_steps.specs.Ready.{last_put, space_file, IsReady, ReadyIsSo}
use Rattle.tk_steps.proofs.Adds.{adds_keep}
use Rattle.tk_steps.proofs.Gets.{get_set}
use Rattle.tk_steps.proofs.Readies.{cleared_stays, was_more}
use Rattle.tk_held.specs.Placed.{IsPlaced, ArePlaced, StayReady}
use Rattle.tk_held.specs.Pods.{KeepsAll, AreApart, MovesAll}
use Rattle.tk_held.proofs.Lasts.{byte_back, start_last, script_last, space_last}
use Rattle.tk_held.proofs.Under.{lies_through, not_cleared}

-- where a pod's files lie

start_lies : (root name : List ℕ) → LiesUnder (pod_folder root name) (start_path root name)
start_lies root name = lies_through (pod_folder root name) (below (pod_folder root name) (codes "run")) (start_path root name) (codes "run", refl) (codes "start", refl)

script_lies : (root name : List ℕ) (step : ℕ) → LiesUnder (pod_folder root name) (script_path root name step)
script_lies root name step = lies_through (pod_folder root name) (below (pod_folder root name) (codes "scripts")) (script_path root name step) (codes "scripts", refl) (decimal step, refl)

file_lies : (folder inner file : List ℕ) → LiesUnder folder inner → LiesUnder folder (below inner file)
file_lies folder inner file lies = lies_through folder inner (below inner file) lies (file, refl)

-- what is done for another pod leaves the files of this one
module _ (root name other : List ℕ) (mine plan : Plan) (planned : IsPlanOf name mine) (here : IsPlaced root name mine) (there : IsPlaced root other plan) (differ : other ≢ name) where
  put_stays : (path : List ℕ) → LiesUnder (pod_folder root name) path ⊎ LiesUnder (claims_folder root) path → (e : Event) (h : List Event) → May root other plan e h → was_put path h ≡ true → was_put path (e ∷ h) ≡ true
  put_stays path lies (events.Put p bytes answered) h may was = was_more path p bytes answered h was
  put_stays path lies (events.Cleared folder true) h may was = rw (not_cleared root name other folder path here.plain there.plain differ there.no_claims lies may.0) was
  put_stays path lies (events.Cleared folder false) h may was = was
  put_stays path lies (events.Fetched p bytes) h may was = was
  put_stays path lies (events.Armed child arming) h may was = was
  put_stays path lies (events.Started child order) h may was = was
  put_stays path lies (events.Refused child) h may was = was
  put_stays path lies (events.Exited child exit) h may was = was

  -- no script of this pod is written for the other
  no_script : (step : ℕ) → step < 2 ^ 64 → (path bytes : List ℕ) → IsOwnPut root other plan path bytes → script_path root name step ≢ path
  no_script step small path bytes (inl start) same =
      let both : byte_back (script_path root name step) 0 ≡ byte_back (start_path root other) 0 = ap (λ (p : List ℕ). byte_back p 0) (same ∙ start.0) in
      absurd (omega (arith, both, script_last root name step small, start_last root other))
  no_script step small path bytes (inr (inl script)) same =
      let far : LiesUnder (pod_folder root other) (script_path root name step) = subst (LiesUnder (pod_folder root other)) (sym (same ∙ script.at)) (script_lies root other script.step) in
      absurd (differ (same_pod root other name (script_path root name step) there.plain here.plain far (script_lies root name step)))
  no_script step small path bytes (inr (inr space)) same =
      let both : byte_back (script_path root name step) 0 ≡ byte_back (space_file root other space.folder) 0 = ap (λ (p : List ℕ). byte_back p 0) (same ∙ space.at) in
      let more = (space_last root other space.folder).0 in
      absurd (omega (arith, both, script_last root name step small, more))

  script_stays : (step : ℕ) (text : List ℕ) → step < 2 ^ 64 → (e : Event) (h : List Event) → May root other plan e h → last_put (script_path root name step) h ≡ Some text → last_put (script_path root name step) (e ∷ h) ≡ Some text
  script_stays step text small (events.Put p bytes answered) h may put =
      let miss : bytes_eq (script_path root name step) p ≡ false = false_from_ne_true (bytes_eq (script_path root name step) p) (λ hit. no_script step small p bytes may.0 ((bytes_eq-Decides (script_path root name step) p).0 hit)) in
      rw miss put
  script_stays step text small (events.Cleared folder answered) h may put = rw (not_cleared root name other folder (script_path root name step) here.plain there.plain differ there.no_claims (inl (script_lies root name step)) may.0) put
  script_stays step text small (events.Fetched p bytes) h may put = put
  script_stays step text small (events.Armed child arming) h may put = put
  script_stays step text small (events.Started child order) h may put = put
  script_stays step text small (events.Refused child) h may put = put
  script_stays step text small (events.Exited child exit) h may put = put

  space_file_lies : (place : ℕ) (folder : List ℕ) → slice_get mine.folders place ≡ Some folder → LiesUnder (pod_folder root name) (space_file root name folder) ⊎ LiesUnder (claims_folder root) (space_file root name folder)
  space_file_lies place folder at = elim (here.folders place folder at) [
    | inl own ↦ inl (file_lies (pod_folder root name) folder _ own)
    | inr claim ↦ inr (file_lies (claims_folder root) folder _ claim)
  ]

  -- the other moves
  module _ (a b : HeldPod) (same_name : a.name ≡ other) (same_plan : a.plan ≡ plan) (x y : List Event) (moves : Moves root a b x y) where
    may_other : (e : Event) (h : List Event) → May root a.name a.plan e h → May root other plan e h
    may_other e h may = subst (λ (p : Plan). May root other p e h) same_plan (subst (λ (n : List ℕ). May root n a.plan e h) same_name may)

    stays_put : (path : List ℕ) → LiesUnder (pod_folder root name) path ⊎ LiesUnder (claims_folder root) path → was_put path x ≡ true → was_put path y ≡ true
    stays_put path lies was = adds_keep (May root a.name a.plan) (λ h. was_put path h ≡ true) (λ e h may. put_stays path lies e h (may_other e h may)) x y moves.adds was

    pub other_stays : IsReady root name mine x → IsReady root name mine y
    other_stays ready = record {
      cleared = cleared_stays root (pod_folder root name) a b x y moves ready.cleared;
      spaces = λ place folder at. stays_put (space_file root name folder) (space_file_lies place folder at) (ready.spaces place folder at);
      start = stays_put (start_path root name) (inl (start_lies root name)) ready.start;
      scripts = λ step text at. elim (ready.scripts step text at) [
        | inl none ↦ inl none
        | inr put ↦
            let within : step < length mine.scripts = slice_get_within mine.scripts step text at in
            let few : length mine.scripts ≤ 32 = planned.scripts in
            inr (adds_keep (May root a.name a.plan) (λ h. last_put (script_path root name step) h ≡ Some text) (λ e h may. script_stays step text (omega arith) e h (may_other e h may)) x y moves.adds put)
      ];
    }

-- all held pods

module _ (root : List ℕ) where
  pub stay_none : (held : List HeldPod) (told now : List Event) → now ≡ told → StayReady root held held told now
  stay_none held told now is place a b at_a at_b ready =
      subst (ReadyIsSo root b) (sym is) (subst (λ (p : HeldPod). ReadyIsSo root p told) (same_Some a b (sym at_a ∙ at_b)) ready)

  pub stay_at : (held new : List HeldPod) (place : ℕ) (a b : HeldPod) (x y : List Event) → KeepsAll x held → AreApart held → slice_get held place ≡ Some a → Moves root a b x y → (ReadyIsSo root a x → ReadyIsSo root b y) → new ≡ set held place b → ArePlaced root held → StayReady root held new x y
  stay_at held new place a b x y keeps apart at moves own is placed i p q at_p at_q ready = elim (get_set held b q place i (subst (λ (ps : List HeldPod). slice_get ps i ≡ Some q) is at_q)) [
    | inl here ↦
        let there : slice_get held i ≡ Some a = subst (λ (n : ℕ). slice_get held n ≡ Some a) (sym here.0) at in
        let same : p ≡ a = same_Some p a (sym at_p ∙ there) in
        subst (λ (r : HeldPod). ReadyIsSo root r y) (sym here.1) (own (subst (λ (r : HeldPod). ReadyIsSo root r x) same ready))
    | inr there ↦
        let same : p ≡ q = same_Some p q (sym at_p ∙ there.1) in
        let mine : ReadyIsSo root q x = subst (λ (r : HeldPod). ReadyIsSo root r x) same ready in
        let differ : a.name ≢ q.name = λ name. there.0 (sym (apart place i a q at there.1 name)) in
        λ is_ready. other_stays root q.name a.name q.plan a.plan (keeps i q there.1).planned (placed i q there.1) (placed place a at) differ a b refl refl x y moves (mine is_ready)
  ]

  pub stay_then : (a b c : List HeldPod) (x y z : List Event) → length b ≡ length a → StayReady root a b x y → StayReady root b c y z → StayReady root a c x z
  stay_then a b c x y z lengths first second place p q at_p at_q ready =
      let within : place < length a = slice_get_within a place p at_p in
      let found : slice_get b place ≡ Some (get_or b place p) = slice_get-get_or b place p (omega (arith, within, lengths)) in
      second place (get_or b place p) q found at_q (first place p (get_or b place p) at_p found ready)

  pub placed_all : (a b : List HeldPod) (x y : List Event) → MovesAll root a b x y → ArePlaced root a → ArePlaced root b
  placed_all a b x y moves placed place pod at =
      let was = moves.same place pod at in
      let named : IsPlaced root pod.name was.was.plan = subst (λ (n : List ℕ). IsPlaced root n was.was.plan) (sym was.name) (placed place was.was was.at) in
      subst (IsPlaced root pod.name) (sym was.plan) named
