-- What was put stays put, and a pod that is ready stays so.
use Rattle.std.proofs.Common.{◌≡◌, ℕ, ◌<◌, ◌≤◌, ◌+◌, ◌^◌, List, [], ◌∷◌, ◌++◌, length, Some, Bool, true, false, refl, sym, ◌∙◌, ap, subst, inl, inr, arith, slice_get}
use Rattle.std.specs.Prelude.{Result, Ok, Err, OnOk, ◌⊎◌, bytes_eq, codes, decimal}
use Rattle.std.proofs.lemmas.Bool.{or_right, cases_Bool, cases_lt}
use Rattle.std.proofs.lemmas.Fmt.{decimal_injective}
use Rattle.std.proofs.lemmas.List.{append_cancel_left}
use Rattle.std.proofs.Common.{get_or}
use Rattle.std.proofs.lemmas.Option.{slice_get_within, slice_get-get_or}
use Rattle.std.proofs.lemmas.Slice.Eq.{bytes_eq-Decides}
use Rattle.tk_edge.specs.declared.event.Event.{Event}
use Rattle.tk_edge.specs.declared.event.Event.TheVariants as events
use Rattle.tk_edge.specs.History.{was_put}
use Rattle.tk_space.specs.Space.{below, pod_folder}
use Rattle.tk_journal.specs.declared.object.Plan.{Plan}
use Rattle.tk_steps.specs.Paths.{script_path, start_path}
use Rattle.tk_steps.specs.declared.held.HeldPod.{HeldPod}
use Rattle.tk_steps.specs.May.{May}
use Rattle.tk_steps.specs.Moves.{Moves}
use Rattle.tk_steps.proofs.Adds.{adds_keep}
use Rattle.tk_steps.specs.Ready.{was_cleared, last_put, AreScriptsPut, AreSpacesMade, IsReady, space_file}
use Rattle.tk_steps.specs.Scripts.{KeepsPuts, PutsScript, PutsSpace}

-- what was made anew still was
cleared_more : (folder : List ℕ) (e : Event) (h : List Event) → was_cleared folder h ≡ true → was_cleared folder (e ∷ h) ≡ true
cleared_more folder (events.Cleared other true) h is = or_right (bytes_eq folder other) (was_cleared folder h) is
cleared_more folder (events.Cleared other false) h is = is
cleared_more folder (events.Put path bytes answered) h is = is
cleared_more folder (events.Fetched path bytes) h is = is
cleared_more folder (events.Armed child arming) h is = is
cleared_more folder (events.Started child order) h is = is
cleared_more folder (events.Refused child) h is = is
cleared_more folder (events.Exited child exit) h is = is

pub cleared_stays : (root : List ℕ) (folder : List ℕ) (old new : HeldPod) (told now : List Event) → Moves root old new told now → was_cleared folder told ≡ true → was_cleared folder now ≡ true
cleared_stays root folder old new told now moves is = adds_keep (May root old.name old.plan) (λ h. was_cleared folder h ≡ true) (λ e h may. cleared_more folder e h) told now moves.adds is

-- a put takes no other away
pub was_more : (path other bytes : List ℕ) (answered : Bool) (h : List Event) → was_put path h ≡ true → was_put path (events.Put other bytes answered ∷ h) ≡ true
was_more path other bytes true h is = elim (cases_Bool (bytes_eq path other)) [
  | inl hit ↦ rw hit refl
  | inr miss ↦ rw miss is
]
was_more path other bytes false h is = is

same_bytes : (path : List ℕ) → bytes_eq path path ≡ true
same_bytes path = (bytes_eq-Decides path path).1 refl

pub cleared_now : (folder : List ℕ) (h : List Event) → was_cleared folder (events.Cleared folder true ∷ h) ≡ true
cleared_now folder h = rw (same_bytes folder) refl

pub was_now : (path bytes : List ℕ) (h : List Event) → was_put path (events.Put path bytes true ∷ h) ≡ true
was_now path bytes h = rw (same_bytes path) refl

-- two names in one folder
below_apart : (folder a b : List ℕ) → below folder a ≡ below folder b → a ≡ b
below_apart folder a b same = append_cancel_left (folder ++ codes "/") a b same

-- scripts of two steps stand apart
script_apart : (root name : List ℕ) (i j : ℕ) → i < 2 ^ 64 → j < 2 ^ 64 → script_path root name i ≡ script_path root name j → i ≡ j
script_apart root name i j less_i less_j same = decimal_injective i j less_i less_j (below_apart (below (pod_folder root name) (codes "scripts")) (decimal i) (decimal j) same)

-- one script more is put
module _ (root name : List ℕ) (plan : Plan) (few : length plan.scripts ≤ 32) (place : ℕ) (told now : List Event) (puts : PutsScript root name plan place told now) (within : place < length plan.scripts) where
  small : (i : ℕ) (text : List ℕ) → slice_get plan.scripts i ≡ Some text → i < 2 ^ 64
  small i text at = let less = slice_get_within plan.scripts i text at in omega (arith, less, few)

  abbrev this : List ℕ
  this = get_or plan.scripts place []

  this_at : slice_get plan.scripts place ≡ Some this
  this_at = slice_get-get_or plan.scripts place [] within

  -- the script that was put now
  put_here : (text : List ℕ) → slice_get plan.scripts place ≡ Some text → (text ≡ []) ⊎ (last_put (script_path root name place) now ≡ Some text)
  put_here text at = elim (puts text at) [
    | inl none ↦ inl none.0
    | inr done ↦
        let stands : last_put (script_path root name place) (events.Put (script_path root name place) text true ∷ told) ≡ Some text = rw (same_bytes (script_path root name place)) refl in
        inr (ap (last_put (script_path root name place)) done ∙ stands)
  ]

  -- another that was put before
  kept_there : (i : ℕ) (text : List ℕ) → i < place → slice_get plan.scripts i ≡ Some text → last_put (script_path root name i) told ≡ Some text → last_put (script_path root name i) now ≡ Some text
  kept_there i text less at put = elim (puts this this_at) [
    | inl none ↦ ap (last_put (script_path root name i)) none.1 ∙ put
    | inr done ↦ elim (cases_Bool (bytes_eq (script_path root name i) (script_path root name place))) [
      | inl hit ↦
          let same : i ≡ place = script_apart root name i place (small i text at) (small place this this_at) ((bytes_eq-Decides (script_path root name i) (script_path root name place)).0 hit) in
          absurd (omega (arith, less, same))
      | inr miss ↦
          let stands : last_put (script_path root name i) (events.Put (script_path root name place) this true ∷ told) ≡ Some text = rw miss put in
          ap (last_put (script_path root name i)) done ∙ stands
    ]
  ]

  pub scripts_then : ((i : ℕ) (text : List ℕ) → i < place → slice_get plan.scripts i ≡ Some text → (text ≡ []) ⊎ (last_put (script_path root name i) told ≡ Some text))
      → (i : ℕ) (text : List ℕ) → i < place + 1 → slice_get plan.scripts i ≡ Some text → (text ≡ []) ⊎ (last_put (script_path root name i) now ≡ Some text)
  scripts_then before i text less at = elim (cases_lt i place) [
    | inl sooner ↦ elim (before i text sooner at) [
      | inl empty ↦ inl empty
      | inr put ↦ inr (kept_there i text sooner at put)
    ]
    | inr later ↦
        let same : i ≡ place = omega (arith, less, later) in
        let here = put_here text (subst (λ (n : ℕ). slice_get plan.scripts n ≡ Some text) same at) in
        subst (λ (n : ℕ). (text ≡ []) ⊎ (last_put (script_path root name n) now ≡ Some text)) (sym same) here
  ]

  pub puts_kept : KeepsPuts told now
  puts_kept path was = elim (puts this this_at) [
    | inl none ↦ ap (was_put path) none.1 ∙ was
    | inr done ↦ ap (was_put path) done ∙ was_more path (script_path root name place) this true told was
  ]

-- one folder more is made
module _ (root name : List ℕ) (plan : Plan) (place : ℕ) (told now : List Event) (puts : PutsSpace root name plan place told now) (within : place < length plan.folders) where
  abbrev space : List ℕ
  space = get_or plan.folders place []

  space_at : slice_get plan.folders place ≡ Some space
  space_at = slice_get-get_or plan.folders place [] within

  pub spaces_then : ((i : ℕ) (folder : List ℕ) → i < place → slice_get plan.folders i ≡ Some folder → was_put (space_file root name folder) told ≡ true)
      → (i : ℕ) (folder : List ℕ) → i < place + 1 → slice_get plan.folders i ≡ Some folder → was_put (space_file root name folder) now ≡ true
  spaces_then before i folder less at = elim (cases_lt i place) [
    | inl sooner ↦ ap (was_put (space_file root name folder)) (puts space space_at) ∙ was_more (space_file root name folder) (space_file root name space) [] true told (before i folder sooner at)
    | inr later ↦
        let same : i ≡ place = omega (arith, less, later) in
        let here : slice_get plan.folders place ≡ Some folder = subst (λ (n : ℕ). slice_get plan.folders n ≡ Some folder) same at in
        ap (was_put (space_file root name folder)) (puts folder here) ∙ was_now (space_file root name folder) [] told
  ]

-- the files that were put last leave the folder ready
pub ready_made : {T E : Type 0} (root name : List ℕ) (plan : Plan) (told now : List Event) (result : Result T E) → was_cleared (pod_folder root name) now ≡ true → AreSpacesMade root name plan told → was_put (start_path root name) told ≡ true
    → OnOk result (AreScriptsPut root name plan now) → OnOk result (KeepsPuts told now) → OnOk result (IsReady root name plan now)
ready_made root name plan told now (Ok done) cleared spaces start scripts puts = record {
  cleared = cleared;
  spaces = λ place folder at. puts (space_file root name folder) (spaces place folder at);
  start = puts (start_path root name) start;
  scripts = scripts;
}
ready_made root name plan told now (Err miss) cleared spaces start scripts puts = tt

-- single calls

pub cleared_by : (folder x : List ℕ) (told now : List Event) → x ≡ folder → now ≡ events.Cleared x true ∷ told → was_cleared folder now ≡ true
cleared_by folder x told now is done = ap (was_cleared folder) done ∙ ap (λ (y : List ℕ). was_cleared folder (events.Cleared y true ∷ told)) is ∙ cleared_now folder told

pub put_by : (path x bytes : List ℕ) (told now : List Event) → x ≡ path → now ≡ events.Put x bytes true ∷ told → was_put path now ≡ true
put_by path x bytes told now is done = ap (was_put path) done ∙ ap (λ (y : List ℕ). was_put path (events.Put y bytes true ∷ told)) is ∙ was_now path bytes told

pub spaces_stay : (root name : List ℕ) (plan : Plan) (x bytes : List ℕ) (told now : List Event) → now ≡ events.Put x bytes true ∷ told → AreSpacesMade root name plan told → AreSpacesMade root name plan now
spaces_stay root name plan x bytes told now done made place folder at = ap (was_put (space_file root name folder)) done ∙ was_more (space_file root name folder) x bytes true told (made place folder at)
