-- What a kubelet tries is the first entry that it may try by the machine.
use Rattle.std.proofs.Common.{◌≡◌, ◌≢◌, ℕ, zero, suc, ◌<◌, ◌≤◌, List, [], ◌∷◌, length, Option, Some, None, is_some, Bool, true, false, ◌||◌, refl, sym, ◌∙◌, ap, subst, inl, inr, arith, nat_eq, slice_get, map, codes, eq-or-lt_of_le, Contains}
use Rattle.std.specs.Prelude.{◌⊎◌, bytes_eq, find, nat_lt, is_none, take, option_map, unwrap_or}
use Rattle.std.specs.List.{AllZip, position_or_len}
use Rattle.std.specs.Map.{lookup}
use Rattle.std.proofs.lemmas.Bool.{cases_Bool, eq-eqb, lt-ltb, eqb-true}
use Rattle.std.proofs.lemmas.List.Folds.{find_at}
use Rattle.std.proofs.lemmas.Option.{same_Some}
use Rattle.std.proofs.lemmas.Slice.Eq.{bytes_eq-Decides}
use Rattle.tk_pod.specs.Walk.{broken_from, or_well, walked}
use Rattle.tk_pod.specs.declared.walk.Walked.{Walked}
use Rattle.tk_pod.specs.declared.walk.Walked.TheVariants.{Well, Broke}
use Rattle.tk_types.specs.declared.run.Outcome.{Outcome}
use Rattle.tk_types.specs.declared.run.Outcome.TheVariants as outcomes
use Rattle.tk_types.specs.declared.value.Param.{Param}
use Rattle.tk_types.specs.declared.value.ResultSpec.{ResultSpec}
use Rattle.tk_edge.specs.declared.event.Event.{Event}
use Rattle.tk_edge.specs.History.{IsTold}
use Rattle.tk_results.specs.declared.files.Fetched.{Fetched}
use Rattle.tk_journal.specs.declared.act.Act.{Act}
use Rattle.tk_journal.specs.declared.act.Act.TheVariants as acts
use Rattle.tk_journal.specs.declared.entry.Actor.{Actor}
use Rattle.tk_journal.specs.declared.entry.Actor.TheVariants as actors
use Rattle.tk_journal.specs.declared.entry.Entry.{Entry}
use Rattle.tk_journal.specs.declared.entry.Fronts.{Fronts}
use Rattle.tk_journal.specs.declared.object.Claim.{Claim}
use Rattle.tk_journal.specs.declared.object.Plan.{Plan}
use Rattle.tk_journal.specs.declared.object.PodState.{PodState}
use Rattle.tk_journal.specs.Choice.{place_of, order_of as place_in_order, IsBefore}
use Rattle.tk_journal.specs.Grows.{PodGrows}
use Rattle.tk_journal.specs.History.{View, view_at, past, pod_of}
use Rattle.tk_journal.specs.Legal.{IsLegal}
use Rattle.tk_journal.specs.Lists.{Has}
use Rattle.tk_journal.specs.PodRows.{AreExits, ClaimRow, EndRow, IsWell, IsBroke, walk_of}
use Rattle.tk_journal.proofs.Claimed.{grows_past}
use Rattle.tk_journal.proofs.Search.{pod_named}
use Rattle.tk_script.specs.ScriptHost.{Scripts, has_begun, results_for, script_files}
use Rattle.tk_space.specs.Apart.{IsName}
use Rattle.tk_steps.specs.declared.held.HeldPod.{HeldPod}
use Rattle.tk_steps.specs.Paths.{result_path}
use Rattle.tk_held.specs.declared.judging.Settled.{Settled}
use Rattle.tk_held.specs.Conditions.{AreMet, IsHeld, pods_of}
use Rattle.tk_held.specs.Settled.{settled_in}
use Rattle.tk_held.proofs.Again.{own_claimed}
use Rattle.tk_outcome.specs.Exits.{broke_with, exits_of, is_walked, walked_of}
use Rattle.tk_outcome.specs.Laws.{IsHeldInOrder}
use Rattle.tk_outcome.specs.Walked.{EndsWalked, HasResults, IsFetched, gathering, once_each}
use Rattle.tk_outcome.proofs.Ended.{ends_fit}
use Rattle.tk_outcome.proofs.Walks.{are_exits}
use Rattle.tk_kubelet.specs.Choice.{claimed_before, ends_claim, ends_held, ends_of_held, ends_pod, first_end, first_claim, has_room, held_named, is_unclaimed}
use Rattle.tk_kubelet.specs.Ends.{EndsSo, EndsUnsettled, IsLost}
use Rattle.tk_kubelet.proofs.Chosen.{has_name, sees_lost, sees_own, SeesOwn}
use Rattle.tk_kubelet.proofs.Found.{find_none, find_true}
use Rattle.tk_kubelet.proofs.Justified.{no_claim_is_left}
use Rattle.tk_kubelet.proofs.Rows.{claim_row, ends_cause, lost_row}
use Rattle.tk_machine.specs.Hosts.{Script, EndsHeld, HasNone, IsFirst, MayEnd, MayTry, WalksSo, exits_in, EndsSo as EndsByScript}
use Rattle.tk_play.specs.Scripts.{script_of, scripted_file, scripted_results}
use Rattle.tk_play.specs.Own.{AreOwn}
use Rattle.tk_play.proofs.Exits.{exits_are_told, first_ran}
use Rattle.tk_play.proofs.Results.{is_scripted, order_begun}

-- the first that passes a test comes before all that pass it

differs : (p : List ℕ → Bool) (x y : List ℕ) → p x ≡ true → p y ≡ false → bytes_eq x y ≡ false
differs p x y hit miss = elim (cases_Bool (bytes_eq x y)) [
  | inl same ↦ (let bad : true ≡ false = sym hit ∙ (ap p ((bytes_eq-Decides x y).0 same) ∙ miss) in cc (bad))
  | inr other ↦ other
]

first_place : (p : List ℕ → Bool) (names : List (List ℕ)) (x y : List ℕ) → find p names ≡ Some x → p y ≡ true → place_of x names ≤ place_of y names
first_place p [] x y is hit = cc (is)
first_place p (name ∷ names) x y is hit = elim (cases_Bool (p name)) [
  | inl first ↦
      let now : Some name ≡ Some x = rw first at is in
      let here : bytes_eq x name ≡ true = (bytes_eq-Decides x name).1 (sym (same_Some name x now)) in
      rw here (omega arith)
  | inr miss ↦
      let later : find p names ≡ Some x = rw miss at is in
      let rest = first_place p names x y later hit in
      let one = differs p x name (find_true p names x later) miss in
      let other = differs p y name hit miss in
      rw (one, other) (omega (arith, rest))
]

before_two : (kind a b : ℕ) → a ≤ b → IsBefore (kind ∷ a ∷ []) (kind ∷ b ∷ [])
before_two kind a b le = elim (eq-or-lt_of_le le) [ inl same ↦ inr (refl, inr (same, tt)) | inr less ↦ inr (refl, inl less) ]

none_missed : (p : HeldPod → Bool) (held : List HeldPod) (place : ℕ) (pod : HeldPod) → slice_get held place ≡ Some pod → p pod ≡ true → find p held ≡ None → ⊥
none_missed p [] place pod at hit none = cc
none_missed p (first ∷ held) zero pod at hit none =
    let here : p first ≡ true = ap p (same_Some first pod at) ∙ hit in
    let bad : Some first ≡ None = rw here at none in
    cc (bad)
none_missed p (first ∷ held) (suc place) pod at hit none = elim (cases_Bool (p first)) [
  | inl here ↦ (let bad : Some first ≡ None = rw here at none in cc (bad))
  | inr miss ↦ none_missed p held place pod at hit (rw miss at none)
]

or_true : (b : Bool) → (b || true) ≡ true
or_true true = refl
or_true false = refl

claim_ends : (number life : ℕ) (ends : Bool) → ends ≡ true → ends_claim number life ends (Some record { number = number; life = life }) ≡ true
claim_ends number life ends is =
    let numbers : nat_eq number number ≡ true = eq-eqb number number refl in
    let lives : nat_eq life life ≡ true = eq-eqb life life refl in
    rw (numbers, lives, is) (or_true (nat_lt life life))

lost_ends : (number life earlier : ℕ) (ends : Bool) → earlier < life → ends_claim number life ends (Some record { number = number; life = earlier }) ≡ true
lost_ends number life earlier ends less =
    let numbers : nat_eq number number ≡ true = eq-eqb number number refl in
    let lives : nat_lt earlier life ≡ true = lt-ltb earlier life less in
    rw (numbers, lives) refl

-- the step at which a walk broke
broke_at : (o : Option Walked) (exit : ℕ) → broke_with o ≡ Some exit → (step : ℕ) × (o ≡ Some (Broke step exit))
broke_at (Some Well) exit is = cc (is)
broke_at (Some (Broke step other)) exit is = (step, ap (λ (e : ℕ). Some (Broke step e)) (same_Some other exit is))
broke_at None exit is = cc (is)

-- what was fetched are the scripted files
module _ (scripts : Scripts) (name : List ℕ) (plain : IsName name) (no_claims : name ≢ codes "claims") (told : List Event) (own : AreOwn scripts.root told) (begun : has_begun name told ≡ true) where
  file_is : (is_told : IsTold told) (spec : ResultSpec) (file : Fetched) → IsFetched scripts.root name told (Some (script_files scripts told)) spec file → file ≡ scripted_file scripts name spec
  file_is is_told spec file fetched =
      let path = result_path scripts.root name spec.name in
      let bytes : file.bytes ≡ option_map (take 4097) (lookup (bytes_eq path) (results_for scripts name)) = fetched.first_bytes ∙ ap (option_map (take 4097)) (is_scripted scripts name plain no_claims spec.name told own is_told begun) in
      ap (λ (n : List ℕ). record { name = n; bytes = file.bytes }) fetched.named ∙ ap (λ (b : Option (List ℕ)). record { name = spec.name; bytes = b }) bytes

  files_are : (is_told : IsTold told) (specs : List ResultSpec) (found : List Fetched) → AllZip (IsFetched scripts.root name told (Some (script_files scripts told))) specs found → found ≡ map (scripted_file scripts name) specs
  files_are is_told [] [] all = refl
  files_are is_told [] (file ∷ found) all = absurd all
  files_are is_told (spec ∷ specs) [] all = absurd all
  files_are is_told (spec ∷ specs) (file ∷ found) all =
      ap (λ (f : Fetched). f ∷ found) (file_is is_told spec file all.0) ∙ ap (λ (rest : List Fetched). scripted_file scripts name spec ∷ rest) (files_are is_told specs found all.1)

module _ (scripts : Scripts) (number life : ℕ) (history : List Entry) (fronts : Fronts) (moment : ℕ) (killed : ℕ → Bool) (told : List Event) (ready : List HeldPod) (legal : IsLegal history) (met : AreMet number life scripts.root ready history killed told) where
  abbrev view : View
  view = view_at fronts history

  abbrev me : Claim
  me = record { number = number; life = life }

  abbrev script : Script
  script = script_of scripts

  abbrev ends : List ℕ → Bool
  ends = ends_pod number life view moment ready

  -- what is seen of a pod stands in the journal, where it may have gone on

  seen_grows : (name : List ℕ) (state : PodState) → view.pod name ≡ Some state → Has (pod_of history name) (PodGrows state)
  seen_grows name state is = (grows_past fronts.pods history legal).pods name state is

  -- a held pod, as it is found by its name

  pub record HeldAs (name : List ℕ) : Type 0 where
    pub place : ℕ
    pub pod : HeldPod
    pub at : slice_get ready place ≡ Some pod
    pub named : pod.name ≡ name
    pub found : held_named ready name ≡ Some pod

  held_as : (name : List ℕ) → IsHeld ready name → HeldAs name
  held_as name held = by_found (held_named ready name) refl
    where
      by_found : (o : Option HeldPod) → held_named ready name ≡ o → HeldAs name
      by_found (Some pod) is = record { place = position_or_len (λ (p : HeldPod). bytes_eq p.name name) ready; pod = pod; at = sym (find_at (λ (p : HeldPod). bytes_eq p.name name) ready) ∙ is; named = has_name ready name pod is; found = is }
      by_found None none = absurd (none_missed (λ (p : HeldPod). bytes_eq p.name name) ready held.place held.pod held.at ((bytes_eq-Decides held.pod.name name).1 held.named) none)

  pub in_order : (place : ℕ) (pod : HeldPod) → slice_get ready place ≡ Some pod → IsHeldInOrder scripts.root killed (pods_of number history) told pod
  in_order place pod at =
      let own = own_claimed number life pod history (met.claimed.mine place pod at) in
      let keeps = met.keeps place pod at in
      record { claimed = own.it; is_claimed = own.is; same_keep = own.has.1; within = keeps.within; holds = keeps.holds; kept = met.kept }

  -- it is seen with its plan, and as claimed in this life, if it is
  seen_plan : (place : ℕ) (pod : HeldPod) → slice_get ready place ≡ Some pod → (state : PodState) → view.pod pod.name ≡ Some state → state.plan ≡ pod.plan
  seen_plan place pod at state is =
      let mine = met.claimed.mine place pod at in
      let grown = seen_grows pod.name state is in
      let same : grown.it ≡ mine.it = same_Some grown.it mine.it (sym grown.is ∙ mine.is) in
      sym grown.has.plan ∙ (ap (λ (s : PodState). s.plan) same ∙ mine.has.plan)

  not_lost : (place : ℕ) (pod : HeldPod) → slice_get ready place ≡ Some pod → IsLost me view pod.name → ⊥
  not_lost place pod at lost =
      let mine = met.claimed.mine place pod at in
      let grown = seen_grows pod.name lost.state lost.is_seen in
      let same : grown.it ≡ mine.it = same_Some grown.it mine.it (sym grown.is ∙ mine.is) in
      let claim : Some record { number = number; life = lost.life } ≡ Some record { number = number; life = life } = sym (grown.has.claim _ lost.claimed) ∙ (ap (λ (s : PodState). s.claim) same ∙ mine.has.claimed) in
      let lives : lost.life ≡ life = ap (λ (c : Claim). c.life) (same_Some _ _ claim) in
      absurd (omega (arith, lives, lost.earlier))

  -- whatever the kubelet may end is to be ended

  walked_by : (place : ℕ) (pod : HeldPod) → slice_get ready place ≡ Some pod → (name exits : List ℕ) (state : PodState) → pod.name ≡ name → view.pod name ≡ Some state → exits ≡ exits_in name state told → (w : Walked) → walked (walk_of state.plan exits) ≡ Some w → is_walked pod ≡ true
  walked_by place pod at name exits state named is exits_told w over =
      let plan : state.plan ≡ pod.plan = seen_plan place pod at state (ap view.pod named ∙ is) in
      let same : exits ≡ exits_of pod.steps.items = exits_told ∙ (ap (λ (n : List ℕ). exits_in n state told) (sym named) ∙ exits_are_told scripts.root killed (pods_of number history) told pod (in_order place pod at) state plan) in
      let here : walked_of pod ≡ Some w = ap (λ (p : Plan). walked (walk_of p (exits_of pod.steps.items))) (sym plan) ∙ (ap (λ (es : List ℕ). walked (walk_of state.plan es)) (sym same) ∙ over) in
      ap is_some here

  over_by : (pod : HeldPod) → is_walked pod ≡ true → ends_held view moment pod ≡ true
  over_by pod over = rw over (by_failed (is_some (settled_in view moment pod.name)) pod.failed)
    where
      by_failed : (a b : Bool) → (a || (b || true)) ≡ true
      by_failed true b = refl
      by_failed false b = or_true b

  settled_by : (pod : HeldPod) (name : List ℕ) (s : Settled) → pod.name ≡ name → settled_in view moment name ≡ Some s → ends_held view moment pod ≡ true
  settled_by pod name s named is = let here : settled_in view moment pod.name ≡ Some s = ap (settled_in view moment) named ∙ is in rw here refl

  by_script : (name exits : List ℕ) (outcome : Outcome) (state : PodState) → view.pod name ≡ Some state → exits ≡ exits_in name state told → EndsByScript script view moment name state exits outcome → (outcome ≢ outcomes.Lost) → (h : HeldAs name) → ends_held view moment h.pod ≡ true
  by_script name exits outcomes.Cancelled state is exits_told so own h = settled_by h.pod name _ h.named so
  by_script name exits outcomes.TimedOut state is exits_told so own h = settled_by h.pod name _ h.named so
  by_script name exits outcomes.Lost state is exits_told so own h = absurd (own refl)
  by_script name exits (outcomes.Succeeded results) state is exits_told so own h = over_by h.pod (walked_by h.place h.pod h.at name exits state h.named is exits_told Well so.1.0)
  by_script name exits (outcomes.Failed None results) state is exits_told so own h = over_by h.pod (walked_by h.place h.pod h.at name exits state h.named is exits_told Well so.1.0)
  by_script name exits (outcomes.Failed (Some exit) results) state is exits_told so own h = over_by h.pod (walked_by h.place h.pod h.at name exits state h.named is exits_told (Broke so.1.0.0 exit) so.1.0.1)

  held_ends : (name exits : List ℕ) (outcome : Outcome) → outcome ≢ outcomes.Lost → Has (view.pod name) (EndsHeld script number life history view moment told name exits outcome) → ends name ≡ true
  held_ends name exits outcome own may =
      let e = may.has in
      let h = held_as name (met.claimed.all name e.still.it e.still.is e.still.has.claimed e.still.has.unended) in
      let over : ends_of_held view moment (held_named ready name) ≡ true = ap (ends_of_held view moment) h.found ∙ by_script name exits outcome may.it may.is e.exits_told e.ends own h in
      let claim = claim_ends number life (ends_of_held view moment (held_named ready name)) over in
      let seen = may.is in
      rw (seen, e.held.claimed, e.held.unended) claim

  lost_found : (name exits : List ℕ) → Has (view.pod name) (EndRow view (actors.Kubelet number life) moment exits outcomes.Lost) → ends name ≡ true
  lost_found name exits may = elim may.has.fits [
    | inl own ↦ absurd own.2
    | inr lost ↦
        let actor : actors.Kubelet number life ≡ actors.Kubelet may.has.number may.has.life = may.has.by in
        let numbers : number ≡ may.has.number = ap number_of actor in
        let lives : life ≡ may.has.life = ap life_of actor in
        let claimed : may.it.claim ≡ Some record { number = number; life = may.has.claimed_in } = may.has.claimed ∙ ap (λ (n : ℕ). Some record { number = n; life = may.has.claimed_in }) (sym numbers) in
        let claim = lost_ends number life may.has.claimed_in (ends_of_held view moment (held_named ready name)) (omega (arith, lives, lost.0)) in
        let seen = may.is in
        rw (seen, claimed, may.has.unended) claim
  ]
    where
      number_of : Actor → ℕ
      number_of (actors.Kubelet n l) = n
      number_of _ = 0

      life_of : Actor → ℕ
      life_of (actors.Kubelet n l) = l
      life_of _ = 0

  may_ends : (name exits : List ℕ) (outcome : Outcome) → MayEnd script number life history view moment told name exits outcome → ends name ≡ true
  may_ends name exits outcomes.Lost may = lost_found name exits may
  may_ends name exits outcomes.Cancelled may = held_ends name exits outcomes.Cancelled (λ same. cc (same)) may
  may_ends name exits outcomes.TimedOut may = held_ends name exits outcomes.TimedOut (λ same. cc (same)) may
  may_ends name exits (outcomes.Succeeded results) may = held_ends name exits (outcomes.Succeeded results) (λ same. cc (same)) may
  may_ends name exits (outcomes.Failed exit results) may = held_ends name exits (outcomes.Failed exit results) (λ same. cc (same)) may

  seen_among : (name exits : List ℕ) (outcome : Outcome) → MayEnd script number life history view moment told name exits outcome → Contains view.pods name
  seen_among name exits outcomes.Lost may = pod_named (past fronts.pods history) name may.it may.is
  seen_among name exits outcomes.Cancelled may = pod_named (past fronts.pods history) name may.it may.is
  seen_among name exits outcomes.TimedOut may = pod_named (past fronts.pods history) name may.it may.is
  seen_among name exits (outcomes.Succeeded results) may = pod_named (past fronts.pods history) name may.it may.is
  seen_among name exits (outcomes.Failed exit results) may = pod_named (past fronts.pods history) name may.it may.is

  -- so where it ends none, it may end none

  no_end : first_end number life view moment ready ≡ None → (name exits : List ℕ) (outcome : Outcome) → MayEnd script number life history view moment told name exits outcome → ⊥
  no_end none name exits outcome may =
      let missed : ends name ≡ false = find_none ends view.pods name none (seen_among name exits outcome may) in
      let bad : true ≡ false = sym (may_ends name exits outcome may) ∙ missed in
      cc (bad)

  pub has_none : first_end number life view moment ready ≡ None → first_claim number view ≡ None → HasNone script number life history view moment told
  has_none no_ends no_claims (acts.EndPod name exits outcome) may = no_end no_ends name exits outcome may
  has_none no_ends no_claims (acts.ClaimPod name) may = no_claim_is_left history fronts me moment name no_claims may
  has_none no_ends no_claims _ may = may

  -- the end of a pod is the first, where it is the first pod that is to be ended
  end_first : (name exits : List ℕ) (outcome : Outcome) → first_end number life view moment ready ≡ Some name → MayEnd script number life history view moment told name exits outcome → IsFirst script number life history view moment told (acts.EndPod name exits outcome)
  end_first name exits outcome first may = record { may = may; first = before }
    where
      before : (other : Act) → MayTry script number life history view moment told other → IsBefore (place_in_order view (acts.EndPod name exits outcome)) (place_in_order view other)
      before (acts.EndPod far found so) other = before_two 0 _ _ (first_place ends view.pods name far first (may_ends far found so other))
      before (acts.ClaimPod far) other = inl (omega arith)
      before _ other = absurd other

  -- the claim of a pod
  pub claim_first : (name : List ℕ) → first_end number life view moment ready ≡ None → first_claim number view ≡ Some name → IsFirst script number life history view moment told (acts.ClaimPod name)
  claim_first name no_ends first = record { may = claim_row number view name first life; first = before }
    where
      found : find (λ (n : List ℕ). is_unclaimed (view.pod n)) view.pods ≡ Some name
      found = elim (cases_Bool (has_room number view)) [
        | inl room ↦ rw room at first
        | inr full ↦ (let bad : None ≡ Some name = rw full at first in cc (bad))
      ]

      free : (far : List ℕ) → Has (view.pod far) (ClaimRow view (actors.Kubelet number life)) → is_unclaimed (view.pod far) ≡ true
      free far row = ap is_unclaimed row.is ∙ ap is_none row.has.unclaimed

      before : (other : Act) → MayTry script number life history view moment told other → IsBefore (place_in_order view (acts.ClaimPod name)) (place_in_order view other)
      before (acts.EndPod far exits so) other = absurd (no_end no_ends far exits so other)
      before (acts.ClaimPod far) other = before_two 1 _ _ (first_place (λ (n : List ℕ). is_unclaimed (view.pod n)) view.pods name far found (free far other))
      before _ other = absurd other

  -- the end of an earlier life's pod
  pub lost_first : (name exits : List ℕ) → first_end number life view moment ready ≡ Some name → IsLost me view name → exits ≡ [] → IsFirst script number life history view moment told (acts.EndPod name exits outcomes.Lost)
  lost_first name exits first lost none =
      subst (λ (es : List ℕ). IsFirst script number life history view moment told (acts.EndPod name es outcomes.Lost)) (sym none)
      (end_first name [] outcomes.Lost first (lost_row me view moment name lost))

  -- the pod that ends first is seen as one of this life, where it is held
  pub seen_own : (place : ℕ) (pod : HeldPod) → slice_get ready place ≡ Some pod → first_end number life view moment ready ≡ Some pod.name → SeesOwn number life view pod.name (ends_of_held view moment (held_named ready pod.name))
  seen_own place pod at first = elim (cases_Bool (claimed_before life (view.pod pod.name))) [
    | inl before ↦ absurd (not_lost place pod at (sees_lost number life moment view ready pod.name first before))
    | inr later ↦ sees_own number life moment view ready pod.name first later
  ]

  -- so it is marked, late or over
  pub ends_first : (place : ℕ) (pod : HeldPod) → slice_get ready place ≡ Some pod → first_end number life view moment ready ≡ Some pod.name → ends_held view moment pod ≡ true
  ends_first place pod at first =
      let h = held_as pod.name record { place = place; pod = pod; at = at; named = refl } in
      let places : place ≡ h.place = met.claimed.apart place h.place pod h.pod at h.at (sym h.named) in
      let same : pod ≡ h.pod = same_Some pod h.pod (sym at ∙ (ap (slice_get ready) places ∙ h.at)) in
      ap (ends_held view moment) same ∙ (ap (ends_of_held view moment) (sym h.found) ∙ (seen_own place pod at first).is_over)

  -- the end of a held pod, where no call for it failed and the results that were fetched are the scripted ones
  module _ (own : AreOwn scripts.root told) (place : ℕ) (pod : HeldPod) (at : slice_get ready place ≡ Some pod) (whole : pod.failed ≡ false) (plain : IsName pod.name) (no_claims : pod.name ≢ codes "claims") where
    order : IsHeldInOrder scripts.root killed (pods_of number history) told pod
    order = in_order place pod at

    abbrev exits : List ℕ
    exits = exits_of pod.steps.items

    begun : 0 < length exits → has_begun pod.name told ≡ true
    begun some =
        let ran = first_ran scripts.root killed (pods_of number history) told pod order some in
        subst (λ (n : List ℕ). has_begun n told ≡ true) ran.3 (order_begun told ran.0 ran.1 ran.2)

    gathers : 0 < length exits → (g : Option (List Param)) → HasResults scripts.root told (Some (script_files scripts told)) pod g → scripted_results scripts pod.name pod.plan.results ≡ g
    gathers some g has =
        let specs = once_each pod.plan.results in
        let found : has.found ≡ map (scripted_file scripts pod.name) specs = files_are scripts pod.name plain no_claims told own (begun some) met.kept.told specs has.found has.are_fetched in
        ap (gathering specs) (sym found) ∙ has.gives

    -- a walk that is over has exits
    some_exits : (w : Walked) → walked_of pod ≡ Some w → 0 < length exits
    some_exits w over = by_exits exits over
      where
        orders : 0 < length pod.plan.orders
        orders = (met.keeps place pod at).planned.some

        by_exits : (es : List ℕ) → or_well (walk_of pod.plan es) (broken_from pod.plan.keep 0 es) ≡ Some w → 0 < length es
        by_exits [] is = elim (cases_Bool (nat_eq 0 (length pod.plan.orders))) [
          | inl none ↦ absurd (omega (arith, orders, eqb-true 0 (length pod.plan.orders) none))
          | inr some ↦ (let bad : None ≡ Some w = rw some at is in cc (bad))
        ]
        by_exits (e ∷ es) is = omega arith

    module _ (state : PodState) (is : view.pod pod.name ≡ Some state) (claimed : state.claim ≡ Some record { number = number; life = life }) (unended : state.ended ≡ None) where
      plan : state.plan ≡ pod.plan
      plan = seen_plan place pod at state is

      well : walked_of pod ≡ Some Well → IsWell state.plan exits
      well over = subst (λ (p : Plan). IsWell p exits) (sym plan) over

      broke : (exit : ℕ) → broke_with (walked_of pod) ≡ Some exit → IsBroke state.plan exits exit
      broke exit over = subst (λ (p : Plan). IsBroke p exits exit) (sym plan) (broke_at (walked_of pod) exit over)

      results_of : 0 < length exits → (g : Option (List Param)) → HasResults scripts.root told (Some (script_files scripts told)) pod g → script.gathered pod.name state.plan.results ≡ g
      results_of some g has = ap (λ (p : Plan). scripted_results scripts pod.name p.results) plan ∙ gathers some g has

      -- by its walk
      walks : (outcome : Outcome) → EndsWalked scripts.root told (Some (script_files scripts told)) pod outcome → WalksSo script pod.name state exits outcome
      walks (outcomes.Succeeded results) (over, has) = (well over, results_of (some_exits Well over) (Some results) has)
      walks (outcomes.Failed None results) (over, has, none) = (well over, results_of (some_exits Well over) None has, none)
      walks (outcomes.Failed (Some exit) results) (over, has) =
          let at_step = broke_at (walked_of pod) exit over in
          let some = some_exits (Broke at_step.0 exit) at_step.1 in
          (broke exit over, given some has)
        where
          given : 0 < length exits → HasResults scripts.root told (Some (script_files scripts told)) pod (Some results) ⊎ (HasResults scripts.root told (Some (script_files scripts told)) pod None × (results ≡ [])) → results ≡ unwrap_or (script.gathered pod.name state.plan.results) []
          given some (inl found) = sym (ap (λ (g : Option (List Param)). unwrap_or g []) (results_of some (Some results) found))
          given some (inr refused) = refused.1 ∙ sym (ap (λ (g : Option (List Param)). unwrap_or g []) (results_of some None refused.0))
      walks outcomes.Cancelled so = absurd so
      walks outcomes.TimedOut so = absurd so
      walks outcomes.Lost so = absurd so

      unsettled : (outcome : Outcome) → EndsUnsettled view moment scripts.root told (Some (script_files scripts told)) pod outcome → (settled_in view moment pod.name ≡ None) × WalksSo script pod.name state exits outcome
      unsettled outcome so = elim so.ends [
        | inl failed ↦ (let bad : true ≡ false = sym failed.0 ∙ whole in cc (bad))
        | inr walked ↦ (so.not_settled, walks outcome walked.1)
      ]

      by_outcome : (outcome : Outcome) → EndsSo view moment scripts.root told (Some (script_files scripts told)) pod outcome → EndsByScript script view moment pod.name state exits outcome
      by_outcome outcomes.Cancelled so = so
      by_outcome outcomes.TimedOut so = so
      by_outcome outcomes.Lost so = absurd so
      by_outcome (outcomes.Succeeded results) so = unsettled (outcomes.Succeeded results) so
      by_outcome (outcomes.Failed exit results) so = unsettled (outcomes.Failed exit results) so

      ends_held_so : (outcome : Outcome) → EndsSo view moment scripts.root told (Some (script_files scripts told)) pod outcome → Has (view.pod pod.name) (EndsHeld script number life history view moment told pod.name exits outcome)
      ends_held_so outcome so =
          let mine = met.claimed.mine place pod at in
          let walk : AreExits state.plan exits = subst (λ (p : Plan). AreExits p exits) (sym plan) (are_exits scripts.root killed (pods_of number history) told pod order) in
          record {
            it = state;
            is = is;
            has = record {
              row = record {
                number = number;
                life = life;
                by = refl;
                claimed_in = life;
                claimed = claimed;
                unended = unended;
                fits = inl (refl, walk, ends_cause view moment scripts.root told (Some (script_files scripts told)) pod ends_fit outcome so state is plan);
              };
              held = record { claimed = claimed; unended = unended };
              still = record { it = mine.it; is = mine.is; has = record { claimed = mine.has.claimed; unended = mine.has.unended } };
              exits_told = sym (exits_are_told scripts.root killed (pods_of number history) told pod order state plan);
              ends = by_outcome outcome so;
            };
          }

      may_end : (outcome : Outcome) → EndsSo view moment scripts.root told (Some (script_files scripts told)) pod outcome → MayEnd script number life history view moment told pod.name exits outcome
      may_end outcomes.Lost so = absurd so
      may_end outcomes.Cancelled so = ends_held_so outcomes.Cancelled so
      may_end outcomes.TimedOut so = ends_held_so outcomes.TimedOut so
      may_end (outcomes.Succeeded results) so = ends_held_so (outcomes.Succeeded results) so
      may_end (outcomes.Failed exit results) so = ends_held_so (outcomes.Failed exit results) so

    pub held_first : (outcome : Outcome) → first_end number life view moment ready ≡ Some pod.name → EndsSo view moment scripts.root told (Some (script_files scripts told)) pod outcome → IsFirst script number life history view moment told (acts.EndPod pod.name exits outcome)
    held_first outcome first so =
        let seen = seen_own place pod at first in
        end_first pod.name exits outcome first (may_end seen.state seen.is_seen seen.claimed seen.unended outcome so)
