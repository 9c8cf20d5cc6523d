-- What fetches of a pod's results come to.
use Rattle.std.proofs.Common.{◌≡◌, ◌≢◌, ℕ, suc, ◌<◌, ◌+◌, List, [], ◌∷◌, ◌++◌, length, get_or, take, Option, Some, None, Bool, true, false, Ok, Err, refl, sym, ◌∙◌, ap, subst, inl, inr, arith, codes, bytes_eq, Contains, All, AllPairs}
use Rattle.std.specs.Prelude.{Result, IfOk}
use Rattle.std.specs.List.{AllZip}
use Rattle.std.proofs.lemmas.Bool.{cases_Bool}
use Rattle.std.proofs.lemmas.List.{append_cancel_left, get_or_default, get_or-take, length-take-le, take_more}
use Rattle.std.proofs.lemmas.Slice.Eq.{bytes_eq-Decides}
use Rattle.tk_types.specs.declared.value.ResultSpec.{ResultSpec}
use Rattle.tk_edge.specs.declared.event.Event.{Event}
use Rattle.tk_edge.specs.declared.event.Event.TheVariants as events
use Rattle.tk_edge.specs.declared.miss.Miss.{Miss}
use Rattle.tk_edge.specs.declared.miss.Miss.TheVariants as misses
use Rattle.tk_edge.specs.Calls.{TellsFetch}
use Rattle.tk_edge.specs.Files.{Files, WhereTold, IsIn}
use Rattle.tk_edge.specs.History.{fetched}
use Rattle.tk_results.specs.declared.files.Fetched.{Fetched}
use Rattle.tk_space.specs.Space.{below, pod_folder}
use Rattle.tk_journal.specs.declared.object.Plan.{Plan}
use Rattle.tk_steps.specs.declared.held.HeldPod.{HeldPod}
use Rattle.tk_steps.specs.Held.{HoldsPod}
use Rattle.tk_steps.specs.May.{May}
use Rattle.tk_steps.specs.Moves.{Moves, count_actions}
use Rattle.tk_steps.specs.Paths.{result_path}
use Rattle.tk_steps.specs.Ready.{ReadyIsSo}
use Rattle.tk_steps.proofs.Adds.{adds_one}
use Rattle.tk_steps.proofs.Holds.{holds_file}
use Rattle.tk_steps.proofs.Moved.{moves_none}
use Rattle.tk_outcome.specs.Fetches.{FetchesOne, with_failed}
use Rattle.tk_outcome.specs.Walked.{once_each, IsFetched, AreFetched}
use Rattle.tk_outcome.proofs.Firsts.{Differ, once_differ, once_within}

-- one call

fetch_tells : (root : List ℕ) (pod : HeldPod) (spec : ResultSpec) (path : List ℕ) (bytes : Option (List ℕ)) (told now : List Event) → Contains pod.plan.results spec → path ≡ result_path root pod.name spec.name
    → HoldsPod told pod → now ≡ events.Fetched path bytes ∷ told → Moves root pod pod told now
fetch_tells root pod spec path bytes told now declared at holds is = record {
  same_name = refl;
  same_plan = refl;
  holds = subst (λ (h : List Event). HoldsPod h pod) (sym is) (holds_file told pod (events.Fetched path bytes) refl holds);
  adds = adds_one (May root pod.name pod.plan) (events.Fetched path bytes) told now is (spec, declared, at);
}

pub fetch_moves : (root : List ℕ) (pod : HeldPod) (spec : ResultSpec) (path : List ℕ) (told now : List Event) (result : Result (Option (List ℕ)) Miss) → Contains pod.plan.results spec → path ≡ result_path root pod.name spec.name
    → HoldsPod told pod → TellsFetch path told now result → Moves root pod pod told now
fetch_moves root pod spec path told now (Ok bytes) declared at holds is = fetch_tells root pod spec path bytes told now declared at holds is
fetch_moves root pod spec path told now (Err miss) declared at holds is = moves_none root pod told now holds is

-- the answer of an earlier call

still_fetched : (path other : List ℕ) (bytes : Option (List ℕ)) (told : List Event) → path ≢ other → fetched path (events.Fetched other bytes ∷ told) ≡ fetched path told
still_fetched path other bytes told differ = elim (cases_Bool (bytes_eq path other)) [
  | inl hit ↦ absurd (differ ((bytes_eq-Decides path other).0 hit))
  | inr miss ↦ rw miss refl
]

-- results of two names stand apart
result_apart : (root name a b : List ℕ) → result_path root name a ≡ result_path root name b → a ≡ b
result_apart root name a b same = append_cancel_left (below (pod_folder root name) (codes "results") ++ codes "/") a b same

-- what was fetched of another result stays
fetched_later : (root name : List ℕ) (spec other : ResultSpec) (told now : List Event) (files : Option Files) (file last : Fetched) → Differ spec other → FetchesOne root name other told now last
    → IsFetched root name told files spec file → IsFetched root name now files spec file
fetched_later root name spec other told now files file last differ is old = record {
  named = old.named;
  answered =
      ap (fetched (result_path root name spec.name)) is
      ∙ (still_fetched (result_path root name spec.name) (result_path root name other.name) last.bytes told (λ same. differ (result_apart root name spec.name other.name same)) ∙ old.answered);
  first_bytes = old.first_bytes;
}

-- one more
module _ (root name : List ℕ) (told now : List Event) (files : Option Files) (spec : ResultSpec) (file : Fetched) (is : FetchesOne root name spec told now file) (new : IsFetched root name now files spec file) where
  are_more : (front : List ResultSpec) (found : List Fetched) → All (λ s. Differ s spec) front → AreFetched root name told files front found → AreFetched root name now files (front ++ spec ∷ []) (found ++ file ∷ [])
  are_more [] [] differ are = (new, tt)
  are_more [] (f ∷ found) differ are = absurd are
  are_more (s ∷ front) [] differ are = absurd are
  are_more (s ∷ front) (f ∷ found) differ are = (
    fetched_later root name s spec told now files f file (differ 0 s (omega arith)) is are.0,
    are_more front found (λ k d less. differ (suc k) d (omega (arith, less))) are.1,
  )

  pub fetched_more : (specs : List ResultSpec) (place : ℕ) (found : List Fetched) → AllPairs Differ specs → place < length specs → spec ≡ get_or specs place spec
      → AreFetched root name told files (take place specs) found → AreFetched root name now files (take (place + 1) specs) (found ++ file ∷ [])
  fetched_more specs place found differ less at are =
      let more : take (place + 1) specs ≡ take place specs ++ spec ∷ [] = take_more specs place spec less ∙ ap (λ (s : ResultSpec). take place specs ++ s ∷ []) (sym at) in
      subst (λ ss. AreFetched root name now files ss (found ++ file ∷ [])) (sym more) (are_more (take place specs) found before are)
    where
      before : All (λ s. Differ s spec) (take place specs)
      before k d below =
          let few : length (take place specs) ≡ place = length-take-le place specs (omega (arith, less)) in
          let sooner : k < place = omega (arith, below, few) in
          let here : get_or (take place specs) k d ≡ get_or specs k d = get_or-take place specs k d sooner in
          let there : get_or specs place d ≡ spec = get_or_default specs place d spec less ∙ sym at in
          λ same. differ k place d sooner less (ap (λ (s : ResultSpec). s.name) (sym here) ∙ (same ∙ ap (λ (s : ResultSpec). s.name) (sym there)))

-- where files are the same
pub same_files : (root name : List ℕ) (told : List Event) (old new : Option Files) (specs : List ResultSpec) (found : List Fetched) → new ≡ old → AreFetched root name told old specs found → AreFetched root name told new specs found
same_files root name told old new specs found same are = subst (λ files. AreFetched root name told files specs found) (sym same) are

-- a declared result at a place
pub declared_at : (results specs : List ResultSpec) (place : ℕ) (spec : ResultSpec) → specs ≡ once_each results → place < length specs → spec ≡ get_or specs place spec → Contains results spec
declared_at results specs place spec is less at =
    let few : place < length (once_each results) = subst (λ ss. place < length ss) is less in
    let there : spec ≡ get_or (once_each results) place spec = at ∙ ap (λ ss. get_or ss place spec) is in
    subst (Contains results) (sym there) (once_within results place spec few)

pub all_differ : (results specs : List ResultSpec) → specs ≡ once_each results → AllPairs Differ specs
all_differ results specs is = subst (AllPairs Differ) (sym is) (once_differ results)
