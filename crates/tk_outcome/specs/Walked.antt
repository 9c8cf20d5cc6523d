-- How a pod ends whose walk is over: by its exits, and by the files of its declared results (Tekton, Tasks, Emitting Results).
use Rattle.std.specs.Prelude.{◌≡◌, ◌⊎◌, ℕ, Bool, not, bytes_eq, List, [], ◌∷◌, filter, Option, Some, None, unwrap_or}
use Rattle.std.specs.List.{AllZip}
use Rattle.std.specs.Result.{result_ok}
use Rattle.tk_types.specs.declared.run.Outcome.{Outcome}
use Rattle.tk_types.specs.declared.run.Outcome.TheVariants as outcomes
use Rattle.tk_types.specs.declared.value.Param.{Param}
use Rattle.tk_types.specs.declared.value.ResultSpec.{ResultSpec}
use Rattle.tk_pod.specs.declared.walk.Walked.TheVariants.{Well}
use Rattle.tk_edge.specs.declared.event.Event.{Event}
use Rattle.tk_edge.specs.Files.{Files, WhereTold, IsIn}
use Rattle.tk_edge.specs.History.{fetched}
use Rattle.tk_results.specs.declared.files.Fetched.{Fetched}
use Rattle.tk_results.specs.Gathered.{gathered}
use Rattle.tk_steps.specs.declared.held.HeldPod.{HeldPod}
use Rattle.tk_steps.specs.Paths.{result_path}
use Rattle.tk_outcome.specs.Exits.{walked_of, broken_exit}

-- the declared results, of each name the first
abbrev pub once_each : List ResultSpec → List ResultSpec
once_each [] = []
once_each (spec ∷ specs) = spec ∷ filter (λ (other : ResultSpec). not (bytes_eq spec.name other.name)) (once_each specs)

-- what `fetch` last answered for the file of a result; where files are told, these are its first 4,097 bytes
pub record IsFetched (root name : List ℕ) (told : List Event) (files : Option Files) (spec : ResultSpec) (file : Fetched) : Type 0 where
  pub named : file.name ≡ spec.name
  pub answered : fetched (result_path root name spec.name) told ≡ Some file.bytes
  pub first_bytes : WhereTold files (λ f. IsIn 4097 (f (result_path root name spec.name)) file.bytes)

-- the same of each of these results, in order
abbrev pub AreFetched : List ℕ → List ℕ → List Event → Option Files → List ResultSpec → List Fetched → Type 0
AreFetched root name told files specs found = AllZip (IsFetched root name told files) specs found

-- the results that are emitted, or None where they are refused
abbrev pub gathering : List ResultSpec → List Fetched → Option (List Param)
gathering specs found = result_ok (gathered specs found)

-- these are the pod's results by what was fetched for them; None where they are refused
pub record HasResults (root : List ℕ) (told : List Event) (files : Option Files) (pod : HeldPod) (results : Option (List Param)) : Type 0 where
  pub found : List Fetched
  pub are_fetched : AreFetched root pod.name told files (once_each pod.plan.results) found
  pub gives : gathering (once_each pod.plan.results) found ≡ results

-- the outcome of a pod by its walk and its results: where they are refused, a well walk fails without an exit, and a broken one has none
abbrev pub EndsWalked : List ℕ → List Event → Option Files → HeldPod → Outcome → Type 0
EndsWalked root told files pod (outcomes.Succeeded results) = (walked_of pod ≡ Some Well) × HasResults root told files pod (Some results)
EndsWalked root told files pod (outcomes.Failed (Some exit) results) =
    (broken_exit pod ≡ Some exit) × (HasResults root told files pod (Some results) ⊎ (HasResults root told files pod None × (results ≡ [])))
EndsWalked root told files pod (outcomes.Failed None results) = (walked_of pod ≡ Some Well) × HasResults root told files pod None × (results ≡ [])
EndsWalked root told files pod _ = ⊥

-- the outcome of a walk that is over, by the exit with which it broke and its results
abbrev pub outcome_of : Option ℕ → Option (List Param) → Outcome
outcome_of None (Some results) = outcomes.Succeeded results
outcome_of exit results = outcomes.Failed exit (unwrap_or results [])
