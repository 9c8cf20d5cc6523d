-- What the calls for a pod's results come to.
use Rattle.std.specs.Prelude.{◌≡◌, ℕ, Bool, List, ◌∷◌}
use Rattle.tk_types.specs.declared.value.ResultSpec.{ResultSpec}
use Rattle.tk_edge.specs.declared.event.Event.{Event}
use Rattle.tk_edge.specs.declared.event.Event.TheVariants as events
use Rattle.tk_results.specs.declared.files.Fetched.{Fetched}
use Rattle.tk_steps.specs.declared.held.HeldPod.{HeldPod}
use Rattle.tk_steps.specs.Paths.{result_path}

-- all that is told anew is the answer for the result's file
abbrev pub FetchesOne : List ℕ → List ℕ → ResultSpec → List Event → List Event → Fetched → Type 0
FetchesOne root name spec told now file = now ≡ events.Fetched (result_path root name spec.name) file.bytes ∷ told

-- the pod, marked as one for which a call failed or none did
abbrev pub with_failed : Bool → HeldPod → HeldPod
with_failed failed pod = record pod { failed = failed }
