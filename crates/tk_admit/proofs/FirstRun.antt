-- The first of the runs that were taken in.
use Rattle.std.proofs.Common.{◌≡◌, List, [], ◌∷◌, map, Some, subst, ap, ◌∙◌}
use Rattle.std.specs.Prelude.{All, filter_map, slice_get}
use Rattle.std.proofs.lemmas.List.Elements.{All-cons, All-head, All-nil, All-tail}
use Rattle.std.proofs.lemmas.Option.{none-some, same_Some}
use Rattle.tk_types.specs.declared.run.RunSpec.{RunSpec}
use Rattle.tk_journal.specs.declared.act.Admission.{Admission}
use Rattle.tk_journal.specs.declared.act.Admission.TheVariants.{Run, Task}
use Rattle.tk_verdict.proofs.AvailableFacts.{filter_map-map}
use Rattle.tk_admit.specs.Command.{as_run, runs_of}
use Rattle.tk_admit.specs.Sound.{IsSound, IsSoundRun, IsTaken}
use Rattle.tk_admit.specs.declared.taken.Taken.{Taken}

-- of what was admitted
first_of_specs : (specs : List Admission) (spec : RunSpec) → All IsSound specs → slice_get (filter_map as_run specs) 0 ≡ Some spec → IsSoundRun spec
first_of_specs [] spec all is = absurd (none-some spec is)
first_of_specs (Run s ∷ specs) spec all is = subst IsSoundRun (same_Some s spec is) (All-head IsSound (Run s) specs all)
first_of_specs (Task s ∷ specs) spec all is = first_of_specs specs spec (All-tail IsSound (Task s) specs all) is

specs_sound : (runs : List Taken) → All IsTaken runs → All IsSound (map (λ (r : Taken). r.spec) runs)
specs_sound [] all = All-nil IsSound
specs_sound (run ∷ runs) all = All-cons IsSound run.spec (map (λ (r : Taken). r.spec) runs) (All-head IsTaken run runs all).sound (specs_sound runs (All-tail IsTaken run runs all))

-- the first PipelineRun is sound
pub first_sound : (runs : List Taken) (spec : RunSpec) → All IsTaken runs → slice_get (runs_of runs) 0 ≡ Some spec → IsSoundRun spec
first_sound runs spec all is =
    first_of_specs (map (λ (r : Taken). r.spec) runs) spec (specs_sound runs all)
    (ap (λ (found : List RunSpec). slice_get found 0) (filter_map-map as_run (λ (r : Taken). r.spec) runs) ∙ is)
