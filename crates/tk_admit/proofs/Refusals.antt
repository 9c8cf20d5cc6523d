-- Why a child is refused.
use Rattle.std.proofs.Common.{◌≡◌, ℕ, List, Some, None, refl, sym, subst, ap, ◌∙◌}
use Rattle.std.specs.Prelude.{Option, Result, Ok, Err, IfErr, codes, is_none}
use Rattle.std.specs.List.{list_any}
use Rattle.std.specs.Option.{option_or}
use Rattle.tk_types.specs.declared.object.OutcomesChild.{OutcomesChild}
use Rattle.tk_types.specs.declared.rejected.Rejected.{Rejected}
use Rattle.tk_types.specs.declared.run.Child.{Child}
use Rattle.tk_types.specs.declared.run.RunSpec.{RunSpec}
use Rattle.tk_types.specs.Fault.{duplicate, unknown_task}
use Rattle.tk_types.specs.First.{Finding, refused_if}
use Rattle.tk_types.specs.Place.{Place, ◌▸◌}
use Rattle.tk_types.specs.Rejected.{IsRefusal, Reads}
use Rattle.tk_admit.specs.Command.{child_finding, is_same_child, task_place}

-- nothing behind a finding
or_none : (f : Finding) → option_or f None ≡ f
or_none None = refl
or_none (Some fault) = refl

-- what is found where the child is new
new_finding : (spec : RunSpec) (place : Place) (stood : List OutcomesChild) (child : OutcomesChild)
    → refused_if (list_any (is_same_child child) stood) (duplicate place child.task) ≡ None
    → child_finding spec place (stood, child) ≡ refused_if (is_none (task_place spec child.task)) (unknown_task (place ▸ codes "task") child.task)
new_finding spec place stood child none =
    let unknown : Finding = refused_if (is_none (task_place spec child.task)) (unknown_task (place ▸ codes "task") child.task) in
    ap (λ (f : Finding). option_or f (option_or unknown None)) none ∙ or_none unknown

pub refused_child : (spec : RunSpec) (place : Place) (stood : List OutcomesChild) (child : OutcomesChild) (task : Option ℕ) (value : Child) (result : Result Child Rejected)
    → task ≡ task_place spec child.task
    → refused_if (list_any (is_same_child child) stood) (duplicate place child.task) ≡ None
    → Reads (refused_if (is_none task) (unknown_task (place ▸ codes "task") child.task)) value result
    → IfErr result (IsRefusal (child_finding spec place (stood, child)))
refused_child spec place stood child task value (Ok c) same none reads = tt
refused_child spec place stood child task value (Err e) same none reads =
    subst (λ (f : Finding). IsRefusal f e) (sym (new_finding spec place stood child none))
    (subst (λ (t : Option ℕ). IsRefusal (refused_if (is_none t) (unknown_task (place ▸ codes "task") child.task)) e) same reads)
