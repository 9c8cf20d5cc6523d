use Rattle.std.proofs.Common.{◌≡◌, drop}
use Rattle.std.specs.List.{list_any}
use Rattle.tk_types.specs.declared.task.TaskBody.{TaskBody}
use Rattle.tk_resolve.specs.Spaces.{has_unbound}
use Rattle.tk_resolve.proofs.run_reason.lacks_workspace.Given as goal

-- the bodies that are left decide
abbrev pub invariant-loop-body : goal.invariant-loop-body
invariant-loop-body l = list_any (λ (body : TaskBody). has_unbound body.bound body.spec.spaces) (drop l.body-index l.bodies) ≡ list_any (λ (body : TaskBody). has_unbound body.bound body.spec.spaces) l.bodies
