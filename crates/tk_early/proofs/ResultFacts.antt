-- A text without a reference to a task refers to no result.
use Rattle.std.proofs.Common.{◌≡◌, false, List, [], ◌∷◌, None, refl}
use Rattle.std.specs.List.{list_any}
use Rattle.tk_vars.specs.declared.reference.Reference.{Reference}
use Rattle.tk_vars.specs.Target.{Target, param, result, word, target_of}
use Rattle.tk_vars.specs.Task.{names_task}
use Rattle.tk_graph.specs.Results.{referenced_result}
use Rattle.tk_graph.proofs.NoTask.{no_result, or_first, or_second}
use Rattle.tk_early.specs.Settled.{is_result, is_to_result}

pub no_result_is : (target : Target) → referenced_result target ≡ None → is_result target ≡ false
no_result_is (param name selector) none = refl
no_result_is (result task name selector) none = cc
no_result_is (word key) none = refl

pub none_to_result : (references : List Reference) → list_any names_task references ≡ false → list_any is_to_result references ≡ false
none_to_result [] none = refl
none_to_result (r ∷ rs) none =
    rw (no_result_is (target_of r.parts) (no_result r.parts (or_first (names_task r) (list_any names_task rs) none)))
    (none_to_result rs (or_second (names_task r) (list_any names_task rs) none))
