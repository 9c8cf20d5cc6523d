-- The label of a task with children.
use Rattle.std.specs.Prelude.{false, ◌&&◌, if◌then◌else◌, List, Option, is_none}
use Rattle.std.specs.List.{list_any}
use Rattle.std.specs.Option.{option_map_or}
use Rattle.tk_types.specs.declared.value.Param.{Param}
use Rattle.tk_types.specs.declared.run.Child.{Child}
use Rattle.tk_types.specs.declared.verdict.SkipReason.{SkipReason}
use Rattle.tk_types.specs.declared.verdict.Verdict.{Verdict}
use Rattle.tk_types.specs.declared.verdict.Verdict.TheVariants.{Ran, Runs, Wrong}
use Rattle.tk_verdict.specs.Facts.{is_running}
use Rattle.tk_verdict.specs.Labels.{has_exact_children}

-- what a task's children say, where there are any
abbrev pub label_with : List Child → Option (List (List Param)) → Option SkipReason → Verdict
label_with children combinations row =
    if list_any is_running children then Runs else (if is_none row && option_map_or (has_exact_children children) combinations false then Ran else Wrong)
