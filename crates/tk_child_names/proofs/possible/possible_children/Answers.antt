use Rattle.std.proofs.Common.{◌≡◌, ℕ, Option, IfOk, option_map, subst, sym}
use Rattle.std.proofs.lemmas.List.Elements.{All-nil}
use Rattle.tk_types.specs.declared.task.PipelineTask.{PipelineTask}
use Rattle.tk_bind.specs.Readings.{ReadsGuard, ReadsParam, ReadsPipelineTask}
use Rattle.tk_early.specs.Possible.{possible_children, told_count}
use Rattle.tk_child_names.proofs.possible.possible_children.Goals as goal

pub possible_children-requires : goal.possible_children-requires
possible_children-requires c =
    subst ReadsPipelineTask (sym c.in_ok-alone.ensures)
    (record { source = tt; params = All-nil ReadsParam; matrix = c.requires; guards = All-nil ReadsGuard })

pub returns : goal.returns
returns c =
    subst (λ (task : PipelineTask). IfOk c.possible_children.result (λ (children : Option ℕ). children ≡ option_map told_count (possible_children c.args.values.now task)))
    c.in_ok-alone.ensures c.possible_children.ensures
