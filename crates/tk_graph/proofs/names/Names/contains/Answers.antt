use Rattle.std.proofs.Common.{◌∙◌, ap, not, eqb, length, bytes_eq}
use Rattle.tk_types.specs.declared.task.PipelineTask.{PipelineTask}
use Rattle.tk_graph.proofs.Ascending.{is_some_place}
use Rattle.tk_graph.proofs.names.Names.contains.Goals as goal

pub returns : goal.returns
returns c =
    ap not (c.is_empty.ensures ∙ ap (λ places. eqb (length places) 0) c.places.ensures)
    ∙ is_some_place (λ (task : PipelineTask). bytes_eq c.args.name.now task.name) c.args.self.now
