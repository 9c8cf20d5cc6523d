use Rattle.std.proofs.Common.{◌≡◌, ◌++◌, IfOk, List, Option, Some, None, map, subst, ap, sym, ◌∙◌}
use Rattle.tk_types.specs.declared.task.PipelineTask.{PipelineTask}
use Rattle.tk_types.specs.declared.task.TaskBody.{TaskBody}
use Rattle.tk_types.specs.Lists.{all_some}
use Rattle.tk_resolve.specs.Run.{all_tasks, body_of}
use Rattle.tk_resolve.proofs.Gathered.{joined, made_of_both}
use Rattle.tk_resolve.proofs.bodies.RunIndex.bodies.Goals as goal

pub returns-in-Some : goal.returns-in-Some
returns-in-Some c =
    let body : PipelineTask → Option TaskBody = λ t. body_of c.args.earlier.now c.args.self.now.0 c.args.self.now.1 t t.source in
    let tasks = c.as_slice.result.now in
    let last = c.as_slice-in-Some.result.now in
    let pipeline : c.self.inside.pipeline.now ≡ c.args.self.now.1 = ap (λ v. v.1) c.self.view_is in
    let all : tasks ++ last ≡ all_tasks c.args.self.now.1 = cc in
    let made : all_some (map body (tasks ++ last)) ≡ joined (Some c.in-Some.bodies) (all_some (map body last)) =
    made_of_both body tasks last c.from_vec-none.result (Some c.in-Some.bodies) (c.from_vec-none.ensures ∙ c.in_ok-with_capacity.ensures.items) (sym c.in-Some.is ∙ c.in_ok-bodies.ensures) in
    let P : Option (List TaskBody) → Type 0 = λ b. IfOk c.bodies_behind-in-Some.result (λ bodies. bodies ≡ b) in
    subst P (sym made ∙ ap (λ ts. all_some (map body ts)) all) c.bodies_behind-in-Some.ensures

pub returns-in-None : goal.returns-in-None
returns-in-None c =
    let body : PipelineTask → Option TaskBody = λ t. body_of c.args.earlier.now c.args.self.now.0 c.args.self.now.1 t t.source in
    let tasks = c.as_slice.result.now in
    let last = c.args.self.now.1.finally in
    let pipeline : c.self.inside.pipeline.now ≡ c.args.self.now.1 = ap (λ v. v.1) c.self.view_is in
    let all : tasks ++ last ≡ all_tasks c.args.self.now.1 = cc in
    let made : all_some (map body (tasks ++ last)) ≡ None =
    made_of_both body tasks last c.from_vec-none.result None (c.from_vec-none.ensures ∙ c.in_ok-with_capacity.ensures.items) (sym c.in-None.is ∙ c.in_ok-bodies.ensures) in
    sym made ∙ ap (λ ts. all_some (map body ts)) all
