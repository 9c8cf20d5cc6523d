use Rattle.std.proofs.Common.{◌≡◌, ◌++◌, ℕ, List, [], All, ap, sym, subst, ◌∙◌}
use Rattle.std.specs.Prelude.{flat_map}
use Rattle.std.proofs.lemmas.Result.{IfOk-weaker}
use Rattle.tk_types.specs.declared.task.TaskBody.{TaskBody}
use Rattle.tk_bind.specs.Readings.{ReadsStep}
use Rattle.tk_shape.specs.ShapeEnv.{NamedShape, without_results}
use Rattle.tk_resolve.specs.Asks.{ReadsDue}
use Rattle.tk_resolve.specs.Due.{seen, step_dues}
use Rattle.tk_resolve.specs.Shapes.{any_lacks}
use Rattle.tk_resolve.proofs.ByShapes.{same_lacks}
use Rattle.tk_resolve.proofs.Readings.{seen_read, steps_read}
use Rattle.tk_resolve.proofs.beside.Beside.lacks.Goals as goal

-- the texts of the steps of a body have a reading, where those of the same body have
reads_of : (held body : TaskBody) → held ≡ body → All ReadsStep body.spec.steps → ReadsDue (flat_map step_dues held.spec.steps)
reads_of held body same reads = steps_read held.spec.steps (subst (λ (b : TaskBody). All ReadsStep b.spec.steps) (sym same) reads)

pub any_lacks-requires : goal.any_lacks-requires
any_lacks-requires c =
    let reads = reads_of c.self.inside.body.now c.args.self.now.1 (ap (λ (b : List (List ℕ) × TaskBody). b.1) c.self.view_is) c.requires in
    seen_read c.as_slice.result.now c.self.inside.asks.now c.as_slice.ensures (c.self.invariant.1.reads reads)

pub returns : goal.returns
returns c =
    let late = c.self.inside.late in
    let body = c.self.inside.body.now in
    let asks = c.self.inside.asks.now in
    let sources = c.args.sources.now in
    let env = without_results (c.args.bound.now ++ sources.given ++ sources.outer ++ sources.fallback) [] in
    let texts = flat_map step_dues body.spec.steps in
    let reads = reads_of body c.args.self.now.1 (ap (λ (b : List (List ℕ) × TaskBody). b.1) c.self.view_is) c.requires in
    IfOk-weaker c.any_lacks.result _ _
    (λ lacks is.
    is ∙ (ap (λ (s : List NamedShape × List (List ℕ)). any_lacks (without_results s.0 s.1) late (seen c.as_slice.result.now)) c.in_ok-shapes.ensures
    ∙ (ap (any_lacks env late) c.as_slice.ensures
    ∙ (same_lacks texts asks c.self.invariant.1 reads env late
    ∙ ap (λ (b : List (List ℕ) × TaskBody). any_lacks env b.0 (flat_map step_dues b.1.spec.steps)) c.self.view_is))))
    c.any_lacks.ensures
