use Rattle.std.proofs.Common.{[], ap, ◌∙◌}
use Rattle.std.specs.Prelude.{flat_map}
use Rattle.std.proofs.lemmas.Result.{IfOk-weaker}
use Rattle.tk_bind.specs.declared.env.Env.{Env}
use Rattle.tk_resolve.specs.Due.{seen, step_dues}
use Rattle.tk_resolve.specs.Misuse.{any_lacks}
use Rattle.tk_resolve.proofs.Asked.{same_lacks}
use Rattle.tk_resolve.proofs.Readings.{seen_read, steps_read}
use Rattle.tk_resolve.proofs.task_run.steps_lack.Goals as goal

pub any_lacks_value-requires : goal.any_lacks_value-requires
any_lacks_value-requires c =
    seen_read c.as_slice.result.now c.args.asks.now c.as_slice.ensures (c.requires.asks.reads (steps_read c.args.body.now.spec.steps c.requires.body))

pub returns : goal.returns
returns c =
    let env = c.args.env.now in
    let asked = seen c.as_slice.result.now in
    let steps = c.args.body.now.spec.steps in
    let lookup = c.new-lookup.ensures ∙ ap (λ (e : Env). record { params = e.params; results = e.results; words = e.words }) c.in_ok-index.ensures in
    IfOk-weaker c.any_lacks_value.result _ _
    (λ lack is.
    is
    ∙ (ap (λ (e : Env). any_lacks e c.in_ok-spared.spared asked) lookup
    ∙ (ap (λ spared. any_lacks env spared asked) c.in_ok-spared.ensures
    ∙ (ap (any_lacks env []) c.as_slice.ensures ∙ same_lacks (flat_map step_dues steps) c.args.asks.now c.requires.asks (steps_read steps c.requires.body) env []))))
    c.any_lacks_value.ensures
