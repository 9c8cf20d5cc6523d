use Rattle.std.proofs.Common.{rules, ◌≡◌, ◌∙◌, ℕ, List, Some, ap, bytes_eq, subst, sym}
use Rattle.std.specs.HashMap.{get_by}
use Rattle.tk_types.specs.declared.object.Item.{Item}
use Rattle.tk_types.specs.declared.run.RunSpec.{RunSpec}
use Rattle.tk_resolve.specs.Known.{AreGivenAlike, IsKnownRun}
use Rattle.tk_resolve.specs.Lookup.{pipeline_named}
use Rattle.tk_resolve.specs.Run.{bodies_of, resolved_run}
use Rattle.tk_resolve.proofs.GivenAlike.{again}
use Rattle.tk_resolve.proofs.resolver.Resolver.again.Goals as goal

pub bodies_again-requires-clause-known : goal.bodies_again-requires-clause-known
bodies_again-requires-clause-known c =
    let earlier = c.self.inside.earlier in
    let name = c.in-Named.name in
    let known = c.in-Some.known.now in
    let there : get_by (λ k. bytes_eq name k.now) c.self.inside.known ≡ Some known
    = sym (c.in-Some.ensures.value ∙ ap (λ (t : List ℕ). get_by (λ k. bytes_eq t k.now) c.self.inside.known) c.as_str.ensures) in
    let named : pipeline_named earlier name ≡ Some c.in-Some-pipeline.pipeline.now = sym (c.in-Some-pipeline.ensures ∙ ap (pipeline_named earlier) c.as_str-2.ensures) in
    subst (λ (items : List Item). (x : List ℕ) × IsKnownRun items x known × (pipeline_named items x ≡ Some c.in-Some-pipeline.pipeline.now)) c.self.view_is
    (name, c.self.invariant name known there, named)

pub returns-in_ok-started_with-in-Some-2 : goal.returns-in_ok-started_with-in-Some-2
returns-in_ok-started_with-in-Some-2 c = λ x is.
    let earlier = c.self.inside.earlier in
    let run = c.args.run.now in
    let name = c.in-Named.name in
    let known = c.in-Some.known.now in
    let pipeline = c.in-Some-pipeline.pipeline.now in
    let there : get_by (λ k. bytes_eq name k.now) c.self.inside.known ≡ Some known
    = sym (c.in-Some.ensures.value ∙ ap (λ (t : List ℕ). get_by (λ k. bytes_eq t k.now) c.self.inside.known) c.as_str.ensures) in
    let named : pipeline_named earlier name ≡ Some pipeline = sym (c.in-Some-pipeline.ensures ∙ ap (pipeline_named earlier) c.as_str-2.ensures) in
    let same : AreGivenAlike known.run.now run = c.if-not-are_given_alike.ensures (search rules) in
    let found : bodies_of earlier run pipeline ≡ Some c.in-Some-2.bodies
    = ap (λ (items : List Item). bodies_of items run pipeline) c.self.view_is ∙ (c.in_ok-bodies.ensures ∙ c.in-Some-2.is) in
    let one : c.in_ok-started_with-in-Some-2.field-0 ≡ x = cc in
    subst (λ (s : RunSpec). s ≡ resolved_run c.args.self.now run) one
    (c.in_ok-started_with-in-Some-2.ensures
    ∙ (again earlier name known run c.in-Some-2.bodies pipeline (c.self.invariant name known there) named c.in-Named.is same found
    ∙ ap (λ (items : List Item). resolved_run items run) c.self.view_is))
