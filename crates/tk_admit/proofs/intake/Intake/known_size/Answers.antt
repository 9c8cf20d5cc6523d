use Rattle.std.proofs.Common.{rules, ◌≡◌, ◌∙◌, ◌<◌, ℕ, List, Some, ap, bytes_eq, length, sym}
use Rattle.std.specs.HashMap.{get_by}
use Rattle.tk_types.specs.Behaviour.{tasks_of}
use Rattle.tk_types.specs.declared.object.Item.{Item}
use Rattle.tk_admit.specs.Taken.{resolved}
use Rattle.tk_admit.proofs.RunSizes.{size_known}
use Rattle.tk_admit.proofs.intake.Intake.known_size.Goals as goal

pub returns-in-Some : goal.returns-in-Some
returns-in-Some c = λ x is.
    let name = c.in-Some.name.now in
    let object = c.args.object.now in
    let some : 0 < length (tasks_of c.args.spec.now) = search rules in
    let there : get_by (λ k. bytes_eq name k.now) c.self.inside.sizes ≡ Some x
    = sym (sym is ∙ (c.copied.ensures ∙ (c.get.ensures.value ∙ ap (λ (t : List ℕ). get_by (λ k. bytes_eq t k.now) c.self.inside.sizes) c.as_str.ensures))) in
    size_known c.self.inside.earlier object c.args.spec.now name x (sym c.in-Some.ensures)
    (ap (λ (items : List Item). resolved items object) c.self.view_is ∙ c.requires) (c.self.invariant name x there) some
