use Rattle.std.proofs.Common.{◌≡◌, Bool, IfOk, subst, ◌∙◌}
use Rattle.tk_bind.proofs.WholeElement.{whole_element}
use Rattle.tk_bind.proofs.lookup.Lookup.has_element.Goals as goal

pub returns : goal.returns
returns c =
    let P : Bool → Type 0 = λ b. IfOk c.has_list.result (λ has. has ≡ b) in
    subst P (whole_element c.args.self.now c.args.text.now c.as_slice.result.now c.in-Some.reference.now (c.as_slice.ensures ∙ c.in_ok-pieces.ensures) c.in-Some.ensures) c.has_list.ensures
