use Rattle.std.proofs.Common.{◌≤◌, ◌∙◌, ℕ, Option, subst, sym}
use Rattle.std.specs.Option.{ForSome}
use Rattle.tk_early.specs.Possible.{possible_children}
use Rattle.tk_child_names.proofs.Few.{few_there, few_told}
use Rattle.tk_child_names.proofs.names.few_children.Goals as goal

pub few-requires : goal.few-requires
few-requires c =
    let children : Option ℕ = possible_children c.args.values.now c.args.task.now in
    subst (λ (o : Option ℕ). ForSome o (λ count. count ≤ 256)) (sym (few_told children c.requires.few) ∙ sym c.in_ok-children.ensures) (few_there children c.requires.few)

pub returns : goal.returns
returns c =
    let children : Option ℕ = possible_children c.args.values.now c.args.task.now in
    c.few.ensures ∙ (c.in_ok-children.ensures ∙ few_told children c.requires.few)
