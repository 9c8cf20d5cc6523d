use Rattle.std.proofs.Common.{ℕ, List, ap, option_copied, sym, subst, ◌∙◌}
use Rattle.tk_taken_names.specs.Taken.{IsNew}
use Rattle.tk_taken_names.proofs.Answers.{none_copied, none_tells}
use Rattle.tk_taken_names.proofs.Found.{is_absent, is_new}
use Rattle.tk_taken_names.proofs.taken.TakenNames.is_new.Goals as goal

pub returns : goal.returns
returns c =
    let name = c.args.name.now in
    let names = c.self.inside.names in
    none_tells c.get.result c.is_none.result c.is_none.ensures (
      λ none. subst (λ (taken : List (List ℕ)). IsNew taken name) c.self.view_is (is_new name names (sym c.get.ensures.value ∙ ap option_copied none)),
      λ new. none_copied c.get.result (c.get.ensures.value ∙ is_absent name names (subst (λ (taken : List (List ℕ)). IsNew taken name) (sym c.self.view_is) new)),
    )
