use Rattle.std.proofs.Common.{rules, ◌≡◌, ℕ, List, [], ◌∷◌, ◌++◌, ap, sym, subst, ◌∙◌}
use Rattle.std.specs.Prelude.{string_bytes}
use Rattle.tk_taken_names.specs.Taken.{IsNew}
use Rattle.tk_taken_names.proofs.Found.{comes_last}
use Rattle.tk_taken_names.proofs.taken.TakenNames.add_one.Goals as goal

pub returns : goal.returns
returns c =
    let name = c.args.name.now in
    let is : string_bytes c.in_ok-key.key ≡ name = search rules in
    comes_last c.self.inside.names c.insert.new.self c.in_ok-key.key name tt is (subst (λ (taken : List (List ℕ)). IsNew taken name) (sym c.self.view_is) c.requires) c.in_ok-insert.ensures.entries
    ∙ ap (λ (taken : List (List ℕ)). taken ++ name ∷ []) c.self.view_is
