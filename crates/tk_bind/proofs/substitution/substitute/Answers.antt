use Rattle.std.proofs.Common.{◌≡◌, Ok, IfOk, IfErr, ◌∙◌, subst}
use Rattle.tk_bind.specs.declared.env.Env.{Env}
use Rattle.tk_bind.specs.Refusal.{IsUnavailable}
use Rattle.tk_bind.specs.Substitute.{substituted}
use Rattle.tk_bind.proofs.substitution.substitute.Goals as goal

pub returns-clause-value : goal.returns-clause-value
returns-clause-value c =
    let P : Env → Type 0 = λ env. IfOk c.substitute.result (λ t. substituted env c.args.text.now ≡ Ok t) in
    subst P (c.new-lookup.ensures ∙ c.in_ok-index.ensures) c.substitute.ensures.value

pub returns-clause-refused : goal.returns-clause-refused
returns-clause-refused c =
    let P : Env → Type 0 = λ env. IfErr c.substitute.result (IsUnavailable (substituted env c.args.text.now)) in
    subst P (c.new-lookup.ensures ∙ c.in_ok-index.ensures) c.substitute.ensures.refused
