use Rattle.std.proofs.Common.{sym, ap, ◌∙◌}
use Rattle.std.specs.Option.{option_or}
use Rattle.tk_types.specs.Value.{text_at}
use Rattle.tk_bind.specs.declared.env.Env.{Env}
use Rattle.tk_bind.proofs.WordFacts.{text_at-append}
use Rattle.tk_bind.proofs.lookup.Lookup.word.Goals as goal

pub returns-in-Some : goal.returns-in-Some
returns-in-Some c =
    let rest = text_at c.args.key.now c.self.inside.index.now.words in
    ap (λ o. option_or o rest) c.in-Some.ensures
    ∙ (sym (text_at-append c.args.key.now c.self.inside.own.now c.self.inside.index.now.words)
    ∙ ap (λ (env : Env). text_at c.args.key.now env.words) c.self.view_is)

pub returns : goal.returns
returns c =
    let rest = text_at c.args.key.now c.self.inside.index.now.words in
    c.word.ensures
    ∙ (ap (λ o. option_or o rest) c.in_default.ensures
    ∙ (sym (text_at-append c.args.key.now c.self.inside.own.now c.self.inside.index.now.words)
    ∙ ap (λ (env : Env). text_at c.args.key.now env.words) c.self.view_is))
