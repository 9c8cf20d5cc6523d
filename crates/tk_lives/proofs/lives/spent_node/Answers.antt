use Rattle.std.proofs.Common.{◌≡◌, false, nat_eq, sym, ◌∙◌, ap}
use Rattle.std.proofs.lemmas.Bool.{ne_eqb}
use Rattle.tk_lives.specs.Lives.{greatest_life}
use Rattle.tk_lives.specs.Taking.{last_life}
use Rattle.tk_lives.proofs.Walks.{spent_on}
use Rattle.tk_lives.proofs.lives.spent_node.Goals as goal

pub loop-number-preserved : goal.loop-number-preserved
loop-number-preserved c =
    let h = c.args.journal.now.history in
    let miss : nat_eq (greatest_life c.loop-number.number h) last_life ≡ false = ap (λ n. nat_eq n last_life) (sym c.greatest_life.ensures) ∙ ne_eqb c.greatest_life.result last_life c.if-greatest_life.false in
    c.loop-number.invariant ∙ spent_on c.loop-number.number c.args.nodes h c.loop-number-test.true miss
