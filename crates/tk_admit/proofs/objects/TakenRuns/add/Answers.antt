use Rattle.std.proofs.Common.{sym, ◌∙◌}
use Rattle.std.specs.Prelude.{IsTrue}
use Rattle.std.proofs.lemmas.Bool.{false≢true}
use Rattle.tk_admit.proofs.Measured.{tallied_more}
use Rattle.tk_admit.proofs.objects.TakenRuns.add.Goals as goal
use Rattle.tk_admit.proofs.objects.TakenRuns.add.Goals.{then-self, else-self}

pub returns-after-self-clause-tallied : goal.returns-after-self-clause-tallied
returns-after-self-clause-tallied c =
    let both = c.requires.run (c.in-Some.run', c.in-Some.measure) c.in-Some.is in
    let first : IsTrue c.if-self.self → IsTrue c.args.self.now.whole
    = λ is. elim c.if-self.branch as (λ _. IsTrue c.args.self.now.whole) [ then-self w ↦ w.if-self.true | else-self w ↦ sym w.self-is ∙ is ] in
    let second : IsTrue c.if-self.self → IsTrue c.in-Some.measure.whole
    = λ is. elim c.if-self.branch as (λ _. IsTrue c.in-Some.measure.whole) [ then-self w ↦ sym w.self-is ∙ is | else-self w ↦ absurd (false≢true (sym w.if-self.false ∙ (sym w.self-is ∙ is))) ] in
    tallied_more c.args.self.now _ c.in-Some.run' c.in-Some.measure c.requires.tallied both.0 both.1 c.in_ok-push.ensures.items c.saturating_add-self.ensures first second
