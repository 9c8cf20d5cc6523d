use Rattle.std.proofs.Common.{◌≡◌, ℕ, List, None, subst, sym, ap, ◌∙◌}
use Rattle.tk_manifest.specs.declared.kinds.KindSet.TheVariants.{WithScenario}
use Rattle.tk_admit.specs.Admit.{input_fault}
use Rattle.tk_journal.specs.declared.admitted.Admitted.{Admitted}
use Rattle.tk_simulate.specs.Played.{MayBePlayed, given_by}
use Rattle.tk_simulate.specs.Started.{IsStarted}
use Rattle.tk_simulate.proofs.Given.{may_be_played}
use Rattle.tk_simulate.proofs.starting.start.Goals as goal

pub begin-requires : goal.begin-requires
begin-requires c =
    let none : input_fault WithScenario 0 c.args.bytes.now ≡ None = subst (λ (bytes : List ℕ). input_fault WithScenario 0 bytes ≡ None) c.in_ok-document.ensures c.in_ok-admitted.ensures.admitted.0 in
    subst MayBePlayed (sym (c.in_ok-admitted.ensures.admitted.1 ∙ ap given_by c.in_ok-document.ensures)) (may_be_played c.admitted_is_legal.ensures c.args.bytes.now none)

pub returns : goal.returns
returns c =
    let none : input_fault WithScenario 0 c.args.bytes.now ≡ None = subst (λ (bytes : List ℕ). input_fault WithScenario 0 bytes ≡ None) c.in_ok-document.ensures c.in_ok-admitted.ensures.admitted.0 in (
      none,
      may_be_played c.admitted_is_legal.ensures c.args.bytes.now none,
      subst (λ (given : Admitted). IsStarted given c.in_ok-begin.field-0) (c.in_ok-admitted.ensures.admitted.1 ∙ ap given_by c.in_ok-document.ensures) c.in_ok-begin.ensures,
    )
