use Rattle.tk_names.specs.Rules.{is_object_name}
use Rattle.tk_spec_sound.proofs.Answers.{granted_as, no_is, refused_as, refused_by, told_as}
use Rattle.tk_spec_sound.proofs.task_run.has_sound_head.Goals as goal

pub returns-then-not-is_name : goal.returns-then-not-is_name
returns-then-not-is_name c = no_is (λ head. refused_by c.is_name.result c.is_name.ensures c.if-not-is_name.true head.named)

pub returns-then-not-is_object_name : goal.returns-then-not-is_object_name
returns-then-not-is_object_name c =
    no_is (λ head. refused_as c.is_object_name.result (is_object_name c.args.name.now) c.is_object_name.ensures c.if-not-is_object_name.true head.is_name)

pub returns-then-not-asks_cancel : goal.returns-then-not-asks_cancel
returns-then-not-asks_cancel c = no_is (λ head. refused_by c.asks_cancel.result c.asks_cancel.ensures c.if-not-asks_cancel.true head.asked_cancelled)

pub returns-then-not-are_few_retries : goal.returns-then-not-are_few_retries
returns-then-not-are_few_retries c = no_is (λ head. refused_by c.are_few_retries.result c.are_few_retries.ensures c.if-not-are_few_retries.true head.few_retries)

pub returns-then-not-is_short : goal.returns-then-not-is_short
returns-then-not-is_short c = no_is (λ head. refused_by c.is_short.result c.is_short.ensures c.if-not-is_short.true head.timeout)

pub returns : goal.returns
returns c =
    told_as c.has_steps.result
    (λ steps. record {
      named = c.is_name.ensures.0 c.if-not-is_name.false;
      is_name = granted_as c.is_object_name.result (is_object_name c.args.name.now) c.is_object_name.ensures c.if-not-is_object_name.false;
      asked_cancelled = c.asks_cancel.ensures.0 c.if-not-asks_cancel.false;
      few_retries = c.are_few_retries.ensures.0 c.if-not-are_few_retries.false;
      timeout = c.is_short.ensures.0 c.if-not-is_short.false;
      steps = steps;
    })
    (λ head. head.steps)
    c.has_steps.ensures
