use Rattle.tk_names.specs.Rules.{is_object_name}
use Rattle.tk_spec_sound.proofs.Answers.{granted_as, no_is, refused_as, refused_by, told_as}
use Rattle.tk_spec_sound.proofs.run.has_sound_head.Goals as goal

pub returns-then-not-is_name : goal.returns-then-not-is_name
returns-then-not-is_name c = no_is (λ head. refused_by c.is_name.result c.is_name.ensures c.if-not-is_name.true head.named)

pub returns-then-not-is_object_name : goal.returns-then-not-is_object_name
returns-then-not-is_object_name c =
    no_is (λ head. refused_as c.is_object_name.result (is_object_name c.args.name.now) c.is_object_name.ensures c.if-not-is_object_name.true head.is_name)

pub returns-then-not-asks_stop : goal.returns-then-not-asks_stop
returns-then-not-asks_stop c = no_is (λ head. refused_by c.asks_stop.result c.asks_stop.ensures c.if-not-asks_stop.true head.asked_stops)

pub returns-then-not-has_short_timeouts : goal.returns-then-not-has_short_timeouts
returns-then-not-has_short_timeouts c = no_is (λ head. refused_by c.has_short_timeouts.result c.has_short_timeouts.ensures c.if-not-has_short_timeouts.true head.timeouts)

pub returns-then-not-has_few_tasks : goal.returns-then-not-has_few_tasks
returns-then-not-has_few_tasks c = no_is (λ head. refused_by c.has_few_tasks.result c.has_few_tasks.ensures c.if-not-has_few_tasks.true head.few_tasks)

pub returns : goal.returns
returns c =
    told_as c.has_one_body_each.result
    (λ one. record {
      named = c.is_name.ensures.0 c.if-not-is_name.false;
      is_name = granted_as c.is_object_name.result (is_object_name c.args.name.now) c.is_object_name.ensures c.if-not-is_object_name.false;
      asked_stops = c.asks_stop.ensures.0 c.if-not-asks_stop.false;
      timeouts = c.has_short_timeouts.ensures.0 c.if-not-has_short_timeouts.false;
      few_tasks = c.has_few_tasks.ensures.0 c.if-not-has_few_tasks.false;
      one_body_each = one;
    })
    (λ head. head.one_body_each)
    c.has_one_body_each.ensures
