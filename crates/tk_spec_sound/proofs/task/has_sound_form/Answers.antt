use Rattle.tk_spec_sound.proofs.Answers.{granted_as, no_is, refused_as, refused_by, told_as}
use Rattle.tk_names.specs.Rules.{is_dns_label}
use Rattle.tk_verdict.specs.Gives.{has_entry}
use Rattle.tk_spec_sound.proofs.task.has_sound_form.Goals as goal

pub returns-then-not-is_label : goal.returns-then-not-is_label
returns-then-not-is_label c = no_is (λ form. refused_as c.is_label.result (is_dns_label c.args.task.now.name) c.is_label.ensures c.if-not-is_label.true form.is_label)

pub returns-then-not-has_entry : goal.returns-then-not-has_entry
returns-then-not-has_entry c = no_is (λ form. refused_as c.has_entry.result (has_entry c.args.task.now) c.has_entry.ensures c.if-not-has_entry.true form.entry)

pub returns-then-not-are_few_retries : goal.returns-then-not-are_few_retries
returns-then-not-are_few_retries c = no_is (λ form. refused_by c.are_few_retries.result c.are_few_retries.ensures c.if-not-are_few_retries.true form.few_retries)

pub returns : goal.returns
returns c =
    told_as c.is_short.result
    (λ short. record {
      is_label = granted_as c.is_label.result (is_dns_label c.args.task.now.name) c.is_label.ensures c.if-not-is_label.false;
      entry = granted_as c.has_entry.result (has_entry c.args.task.now) c.has_entry.ensures c.if-not-has_entry.false;
      few_retries = c.are_few_retries.ensures.0 c.if-not-are_few_retries.false;
      timeout = short;
    })
    (λ form. form.timeout)
    c.is_short.ensures
