use Rattle.std.proofs.Common.{◌≡◌, ◌∙◌, ◌||◌, ap, Bool}
use Rattle.std.specs.List.{list_any}
use Rattle.tk_types.specs.declared.run.Stop.{Stop}
use Rattle.tk_verdict.specs.Condition.{has_failure, is_cancel, is_graceful, is_part_timeout, is_pipeline_timeout}
use Rattle.tk_verdict.specs.Facts.{has_ended, is_cancelled}
use Rattle.tk_verdict.specs.Failures.{condition_by}
use Rattle.tk_verdict.proofs.FailureFacts.{failures_of}
use Rattle.tk_verdict.proofs.finished.signs_of.Goals as goal

pub returns : goal.returns
returns c =
    let facts = c.args.facts.now in
    let of_stops : (test : Stop → Bool) → list_any test c.as_slice-stops.result.now ≡ list_any test facts.stops = λ test. ap (list_any test) c.as_slice-stops.ensures in
    let failed : c.has_failed_children-failed.result ≡ has_failure facts = c.has_failed_children-failed.ensures ∙ failures_of facts in
    let cancelled : c.has_cancelled_child.result ≡ list_any (has_ended is_cancelled) facts.children =
    c.has_cancelled_child.ensures ∙ ap (list_any (has_ended is_cancelled)) c.as_slice-children.ensures in
    let timed_out : c.has_part_timeout-timed_out.result ≡ list_any is_part_timeout facts.stops = c.has_part_timeout-timed_out.ensures ∙ of_stops is_part_timeout in
    let graceful : c.has_graceful_stop-graceful.result ≡ list_any is_graceful facts.stops = c.has_graceful_stop-graceful.ensures ∙ of_stops is_graceful in
    ap condition_by
    (λ i. record {
      pipeline_timeout = (c.has_pipeline_timeout.ensures ∙ of_stops is_pipeline_timeout) i;
      cancelled = (c.has_cancel.ensures ∙ of_stops is_cancel) i;
      failed = (c.either.ensures ∙ λ j. failed j || timed_out j) i;
      broken = c.has_broken_label.ensures i;
      stopped = (c.either-2.ensures ∙ λ j. graceful j || cancelled j) i;
      skipped = c.has_skipped_label.ensures i;
    })
