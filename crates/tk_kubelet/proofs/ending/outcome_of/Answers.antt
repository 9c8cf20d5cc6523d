use Rattle.std.proofs.Common.{rules, ◌≡◌, ℕ, List, Some, None, Bool, true, false, refl, sym, ◌∙◌, ap, subst}
use Rattle.tk_cache.specs.Views.{seen}
use Rattle.tk_held.specs.Settled.{settled_in}
use Rattle.tk_steps.proofs.Moved.{moves_none}
use Rattle.tk_outcome.specs.Walked.{EndsWalked}
use Rattle.tk_kubelet.specs.Ends.{settled_outcome}
use Rattle.tk_kubelet.proofs.Judged.{by_fault, by_walk, concluded_of, counted_rose, ends_walked, none_rose, same_pod}
use Rattle.tk_kubelet.proofs.Rows.{outcome_none, settled_ends}
use Rattle.tk_kubelet.proofs.ending.outcome_of.Goals as goal

pub returns-in-Some-clause-ends : goal.returns-in-Some-clause-ends
returns-in-Some-clause-ends g c =
    settled_ends (seen c.args.cache.now).view c.args.moment c.args.root.now (g.H.Host.told c.args.host.now) (g.H.Host.files c.args.host.now) c.args.pod.now c.judge-settled.result c.in-Some.outcome (ap (settled_in (seen c.args.cache.now).view c.args.moment) (sym c.as_str.ensures) ∙ sym c.judge-settled.ensures) (sym c.settled_outcome.ensures ∙ c.in-Some.is)

pub returns-in-Some-clause-same : goal.returns-in-Some-clause-same
returns-in-Some-clause-same g c =
    same_pod c.args.pod.now

pub returns-in-Some-clause-moves : goal.returns-in-Some-clause-moves
returns-in-Some-clause-moves g c =
    moves_none c.args.root.now c.args.pod.now (g.H.Host.told c.args.host.now) (g.H.Host.told c.args.host.now) c.requires.keeps.holds refl

pub returns-in-Some-clause-count : goal.returns-in-Some-clause-count
returns-in-Some-clause-count g c =
    none_rose c.args.pod.now.failed (g.H.Host.faults c.args.host.now)

pub walked_outcome-requires-clause-over : goal.walked_outcome-requires-clause-over
walked_outcome-requires-clause-over g c =
    ends_walked (seen c.args.cache.now).view c.args.moment c.args.pod.now c.requires.over ((ap (settled_in (seen c.args.cache.now).view c.args.moment) (sym c.as_str.ensures) ∙ sym c.judge-settled.ensures) ∙ (let n : settled_outcome c.judge-settled.result c.args.pod.now.failed ≡ None = search rules in outcome_none c.judge-settled.result c.args.pod.now.failed n).0) (let n : settled_outcome c.judge-settled.result c.args.pod.now.failed ≡ None = search rules in outcome_none c.judge-settled.result c.args.pod.now.failed n).1

pub walked_outcome-requires-clause-not_failed : goal.walked_outcome-requires-clause-not_failed
walked_outcome-requires-clause-not_failed g c =
    (let n : settled_outcome c.judge-settled.result c.args.pod.now.failed ≡ None = search rules in outcome_none c.judge-settled.result c.args.pod.now.failed n).1

pub returns-in_err-outcome-clause-same : goal.returns-in_err-outcome-clause-same
returns-in_err-outcome-clause-same g c =
    concluded_of c.args.pod.now c.walked_outcome.new.pod c.walked_outcome.ensures.same (let n : settled_outcome c.judge-settled.result c.args.pod.now.failed ≡ None = search rules in outcome_none c.judge-settled.result c.args.pod.now.failed n).1

pub returns-in_err-outcome-clause-count : goal.returns-in_err-outcome-clause-count
returns-in_err-outcome-clause-count g c =
    counted_rose c.walked_outcome.new.pod.failed c.args.pod.now.failed (g.H.Host.faults c.args.host.now) (g.H.Host.faults c.walked_outcome.new.host) (let n : settled_outcome c.judge-settled.result c.args.pod.now.failed ≡ None = search rules in outcome_none c.judge-settled.result c.args.pod.now.failed n).1 c.walked_outcome.ensures.count

pub returns-in-Some-2-clause-same : goal.returns-in-Some-2-clause-same
returns-in-Some-2-clause-same g c =
    concluded_of c.args.pod.now c.walked_outcome.new.pod c.walked_outcome.ensures.same (let n : settled_outcome c.judge-settled.result c.args.pod.now.failed ≡ None = search rules in outcome_none c.judge-settled.result c.args.pod.now.failed n).1

pub returns-in-Some-2-clause-count : goal.returns-in-Some-2-clause-count
returns-in-Some-2-clause-count g c =
    counted_rose c.walked_outcome.new.pod.failed c.args.pod.now.failed (g.H.Host.faults c.args.host.now) (g.H.Host.faults c.walked_outcome.new.host) (let n : settled_outcome c.judge-settled.result c.args.pod.now.failed ≡ None = search rules in outcome_none c.judge-settled.result c.args.pod.now.failed n).1 c.walked_outcome.ensures.count

pub returns-in-None-clause-same : goal.returns-in-None-clause-same
returns-in-None-clause-same g c =
    concluded_of c.args.pod.now c.walked_outcome.new.pod c.walked_outcome.ensures.same (let n : settled_outcome c.judge-settled.result c.args.pod.now.failed ≡ None = search rules in outcome_none c.judge-settled.result c.args.pod.now.failed n).1

pub returns-in-None-clause-count : goal.returns-in-None-clause-count
returns-in-None-clause-count g c =
    counted_rose c.walked_outcome.new.pod.failed c.args.pod.now.failed (g.H.Host.faults c.args.host.now) (g.H.Host.faults c.walked_outcome.new.host) (let n : settled_outcome c.judge-settled.result c.args.pod.now.failed ≡ None = search rules in outcome_none c.judge-settled.result c.args.pod.now.failed n).1 c.walked_outcome.ensures.count

pub returns-in-Some-2-clause-ends : goal.returns-in-Some-2-clause-ends
returns-in-Some-2-clause-ends g c =
    by_walk (seen c.args.cache.now).view c.args.moment c.args.root.now (g.H.Host.told c.walked_outcome.new.host) (g.H.Host.files c.walked_outcome.new.host) c.args.pod.now c.walked_outcome.new.pod c.walked_outcome.ensures.same ((ap (settled_in (seen c.args.cache.now).view c.args.moment) (sym c.as_str.ensures) ∙ sym c.judge-settled.ensures) ∙ (let n : settled_outcome c.judge-settled.result c.args.pod.now.failed ≡ None = search rules in outcome_none c.judge-settled.result c.args.pod.now.failed n).0) c.in-Some-2.outcome (let whole : c.walked_outcome.new.pod.failed ≡ false = search rules in whole) (let walked : EndsWalked c.args.root.now (g.H.Host.told c.walked_outcome.new.host) (g.H.Host.files c.walked_outcome.new.host) c.walked_outcome.new.pod c.in-Some-2.outcome = search rules in walked)

pub returns-in-None-clause-ends : goal.returns-in-None-clause-ends
returns-in-None-clause-ends g c =
    by_fault (seen c.args.cache.now).view c.args.moment c.args.root.now (g.H.Host.told c.walked_outcome.new.host) (g.H.Host.files c.walked_outcome.new.host) c.args.pod.now c.walked_outcome.new.pod c.walked_outcome.ensures.same ((ap (settled_in (seen c.args.cache.now).view c.args.moment) (sym c.as_str.ensures) ∙ sym c.judge-settled.ensures) ∙ (let n : settled_outcome c.judge-settled.result c.args.pod.now.failed ≡ None = search rules in outcome_none c.judge-settled.result c.args.pod.now.failed n).0) c.without_exit.result (let failed : c.walked_outcome.new.pod.failed ≡ true = search rules in failed) c.without_exit.ensures
