use Rattle.std.proofs.Common.{◌≡◌, ℕ, List, Some, None, sym, ◌∙◌, ap, arith}
use Rattle.tk_cache.specs.Views.{seen}
use Rattle.tk_pod_cache.specs.Marks.{is_unclaimed, unclaimed_in}
use Rattle.tk_kubelet.proofs.Found.{find_here, find_later}
use Rattle.tk_kubelet.proofs.Skipped.{find_end, find_next}
use Rattle.tk_kubelet.proofs.choose.first_unclaimed.Goals as goal

pub returns-then-is_unclaimed : goal.returns-then-is_unclaimed
returns-then-is_unclaimed c =
    sym (find_here (unclaimed_in (seen c.args.cache.now).view) (seen c.args.cache.now).view.pods c.in-Some.place c.pod_name-name.result.now c.pod_name-name.ensures (ap is_unclaimed (c.pod_at.ensures c.pod_name-name.result.now c.pod_name-name.ensures) ∙ (sym c.is_unclaimed.ensures ∙ c.if-is_unclaimed.true)))
    ∙ (sym (find_next (unclaimed_in (seen c.args.cache.now).view) (unclaimed_in (seen c.args.cache.now).view) (seen c.args.cache.now).view.pods c.args.marks.now.unclaimed c.requires.unclaimed (λ name fails. fails) c.loop-place.at c.pod_count-end.result c.in-Some.place c.in-Some.ensures)
    ∙ c.loop-place.invariant)

pub loop-place-preserved : goal.loop-place-preserved
loop-place-preserved c =
    sym (find_later (unclaimed_in (seen c.args.cache.now).view) (seen c.args.cache.now).view.pods c.in-Some.place c.pod_name-name.result.now c.pod_name-name.ensures (ap is_unclaimed (c.pod_at.ensures c.pod_name-name.result.now c.pod_name-name.ensures) ∙ (sym c.is_unclaimed.ensures ∙ c.if-is_unclaimed.false)))
    ∙ (sym (find_next (unclaimed_in (seen c.args.cache.now).view) (unclaimed_in (seen c.args.cache.now).view) (seen c.args.cache.now).view.pods c.args.marks.now.unclaimed c.requires.unclaimed (λ name fails. fails) c.loop-place.at c.pod_count-end.result c.in-Some.place c.in-Some.ensures)
    ∙ c.loop-place.invariant)

pub returns : goal.returns
returns c =
    sym (find_end (unclaimed_in (seen c.args.cache.now).view) (unclaimed_in (seen c.args.cache.now).view) (seen c.args.cache.now).view.pods c.args.marks.now.unclaimed c.requires.unclaimed (λ name fails. fails) c.loop-place.at c.pod_count-end.result c.pod_count-end.ensures c.in_default.ensures)
    ∙ c.loop-place.invariant
