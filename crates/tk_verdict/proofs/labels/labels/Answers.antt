use Rattle.std.proofs.Common.{◌≡◌, ◌++◌, List, map, length, sym, subst, ap, ◌∙◌}
use Rattle.std.specs.List.{range_with_len}
use Rattle.tk_types.specs.declared.verdict.Verdict.{Verdict}
use Rattle.tk_verdict.specs.Gathered.{final_line}
use Rattle.tk_verdict.specs.Labels.{IsRight}
use Rattle.tk_verdict.proofs.AllLabels.{all_right}
use Rattle.tk_verdict.proofs.labels.labels.Goals as goal

pub returns : goal.returns
returns c =
    let facts = c.args.facts.now in
    let first = c.in_ok-labels.labels.items in
    let last : c.in_ok-last.last.items ≡ map (final_line facts first) (range_with_len 0 (length facts.spec.finally))
    = c.in_ok-last.ensures ∙ ap (λ (ls : List Verdict). map (final_line facts ls) (range_with_len 0 (length facts.spec.finally))) c.as_slice.ensures.value in
    let all : c.push_all.new.labels.items ≡ first ++ c.in_ok-last.last.items = c.in_ok-push_all.ensures ∙ ap (λ (ls : List Verdict). first ++ ls) c.as_slice-2.ensures.value in
    c.one_labelling.ensures.only facts c.push_all.new.labels.items (c.args.ranks.now, c.requires.ranking)
    (subst (λ (ls : List Verdict). IsRight facts ls) (sym all) (all_right facts first c.in_ok-last.last.items c.in_ok-labels.ensures.count c.in_ok-labels.ensures.right last))
