use Rattle.std.proofs.Common.{List, [], ◌∷◌, ◌++◌, map, sym, ap, ◌∙◌, zero-add}
use Rattle.std.specs.List.{range_with_len}
use Rattle.std.proofs.lemmas.List.FromFn.{map-range_with_len_more}
use Rattle.tk_types.specs.declared.verdict.Verdict.{Verdict}
use Rattle.tk_verdict.specs.Gathered.{final_line}
use Rattle.tk_verdict.proofs.finals.final_labels.Goals as goal

pub loop-k-preserved : goal.loop-k-preserved
loop-k-preserved c =
    let line = final_line c.args.facts.now c.args.labels.now in
    c.in_ok-push.ensures.items
    ∙ (ap (λ (made : List Verdict). made ++ c.in_ok-judge_final.field-0 ∷ []) c.loop-k.invariant
    ∙ (ap (λ (v : Verdict). map line (range_with_len 0 c.loop-k.k) ++ v ∷ []) c.in_ok-judge_final.ensures
    ∙ sym (map-range_with_len_more line 0 c.loop-k.k c.loop-k.k (zero-add c.loop-k.k))))
