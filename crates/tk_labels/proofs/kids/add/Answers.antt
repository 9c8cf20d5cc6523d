use Rattle.std.proofs.Common.{◌≡◌, List, [], ◌∷◌, ◌++◌, map, get_or, Option, None, ap, sym, ◌∙◌, append_assoc, zero-add}
use Rattle.std.specs.List.{range_with_len}
use Rattle.std.proofs.lemmas.List.{get_or_default}
use Rattle.std.proofs.lemmas.List.FromFn.{map-range_with_len_more}
use Rattle.tk_types.specs.declared.run.Child.{Child}
use Rattle.tk_types.specs.declared.run.Outcome.{Outcome}
use Rattle.tk_labels.specs.Change.{child_at}
use Rattle.tk_labels.proofs.kids.add.Goals as goal

pub loop-index-preserved : goal.loop-index-preserved
loop-index-preserved c =
    let f = child_at c.args.task c.args.outcomes.now in
    let i = c.loop-index.index in
    let old = c.args.children.now.items in
    let front = map f (range_with_len 0 i) in
    let same : c.in_ok-copy.field-0 ≡ get_or c.args.outcomes.now i None
    = c.in_ok-copy.ensures ∙ (c.index-outcomes-index.is ∙ get_or_default c.args.outcomes.now i _ None c.loop-index-test.true) in
    c.in_ok-push.ensures.items
    ∙ (ap (λ (cs : List Child). cs ++ record { task = c.args.task; index = i; outcome = c.in_ok-copy.field-0 } ∷ []) c.loop-index.invariant
    ∙ (append_assoc old front (record { task = c.args.task; index = i; outcome = c.in_ok-copy.field-0 } ∷ [])
    ∙ (ap (λ (o : Option Outcome). old ++ (front ++ record { task = c.args.task; index = i; outcome = o } ∷ [])) same
    ∙ ap (λ (cs : List Child). old ++ cs) (sym (map-range_with_len_more f 0 i i (zero-add i))))))
