use Rattle.std.proofs.Common.{◌≡◌, ◌<◌, ◌≤◌, ◌∙◌, false, ℕ, List, length, set, take, ap, sym, subst, arith, length-take, length-set}
use Rattle.std.proofs.lemmas.Result.{IfOk-weaker}
use Rattle.tk_types.specs.declared.run.Facts.{Facts}
use Rattle.tk_types.specs.declared.verdict.Verdict.{Verdict}
use Rattle.tk_verdict.specs.Labels.{verdict_line}
use Rattle.tk_verdict.specs.Verdict.{label_at}
use Rattle.tk_verdict.proofs.Walking.{parents_at, parents_count}
use Rattle.tk_labels.specs.Kept.{of_run}
use Rattle.tk_labels.specs.Reached.{IsAgain}
use Rattle.tk_labels.proofs.Unmoved.{unmoved_right}
use Rattle.tk_labels.proofs.relabel.walked.Goals as goal

pub again-requires-clause-parents : goal.again-requires-clause-parents
again-requires-clause-parents c =
    let tasks = c.args.run.now.spec.tasks in
    let many = parents_count tasks c.args.parents.now c.requires.parents in
    let below = c.if-parents-place.false in
    let small : c.args.task < length tasks = omega (arith, many, below) in
    c.as_slice-above.ensures ∙ (c.index-parents-place.is ∙ parents_at tasks c.args.parents.now c.args.task _ c.requires.parents small)

pub again-requires-clause-exists : goal.again-requires-clause-exists
again-requires-clause-exists c =
    let many = parents_count c.args.run.now.spec.tasks c.args.parents.now c.requires.parents in
    let below = c.if-parents-place.false in
    omega (arith, many, below)

pub returns-clause-count : goal.returns-clause-count
returns-clause-count c =
    let many = parents_count c.args.run.now.spec.tasks c.args.parents.now c.requires.parents in
    let long = c.if-was-parents.false in
    IfOk-weaker c.but_one.result _ _
    (λ labels is.
    let cut = ap length is in
    let short = length-take (length c.args.parents.now) (set c.args.was.now c.args.task c.in_ok-told.told.label) in
    let same = length-set c.args.was.now c.args.task c.in_ok-told.told.label in
    omega (arith, cut, short, same, many, long))
    c.but_one.ensures

pub returns-clause-right : goal.returns-clause-right
returns-clause-right c =
    let facts : Facts = of_run c.args.run.now c.args.kids.now in
    let tasks = c.args.run.now.spec.tasks in
    let t = c.args.task in
    let label = c.in_ok-told.told.label in
    let many : length c.args.parents.now ≡ length tasks = parents_count tasks c.args.parents.now c.requires.parents in
    let long = c.if-was-parents.false in
    let below = c.if-parents-place.false in
    let within : t < length tasks = omega (arith, many, below) in
    let enough : length tasks ≤ length c.args.was.now = omega (arith, many, long) in
    let mark : c.in_ok-told.told.moved ≡ false = c.if-told.false in
    let again : IsAgain facts c.args.was.now (label_at c.args.was.now t) t t label false
    = subst (λ b. IsAgain facts c.args.was.now (label_at c.args.was.now t) t t label b) mark
    (subst (λ (v : Verdict). IsAgain facts c.args.was.now v t t label c.in_ok-told.told.moved) c.label_at-before.ensures c.in_ok-told.ensures) in
    IfOk-weaker c.but_one.result _ _
    (λ labels is old was place lt.
    let all : labels.items ≡ take (length tasks) (set c.args.was.now t label) = is ∙ ap (λ (n : ℕ). take n (set c.args.was.now t label)) many in
    subst (λ (ls : List Verdict). label_at ls place ≡ verdict_line facts ls place) (sym all)
    (unmoved_right c.one_bad_offset.ensures.good old facts t c.args.was.now label was c.requires.formed within enough again place lt))
    c.but_one.ensures
