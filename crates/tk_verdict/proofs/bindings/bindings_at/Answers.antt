use Rattle.std.proofs.Common.{◌≡◌, ℕ, ◌<◌, ◌≤◌, ◌-◌, length, take, slice_get, Some, subst, ap, ◌∙◌, arith}
use Rattle.std.proofs.lemmas.Result.{IfOk-weaker}
use Rattle.tk_verdict.specs.Readings.{ReadsTask}
use Rattle.tk_verdict.proofs.BindingsAt.{of_final, of_none, of_task}
use Rattle.tk_verdict.proofs.Reading.{read_found, read_has}
use Rattle.tk_verdict.proofs.bindings.bindings_at.Goals as goal

pub task_bindings-requires-clause-reads : goal.task_bindings-requires-clause-reads
task_bindings-requires-clause-reads c =
    let lt = subst (λ (n : ℕ). c.args.place < n) (ap length c.as_slice-tasks.ensures) c.if-place-tasks.true in
    read_has ReadsTask c.as_slice-tasks.result.now c.args.facts.now.spec.tasks c.args.place c.index-tasks-place.result c.requires.readable.tasks lt c.as_slice-tasks.ensures c.index-tasks-place.is

pub returns-then-place-tasks : goal.returns-then-place-tasks
returns-then-place-tasks c =
    let lt = subst (λ (n : ℕ). c.args.place < n) (ap length c.as_slice-tasks.ensures) c.if-place-tasks.true in
    let found = read_found c.as_slice-tasks.result.now c.args.facts.now.spec.tasks c.args.place c.index-tasks-place.result lt c.as_slice-tasks.ensures c.index-tasks-place.is in
    IfOk-weaker c.task_bindings.result _ _ (λ made is. is ∙ of_task c.args.facts.now c.args.labels.now c.args.place c.index-tasks-place.result found) c.task_bindings.ensures

pub final_bindings-requires-clause-reads : goal.final_bindings-requires-clause-reads
final_bindings-requires-clause-reads c =
    let k = c.args.place - length c.as_slice-tasks.result.now in
    let lt = subst (λ (n : ℕ). k < n) (ap length c.as_slice-finals.ensures) c.if-k-finals.true in
    read_has ReadsTask c.as_slice-finals.result.now c.args.facts.now.spec.finally k c.index-finals-k.result c.requires.readable.finals lt c.as_slice-finals.ensures c.index-finals-k.is

pub returns-then-k-finals : goal.returns-then-k-finals
returns-then-k-finals c =
    let facts = c.args.facts.now in
    let k = c.args.place - length c.as_slice-tasks.result.now in
    let count : length c.as_slice-tasks.result.now ≡ length facts.spec.tasks = ap length c.as_slice-tasks.ensures in
    let lt = subst (λ (n : ℕ). k < n) (ap length c.as_slice-finals.ensures) c.if-k-finals.true in
    let found = read_found c.as_slice-finals.result.now facts.spec.finally k c.index-finals-k.result lt c.as_slice-finals.ensures c.index-finals-k.is in
    let found_at = subst (λ (n : ℕ). slice_get facts.spec.finally (c.args.place - n) ≡ Some c.index-finals-k.result) count found in
    let past : length facts.spec.tasks ≤ c.args.place = subst (λ (n : ℕ). n ≤ c.args.place) count c.if-place-tasks.false in
    IfOk-weaker c.final_bindings.result _ _
    (λ made is. is ∙ of_final facts c.args.labels.now (take (length c.as_slice-tasks.result.now) c.args.labels.now) c.args.place c.index-finals-k.result past found_at (ap (λ (n : ℕ). take n c.args.labels.now) count))
    c.final_bindings.ensures

pub returns : goal.returns
returns c =
    let facts = c.args.facts.now in
    let count : length c.as_slice-tasks.result.now ≡ length facts.spec.tasks = ap length c.as_slice-tasks.ensures in
    let past : length facts.spec.tasks ≤ c.args.place = subst (λ (n : ℕ). n ≤ c.args.place) count c.if-place-tasks.false in
    let finals : length c.as_slice-finals.result.now ≡ length facts.spec.finally = ap length c.as_slice-finals.ensures in
    of_none facts c.args.labels.now c.args.place past (omega (arith, count, finals, c.if-k-finals.false))
