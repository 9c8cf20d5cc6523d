use Rattle.std.proofs.Common.{◌≡◌, ℕ, ◌+◌, ◌++◌, map, length, Some, slice_get, subst, ap, ◌∙◌, arith}
use Rattle.std.proofs.lemmas.Result.{IfOk-weaker}
use Rattle.tk_types.specs.declared.run.Child.{Child}
use Rattle.tk_verdict.specs.Facts.{children_at}
use Rattle.tk_verdict.specs.Readings.{ReadsBody, ReadsTask}
use Rattle.tk_verdict.specs.Words.{finally_env}
use Rattle.tk_verdict.proofs.FinalLine.{due_line, early_line, final_at}
use Rattle.tk_verdict.proofs.Reading.{read_found, read_has}
use Rattle.tk_verdict.proofs.finals.judge_final.Goals as goal
use denote.Bor.{Bor}

pub due_label-requires-clause-reads : goal.due_label-requires-clause-reads
due_label-requires-clause-reads c =
    read_has ReadsTask c.as_slice.result.now c.args.facts.now.spec.finally c.args.k c.index-as_slice-k.result c.requires.readable.finals c.requires.exists c.as_slice.ensures c.index-as_slice-k.is

pub due_label-requires-clause-reads_body : goal.due_label-requires-clause-reads_body
due_label-requires-clause-reads_body c =
    read_has ReadsBody c.as_slice-2.result.now c.args.facts.now.spec.bodies (c.len.result + c.args.k) c.index-as_slice-place.result c.requires.readable.bodies (omega (arith, c.requires.exists, c.requires.readable.one_body_each, c.len.ensures)) c.as_slice-2.ensures c.index-as_slice-place.is

pub early_label-requires : goal.early_label-requires
early_label-requires c =
    record { reads = read_has ReadsTask c.as_slice.result.now c.args.facts.now.spec.finally c.args.k c.index-as_slice-k.result c.requires.readable.finals c.requires.exists c.as_slice.ensures c.index-as_slice-k.is }

pub returns-then-are_all_done : goal.returns-then-are_all_done
returns-then-are_all_done c =
    let facts = c.args.facts.now in
    let task = c.index-as_slice-k.result in
    let place = length facts.spec.tasks + c.args.k in
    let g = c.requires.gathered.env_is in
    let words = c.as_slice-3.ensures ∙ c.in_ok-words.ensures in
    let env : c.new-lookup.result ≡ finally_env facts c.args.labels.now task
    = c.new-lookup.ensures ∙ (λ i. record { params = (g i).params; results = (g i).results; words = words i ++ (g i).words }) in
    let children = c.at-children.ensures ∙ (λ i. children_at (c.requires.gathered.all_children i) (c.len.ensures i + c.args.k)) in
    let found = read_found c.as_slice.result.now facts.spec.finally c.args.k task c.requires.exists c.as_slice.ensures c.index-as_slice-k.is in
    let body = read_found c.as_slice-2.result.now facts.spec.bodies (c.len.result + c.args.k) c.index-as_slice-place.result (omega (arith, c.requires.exists, c.requires.readable.one_body_each, c.len.ensures)) c.as_slice-2.ensures c.index-as_slice-place.is in
    let body_at = subst (λ (p : ℕ). slice_get facts.spec.bodies p ≡ Some c.index-as_slice-place.result) (ap (λ n. n + c.args.k) c.len.ensures) body in
    IfOk-weaker c.due_label.result _ _
    (λ label is.
    due_line facts c.args.labels.now place task c.index-as_slice-place.result c.new-lookup.result (map (λ (b : Bor Child). b.now) c.at-children.result.now) c.late_stop.result label c.if-are_all_done.ensures env children c.late_stop.ensures body_at is
    ∙ final_at facts c.args.labels.now c.args.k task found)
    c.due_label.ensures

pub returns : goal.returns
returns c =
    let facts = c.args.facts.now in
    let task = c.index-as_slice-k.result in
    let place = length facts.spec.tasks + c.args.k in
    let g = c.requires.gathered.env_is in
    let words = c.as_slice-3.ensures ∙ c.in_ok-words.ensures in
    let env : c.new-lookup.result ≡ finally_env facts c.args.labels.now task
    = c.new-lookup.ensures ∙ (λ i. record { params = (g i).params; results = (g i).results; words = words i ++ (g i).words }) in
    let children = c.at-children.ensures ∙ (λ i. children_at (c.requires.gathered.all_children i) (c.len.ensures i + c.args.k)) in
    let found = read_found c.as_slice.result.now facts.spec.finally c.args.k task c.requires.exists c.as_slice.ensures c.index-as_slice-k.is in
    IfOk-weaker c.early_label.result _ _
    (λ label is.
    early_line facts c.args.labels.now place task c.new-lookup.result (map (λ (b : Bor Child). b.now) c.at-children.result.now) label c.if-are_all_done.ensures env children is
    ∙ final_at facts c.args.labels.now c.args.k task found)
    c.early_label.ensures
