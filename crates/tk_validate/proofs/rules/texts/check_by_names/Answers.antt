use Rattle.std.proofs.Common.{◌≡◌, ◌∙◌, ◌++◌, ap, sym, subst, true, false, [], ◌∷◌}
use Rattle.std.proofs.lemmas.Result.{err_from_is_err_and}
use Rattle.tk_types.specs.Rejected.{IsRefusal, Reads}
use Rattle.tk_validate.specs.Parts.{on_each_task}
use Rattle.tk_validate.specs.Scoped.{scope_with}
use Rattle.tk_validate.specs.Sited.{in_results}
use Rattle.tk_validate.specs.Texts.{task_texts, text_finding}
use Rattle.tk_validate.specs.TextsBy.{results_by, tasks_by}
use Rattle.tk_validate.proofs.Firsts.{last, passed, refused}
use Rattle.tk_validate.proofs.rules.texts.check_by_names.Goals as goal

pub returns : goal.returns
returns c =
    let outer = c.args.outer.now in
    let words = c.args.words.now in
    let tasks = c.args.tasks.now in
    let firsts = c.args.firsts.now in
    let place = c.args.place.now in
    let spec = c.args.spec.now in
    let layers : c.new-3.result ≡ outer = c.new-3.ensures ∙ ap (λ n. n ++ (n ++ outer)) c.in_ok-none.ensures in
    let of_tasks : on_each_task (task_texts firsts outer (scope_with c.new-3.result words c.in_ok-paths.paths tasks true false)) place spec ≡ tasks_by outer words firsts tasks place spec =
    ap (λ l. on_each_task (task_texts firsts outer (scope_with l words c.in_ok-paths.paths tasks true false)) place spec) layers
    ∙ ap (λ p. on_each_task (task_texts firsts outer (scope_with outer words p tasks true false)) place spec) c.in_ok-paths.ensures in
    let of_results = results_by outer words firsts tasks place spec in
    let result = c.check_all.result in
    let again : c.new-5.result ≡ outer = c.new-5.ensures ∙ ap (λ n. n ++ (n ++ outer)) c.in_ok-none.ensures in
    passed (tasks_by outer words firsts tasks place spec) (of_results ∷ []) result (sym of_tasks ∙ c.in_ok-check_tasks.ensures.0)
    (last of_results result
    (subst (λ finding. Reads finding tt result)
    (ap (λ l. in_results (text_finding firsts (scope_with l words c.in_ok-paths.paths tasks true true)) place c.as_slice.result.now) again
    ∙ (ap (λ p. in_results (text_finding firsts (scope_with outer words p tasks true true)) place c.as_slice.result.now) c.in_ok-paths.ensures
    ∙ ap (in_results (text_finding firsts (scope_with outer words [] tasks true true)) place) c.as_slice.ensures))
    c.check_all.ensures))

pub returns-in_err-check_tasks : goal.returns-in_err-check_tasks
returns-in_err-check_tasks c =
    let outer = c.args.outer.now in
    let words = c.args.words.now in
    let tasks = c.args.tasks.now in
    let firsts = c.args.firsts.now in
    let place = c.args.place.now in
    let spec = c.args.spec.now in
    let layers : c.new-3.result ≡ outer = c.new-3.ensures ∙ ap (λ n. n ++ (n ++ outer)) c.in_ok-none.ensures in
    let of_tasks : on_each_task (task_texts firsts outer (scope_with c.new-3.result words c.in_ok-paths.paths tasks true false)) place spec ≡ tasks_by outer words firsts tasks place spec =
    ap (λ l. on_each_task (task_texts firsts outer (scope_with l words c.in_ok-paths.paths tasks true false)) place spec) layers
    ∙ ap (λ p. on_each_task (task_texts firsts outer (scope_with outer words p tasks true false)) place spec) c.in_ok-paths.ensures in
    let of_results = results_by outer words firsts tasks place spec in
    let p = err_from_is_err_and c.from_residual-in_err-check_tasks.result c.from_residual-in_err-check_tasks.ensures.1 in
    rw (p.1, p.2)
    (refused (tasks_by outer words firsts tasks place spec) (of_results ∷ []) c.in_err-check_tasks.field-0.0
    (subst (λ finding. IsRefusal finding c.in_err-check_tasks.field-0.0) of_tasks c.in_err-check_tasks.ensures))
