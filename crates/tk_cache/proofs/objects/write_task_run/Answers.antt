use Rattle.std.proofs.Common.{rules, ◌≡◌, ◌++◌, ◌∷◌, [], List, Option, Some, None, refl, ap, sym, subst, ◌∙◌, map}
use Rattle.std.specs.Prelude.{bytes_eq, option_map, string_bytes, if◌then◌else◌}
use Rattle.std.proofs.lemmas.Map.Text.{hash_map_updates_text}
use Rattle.tk_types.specs.declared.scenario.Kind.TheVariants.{TaskRuns}
use Rattle.tk_journal.specs.Effects.{name_of, task_run_made, task_run_after}
use Rattle.tk_journal.specs.Made.{MakesOrChanges}
use Rattle.tk_cache.specs.Objects.{held_at, names_in, object_at}
use Rattle.tk_journal.specs.declared.object.TaskRunState.{TaskRunState}
use Rattle.tk_cache.specs.declared.objects.Held.{Held}
use Rattle.tk_cache.proofs.Held.{held_written, names_kept, held_added}
use Rattle.tk_cache.proofs.Owned.{kept_run, owned_added, owned_written}
use Rattle.tk_cache.proofs.objects.write_task_run.Goals as goal

pub returns-in-Some-clause-at : goal.returns-in-Some-clause-at
returns-in-Some-clause-at c =
    let is : c.name-name.result.now ≡ name_of c.args.entry.now.act = search rules in
    let there : held_at c.args.task_runs.now c.name-name.result.now ≡ Some c.in-Some.held.now = search rules in
    let w : Held TaskRunState = record { object = c.apply.new.self; version = c.args.position } in
    held_written c.args.task_runs.now (c.get_mut.follows.lender w) TaskRuns c.args.entry.now c.args.position (task_run_after c.args.entry.now.moment c.args.entry.now.act) (task_run_made (object_at c.args.runs.now) c.args.entry.now.act) c.name-name.result.now c.in-Some.held.now w is there
    (ap (λ object. record { object = object; version = c.args.position }) c.in_ok-apply.ensures.ok)
    (λ cs. hash_map_updates_text c.name-name.result.now c.args.task_runs.now (c.get_mut.follows.lender w) (Some w) ((c.get_mut.follows.holds w).3 (search rules)) cs)

pub returns-in-Some-clause-names : goal.returns-in-Some-clause-names
returns-in-Some-clause-names c =
    let is : c.name-name.result.now ≡ name_of c.args.entry.now.act = search rules in
    let there : held_at c.args.task_runs.now c.name-name.result.now ≡ Some c.in-Some.held.now = search rules in
    let w : Held TaskRunState = record { object = c.apply.new.self; version = c.args.position } in
    names_kept c.args.task_runs.now (c.get_mut.follows.lender w) TaskRuns c.args.entry.now c.args.position (task_run_after c.args.entry.now.moment c.args.entry.now.act) (task_run_made (object_at c.args.runs.now) c.args.entry.now.act) c.name-name.result.now c.in-Some.held.now w is there c.requires.fits (c.get_mut.follows.holds w).1

pub returns-in_ok-add-clause-at : goal.returns-in_ok-add-clause-at
returns-in_ok-add-clause-at c =
    let is : c.name-name.result.now ≡ name_of c.args.entry.now.act = search rules in
    let none : held_at c.args.task_runs.now c.name-name.result.now ≡ None = search rules in
    let made : task_run_made (object_at c.args.runs.now) c.args.entry.now.act ≡ Some c.in-Some-2.object = search rules in
    let same : c.get_mut.follows.lender-at-none ≡ c.args.task_runs.now = search rules in
    held_added c.args.task_runs.now c.add.new.objects c.args.entry.now c.args.position (task_run_after c.args.entry.now.moment c.args.entry.now.act) (task_run_made (object_at c.args.runs.now) c.args.entry.now.act) c.name-name.result.now c.in-Some-2.object is none made
    (λ cs. c.in_ok-add.ensures.at cs ∙ ap (λ m. if bytes_eq c.name-name.result.now cs then Some record { object = c.in-Some-2.object; version = c.args.position } else held_at m cs) same)

pub returns-in-Some-clause-owned : goal.returns-in-Some-clause-owned
returns-in-Some-clause-owned c =
    let there : held_at c.args.task_runs.now c.name-name.result.now ≡ Some c.in-Some.held.now = search rules in
    let w : Held TaskRunState = record { object = c.apply.new.self; version = c.args.position } in
    let same : c.apply.new.self.run ≡ c.in-Some.held.now.object.run =
    ap (λ (t : TaskRunState). t.run) c.in_ok-apply.ensures.ok ∙ kept_run c.args.entry.now.moment c.args.entry.now.act c.in-Some.held.now.object in
    owned_written c.args.task_runs.now (c.get_mut.follows.lender w) c.name-name.result.now c.in-Some.held.now w there same
    (λ other. hash_map_updates_text c.name-name.result.now c.args.task_runs.now (c.get_mut.follows.lender w) (Some w) ((c.get_mut.follows.holds w).3 (search rules)) other)
    (ap (map string_bytes) (c.get_mut.follows.holds w).1) c.args.owned.now c.requires.owned

pub returns-in_ok-add-clause-owned : goal.returns-in_ok-add-clause-owned
returns-in_ok-add-clause-owned c =
    let none : held_at c.args.task_runs.now c.name-name.result.now ≡ None = search rules in
    let same : c.get_mut.follows.lender-at-none ≡ c.args.task_runs.now = search rules in
    let x : Held TaskRunState = record { object = c.in-Some-2.object; version = c.args.position } in
    owned_added c.args.task_runs.now c.add.new.objects c.name-name.result.now x none
    (λ other. c.in_ok-add.ensures.at other ∙ ap (λ m. if bytes_eq c.name-name.result.now other then Some x else held_at m other) same)
    (c.in_ok-add.ensures.names ∙ ap (λ m. names_in m ++ c.name-name.result.now ∷ []) same)
    c.args.owned.now c.note.new.owned c.in_ok-note.ensures c.requires.owned

pub add-requires : goal.add-requires
add-requires c =
    let none : held_at c.args.task_runs.now c.name-name.result.now ≡ None = search rules in
    let same : c.get_mut.follows.lender-at-none ≡ c.args.task_runs.now = search rules in
    record { absent = ap (λ m. held_at m c.name-name.result.now) same ∙ none }

pub returns-in_ok-add-clause-names : goal.returns-in_ok-add-clause-names
returns-in_ok-add-clause-names c =
    let is : c.name-name.result.now ≡ name_of c.args.entry.now.act = search rules in
    let none : held_at c.args.task_runs.now c.name-name.result.now ≡ None = search rules in
    let same : c.get_mut.follows.lender-at-none ≡ c.args.task_runs.now = search rules in
    let gone : object_at c.args.task_runs.now (name_of c.args.entry.now.act) ≡ None =
    ap (λ n. object_at c.args.task_runs.now n) (sym is) ∙ ap (option_map (λ (h : Held TaskRunState). h.object)) none in
    let makes = (subst (λ (o : Option TaskRunState). MakesOrChanges TaskRuns c.args.entry.now (task_run_made (object_at c.args.runs.now) c.args.entry.now.act) o) gone c.requires.fits).1 in
    c.in_ok-add.ensures.names
    ∙ ap (λ m. names_in m ++ c.name-name.result.now ∷ []) same
    ∙ ap (λ n. names_in c.args.task_runs.now ++ n ∷ []) is
    ∙ sym (rw makes refl)
