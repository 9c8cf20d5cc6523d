use Rattle.std.proofs.Common.{◌≤◌, Bool, IsTrue, ◌↔◌, List, subst, sym}
use Rattle.std.specs.List.{list_all}
use Rattle.std.proofs.lemmas.Result.{IfOk-weaker}
use Rattle.tk_types.specs.Limits.{most_combinations}
use Rattle.tk_types.specs.declared.task.PipelineTask.{PipelineTask}
use Rattle.tk_graph.specs.Parents.{parent_names}
use Rattle.tk_graph.specs.Unknown.{is_known}
use Rattle.tk_journal.specs.Names.{possible_of}
use Rattle.tk_spec_sound.specs.Parts.{IsSoundTask}
use Rattle.tk_spec_sound.proofs.Answers.{no_is, refused_by, told_as}
use Rattle.tk_spec_sound.proofs.task.is_sound_task.Goals as goal

abbrev AreKnown : PipelineTask → List PipelineTask → Type 0
AreKnown task tasks = IsTrue (list_all (is_known tasks) (parent_names task))

pub returns-then-not-has_sound_form : goal.returns-then-not-has_sound_form
returns-then-not-has_sound_form c = no_is (λ sound. refused_by c.has_sound_form.result c.has_sound_form.ensures c.if-not-has_sound_form.true sound.form)

pub returns-then-not-branch : goal.returns-then-not-branch
returns-then-not-branch c = no_is (λ sound. refused_by c.in_ok-task_reads.field-0 c.in_ok-task_reads.ensures c.if-not-branch.true sound.readable)

pub returns-then-not-branch-2 : goal.returns-then-not-branch-2
returns-then-not-branch-2 c =
    no_is (λ sound. refused_by c.in_ok-has_parents.field-0 c.in_ok-has_parents.ensures c.if-not-branch-2.true (subst (AreKnown c.args.task.now) (sym c.requires) sound.parents_exist))

pub has_few_children-requires : goal.has_few_children-requires
has_few_children-requires c = c.in_ok-task_reads.ensures.0 c.if-not-branch.false

pub returns : goal.returns
returns c =
    let spec = c.args.values.now in
    let task = c.args.task.now in
    IfOk-weaker c.has_few_children.result (λ (yes : Bool). IsTrue yes ↔ (possible_of spec task ≤ most_combinations)) (λ (yes : Bool). IsTrue yes ↔ IsSoundTask spec task)
    (λ yes tells. told_as yes
    (λ few. record {
      form = c.has_sound_form.ensures.0 c.if-not-has_sound_form.false;
      readable = c.in_ok-task_reads.ensures.0 c.if-not-branch.false;
      parents_exist = subst (AreKnown task) c.requires (c.in_ok-has_parents.ensures.0 c.if-not-branch-2.false);
      few_children = few;
    })
    (λ (sound : IsSoundTask spec task). sound.few_children) tells)
    c.has_few_children.ensures
