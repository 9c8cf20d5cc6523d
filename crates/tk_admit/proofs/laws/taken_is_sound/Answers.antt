use Rattle.std.proofs.Common.{◌+◌, ◌<◌, ◌≤◌, ◌^◌, length, arith}
use Rattle.tk_types.specs.declared.object.PipelineSpec.{PipelineSpec}
use Rattle.tk_admit.proofs.Sound.{KnowsOrder, taken_is_sound}
use Rattle.tk_admit.proofs.laws.taken_is_sound.Goals as goal

few : (pipeline : PipelineSpec) → length pipeline.tasks + length pipeline.finally ≤ 5000 → length pipeline.tasks + length pipeline.finally < 2 ^ 32
few pipeline h = omega arith

pub returns : goal.returns
returns c =
    let rules = c.valid_pipeline.ensures in
    let orders : KnowsOrder =
    λ item pipeline is own.
    record {
      few = few pipeline (rules.few item pipeline is own);
      names = rules.names item pipeline is own;
      parents = rules.parents item pipeline is own;
      order = rules.order item pipeline is own;
    } in
    λ earlier item spec all own found.
    taken_is_sound
    orders
    c.found_pipeline.ensures
    c.resolved_tasks.ensures.alike
    c.resolved_tasks.ensures.bodies
    c.valid_reads.ensures
    c.resolved_reads.ensures.run
    c.resolved_reads.ensures.task_run
    earlier item spec all own found
