use Rattle.std.specs.Prelude.{codes}
use Rattle.tk_types.specs.Place.{◌▸◌}
use Rattle.tk_admit.specs.Command.{facts_with}
use Rattle.tk_admit.proofs.Children.{children_exist, children_differ}
use Rattle.tk_admit.proofs.Texts.{all_read}
use Rattle.tk_admit.proofs.laws.facts_are_well_formed.Goals as goal

pub returns : goal.returns
returns c =
    λ spec place outcomes sound none.
    record {
      few_tasks = sound.few_tasks;
      children_differ = children_differ spec (place ▸ codes "spec" ▸ codes "children") outcomes.children none;
      children_exist = children_exist spec outcomes.children;
      names_differ = sound.names_differ;
      one_body_each = sound.one_body_each;
      parents_exist = sound.parents_exist;
      acyclic = sound.acyclic;
      readable = all_read (facts_with spec (place, outcomes)) sound.readable;
    }
