use Rattle.std.proofs.Common.{map, sym, ◌∙◌}
use Rattle.std.specs.Prelude.{slice_get}
use Rattle.tk_admit.proofs.FirstRun.{first_sound}
use Rattle.tk_admit.proofs.command.decided_facts.Goals as goal

pub facts_of-requires : goal.facts_of-requires
facts_of-requires c =
    λ spec e. first_sound c.args.runs.now spec c.requires
    ((λ i. slice_get (sym c.in_ok-found.ensures i) 0) ∙ ((λ i. slice_get (map (λ s. s.now) (sym c.as_slice-3.ensures.value i)) 0) ∙ (sym c.first.ensures ∙ e)))
