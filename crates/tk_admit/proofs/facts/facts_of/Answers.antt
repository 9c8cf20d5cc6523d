use Rattle.std.specs.Prelude.{option_map}
use Rattle.tk_admit.proofs.facts.facts_of.Goals as goal

pub facts_of_both-requires : goal.facts_of_both-requires
facts_of_both-requires c = c.requires c.in-Some-Some.spec.now (λ i. option_map (λ s. s.now) (c.in-Some-Some.is-0 i))
