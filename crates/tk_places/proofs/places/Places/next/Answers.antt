use Rattle.std.proofs.Common.{ℕ, List, subst, sym}
use Rattle.std.specs.Option.{option_copied}
use Rattle.tk_places.specs.Places.{IsNext}
use Rattle.tk_places.proofs.Kept.{next_is}
use Rattle.tk_places.proofs.places.Places.next.Goals as goal

pub returns : goal.returns
returns c =
    subst (IsNext c.args.from c.args.self.now) (sym c.copied.ensures)
    (subst (λ (places : List ℕ). IsNext c.args.from places (option_copied c.next.result)) c.self.view_is (next_is c.args.from c.self.inside.set c.range.result c.next.new.self c.next.result (c.range.ensures.in_range _) c.next.ensures.steps))
