use Rattle.std.proofs.Common.{ℕ, List, Bool, true, false, subst, sym}
use Rattle.tk_places.specs.Places.{IsSet}
use Rattle.tk_places.proofs.Kept.{kept_set}
use Rattle.tk_places.proofs.places.Places.set.Goals as goal

pub returns-in_ok-insert-clause-ok : goal.returns-in_ok-insert-clause-ok
returns-in_ok-insert-clause-ok c =
    subst (λ (places : List ℕ). IsSet c.args.place c.args.is_in places c.insert.new.self.keys) c.self.view_is
    (subst (λ (is_in : Bool). IsSet c.args.place is_in c.self.inside.set.keys c.insert.new.self.keys) (sym c.if-is_in.true)
    (kept_set c.args.place true c.self.inside.set.keys c.insert.new.self.keys c.in_ok-insert.ensures.updates.0))

pub returns-else-is_in-clause-ok : goal.returns-else-is_in-clause-ok
returns-else-is_in-clause-ok c =
    subst (λ (places : List ℕ). IsSet c.args.place c.args.is_in places c.remove.new.self.keys) c.self.view_is
    (subst (λ (is_in : Bool). IsSet c.args.place is_in c.self.inside.set.keys c.remove.new.self.keys) (sym c.if-is_in.false)
    (kept_set c.args.place false c.self.inside.set.keys c.remove.new.self.keys c.remove.ensures.updates.0))
