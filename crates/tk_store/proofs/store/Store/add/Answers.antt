use Rattle.std.proofs.Common.{rules, ◌≡◌, ◌<◌, List, ◌∷◌, false, ap, sym, subst}
use Rattle.tk_journal.specs.declared.entry.Entry.{Entry}
use Rattle.tk_journal.specs.Effects.{is_create}
use Rattle.tk_journal.specs.Legal.{IsLegal, IsStep}
use Rattle.tk_store.specs.Index.{IsIndex}
use Rattle.tk_store.specs.Writes.{Stored, holder_of}
use Rattle.tk_store.proofs.Legality.{step_there}
use Rattle.tk_store.proofs.store.Store.add.Goals.{then-is_create, else-is_create}
use Rattle.tk_store.proofs.store.Store.add.Goals as goal

pub write-requires-clause-there : goal.write-requires-clause-there
write-requires-clause-there c =
    let same : c.self.inside.journal.history ≡ c.args.self.now.history = ap (λ (s : Stored). s.history) c.self.view_is in
    let update : is_create c.args.entry.act ≡ false = search rules in
    subst (λ (h : List Entry). 0 < holder_of h c.args.entry) (sym same) (step_there c.args.self.now.history c.args.entry c.requires.step update)

pub invariant_of-self : goal.invariant_of-self
invariant_of-self c =
    let same : c.self.inside.journal.history ≡ c.args.self.now.history = ap (λ (s : Stored). s.history) c.self.view_is in
    let step : IsStep c.self.inside.journal.history c.args.entry = subst (λ (h : List Entry). IsStep h c.args.entry) (sym same) c.requires.step in
    let grown : c.push.new.self.history ≡ c.args.entry ∷ c.self.inside.journal.history = search rules in
    let legal : IsLegal (c.args.entry ∷ c.self.inside.journal.history) = (c.self.invariant.0, step) in
    let index : IsIndex (c.args.entry ∷ c.self.inside.journal.history) c.if-is_create.self-inside.index = elim c.if-is_create.branch [
      | then-is_create w ↦ rw w.self-inside-is w.add.ensures.index
      | else-is_create w ↦ rw w.self-inside-is w.write.ensures.index
    ] in
    (subst IsLegal (sym grown) legal, subst (λ (h : List Entry). IsIndex h c.if-is_create.self-inside.index) (sym grown) index)
