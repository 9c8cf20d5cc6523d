use Rattle.std.proofs.Common.{rules, ◌≡◌, List, refl, ap}
use Rattle.tk_journal.specs.declared.entry.Entry.{Entry}
use Rattle.tk_journal.specs.Effects.{kind_of, name_of}
use Rattle.tk_store.specs.Writes.{Stored, holder_of}
use Rattle.tk_store.proofs.Legality.{created_step}
use Rattle.tk_store.proofs.There.{is_free}
use Rattle.tk_store.proofs.store.Store.create.Goals as goal

pub returns-then-spare-eq0 : goal.returns-then-spare-eq0
returns-then-spare-eq0 c =
    let same : c.self.inside.journal.history ≡ c.args.self.now.history = ap (λ (s : Stored). s.history) c.self.view_is in
    let none : holder_of c.args.self.now.history c.args.entry ≡ 0 = search rules in
    let spare : c.args.self.now.spare ≡ 0 = search rules in
    (is_free (kind_of c.args.entry.act) c.args.self.now.history (name_of c.args.entry.act) none, spare, refl)

pub add-requires-clause-step : goal.add-requires-clause-step
add-requires-clause-step c =
    let same : c.self.inside.journal.history ≡ c.args.self.now.history = ap (λ (s : Stored). s.history) c.self.view_is in
    let none : holder_of c.args.self.now.history c.args.entry ≡ 0 = search rules in
    created_step c.args.self.now.history c.args.entry c.requires.tried c.requires.create none
