use Rattle.std.proofs.Common.{rules, ◌≡◌, refl, ap}
use Rattle.tk_store.specs.Writes.{Stored, version_now, version_seen}
use Rattle.tk_store.proofs.Legality.{seen_less}
use Rattle.tk_store.proofs.store.Store.update.Goals as goal

pub returns-then-found-expected : goal.returns-then-found-expected
returns-then-found-expected c =
    let same : c.self.inside.journal.history ≡ c.args.self.now.history = ap (λ (s : Stored). s.history) c.self.view_is in
    let now : c.version-found.result ≡ version_now c.args.self.now.history c.args.entry = search rules in
    let moved : version_seen c.args.self.now.history c.args.entry ≡ version_now c.args.self.now.history c.args.entry → ⊥ = λ seen. search rules in
    (record { now = now; newer = rw now (seen_less c.args.self.now.history c.args.entry moved) }, refl)
