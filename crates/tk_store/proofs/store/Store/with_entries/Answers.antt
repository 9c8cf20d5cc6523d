use Rattle.std.proofs.Common.{◌≡◌, List, ◌++◌, ◌∷◌, reverse, sym, ◌∙◌, ap, subst}
use Rattle.std.specs.Vec.Iter.{into_iter_items}
use Rattle.tk_journal.specs.declared.entry.Entry.{Entry}
use Rattle.tk_journal.specs.Legal.{IsLegal, IsStep}
use Rattle.tk_store.proofs.Admitting.{next_step}
use Rattle.tk_store.proofs.store.Store.with_entries.Goals as goal

pub add-requires-clause-step : goal.add-requires-clause-step
add-requires-clause-step c =
    let l = c.loop-entry in
    let rest = into_iter_items c.next.new.self in
    let all : c.args.entries.items ≡ l.yielded ++ c.in-Some.entry ∷ rest = l.invariant.2 ∙ ap (λ (later : List Entry). l.yielded ++ later) c.in-Some.ensures.steps.0 in
    let step = next_step l.yielded c.in-Some.entry rest (subst (λ (es : List Entry). IsLegal (reverse es)) all c.requires.legal) in
    subst (λ (h : List Entry). IsStep h c.in-Some.entry) (sym l.invariant.0) step
