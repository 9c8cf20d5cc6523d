use Rattle.std.proofs.Common.{◌≡◌, ◌<◌, ◌∙◌, List, Some, ap, arith, false, length, subst, sym, ℕ}
use Rattle.std.specs.Prelude.{slice_get}
use Rattle.std.proofs.lemmas.Option.{slice_get-get_or}
use Rattle.tk_journal.specs.declared.entry.Entry.{Entry}
use Rattle.tk_user.specs.Ask.{refusal}
use Rattle.tk_run.proofs.Asked.{tried_refused}
use Rattle.tk_run.proofs.asks.refuse_word.Goals as goal

pub returns-in-Some-clause-asks : goal.returns-in-Some-clause-asks
returns-in-Some-clause-asks c since was =
    let flags = c.args.asking.now.tried.items in
    let word = c.index-words-place.result in
    let within : c.args.place < length flags = (let count = c.requires.count in let place = c.requires.place in omega (arith, count, place)) in
    let untried : slice_get flags c.args.place ≡ Some false = slice_get-get_or flags c.args.place c.index.result.now within ∙ ap Some (sym c.index.ensures ∙ c.if-index.false) in
    let at : slice_get c.args.words.now c.args.place ≡ Some word = slice_get-get_or c.args.words.now c.args.place word c.requires.place ∙ ap Some (sym c.index-words-place.is) in
    let named = subst (λ (name : List ℕ). refusal c.journal.result.now.history name word.status ≡ Some c.in-Some.field-0) c.as_str.ensures (sym c.in_ok-refused.ensures ∙ c.in-Some.is) in
    let due = subst (λ (h : List Entry). refusal h word.run word.status ≡ Some c.in-Some.field-0) c.journal.ensures named in
    tried_refused since c.args.words.now flags c.args.place word at untried c.args.store.now.history (record { answer = c.in-Some.field-0; due = due }) was
