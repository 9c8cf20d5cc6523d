use Rattle.std.proofs.Common.{◌≡◌, ◌<◌, ◌∙◌, Bool, Some, ap, arith, false, length, subst, sym}
use Rattle.std.specs.Prelude.{slice_get}
use Rattle.std.proofs.lemmas.Option.{slice_get-get_or}
use Rattle.tk_run.specs.Asks.{TriesWord, clock_told}
use Rattle.tk_run.proofs.Asked.{asks_grow, tried_on, user_asks, user_reads}
use Rattle.tk_run.proofs.asks.ask_word.Goals as goal

pub returns-in_err-tried-clause-user : goal.returns-in_err-tried-clause-user
returns-in_err-tried-clause-user g c since is =
    rw c.in_err-tried.ensures.err (user_reads since (clock_told g.K.Clock.readings g.K.Clock.last c.args.user.now) (clock_told g.K.Clock.readings g.K.Clock.last c.try_word-tried.new.user) c.args.store.now.history c.try_word-tried.ensures.late c.try_word-tried.ensures.told is)

pub returns-then-branch-clause-grows : goal.returns-then-branch-clause-grows
returns-then-branch-clause-grows g c =
    let tried = subst (λ (b : Bool). TriesWord b c.args.asking.now.start c.index-words-place.result (g.K.Clock.last c.try_word-tried.new.user) c.args.store.now.history c.try_word-tried.new.store.history) c.if-branch.true c.in_ok-tried.ensures.tried in
    asks_grow c.index-words-place.result (g.K.Clock.last c.try_word-tried.new.user) c.args.store.now.history c.try_word-tried.new.store.history c.try_word-tried.ensures.within tried.1

pub returns-then-branch-clause-asks : goal.returns-then-branch-clause-asks
returns-then-branch-clause-asks g c since le was =
    let tried = subst (λ (b : Bool). TriesWord b c.args.asking.now.start c.index-words-place.result (g.K.Clock.last c.try_word-tried.new.user) c.args.store.now.history c.try_word-tried.new.store.history) c.if-branch.true c.in_ok-tried.ensures.tried in
    let flags = c.args.asking.now.tried.items in
    let within : c.args.place < length flags = (let count = c.requires.count in let place = c.requires.place in omega (arith, count, place)) in
    let untried : slice_get flags c.args.place ≡ Some false = slice_get-get_or flags c.args.place c.index.result.now within ∙ ap Some (sym c.index.ensures ∙ c.if-index.false) in
    let at : slice_get c.args.words.now c.args.place ≡ Some c.index-words-place.result = slice_get-get_or c.args.words.now c.args.place c.index-words-place.result c.requires.place ∙ ap Some (sym c.index-words-place.is) in
    let late = tried.0 in
    tried_on since c.args.words.now flags c.args.place c.index-words-place.result at untried c.args.store.now.history (g.K.Clock.last c.try_word-tried.new.user) c.try_word-tried.new.store.history (omega (arith, le, late)) c.legal-2.ensures tried.1 was

pub returns-then-branch-clause-user : goal.returns-then-branch-clause-user
returns-then-branch-clause-user g c since is =
    let tried = subst (λ (b : Bool). TriesWord b c.args.asking.now.start c.index-words-place.result (g.K.Clock.last c.try_word-tried.new.user) c.args.store.now.history c.try_word-tried.new.store.history) c.if-branch.true c.in_ok-tried.ensures.tried in
    user_asks since (clock_told g.K.Clock.readings g.K.Clock.last c.args.user.now) (clock_told g.K.Clock.readings g.K.Clock.last c.try_word-tried.new.user) c.index-words-place.result c.args.store.now.history c.try_word-tried.new.store.history c.try_word-tried.ensures.late c.try_word-tried.ensures.told tried.1 is

pub returns-else-branch-clause-user : goal.returns-else-branch-clause-user
returns-else-branch-clause-user g c since is =
    let tried = subst (λ (b : Bool). TriesWord b c.args.asking.now.start c.index-words-place.result (g.K.Clock.last c.try_word-tried.new.user) c.args.store.now.history c.try_word-tried.new.store.history) c.if-branch.false c.in_ok-tried.ensures.tried in
    rw tried (user_reads since (clock_told g.K.Clock.readings g.K.Clock.last c.args.user.now) (clock_told g.K.Clock.readings g.K.Clock.last c.try_word-tried.new.user) c.args.store.now.history c.try_word-tried.ensures.late c.try_word-tried.ensures.told is)
