-- The fronts of a member's entries are covered by its gate's answers, with enough Work answers from there on.
use Rattle.std.proofs.Common.{◌≡◌, ℕ, suc, ◌≤◌, List, [], ◌∷◌, ◌++◌, length, true, false, refl, sym, ap, subst, ◌∙◌, arith, inl, inr}
use Rattle.std.specs.Prelude.{Bool, min}
use Rattle.tk_types.specs.declared.scenario.Kind.{Kind}
use Rattle.tk_types.specs.declared.scenario.Kind.TheVariants as kinds
use Rattle.tk_edge.specs.declared.gate.GateTurn.{GateTurn}
use Rattle.tk_edge.specs.declared.gate.GateTurn.TheVariants.{Deliver, Relist, Work, Pause}
use Rattle.tk_journal.specs.declared.entry.Fronts.{Fronts}
use Rattle.tk_journal.specs.declared.entry.Entry.{Entry}
use Rattle.tk_journal.specs.Fronts.{AreWithin}
use Rattle.tk_journal.proofs.Past.{past_older}
use Rattle.tk_cache.specs.Fronts.{delivered, listed, count_of_kind, count_until}
use Rattle.tk_cache.proofs.Counts.{count_next, count_listed}
use Rattle.tk_rounds.specs.Members.{count_that}
use Rattle.tk_rounds.specs.Covered.{allowed, works, IsCovered, HasAnswers, AreCovered}
use Rattle.tk_rounds.specs.Timed.{moments, IsSublist, AreTimed}
use Rattle.tk_rounds.specs.Turning.{fronts_after, is_move}

abbrev first_or : Entry → List Entry → Entry
first_or e [] = e
first_or e (x ∷ xs) = x

abbrev rest_of : List Entry → List Entry
rest_of [] = []
rest_of (x ∷ xs) = xs

same_first : (x y : Entry) (xs ys : List Entry) → x ∷ xs ≡ y ∷ ys → x ≡ y
same_first x y xs ys same = ap (first_or x) same

same_rest : (x y : Entry) (xs ys : List Entry) → x ∷ xs ≡ y ∷ ys → xs ≡ ys
same_rest x y xs ys same = ap rest_of same

-- one more answer takes nothing away
one_more : (answer : GateTurn) (answers : List GateTurn) (newer : ℕ) (older : List Entry) (fronts : Fronts) → HasAnswers answers newer older fronts → HasAnswers (answer ∷ answers) newer older fronts
one_more answer answers newer older fronts has = record {
  later = answer ∷ has.later;
  before = has.before;
  split = ap (λ (a : List GateTurn). answer ∷ a) has.split;
  covered = has.covered;
  worked = let w = has.worked in omega (arith, w);
}

-- one more Work answer serves one more entry
one_work : (answers : List GateTurn) (newer : ℕ) (older : List Entry) (fronts : Fronts) → HasAnswers answers newer older fronts → HasAnswers (Work ∷ answers) (suc newer) older fronts
one_work answers newer older fronts has = record {
  later = Work ∷ has.later;
  before = has.before;
  split = ap (λ (a : List GateTurn). Work ∷ a) has.split;
  covered = has.covered;
  worked = let w = has.worked in omega (arith, w);
}

module _ (mine : Entry → Bool) where
  count_hit : (e : Entry) (older : List Entry) → mine e ≡ true → count_that mine (e ∷ older) ≡ suc (count_that mine older)
  count_hit e older hit = rw hit refl

  count_miss : (e : Entry) (older : List Entry) → mine e ≡ false → count_that mine (e ∷ older) ≡ count_that mine older
  count_miss e older miss = rw miss refl

  pub covered_answer : (answer : GateTurn) (answers : List GateTurn) (history : List Entry) → AreCovered mine answers history → AreCovered mine (answer ∷ answers) history
  covered_answer answer answers history covered newer e older at own = one_more answer answers (count_that mine newer) older e.fronts (covered newer e older at own)

  pub covered_other : (answers : List GateTurn) (history : List Entry) (other : Entry) → mine other ≡ false → AreCovered mine answers history → AreCovered mine answers (other ∷ history)
  covered_other answers history other not_mine covered [] e older at own = let both = sym not_mine ∙ (ap mine (same_first other e history older at) ∙ own) in cc (both)
  covered_other answers history other not_mine covered (x ∷ newer) e older at own =
      let miss : mine x ≡ false = ap mine (sym (same_first other x history (newer ++ e ∷ older) at)) ∙ not_mine in
      rw (count_miss x newer miss) (covered newer e older (same_rest other x history (newer ++ e ∷ older) at) own)

  pub covered_write : (answers : List GateTurn) (history : List Entry) (wrote : Entry) → mine wrote ≡ true → IsCovered answers history wrote.fronts → AreCovered mine answers history → AreCovered mine (Work ∷ answers) (wrote ∷ history)
  covered_write answers history wrote is_mine fronts covered [] e older at own = record {
    later = Work ∷ [];
    before = answers;
    split = refl;
    covered = subst (λ (h : List Entry). IsCovered answers h e.fronts) (same_rest wrote e history older at) (subst (λ (x : Entry). IsCovered answers history x.fronts) (same_first wrote e history older at) fronts);
    worked = omega arith;
  }
  covered_write answers history wrote is_mine fronts covered (x ∷ newer) e older at own =
      let hit : mine x ≡ true = ap mine (sym (same_first wrote x history (newer ++ e ∷ older) at)) ∙ is_mine in
      rw (count_hit x newer hit) (one_work answers (count_that mine newer) older e.fronts (covered newer e older (same_rest wrote x history (newer ++ e ∷ older) at) own))

-- no entry more stands at or before a front that is within the history
until_same : (kind : Kind) (front : ℕ) (e : Entry) (history : List Entry) → front ≤ length history → count_until kind front (e ∷ history) ≡ count_until kind front history
until_same kind front e history within = ap (count_of_kind kind) (past_older front e history within)

-- moments

sublist_skip : (xs ys : List ℕ) (y : ℕ) → IsSublist xs ys → IsSublist xs (y ∷ ys)
sublist_skip [] ys y is = tt
sublist_skip (x ∷ xs) ys y is = inr is

not_work : (answer : GateTurn) (answers : List GateTurn) → is_move answer ≡ true → works (answer ∷ answers) ≡ works answers
not_work (Deliver kind n) answers is = omega arith
not_work (Relist kind position) answers is = omega arith
not_work Work answers is = cc
not_work Pause answers is = cc

module _ (mine : Entry → Bool) where
  pub timed_move : (answer : GateTurn) (answers : List GateTurn) (readings : List ℕ) (history : List Entry) → is_move answer ≡ true → AreTimed mine answers readings history → AreTimed mine (answer ∷ answers) readings history
  timed_move answer answers readings history is timed = record { one_each = timed.one_each ∙ sym (not_work answer answers is); own = timed.own }

  pub timed_idle : (reading : ℕ) (answers : List GateTurn) (readings : List ℕ) (history : List Entry) → AreTimed mine answers readings history → AreTimed mine (Work ∷ answers) (reading ∷ readings) history
  timed_idle reading answers readings history timed = record { one_each = let one = timed.one_each in omega (arith, one); own = sublist_skip (moments mine history) readings reading timed.own }

  pub timed_write : (answers : List GateTurn) (readings : List ℕ) (history : List Entry) (e : Entry) → mine e ≡ true → AreTimed mine answers readings history → AreTimed mine (Work ∷ answers) (e.moment ∷ readings) (e ∷ history)
  timed_write answers readings history e is timed = record { one_each = let one = timed.one_each in omega (arith, one); own = rw is (inl (refl, timed.own)) }

  pub timed_other : (answers : List GateTurn) (readings : List ℕ) (history : List Entry) (e : Entry) → mine e ≡ false → AreTimed mine answers readings history → AreTimed mine answers readings (e ∷ history)
  timed_other answers readings history e is timed = record { one_each = timed.one_each; own = rw is timed.own }

-- fronts

pub fronts_work : (answers : List GateTurn) (history : List Entry) (fronts : Fronts) → IsCovered answers history fronts → IsCovered (Work ∷ answers) history fronts
fronts_work answers history fronts is =
    let r = is.runs in
    let t = is.task_runs in
    let p = is.pods in
    record { runs = omega (arith, r); task_runs = omega (arith, t); pods = omega (arith, p) }

pub fronts_on : (e : Entry) (history : List Entry) (fronts : Fronts) (answers : List GateTurn) → AreWithin fronts history → IsCovered answers history fronts → IsCovered answers (e ∷ history) fronts
fronts_on e history fronts answers within is = record {
  runs = rw (until_same kinds.Runs fronts.runs e history within.runs) is.runs;
  task_runs = rw (until_same kinds.TaskRuns fronts.task_runs e history within.task_runs) is.task_runs;
  pods = rw (until_same kinds.Pods fronts.pods e history within.pods) is.pods;
}

none_until : (kind : Kind) (history : List Entry) → count_until kind 0 history ≡ 0
none_until kind history = let le = count_listed kind 0 history in omega (arith, le)

-- fronts within nothing are covered by any answers
pub fronts_none : (answers : List GateTurn) (history : List Entry) (fronts : Fronts) → AreWithin fronts [] → IsCovered answers history fronts
fronts_none answers history fronts within = record {
  runs = start kinds.Runs fronts.runs within.runs;
  task_runs = start kinds.TaskRuns fronts.task_runs within.task_runs;
  pods = start kinds.Pods fronts.pods within.pods;
}
  where
    start : (kind : Kind) (front : ℕ) → front ≤ 0 → count_until kind front history ≤ allowed kind answers
    start kind front le =
        let zero_front : front ≡ 0 = omega (arith, le) in
        let none : count_until kind front history ≡ 0 = rw zero_front (none_until kind history) in
        omega (arith, none)

delivered_on : (answers : List GateTurn) (history : List Entry) (fronts : Fronts) (kind : Kind) (n : ℕ) → IsCovered answers history fronts → IsCovered (Deliver kind n ∷ answers) history (delivered kind n fronts history)
delivered_on answers history fronts kinds.Runs n is =
    let a = is.runs in let b = is.task_runs in let c = is.pods in
    let next = count_next kinds.Runs n fronts.runs history in
    record { runs = omega (arith, a, next); task_runs = omega (arith, b); pods = omega (arith, c) }
delivered_on answers history fronts kinds.TaskRuns n is =
    let a = is.runs in let b = is.task_runs in let c = is.pods in
    let next = count_next kinds.TaskRuns n fronts.task_runs history in
    record { runs = omega (arith, a); task_runs = omega (arith, b, next); pods = omega (arith, c) }
delivered_on answers history fronts kinds.Pods n is =
    let a = is.runs in let b = is.task_runs in let c = is.pods in
    let next = count_next kinds.Pods n fronts.pods history in
    record { runs = omega (arith, a); task_runs = omega (arith, b); pods = omega (arith, c, next) }

listed_on : (answers : List GateTurn) (history : List Entry) (fronts : Fronts) (kind : Kind) (position front : ℕ) → front ≤ position → IsCovered answers history fronts → IsCovered (Relist kind position ∷ answers) history (listed kind front fronts)
listed_on answers history fronts kinds.Runs position front le is =
    let b = is.task_runs in let c = is.pods in
    let short = count_listed kinds.Runs front history in
    record { runs = omega (arith, le, short); task_runs = omega (arith, b); pods = omega (arith, c) }
listed_on answers history fronts kinds.TaskRuns position front le is =
    let a = is.runs in let c = is.pods in
    let short = count_listed kinds.TaskRuns front history in
    record { runs = omega (arith, a); task_runs = omega (arith, le, short); pods = omega (arith, c) }
listed_on answers history fronts kinds.Pods position front le is =
    let a = is.runs in let b = is.task_runs in
    let short = count_listed kinds.Pods front history in
    record { runs = omega (arith, a); task_runs = omega (arith, b); pods = omega (arith, le, short) }

pub fronts_moved : (answer : GateTurn) (answers : List GateTurn) (history : List Entry) (fronts : Fronts) → is_move answer ≡ true → IsCovered answers history fronts → IsCovered (answer ∷ answers) history (fronts_after answer history fronts)
fronts_moved (Deliver kind n) answers history fronts moves is = delivered_on answers history fronts kind n is
fronts_moved (Relist kind position) answers history fronts moves is = listed_on answers history fronts kind position (min position (length history)) (omega arith) is
fronts_moved Work answers history fronts moves is = cc
fronts_moved Pause answers history fronts moves is = cc
