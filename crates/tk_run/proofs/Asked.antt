-- What was asked stands behind what members do, and behind each ask.
use Rattle.std.proofs.Common.{◌≡◌, ◌≢◌, ◌≤◌, ◌+◌, ℕ, zero, suc, List, [], ◌∷◌, length, Option, Some, None, true, false, refl, sym, ◌∙◌, ap, subst, arith, Contains, inl, inr}
use Rattle.std.specs.Prelude.{All, Bool, ◌⊎◌, slice_get, slice_set}
use Rattle.std.proofs.lemmas.List.Elements.{All-cons, All-head, All-nil, All-tail}
use Rattle.std.proofs.lemmas.List.Kept.{AllPairs-cons}
use Rattle.std.proofs.lemmas.Option.{same_Some, slice_get_within}
use Rattle.tk_edge.specs.Readings.{AddsWhileTold, last_moment}
use Rattle.tk_journal.specs.declared.act.Act.{Act}
use Rattle.tk_journal.specs.declared.act.Act.TheVariants as acts
use Rattle.tk_journal.specs.declared.entry.Actor.{Actor}
use Rattle.tk_journal.specs.declared.entry.Entry.{Entry}
use Rattle.tk_journal.specs.History.{View, view_at}
use Rattle.tk_journal.specs.Legal.{IsLegal, is_admit}
use Rattle.tk_journal.specs.Rows.{IsJustified}
use Rattle.tk_user.specs.Ask.{ask_entry}
use Rattle.tk_rounds.specs.Follows.{IsToldWhile}
use Rattle.tk_rounds.specs.Growth.{GrowsBy}
use Rattle.tk_rounds.proofs.Growing.{grows_none, grows_one}
use Rattle.tk_rounds.specs.Timed.{IsSublist, moments}
use Rattle.tk_rounds.proofs.Parts.{set_cases}
use Rattle.tk_rounds.proofs.Standing.{between_later, took_on}
use Rattle.tk_run.specs.declared.asks.AskWord.{AskWord}
use Rattle.tk_run.specs.Asks.{AreAllTried, AreAsksAt, AreTried, Asks, ClockTold, IsEachTried, IsNoneTried, IsOfUser, IsRefusedAtEnd, UserFollows, asks_of, by_user, is_ask, of_user}
use Rattle.tk_run.proofs.Refused.{refused_stays}

-- nobody else asks

asked_by : (view : View) (actor : Actor) (moment : ℕ) (act : Act) → by_user actor ≡ false → IsJustified view actor moment act → is_ask act ≡ false
asked_by view actor moment (acts.Ask name status) other justified = let user = ap by_user justified.0 in let both = sym user ∙ other in cc (both)
asked_by view actor moment _ other justified = refl

module _ (since : ℕ) (words : List AskWord) (older : List Entry) (e : Entry) (legal : IsLegal (e ∷ older)) where
  same_asks : of_user e ≡ false → asks_of (e ∷ older) ≡ asks_of older
  same_asks other = let none = asked_by (view_at e.fronts older) e.actor e.moment e.act other legal.1.justified in rw none refl

  refused_later : (tried : List Bool) (places : List ℕ) → is_admit e.act ≡ false → ((place : ℕ) (word : AskWord) → slice_get words place ≡ Some word → slice_get tried place ≡ Some true → Contains places place ⊎ IsRefusedAtEnd older word)
      → (place : ℕ) (word : AskWord) → slice_get words place ≡ Some word → slice_get tried place ≡ Some true → Contains places place ⊎ IsRefusedAtEnd (e ∷ older) word
  refused_later tried places admits each place word at is = elim (each place word at is) [
    | inl has ↦ inl has
    | inr refused ↦ inr (refused_stays older e legal admits word refused)
  ]

  -- an entry of a member
  pub tried_other : (tried : List Bool) → of_user e ≡ false → is_admit e.act ≡ false → AreTried since words tried older → AreTried since words tried (e ∷ older)
  tried_other tried other admits was = record {
    asked = record { places = was.asked.places; apart = was.asked.apart; at = subst (AreAsksAt since words was.asked.places) (sym (same_asks other)) was.asked.at };
    only = was.only;
    each = refused_later tried was.asked.places admits was.each;
  }

-- the word at a place was tried

tried_cases : (tried : List Bool) (place other : ℕ) → slice_get (slice_set tried place true) other ≡ Some true → (other ≡ place) ⊎ (slice_get tried other ≡ Some true)
tried_cases tried place other is = elim (set_cases tried place other true true is) [
  | inl hit ↦ inl hit.0
  | inr miss ↦ inr miss.1
]

tried_set : (tried : List Bool) (place other : ℕ) → slice_get tried other ≡ Some true → slice_get (slice_set tried place true) other ≡ Some true
tried_set [] place other is = cc (is)
tried_set (t ∷ ts) zero zero is = refl
tried_set (t ∷ ts) zero (suc other) is = is
tried_set (t ∷ ts) (suc place) zero is = is
tried_set (t ∷ ts) (suc place) (suc other) is = tried_set ts place other is

set_here : (tried : List Bool) (place : ℕ) (was : Bool) → slice_get tried place ≡ Some was → slice_get (slice_set tried place true) place ≡ Some true
set_here [] place was is = cc (is)
set_here (t ∷ ts) zero was is = refl
set_here (t ∷ ts) (suc place) was is = set_here ts place was is

contains_cases : (x y : ℕ) (xs : List ℕ) → Contains (x ∷ xs) y → (y ≡ x) ⊎ Contains xs y
contains_cases x y xs (zero, below, is) = inl (sym is)
contains_cases x y xs (suc k, below, is) = inr (k, omega (arith, below), is)

contains_first : (x : ℕ) (xs : List ℕ) → Contains (x ∷ xs) x
contains_first x xs = (zero, omega arith, refl)

contains_more : (x y : ℕ) (xs : List ℕ) → Contains xs y → Contains (x ∷ xs) y
contains_more x y xs (k, below, is) = (suc k, omega (arith, below), is)

all_from : (x : ℕ) (xs : List ℕ) → ((y : ℕ) → Contains xs y → x ≢ y) → All (λ (y : ℕ). x ≢ y) xs
all_from x [] differ = All-nil (λ (y : ℕ). x ≢ y)
all_from x (y ∷ ys) differ = All-cons (λ (z : ℕ). x ≢ z) y ys (differ y (contains_first y ys)) (all_from x ys (λ z has. differ z (contains_more y z ys has)))

module _ (since : ℕ) (words : List AskWord) (tried : List Bool) (place : ℕ) (word : AskWord) (at : slice_get words place ≡ Some word) (untried : slice_get tried place ≡ Some false) (older : List Entry) where
  -- it was refused
  pub tried_refused : IsRefusedAtEnd older word → AreTried since words tried older → AreTried since words (slice_set tried place true) older
  tried_refused refused was = record {
    asked = was.asked;
    only = λ other has. tried_set tried place other (was.only other has);
    each = λ other w at_w is. elim (tried_cases tried place other is) [
      | inl here ↦ inr (subst (IsRefusedAtEnd older) (same_Some word w (sym at ∙ (ap (slice_get words) (sym here) ∙ at_w))) refused)
      | inr there ↦ was.each other w at_w there
    ];
  }

  -- its entry was added
  module _ (moment : ℕ) (late : since + word.delay ≤ moment) where
    abbrev entry : Entry
    entry = ask_entry older word.run word.status moment

    -- no entry was of this word
    unplaced : (was : AreTried since words tried older) → (other : ℕ) → Contains was.asked.places other → place ≢ other
    unplaced was other has same =
        let is : slice_get tried place ≡ Some true = ap (slice_get tried) same ∙ was.only other has in
        let both : false ≡ true = same_Some false true (sym untried ∙ is) in
        cc (both)

    pub tried_added : IsLegal (entry ∷ older) → AreTried since words tried older → AreTried since words (slice_set tried place true) (entry ∷ older)
    tried_added legal was = record {
      asked = record {
        places = place ∷ was.asked.places;
        apart = AllPairs-cons (λ (a b : ℕ). a ≢ b) place was.asked.places (all_from place was.asked.places (unplaced was)) was.asked.apart;
        at = (record { word = word; at = at; asks = record { act = refl; late = late } }, was.asked.at);
      };
      only = λ other has. elim (contains_cases place other was.asked.places has) [
        | inl here ↦ ap (slice_get (slice_set tried place true)) here ∙ set_here tried place false untried
        | inr there ↦ tried_set tried place other (was.only other there)
      ];
      each = λ other w at_w is. elim (tried_cases tried place other is) [
        | inl here ↦ inl (subst (Contains (place ∷ was.asked.places)) (sym here) (contains_first place was.asked.places))
        | inr there ↦ elim (refused_later since words older entry legal tried was.asked.places refl was.each other w at_w there) [
          | inl has ↦ inl (contains_more place other was.asked.places has)
          | inr refused ↦ inr refused
        ]
      ];
    }

  -- so either way
  pub tried_on : (moment : ℕ) (after : List Entry) → since + word.delay ≤ moment → IsLegal after → Asks word moment older after → AreTried since words tried older → AreTried since words (slice_set tried place true) after
  tried_on moment after late legal (inl refused) was = subst (AreTried since words (slice_set tried place true)) (sym refused.1) (tried_refused refused.0 was)
  tried_on moment after late legal (inr added) was = subst (AreTried since words (slice_set tried place true)) (sym added) (tried_added moment late (subst IsLegal added legal) was)

-- nothing is asked yet

module _ (since : ℕ) (words : List AskWord) where
  admits_no_ask : (act : Act) → is_admit act ≡ true → is_ask act ≡ false
  admits_no_ask (acts.Admit name spec pending asked root) admits = refl
  admits_no_ask _ admits = cc

  none_asked : (history : List Entry) → All (λ (e : Entry). is_admit e.act ≡ true) history → asks_of history ≡ []
  none_asked [] admits = refl
  none_asked (e ∷ older) admits =
      let none = admits_no_ask e.act (All-head (λ (d : Entry). is_admit d.act ≡ true) e older admits) in
      rw none (none_asked older (All-tail (λ (d : Entry). is_admit d.act ≡ true) e older admits))

  pub tried_none : (tried : List Bool) (history : List Entry) → IsNoneTried tried → All (λ (e : Entry). is_admit e.act ≡ true) history → AreTried since words tried history
  tried_none tried history none admits = record {
    asked = record { places = []; apart = λ i j d less below. absurd (omega (arith, below)); at = subst (AreAsksAt since words []) (sym (none_asked history admits)) tt };
    only = λ place has. let below = has.1 in absurd (omega (arith, below));
    each = λ place word at is. absurd (none place is);
  }

-- each moment of the user is a reading of its own

module _ (since : ClockTold) where
  pub user_other : (now : ClockTold) (older : List Entry) (e : Entry) → of_user e ≡ false → UserFollows since now older → UserFollows since now (e ∷ older)
  user_other now older e other is = record {
    readings = is.readings;
    took = is.took;
    between = is.between;
    own = rw other is.own;
  }

  -- a reading, and the entry that it is the moment of, or none
  reads : (before after : ClockTold) (older : List Entry) → before.last ≤ after.last → AddsWhileTold after.last before.readings after.readings → (is : UserFollows since before older) → (history : List Entry) → IsSublist (moments of_user history) (after.last ∷ is.readings) → UserFollows since after history
  reads before after older later told is history own = record {
    readings = after.last ∷ is.readings;
    took = took_on since.readings is.readings before.readings after.readings after.last is.took told;
    between = (omega arith, between_later since.last is.readings before.last after.last is.between later);
    own = own;
  }

  skipped : (xs readings : List ℕ) (reading : ℕ) → IsSublist xs readings → IsSublist xs (reading ∷ readings)
  skipped [] readings reading is = tt
  skipped (x ∷ xs) readings reading is = inr is

  pub user_reads : (before after : ClockTold) (older : List Entry) → before.last ≤ after.last → AddsWhileTold after.last before.readings after.readings → UserFollows since before older → UserFollows since after older
  user_reads before after older later told is = reads before after older later told is older (skipped (moments of_user older) is.readings after.last is.own)

  pub user_asks : (before after : ClockTold) (word : AskWord) (older history : List Entry) → before.last ≤ after.last → AddsWhileTold after.last before.readings after.readings → Asks word after.last older history → UserFollows since before older → UserFollows since after history
  user_asks before after word older history later told (inl refused) is = subst (UserFollows since after) (sym refused.1) (user_reads before after older later told is)
  user_asks before after word older history later told (inr added) is = subst (UserFollows since after) (sym added) (reads before after older later told is (ask_entry older word.run word.status after.last ∷ older) (inl (refl, is.own)))

pub user_starts : (told : ClockTold) (history : List Entry) → All (λ (e : Entry). of_user e ≡ false) history → UserFollows told told history
user_starts told history none = record { readings = []; took = nothing told.readings; between = omega arith; own = subst (λ (ms : List ℕ). IsSublist ms []) (sym (no_moments history none)) tt }
  where
    nothing : (o : Option (List ℕ)) → IsToldWhile o [] o
    nothing None = tt
    nothing (Some readings) = refl

    no_moments : (history : List Entry) → All (λ (e : Entry). of_user e ≡ false) history → moments of_user history ≡ []
    no_moments [] none = refl
    no_moments (e ∷ older) none = rw (All-head (λ (d : Entry). of_user d ≡ false) e older none) (no_moments older (All-tail (λ (d : Entry). of_user d ≡ false) e older none))

-- an ask grows the journal by an entry of the user, or not at all
pub asks_grow : (word : AskWord) (moment : ℕ) (history after : List Entry) → moment ≤ last_moment → Asks word moment history after → GrowsBy IsOfUser history after
asks_grow word moment history after within (inl refused) = subst (GrowsBy IsOfUser history) (sym refused.1) (grows_none IsOfUser history)
asks_grow word moment history after within (inr added) = grows_one IsOfUser history (ask_entry history word.run word.status moment) after added (refl, within)

-- where each word was tried
pub all_tried_by : (since : ℕ) (words : List AskWord) (tried : List Bool) (history : List Entry) → length tried ≡ length words → IsEachTried tried → AreTried since words tried history → AreAllTried since words history
all_tried_by since words tried history count each was = record {
  asked = was.asked;
  each = λ place word at. was.each place word at (each place (let within = slice_get_within words place word at in omega (arith, within, count)));
}
