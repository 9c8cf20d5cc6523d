-- What stands of a bench that begins, over a journal that only admits.
use Rattle.std.proofs.Common.{◌≡◌, ◌≤◌, ℕ, List, [], ◌∷◌, ◌++◌, Option, Some, None, true, false, refl, sym, ◌∙◌, ap, subst, arith}
use Rattle.std.specs.Prelude.{All, Bool}
use Rattle.std.proofs.lemmas.List.Elements.{All-nil, All-cons, All-head, All-tail}
use Rattle.tk_edge.specs.declared.event.Event.{Event}
use Rattle.tk_edge.specs.declared.gate.GateTurn.{GateTurn}
use Rattle.tk_journal.specs.declared.act.Act.{Act}
use Rattle.tk_journal.specs.declared.act.Act.TheVariants as acts
use Rattle.tk_journal.specs.declared.entry.Actor.{Actor}
use Rattle.tk_journal.specs.declared.entry.Actor.TheVariants as actors
use Rattle.tk_journal.specs.declared.entry.Entry.{Entry}
use Rattle.tk_journal.specs.declared.entry.Fronts.{Fronts}
use Rattle.tk_journal.specs.Fronts.{AreWithin}
use Rattle.tk_journal.specs.History.{View, view_at}
use Rattle.tk_journal.specs.Legal.{IsLegal, is_admit}
use Rattle.tk_journal.specs.Rows.{IsJustified}
use Rattle.tk_cache.specs.Views.{seen}
use Rattle.tk_cache.proofs.Showing.{shows_none}
use Rattle.tk_held.specs.Laws.{AreAdmits, HasNoClaim}
use Rattle.tk_held.proofs.Nothing.{nothing_is_met}
use Rattle.tk_kubelet.specs.Holding.{IsMet, holding_of}
use Rattle.tk_rounds.specs.declared.bench.Controller.{Controller}
use Rattle.tk_rounds.specs.declared.bench.Node.{Node}
use Rattle.tk_rounds.specs.Bench.{ControllerFollows, IsReadyController, IsReadyNode, NodeFollows}
use Rattle.tk_rounds.specs.Covered.{AreCovered}
use Rattle.tk_rounds.specs.Follows.{FollowsSince, IsToldSince, IsToldWhile, Told, told_by}
use Rattle.tk_rounds.specs.Outcomes.{HasOutcomes}
use Rattle.tk_rounds.specs.Members.{AreOfLife, IsOfLife, by_controller, by_kubelet, of_controller, of_kubelet}
use Rattle.tk_rounds.specs.Timed.{IsSublist, moments}
use Rattle.tk_rounds.proofs.Choosing.{chosen_none}
use Rattle.tk_rounds.proofs.Coverage.{fronts_none}
use Rattle.tk_edge.specs.Readings.{AddsWhileTold}
use Rattle.tk_run.specs.Asks.{UserFollows, by_user, clock_told, of_user}
use Rattle.tk_run.proofs.Asked.{user_reads, user_starts}
use Rattle.tk_run.specs.Begun.{IsNewController, IsNewNode, controller_begun, node_begun}

-- what admits is of admission

admission_by : (view : View) (actor : Actor) (moment : ℕ) (act : Act) → is_admit act ≡ true → IsJustified view actor moment act → actor ≡ actors.Admission
admission_by view actor moment (acts.Admit name spec pending asked root) admits justified = justified
admission_by view actor moment _ admits justified = cc

abbrev IsOfAdmission : Entry → Type 0
IsOfAdmission e = e.actor ≡ actors.Admission

pub all_of_admission : (history : List Entry) → IsLegal history → AreAdmits history → All IsOfAdmission history
all_of_admission [] legal admits = All-nil IsOfAdmission
all_of_admission (e ∷ older) legal admits =
    All-cons IsOfAdmission e older (admission_by (view_at e.fronts older) e.actor e.moment e.act (All-head (λ (x : Entry). is_admit x.act ≡ true) e older admits) legal.1.justified)
    (all_of_admission older legal.0 (All-tail (λ (x : Entry). is_admit x.act ≡ true) e older admits))

-- entries that are none of a member's

abbrev IsNone : (Entry → Bool) → Entry → Type 0
IsNone mine e = mine e ≡ false

all_as : (mine : Entry → Bool) → ((e : Entry) → IsOfAdmission e → IsNone mine e) → (history : List Entry) → All IsOfAdmission history → All (IsNone mine) history
all_as mine none [] all = All-nil (IsNone mine)
all_as mine none (e ∷ older) all = All-cons (IsNone mine) e older (none e (All-head IsOfAdmission e older all)) (all_as mine none older (All-tail IsOfAdmission e older all))

pub none_of_controller : (number : ℕ) (history : List Entry) → All IsOfAdmission history → All (IsNone (of_controller number)) history
none_of_controller number history all = all_as (of_controller number) (λ e is. ap (by_controller number) is) history all

pub none_of_kubelet : (number : ℕ) (history : List Entry) → All IsOfAdmission history → All (IsNone (of_kubelet number)) history
none_of_kubelet number history all = all_as (of_kubelet number) (λ e is. ap (by_kubelet number) is) history all

module _ (mine : Entry → Bool) where
  in_middle : (newer : List Entry) (e : Entry) (older : List Entry) → All (IsNone mine) (newer ++ e ∷ older) → IsNone mine e
  in_middle [] e older all = All-head (IsNone mine) e older all
  in_middle (x ∷ newer) e older all = in_middle newer e older (All-tail (IsNone mine) x (newer ++ e ∷ older) all)

  covered_none : (history : List Entry) → All (IsNone mine) history → AreCovered mine [] history
  covered_none history none newer e older at own =
      let both = sym (in_middle newer e older (subst (All (IsNone mine)) at none)) ∙ own in cc (both)

  no_moments : (history : List Entry) → All (IsNone mine) history → moments mine history ≡ []
  no_moments [] none = refl
  no_moments (e ∷ older) none = rw (All-head (IsNone mine) e older none) (no_moments older (All-tail (IsNone mine) e older none))

  told_nothing : (o : Option (List GateTurn)) → IsToldSince o [] o
  told_nothing None = refl
  told_nothing (Some answers) = refl

  read_nothing : (o : Option (List ℕ)) → IsToldWhile o [] o
  read_nothing None = tt
  read_nothing (Some readings) = refl

  pub starts : (since : Told) (fronts : Fronts) (history : List Entry) → All (IsNone mine) history → AreWithin fronts [] → FollowsSince mine since since fronts history
  starts since fronts history none within = record {
    answers = [];
    readings = [];
    follows = record {
      covered = covered_none history none;
      reached = fronts_none [] history fronts within;
      timed = record { one_each = refl; own = subst (λ (ms : List ℕ). IsSublist ms []) (sym (no_moments history none)) tt };
    };
    gave = told_nothing since.answers;
    took = read_nothing since.readings;
    between = omega arith;
  }

life_none : (number life : ℕ) (history : List Entry) → All (IsNone (of_kubelet number)) history → AreOfLife number life history
life_none number life [] none = All-nil (IsOfLife number life)
life_none number life (e ∷ older) none =
    All-cons (IsOfLife number life) e older (λ own. let both = sym (All-head (IsNone (of_kubelet number)) e older none) ∙ own in cc (both))
    (life_none number life older (All-tail (IsNone (of_kubelet number)) e older none))

-- members that begin

module _ {K G : Type 0} (answers : G → Option (List GateTurn)) (readings : K → Option (List ℕ)) (last : K → ℕ) where
  pub controller_ready : (number : ℕ) (c : Controller K G) (history : List Entry) → IsNewController c → IsReadyController history (controller_begun number c)
  controller_ready number c history new = shows_none (seen c.cache) history new

  pub controller_starts : (number : ℕ) (c : Controller K G) (history : List Entry) → IsNewController c → All IsOfAdmission history → ControllerFollows answers readings last (controller_begun number c) (controller_begun number c) history
  controller_starts number c history new all = record {
    since = starts (of_controller number) (told_by answers readings last c.gate c.clock) c.cache.fronts history (none_of_controller number history all) new.within;
    chosen = chosen_none number history (none_of_controller number history all);
  }

module _ {K H G : Type 0} (answers : G → Option (List GateTurn)) (readings : K → Option (List ℕ)) (last : K → ℕ) (told : H → List Event) (killed : H → ℕ → Bool) where
  pub node_ready : (root : List ℕ) (number : ℕ) (n : Node K H G) (history : List Entry) → IsNewNode told n → AreAdmits history → IsReadyNode told killed history (node_begun root number n)
  node_ready root number n history new admits = record {
    shows = shows_none (seen n.cache) history new.unseen;
    met = subst (IsMet (holding_of number 1 root []) history (killed n.host)) (sym new.silent)
        (nothing_is_met.any number 1 root history (killed n.host) (nothing_is_met.admitted number 1 history admits));
  }

  -- no pod of a kubelet ended yet
  outcomes_none : (faults : H → ℕ) (root : List ℕ) (number : ℕ) (n : Node K H G) (history : List Entry) → HasNoClaim number 1 history → HasOutcomes number 1 root [] (faults n.host) (faults n.host) (told n.host) history
  outcomes_none faults root number n history none = record {
    failed = [];
    few = omega arith;
    each = λ name state ended is mine over. absurd (none name state is mine);
  }

  pub node_starts : (faults : H → ℕ) (root : List ℕ) (number : ℕ) (n : Node K H G) (history : List Entry) → IsNewNode told n → AreAdmits history → All IsOfAdmission history → NodeFollows answers readings last told faults (node_begun root number n) (node_begun root number n) history
  node_starts faults root number n history new admits all = record {
    since = starts (of_kubelet number) (told_by answers readings last n.gate n.clock) n.cache.fronts history (none_of_kubelet number history all) new.unseen.within;
    same = record { number = refl; life = refl; root = refl };
    life = life_none number 1 history (none_of_kubelet number history all);
    outcomes = outcomes_none faults root number n history (nothing_is_met.admitted number 1 history admits);
    deeds = rw new.silent tt;
  }

-- the user's clock gave its first reading

no_user : (history : List Entry) → All IsOfAdmission history → All (λ (e : Entry). of_user e ≡ false) history
no_user history all = all_as of_user (λ e is. ap by_user is) history all

pub user_began : {K : Type 0} → (readings : K → Option (List ℕ)) (last : K → ℕ) (old now : K) (history : List Entry) → IsLegal history → AreAdmits history → last old ≤ last now → AddsWhileTold (last now) (readings old) (readings now) → UserFollows (clock_told readings last old) (clock_told readings last now) history
user_began readings last old now history legal admits later told =
    user_reads (clock_told readings last old) (clock_told readings last old) (clock_told readings last now) history later told
    (user_starts (clock_told readings last old) history (no_user history (all_of_admission history legal admits)))
