-- No entry is two members', and what stands of a member stands behind its own turns and behind entries of others.
use Rattle.std.proofs.Common.{◌≡◌, ◌≢◌, ℕ, ◌≤◌, List, [], ◌∷◌, true, false, refl, sym, ◌∙◌, ap, subst, arith, nat_eq, Some, None, inl, inr}
use Rattle.std.specs.Prelude.{Bool, Option, ◌⊎◌}
use Rattle.std.proofs.lemmas.Bool.{eqb-true, ne_eqb}
use Rattle.std.proofs.lemmas.List.Elements.{All-cons}
use Rattle.tk_edge.specs.declared.gate.GateTurn.{GateTurn}
use Rattle.tk_edge.specs.declared.gate.GateTurn.TheVariants.{Deliver, Relist, Work, Pause}
use Rattle.tk_edge.specs.Gates.{AddsAnswer}
use Rattle.tk_edge.specs.Readings.{Adds, AddsWhileTold, last_moment}
use Rattle.tk_journal.specs.declared.entry.Actor.{Actor}
use Rattle.tk_journal.specs.declared.entry.Actor.TheVariants as actors
use Rattle.tk_journal.specs.declared.entry.Fronts.{Fronts}
use Rattle.tk_journal.specs.declared.entry.Entry.{Entry}
use Rattle.tk_journal.specs.Fronts.{AreWithin}
use Rattle.tk_store.specs.Writes.{Stored}
use Rattle.tk_cache.specs.Fronts.{Shows}
use Rattle.tk_cache.specs.Views.{Kept, seen}
use Rattle.tk_cache.proofs.Showing.{shows_grown, shows_none}
use Rattle.tk_rounds.specs.declared.bench.Controller.{Controller}
use Rattle.tk_rounds.specs.Bench.{ControllerFollows}
use Rattle.tk_rounds.specs.Chosen.{AreChosen}
use Rattle.tk_rounds.specs.Covered.{IsCovered}
use Rattle.tk_rounds.specs.Follows.{Follows, FollowsSince, IsToldSince, IsToldWhile, Told, told_by}
use Rattle.tk_rounds.specs.Growth.{AreDistinct, AreTwoKinds, GrowsBy, IsOwn}
use Rattle.tk_rounds.specs.Members.{AreOfLife, IsOfLife, by_controller, by_kubelet, of_controller, of_kubelet}
use Rattle.tk_rounds.specs.Timed.{AreBetween}
use Rattle.tk_rounds.specs.Turning.{AddsOfLife, CacheMoved, IsTurn, Place, Rests, Works, WritesAtMostOne, is_move, fronts_after, place_of}
use Rattle.tk_rounds.proofs.Growing.{grows_none, grows_one}
use Rattle.tk_rounds.proofs.Took.{own_kubelet}
use Rattle.tk_rounds.proofs.Coverage.{covered_answer, covered_other, covered_write, timed_move, timed_idle, timed_write, timed_other, fronts_work, fronts_on, fronts_none, fronts_moved}

-- entries by their actors

other_number : (n i j : ℕ) → i ≢ j → nat_eq n i ≡ true → nat_eq n j ≡ false
other_number n i j differ hit = ne_eqb n j (λ same. differ (sym (eqb-true n i hit) ∙ same))

by_controllers : (i j : ℕ) (actor : Actor) → i ≢ j → by_controller i actor ≡ true → by_controller j actor ≡ false
by_controllers i j (actors.Runs n) differ hit = other_number n i j differ hit
by_controllers i j (actors.Tasks n) differ hit = other_number n i j differ hit
by_controllers i j _ differ hit = refl

by_kubelets : (i j : ℕ) (actor : Actor) → i ≢ j → by_kubelet i actor ≡ true → by_kubelet j actor ≡ false
by_kubelets i j (actors.Kubelet n life) differ hit = other_number n i j differ hit
by_kubelets i j _ differ hit = refl

pub controllers_distinct : AreDistinct of_controller
controllers_distinct i j e = by_controllers i j e.actor

pub nodes_distinct : AreDistinct of_kubelet
nodes_distinct i j e = by_kubelets i j e.actor

by_kinds : (i j : ℕ) (actor : Actor) → (by_controller i actor ≡ true → by_kubelet j actor ≡ false) × (by_kubelet j actor ≡ true → by_controller i actor ≡ false)
by_kinds i j (actors.Kubelet n life) = (λ hit. cc, λ hit. refl)
by_kinds i j _ = (λ hit. refl, λ hit. cc)

pub two_kinds : AreTwoKinds of_controller of_kubelet
two_kinds i j e = by_kinds i j e.actor

pub not_of_other : (number : ℕ) (e : Entry) → of_kubelet number e ≡ false → (life : ℕ) → e.actor ≢ actors.Kubelet number life
not_of_other number e miss life is = let both = sym (own_kubelet number life e is) ∙ miss in cc (both)

-- what is told

gave_on : (since : Option (List GateTurn)) (answers : List GateTurn) (old new : Option (List GateTurn)) (given : GateTurn) → IsToldSince since answers old → Adds given old new → IsToldSince since (given ∷ answers) new
gave_on None answers old new given is adds = subst (λ (o : Option (List GateTurn)). Adds given o new) is adds
gave_on (Some before) answers old new given is adds = subst (λ (o : Option (List GateTurn)). Adds given o new) is adds

pub took_on : (since : Option (List ℕ)) (readings : List ℕ) (old new : Option (List ℕ)) (reading : ℕ) → IsToldWhile since readings old → AddsWhileTold reading old new → IsToldWhile since (reading ∷ readings) new
took_on since readings old None reading is adds = tt
took_on None readings None (Some now) reading is adds = absurd adds
took_on None readings (Some was) (Some now) reading is adds = absurd is
took_on (Some before) readings None (Some now) reading is adds = absurd adds
took_on (Some before) readings (Some was) (Some now) reading is adds = adds ∙ ap (λ (r : List ℕ). reading ∷ r) is

pub between_later : (since : ℕ) (readings : List ℕ) (old new : ℕ) → AreBetween since readings old → old ≤ new → AreBetween since readings new
between_later since [] old new is le = omega (arith, is, le)
between_later since (reading ∷ older) old new is le = (let first = is.0 in omega (arith, first, le), is.1)

-- a turn

abbrev told_at : Option (List GateTurn) → Place → Told
told_at gate place = record { answers = gate; readings = place.readings; last = place.last }

module _ (mine : Entry → Bool) where
  follows_other : (answers : List GateTurn) (readings : List ℕ) (fronts : Fronts) (history : List Entry) (e : Entry) → mine e ≡ false → AreWithin fronts history → Follows mine answers readings fronts history → Follows mine answers readings fronts (e ∷ history)
  follows_other answers readings fronts history e other within is = record {
    covered = covered_other mine answers history e other is.covered;
    reached = fronts_on e history fronts answers within is.reached;
    timed = timed_other mine answers readings history e other is.timed;
  }

  pub since_other : (since now : Told) (fronts : Fronts) (history : List Entry) (e : Entry) → mine e ≡ false → AreWithin fronts history → FollowsSince mine since now fronts history → FollowsSince mine since now fronts (e ∷ history)
  since_other since now fronts history e other within is = record {
    answers = is.answers;
    readings = is.readings;
    follows = follows_other is.answers is.readings fronts history e other within is.follows;
    gave = is.gave;
    took = is.took;
    between = is.between;
  }

  follows_idle : (answers : List GateTurn) (readings : List ℕ) (fronts : Fronts) (history : List Entry) (reading : ℕ) → Follows mine answers readings fronts history → Follows mine (Work ∷ answers) (reading ∷ readings) fronts history
  follows_idle answers readings fronts history reading is = record {
    covered = covered_answer mine Work answers history is.covered;
    reached = fronts_work answers history fronts is.reached;
    timed = timed_idle mine reading answers readings history is.timed;
  }

  follows_write : (answers : List GateTurn) (readings : List ℕ) (history : List Entry) (e : Entry) → mine e ≡ true → AreWithin e.fronts history → Follows mine answers readings e.fronts history → Follows mine (Work ∷ answers) (e.moment ∷ readings) e.fronts (e ∷ history)
  follows_write answers readings history e own within is = record {
    covered = covered_write mine answers history e own is.reached is.covered;
    reached = fronts_work answers (e ∷ history) e.fronts (fronts_on e history e.fronts answers within is.reached);
    timed = timed_write mine answers readings history e own is.timed;
  }

  follows_move : (given : GateTurn) (answers : List GateTurn) (readings : List ℕ) (old new : Fronts) (history : List Entry) → is_move given ≡ true → (new ≡ fronts_after given history old) ⊎ AreWithin new [] → Follows mine answers readings old history → Follows mine (given ∷ answers) readings new history
  follows_move given answers readings old new history moves (inl moved) is = record {
    covered = covered_answer mine given answers history is.covered;
    reached = subst (IsCovered (given ∷ answers) history) (sym moved) (fronts_moved given answers history old moves is.reached);
    timed = timed_move mine given answers readings history moves is.timed;
  }
  follows_move given answers readings old new history moves (inr none) is = record {
    covered = covered_answer mine given answers history is.covered;
    reached = fronts_none (given ∷ answers) history new none;
    timed = timed_move mine given answers readings history moves is.timed;
  }

  -- work that wrote an entry, or none
  wrote_on : (wrote : Bool) (answers : List GateTurn) (readings : List ℕ) (fronts : Fronts) (reading : ℕ) (history after : List Entry) → AreWithin fronts history → WritesAtMostOne wrote mine fronts reading history after → Follows mine answers readings fronts history → Follows mine (Work ∷ answers) (reading ∷ readings) fronts after
  wrote_on true answers readings fronts reading history after within one is =
      let there = subst (λ (f : Fronts). Follows mine answers readings f history) (sym one.at) is in
      let inside = subst (λ (f : Fronts). AreWithin f history) (sym one.at) within in
      let behind = follows_write answers readings history one.entry one.own inside there in
      let here = subst (λ (f : Fronts). Follows mine (Work ∷ answers) (one.entry.moment ∷ readings) f (one.entry ∷ history)) one.at behind in
      let now = subst (λ (m : ℕ). Follows mine (Work ∷ answers) (m ∷ readings) fronts (one.entry ∷ history)) one.now here in
      subst (λ (h : List Entry). Follows mine (Work ∷ answers) (reading ∷ readings) fronts h) (sym one.added) now
  wrote_on false answers readings fronts reading history after within none is =
      subst (λ (h : List Entry). Follows mine (Work ∷ answers) (reading ∷ readings) fronts h) (sym none) (follows_idle answers readings fronts history reading is)

  works_on : (since : Told) (old new : Option (List GateTurn)) (before after : Place) → AreWithin before.cache.fronts before.history → Adds Work old new → Works mine before after → FollowsSince mine since (told_at old before) before.cache.fronts before.history → FollowsSince mine since (told_at new after) after.cache.fronts after.history
  works_on since old new before after within adds works is = record {
    answers = Work ∷ is.answers;
    readings = works.reading ∷ is.readings;
    follows = subst (λ (c : Kept). Follows mine (Work ∷ is.answers) (works.reading ∷ is.readings) c.fronts after.history) (sym works.cache)
        (wrote_on works.wrote is.answers is.readings before.cache.fronts works.reading before.history after.history within works.writes is.follows);
    gave = gave_on since.answers is.answers old new Work is.gave adds;
    took = took_on since.readings is.readings before.readings after.readings works.reading is.took works.takes.told;
    between = (let last = works.takes.last in omega (arith, last), between_later since.last is.readings before.last works.reading is.between works.takes.later);
  }

  rests_as : (answers : List GateTurn) (since : Told) (new : Option (List GateTurn)) (given : GateTurn) (before after : Place) → Rests given before after → (old : Option (List GateTurn)) (is : FollowsSince mine since (told_at old before) before.cache.fronts before.history) → Follows mine answers is.readings after.cache.fronts before.history → IsToldSince since.answers answers new → FollowsSince mine since (told_at new after) after.cache.fronts after.history
  rests_as answers since new given before after rests old is follows gave = record {
    answers = answers;
    readings = is.readings;
    follows = subst (λ (h : List Entry). Follows mine answers is.readings after.cache.fronts h) (sym rests.history) follows;
    gave = gave;
    took = subst (IsToldWhile since.readings is.readings) (sym rests.readings) is.took;
    between = subst (AreBetween since.last is.readings) (sym rests.last) is.between;
  }

  moved_fronts : (ok : Bool) (given : GateTurn) (history : List Entry) (old new : Kept) → CacheMoved ok given history old new → (new.fronts ≡ fronts_after given history old.fronts) ⊎ AreWithin new.fronts []
  moved_fronts true given history old new moved = inl moved.0
  moved_fronts false given history old new moved = inr moved.within

  pub moves_on : (since : Told) (old new : Option (List GateTurn)) (given : GateTurn) (before after : Place) → is_move given ≡ true → Adds given old new → Rests given before after → FollowsSince mine since (told_at old before) before.cache.fronts before.history → FollowsSince mine since (told_at new after) after.cache.fronts after.history
  moves_on since old new given before after moves adds rests is =
      rests_as (given ∷ is.answers) since new given before after rests old is
      (follows_move given is.answers is.readings before.cache.fronts after.cache.fronts before.history moves (moved_fronts rests.ok given before.history before.cache after.cache rests.moved) is.follows)
      (gave_on since.answers is.answers old new given is.gave adds)

  pauses_follow : (answers : List GateTurn) (readings : List ℕ) (old new : Fronts) (history : List Entry) → (new ≡ old) ⊎ AreWithin new [] → Follows mine answers readings old history → Follows mine answers readings new history
  pauses_follow answers readings old new history (inl same) is = subst (λ (f : Fronts). Follows mine answers readings f history) (sym same) is
  pauses_follow answers readings old new history (inr none) is = record { covered = is.covered; reached = fronts_none answers history new none; timed = is.timed }

  -- what stands of a member stands behind its turn
  pub turn_on : (since : Told) (old new : Option (List GateTurn)) (given : GateTurn) (before after : Place) → AreWithin before.cache.fronts before.history → AddsAnswer given old new → IsTurn mine given before after → FollowsSince mine since (told_at old before) before.cache.fronts before.history → FollowsSince mine since (told_at new after) after.cache.fronts after.history
  turn_on since old new Work before after within adds turn is = works_on since old new before after within adds turn is
  turn_on since old new (Deliver kind n) before after within adds turn is = moves_on since old new (Deliver kind n) before after refl adds turn is
  turn_on since old new (Relist kind position) before after within adds turn is = moves_on since old new (Relist kind position) before after refl adds turn is
  turn_on since old new Pause before after within adds turn is =
      rests_as is.answers since new Pause before after turn old is
      (pauses_follow is.answers is.readings before.cache.fronts after.cache.fronts before.history (moved_fronts turn.ok Pause before.history before.cache after.cache turn.moved) is.follows)
      (subst (IsToldSince since.answers is.answers) (sym adds) is.gave)

  -- a turn writes entries of the member alone
  pub turn_grows : (given : GateTurn) (before after : Place) → IsTurn mine given before after → GrowsBy (IsOwn mine) before.history after.history
  turn_grows Work before after turn = wrote_grows turn.wrote turn.writes
    where
      wrote_grows : (wrote : Bool) → WritesAtMostOne wrote mine before.cache.fronts turn.reading before.history after.history → GrowsBy (IsOwn mine) before.history after.history
      wrote_grows true one = grows_one (IsOwn mine) before.history one.entry after.history one.added (one.own, subst (λ (m : ℕ). m ≤ last_moment) (sym one.now) turn.takes.within)
      wrote_grows false none = subst (GrowsBy (IsOwn mine) before.history) (sym none) (grows_none (IsOwn mine) before.history)
  turn_grows (Deliver kind n) before after turn = subst (GrowsBy (IsOwn mine) before.history) (sym turn.history) (grows_none (IsOwn mine) before.history)
  turn_grows (Relist kind position) before after turn = subst (GrowsBy (IsOwn mine) before.history) (sym turn.history) (grows_none (IsOwn mine) before.history)
  turn_grows Pause before after turn = subst (GrowsBy (IsOwn mine) before.history) (sym turn.history) (grows_none (IsOwn mine) before.history)

  -- a cache shows the journal behind a turn
  wrote_shows : (wrote : Bool) (cache : Kept) (fronts : Fronts) (moment : ℕ) (history after : List Entry) → WritesAtMostOne wrote mine fronts moment history after → Shows (seen cache) history → Shows (seen cache) after
  wrote_shows true cache fronts moment history after one shows = subst (Shows (seen cache)) (sym one.added) (shows_grown (seen cache) (one.entry ∷ []) history shows)
  wrote_shows false cache fronts moment history after none shows = subst (Shows (seen cache)) (sym none) shows

  moved_shows : (ok : Bool) (given : GateTurn) (history : List Entry) (old new : Kept) → CacheMoved ok given history old new → Shows (seen new) history
  moved_shows true given history old new moved = moved.1
  moved_shows false given history old new moved = shows_none (seen new) history moved

  rests_shows : (given : GateTurn) (before after : Place) → Rests given before after → Shows (seen after.cache) after.history
  rests_shows given before after rests = subst (Shows (seen after.cache)) (sym rests.history) (moved_shows rests.ok given before.history before.cache after.cache rests.moved)

  pub turn_shows : (given : GateTurn) (before after : Place) → IsTurn mine given before after → Shows (seen before.cache) before.history → Shows (seen after.cache) after.history
  turn_shows Work before after turn shows = subst (λ (c : Kept). Shows (seen c) after.history) (sym turn.cache) (wrote_shows turn.wrote before.cache before.cache.fronts turn.reading before.history after.history turn.writes shows)
  turn_shows (Deliver kind n) before after turn shows = rests_shows (Deliver kind n) before after turn
  turn_shows (Relist kind position) before after turn shows = rests_shows (Relist kind position) before after turn
  turn_shows Pause before after turn shows = rests_shows Pause before after turn

-- lives

pub life_on : (number life : ℕ) (history after : List Entry) → AreOfLife number life history → AddsOfLife number life history after → AreOfLife number life after
life_on number life history after are adds = elim adds [
  | inl same ↦ subst (AreOfLife number life) (sym same) are
  | inr one ↦ subst (AreOfLife number life) (sym one.1) (All-cons (IsOfLife number life) one.0 history (λ own. one.2) are)
]

pub life_other : (number life : ℕ) (history : List Entry) (e : Entry) → of_kubelet number e ≡ false → AreOfLife number life history → AreOfLife number life (e ∷ history)
life_other number life history e other are = All-cons (IsOfLife number life) e history (λ own. let both = sym other ∙ own in cc (both)) are

-- members

module _ {K G : Type 0} (answers : G → Option (List GateTurn)) (readings : K → Option (List ℕ)) (last : K → ℕ) where
  abbrev place : K → Kept → Stored → Place
  place clock cache store = place_of readings last clock cache store

  pub controller_follows : (start old mid new : Controller K G) (given : GateTurn) (before after : Stored) → mid ≡ record old { gate = mid.gate } → AddsAnswer given (answers old.gate) (answers mid.gate) → new.gate ≡ mid.gate → new.number ≡ mid.number → Shows (seen old.cache) before.history → IsTurn (of_controller mid.number) given (place mid.clock mid.cache before) (place new.clock new.cache after)
      → (AreChosen mid.number before.history → AreChosen mid.number after.history) → ControllerFollows answers readings last start old before.history → ControllerFollows answers readings last start new after.history
  controller_follows start old mid new given before after same adds gate number shows turn chosen is =
      let done = subst (λ (c : Controller K G). IsTurn (of_controller c.number) given (place c.clock c.cache before) (place new.clock new.cache after)) same turn in
      let between : mid.number ≡ old.number = ap (λ (c : Controller K G). c.number) same in
      let named : new.number ≡ old.number = number ∙ between in
      record {
        since =
            subst (λ (n : ℕ). FollowsSince (of_controller n) (told_by answers readings last start.gate start.clock) (told_by answers readings last new.gate new.clock) new.cache.fronts after.history) (sym named)
            (turn_on (of_controller old.number) (told_by answers readings last start.gate start.clock) (answers old.gate) (answers new.gate) given (place old.clock old.cache before) (place new.clock new.cache after) shows.within
            (subst (λ (g : G). AddsAnswer given (answers old.gate) (answers g)) (sym gate) adds) done is.since);
        chosen = subst (λ (n : ℕ). AreChosen n after.history) (sym number) (chosen (subst (λ (n : ℕ). AreChosen n before.history) (sym between) is.chosen));
      }
