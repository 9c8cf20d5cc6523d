-- The laws on a kubelet's calls.
use Rattle.std.proofs.Common.{◌≡◌, ◌≢◌, ℕ, Result, List, [], ◌∷◌, Option, Some, Bool, true, false, Ok, Err, refl, sym, ◌∙◌, subst, inl, inr, slice_get, nat_eq, ◌||◌}
use Rattle.tk_pod.specs.Exits.{continues}
use Rattle.tk_edge.specs.declared.miss.Miss.{Miss}
use Rattle.tk_edge.specs.declared.miss.Miss.TheVariants as misses
use Rattle.tk_edge.specs.declared.order.Order.{Order}
use Rattle.tk_edge.specs.declared.order.Watch.{Watch}
use Rattle.tk_edge.specs.declared.event.Event.{Event}
use Rattle.tk_edge.specs.declared.event.Event.TheVariants as events
use Rattle.tk_edge.specs.declared.event.Arming.{Arming}
use Rattle.tk_edge.specs.Calls.{TellsCall, TellsFetch, TellsLaunch, TellsWatch, TellsMiss, TellsArmedTurn, MarksKilled}
use Rattle.tk_edge.specs.History.{names, arming_of, order_of}
use Rattle.tk_edge.specs.Memory.{is_named}
use Rattle.tk_edge.specs.InOrder.{Claimed, Pods, StepPassed, IsDue, AreStartsDue, Layout, IsLayout, ArmsStep, IsUnarmed, PodsGrow, IsKept}
use Rattle.tk_edge.specs.Laws.{NothingIsKept, PutKeeps, ClearKeeps, FetchKeeps, KillKeeps, KillSettles, KillSpares, LaunchKeeps, WatchKeeps, GrowthKeeps}
use Rattle.std.proofs.Math.Bool.{and-false, or-true}
use Rattle.std.proofs.lemmas.Bool.{cases_Bool, eq-eqb}
use Rattle.tk_edge.proofs.InOrder.{kept_quiet, kept_put, kept_arm, kept_watch}

pub nothing_is_kept : NothingIsKept
nothing_is_kept layout killed pods = record {
  told = tt;
  in_order = record { due = tt; settled = λ c o is over. cc };
  armed = record { starts = tt; each = λ c a is. cc; once = λ c d a b is_c is_d pod step. cc; no_posts = λ pod step. refl };
}

missed : (layout : Layout) (killed : ℕ → Bool) (pods : Pods) (old new : List Event) (failed : Event) (miss : Miss) → IsKept layout killed pods (failed ∷ old) → IsKept layout killed pods old → TellsMiss failed old new miss → IsKept layout killed pods new
missed layout killed pods old new failed misses.Failed after kept told = subst (IsKept layout killed pods) (sym told) after
missed layout killed pods old new failed misses.Memory after kept told = subst (IsKept layout killed pods) (sym told) kept

put_case : (layout : Layout) (killed : ℕ → Bool) (pods : Pods) (old new : List Event) (path bytes : List ℕ) (result : Result (Unit {0}) Miss) → IsLayout layout → ((pod : List ℕ) (step : ℕ) → layout.post_of pod step ≢ path) → IsKept layout killed pods old → TellsCall (events.Put path bytes true) (events.Put path bytes false) old new result → IsKept layout killed pods new
put_case layout killed pods old new path bytes (Ok done) laws other kept told = subst (IsKept layout killed pods) (sym told) (kept_put layout laws killed pods path bytes old other kept)
put_case layout killed pods old new path bytes (Err miss) laws other kept told = missed layout killed pods old new (events.Put path bytes false) miss (kept_quiet layout laws killed pods (events.Put path bytes false) old refl tt kept) kept told

pub put_keeps : PutKeeps
put_keeps layout killed pods old new laws call kept = put_case layout killed pods old new call.path call.bytes call.result laws call.no_post kept call.told

clear_case : (layout : Layout) (killed : ℕ → Bool) (pods : Pods) (old new : List Event) (folder : List ℕ) (result : Result (Unit {0}) Miss) → IsLayout layout → IsKept layout killed pods old → TellsCall (events.Cleared folder true) (events.Cleared folder false) old new result → IsKept layout killed pods new
clear_case layout killed pods old new folder (Ok done) laws kept told = subst (IsKept layout killed pods) (sym told) (kept_quiet layout laws killed pods (events.Cleared folder true) old refl tt kept)
clear_case layout killed pods old new folder (Err miss) laws kept told = missed layout killed pods old new (events.Cleared folder false) miss (kept_quiet layout laws killed pods (events.Cleared folder false) old refl tt kept) kept told

pub clear_keeps : ClearKeeps
clear_keeps layout killed pods old new laws call kept = clear_case layout killed pods old new call.folder call.result laws kept call.told

fetch_case : (layout : Layout) (killed : ℕ → Bool) (pods : Pods) (old new : List Event) (path : List ℕ) (result : Result (Option (List ℕ)) Miss) → IsLayout layout → IsKept layout killed pods old → TellsFetch path old new result → IsKept layout killed pods new
fetch_case layout killed pods old new path (Ok bytes) laws kept told = subst (IsKept layout killed pods) (sym told) (kept_quiet layout laws killed pods (events.Fetched path bytes) old refl tt kept)
fetch_case layout killed pods old new path (Err miss) laws kept told = subst (IsKept layout killed pods) (sym told) kept

pub fetch_keeps : FetchKeeps
fetch_keeps layout killed pods old new laws call kept = fetch_case layout killed pods old new call.path call.result laws kept call.told

pub kill_keeps : KillKeeps
kill_keeps layout killed now pods history child is kept = record {
  told = kept.told;
  in_order = record {
    due = kept.in_order.due;
    settled = λ c o at over. elim (kept.in_order.settled c o at over) [
      | inl has ↦ inl has
      | inr done ↦ inr (is c ∙ rw (done, or-true) refl)
    ];
  };
  armed = kept.armed;
}

or_on : (a b : Bool) → b ≡ true → (a || b) ≡ true
or_on true b is = refl
or_on false b is = is

armed_named : (child : ℕ) (a : Arming) (h : List Event) → arming_of child h ≡ Some a → is_named child h ≡ true
armed_named child a [] is = cc
armed_named child a (events.Armed other arming ∷ older) is = elim (cases_Bool (nat_eq child other)) [
  | inl hit ↦ rw hit refl
  | inr miss ↦ or_on (nat_eq child other) (is_named child older) (armed_named child a older (rw miss at is))
]
armed_named child a (e ∷ older) is = or_on (names child e) (is_named child older) (armed_named child a older is)

started_named : (child : ℕ) (o : Order) (h : List Event) → order_of child h ≡ Some o → is_named child h ≡ true
started_named child o [] is = cc
started_named child o (events.Started other order ∷ older) is = elim (cases_Bool (nat_eq child other)) [
  | inl hit ↦ rw hit refl
  | inr miss ↦ or_on (nat_eq child other) (is_named child older) (started_named child o older (rw miss at is))
]
started_named child o (e ∷ older) is = or_on (names child e) (is_named child older) (started_named child o older is)

marked : (killed now : ℕ → Bool) (h : List Event) (child : ℕ) → is_named child h ≡ true → MarksKilled child h killed now → now child ≡ true
marked killed now h child named marks = marks child ∙ rw (eq-eqb child child refl, named) refl

pub kill_settles : KillSettles
kill_settles killed now h child (inl armed) marks = inr (marked killed now h child (armed_named child armed.it h armed.is) marks)
kill_settles killed now h child (inr started) marks = inr (marked killed now h child (started_named child started.it h started.is) marks)

pub kill_spares : KillSpares
kill_spares killed now h child unnamed marks other = marks other ∙ rw (unnamed, and-false) refl

launch_case : (layout : Layout) (killed : ℕ → Bool) (pods : Pods) (old new : List Event) (arming : Arming) (result : Result ℕ Miss) → IsLayout layout → ArmsStep layout pods arming → IsUnarmed arming.order old → IsKept layout killed pods old → TellsLaunch arming old new result → IsKept layout killed pods new
launch_case layout killed pods old new arming (Ok child) laws at unarmed kept told = subst (IsKept layout killed pods) (sym told.1) (kept_arm layout laws killed pods old kept child arming told.0 at unarmed)
launch_case layout killed pods old new arming (Err miss) laws at unarmed kept told = subst (IsKept layout killed pods) (sym told) kept

pub launch_keeps : LaunchKeeps
launch_keeps layout killed pods old new laws call kept = launch_case layout killed pods old new call.arming call.result laws call.arms call.unarmed kept call.told

watch_case : (layout : Layout) (killed : ℕ → Bool) (pods : Pods) (old new : List Event) (child : ℕ) (arming : Arming) (result : Result Watch Miss) → IsLayout layout → arming_of child old ≡ Some arming → ((claimed : Claimed) → pods arming.order.pod ≡ Some claimed → claimed.is_over ≡ false) → IsKept layout killed pods old → TellsWatch child old new result → IsKept layout killed pods new
watch_case layout killed pods old new child arming (Ok watch) laws armed live kept told =
    kept_watch layout laws killed pods old new kept child arming armed live watch (subst (λ (o : Option Arming). TellsArmedTurn child old new o watch) armed told)
watch_case layout killed pods old new child arming (Err miss) laws armed live kept told = subst (IsKept layout killed pods) (sym told) kept

pub watch_keeps : WatchKeeps
watch_keeps layout killed pods old new laws call kept = watch_case layout killed pods old new call.child call.arming call.result laws call.armed call.goes_on kept call.told

due_later : (pods later : Pods) → PodsGrow pods later → (o : Order) (h : List Event) → IsDue pods o h → IsDue later o h
due_later pods later grow o h due =
    let now = grow o.pod due.claimed due.is_claimed in
    record {
      claimed = now.0;
      is_claimed = now.1;
      own_order = subst (λ (os : List Order). slice_get os o.step ≡ Some o) (sym now.2) due.own_order;
      earlier = λ step below. subst (λ (k : ℕ). StepPassed k o.pod step h) (sym now.3) (due.earlier step below);
    }

starts_later : (pods later : Pods) → PodsGrow pods later → (h : List Event) → AreStartsDue pods h → AreStartsDue later h
starts_later pods later grow [] due = tt
starts_later pods later grow (events.Started child order ∷ older) due = (due_later pods later grow order older due.0, due.1, starts_later pods later grow older due.2)
starts_later pods later grow (_ ∷ older) due = starts_later pods later grow older due

arms_later : (layout : Layout) (pods later : Pods) → PodsGrow pods later → (a : Arming) → ArmsStep layout pods a → ArmsStep layout later a
arms_later layout pods later grow a at =
    let now = grow a.order.pod at.claimed at.is_claimed in
    record {
      claimed = now.0;
      is_claimed = now.1;
      own_order = subst (λ (os : List Order). slice_get os a.order.step ≡ Some a.order) (sym now.2) at.own_order;
      small = at.small;
      keeps = subst (λ (k : ℕ). a.keep_going ≡ continues k a.order.step) (sym now.3) at.keeps;
      waits = at.waits;
      posts = at.posts;
    }

pub growth_keeps : GrowthKeeps
growth_keeps layout killed pods later history grow settled kept = record {
  told = kept.told;
  in_order = record { due = starts_later pods later grow history kept.in_order.due; settled = settled };
  armed = record {
    starts = kept.armed.starts;
    each = λ c a is. arms_later layout pods later grow a (kept.armed.each c a is);
    once = kept.armed.once;
    no_posts = kept.armed.no_posts;
  };
}
