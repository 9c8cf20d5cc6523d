-- What single calls of a kubelet on its host come to.
use Rattle.std.proofs.Common.{◌≡◌, ℕ, suc, ◌<◌, List, [], ◌∷◌, ◌++◌, length, Option, Some, None, Bool, true, false, Ok, Err, refl, sym, ◌∙◌, ap, subst, inl, inr, arith, nat_eq, set, slice_get, get_or}
use Rattle.std.specs.Prelude.{Result}
use Rattle.std.specs.Prelude.{is_none, ◌||◌}
use Rattle.std.proofs.lemmas.Bool.{eq-eqb}
use Rattle.std.proofs.lemmas.Option.{slice_get_read}
use Rattle.tk_pod.specs.Exits.{continues}
use Rattle.tk_edge.specs.declared.miss.Miss.{Miss}
use Rattle.tk_edge.specs.declared.miss.Miss.TheVariants as misses
use Rattle.tk_edge.specs.declared.order.Watch.{Watch}
use Rattle.tk_edge.specs.declared.order.Watch.TheVariants as watches
use Rattle.tk_edge.specs.declared.event.Event.{Event}
use Rattle.tk_edge.specs.declared.event.Event.TheVariants as events
use Rattle.tk_edge.specs.declared.event.Arming.{Arming}
use Rattle.tk_edge.specs.History.{Has, names, IsNew, arming_of, exit_of, is_refused}
use Rattle.tk_edge.specs.Calls.{TellsCall, TellsMiss, TellsExit, TellsTurn, TellsArmedTurn}
use Rattle.tk_steps.specs.declared.held.HeldPod.{HeldPod}
use Rattle.tk_steps.specs.declared.held.HeldStep.{HeldStep}
use Rattle.tk_journal.specs.declared.object.Plan.{Plan}
use Rattle.tk_steps.specs.Paths.{wait_path, post_path, script_path}
use Rattle.tk_steps.specs.Held.{IsPlanOf, HoldsStep, HoldsPod}
use Rattle.tk_steps.specs.May.{May, IsOwnPut, IsStepUnarmed, IsOwnChild, IsOwnFolder, AddsFor}
use Rattle.tk_steps.specs.Moves.{Moves, count_actions, Acts, seen, acts}
use Rattle.tk_steps.proofs.Adds.{adds_none, adds_one, adds_then}
use Rattle.tk_steps.proofs.Names.{exit_unnamed, refused_unnamed}
use Rattle.tk_steps.proofs.Holds.{is_file, holds_file, none_armed, next_unarmed, holds_launch, holds_seen}

module _ (root : List ℕ) where
  pub moves_none : (pod : HeldPod) (told now : List Event) → HoldsPod told pod → now ≡ told → Moves root pod pod told now
  moves_none pod told now holds is = record { same_name = refl; same_plan = refl; holds = subst (λ (h : List Event). HoldsPod h pod) (sym is) holds; adds = adds_none (May root pod.name pod.plan) told now is }

  pub moves_then : (a b c : HeldPod) (x y z : List Event) → Moves root a b x y → Moves root b c y z → Moves root a c x z
  moves_then a b c x y z first second =
      let named : AddsFor root a.name b.plan y z = subst (λ (n : List ℕ). AddsFor root n b.plan y z) first.same_name second.adds in
      let later : AddsFor root a.name a.plan y z = subst (λ (p : Plan). AddsFor root a.name p y z) first.same_plan named in
      record {
        same_name = second.same_name ∙ first.same_name;
        same_plan = second.same_plan ∙ first.same_plan;
        holds = second.holds;
        adds = adds_then (May root a.name a.plan) x y z first.adds later;
      }

  -- an event that names no child
  moves_file : (pod : HeldPod) (e : Event) (told now : List Event) → is_file e ≡ true → May root pod.name pod.plan e told → HoldsPod told pod → now ≡ e ∷ told → Moves root pod pod told now
  moves_file pod e told now file may holds is = record { same_name = refl; same_plan = refl; holds = subst (λ (h : List Event). HoldsPod h pod) (sym is) (holds_file told pod e file holds); adds = adds_one (May root pod.name pod.plan) e told now is may }

  moves_miss : (pod : HeldPod) (e : Event) (told now : List Event) (miss : Miss) → is_file e ≡ true → May root pod.name pod.plan e told → HoldsPod told pod → TellsMiss e told now miss → Moves root pod pod told now
  moves_miss pod e told now misses.Failed file may holds is = moves_file pod e told now file may holds is
  moves_miss pod e told now misses.Memory file may holds is = moves_none pod told now holds is

  pub put_moves : (pod : HeldPod) (path bytes : List ℕ) (told now : List Event) (result : Result (Unit {0}) Miss) → IsOwnPut root pod.name pod.plan path bytes → pod.steps.items ≡ [] → HoldsPod told pod → TellsCall (events.Put path bytes true) (events.Put path bytes false) told now result → Moves root pod pod told now
  put_moves pod path bytes told now (Ok done) own none holds is = moves_file pod (events.Put path bytes true) told now refl (own, none_armed told pod holds none) holds is
  put_moves pod path bytes told now (Err miss) own none holds is = moves_miss pod (events.Put path bytes false) told now miss refl (own, none_armed told pod holds none) holds is

  pub clear_moves : (pod : HeldPod) (folder : List ℕ) (told now : List Event) (result : Result (Unit {0}) Miss) → IsOwnFolder root pod.name pod.plan folder → pod.steps.items ≡ [] → HoldsPod told pod → TellsCall (events.Cleared folder true) (events.Cleared folder false) told now result → Moves root pod pod told now
  clear_moves pod folder told now (Ok done) own none holds is = moves_file pod (events.Cleared folder true) told now refl (own, none_armed told pod holds none) holds is
  clear_moves pod folder told now (Err miss) own none holds is = moves_miss pod (events.Cleared folder false) told now miss refl (own, none_armed told pod holds none) holds is

pub put_quiet : (path bytes : List ℕ) (told now : List Event) (result : Result (Unit {0}) Miss) → TellsCall (events.Put path bytes true) (events.Put path bytes false) told now result → count_actions now ≡ count_actions told
put_quiet path bytes told now (Ok done) is = ap count_actions is
put_quiet path bytes told now (Err misses.Failed) is = ap count_actions is
put_quiet path bytes told now (Err misses.Memory) is = ap count_actions is

pub clear_quiet : (folder : List ℕ) (told now : List Event) (result : Result (Unit {0}) Miss) → TellsCall (events.Cleared folder true) (events.Cleared folder false) told now result → count_actions now ≡ count_actions told
clear_quiet folder told now (Ok done) is = ap count_actions is
clear_quiet folder told now (Err misses.Failed) is = ap count_actions is
clear_quiet folder told now (Err misses.Memory) is = ap count_actions is

-- a held step is armed
pub held_at : (pod : HeldPod) (place : ℕ) (step : HeldStep) → place < length pod.steps.items → step ≡ get_or pod.steps.items place step → slice_get pod.steps.items place ≡ Some step
held_at pod place step within is = slice_get_read pod.steps.items (length pod.steps.items) place step refl within is

pub is_armed : (told : List Event) (pod : HeldPod) (place : ℕ) (step : HeldStep) → HoldsPod told pod → slice_get pod.steps.items place ≡ Some step → Has (arming_of step.child told) (λ _. Unit {0})
is_armed told pod place step holds at = let s = holds.steps place step at in record { it = s.arming; is = s.armed; has = tt }

module _ (root : List ℕ) (h : List Event) (old pod : HeldPod) (place : ℕ) (step : HeldStep) (holds : HoldsPod h old) (at : slice_get old.steps.items place ≡ Some step) (name : pod.name ≡ old.name) (plan : pod.plan ≡ old.plan) (ready : pod.ready ≡ old.ready) where
  -- the watch told nothing new
  still : (seen_step : HeldStep) → pod.steps.items ≡ set old.steps.items place seen_step → seen_step.child ≡ step.child → seen_step.exit ≡ exit_of seen_step.child h → seen_step.refused ≡ is_refused seen_step.child h → Moves root old pod h h
  still seen_step steps child exit refused = record {
    same_name = name;
    same_plan = plan;
    holds = holds_seen h h old pod place step seen_step holds at child (λ c. refl) (λ c miss. refl) (λ c miss. refl) exit refused name ready steps;
    adds = adds_none (May root old.name old.plan) h h refl;
  }

  -- the watch told one event of the child
  tells : (e : Event) (seen_step : HeldStep) → May root old.name old.plan e h → ((c : ℕ) → arming_of c (e ∷ h) ≡ arming_of c h) → ((c : ℕ) → nat_eq c step.child ≡ false → names c e ≡ false) → pod.steps.items ≡ set old.steps.items place seen_step → seen_step.child ≡ step.child → seen_step.exit ≡ exit_of seen_step.child (e ∷ h) → seen_step.refused ≡ is_refused seen_step.child (e ∷ h) → Moves root old pod h (e ∷ h)
  tells e seen_step may armings miss steps child exit refused = record {
    same_name = name;
    same_plan = plan;
    holds = holds_seen h (e ∷ h) old pod place step seen_step holds at child armings (λ c other. exit_unnamed c e h (miss c other)) (λ c other. refused_unnamed c e h (miss c other)) exit refused name ready steps;
    adds = adds_one (May root old.name old.plan) e h (e ∷ h) refl may;
  }

  self : nat_eq step.child step.child ≡ true
  self = eq-eqb step.child step.child refl

  own_child : IsOwnChild old.name step.child h
  own_child = let s = holds.steps place step at in record { it = s.arming; is = s.armed; has = s.same_pod }

  kept_exit : (s : HeldStep) → s ≡ step → s.exit ≡ exit_of s.child h
  kept_exit s is = subst (λ (x : HeldStep). x.exit ≡ exit_of x.child h) (sym is) (holds.steps place step at).exit

  kept_refusal : (s : HeldStep) → s ≡ step → s.refused ≡ is_refused s.child h
  kept_refusal s is = subst (λ (x : HeldStep). x.refused ≡ is_refused x.child h) (sym is) (holds.steps place step at).refused

  ended : (exit : ℕ) (new : List Event) → TellsExit step.child exit h new → pod.steps.items ≡ set old.steps.items place (record step { exit = Some exit }) → Moves root old pod h new
  ended exit new (inl first) steps =
      subst (Moves root old pod h) (sym first.1) (tells (events.Exited step.child exit) (record step { exit = Some exit }) (own_child, first.0) (λ c. refl) (λ c miss. miss) steps refl (rw self refl) (kept_refusal step refl))
  ended exit new (inr again) steps =
      subst (Moves root old pod h) (sym again.1) (still (record step { exit = Some exit }) steps refl (sym again.0) (kept_refusal step refl))

  pub watch_moves : (new : List Event) (watch : Watch) → TellsArmedTurn step.child h new (arming_of step.child h) watch → pod.steps.items ≡ set old.steps.items place (seen watch step) → Moves root old pod h new
  watch_moves new watch told steps =
      let s = holds.steps place step at in
      go new watch s (subst (λ (o : Option Arming). TellsArmedTurn step.child h new o watch) s.armed told) steps
    where
      go : (new : List Event) (watch : Watch) (s : HoldsStep h old.name place step) → TellsTurn step.child s.arming h new watch → pod.steps.items ≡ set old.steps.items place (seen watch step) → Moves root old pod h new
      go new watches.Waits s turn steps = subst (Moves root old pod h) (sym turn.1) (still step steps refl s.exit s.refused)
      go new watches.Runs s turn steps = subst (Moves root old pod h) (sym turn.1) (still step steps refl s.exit s.refused)
      go new watches.Started s turn steps =
          let may : May root old.name old.plan (events.Started step.child s.arming.order) h = record { arming = s.arming; armed = s.armed; same_pod = s.same_pod; own_order = refl; waited = turn.0; may = turn.1 } in
          subst (Moves root old pod h) (sym turn.2) (tells (events.Started step.child s.arming.order) step may (λ c. refl) (λ c miss. miss) steps refl s.exit s.refused)
      go new (watches.Passed exit) s turn steps = ended exit new turn.1 steps
      go new (watches.Broke (Some exit)) s turn steps = ended exit new turn.1 steps
      go new (watches.Broke None) s (inl first) steps =
          subst (Moves root old pod h) (sym first.1) (tells (events.Refused step.child) (record step { refused = true }) (own_child, first.0) (λ c. refl) (λ c miss. miss) steps refl s.exit (rw self refl))
      go new (watches.Broke None) s (inr again) steps =
          subst (Moves root old pod h) (sym again.1) (still (record step { refused = true }) steps refl s.exit (sym again.0))

  pub watch_acts : (new : List Event) (watch : Watch) → TellsArmedTurn step.child h new (arming_of step.child h) watch → Acts (acts watch step) h new
  watch_acts new watch told =
      let s = holds.steps place step at in
      go new watch s (subst (λ (o : Option Arming). TellsArmedTurn step.child h new o watch) s.armed told)
    where
      one_more : (count : ℕ) → count < suc count
      one_more count = omega arith

      of_exit : (new : List Event) (exit : ℕ) → step.exit ≡ exit_of step.child h → TellsExit step.child exit h new → Acts (is_none step.exit) h new
      of_exit new exit is (inl first) = rw (is ∙ first.0.no_exit) (subst (Acts true h) (sym first.1) (one_more (count_actions h)))
      of_exit new exit is (inr again) = rw (is ∙ again.0) (ap count_actions again.1)

      go : (new : List Event) (watch : Watch) (s : HoldsStep h old.name place step) → TellsTurn step.child s.arming h new watch → Acts (acts watch step) h new
      go new watches.Waits s turn = ap count_actions turn.1
      go new watches.Runs s turn = ap count_actions turn.1
      go new watches.Started s turn = subst (Acts true h) (sym turn.2) (one_more (count_actions h))
      go new (watches.Passed exit) s turn = of_exit new exit s.exit turn.1
      go new (watches.Broke (Some exit)) s turn = of_exit new exit s.exit turn.1
      go new (watches.Broke None) s (inl first) = rw (s.refused ∙ first.0.not_refused) (subst (Acts true h) (sym first.1) (one_more (count_actions h)))
      go new (watches.Broke None) s (inr again) = rw (s.refused ∙ again.0) (ap count_actions again.1)

-- one step more is armed
pub launch_moves : (root : List ℕ) (old new : HeldPod) (told now : List Event) (child : ℕ) (arming : Arming) (step : HeldStep) → IsPlanOf old.name old.plan → HoldsPod told old → IsNew child told → now ≡ events.Armed child arming ∷ told → slice_get old.plan.orders (length old.steps.items) ≡ Some arming.order → arming.keep_going ≡ continues old.plan.keep (length old.steps.items) → arming.wait ≡ wait_path root old.name (length old.steps.items) → arming.post ≡ post_path root old.name (length old.steps.items) → step.child ≡ child → step.exit ≡ None → step.refused ≡ false → new.name ≡ old.name → new.plan ≡ old.plan → new.ready ≡ true → new.steps.items ≡ old.steps.items ++ step ∷ [] → Moves root old new told now
launch_moves root old new told now child arming step planned holds fresh is order keeps waits posts is_child no_exit no_refusal name plan ready steps =
    let number : arming.order.step ≡ length old.steps.items = planned.step (length old.steps.items) arming.order order in
    let pod : arming.order.pod ≡ old.name = planned.pod (length old.steps.items) arming.order order in
    let may : May root old.name old.plan (events.Armed child arming) told = (
      fresh,
      record {
        same_pod = pod;
        own_order = subst (λ (n : ℕ). slice_get old.plan.orders n ≡ Some arming.order) (sym number) order;
        keeps = keeps ∙ ap (continues old.plan.keep) (sym number);
        waits = waits ∙ ap (wait_path root old.name) (sym number);
        posts = posts ∙ ap (post_path root old.name) (sym number);
      },
      subst (λ (n : ℕ). IsStepUnarmed old.name n told) (sym number) (next_unarmed told old holds),
    ) in
    record {
      same_name = name;
      same_plan = plan;
      holds = subst (λ (h : List Event). HoldsPod h new) (sym is) (holds_launch told old new child arming step holds fresh pod number is_child no_exit no_refusal name ready steps);
      adds = adds_one (May root old.name old.plan) (events.Armed child arming) told now is may;
    }

-- the folder is ready
pub ready_moves : (root : List ℕ) (old new : HeldPod) (told : List Event) → HoldsPod told old → new.name ≡ old.name → new.plan ≡ old.plan → new.steps.items ≡ old.steps.items → new.ready ≡ true → Moves root old new told told
ready_moves root old new told holds name plan steps ready = record {
  same_name = name;
  same_plan = plan;
  holds = record {
    steps = λ place step is. subst (λ (n : List ℕ). HoldsStep told n place step) (sym name) (holds.steps place step (subst (λ (ss : List HeldStep). slice_get ss place ≡ Some step) steps is));
    all = λ child arming is pod.
        let found = holds.all child arming is (pod ∙ name) in
        (found.0, subst (λ (ss : List HeldStep). slice_get ss arming.order.step ≡ Some found.0) (sym steps) found.1, found.2);
    unready = λ not_ready. let bad : true ≡ false = sym ready ∙ not_ready in cc;
  };
  adds = adds_none (May root old.name old.plan) told told refl;
}

-- more may come of both than of one
pub acts_then : (a b : Bool) (x y z : List Event) → Acts a x y → Acts b y z → Acts (a || b) x z
acts_then true true x y z first second = omega (arith, first, second)
acts_then true false x y z first second = omega (arith, first, second)
acts_then false true x y z first second = omega (arith, first, second)
acts_then false false x y z first second = second ∙ first

-- the path of a script
pub script_own : (root name : List ℕ) (plan : Plan) (path text : List ℕ) (place : ℕ) → slice_get plan.scripts place ≡ Some text → path ≡ script_path root name place → IsOwnPut root name plan path text
script_own root name plan path text place at is = inr (inl record { step = place; text = at; at = is })

pub plan_moves : (root : List ℕ) (a b : HeldPod) (x y : List Event) → Moves root a b x y → IsPlanOf a.name a.plan → IsPlanOf b.name b.plan
plan_moves root a b x y moves planned =
    let named : IsPlanOf b.name a.plan = subst (λ (n : List ℕ). IsPlanOf n a.plan) (sym moves.same_name) planned in
    subst (λ (p : Plan). IsPlanOf b.name p) (sym moves.same_plan) named
