-- A host that plays its script is prompt, so a turn that watches each step of a held pod moves it.
use Rattle.std.proofs.Common.{◌≡◌, ◌≢◌, ℕ, suc, List, [], ◌∷◌, Some, None, is_some, Bool, true, false, not, ◌&&◌, refl, sym, ◌∙◌, ap, subst, inl, inr, nat_eq, codes}
use Rattle.std.specs.Prelude.{bytes_eq, IsTrue, if◌then◌else◌}
use Rattle.std.proofs.lemmas.Bool.{cases_Bool, eqb-true}
use Rattle.std.proofs.lemmas.Option.{same_Some}
use Rattle.std.proofs.lemmas.Slice.Eq.{bytes_eq-Decides}
use Rattle.tk_pod.specs.Exits.{continues, passes}
use Rattle.tk_edge.specs.declared.event.Event.{Event}
use Rattle.tk_edge.specs.declared.event.Event.TheVariants as events
use Rattle.tk_edge.specs.declared.event.Arming.{Arming}
use Rattle.tk_edge.specs.declared.order.Watch.{Watch}
use Rattle.tk_edge.specs.declared.order.Watch.TheVariants as watches
use Rattle.tk_edge.specs.Calls.{TellsTurn, TellsExit}
use Rattle.tk_edge.specs.Files.{broken, is_under}
use Rattle.tk_edge.specs.History.{Has, GoesOn, IsNew, IsTold, MayStart, arming_of, exit_of, is_refused, order_of, was_put}
use Rattle.tk_edge.specs.InOrder.{AreStartsArmed, Claimed, IsKept, Pods, StepPassed}
use Rattle.tk_edge.specs.Memory.{ended_watch, some_passed}
use Rattle.tk_edge.specs.Plays.{IsPlayed, first_watch, may_start, played_watch}
use Rattle.tk_edge.proofs.InOrder.{armed_due}
use Rattle.tk_edge.proofs.Starts.{may_start_iff}
use Rattle.tk_script.specs.declared.pod_script.PodScript.{PodScript}
use Rattle.tk_script.specs.ScriptHost.{Scripts, RefuseAsScripted, play_of, script_file}
use Rattle.tk_space.specs.Apart.{IsName}
use Rattle.tk_steps.specs.Paths.{post_path, wait_path}
use Rattle.tk_steps.specs.Played.{WatchesFrom as WatchesChildren}
use Rattle.tk_held.proofs.Kept.{layout_is, no_post}
use Rattle.tk_machine.specs.Hosts.{layout}
use Rattle.tk_machine.specs.Kills.{BrokeBefore, StepBroke}
use Rattle.tk_machine.specs.Prompt.{IsPrompt, WatchesFrom}
use Rattle.tk_machine.proofs.Deeds.{one_child}
use Rattle.tk_machine.proofs.Older.{before_in_order}
use Rattle.tk_play.specs.Own.{AreOwn}
use Rattle.tk_play.proofs.Markers.{AreKeeping, keeping_older, may_start_stands, stands_broke}
use Rattle.tk_play.proofs.Own.{armed_at, arming_later, broke_later, goes_one, goes_then, own_before, refuse_before}

-- nothing was refused that has a new number
refused_new : (child : ℕ) (told : List Event) → IsNew child told → is_refused child told ≡ false
refused_new child [] new = refl
refused_new child (events.Refused other ∷ older) new = rw new.0 (refused_new child older new.1)
refused_new child (events.Put path bytes answered ∷ older) new = refused_new child older new.1
refused_new child (events.Cleared folder answered ∷ older) new = refused_new child older new.1
refused_new child (events.Fetched path bytes ∷ older) new = refused_new child older new.1
refused_new child (events.Armed other arming ∷ older) new = refused_new child older new.1
refused_new child (events.Started other order ∷ older) new = refused_new child older new.1
refused_new child (events.Exited other exit ∷ older) new = refused_new child older new.1

-- the kubelet puts no post file
never_put : (root : List ℕ) (told : List Event) → AreOwn root told → (pod : List ℕ) (step : ℕ) → was_put (post_path root pod step) told ≡ false
never_put root [] own pod step = refl
never_put root (events.Put path bytes true ∷ older) own pod step = elim (cases_Bool (bytes_eq (post_path root pod step) path)) [
  | inl hit ↦ absurd (no_post root own.0.name own.0.plan own.0.planned path bytes own.0.may.0 pod step ((bytes_eq-Decides (post_path root pod step) path).0 hit))
  | inr miss ↦ rw miss (never_put root older own.1 pod step)
]
never_put root (events.Put path bytes false ∷ older) own pod step = never_put root older own.1 pod step
never_put root (events.Cleared folder true ∷ older) own pod step = rw (never_put root older own.1 pod step) (and_none (not (is_under folder (post_path root pod step))))
  where
    and_none : (b : Bool) → (b && false) ≡ false
    and_none true = refl
    and_none false = refl
never_put root (events.Cleared folder false ∷ older) own pod step = never_put root older own.1 pod step
never_put root (events.Fetched path bytes ∷ older) own pod step = never_put root older own.1 pod step
never_put root (events.Armed child arming ∷ older) own pod step = never_put root older own.1 pod step
never_put root (events.Started child order ∷ older) own pod step = never_put root older own.1 pod step
never_put root (events.Refused child ∷ older) own pod step = never_put root older own.1 pod step
never_put root (events.Exited child exit ∷ older) own pod step = never_put root older own.1 pod step

-- an older part of a kept history is kept, where all children count as killed
kept_before : (killed : ℕ → Bool) (pods : Pods) (old new : List Event) → GoesOn old new → AreOwn (codes "/work") old → IsKept layout killed pods new → IsKept layout (λ child. true) pods old
kept_before killed pods old new goes own kept =
    let in_order = before_in_order killed pods old new goes kept in
    record {
      told = in_order.told;
      in_order = record { due = in_order.due; settled = λ child order started over. inr refl };
      armed = record {
        starts = in_order.starts;
        each = in_order.each;
        once = λ c d a b is_c is_d pod step. kept.armed.once c d a b (arming_later old new goes kept.told c a is_c) (arming_later old new goes kept.told d b is_d) pod step;
        no_posts = never_put (codes "/work") old own;
      };
    }

-- watches go on

exit_goes : (child exit : ℕ) (old new : List Event) → TellsExit child exit old new → GoesOn old new
exit_goes child exit old new tells = elim tells [ inl fresh ↦ record { since = events.Exited child exit ∷ []; is = fresh.1 } | inr same ↦ record { since = []; is = same.1 } ]

turn_goes : (child : ℕ) (arming : Arming) (old new : List Event) (watch : Watch) → TellsTurn child arming old new watch → GoesOn old new
turn_goes child arming old new watches.Waits tells = record { since = []; is = tells.1 }
turn_goes child arming old new watches.Started tells = record { since = events.Started child arming.order ∷ []; is = tells.2 }
turn_goes child arming old new watches.Runs tells = record { since = []; is = tells.1 }
turn_goes child arming old new (watches.Passed exit) tells = exit_goes child exit old new tells.1
turn_goes child arming old new (watches.Broke (Some exit)) tells = exit_goes child exit old new tells.1
turn_goes child arming old new (watches.Broke None) tells = elim tells [ inl fresh ↦ record { since = events.Refused child ∷ []; is = fresh.1 } | inr same ↦ record { since = []; is = same.1 } ]

module _ (pods_scripted : List PodScript) where
  abbrev scripts : Scripts
  scripts = record { root = codes "/work"; pods = pods_scripted }

  module _ (dead : ℕ → Bool) (name : List ℕ) where
    abbrev Chain : ℕ → List ℕ → List Event → List Event → Type 0
    Chain step children old new = WatchesChildren (Some (play_of scripts)) dead name step children old new

    pub chain_goes : (step : ℕ) (children : List ℕ) (old new : List Event) → Chain step children old new → GoesOn old new
    chain_goes step [] old new done = record { since = []; is = done }
    chain_goes step (child ∷ children) old new done =
        goes_then old done.0 new (turn_goes child done.1.arming old done.0 done.1.watch done.1.tells) (chain_goes (suc step) children done.0 new done.2)

  module _ (name : List ℕ) (plain : IsName name) (no_claims : name ≢ codes "claims") (keep : ℕ) where
    behind : (e : Event) (older : List Event) → IsTold (e ∷ older) → (arming : Arming) → BrokeBefore keep name arming.order.step older → BrokeBefore keep name arming.order.step (e ∷ older)
    behind e older told arming broke = broke_later keep name arming.order.step older (e ∷ older) (goes_one e older) told broke

    -- an entry of the pod that is refused now stands behind a step that broke
    refused_now : (older : List Event) → AreOwn (codes "/work") older → IsTold older → AreStartsArmed older → RefuseAsScripted scripts older → AreKeeping scripts name plain no_claims keep older → (child : ℕ) (arming : Arming) → arming_of child older ≡ Some arming → arming.order.pod ≡ name
        → Has (arming_of child older) (λ (a : Arming). Has (script_file scripts (broken a.wait) older) (λ bytes. Unit {0})) → BrokeBefore keep name arming.order.step older
    refused_now older own told starts refuses keeping child arming armed same found =
        let at = armed_at (codes "/work") older child arming own armed in
        let found_same : found.it ≡ arming = same_Some found.it arming (sym found.is ∙ armed) in
        let wait : found.it.wait ≡ wait_path (codes "/work") name arming.order.step = ap (λ (a : Arming). a.wait) found_same ∙ (at.waits ∙ ap (λ (n : List ℕ). wait_path (codes "/work") n arming.order.step) same) in
        let stands : is_some (script_file scripts (broken (wait_path (codes "/work") name arming.order.step)) older) ≡ true = ap (λ (w : List ℕ). is_some (script_file scripts (broken w) older)) (sym wait) ∙ ap is_some found.has.is in
        stands_broke scripts name plain no_claims keep older own told starts refuses keeping arming.order.step at.small stands

    -- so does one that was
    refused_broke : (told : List Event) → AreOwn (codes "/work") told → IsTold told → AreStartsArmed told → RefuseAsScripted scripts told → AreKeeping scripts name plain no_claims keep told
        → (child : ℕ) (arming : Arming) → arming_of child told ≡ Some arming → arming.order.pod ≡ name → is_refused child told ≡ true → BrokeBefore keep name arming.order.step told
    refused_broke [] own is_told starts refuses keeping child arming armed same refused = cc
    refused_broke (events.Put path bytes answered ∷ older) own is_told starts refuses keeping child arming armed same refused =
        behind (events.Put path bytes answered) older is_told arming (refused_broke older own.1 is_told.1 starts refuses.1 (keeping_older scripts name plain no_claims keep (events.Put path bytes answered) older is_told.0 keeping) child arming armed same refused)
    refused_broke (events.Cleared folder answered ∷ older) own is_told starts refuses keeping child arming armed same refused =
        behind (events.Cleared folder answered) older is_told arming (refused_broke older own.1 is_told.1 starts refuses.1 (keeping_older scripts name plain no_claims keep (events.Cleared folder answered) older is_told.0 keeping) child arming armed same refused)
    refused_broke (events.Fetched path bytes ∷ older) own is_told starts refuses keeping child arming armed same refused =
        behind (events.Fetched path bytes) older is_told arming (refused_broke older own.1 is_told.1 starts refuses.1 (keeping_older scripts name plain no_claims keep (events.Fetched path bytes) older is_told.0 keeping) child arming armed same refused)
    refused_broke (events.Armed other first ∷ older) own is_told starts refuses keeping child arming armed same refused = elim (cases_Bool (nat_eq child other)) [
      | inl hit ↦
          let none : is_refused child older ≡ false = subst (λ (c : ℕ). is_refused c older ≡ false) (sym (eqb-true child other hit)) (refused_new other older is_told.0) in
          let bad : true ≡ false = sym refused ∙ none in
          cc (bad)
      | inr miss ↦ behind (events.Armed other first) older is_told arming (refused_broke older own.1 is_told.1 starts refuses.1 (keeping_older scripts name plain no_claims keep (events.Armed other first) older is_told.0 keeping) child arming (rw miss at armed) same refused)
    ]
    refused_broke (events.Started other order ∷ older) own is_told starts refuses keeping child arming armed same refused =
        behind (events.Started other order) older is_told arming (refused_broke older own.1 is_told.1 starts.1 refuses.1 (keeping_older scripts name plain no_claims keep (events.Started other order) older is_told.0 keeping) child arming armed same refused)
    refused_broke (events.Exited other exit ∷ older) own is_told starts refuses keeping child arming armed same refused =
        behind (events.Exited other exit) older is_told arming (refused_broke older own.1 is_told.1 starts refuses.1 (keeping_older scripts name plain no_claims keep (events.Exited other exit) older is_told.0 keeping) child arming armed same refused)
    refused_broke (events.Refused other ∷ older) own is_told starts refuses keeping child arming armed same refused = elim (cases_Bool (nat_eq child other)) [
      | inl hit ↦
          let found = subst (λ (c : ℕ). Has (arming_of c older) (λ (a : Arming). Has (script_file scripts (broken a.wait) older) (λ bytes. Unit {0}))) (sym (eqb-true child other hit)) refuses.0 in
          behind (events.Refused other) older is_told arming (refused_now older own.1 is_told.1 starts refuses.1 (keeping_older scripts name plain no_claims keep (events.Refused other) older is_told.0 keeping) child arming armed same found)
      | inr miss ↦ behind (events.Refused other) older is_told arming (refused_broke older own.1 is_told.1 starts refuses.1 (keeping_older scripts name plain no_claims keep (events.Refused other) older is_told.0 keeping) child arming armed same (rw miss at refused))
    ]

    module _ (killed : ℕ → Bool) (pods : Pods) (claimed : Claimed) (is_claimed : pods name ≡ Some claimed) (same_keep : claimed.keep ≡ keep) (old now : List Event) (own : AreOwn (codes "/work") now) (kept : IsKept layout killed pods now) (refuses : RefuseAsScripted scripts now)
        (dead : ℕ → Bool) (spared : (child : ℕ) (arming : Arming) → dead child ≡ true → arming_of child now ≡ Some arming → arming.order.pod ≡ name → BrokeBefore keep name arming.order.step old) where
      keeping : (told : List Event) → GoesOn told now → AreKeeping scripts name plain no_claims keep told
      keeping told goes child arming armed same =
          let at = kept.armed.each child arming (arming_later told now goes kept.told child arming armed) in
          let mine : at.claimed ≡ claimed = same_Some at.claimed claimed (sym at.is_claimed ∙ (ap pods same ∙ is_claimed)) in
          at.keeps ∙ ap (λ (k : ℕ). continues k arming.order.step) (ap (λ (c : Claimed). c.keep) mine ∙ same_keep)

      module _ (told : List Event) (goes : GoesOn told now) where
        own_here : AreOwn (codes "/work") told
        own_here = own_before (codes "/work") told now goes own

        kept_here : IsKept layout (λ child. true) pods told
        kept_here = kept_before killed pods told now goes own_here kept

        refuses_here : RefuseAsScripted scripts told
        refuses_here = refuse_before scripts told now goes refuses

        -- a step doesn't both pass and break
        not_both : (step : ℕ) → StepPassed keep name step told → StepBroke keep name step told → ⊥
        not_both step p b =
            let same : p.child ≡ b.child = one_child pods told kept_here.in_order.due p.child b.child p.order b.order p.started b.started (p.same_pod ∙ sym b.same_pod) (p.same_step ∙ sym b.same_step) in
            let exits : p.exit ≡ b.exit = same_Some p.exit b.exit (sym p.exited ∙ (ap (λ (c : ℕ). exit_of c told) same ∙ b.exited)) in
            let bad : true ≡ false = sym p.passed ∙ (ap (passes (continues keep step)) exits ∙ b.broke) in
            cc (bad)

        -- so no entry may start behind one that broke
        not_behind : (child : ℕ) (arming : Arming) → arming_of child told ≡ Some arming → arming.order.pod ≡ name → BrokeBefore keep name arming.order.step told → MayStart arming told → ⊥
        not_behind child arming armed same (earlier, below, broke) may =
            let due = armed_due layout (layout_is (codes "/work")) (λ c. true) pods told kept_here child arming armed may in
            let mine : due.claimed ≡ claimed = same_Some due.claimed claimed (sym due.is_claimed ∙ (ap pods same ∙ is_claimed)) in
            let keeps : due.claimed.keep ≡ keep = ap (λ (c : Claimed). c.keep) mine ∙ same_keep in
            let passed : StepPassed keep name earlier told = subst (λ (k : ℕ). StepPassed k name earlier told) keeps (subst (λ (n : List ℕ). StepPassed due.claimed.keep n earlier told) same (due.earlier earlier below)) in
            not_both earlier passed broke

        module _ (since_old : GoesOn old told) (child : ℕ) (arming : Arming) (armed : arming_of child told ≡ Some arming) (same : arming.order.pod ≡ name) where
          at_wait : arming.wait ≡ wait_path (codes "/work") name arming.order.step
          at_wait = (armed_at (codes "/work") told child arming own_here armed).waits ∙ ap (λ (n : List ℕ). wait_path (codes "/work") n arming.order.step) same

          prompt_broke : BrokeBefore keep name arming.order.step told → IsPrompt keep arming told (watches.Broke None)
          prompt_broke broke = subst (λ (n : List ℕ). BrokeBefore keep n arming.order.step told) (sym same) broke

          prompt_ended : (going : Bool) (exit : ℕ) → IsPrompt keep arming told (ended_watch going exit)
          prompt_ended going exit = by_pass (passes going exit)
            where
              by_pass : (passed : Bool) → IsPrompt keep arming told (if passed then watches.Passed exit else watches.Broke (Some exit))
              by_pass true = tt
              by_pass false = tt

          -- a waiting entry whose files stand starts
          prompt_waiting : (err ready : Bool) → is_some (script_file scripts (broken arming.wait) told) ≡ err → (is_some (script_file scripts arming.wait told) && may_start arming told) ≡ ready → IsPrompt keep arming told (first_watch err ready)
          prompt_waiting true ready stands is =
              let there = ap (λ (w : List ℕ). is_some (script_file scripts (broken w) told)) (sym at_wait) ∙ stands in
              prompt_broke (stands_broke scripts name plain no_claims keep told own_here kept_here.told kept_here.armed.starts refuses_here (keeping told goes) arming.order.step (armed_at (codes "/work") told child arming own_here armed).small there)
          prompt_waiting false true none is = tt
          prompt_waiting false false none is = λ may.
              let stands = may_start_stands scripts told own_here kept_here.told arming may in
              let may_now : IsTrue (may_start arming told) = (may_start_iff arming told (was_put arming.wait told) (some_passed arming.order.pod arming.wait told told) refl refl).1 may in
              let starts : may_start arming told ≡ true = may_now in
              let bad : true ≡ false = rw (stands, starts) at is in
              cc (bad)

          prompt_killed : (is_dead : Bool) → dead child ≡ is_dead → IsPrompt keep arming told (if is_dead then watches.Waits else first_watch (is_some (script_file scripts (broken arming.wait) told)) (is_some (script_file scripts arming.wait told) && may_start arming told))
          prompt_killed true is = λ may. not_behind child arming armed same (broke_later keep name arming.order.step old told since_old kept_here.told (spared child arming is (arming_later told now goes kept.told child arming armed) same)) may
          prompt_killed false is = prompt_waiting (is_some (script_file scripts (broken arming.wait) told)) (is_some (script_file scripts arming.wait told) && may_start arming told) refl refl

          prompt_refused : (refused : Bool) → is_refused child told ≡ refused → IsPrompt keep arming told (if refused then watches.Broke None else (if dead child then watches.Waits else first_watch (is_some (script_file scripts (broken arming.wait) told)) (is_some (script_file scripts arming.wait told) && may_start arming told)))
          prompt_refused true is = prompt_broke (refused_broke told own_here kept_here.told kept_here.armed.starts refuses_here (keeping told goes) child arming armed same is)
          prompt_refused false is = prompt_killed (dead child) refl

          prompt_played : IsPrompt keep arming told (played_watch (play_of scripts) (dead child) child told arming)
          prompt_played = by_start (is_some (order_of child told))
            where
              by_start : (started : Bool) → IsPrompt keep arming told (if started then ended_watch arming.keep_going ((play_of scripts).exit arming.order.pod arming.order.step) else (if is_refused child told then watches.Broke None else (if dead child then watches.Waits else first_watch (is_some (script_file scripts (broken arming.wait) told)) (is_some (script_file scripts arming.wait told) && may_start arming told))))
              by_start true = prompt_ended arming.keep_going ((play_of scripts).exit arming.order.pod arming.order.step)
              by_start false = prompt_refused (is_refused child told) refl

          pub prompt_of : (watch : Watch) → IsPlayed (Some (play_of scripts)) (dead child) child told watch → IsPrompt keep arming told watch
          prompt_of watch played =
              let entry : played.it ≡ arming = same_Some played.it arming (sym played.is ∙ armed) in
              subst (IsPrompt keep arming told) (sym (played.has ∙ ap (played_watch (play_of scripts) (dead child) child told) entry)) prompt_played

      pub chain_prompt : (step : ℕ) (children : List ℕ) (told new : List Event) → GoesOn old told → GoesOn new now → Chain dead name step children told new → WatchesFrom keep name step children told new
      chain_prompt step [] told new since_old to_now done = done
      chain_prompt step (child ∷ children) told new since_old to_now done =
          let watched = done.1 in
          let rest = chain_goes dead name (suc step) children done.0 new done.2 in
          let next : GoesOn told done.0 = turn_goes child watched.arming told done.0 watched.watch watched.tells in
          let goes : GoesOn told now = goes_then told done.0 now next (goes_then done.0 new now rest to_now) in (
            done.0,
            record {
              arming = watched.arming;
              armed = watched.armed;
              same_pod = watched.same_pod;
              same_step = watched.same_step;
              watch = watched.watch;
              tells = watched.tells;
              prompt = prompt_of told goes since_old child watched.arming watched.armed watched.same_pod watched.watch watched.played;
            },
            chain_prompt (suc step) children done.0 new (goes_then old told done.0 since_old next) to_now done.2,
          )
