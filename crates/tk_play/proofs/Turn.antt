-- A kubelet's turn over a host that plays its script is the machine's.
use Rattle.std.proofs.Common.{◌≡◌, ℕ, zero, suc, ◌<◌, ◌≤◌, ◌-◌, List, [], ◌∷◌, length, Option, Some, None, Bool, true, false, refl, sym, ◌∙◌, ap, subst, inl, inr, arith, nat_eq, slice_get, map, codes}
use Rattle.std.specs.Prelude.{◌⊎◌}
use Rattle.std.proofs.lemmas.Bool.{eq-eqb}
use Rattle.std.proofs.lemmas.List.{length-map}
use Rattle.std.proofs.lemmas.Option.{same_Some}
use Rattle.tk_types.specs.declared.scenario.Kind.{Kind}
use Rattle.tk_types.specs.declared.run.Outcome.{Outcome}
use Rattle.tk_types.specs.declared.run.Outcome.TheVariants as outcomes
use Rattle.tk_edge.specs.declared.event.Event.{Event}
use Rattle.tk_edge.specs.declared.event.Event.TheVariants as events
use Rattle.tk_edge.specs.declared.event.Arming.{Arming}
use Rattle.tk_edge.specs.declared.order.Order.{Order}
use Rattle.tk_edge.specs.Files.{Files}
use Rattle.tk_edge.specs.History.{Has as HostHas, GoesOn, IsTold, arming_of, exit_of, order_of, was_put}
use Rattle.tk_edge.specs.Plays.{Play}
use Rattle.tk_journal.specs.declared.act.Act.{Act}
use Rattle.tk_journal.specs.declared.act.Act.TheVariants as acts
use Rattle.tk_journal.specs.declared.entry.Actor.TheVariants as actors
use Rattle.tk_journal.specs.declared.entry.Entry.{Entry}
use Rattle.tk_journal.specs.declared.entry.Fronts.{Fronts}
use Rattle.tk_journal.specs.declared.object.Claim.{Claim}
use Rattle.tk_journal.specs.declared.object.Plan.{Plan}
use Rattle.tk_journal.specs.declared.object.PodState.{PodState}
use Rattle.tk_journal.specs.declared.object.RunState.{RunState}
use Rattle.tk_journal.specs.Effects.{is_create, kind_of, name_of}
use Rattle.tk_journal.specs.Folders.{HaveRoot}
use Rattle.tk_journal.specs.History.{View, pod_of, view_at}
use Rattle.tk_journal.specs.Legal.{IsCurrent, IsLegal, IsWritable}
use Rattle.tk_journal.specs.Progress.{at_end}
use Rattle.tk_journal.proofs.Past.{past_whole}
use Rattle.tk_journal.proofs.Present.{same_pod}
use Rattle.tk_store.specs.Writes.{Stored, HasMoved}
use Rattle.tk_cache.specs.Views.{Seen}
use Rattle.tk_choice.specs.Took.{entry_of}
use Rattle.tk_script.specs.declared.pod_script.PodScript.{PodScript}
use Rattle.tk_script.specs.ScriptHost.{Scripts, EndAsScripted, RefuseAsScripted, play_of, script_files}
use Rattle.tk_steps.specs.declared.held.HeldPod.{HeldPod}
use Rattle.tk_steps.specs.declared.held.HeldStep.{HeldStep}
use Rattle.tk_steps.specs.Paths.{start_path}
use Rattle.tk_steps.specs.Played.{WatchesFrom as WatchesChildren}
use Rattle.tk_steps.specs.Watched.{children_of}
use Rattle.tk_held.specs.Conditions.{AreMet, IsHeld, pods_of}
use Rattle.tk_held.specs.Pods.{RoseBy, count_failed, one_if}
use Rattle.tk_held.specs.Played.{IsWatchedThrough}
use Rattle.tk_held.specs.Settled.{settled_in}
use Rattle.tk_held.specs.Settling.{IsOfSettled}
use Rattle.tk_held.proofs.Again.{own_claimed}
use Rattle.tk_held.proofs.Moving.{moves_keep}
use Rattle.tk_outcome.specs.Exits.{exits_of}
use Rattle.tk_outcome.specs.Walked.{once_each}
use Rattle.tk_outcome.proofs.Gathers.{gathered_are_results}
use Rattle.tk_kubelet.specs.declared.kubelet.KubeletTurn.{KubeletTurn as Answer}
use Rattle.tk_kubelet.specs.declared.kubelet.KubeletTurn.TheVariants as answers
use Rattle.tk_kubelet.specs.Choice.{first_end}
use Rattle.tk_kubelet.specs.Ends.{EndsPod, EndsSo, Tries, TriesNone}
use Rattle.tk_kubelet.specs.Holding.{Holding, holding_of}
use Rattle.tk_kubelet.specs.Seat.{Hosts, Seat, seat_at}
use Rattle.tk_kubelet.specs.Turn.{Readied, TurnGives, TurnAnswers}
use Rattle.tk_kubelet.proofs.Rows.{is_free}
use Rattle.tk_machine.specs.State.{KubeletState}
use Rattle.tk_machine.specs.Hosts.{AreGathered, IsExitOf, IsFirst, IsFree, IsHeldBy, IsScripted, Script, layout}
use Rattle.tk_machine.specs.Kills.{AreKilledRight, BrokeBefore}
use Rattle.tk_machine.specs.Machine.{Answers, GoesThrough, HeldMoves, KubeletTries, KubeletTurn}
use Rattle.tk_machine.specs.Prompt.{IsWatched}
use Rattle.tk_machine.proofs.Moves.{watched_moves}
use Rattle.tk_machine.proofs.Older.{before_in_order}
use Rattle.tk_play.specs.Own.{AreOwn, IsOwn, IsSpaced}
use Rattle.tk_play.specs.Scripts.{script_of, scripted_file}
use Rattle.tk_play.specs.Turn.{PlaysTurn, TurnIsPlayed, state_of}
use Rattle.tk_play.proofs.Markers.{put_before}
use Rattle.tk_play.proofs.Own.{arming_later, exit_later, goes_one, goes_same, goes_then, order_later, own_adds}
use Rattle.tk_play.proofs.Spaces.{legal_is_spaced}
use Rattle.tk_play.proofs.Spared.{AddsOwn, IsOfFirst, IsOwnAct, spared}
use Rattle.tk_play.proofs.Tries.{claim_first, has_none, held_first, lost_first}
use Rattle.tk_play.proofs.Watches.{chain_goes, chain_prompt}

-- what a script's files come to are results
pub scripts_gather : (scripts : Scripts) → AreGathered (script_of scripts)
scripts_gather scripts pod declared results is = gathered_are_results declared (map (scripted_file scripts pod) (once_each declared)) results is

-- exits as scripted
all_scripted : (scripts : Scripts) (whole : List Event) → IsTold whole → EndAsScripted scripts whole → (told : List Event) → GoesOn told whole → IsScripted (script_of scripts) told
all_scripted scripts whole is_told ends [] goes = tt
all_scripted scripts whole is_told ends (e ∷ older) goes = by_event e goes (all_scripted scripts whole is_told ends older (goes_then older (e ∷ older) whole (goes_one e older) goes))
  where
    by_order : (child exit : ℕ) → GoesOn (events.Exited child exit ∷ older) whole → (o : Option Order) → order_of child older ≡ o → IsExitOf (script_of scripts) exit o
    by_order child exit goes None none = tt
    by_order child exit goes (Some order) started =
        let same : nat_eq child child ≡ true = eq-eqb child child refl in
        let exited : exit_of child (events.Exited child exit ∷ older) ≡ Some exit = rw same refl in
        ends child exit order (exit_later (events.Exited child exit ∷ older) whole goes is_told child exit exited) (order_later (events.Exited child exit ∷ older) whole goes is_told child order started)

    by_event : (e : Event) → GoesOn (e ∷ older) whole → IsScripted (script_of scripts) older → IsScripted (script_of scripts) (e ∷ older)
    by_event (events.Exited child exit) goes rest = (by_order child exit goes (order_of child older) refl, rest)
    by_event (events.Put path bytes answered) goes rest = rest
    by_event (events.Cleared folder answered) goes rest = rest
    by_event (events.Fetched path bytes) goes rest = rest
    by_event (events.Armed child arming) goes rest = rest
    by_event (events.Started child order) goes rest = rest
    by_event (events.Refused child) goes rest = rest

-- calls that failed

abbrev AreWhole : List HeldPod → Type 0
AreWhole held = (place : ℕ) (pod : HeldPod) → slice_get held place ≡ Some pod → pod.failed ≡ false

none_count : (held : List HeldPod) → AreWhole held → count_failed held ≡ 0
none_count [] whole = refl
none_count (pod ∷ held) whole = let here = ap one_if (whole 0 pod refl) in omega (arith, here, none_count held (λ place p at. whole (suc place) p at))

one_whole : (failed : Bool) → one_if failed ≡ 0 → failed ≡ false
one_whole true is = absurd (omega (arith, is))
one_whole false is = refl

count_none : (held : List HeldPod) → count_failed held ≡ 0 → AreWhole held
count_none [] none place pod at = cc (at)
count_none (first ∷ held) none zero pod at = subst (λ (p : HeldPod). p.failed ≡ false) (same_Some first pod at) (one_whole first.failed (omega (arith, none)))
count_none (first ∷ held) none (suc place) pod at = count_none held (omega (arith, none)) place pod at

stay_whole : (held ready : List HeldPod) (before now : ℕ) → AreWhole held → before ≡ 0 → now ≡ 0 → RoseBy (count_failed ready - count_failed held) before now → AreWhole ready
stay_whole held ready before now whole none none_now rose =
    let counts = none_count held whole in
    count_none ready (omega (arith, counts, none, none_now, rose))

module _ (script_pods : List PodScript) (number life : ℕ) (held new : List HeldPod) (fronts : Fronts) (versions : Kind → List ℕ → ℕ) (beside : List ℕ → Option RunState) (moment : ℕ) (hosts : Hosts) (before after : Stored) (answer : Answer) where
  abbrev scripts : Scripts
  scripts = record { root = codes "/work"; pods = script_pods }

  abbrev script : Script
  script = script_of scripts

  abbrev root : List ℕ
  root = codes "/work"

  abbrev history : List Entry
  history = before.history

  abbrev view : View
  view = view_at fronts history

  abbrev me : Claim
  me = record { number = number; life = life }

  abbrev seat : Seat
  seat = record { me = me; root = root; seen = record { fronts = fronts; view = view; versions = versions; beside = beside }; moment = moment }

  abbrev told : List Event
  told = hosts.before.told

  abbrev now : List Event
  now = hosts.now.told

  module _ (legal : IsLegal history) (rooted : HaveRoot root history) (met : AreMet number life root held history hosts.before.killed told) (met_after : AreMet number life root new after.history hosts.now.killed now)
      (plays : hosts.before.play ≡ Some (play_of scripts)) (no_fault : hosts.before.faults ≡ 0) (no_fault_now : hosts.now.faults ≡ 0) (files : hosts.now.files ≡ Some (script_files scripts now)) (ends : EndAsScripted scripts now) (refuses : RefuseAsScripted scripts now)
      (gives : TurnGives seat held new hosts before after answer) (own : IsOwn (holding_of number life root held) hosts.before.killed told) where
    abbrev ready : List HeldPod
    ready = gives.ready

    abbrev readied : Readied seat held ready hosts
    readied = gives.readied

    goes : GoesOn told now
    goes = record { since = readied.moves.adds.since; is = readied.moves.adds.is }

    whole : AreWhole ready
    whole = stay_whole held ready hosts.before.faults hosts.now.faults own.whole no_fault no_fault_now readied.few

    -- the conditions hold between the calls and the entry
    met_ready : AreMet number life root ready history hosts.now.killed now
    met_ready = moves_keep number life root held ready history hosts.before.killed hosts.now.killed told now legal met readied.moves readied.stays readied.still

    spaced_at : (hs : List HeldPod) (killed : ℕ → Bool) (at : List Event) → AreMet number life root hs history killed at → (place : ℕ) (pod : HeldPod) → slice_get hs place ≡ Some pod → IsSpaced root pod.name pod.plan
    spaced_at hs killed at m place pod there =
        let mine = m.claimed.mine place pod there in
        subst (IsSpaced root pod.name) mine.has.plan (legal_is_spaced root history legal rooted pod.name mine.it mine.is)

    own_now : AreOwn root now
    own_now = own_adds root held told now (λ place pod at. ((met.keeps place pod at).planned, spaced_at held hosts.before.killed told met place pod at)) readied.moves.adds own.own

    -- what the turn tries

    not_through : (act : Act) → is_create act ≡ false → (found : ℕ) → HasMoved before (entry_of (actors.Kubelet number life) fronts moment act) found → GoesThrough history fronts act → ⊥
    not_through act changing found moved through =
        let current : IsCurrent (kind_of act) (name_of act) fronts history = subst (λ (b : Bool). IsWritable b (kind_of act) (name_of act) fronts history) changing through in
        omega (arith, moved.newer, moved.now, current)

    own_act : (act : Act) → Tries seat ready hosts.now act → GoesThrough history fronts act → IsOwnAct history act
    own_act (acts.EndPod name exits outcome) tries through = tt
    own_act (acts.ClaimPod name) tries through =
        let free = is_free number view name tries.1 in
        record { it = free.state; is = sym (same_pod history fronts (actors.Kubelet number life) moment name through) ∙ free.is_seen; has = free.free }
    own_act _ tries through = absurd tries

    own_first : (name exits : List ℕ) (outcome : Outcome) → first_end number life view moment ready ≡ Some name → (place : ℕ) (pod : HeldPod) → slice_get ready place ≡ Some pod → name ≡ pod.name → exits ≡ exits_of pod.steps.items
        → EndsSo view moment root now hosts.now.files pod outcome → IsFirst script number life history view moment now (acts.EndPod name exits outcome)
    own_first name exits outcome first place pod at named own_exits ends_so =
        let spaced = spaced_at ready hosts.now.killed now met_ready place pod at in
        let so : EndsSo view moment root now (Some (script_files scripts now)) pod outcome = subst (λ (f : Option Files). EndsSo view moment root now f pod outcome) files ends_so in
        let here = held_first scripts number life history fronts moment hosts.now.killed now ready legal met_ready own_now place pod at (whole place pod at) spaced.plain spaced.no_claims outcome (first ∙ ap Some named) so in
        subst (λ (n : List ℕ). IsFirst script number life history view moment now (acts.EndPod n exits outcome)) (sym named) (subst (λ (es : List ℕ). IsFirst script number life history view moment now (acts.EndPod pod.name es outcome)) (sym own_exits) here)

    end_first : (name exits : List ℕ) (outcome : Outcome) → first_end number life view moment ready ≡ Some name → EndsPod seat ready hosts.now name exits outcome → IsFirst script number life history view moment now (acts.EndPod name exits outcome)
    end_first name exits outcomes.Lost first end = lost_first scripts number life history fronts moment hosts.now.killed now ready legal met_ready name exits first end.0 end.1
    end_first name exits outcomes.Cancelled first end = own_first name exits outcomes.Cancelled first end.place end.pod end.at end.named end.own_exits end.ends
    end_first name exits outcomes.TimedOut first end = own_first name exits outcomes.TimedOut first end.place end.pod end.at end.named end.own_exits end.ends
    end_first name exits (outcomes.Succeeded results) first end = own_first name exits (outcomes.Succeeded results) first end.place end.pod end.at end.named end.own_exits end.ends
    end_first name exits (outcomes.Failed exit results) first end = own_first name exits (outcomes.Failed exit results) first end.place end.pod end.at end.named end.own_exits end.ends

    is_first : (act : Act) → Tries seat ready hosts.now act → IsFirst script number life history view moment now act
    is_first (acts.EndPod name exits outcome) tries = end_first name exits outcome tries.0 tries.1
    is_first (acts.ClaimPod name) tries = claim_first scripts number life history fronts moment hosts.now.killed now ready legal met_ready name tries.0 tries.1
    is_first _ tries = absurd tries

    -- it has none, or tries the first
    abbrev HasTried : Type 0
    HasTried = (TriesNone seat ready × (after.history ≡ history))
        ⊎ ((act : Act) × IsFirst script number life history view moment now act × Answers history (actors.Kubelet number life) fronts moment act after.history × AddsOwn number life fronts moment history after.history)

    tried_of : (turn : Answer) → TurnAnswers seat ready hosts before after turn → HasTried
    tried_of answers.HostFault given = inl (given.0, ap (λ (s : Stored). s.history) given.1)
    tried_of answers.Acted given = inl (given.0, ap (λ (s : Stored). s.history) given.1)
    tried_of answers.Idle given = inl (given.0, ap (λ (s : Stored). s.history) given.1)
    tried_of (answers.Wrote version) given =
        let through = given.answered.0 in
        let added = given.answered.1.added in
        inr (given.act, is_first given.act given.tries, inl (through, added), inr (given.act, own_act given.act given.tries through, added))
    tried_of (answers.Conflict found) given =
        let same = ap (λ (s : Stored). s.history) given.answered.2 in
        inr (given.act, is_first given.act given.tries, inr (not_through given.act given.answered.0 found given.answered.1, same), inl same)

    tried : HasTried
    tried = tried_of answer gives.answers

    abbrev k : KubeletState
    k = record { fronts = fronts; life = life; told = told; killed = hosts.before.killed }

    tries : KubeletTries script number k moment history after.history now
    tries = elim tried [
      | inl none ↦ inl (has_none scripts number life history fronts moment hosts.now.killed now ready legal met_ready none.0.no_end none.0.no_claim, none.1)
      | inr act ↦ inr (act.0, act.1, act.2)
    ]

    adds : AddsOwn number life fronts moment history after.history
    adds = elim tried [ inl none ↦ inl none.1 | inr act ↦ act.3 ]

    -- what it kills

    spares : (child : ℕ) → hosts.now.killed child ≡ true → (hosts.before.killed child ≡ true) ⊎ (IsOfSettled view moment held child ⊎ IsOfFirst number life view moment ready child)
    spares child dead = elim (readied.spares child dead) [
      | inl before ↦ inl before
      | inr fresh ↦ elim fresh [
        | inl settled ↦ inr (inl settled)
        | inr ended ↦ inr (inr record { place = ended.place; pod = ended.pod; at = ended.at; ends = ended.ends; living = ended.living })
      ]
    ]

    is_spared : AreKilledRight number life hosts.before.killed told history moment → AreKilledRight number life hosts.now.killed now after.history moment
    is_spared = spared scripts number life history after.history fronts moment hosts.before.killed hosts.now.killed told now held ready legal met met_ready whole goes adds own.armed spares

    -- how held pods move, where the kubelet sees all

    module _ (sees_all : fronts ≡ at_end history) (right : AreKilledRight number life hosts.before.killed told history moment) (no_end : first_end number life view moment ready ≡ None) where
      seen_all : (name : List ℕ) → view.pod name ≡ pod_of history name
      seen_all name =
          let enough : length history ≤ fronts.pods = omega (arith, ap (λ (f : Fronts). f.pods) sees_all) in
          ap (λ (h : List Entry). pod_of h name) (past_whole fronts.pods history enough)

      module _ (name : List ℕ) (state : PodState) (there : pod_of history name ≡ Some state) (is_held : IsHeldBy number life state) (free : IsFree view moment name) where
        found : IsHeld ready name
        found = met_ready.claimed.all name state there is_held.claimed is_held.unended

        abbrev pod : HeldPod
        pod = found.pod

        spaced : IsSpaced root name state.plan
        spaced = legal_is_spaced root history legal rooted name state there

        plan : state.plan ≡ pod.plan
        plan =
            let mine = met_ready.claimed.mine found.place pod found.at in
            let same : state ≡ mine.it = same_Some state mine.it (sym there ∙ (ap (pod_of history) (sym found.named) ∙ mine.is)) in
            ap (λ (s : PodState). s.plan) same ∙ mine.has.plan

        free_pod : settled_in view moment pod.name ≡ None
        free_pod = ap (settled_in view moment) found.named ∙ free

        some_orders : 0 < length pod.plan.orders
        some_orders = (met_ready.keeps found.place pod found.at).planned.some

        all_armed : length pod.steps.items ≡ length pod.plan.orders
        all_armed = elim (readied.done found.place pod found.at free_pod) [
          | inl failed ↦ (let bad : true ≡ false = sym failed ∙ whole found.place pod found.at in cc (bad))
          | inr armed ↦ armed
        ]

        abbrev dead : ℕ → Bool
        dead = readied.played.dead

        through : IsWatchedThrough (Some (play_of scripts)) dead pod told now
        through = subst (λ (p : Option Play). IsWatchedThrough p dead pod told now) plays (readied.played.each found.place pod found.at free_pod (whole found.place pod found.at))

        -- what is killed of it waits behind a step that broke
        is_behind : (child : ℕ) (arming : Arming) → dead child ≡ true → arming_of child now ≡ Some arming → arming.order.pod ≡ name → BrokeBefore state.plan.keep name arming.order.step told
        is_behind child arming is_dead armed same = elim (spares child (readied.played.later child is_dead)) [
          | inl before ↦
              let entry = own.armed child before in
              let then = arming_later told now goes met_ready.kept.told child entry.it entry.is in
              let entry_same : entry.it ≡ arming = same_Some entry.it arming (sym then ∙ armed) in
              let armed_then : arming_of child told ≡ Some arming = entry.is ∙ ap Some entry_same in
              let there_now : pod_of history arming.order.pod ≡ Some state = ap (pod_of history) same ∙ there in
              elim (right child arming state before armed_then there_now is_held) [
                | inl settled ↦ absurd (settled (ap (λ (f : Fronts). settled_in (view_at f history) moment arming.order.pod) (sym sees_all) ∙ (ap (settled_in view moment) same ∙ free)))
                | inr broke ↦ subst (λ (n : List ℕ). BrokeBefore state.plan.keep n arming.order.step told) same broke
              ]
          | inr fresh ↦ elim fresh [
            | inl settled ↦
                let holds = (met.keeps settled.place settled.pod settled.at).holds.steps settled.own.living.place settled.own.living.step settled.own.living.at in
                let armed_then : arming_of child told ≡ Some holds.arming = ap (λ (c : ℕ). arming_of c told) (sym settled.own.living.is) ∙ holds.armed in
                let then = arming_later told now goes met_ready.kept.told child holds.arming armed_then in
                let entry_same : holds.arming ≡ arming = same_Some holds.arming arming (sym then ∙ armed) in
                let named : settled.pod.name ≡ name = sym holds.same_pod ∙ (ap (λ (a : Arming). a.order.pod) entry_same ∙ same) in
                absurd (settled.own.settled (ap (settled_in view moment) named ∙ free))
            | inr first ↦ (let bad : None ≡ Some first.pod.name = sym no_end ∙ first.ends in cc (bad))
          ]
        ]

        -- its first wait file stands
        ready_now : was_put (start_path root pod.name) now ≡ true
        ready_now = by_ready pod.ready refl
          where
            by_ready : (b : Bool) → pod.ready ≡ b → was_put (start_path root pod.name) now ≡ true
            by_ready true is = (met_ready.ready rooted found.place pod found.at is).start
            by_ready false not_ready =
                let none = (met_ready.keeps found.place pod found.at).holds.unready not_ready in
                absurd (omega (arith, some_orders, all_armed, ap length none))

        first_put : (children : List ℕ) → 0 < length children → WatchesChildren (Some (play_of scripts)) dead pod.name 0 children through.before through.after → was_put (layout.wait_of name 0) through.before ≡ true
        first_put [] some done = absurd (omega (arith, some))
        first_put (child ∷ children) some done =
            let to_now : GoesOn through.before now = goes_then through.before through.after now (chain_goes script_pods dead pod.name 0 (child ∷ children) through.before through.after done) through.to_new in
            let put : was_put (start_path root name) now ≡ true = ap (λ (n : List ℕ). was_put (start_path root n) now) (sym found.named) ∙ ready_now in
            put_before root name spaced.plain spaced.no_claims child done.1.arming (done.1.same_pod ∙ found.named) to_now.since through.before
            (subst (AreOwn root) to_now.is own_now) (subst IsTold to_now.is met_ready.kept.told) done.1.armed (subst (λ (h : List Event). was_put (start_path root name) h ≡ true) to_now.is put)

        is_watched : IsWatched number history name state told now
        is_watched =
            let count : length (children_of pod) ≡ length pod.steps.items = length-map pod.steps.items (λ (s : HeldStep). s.child) in
            let chain = subst (λ (n : List ℕ). WatchesChildren (Some (play_of scripts)) dead n 0 (children_of pod) through.before through.after) found.named through.watches in
            let to_now : GoesOn through.before now = goes_then through.before through.after now (chain_goes script_pods dead name 0 (children_of pod) through.before through.after chain) through.to_new in
            let claimed = own_claimed number life pod history (met_ready.claimed.mine found.place pod found.at) in
            record {
              children = children_of pod;
              all = omega (arith, count, all_armed, ap (λ (p : Plan). length p.orders) plan);
              before = through.before;
              after = through.after;
              from_old = through.from_old;
              to_new = through.to_new;
              in_order = before_in_order hosts.now.killed (pods_of number history) through.before now to_now met_ready.kept;
              first = first_put (children_of pod) (omega (arith, count, all_armed, some_orders)) through.watches;
              watches = chain_prompt script_pods name spaced.plain spaced.no_claims state.plan.keep hosts.now.killed (pods_of number history) claimed.it (ap (pods_of number history) (sym found.named) ∙ claimed.is) (claimed.has.1 ∙ ap (λ (p : Plan). p.keep) (sym plan))
                  told now own_now met_ready.kept refuses dead is_behind 0 (children_of pod) through.before through.after through.from_old through.to_new chain;
            }

      free_moves : (name : List ℕ) (state : PodState) → pod_of history name ≡ Some state → IsHeldBy number life state → HeldMoves script number life fronts moment history told now
      free_moves name state there is_held =
          watched_moves script (scripts_gather scripts) number life moment history view hosts.now.killed told now met_ready.kept (λ other s at mine free. is_watched other s at mine free) name state there (seen_all name ∙ there) is_held

    is_moved : fronts ≡ at_end history → AreKilledRight number life hosts.before.killed told history moment → (name : List ℕ) (state : PodState) → pod_of history name ≡ Some state → IsHeldBy number life state → HeldMoves script number life fronts moment history told now
    is_moved sees_all right name state there is_held = elim tried [
      | inl none ↦ free_moves sees_all right none.0.no_end name state there is_held
      | inr act ↦ inl (act.0, act.1.may)
    ]

    -- the turn, and what it keeps

    abbrev k_now : KubeletState
    k_now = record { fronts = fronts; life = life; told = now; killed = hosts.now.killed }

    pub is_turn : KubeletTurn script number k moment history after.history k_now
    is_turn = record {
      fronts = refl;
      life = refl;
      goes_on = goes;
      scripted = λ was. all_scripted scripts now met_after.kept.told ends now (goes_same now);
      kept = λ was. met_after.kept;
      spared = is_spared;
      moves = is_moved;
      tries = tries;
    }

    whole_after : AreWhole new
    whole_after place pod at = elim (gives.held place pod at) [ inl was ↦ whole was.0 pod was.1 | inr fresh ↦ fresh.not_failed ]

    armed_now : (child : ℕ) → hosts.now.killed child ≡ true → HostHas (arming_of child now) (λ arming. Unit {0})
    armed_now child dead = elim (spares child dead) [
      | inl before ↦ (let entry = own.armed child before in record { it = entry.it; is = arming_later told now goes met_ready.kept.told child entry.it entry.is; has = tt })
      | inr fresh ↦ elim fresh [
        | inl settled ↦
            let holds = (met.keeps settled.place settled.pod settled.at).holds.steps settled.own.living.place settled.own.living.step settled.own.living.at in
            let armed_then : arming_of child told ≡ Some holds.arming = ap (λ (c : ℕ). arming_of c told) (sym settled.own.living.is) ∙ holds.armed in
            record { it = holds.arming; is = arming_later told now goes met_ready.kept.told child holds.arming armed_then; has = tt }
        | inr first ↦
            let holds = (met_ready.keeps first.place first.pod first.at).holds.steps first.living.place first.living.step first.living.at in
            record { it = holds.arming; is = ap (λ (c : ℕ). arming_of c now) (sym first.living.is) ∙ holds.armed; has = tt }
      ]
    ]

    pub is_own : IsOwn (holding_of number life root new) hosts.now.killed now
    is_own = record { whole = whole_after; own = own_now; armed = armed_now }

-- the same of the kubelet and the host as they are given
module _ (scripts : Scripts) (kubelet now : Holding) (seen : Seen) (moment : ℕ) (hosts : Hosts) (before after : Stored) (answer : Answer) (p : PlaysTurn scripts kubelet now seen moment hosts before after answer) (own : IsOwn kubelet hosts.before.killed hosts.before.told) where
  abbrev scripts_in : List ℕ → Scripts
  scripts_in root = record { root = root; pods = scripts.pods }

  abbrev rooted : Scripts
  rooted = scripts_in (codes "/work")

  scripts_are : scripts ≡ rooted
  scripts_are = ap scripts_in p.host_root

  now_is : holding_of kubelet.number kubelet.life (codes "/work") now.held ≡ now
  now_is =
      ap (λ (n : ℕ). holding_of n kubelet.life (codes "/work") now.held) (sym p.same.number)
      ∙ (ap (λ (l : ℕ). holding_of now.number l (codes "/work") now.held) (sym p.same.life)
      ∙ ap (λ (r : List ℕ). holding_of now.number now.life r now.held) (sym (p.same.root ∙ p.own_root)))

  abbrev seen_with : View → Seen
  seen_with view = record { fronts = seen.fronts; view = view; versions = seen.versions; beside = seen.beside }

  abbrev seen_view : View
  seen_view = view_at seen.fronts before.history

  gives : TurnGives (seat_at record { number = kubelet.number; life = kubelet.life } (codes "/work") (seen_with seen_view) moment) kubelet.held now.held hosts before after answer
  gives =
      subst (λ (v : View). TurnGives (seat_at record { number = kubelet.number; life = kubelet.life } (codes "/work") (seen_with v) moment) kubelet.held now.held hosts before after answer) p.shows.same
      (subst (λ (r : List ℕ). TurnGives (seat_at record { number = kubelet.number; life = kubelet.life } r seen moment) kubelet.held now.held hosts before after answer) p.own_root p.gives)

  met : AreMet kubelet.number kubelet.life (codes "/work") kubelet.held before.history hosts.before.killed hosts.before.told
  met = subst (λ (r : List ℕ). AreMet kubelet.number kubelet.life r kubelet.held before.history hosts.before.killed hosts.before.told) p.own_root p.met

  met_after : AreMet kubelet.number kubelet.life (codes "/work") now.held after.history hosts.now.killed hosts.now.told
  met_after = subst (λ (k : Holding). AreMet k.number k.life k.root k.held after.history hosts.now.killed hosts.now.told) (sym now_is) p.met_now

  own_here : IsOwn (holding_of kubelet.number kubelet.life (codes "/work") kubelet.held) hosts.before.killed hosts.before.told
  own_here = subst (λ (r : List ℕ). IsOwn (holding_of kubelet.number kubelet.life r kubelet.held) hosts.before.killed hosts.before.told) p.own_root own

  plays : hosts.before.play ≡ Some (play_of rooted)
  plays = p.plays ∙ ap (λ (s : Scripts). Some (play_of s)) scripts_are

  files : hosts.now.files ≡ Some (script_files rooted hosts.now.told)
  files = p.files ∙ ap (λ (s : Scripts). Some (script_files s hosts.now.told)) scripts_are

  ends : EndAsScripted rooted hosts.now.told
  ends = subst (λ (s : Scripts). EndAsScripted s hosts.now.told) scripts_are p.ends

  refuses : RefuseAsScripted rooted hosts.now.told
  refuses = subst (λ (s : Scripts). RefuseAsScripted s hosts.now.told) scripts_are p.refuses

  turned : KubeletTurn (script_of rooted) kubelet.number (state_of kubelet seen.fronts hosts.before) moment before.history after.history record { fronts = seen.fronts; life = kubelet.life; told = hosts.now.told; killed = hosts.now.killed }
  turned = is_turn scripts.pods kubelet.number kubelet.life kubelet.held now.held seen.fronts seen.versions seen.beside moment hosts before after answer p.legal p.rooted met met_after plays p.no_fault p.no_fault_now files ends refuses gives own_here

  own_after : IsOwn (holding_of kubelet.number kubelet.life (codes "/work") now.held) hosts.now.killed hosts.now.told
  own_after = is_own scripts.pods kubelet.number kubelet.life kubelet.held now.held seen.fronts seen.versions seen.beside moment hosts before after answer p.legal p.rooted met met_after plays p.no_fault p.no_fault_now files ends refuses gives own_here

  played : KubeletTurn (script_of scripts) kubelet.number (state_of kubelet seen.fronts hosts.before) moment before.history after.history (state_of now seen.fronts hosts.now) × IsOwn now hosts.now.killed hosts.now.told
  played = (
    subst (λ (l : ℕ). KubeletTurn (script_of scripts) kubelet.number (state_of kubelet seen.fronts hosts.before) moment before.history after.history record { fronts = seen.fronts; life = l; told = hosts.now.told; killed = hosts.now.killed }) (sym p.same.life)
        (subst (λ (s : Scripts). KubeletTurn (script_of s) kubelet.number (state_of kubelet seen.fronts hosts.before) moment before.history after.history record { fronts = seen.fronts; life = kubelet.life; told = hosts.now.told; killed = hosts.now.killed }) (sym scripts_are) turned),
    subst (λ (k : Holding). IsOwn k hosts.now.killed hosts.now.told) now_is own_after,
  )

pub turn_is_played : TurnIsPlayed
turn_is_played scripts kubelet now seen moment hosts before after answer p own = played scripts kubelet now seen moment hosts before after answer p own
