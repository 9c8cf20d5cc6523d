-- A kubelet's turn keeps what stands of its pods.
use Rattle.std.proofs.Common.{◌≡◌, ◌≢◌, ◌+◌, ℕ, List, [], ◌∷◌, length, Option, Some, None, true, refl, sym, ◌∙◌, ap, subst, arith, inl, inr}
use Rattle.std.specs.Prelude.{◌⊎◌, slice_get}
use Rattle.std.proofs.lemmas.Option.{same_Some}
use Rattle.tk_types.specs.declared.run.Outcome.{Outcome}
use Rattle.tk_types.specs.declared.run.Outcome.TheVariants as outcomes
use Rattle.tk_edge.specs.declared.event.Event.{Event}
use Rattle.tk_edge.specs.Files.{Files}
use Rattle.tk_edge.specs.History.{Has}
use Rattle.tk_journal.specs.declared.act.Act.{Act}
use Rattle.tk_journal.specs.declared.act.Act.TheVariants as acts
use Rattle.tk_journal.specs.declared.entry.Entry.{Entry}
use Rattle.tk_journal.specs.declared.object.PodState.{PodState}
use Rattle.tk_journal.specs.History.{View, pod_of}
use Rattle.tk_journal.specs.Legal.{IsLegal}
use Rattle.tk_store.specs.Writes.{Stored}
use Rattle.tk_cache.specs.Views.{Seen}
use Rattle.tk_steps.specs.declared.held.HeldPod.{HeldPod}
use Rattle.tk_held.specs.Conditions.{AreMet, ArePlanned, IsMine, claim_of, not_lost}
use Rattle.tk_held.specs.Pods.{MovesAll, RoseBy, count_failed, one_if}
use Rattle.tk_outcome.specs.Exits.{exits_of}
use Rattle.tk_kubelet.specs.declared.kubelet.KubeletTurn.{KubeletTurn}
use Rattle.tk_kubelet.specs.declared.kubelet.KubeletTurn.TheVariants as answers
use Rattle.tk_kubelet.specs.Ends.{EndsOwn, EndsPod, EndsSo, Tries, without_exit}
use Rattle.tk_kubelet.specs.Entries.{HeldAfter}
use Rattle.tk_kubelet.specs.Seat.{Hosts, Seat, entry_by, seat_at}
use Rattle.tk_kubelet.specs.Turn.{Readied, TurnAnswers, TurnGives, TurnMissed}
use Rattle.tk_rounds.specs.Outcomes.{AreEndedBy, EndsBy, HasOutcomes, IsEndedBy}
use Rattle.tk_rounds.proofs.Counting.{count_but, count_in}
use Rattle.tk_rounds.proofs.Ended.{contains_first, ended_more, ended_unheld, outcomes_moved, rose_less}
use Rattle.tk_rounds.proofs.Recorded.{ended_claim, ended_end, ended_here, walked_alone}

-- how a pod ends by itself, or since a call for it failed
judged : (view : View) (moment : ℕ) (root : List ℕ) (told : List Event) (files : Option Files) (pod : HeldPod) (outcome : Outcome) → EndsSo view moment root told files pod outcome
    → ((failed : List (List ℕ)) → EndsBy root told failed pod outcome) ⊎ ((pod.failed ≡ true) × (outcome ≡ without_exit))
judged view moment root told files pod (outcomes.Succeeded results) ends = elim ends.ends [
  | inl failed ↦ (let bad = failed.1 in cc (bad))
  | inr walked ↦ inl (λ failed. walked_alone root told files pod (outcomes.Succeeded results) walked.1)
]
judged view moment root told files pod (outcomes.Failed (Some exit) results) ends = elim ends.ends [
  | inl failed ↦ (let bad = failed.1 in cc (bad))
  | inr walked ↦ inl (λ failed. walked_alone root told files pod (outcomes.Failed (Some exit) results) walked.1)
]
judged view moment root told files pod (outcomes.Failed None results) ends = elim ends.ends [
  | inl failed ↦ inr failed
  | inr walked ↦ inl (λ failed. inr (walked_alone root told files pod (outcomes.Failed None results) walked.1))
]
judged view moment root told files pod outcomes.Cancelled ends = inl (λ failed. tt)
judged view moment root told files pod outcomes.TimedOut ends = inl (λ failed. tt)
judged view moment root told files pod outcomes.Lost ends = absurd ends

failed_by : (root : List ℕ) (told : List Event) (failed : List (List ℕ)) (pod : HeldPod) (outcome : Outcome) → outcome ≡ without_exit → EndsBy root told (pod.name ∷ failed) pod outcome
failed_by root told failed pod outcome is = subst (EndsBy root told (pod.name ∷ failed) pod) (sym is) (inl (contains_first pod.name failed, refl))

module _ (number life : ℕ) (root : List ℕ) (start : ℕ) (old ready new : List HeldPod) (hosts : Hosts) (before after : List Entry)
    (met : AreMet number life root old before hosts.before.killed hosts.before.told) (moves : MovesAll root old ready hosts.before.told hosts.now.told)
    (was : HasOutcomes number life root ready start hosts.now.faults hosts.now.told before)
    (held : HeldAfter ready new) (met_now : AreMet number life root new after hosts.now.killed hosts.now.told) where
  -- a held pod for which a call failed was held before the entry
  held_before : (i : ℕ) (pod : HeldPod) → slice_get new i ≡ Some pod → pod.failed ≡ true → (j : ℕ) × (slice_get ready j ≡ Some pod)
  held_before i pod at failed = elim (held i pod at) [
    | inl there ↦ there
    | inr fresh ↦ (let none = fresh.not_failed in cc (none, failed))
  ]

  fewer : RoseBy (length was.failed + count_failed new) start hosts.now.faults
  fewer =
      let less = count_in new ready met_now.claimed.apart held_before in
      rose_less (length was.failed + count_failed ready) (length was.failed + count_failed new) start hosts.now.faults (omega (arith, less)) was.few

  pub with_same : after ≡ before → HasOutcomes number life root new start hosts.now.faults hosts.now.told after
  with_same same = record { failed = was.failed; few = fewer; each = subst (AreEndedBy number life root hosts.now.told was.failed) (sym same) was.each }

  module _ (e : Entry) (added : after ≡ e ∷ before) (legal : IsLegal (e ∷ before)) where
    pub with_claim : (name : List ℕ) → ArePlanned before → e.act ≡ acts.ClaimPod name → HasOutcomes number life root new start hosts.now.faults hosts.now.told after
    with_claim name planned act = record {
      failed = was.failed;
      few = fewer;
      each = subst (AreEndedBy number life root hosts.now.told was.failed) (sym added) (ended_claim number life root hosts.now.told before e legal planned name act was.failed was.each);
    }

    module _ (name exits : List ℕ) (outcome : Outcome) (act : e.act ≡ acts.EndPod name exits outcome) where
      -- no pod of this life is lost
      pub with_lost : outcome ≡ outcomes.Lost → HasOutcomes number life root new start hosts.now.faults hosts.now.told after
      with_lost lost = record {
        failed = was.failed;
        few = fewer;
        each = subst (AreEndedBy number life root hosts.now.told was.failed) (sym added)
            (ended_end number life root hosts.now.told before e legal name exits outcome act was.failed (λ pod there mine. absurd (none pod there mine)) was.each);
      }
        where
          none : (pod : PodState) → pod_of before name ≡ Some pod → pod.claim ≡ Some (claim_of number life) → ⊥
          none pod there mine =
              let here = ap (λ (h : List Entry). pod_of h name) added ∙ ended_here number life root hosts.now.told before e legal name exits outcome act pod there in
              let kept = met_now.claimed.none_lost name (record pod { ended = Some record { exits = exits; outcome = outcome } }) (record { exits = exits; outcome = outcome }) here mine refl in
              let bad : not_lost outcomes.Lost ≡ true = ap not_lost (sym lost) ∙ kept in
              cc (bad)

      -- a held pod ends
      module _ (place : ℕ) (pod : HeldPod) (at : slice_get ready place ≡ Some pod) (named : name ≡ pod.name) (own : exits ≡ exits_of pod.steps.items) where
        claimed_pod : Has (pod_of before name) (IsMine number life pod)
        claimed_pod =
            let there = moves.same place pod at in
            let mine = met.claimed.mine place there.was there.at in
            record {
              it = mine.it;
              is = ap (pod_of before) (named ∙ there.name) ∙ mine.is;
              has = record { claimed = mine.has.claimed; unended = mine.has.unended; plan = mine.has.plan ∙ sym there.plan };
            }

        by_it : (failed : List (List ℕ)) → EndsBy root hosts.now.told failed pod outcome → (state : PodState) → pod_of before name ≡ Some state → IsEndedBy root hosts.now.told failed name state.plan (record { exits = exits; outcome = outcome })
        by_it failed by state there =
            let one : claimed_pod.it ≡ state = same_Some claimed_pod.it state (sym claimed_pod.is ∙ there) in
            let holds = (moves.keeps place pod at).holds in
            record {
              pod = pod;
              named = sym named;
              planned = sym claimed_pod.has.plan ∙ ap (λ (s : PodState). s.plan) one;
              then = hosts.now.told;
              since = record { since = []; is = refl };
              held = holds;
              stays = holds;
              exits = own;
              by = by;
            }

        none_held : (i : ℕ) (q : HeldPod) → slice_get new i ≡ Some q → q.name ≢ pod.name
        none_held i q at_i same =
            let here = ap (λ (h : List Entry). pod_of h name) added ∙ ended_here number life root hosts.now.told before e legal name exits outcome act claimed_pod.it claimed_pod.is in
            ended_unheld number life root new after hosts.now.killed hosts.now.told met_now name (record claimed_pod.it { ended = Some record { exits = exits; outcome = outcome } }) (record { exits = exits; outcome = outcome }) here refl i q at_i (same ∙ sym named)

        pub with_end : ((failed : List (List ℕ)) → EndsBy root hosts.now.told failed pod outcome) → HasOutcomes number life root new start hosts.now.faults hosts.now.told after
        with_end by = record {
          failed = was.failed;
          few = fewer;
          each = subst (AreEndedBy number life root hosts.now.told was.failed) (sym added)
              (ended_end number life root hosts.now.told before e legal name exits outcome act was.failed (λ state there mine. by_it was.failed (by was.failed) state there) was.each);
        }

        pub with_failed : pod.failed ≡ true → outcome ≡ without_exit → HasOutcomes number life root new start hosts.now.faults hosts.now.told after
        with_failed failed is = record {
          failed = pod.name ∷ was.failed;
          few =
              let less = count_but new ready place pod met_now.claimed.apart held_before at none_held in
              let one : one_if pod.failed ≡ 1 = ap one_if failed in
              rose_less (length was.failed + count_failed ready) (length (pod.name ∷ was.failed) + count_failed new) start hosts.now.faults (omega (arith, less, one)) was.few;
          each = subst (AreEndedBy number life root hosts.now.told (pod.name ∷ was.failed)) (sym added)
              (ended_end number life root hosts.now.told before e legal name exits outcome act (pod.name ∷ was.failed)
              (λ state there mine. by_it (pod.name ∷ was.failed) (failed_by root hosts.now.told was.failed pod outcome is) state there)
              (λ other state ended there mine over. ended_more root hosts.now.told pod.name was.failed other state.plan ended (was.each other state ended there mine over)));
        }

-- a turn with an answer

module _ (number life : ℕ) (root : List ℕ) (seen : Seen) (moment start : ℕ) (old new : List HeldPod) (hosts : Hosts) (before after : Stored)
    (planned : ArePlanned before.history) (legal : IsLegal after.history)
    (met : AreMet number life root old before.history hosts.before.killed hosts.before.told) (met_now : AreMet number life root new after.history hosts.now.killed hosts.now.told)
    (was : HasOutcomes number life root old start hosts.before.faults hosts.before.told before.history) where
  abbrev seat : Seat
  seat = seat_at (record { number = number; life = life }) root seen moment

  module _ (ready : List HeldPod) (readied : Readied seat old ready hosts) (held : HeldAfter ready new) where
    now : HasOutcomes number life root ready start hosts.now.faults hosts.now.told before.history
    now = outcomes_moved number life root old before.history hosts.before.killed hosts.before.told met ready hosts.now.told start hosts.before.faults hosts.now.faults readied.moves readied.few was

    same_outcomes : after ≡ before → HasOutcomes number life root new start hosts.now.faults hosts.now.told after.history
    same_outcomes same = with_same number life root start old ready new hosts before.history after.history met readied.moves now held met_now (ap (λ (s : Stored). s.history) same)

    own_end : (e : Entry) → after.history ≡ e ∷ before.history → (name exits : List ℕ) (outcome : Outcome) → e.act ≡ acts.EndPod name exits outcome → EndsOwn seat ready hosts.now name exits outcome → HasOutcomes number life root new start hosts.now.faults hosts.now.told after.history
    own_end e added name exits outcome act own =
        elim (judged seen.view moment root hosts.now.told hosts.now.files own.pod outcome own.ends) [
          | inl by ↦ with_end number life root start old ready new hosts before.history after.history met readied.moves now held met_now e added (subst IsLegal added legal) name exits outcome act own.place own.pod own.at own.named own.own_exits by
          | inr failed ↦ with_failed number life root start old ready new hosts before.history after.history met readied.moves now held met_now e added (subst IsLegal added legal) name exits outcome act own.place own.pod own.at own.named own.own_exits failed.0 failed.1
        ]

    ends : (e : Entry) → after.history ≡ e ∷ before.history → (name exits : List ℕ) (outcome : Outcome) → e.act ≡ acts.EndPod name exits outcome → EndsPod seat ready hosts.now name exits outcome → HasOutcomes number life root new start hosts.now.faults hosts.now.told after.history
    ends e added name exits outcomes.Lost act own = with_lost number life root start old ready new hosts before.history after.history met readied.moves now held met_now e added (subst IsLegal added legal) name exits outcomes.Lost act refl
    ends e added name exits (outcomes.Succeeded results) act own = own_end e added name exits (outcomes.Succeeded results) act own
    ends e added name exits (outcomes.Failed exit results) act own = own_end e added name exits (outcomes.Failed exit results) act own
    ends e added name exits outcomes.Cancelled act own = own_end e added name exits outcomes.Cancelled act own
    ends e added name exits outcomes.TimedOut act own = own_end e added name exits outcomes.TimedOut act own

    wrote : (e : Entry) → after.history ≡ e ∷ before.history → (act : Act) → e.act ≡ act → Tries seat ready hosts.now act → HasOutcomes number life root new start hosts.now.faults hosts.now.told after.history
    wrote e added (acts.EndPod name exits outcome) is tries = ends e added name exits outcome is tries.1
    wrote e added (acts.ClaimPod name) is tries = with_claim number life root start old ready new hosts before.history after.history met readied.moves now held met_now e added (subst IsLegal added legal) name planned is
    wrote e added _ is tries = absurd tries

    pub answered : (turn : KubeletTurn) → TurnAnswers seat ready hosts before after turn → HasOutcomes number life root new start hosts.now.faults hosts.now.told after.history
    answered (answers.Wrote version) given = wrote (entry_by seat.me seen moment given.act) given.answered.1.added given.act refl given.tries
    answered (answers.Conflict found) given = same_outcomes given.answered.2
    answered answers.Acted given = same_outcomes given.1
    answered answers.Idle given = same_outcomes given.1
    answered answers.HostFault given = same_outcomes given.1

  pub outcomes_given : (turn : KubeletTurn) → TurnGives seat old new hosts before after turn → HasOutcomes number life root new start hosts.now.faults hosts.now.told after.history
  outcomes_given turn gives = answered gives.ready gives.readied gives.held turn gives.answers

  pub outcomes_missed : TurnMissed seat old new hosts before after → HasOutcomes number life root new start hosts.now.faults hosts.now.told after.history
  outcomes_missed missed =
      subst (HasOutcomes number life root new start hosts.now.faults hosts.now.told) (sym (ap (λ (s : Stored). s.history) missed.same))
      (outcomes_moved number life root old before.history hosts.before.killed hosts.before.told met new hosts.now.told start hosts.before.faults hosts.now.faults missed.moves missed.few was)
