-- What the turns of workers and kubelets write.
use Rattle.std.proofs.Common.{◌≡◌, ℕ, List, true, refl, ◌∙◌, ap, subst, inl, inr, nat_eq}
use Rattle.std.specs.declared.alloc.AllocError.{AllocError}
use Rattle.std.specs.Prelude.{Bool, Result, Ok, Err, IfOk}
use Rattle.std.proofs.lemmas.Bool.{eq-eqb}
use Rattle.tk_journal.specs.declared.entry.Actor.{Actor}
use Rattle.tk_journal.specs.declared.entry.Actor.TheVariants as actors
use Rattle.tk_journal.specs.declared.entry.Entry.{Entry}
use Rattle.tk_journal.specs.Choice.{HasNoChoice}
use Rattle.tk_store.specs.declared.turn.Turn.{Turn}
use Rattle.tk_store.specs.declared.turn.Turn.TheVariants as turns
use Rattle.tk_store.specs.Writes.{Stored}
use Rattle.tk_cache.specs.Views.{Seen}
use Rattle.tk_choice.specs.Took.{TookFirst}
use Rattle.tk_steps.specs.declared.held.HeldPod.{HeldPod}
use Rattle.tk_kubelet.specs.declared.kubelet.KubeletTurn.{KubeletTurn}
use Rattle.tk_kubelet.specs.declared.kubelet.KubeletTurn.TheVariants as kubelets
use Rattle.tk_kubelet.specs.Answer.{is_written as kubelet_wrote}
use Rattle.tk_kubelet.specs.Seat.{Seat, Hosts}
use Rattle.tk_kubelet.specs.Turn.{TurnAnswers}
use Rattle.tk_rounds.specs.Members.{by_controller, by_kubelet, of_controller, of_kubelet}
use Rattle.tk_rounds.specs.Turning.{AddsOfLife, ControllerTook, ControllerWorks, WritesAtMostOne, is_written}

pub same_number : (n : ℕ) → nat_eq n n ≡ true
same_number n = eq-eqb n n refl

-- a worker's turn writes at most one entry of its actor

took_writes : (mine : Entry → Bool) (actor : Actor) → ((e : Entry) → e.actor ≡ actor → mine e ≡ true) → (seen : Seen) (moment : ℕ) (before : Stored) (turn : Turn) (after : Stored) → TookFirst seen actor moment before turn after → WritesAtMostOne (is_written turn) mine seen.fronts moment before.history after.history
took_writes mine actor own seen moment before turns.Idle after took = ap (λ (s : Stored). s.history) took.1
took_writes mine actor own seen moment before (turns.Wrote version) after took = record {
  entry = record { actor = actor; fronts = seen.fronts; moment = moment; act = took.0 };
  added = took.2.1.added;
  own = own (record { actor = actor; fronts = seen.fronts; moment = moment; act = took.0 }) refl;
  at = refl;
  now = refl;
}
took_writes mine actor own seen moment before (turns.Exists holder version) after took = ap (λ (s : Stored). s.history) took.2.2
took_writes mine actor own seen moment before (turns.Conflict found) after took = ap (λ (s : Stored). s.history) took.2.2
took_writes mine actor own seen moment before turns.Memory after took = ap (λ (s : Stored). s.history) took.2.2

by_runs : (number : ℕ) (e : Entry) → e.actor ≡ actors.Runs number → of_controller number e ≡ true
by_runs number e is = ap (by_controller number) is ∙ same_number number

by_tasks : (number : ℕ) (e : Entry) → e.actor ≡ actors.Tasks number → of_controller number e ≡ true
by_tasks number e is = ap (by_controller number) is ∙ same_number number

pub controller_writes : (number : ℕ) (seen : Seen) (moment : ℕ) (before : Stored) (turn : Turn) (after : Stored) → ControllerTook number seen moment before turn after → WritesAtMostOne (is_written turn) (of_controller number) seen.fronts moment before.history after.history
controller_writes number seen moment before turn after took = elim took [
  | inl runs ↦ took_writes (of_controller number) (actors.Runs number) (by_runs number) seen moment before turn after runs.1
  | inr tasks ↦ took_writes (of_controller number) (actors.Tasks number) (by_tasks number) seen moment before turn after tasks.1
]

-- a kubelet's turn writes at most one entry of its life

pub own_kubelet : (number life : ℕ) (e : Entry) → e.actor ≡ actors.Kubelet number life → of_kubelet number e ≡ true
own_kubelet number life e is = ap (by_kubelet number) is ∙ same_number number

module _ (seat : Seat) (ready : List HeldPod) (hosts : Hosts) (before after : Stored) where
  pub kubelet_writes : (turn : KubeletTurn) → TurnAnswers seat ready hosts before after turn → WritesAtMostOne (kubelet_wrote turn) (of_kubelet seat.me.number) seat.seen.fronts seat.moment before.history after.history
  kubelet_writes (kubelets.Wrote version) answers = record {
    entry = record { actor = actors.Kubelet seat.me.number seat.me.life; fronts = seat.seen.fronts; moment = seat.moment; act = answers.act };
    added = answers.answered.1.added;
    own = own_kubelet seat.me.number seat.me.life (record { actor = actors.Kubelet seat.me.number seat.me.life; fronts = seat.seen.fronts; moment = seat.moment; act = answers.act }) refl;
    at = refl;
    now = refl;
  }
  kubelet_writes (kubelets.Conflict found) answers = ap (λ (s : Stored). s.history) answers.answered.2
  kubelet_writes kubelets.Acted answers = ap (λ (s : Stored). s.history) answers.1
  kubelet_writes kubelets.Idle answers = ap (λ (s : Stored). s.history) answers.1
  kubelet_writes kubelets.HostFault answers = ap (λ (s : Stored). s.history) answers.1

  pub kubelet_adds : (turn : KubeletTurn) → TurnAnswers seat ready hosts before after turn → AddsOfLife seat.me.number seat.me.life before.history after.history
  kubelet_adds (kubelets.Wrote version) answers = inr (record { actor = actors.Kubelet seat.me.number seat.me.life; fronts = seat.seen.fronts; moment = seat.moment; act = answers.act }, answers.answered.1.added, refl)
  kubelet_adds (kubelets.Conflict found) answers = inl (ap (λ (s : Stored). s.history) answers.answered.2)
  kubelet_adds kubelets.Acted answers = inl (ap (λ (s : Stored). s.history) answers.1)
  kubelet_adds kubelets.Idle answers = inl (ap (λ (s : Stored). s.history) answers.1)
  kubelet_adds kubelets.HostFault answers = inl (ap (λ (s : Stored). s.history) answers.1)

-- a worker's turn that is idle, and then the other's

pub idle_then : (number one two : ℕ) → one ≡ number → two ≡ number → (seen : Seen) (moment : ℕ) (before between after : Stored) (first : Turn) (second : Result Turn AllocError) → first ≡ turns.Idle → TookFirst seen (actors.Runs one) moment before first between → IfOk second (λ turn. TookFirst seen (actors.Tasks two) moment between turn after) → IfOk second (λ turn. ControllerTook number seen moment before turn after)
idle_then number one two is_one is_two seen moment before between after first (Ok turn) idle runs tasks =
    let none = subst (λ (t : Turn). TookFirst seen (actors.Runs one) moment before t between) idle runs in
    inr (
      subst (λ (n : ℕ). HasNoChoice seen.view (actors.Runs n) moment) is_one none.0,
      subst (λ (s : Stored). TookFirst seen (actors.Tasks number) moment s turn after) none.1 (subst (λ (n : ℕ). TookFirst seen (actors.Tasks n) moment between turn after) is_two tasks),
    )
idle_then number one two is_one is_two seen moment before between after first (Err e) idle runs tasks = tt

pub works_by : (number : ℕ) (seen : Seen) (moment : ℕ) (before after : Stored) (turn : Turn) (result : Result Bool AllocError) → IfOk result (λ wrote. wrote ≡ is_written turn) → ControllerTook number seen moment before turn after → IfOk result (ControllerWorks number seen moment before after)
works_by number seen moment before after turn (Ok wrote) is took = (turn, took, is)
works_by number seen moment before after turn (Err e) is took = tt
