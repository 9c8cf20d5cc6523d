use Rattle.std.proofs.Common.{rules, ◌≡◌, ℕ, List, Some, None, sym, ◌∙◌, subst, slice_get}
use Rattle.tk_cache.specs.Views.{seen}
use Rattle.tk_held.proofs.Moving.{moves_keep}
use Rattle.tk_held.proofs.Origins.{legal_is_planned}
use Rattle.tk_kubelet.specs.Ends.{claim_by, end_by}
use Rattle.tk_kubelet.specs.Seat.{host_at, hosts_of, seat_at}
use Rattle.tk_steps.specs.declared.held.HeldPod.{HeldPod}
use Rattle.tk_kubelet.specs.declared.kubelet.KubeletTurn.{KubeletTurn}
use Rattle.tk_kubelet.specs.Turn.{TurnGives}
use Rattle.tk_kubelet.proofs.Found.{on_err}
use Rattle.tk_kubelet.proofs.Claims.{claim_result}
use Rattle.tk_kubelet.proofs.Turned.{HasRun, HasRunWhole, claim_gives, claim_missed, end_missed, end_turn, none_gives, run_missed}
use Rattle.tk_kubelet.proofs.turning.take_turn.Goals as goal

pub returns-in_err-ran-clause-met : goal.returns-in_err-ran-clause-met
returns-in_err-ran-clause-met g c =
    moves_keep c.args.me.number c.args.me.life c.args.root.now c.args.held.now.items c.run_pods.new.held.items c.args.store.now.history (g.H.Host.killed c.args.host.now) (g.H.Host.killed c.run_pods.new.host) (g.H.Host.told c.args.host.now) (g.H.Host.told c.run_pods.new.host) c.legal.ensures c.requires.met c.run_pods.ensures.moves c.run_pods.ensures.ready c.run_pods.ensures.still

pub returns-in_err-ran-clause-memory : goal.returns-in_err-ran-clause-memory
returns-in_err-ran-clause-memory g c =
    on_err _ c.from_residual.result (run_missed (seat_at c.args.me c.args.root.now (seen c.args.cache.now) c.args.moment) c.args.held.now.items c.run_pods.new.held.items (host_at g.H.Host.told g.H.Host.killed g.H.Host.faults g.H.Host.watches g.H.Host.files g.H.Host.plays c.args.host.now) (host_at g.H.Host.told g.H.Host.killed g.H.Host.faults g.H.Host.watches g.H.Host.files g.H.Host.plays c.run_pods.new.host) record { moves = c.run_pods.ensures.moves; stays = c.run_pods.ensures.ready; failed = c.run_pods.ensures.failed; only = c.run_pods.ensures.only; killed = c.run_pods.ensures.killed; still = c.run_pods.ensures.still; spares = c.run_pods.ensures.spares; plays = c.run_pods.ensures.plays; few = c.run_pods.ensures.few } c.args.store.now)

pub first_end-requires-clause-readable : goal.first_end-requires-clause-readable
first_end-requires-clause-readable g c =
    λ place pod at. let kept = c.run_pods.ensures.moves.keeps place pod (subst (λ (ps : List HeldPod). slice_get ps place ≡ Some pod) c.as_slice.ensures.value at) in record { planned = kept.planned; within = kept.within }

pub end_pod-requires-clause-met : goal.end_pod-requires-clause-met
end_pod-requires-clause-met g c =
    moves_keep c.args.me.number c.args.me.life c.args.root.now c.args.held.now.items c.run_pods.new.held.items c.args.store.now.history (g.H.Host.killed c.args.host.now) (g.H.Host.killed c.run_pods.new.host) (g.H.Host.told c.args.host.now) (g.H.Host.told c.run_pods.new.host) c.legal.ensures c.requires.met c.run_pods.ensures.moves c.run_pods.ensures.ready c.run_pods.ensures.still

pub returns-in-Some-clause-answer : goal.returns-in-Some-clause-answer
returns-in-Some-clause-answer g c =
    end_turn (seat_at c.args.me c.args.root.now (seen c.args.cache.now) c.args.moment) c.args.held.now.items c.run_pods.new.held.items (host_at g.H.Host.told g.H.Host.killed g.H.Host.faults g.H.Host.watches g.H.Host.files g.H.Host.plays c.args.host.now) (host_at g.H.Host.told g.H.Host.killed g.H.Host.faults g.H.Host.watches g.H.Host.files g.H.Host.plays c.run_pods.new.host) record { moves = c.run_pods.ensures.moves; stays = c.run_pods.ensures.ready; failed = c.run_pods.ensures.failed; only = c.run_pods.ensures.only; killed = c.run_pods.ensures.killed; still = c.run_pods.ensures.still; spares = c.run_pods.ensures.spares; plays = c.run_pods.ensures.plays; few = c.run_pods.ensures.few } c.end_pod.new.held.items (host_at g.H.Host.told g.H.Host.killed g.H.Host.faults g.H.Host.watches g.H.Host.files g.H.Host.plays c.end_pod.new.host) c.args.store.now c.end_pod.new.store c.end_pod.result record { done = c.in_ok-ran.ensures.done; watched = c.in_ok-ran.ensures.watched; played = c.in_ok-ran.ensures.played } c.end_pod.ensures.answer

pub returns-in-Some-clause-memory : goal.returns-in-Some-clause-memory
returns-in-Some-clause-memory g c =
    end_missed (seat_at c.args.me c.args.root.now (seen c.args.cache.now) c.args.moment) c.args.held.now.items c.run_pods.new.held.items (host_at g.H.Host.told g.H.Host.killed g.H.Host.faults g.H.Host.watches g.H.Host.files g.H.Host.plays c.args.host.now) (host_at g.H.Host.told g.H.Host.killed g.H.Host.faults g.H.Host.watches g.H.Host.files g.H.Host.plays c.run_pods.new.host) record { moves = c.run_pods.ensures.moves; stays = c.run_pods.ensures.ready; failed = c.run_pods.ensures.failed; only = c.run_pods.ensures.only; killed = c.run_pods.ensures.killed; still = c.run_pods.ensures.still; spares = c.run_pods.ensures.spares; plays = c.run_pods.ensures.plays; few = c.run_pods.ensures.few } c.end_pod.new.held.items (host_at g.H.Host.told g.H.Host.killed g.H.Host.faults g.H.Host.watches g.H.Host.files g.H.Host.plays c.end_pod.new.host) c.args.store.now c.end_pod.new.store c.end_pod.result c.end_pod.ensures.memory

pub returns-in-Some-first_claim-clause-met : goal.returns-in-Some-first_claim-clause-met
returns-in-Some-first_claim-clause-met g c =
    claim_result legal_is_planned c.args.me c.args.root.now c.run_pods.new.held.items c.claim_pod.new.held.items (g.H.Host.killed c.run_pods.new.host) (g.H.Host.told c.run_pods.new.host) (seen c.args.cache.now) c.args.moment c.in-Some-first_claim.name.now c.args.store.now c.claim_pod.new.store c.legal.ensures (moves_keep c.args.me.number c.args.me.life c.args.root.now c.args.held.now.items c.run_pods.new.held.items c.args.store.now.history (g.H.Host.killed c.args.host.now) (g.H.Host.killed c.run_pods.new.host) (g.H.Host.told c.args.host.now) (g.H.Host.told c.run_pods.new.host) c.legal.ensures c.requires.met c.run_pods.ensures.moves c.run_pods.ensures.ready c.run_pods.ensures.still) c.requires.shows (let first : claim_by (seat_at c.args.me c.args.root.now (seen c.args.cache.now) c.args.moment) ≡ Some c.in-Some-first_claim.name.now = search rules in first) c.claim_pod.result c.claim_pod.ensures.answered c.claim_pod.ensures.held c.claim_pod.ensures.err c.claim_pod.ensures.kept

pub returns-in-Some-first_claim-clause-answer : goal.returns-in-Some-first_claim-clause-answer
returns-in-Some-first_claim-clause-answer g c =
    claim_gives (seat_at c.args.me c.args.root.now (seen c.args.cache.now) c.args.moment) c.args.held.now.items c.run_pods.new.held.items (host_at g.H.Host.told g.H.Host.killed g.H.Host.faults g.H.Host.watches g.H.Host.files g.H.Host.plays c.args.host.now) (host_at g.H.Host.told g.H.Host.killed g.H.Host.faults g.H.Host.watches g.H.Host.files g.H.Host.plays c.run_pods.new.host) record { moves = c.run_pods.ensures.moves; stays = c.run_pods.ensures.ready; failed = c.run_pods.ensures.failed; only = c.run_pods.ensures.only; killed = c.run_pods.ensures.killed; still = c.run_pods.ensures.still; spares = c.run_pods.ensures.spares; plays = c.run_pods.ensures.plays; few = c.run_pods.ensures.few } c.claim_pod.new.held.items c.args.store.now c.claim_pod.new.store c.in-Some-first_claim.name.now c.claim_pod.result record { done = c.in_ok-ran.ensures.done; watched = c.in_ok-ran.ensures.watched; played = c.in_ok-ran.ensures.played } (let none : end_by (seat_at c.args.me c.args.root.now (seen c.args.cache.now) c.args.moment) c.run_pods.new.held.items ≡ None = search rules in none) (let first : claim_by (seat_at c.args.me c.args.root.now (seen c.args.cache.now) c.args.moment) ≡ Some c.in-Some-first_claim.name.now = search rules in first) c.claim_pod.ensures.answered c.claim_pod.ensures.held

pub returns-in-Some-first_claim-clause-memory : goal.returns-in-Some-first_claim-clause-memory
returns-in-Some-first_claim-clause-memory g c =
    claim_missed (seat_at c.args.me c.args.root.now (seen c.args.cache.now) c.args.moment) c.args.held.now.items c.run_pods.new.held.items (host_at g.H.Host.told g.H.Host.killed g.H.Host.faults g.H.Host.watches g.H.Host.files g.H.Host.plays c.args.host.now) (host_at g.H.Host.told g.H.Host.killed g.H.Host.faults g.H.Host.watches g.H.Host.files g.H.Host.plays c.run_pods.new.host) record { moves = c.run_pods.ensures.moves; stays = c.run_pods.ensures.ready; failed = c.run_pods.ensures.failed; only = c.run_pods.ensures.only; killed = c.run_pods.ensures.killed; still = c.run_pods.ensures.still; spares = c.run_pods.ensures.spares; plays = c.run_pods.ensures.plays; few = c.run_pods.ensures.few } c.claim_pod.new.held.items c.args.store.now c.claim_pod.new.store c.in-Some-first_claim.name.now c.claim_pod.result c.claim_pod.ensures.err c.claim_pod.ensures.kept

pub returns-clause-met : goal.returns-clause-met
returns-clause-met g c =
    moves_keep c.args.me.number c.args.me.life c.args.root.now c.args.held.now.items c.run_pods.new.held.items c.args.store.now.history (g.H.Host.killed c.args.host.now) (g.H.Host.killed c.run_pods.new.host) (g.H.Host.told c.args.host.now) (g.H.Host.told c.run_pods.new.host) c.legal.ensures c.requires.met c.run_pods.ensures.moves c.run_pods.ensures.ready c.run_pods.ensures.still

pub returns-clause-answer : goal.returns-clause-answer
returns-clause-answer g c =
    subst (λ (t : KubeletTurn). TurnGives (seat_at c.args.me c.args.root.now (seen c.args.cache.now) c.args.moment) c.args.held.now.items c.run_pods.new.held.items (hosts_of g.H.Host.told g.H.Host.killed g.H.Host.faults g.H.Host.watches g.H.Host.files g.H.Host.plays c.args.host.now c.run_pods.new.host) c.args.store.now c.args.store.now t) (sym c.answer_of.ensures) (none_gives (seat_at c.args.me c.args.root.now (seen c.args.cache.now) c.args.moment) c.args.held.now.items c.run_pods.new.held.items (host_at g.H.Host.told g.H.Host.killed g.H.Host.faults g.H.Host.watches g.H.Host.files g.H.Host.plays c.args.host.now) (host_at g.H.Host.told g.H.Host.killed g.H.Host.faults g.H.Host.watches g.H.Host.files g.H.Host.plays c.run_pods.new.host) record { moves = c.run_pods.ensures.moves; stays = c.run_pods.ensures.ready; failed = c.run_pods.ensures.failed; only = c.run_pods.ensures.only; killed = c.run_pods.ensures.killed; still = c.run_pods.ensures.still; spares = c.run_pods.ensures.spares; plays = c.run_pods.ensures.plays; few = c.run_pods.ensures.few } record { done = c.in_ok-ran.ensures.done; watched = c.in_ok-ran.ensures.watched; played = c.in_ok-ran.ensures.played } c.args.store.now record { no_end = (let none : end_by (seat_at c.args.me c.args.root.now (seen c.args.cache.now) c.args.moment) c.run_pods.new.held.items ≡ None = search rules in none); no_claim = (let none : claim_by (seat_at c.args.me c.args.root.now (seen c.args.cache.now) c.args.moment) ≡ None = search rules in none) } c.in_ok-ran.ran c.in_ok-ran.ensures.count c.in_ok-ran.ensures.actions)
