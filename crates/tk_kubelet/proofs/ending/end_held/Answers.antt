use Rattle.std.proofs.Common.{◌≡◌, ℕ, List, length, Some, refl, sym, ◌∙◌, ap, subst, slice_get}
use Rattle.std.proofs.lemmas.Option.{slice_get_read, same_Some}
use Rattle.tk_cache.specs.Views.{seen}
use Rattle.tk_held.proofs.Moving.{moves_keep}
use Rattle.tk_outcome.proofs.Ended.{ends_fit}
use Rattle.tk_outcome.proofs.Walks.{are_exits}
use Rattle.tk_steps.specs.declared.held.HeldPod.{HeldPod}
use Rattle.tk_choice.specs.Took.{MayTry}
use Rattle.tk_kubelet.specs.Ends.{end_of}
use Rattle.tk_kubelet.specs.Seat.{actor_of, host_at}
use Rattle.tk_kubelet.proofs.Concluded.{at_now, end_missed, end_tried, met_now, result_gives, result_met, result_missed}
use Rattle.tk_kubelet.proofs.Found.{on_err}
use Rattle.tk_kubelet.proofs.ending.end_held.Goals as goal

pub conclude-requires-clause-keeps : goal.conclude-requires-clause-keeps
conclude-requires-clause-keeps g c =
    let at : slice_get c.args.held.now.items c.args.place ≡ Some c.index_mut.result.now = slice_get_read c.args.held.now.items (length c.args.held.now.items) c.args.place c.index_mut.result.now refl c.requires.within c.index_mut.ensures.value in
    c.requires.met.keeps c.args.place c.index_mut.result.now at

pub conclude-requires-clause-over : goal.conclude-requires-clause-over
conclude-requires-clause-over g c =
    let at : slice_get c.args.held.now.items c.args.place ≡ Some c.index_mut.result.now = slice_get_read c.args.held.now.items (length c.args.held.now.items) c.args.place c.index_mut.result.now refl c.requires.within c.index_mut.ensures.value in
    c.requires.over c.index_mut.result.now at

pub returns-in_err-outcome-clause-met : goal.returns-in_err-outcome-clause-met
returns-in_err-outcome-clause-met g c =
    let at : slice_get c.args.held.now.items c.args.place ≡ Some c.index_mut.result.now = slice_get_read c.args.held.now.items (length c.args.held.now.items) c.args.place c.index_mut.result.now refl c.requires.within c.index_mut.ensures.value in
    met_now c.args.me c.args.root.now (seen c.args.cache.now) c.args.moment c.args.store.now.history c.args.held.now.items c.args.place c.index_mut.result.now c.conclude.new.pod (host_at g.H.Host.told g.H.Host.killed g.H.Host.faults g.H.Host.watches g.H.Host.files g.H.Host.plays c.args.host.now) (host_at g.H.Host.told g.H.Host.killed g.H.Host.faults g.H.Host.watches g.H.Host.files g.H.Host.plays c.conclude.new.host) (record { legal = c.legal.ensures; shows = c.requires.shows; met = c.requires.met; at = at; first = c.requires.first c.index_mut.result.now at; own = c.requires.own c.index_mut.result.now at; over = c.requires.over c.index_mut.result.now at }) c.conclude.ensures.one moves_keep

pub returns-in_err-outcome-clause-memory : goal.returns-in_err-outcome-clause-memory
returns-in_err-outcome-clause-memory g c =
    let at : slice_get c.args.held.now.items c.args.place ≡ Some c.index_mut.result.now = slice_get_read c.args.held.now.items (length c.args.held.now.items) c.args.place c.index_mut.result.now refl c.requires.within c.index_mut.ensures.value in
    on_err _ c.from_residual.result (end_missed c.args.me c.args.root.now (seen c.args.cache.now) c.args.moment c.args.store.now.history c.args.held.now.items c.args.place c.index_mut.result.now c.conclude.new.pod (host_at g.H.Host.told g.H.Host.killed g.H.Host.faults g.H.Host.watches g.H.Host.files g.H.Host.plays c.args.host.now) (host_at g.H.Host.told g.H.Host.killed g.H.Host.faults g.H.Host.watches g.H.Host.files g.H.Host.plays c.conclude.new.host) (record { legal = c.legal.ensures; shows = c.requires.shows; met = c.requires.met; at = at; first = c.requires.first c.index_mut.result.now at; own = c.requires.own c.index_mut.result.now at; over = c.requires.over c.index_mut.result.now at }) c.conclude.ensures.one c.args.store.now)

pub end_with-requires-clause-may : goal.end_with-requires-clause-may
end_with-requires-clause-may g c pod at_pod =
    let at : slice_get c.args.held.now.items c.args.place ≡ Some c.index_mut.result.now = slice_get_read c.args.held.now.items (length c.args.held.now.items) c.args.place c.index_mut.result.now refl c.requires.within c.index_mut.ensures.value in
    let same : c.conclude.new.pod ≡ pod = same_Some _ _ (sym (at_now c.args.me c.args.root.now (seen c.args.cache.now) c.args.moment c.args.store.now.history c.args.held.now.items c.args.place c.index_mut.result.now c.conclude.new.pod (host_at g.H.Host.told g.H.Host.killed g.H.Host.faults g.H.Host.watches g.H.Host.files g.H.Host.plays c.args.host.now) (host_at g.H.Host.told g.H.Host.killed g.H.Host.faults g.H.Host.watches g.H.Host.files g.H.Host.plays c.conclude.new.host) (record { legal = c.legal.ensures; shows = c.requires.shows; met = c.requires.met; at = at; first = c.requires.first c.index_mut.result.now at; own = c.requires.own c.index_mut.result.now at; over = c.requires.over c.index_mut.result.now at }) c.conclude.ensures.one) ∙ at_pod) in
    subst (λ (p : HeldPod). MayTry (seen c.args.cache.now).view (actor_of c.args.me) c.args.moment (end_of p c.in_ok-outcome.outcome)) same (end_tried c.args.me c.args.root.now (seen c.args.cache.now) c.args.moment c.args.store.now.history c.args.held.now.items c.args.place c.index_mut.result.now c.conclude.new.pod (host_at g.H.Host.told g.H.Host.killed g.H.Host.faults g.H.Host.watches g.H.Host.files g.H.Host.plays c.args.host.now) (host_at g.H.Host.told g.H.Host.killed g.H.Host.faults g.H.Host.watches g.H.Host.files g.H.Host.plays c.conclude.new.host) (record { legal = c.legal.ensures; shows = c.requires.shows; met = c.requires.met; at = at; first = c.requires.first c.index_mut.result.now at; own = c.requires.own c.index_mut.result.now at; over = c.requires.over c.index_mut.result.now at }) c.conclude.ensures.one are_exits ends_fit c.in_ok-outcome.outcome c.in_ok-outcome.ensures.ends)

pub returns-clause-met : goal.returns-clause-met
returns-clause-met g c =
    let at : slice_get c.args.held.now.items c.args.place ≡ Some c.index_mut.result.now = slice_get_read c.args.held.now.items (length c.args.held.now.items) c.args.place c.index_mut.result.now refl c.requires.within c.index_mut.ensures.value in
    result_met c.args.me c.args.root.now (seen c.args.cache.now) c.args.moment c.args.store.now.history c.args.held.now.items c.args.place c.index_mut.result.now c.conclude.new.pod (host_at g.H.Host.told g.H.Host.killed g.H.Host.faults g.H.Host.watches g.H.Host.files g.H.Host.plays c.args.host.now) (host_at g.H.Host.told g.H.Host.killed g.H.Host.faults g.H.Host.watches g.H.Host.files g.H.Host.plays c.conclude.new.host) (record { legal = c.legal.ensures; shows = c.requires.shows; met = c.requires.met; at = at; first = c.requires.first c.index_mut.result.now at; own = c.requires.own c.index_mut.result.now at; over = c.requires.over c.index_mut.result.now at }) c.conclude.ensures.one c.in_ok-outcome.outcome c.in_ok-outcome.ensures.ends c.end_with.new.held.items c.args.store.now c.end_with.new.store refl moves_keep c.end_with.result (c.end_with.ensures.answered c.conclude.new.pod (at_now c.args.me c.args.root.now (seen c.args.cache.now) c.args.moment c.args.store.now.history c.args.held.now.items c.args.place c.index_mut.result.now c.conclude.new.pod (host_at g.H.Host.told g.H.Host.killed g.H.Host.faults g.H.Host.watches g.H.Host.files g.H.Host.plays c.args.host.now) (host_at g.H.Host.told g.H.Host.killed g.H.Host.faults g.H.Host.watches g.H.Host.files g.H.Host.plays c.conclude.new.host) (record { legal = c.legal.ensures; shows = c.requires.shows; met = c.requires.met; at = at; first = c.requires.first c.index_mut.result.now at; own = c.requires.own c.index_mut.result.now at; over = c.requires.over c.index_mut.result.now at }) c.conclude.ensures.one)) c.end_with.ensures.held c.end_with.ensures.err c.end_with.ensures.kept

pub returns-clause-answer : goal.returns-clause-answer
returns-clause-answer g c =
    let at : slice_get c.args.held.now.items c.args.place ≡ Some c.index_mut.result.now = slice_get_read c.args.held.now.items (length c.args.held.now.items) c.args.place c.index_mut.result.now refl c.requires.within c.index_mut.ensures.value in
    result_gives c.args.me c.args.root.now (seen c.args.cache.now) c.args.moment c.args.store.now.history c.args.held.now.items c.args.place c.index_mut.result.now c.conclude.new.pod (host_at g.H.Host.told g.H.Host.killed g.H.Host.faults g.H.Host.watches g.H.Host.files g.H.Host.plays c.args.host.now) (host_at g.H.Host.told g.H.Host.killed g.H.Host.faults g.H.Host.watches g.H.Host.files g.H.Host.plays c.conclude.new.host) (record { legal = c.legal.ensures; shows = c.requires.shows; met = c.requires.met; at = at; first = c.requires.first c.index_mut.result.now at; own = c.requires.own c.index_mut.result.now at; over = c.requires.over c.index_mut.result.now at }) c.conclude.ensures.one c.in_ok-outcome.outcome c.in_ok-outcome.ensures.ends c.end_with.new.held.items c.args.store.now c.end_with.new.store refl c.end_with.result (c.end_with.ensures.answered c.conclude.new.pod (at_now c.args.me c.args.root.now (seen c.args.cache.now) c.args.moment c.args.store.now.history c.args.held.now.items c.args.place c.index_mut.result.now c.conclude.new.pod (host_at g.H.Host.told g.H.Host.killed g.H.Host.faults g.H.Host.watches g.H.Host.files g.H.Host.plays c.args.host.now) (host_at g.H.Host.told g.H.Host.killed g.H.Host.faults g.H.Host.watches g.H.Host.files g.H.Host.plays c.conclude.new.host) (record { legal = c.legal.ensures; shows = c.requires.shows; met = c.requires.met; at = at; first = c.requires.first c.index_mut.result.now at; own = c.requires.own c.index_mut.result.now at; over = c.requires.over c.index_mut.result.now at }) c.conclude.ensures.one)) c.end_with.ensures.held

pub returns-clause-memory : goal.returns-clause-memory
returns-clause-memory g c =
    let at : slice_get c.args.held.now.items c.args.place ≡ Some c.index_mut.result.now = slice_get_read c.args.held.now.items (length c.args.held.now.items) c.args.place c.index_mut.result.now refl c.requires.within c.index_mut.ensures.value in
    result_missed c.args.me c.args.root.now (seen c.args.cache.now) c.args.moment c.args.store.now.history c.args.held.now.items c.args.place c.index_mut.result.now c.conclude.new.pod (host_at g.H.Host.told g.H.Host.killed g.H.Host.faults g.H.Host.watches g.H.Host.files g.H.Host.plays c.args.host.now) (host_at g.H.Host.told g.H.Host.killed g.H.Host.faults g.H.Host.watches g.H.Host.files g.H.Host.plays c.conclude.new.host) (record { legal = c.legal.ensures; shows = c.requires.shows; met = c.requires.met; at = at; first = c.requires.first c.index_mut.result.now at; own = c.requires.own c.index_mut.result.now at; over = c.requires.over c.index_mut.result.now at }) c.conclude.ensures.one c.in_ok-outcome.outcome c.in_ok-outcome.ensures.ends c.end_with.new.held.items c.args.store.now c.end_with.new.store refl c.end_with.result c.end_with.ensures.err c.end_with.ensures.kept
