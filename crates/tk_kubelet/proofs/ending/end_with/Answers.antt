use Rattle.std.proofs.Common.{◌≡◌, ℕ, List, length, Some, refl, sym, ◌∙◌, ap, subst, slice_get}
use Rattle.std.proofs.lemmas.Option.{slice_get_read, same_Some}
use Rattle.tk_cache.specs.Views.{seen}
use Rattle.tk_journal.specs.declared.act.Act.TheVariants as acts
use Rattle.tk_steps.specs.declared.held.HeldPod.{HeldPod}
use Rattle.tk_outcome.specs.Exits.{exits_of}
use Rattle.tk_kubelet.specs.Answer.{Answered}
use Rattle.tk_kubelet.specs.Ends.{end_of}
use Rattle.tk_kubelet.specs.Seat.{entry_by}
use Rattle.tk_kubelet.proofs.Entered.{answer_same, behind_other, behind_written, end_is, may_same}
use Rattle.tk_kubelet.proofs.ending.end_with.Goals as goal

pub try_entry-requires-clause-may : goal.try_entry-requires-clause-may
try_entry-requires-clause-may c =
    may_same c.args.me (seen c.args.cache.now) c.args.moment (acts.EndPod c.in_ok-copy.field-0 c.in_ok-exits.field-0 c.args.outcome) (end_of c.index-pod.result.now c.args.outcome) (end_is c.in_ok-copy.field-0 c.index-pod.result.now.name c.in_ok-exits.field-0 (exits_of c.index-pod.result.now.steps.items) c.args.outcome c.in_ok-copy.ensures c.in_ok-exits.ensures) (c.requires.may c.index-pod.result.now (slice_get_read c.args.held.now.items (length c.args.held.now.items) c.args.place c.index-pod.result.now refl c.requires.within c.index-pod.ensures))

pub returns-then-is_written-clause-answered : goal.returns-then-is_written-clause-answered
returns-then-is_written-clause-answered c pod at =
    let here : slice_get c.args.held.now.items c.args.place ≡ Some c.index-pod.result.now = slice_get_read c.args.held.now.items (length c.args.held.now.items) c.args.place c.index-pod.result.now refl c.requires.within c.index-pod.ensures in
    let same : c.index-pod.result.now ≡ pod = same_Some _ _ (sym here ∙ at) in
    subst (λ (p : HeldPod). Answered c.args.store.now (entry_by c.args.me (seen c.args.cache.now) c.args.moment (end_of p c.args.outcome)) c.in_ok-turn.turn c.try_entry.new.store) same (answer_same c.args.me (seen c.args.cache.now) c.args.moment (acts.EndPod c.in_ok-copy.field-0 c.in_ok-exits.field-0 c.args.outcome) (end_of c.index-pod.result.now c.args.outcome) (end_is c.in_ok-copy.field-0 c.index-pod.result.now.name c.in_ok-exits.field-0 (exits_of c.index-pod.result.now.steps.items) c.args.outcome c.in_ok-copy.ensures c.in_ok-exits.ensures) c.args.store.now c.try_entry.new.store c.in_ok-turn.turn c.in_ok-turn.ensures.answered)

pub returns-clause-answered : goal.returns-clause-answered
returns-clause-answered c pod at =
    let here : slice_get c.args.held.now.items c.args.place ≡ Some c.index-pod.result.now = slice_get_read c.args.held.now.items (length c.args.held.now.items) c.args.place c.index-pod.result.now refl c.requires.within c.index-pod.ensures in
    let same : c.index-pod.result.now ≡ pod = same_Some _ _ (sym here ∙ at) in
    subst (λ (p : HeldPod). Answered c.args.store.now (entry_by c.args.me (seen c.args.cache.now) c.args.moment (end_of p c.args.outcome)) c.in_ok-turn.turn c.try_entry.new.store) same (answer_same c.args.me (seen c.args.cache.now) c.args.moment (acts.EndPod c.in_ok-copy.field-0 c.in_ok-exits.field-0 c.args.outcome) (end_of c.index-pod.result.now c.args.outcome) (end_is c.in_ok-copy.field-0 c.index-pod.result.now.name c.in_ok-exits.field-0 (exits_of c.index-pod.result.now.steps.items) c.args.outcome c.in_ok-copy.ensures c.in_ok-exits.ensures) c.args.store.now c.try_entry.new.store c.in_ok-turn.turn c.in_ok-turn.ensures.answered)

pub returns-then-is_written-clause-held : goal.returns-then-is_written-clause-held
returns-then-is_written-clause-held c =
    c.remove-ended.ensures.items ∙ sym (behind_written c.in_ok-turn.turn c.args.place c.args.held.now.items (sym c.is_written.ensures ∙ c.if-is_written.true))

pub returns-clause-held : goal.returns-clause-held
returns-clause-held c =
    sym (behind_other c.in_ok-turn.turn c.args.place c.args.held.now.items (sym c.is_written.ensures ∙ c.if-is_written.false))
