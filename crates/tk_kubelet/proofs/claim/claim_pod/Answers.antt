use Rattle.std.proofs.Common.{◌≡◌, ℕ, List, [], ◌∷◌, ◌++◌, Some, sym, ◌∙◌, ap}
use Rattle.tk_cache.specs.Views.{seen}
use Rattle.tk_journal.specs.declared.act.Act.TheVariants as acts
use Rattle.tk_steps.specs.declared.held.HeldPod.{HeldPod}
use Rattle.tk_kubelet.proofs.Claims.{claim_there}
use Rattle.tk_kubelet.proofs.Entered.{answer_same, claim_is, claim_other, claim_written, may_same}
use Rattle.tk_kubelet.proofs.Rows.{claim_may}
use Rattle.tk_kubelet.proofs.claim.claim_pod.Goals as goal

pub fresh_pod-requires : goal.fresh_pod-requires
fresh_pod-requires c =
    claim_there c.args.me.number (seen c.args.cache.now).view c.args.name.now c.requires.first

pub try_entry-requires-clause-may : goal.try_entry-requires-clause-may
try_entry-requires-clause-may c =
    may_same c.args.me (seen c.args.cache.now) c.args.moment (acts.ClaimPod c.in_ok-from_str.field-0) (acts.ClaimPod c.args.name.now) (claim_is c.in_ok-from_str.field-0 c.args.name.now c.in_ok-from_str.ensures) (claim_may c.args.me (seen c.args.cache.now).view c.args.moment c.args.name.now c.requires.first)

pub returns-then-is_written-clause-answered : goal.returns-then-is_written-clause-answered
returns-then-is_written-clause-answered c =
    answer_same c.args.me (seen c.args.cache.now) c.args.moment (acts.ClaimPod c.in_ok-from_str.field-0) (acts.ClaimPod c.args.name.now) (claim_is c.in_ok-from_str.field-0 c.args.name.now c.in_ok-from_str.ensures) c.args.store.now c.try_entry.new.store c.in_ok-turn.turn c.in_ok-turn.ensures.answered

pub returns-clause-answered : goal.returns-clause-answered
returns-clause-answered c =
    answer_same c.args.me (seen c.args.cache.now) c.args.moment (acts.ClaimPod c.in_ok-from_str.field-0) (acts.ClaimPod c.args.name.now) (claim_is c.in_ok-from_str.field-0 c.args.name.now c.in_ok-from_str.ensures) c.args.store.now c.try_entry.new.store c.in_ok-turn.turn c.in_ok-turn.ensures.answered

pub returns-then-is_written-clause-held : goal.returns-then-is_written-clause-held
returns-then-is_written-clause-held c =
    claim_written (seen c.args.cache.now).view c.args.name.now c.in_ok-turn.turn c.args.held.now.items _ c.in_ok-pod.pod (sym c.is_written.ensures ∙ c.if-is_written.true) c.in_ok-pod.ensures (c.push_reserved.ensures.items ∙ ap (λ (ps : List HeldPod). ps ++ c.in_ok-pod.pod ∷ []) c.in_ok-reserve.ensures.items)

pub returns-clause-held : goal.returns-clause-held
returns-clause-held c =
    claim_other (seen c.args.cache.now).view c.args.name.now c.in_ok-turn.turn c.args.held.now.items _ (sym c.is_written.ensures ∙ c.if-is_written.false) c.in_ok-reserve.ensures.items
