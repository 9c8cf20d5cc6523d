use Rattle.std.proofs.Common.{◌≡◌, ℕ, List, ap, ap₂, subst, sym, ◌∙◌, arith}
use Rattle.tk_journal.specs.declared.entry.Entry.{Entry}
use Rattle.tk_store.specs.Writes.{MayBeTried, version_now, version_seen}
use Rattle.tk_user.specs.Ask.{ask_entry}
use Rattle.tk_user.proofs.AtEnd.{seen_end, may_ask}
use Rattle.tk_user.proofs.asking.write.Goals as goal

pub update-requires-clause-tried : goal.update-requires-clause-tried
update-requires-clause-tried c =
    let history = c.args.store.now.history in
    let entry : c.entry_at_end-entry.result ≡ ask_entry history c.args.name.now c.args.status c.args.moment = c.entry_at_end-entry.ensures ∙ ap₂ (λ (h : List Entry) (n : List ℕ). ask_entry h n c.args.status c.args.moment) c.journal-journal.ensures c.in_ok-from_str.ensures in
    subst (MayBeTried history) (sym entry) (may_ask history c.args.name.now c.args.status c.args.moment c.requires.free)

pub unreachable-requires : goal.unreachable-requires
unreachable-requires c =
    let history = c.args.store.now.history in
    let entry : c.entry_at_end-entry.result ≡ ask_entry history c.args.name.now c.args.status c.args.moment = c.entry_at_end-entry.ensures ∙ ap₂ (λ (h : List Entry) (n : List ℕ). ask_entry h n c.args.status c.args.moment) c.journal-journal.ensures c.in_ok-from_str.ensures in
    let same = ap (version_seen history) entry ∙ seen_end history c.args.name.now c.args.status c.args.moment ∙ sym (ap (version_now history) entry) in
    let found = c.in-Conflict.ensures.0.now in
    let less = c.in-Conflict.ensures.0.newer in
    omega (arith, same, found, less)
