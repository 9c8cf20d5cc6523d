use Rattle.std.proofs.Common.{Some, bytes_eq, refl, sym, ◌∙◌}
use Rattle.std.proofs.lemmas.Map.Text.{hash_map_updates_str}
use Rattle.std.specs.HashMap.{get_by}
use Rattle.tk_resolve.specs.Due.{seen}
use Rattle.tk_resolve.proofs.Asked.{known_more, known_still, seen_more}
use Rattle.tk_resolve.proofs.asks.Asks.ask.Goals as goal

pub invariant_of-self-in_err-insert : goal.invariant_of-self-in_err-insert
invariant_of-self-in_err-insert c = λ name known found.
    known_still (seen c.self.inside.made.items) (seen c.push.new.self.items) c.args.due c.args.spelling.now known name
    (seen_more c.self.inside.made.items c.push.new.self.items (c.args.due, c.args.spelling) c.in_ok-push.ensures.items)
    (c.self.invariant name known (rw c.in_err-insert.ensures.err at found))

pub invariant_of-self-2 : goal.invariant_of-self-2
invariant_of-self-2 c = λ name known found.
    known_more (seen c.self.inside.made.items) (seen c.push.new.self.items) c.args.due known c.args.spelling.now name (bytes_eq c.args.spelling.now name) (get_by (λ k. bytes_eq name k.now) c.self.inside.known)
    (seen_more c.self.inside.made.items c.push.new.self.items (c.args.due, c.args.spelling) c.in_ok-push.ensures.items) refl (c.self.invariant name known)
    (sym (hash_map_updates_str c.args.spelling.now c.self.inside.known c.insert.new.self (Some c.args.due) c.in_ok-insert.ensures.updates name) ∙ found)
