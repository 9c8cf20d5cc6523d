use Rattle.std.proofs.Common.{rules, ◌≡◌, ◌<◌, ◌-◌, false, get_or, ap, sym, ◌∙◌, arith}
use Rattle.std.specs.Option.{option_map_or}
use Rattle.tk_journal.specs.Effects.{writes}
use Rattle.tk_store.specs.Index.{is_of}
use Rattle.tk_store.specs.declared.index.Link.{Link}
use Rattle.tk_store.proofs.Walks.{step_on}
use Rattle.tk_store.proofs.index.found.Goals as goal

pub loop-at-preserved : goal.loop-at-preserved
loop-at-preserved c =
    let positive : 0 < c.loop-at.at = search rules in
    let none : Link = record { made = 0; next = 0 } in
    let missed : is_of c.args.journal.now.history c.args.kind c.args.name.now (get_or c.args.links.now (c.loop-at.at - 1) none) ≡ false =
    ap (λ o. option_map_or (writes c.args.kind c.args.name.now) o false) c.entry.ensures ∙ sym c.writes.ensures ∙ c.if-writes.false in
    step_on (is_of c.args.journal.now.history c.args.kind c.args.name.now) c.args.links.now c.requires.links.older c.loop-at.at (c.loop-at.at - 1) c.args.head none (omega (arith, positive)) c.loop-at.invariant.0 c.loop-at.invariant.1 missed
