use Rattle.std.proofs.Common.{ap, sym, ◌∙◌, subst, [], ◌∷◌, ◌++◌, Some, List, Option}
use Rattle.atomic_table.specs.Table.{opening}
use Rattle.tk_turn.specs.Claims.{whole}
use Rattle.tk_turn.specs.Views.{seat_view, idle}
use Rattle.tk_turn.specs.Turns.{IsKept}
use Rattle.tk_turn.proofs.Steps.{opens}
use Rattle.tk_turn.proofs.lock.TurnLock.new.Goals as goal

pub new-requires : goal.new-requires
new-requires g c =
    let journal = g.S.Journaled.journal in
    let items = c.push_reserved.ensures.items ∙ ap (λ (xs : List (Option g.row.S.Denot)). xs ++ Some c.args.state ∷ []) c.in-Ok.ensures.items in
    let known = c.of-known.ensures in
    subst (λ (y : List (Option g.row.S.Denot) × g.row.S.Denot). IsKept journal (opening (0 ∷ 0 ∷ c.length-length.result ∷ []) y.0 (seat_view idle (whole (journal y.1))))) (λ i. (sym items i, sym known i))
    (opens journal c.args.state c.length-length.result c.length-length.ensures)
