-- The conditions hold again behind what a turn does for the held pods.
use Rattle.std.proofs.Common.{ℕ, List, subst}
use Rattle.tk_journal.specs.declared.entry.Entry.{Entry}
use Rattle.tk_journal.specs.Folders.{HaveRoot}
use Rattle.tk_journal.specs.Legal.{IsLegal}
use Rattle.tk_steps.specs.declared.held.HeldPod.{HeldPod}
use Rattle.tk_held.specs.Conditions.{HoldsClaimed}
use Rattle.tk_held.specs.Laws.{MovesKeep}
use Rattle.tk_held.specs.Placed.{IsPlaced, ArePlaced}
use Rattle.tk_held.proofs.Again.{met_moves}
use Rattle.tk_held.proofs.Origins.{legal_is_placed}

-- the held pods have their files apart
pub held_placed : (number life : ℕ) (root : List ℕ) (held : List HeldPod) (history : List Entry) → IsLegal history → HaveRoot root history → HoldsClaimed number life held history → ArePlaced root held
held_placed number life root held history legal have claimed place pod at =
    let mine = claimed.mine place pod at in
    subst (IsPlaced root pod.name) mine.has.plan (legal_is_placed root history legal have pod.name mine.it mine.is)

pub moves_keep : MovesKeep
moves_keep number life root held new history killed dead told now legal met moves stay more =
    met_moves number life root held new history killed dead told now met moves (λ have. stay (held_placed number life root held history legal have met.claimed)) more
