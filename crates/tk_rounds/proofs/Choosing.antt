-- A controller's turn writes its workers' choices.
use Rattle.std.proofs.Common.{◌≡◌, ℕ, List, [], ◌∷◌, refl, sym, ◌∙◌, subst, inl, inr, false, true}
use Rattle.std.specs.Prelude.{All}
use Rattle.std.proofs.lemmas.List.Elements.{All-head, All-tail}
use Rattle.tk_journal.specs.declared.act.Act.{Act}
use Rattle.tk_journal.specs.declared.entry.Actor.{Actor}
use Rattle.tk_journal.specs.declared.entry.Actor.TheVariants as actors
use Rattle.tk_journal.specs.declared.entry.Entry.{Entry}
use Rattle.tk_journal.specs.Choice.{IsChoice}
use Rattle.tk_journal.specs.History.{View, view_at}
use Rattle.tk_store.specs.declared.turn.Turn.{Turn}
use Rattle.tk_store.specs.declared.turn.Turn.TheVariants as turns
use Rattle.tk_store.specs.Writes.{Stored}
use Rattle.tk_cache.specs.Views.{Seen}
use Rattle.tk_choice.specs.Took.{TookFirst, entry_of}
use Rattle.tk_rounds.specs.Chosen.{AreChosen, IsChosen, IsWorkerOf}
use Rattle.tk_rounds.specs.Members.{of_controller}
use Rattle.tk_rounds.specs.Turning.{ControllerTook}

module _ (number : ℕ) where
  pub chosen_same : (before after : Stored) → after ≡ before → AreChosen number before.history → AreChosen number after.history
  chosen_same before after same was = subst (λ (s : Stored). AreChosen number s.history) (sym same) was

  -- an entry of somebody else
  pub chosen_other : (e : Entry) (older : List Entry) → of_controller number e ≡ false → AreChosen number older → AreChosen number (e ∷ older)
  chosen_other e older other was = (λ own. let both = sym other ∙ own in cc (both), was)

  -- none is of the controller
  pub chosen_none : (history : List Entry) → All (λ (e : Entry). of_controller number e ≡ false) history → AreChosen number history
  chosen_none [] none = tt
  chosen_none (e ∷ older) none =
      chosen_other e older (All-head (λ (x : Entry). of_controller number x ≡ false) e older none) (chosen_none older (All-tail (λ (x : Entry). of_controller number x ≡ false) e older none))

  module _ (seen : Seen) (moment : ℕ) (before : Stored) (same : seen.view ≡ view_at seen.fronts before.history) where
    -- one of its workers' choice
    chosen_act : (actor : Actor) (act : Act) → IsWorkerOf number seen.view actor moment → IsChoice seen.view actor moment act → IsChosen number before.history (entry_of actor seen.fronts moment act)
    chosen_act actor act worker choice = record {
      choice = subst (λ (v : View). IsChoice v actor moment act) same choice;
      worker = subst (λ (v : View). IsWorkerOf number v actor moment) same worker;
    }

    chosen_first : (actor : Actor) → IsWorkerOf number seen.view actor moment → (turn : Turn) (after : Stored) → TookFirst seen actor moment before turn after → AreChosen number before.history → AreChosen number after.history
    chosen_first actor worker turns.Idle after took was = chosen_same before after took.1 was
    chosen_first actor worker (turns.Wrote version) after took was =
        subst (AreChosen number) (sym took.2.1.added) (λ own. chosen_act actor took.0 worker took.1, was)
    chosen_first actor worker (turns.Exists holder version) after took was = chosen_same before after took.2.2 was
    chosen_first actor worker (turns.Conflict found) after took was = chosen_same before after took.2.2 was
    chosen_first actor worker turns.Memory after took was = chosen_same before after took.2.2 was

    pub chosen_took : (turn : Turn) (after : Stored) → ControllerTook number seen moment before turn after → AreChosen number before.history → AreChosen number after.history
    chosen_took turn after took was = elim took [
      | inl runs ↦ chosen_first (actors.Runs number) (inl refl) turn after runs.1 was
      | inr tasks ↦ chosen_first (actors.Tasks number) (inr (refl, tasks.0)) turn after tasks.1 was
    ]
