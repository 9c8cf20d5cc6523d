-- Fair rounds come to an end.
use Rattle.std.specs.Prelude.{◌≡◌, ◌<◌, ◌≤◌, ◌+◌, ℕ, zero, suc, List, [], ◌∷◌, ◌++◌, length}
use Rattle.tk_types.specs.declared.scenario.Event.{Event}
use Rattle.tk_types.specs.declared.scenario.Event.TheVariants as events
use Rattle.tk_journal.specs.declared.entry.Entry.{Entry}
use Rattle.tk_journal.specs.Progress.{IsOpen}
use Rattle.tk_journal.specs.Weight.{weight}
use Rattle.tk_deeds.specs.Deeds.{Deed}
use Rattle.tk_machine.specs.State.{KubeletState, World, start}
use Rattle.tk_machine.specs.Hosts.{Script, deeds_of}
use Rattle.tk_machine.specs.Machine.{Steps, opened, Run, IsSimulated, IsSound}

-- all steps that started or ended, over all kubelets
abbrev pub deeds_in : List KubeletState → List Deed
deeds_in [] = []
deeds_in (k ∷ ks) = deeds_of k.told ++ deeds_in ks

-- what has happened so far: entries, and starts and ends of steps
abbrev pub happened : World → ℕ
happened w = length w.history + length (deeds_in w.kubelets)

-- there is a controller and a kubelet
pub record IsPeopled (w : World) : Type 0 where
  pub controllers : 0 < length w.controllers
  pub kubelets : 0 < length w.kubelets

module _ (script : Script) where
  abbrev pub FairRound : World → World → Type 0
  FairRound w after = Steps script w (opened script w events.Round) after

  -- so many fair rounds, each begun while something is open
  abbrev pub OpenRounds : World → ℕ → World → Type 0
  OpenRounds w zero after = after ≡ w
  OpenRounds w (suc rounds) after = IsOpen w.history × ((between : World) × FairRound w between × OpenRounds between rounds after)

  -- a fair round that begins while something is open adds an entry, or a step starts or ends in it
  abbrev pub RoundMoves : Type 0
  RoundMoves = (w after : World) → IsSound script w → IsPeopled w → IsOpen w.history → FairRound w after → happened w < happened after

  -- with the rounds no more happens than the weight allows
  abbrev pub RoundsEnd : Type 0
  RoundsEnd =
      (w after : World) (rounds : ℕ) → IsSound script w → IsPeopled w → OpenRounds w rounds after → rounds + happened w ≤ weight w.history

  -- so after as many rounds as the weight, or more, nothing is open
  abbrev pub RoundsClose : Type 0
  RoundsClose =
      (w after : World) (rounds : ℕ) → IsSound script w → IsPeopled w → weight w.history ≤ rounds → OpenRounds w rounds after
      → IsOpen after.history → ⊥

  -- a run over the events of a scenario, and then these rounds, are what `simulate` answers
  abbrev pub RoundsSimulate : Type 0
  RoundsSimulate =
      (controllers kubelets : ℕ) (admitted : List Entry) (given : List Event) (w : World) (rounds : ℕ) (after : World)
      → Run script (start controllers kubelets admitted) given w → OpenRounds w rounds after
      → IsSimulated script controllers kubelets admitted given after.history
