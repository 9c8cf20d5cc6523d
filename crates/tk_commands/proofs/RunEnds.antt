-- An input that is too long for `run`.
use Rattle.std.proofs.Common.{◌≡◌, ◌<◌, ℕ, List, [], length, replicate, refl, subst, sym, Some, None, arith, inr}
use Rattle.std.specs.Prelude.{Bool, IfSome, Option}
use Rattle.std.proofs.lemmas.List.{length-replicate}
use Rattle.tk_types.specs.Fault.{too_long}
use Rattle.tk_types.specs.First.{Finding}
use Rattle.tk_edge.specs.declared.event.Event.{Event}
use Rattle.tk_edge.specs.declared.gate.GateTurn.{GateTurn}
use Rattle.tk_manifest.specs.declared.kinds.KindSet.TheVariants.{Four}
use Rattle.tk_rounds.specs.declared.bench.Bench.{Bench}
use Rattle.tk_run.specs.Asks.{asks_count}
use Rattle.tk_commands.specs.declared.answer.Answer.{Answer}
use Rattle.tk_commands.specs.Due.{rejected}
use Rattle.tk_commands.specs.Run.{IsRunAnswer, IsRunDue, RunsBy}
use Rattle.tk_commands.specs.declared.run_line.RunOptions.{RunOptions}
use Rattle.tk_commands.proofs.Endings.{longer_fault}

module _ {K H G : Type 0} (answers : G → Option (List GateTurn)) (readings : K → Option (List ℕ)) (last : K → ℕ) (told : H → List Event) (killed : H → ℕ → Bool) (faults : H → ℕ) (options : RunOptions) (bench : Bench K H G) where
  longer_run : (bytes : List ℕ) (answer : Answer) → answer.due ≡ rejected too_long → answer.journal.history ≡ [] → 8388608 < length bytes → IsRunAnswer answers readings last told killed faults options bytes bench bench answer
  longer_run bytes answer is none lt = subst (λ (found : Finding). RunsBy answers readings last told killed faults options bytes bench bench found answer) (sym (longer_fault Four (asks_count options.asks) bytes lt)) (is, none, refl)

  untold_run : (n : ℕ) (ended : Bool) (answer : Answer) → answer.due ≡ rejected too_long → answer.journal.history ≡ [] → 8388608 < n → IsRunDue answers readings last told killed faults options None ended bench bench answer
  untold_run n ended answer is none lt =
      let many : 8388608 < length (replicate n 0) = subst (λ (k : ℕ). 8388608 < k) (sym (length-replicate n 0)) lt in
      (replicate n 0, tt, inr many, longer_run (replicate n 0) answer is none many)

  pub too_long_run : (left : Option (List ℕ)) (ended : Bool) (answer : Answer) → answer.due ≡ rejected too_long → answer.journal.history ≡ [] → IfSome left (λ (bytes : List ℕ). 8388608 < length bytes) → IsRunDue answers readings last told killed faults options left ended bench bench answer
  too_long_run None ended answer is none lt = untold_run 8388609 ended answer is none (omega arith)
  too_long_run (Some bytes) ended answer is none lt = (bytes, refl, inr lt, longer_run bytes answer is none lt)
