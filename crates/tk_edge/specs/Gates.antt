-- What gates answer, and what their answers add to the list that they tell.
use Rattle.std.specs.Prelude.{◌≡◌, ◌==◌, ◌-◌, ◌^◌, ℕ, if◌then◌else◌, List, [], ◌∷◌, Option}
use Rattle.tk_types.specs.declared.scenario.Kind.{Kind}
use Rattle.tk_types.specs.declared.scenario.Kind.TheVariants as kinds
use Rattle.tk_edge.specs.declared.gate.GateTurn.{GateTurn}
use Rattle.tk_edge.specs.declared.gate.GateTurn.TheVariants as turns
use Rattle.tk_edge.specs.Readings.{Adds}

-- Pause adds nothing
abbrev pub AddsAnswer : GateTurn → Option (List GateTurn) → Option (List GateTurn) → Type 0
AddsAnswer turns.Pause before after = after ≡ before
AddsAnswer answer before after = Adds answer before after

-- the answers with one more in front, but for Pause; and all of a list but for Pause
abbrev pub with_answer : GateTurn → List GateTurn → List GateTurn
with_answer turns.Pause older = older
with_answer answer older = answer ∷ older

abbrev pub answers_in : List GateTurn → List GateTurn
answers_in [] = []
answers_in (answer ∷ older) = with_answer answer (answers_in older)

-- a gate over a list: the answers that are left, and those other than Pause that it gave, the newest first
pub record Listed : Type 0 where
  pub left : List GateTurn
  pub answers : List GateTurn

-- the next answer of such a gate: the first one left, and Pause once none is
abbrev pub next_answer : List GateTurn → GateTurn
next_answer [] = turns.Pause
next_answer (answer ∷ later) = answer

abbrev pub later_answers : List GateTurn → List GateTurn
later_answers [] = []
later_answers (answer ∷ later) = later

-- the kinds follow one another
abbrev pub following : Kind → Kind
following kinds.Runs = kinds.TaskRuns
following kinds.TaskRuns = kinds.Pods
following kinds.Pods = kinds.Runs

-- a gate that keeps a cache fresh delivers all entries of the kind that is next while the cache lags, and else lets it work
abbrev pub fresh_answer : Kind → ℕ → GateTurn
fresh_answer next lag = if lag == 0 then turns.Work else turns.Deliver next (2 ^ 64 - 1)

abbrev pub fresh_next : Kind → ℕ → Kind
fresh_next next lag = if lag == 0 then next else following next
