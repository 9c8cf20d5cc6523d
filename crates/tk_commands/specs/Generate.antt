-- What `generate` answers.
use Rattle.std.specs.Prelude.{◌≡◌, ℕ, Bool, true, false, List, [], ◌++◌, Some, None, codes}
use Rattle.tk_types.specs.First.{Finding}
use Rattle.tk_gen.specs.Generate.{generated}
use Rattle.tk_admit.specs.Admit.{input_fault}
use Rattle.tk_manifest.specs.declared.kinds.KindSet.TheVariants.{WithScenario}
use Rattle.tk_simulate.specs.Played.{IsPlayed, given_by}
use Rattle.tk_summary.specs.Summary.{summary_text}
use Rattle.tk_commands.specs.declared.answer.Answer.{Answer}
use Rattle.tk_commands.specs.declared.generate_words.Generation.{Generation}
use Rattle.tk_commands.specs.Due.{rejected}

-- a text with a fault comes to no journal; without one it is played, and its journal is counted
abbrev pub Summarizes : List ℕ → Finding → Answer → Type 0
Summarizes text (Some fault) answer = (answer.due ≡ rejected fault) × (answer.journal.history ≡ [])
Summarizes text None answer = IsPlayed (given_by text) answer.journal.history × (answer.due ≡ record { status = 0; text = summary_text answer.journal.history })

-- the text is printed with a newline, or simulated as the input of `simulate`
abbrev pub Generates : Bool → List ℕ → Answer → Type 0
Generates false text answer = (answer.due ≡ record { status = 0; text = text ++ codes "\n" }) × (answer.journal.history ≡ [])
Generates true text answer = Summarizes text (input_fault WithScenario 0 text) answer

abbrev pub IsGenerated : Generation → Answer → Type 0
IsGenerated wanted answer = Generates wanted.run (generated wanted.number wanted.size) answer
