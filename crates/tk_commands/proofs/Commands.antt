-- The commands of lines are those of the words.
use Rattle.std.proofs.Common.{◌≡◌, ℕ, List, [], ◌∷◌, Option, Some, None, Bool, true, false, refl, sym, ap, ◌∙◌}
use Rattle.std.specs.Prelude.{bytes_eq, codes, option_and_then, option_map, if◌then◌else◌}
use Rattle.tk_words.specs.declared.line.Line.{Line}
use Rattle.tk_words.specs.declared.line.Name.{Name}
use Rattle.tk_words.specs.declared.line.Name.TheVariants as names
use Rattle.tk_words.specs.Line.{json_behind, line_of, line_with}
use Rattle.tk_words.proofs.Plain.{check_line, decide_line, if_alone, no_generate, no_run, simulate_line}
use Rattle.tk_commands.specs.declared.command.Command.{Command}
use Rattle.tk_commands.specs.declared.command.Command.TheVariants.{Check, Decide, Simulate}
use Rattle.tk_commands.specs.Command.{alone, command_in, command_named, command_of, simulate_with}

abbrev simulates : Bool → Option Command
simulates json = Some (Simulate json)

as_map : (o : Option Bool) → option_and_then simulates o ≡ option_map Simulate o
as_map None = refl
as_map (Some json) = refl

as_alone : (command : Command) (words : List (List ℕ)) → if_alone (Some command) words ≡ alone command words
as_alone command [] = refl
as_alone command (word ∷ words) = refl

by_name : (words : List (List ℕ)) (check decide simulate run generate : Bool)
    → option_and_then command_in (line_with (if check then Some names.Check else (if decide then Some names.Decide else (if simulate then Some names.Simulate else (if run then Some names.Run else (if generate then Some names.Generate else None))))) words)
    ≡ (if check then alone Check words else (if decide then alone Decide words else (if simulate then simulate_with words else None)))
by_name words true decide simulate run generate = check_line command_in (Some Check) (λ line is. ap (λ (n : Name). command_named n line.json) is) words ∙ as_alone Check words
by_name words false true simulate run generate = decide_line command_in (Some Decide) (λ line is. ap (λ (n : Name). command_named n line.json) is) words ∙ as_alone Decide words
by_name words false false true run generate = simulate_line command_in simulates (λ line is. ap (λ (n : Name). command_named n line.json) is) words ∙ as_map (json_behind false words)
by_name words false false false true generate = no_run command_in (λ line is. ap (λ (n : Name). command_named n line.json) is) words
by_name words false false false false true = no_generate command_in (λ line is. ap (λ (n : Name). command_named n line.json) is) words
by_name words false false false false false = refl

-- each command of words is that of their line
pub by_line : (words : List (List ℕ)) → option_and_then command_in (line_of words) ≡ command_of words
by_line [] = refl
by_line (word ∷ words) =
    by_name words (bytes_eq word (codes "check")) (bytes_eq word (codes "decide")) (bytes_eq word (codes "simulate")) (bytes_eq word (codes "run")) (bytes_eq word (codes "generate"))
