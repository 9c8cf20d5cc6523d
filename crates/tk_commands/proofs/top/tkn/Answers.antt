use Rattle.std.proofs.Common.{rules, ◌≡◌, Some, None, refl, subst₂}
use Rattle.std.specs.Prelude.{Option}
use Rattle.tk_commands.specs.declared.generate_words.Generation.{Generation}
use Rattle.tk_commands.specs.declared.run_line.RunOptions.{RunOptions}
use Rattle.tk_commands.specs.Command.{command_of}
use Rattle.tk_commands.specs.GenerateWords.{generate_of, generation_of}
use Rattle.tk_commands.specs.Run.{IsUsage}
use Rattle.tk_commands.specs.RunWords.{run_of}
use Rattle.tk_commands.proofs.Generated.{asks_for_nothing}
use Rattle.tk_commands.proofs.top.tkn.Goals as goal

pub returns-in-len1-up-2-clause-usage : goal.returns-in-len1-up-2-clause-usage
returns-in-len1-up-2-clause-usage g c = λ usage.
    let words = c.args.words.now in
    let not_run : run_of words ≡ None = search rules in
    let generates : generate_of words ≡ Some (generation_of words) = search rules in
    let none : generation_of words ≡ None =
    asks_for_nothing (generation_of words) (command_of words)
    (subst₂ (λ (run : Option (Option RunOptions)) (wanted : Option (Option Generation)). IsUsage run wanted (command_of words)) not_run generates usage) in
    let told = c.generate_command.ensures.usage none in
    (told.0, refl, told.1, refl, told.2)
