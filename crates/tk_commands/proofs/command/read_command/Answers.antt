use Rattle.std.proofs.Common.{rules, ◌≡◌, Some, None, sym, ap, ◌∙◌}
use Rattle.std.specs.Prelude.{option_and_then}
use Rattle.tk_words.specs.Line.{line_of}
use Rattle.tk_commands.specs.Command.{command_in}
use Rattle.tk_commands.proofs.Commands.{by_line}
use Rattle.tk_commands.proofs.command.read_command.Goals as goal

pub returns-in-Some : goal.returns-in-Some
returns-in-Some c =
    let there : line_of c.args.words.now ≡ Some c.in-Some.line = search rules in
    c.command_in.ensures ∙ sym (ap (option_and_then command_in) there) ∙ by_line c.args.words.now

pub returns-in-None : goal.returns-in-None
returns-in-None c =
    let none : line_of c.args.words.now ≡ None = search rules in
    sym (ap (option_and_then command_in) none) ∙ by_line c.args.words.now
