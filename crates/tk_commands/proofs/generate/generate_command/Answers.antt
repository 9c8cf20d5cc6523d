use Rattle.std.proofs.Common.{rules, ◌≡◌, ◌∙◌, [], Some, subst}
use Rattle.std.specs.Prelude.{◌⊎◌}
use Rattle.std.proofs.lemmas.Option.{same_Some}
use Rattle.tk_commands.specs.declared.generate_words.Generation.{Generation}
use Rattle.tk_commands.specs.Generate.{IsGenerated}
use Rattle.tk_commands.specs.GenerateWords.{generation_of}
use Rattle.tk_commands.specs.Run.{PrintsFrontOf, PrintsOne}
use Rattle.tk_commands.proofs.generate.generate_command.Goals as goal

pub returns-in-Ok-Some-clause-answer : goal.returns-in-Ok-Some-clause-answer
returns-in-Ok-Some-clause-answer g c = λ answers wanted is.
    let found : Some c.in-Ok-Some.wanted ≡ generation_of c.args.words.now = search rules in
    subst (λ (w : Generation). PrintsOne (IsGenerated w) (g.W.Sink.written c.args.sink.now) (g.W.Sink.written c.write_generated.new.sink) c.write_generated.result.status c.write_generated.result.journal.history)
    (same_Some c.in-Ok-Some.wanted wanted (found ∙ is)) (c.write_generated.ensures.answer answers)

pub returns-in-Ok-Some-clause-sink_failed_front : goal.returns-in-Ok-Some-clause-sink_failed_front
returns-in-Ok-Some-clause-sink_failed_front g c = λ failed wanted is.
    let found : Some c.in-Ok-Some.wanted ≡ generation_of c.args.words.now = search rules in
    subst (λ (w : Generation). PrintsFrontOf (IsGenerated w) (g.W.Sink.written c.args.sink.now) (g.W.Sink.written c.write_generated.new.sink) c.write_generated.result.journal.history)
    (same_Some c.in-Ok-Some.wanted wanted (found ∙ is)) (c.write_generated.ensures.sink_failed_front failed)

pub returns-in-Ok-Some-clause-memory_front : goal.returns-in-Ok-Some-clause-memory_front
returns-in-Ok-Some-clause-memory_front g c = λ lacking wanted is.
    let found : Some c.in-Ok-Some.wanted ≡ generation_of c.args.words.now = search rules in
    subst (λ (w : Generation). ((c.write_generated.new.sink ≡ c.args.sink.now) × (c.write_generated.result.journal.history ≡ [])) ⊎ PrintsFrontOf (IsGenerated w) (g.W.Sink.written c.args.sink.now) (g.W.Sink.written c.write_generated.new.sink) c.write_generated.result.journal.history)
    (same_Some c.in-Ok-Some.wanted wanted (found ∙ is)) (c.write_generated.ensures.memory_front lacking)
