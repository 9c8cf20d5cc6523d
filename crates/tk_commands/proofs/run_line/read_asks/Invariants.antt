use Rattle.std.proofs.Common.{◌≡◌, [], Some, drop, length}
use Rattle.tk_commands.specs.RunWords.{asks_behind}
use Rattle.tk_commands.proofs.run_line.read_asks.Given as goal

abbrev pub invariant-loop-place : goal.invariant-loop-place
invariant-loop-place l = record {
  so_far : asks_behind (Some []) l.words ≡ asks_behind (Some l.asks) (drop l.place l.words);
  end : l.place-end ≡ length l.words;
}
