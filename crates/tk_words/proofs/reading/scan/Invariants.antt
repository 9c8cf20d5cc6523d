use Rattle.std.proofs.Common.{◌≡◌, Some, drop, length}
use Rattle.tk_words.specs.Line.{scanned, start}
use Rattle.tk_words.proofs.reading.scan.Given as goal

abbrev pub invariant-loop-place : goal.invariant-loop-place
invariant-loop-place l = record {
  so_far : scanned l.name (Some start) l.words ≡ scanned l.name (Some l.scan) (drop l.place l.words);
  end : l.place-end ≡ length l.words;
}
