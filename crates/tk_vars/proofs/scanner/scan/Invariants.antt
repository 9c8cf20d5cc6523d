use Rattle.std.proofs.Common.{length}
use Rattle.std.specs.Str.{IsUtf8}
use Rattle.tk_vars.proofs.ScanFacts.{IsScannedTo}
use Rattle.tk_vars.proofs.scanner.scan.Given as goal

abbrev pub invariant-loop-before : goal.invariant-loop-before
invariant-loop-before l = IsScannedTo l.text l.pieces.items l.plain l.rest × IsUtf8 l.rest × IsUtf8 l.plain

abbrev pub decreases-loop-before : goal.decreases-loop-before
decreases-loop-before l = length l.rest
