use Rattle.std.proofs.Common.{◌≡◌}
use Rattle.serde_json.specs.View.{members_view}
use Rattle.tk_results.specs.Read.{members, pairs_of}
use Rattle.tk_results.proofs.AllThere.{behind}
use Rattle.tk_results.proofs.strings.pairs_of.Given as goal

-- what is made, and what the members that are left give, is the result
abbrev pub invariant-loop-key : goal.invariant-loop-key
invariant-loop-key l = behind l.pairs (pairs_of (members (members_view l.key-iterator))) ≡ pairs_of (members (members_view l.object.entries))
