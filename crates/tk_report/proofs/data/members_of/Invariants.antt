use Rattle.std.proofs.Common.{◌≡◌, take}
use Rattle.serde_json.specs.View.{members_view}
use Rattle.tk_results.specs.Written.{members_of}
use Rattle.tk_report.proofs.data.members_of.Given as goal

-- the members so far are those of the pairs so far
abbrev pub invariant-loop-pair : goal.invariant-loop-pair
invariant-loop-pair l = members_view l.members.entries ≡ members_of (take l.pair-index l.pairs)
