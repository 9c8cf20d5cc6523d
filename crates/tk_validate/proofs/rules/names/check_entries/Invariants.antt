use Rattle.std.proofs.Common.{◌≡◌, ◌++◌, drop, take}
use Rattle.std.specs.Prelude.{filter_map}
use Rattle.tk_validate.proofs.InOrder.{entry_from}
use Rattle.tk_validate.proofs.rules.names.check_entries.Given as goal

-- the names so far, and what is wrong first with the entries that are left is what is wrong first with all
abbrev pub invariant-loop-index : goal.invariant-loop-index
invariant-loop-index g l = record {
  names : l.names ≡ l.initial.names ++ filter_map g.R.Entries.label (take l.index l.entries);
  found : entry_from l.initial.names g.R.Entries.label (g.R.Rule.finding l.rule) l.place l.entries l.index (drop l.index l.entries) ≡ entry_from l.initial.names g.R.Entries.label (g.R.Rule.finding l.rule) l.place l.entries 0 l.entries;
}
