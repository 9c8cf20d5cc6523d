use Rattle.std.proofs.Common.{◌≡◌, ◌++◌, sym, ap, ◌∙◌, option_map}
use Rattle.std.specs.Prelude.{option_to_list}
use Rattle.tk_validate.proofs.InOrder.{entry_passes, names_more}
use Rattle.tk_validate.proofs.rules.names.check_entries.Goals as goal

pub loop-index-preserved : goal.loop-index-preserved
loop-index-preserved g c =
    let entry = c.index-entries-index.result in
    let same : option_map (λ n. n.now) c.label.result ≡ g.R.Entries.label entry = c.label.ensures in
    record {
      names =
          c.in_ok-add_name.ensures.added
          ∙ (ap (λ o. c.loop-index.names ++ option_to_list o) same
          ∙ names_more c.args.names g.R.Entries.label c.args.entries.now c.loop-index.index entry c.loop-index.names c.loop-index-test.true c.index-entries-index.is c.loop-index.invariant.names);
      found =
          sym
          (entry_passes c.args.names g.R.Entries.label (g.R.Rule.finding c.args.rule.now) c.args.place.now c.args.entries.now c.loop-index.index entry c.loop-index.names c.loop-index-test.true c.index-entries-index.is c.loop-index.invariant.names
          (rw (← c.at-element.ensures, ← same) c.in_ok-add_name.ensures.found.0)
          (rw (← c.at-element.ensures) c.in_ok-check.ensures.0))
          ∙ c.loop-index.invariant.found;
    }
