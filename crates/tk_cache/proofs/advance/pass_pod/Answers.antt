use Rattle.std.proofs.Common.{rules, ◌≡◌, false, sym}
use Rattle.tk_types.specs.declared.scenario.Kind.TheVariants as kinds
use Rattle.tk_journal.specs.Effects.{kind_of, same_kind}
use Rattle.tk_cache.proofs.Passing.{pods_on, pods_ready, pods_moved}
use Rattle.tk_cache.proofs.advance.pass_pod.Goals as goal

pub write_pod-requires-clause-fits : goal.write_pod-requires-clause-fits
write_pod-requires-clause-fits c =
    pods_ready c.args.place c.entry-entry.result.now c.args.journal.now.history c.entry-entry.ensures c.requires.legal c.requires.within c.args.pods.now (sym c.if-not-is_of.ensures) c.requires.shows

pub returns-then-not-is_of : goal.returns-then-not-is_of
returns-then-not-is_of c =
    let other : same_kind kinds.Pods (kind_of c.entry-entry.result.now.act) ≡ false = search rules in
    pods_on c.args.place c.entry-entry.result.now c.args.journal.now.history c.entry-entry.ensures c.requires.legal c.requires.within c.args.pods.now other c.requires.shows

pub returns : goal.returns
returns c =
    pods_moved c.args.place c.entry-entry.result.now c.args.journal.now.history c.entry-entry.ensures c.requires.legal c.requires.within c.args.pods.now c.write_pod.new.pods (sym c.if-not-is_of.ensures)
    c.in_ok-write_pod.ensures.at c.in_ok-write_pod.ensures.names c.requires.shows
