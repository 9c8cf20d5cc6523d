use Rattle.std.proofs.Common.{sym, subst}
use Rattle.tk_run_cache.specs.Follow.{IsOpen}
use Rattle.tk_run_cache.specs.Labelled.{Standing}
use Rattle.tk_run_cache.proofs.known.Known.end.Goals as goal

pub end_child-requires : goal.end_child-requires
end_child-requires c = record { opens = subst (λ (s : Standing). IsOpen c.args.task c.args.index s.facts) (sym c.self.view_is) c.requires.may }
