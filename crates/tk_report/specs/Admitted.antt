-- A listed object, as a contract sees it.
use Rattle.std.specs.Prelude.{ℕ, List}
use Rattle.tk_types.specs.declared.scenario.Kind.{Kind}
use Rattle.tk_report.specs.declared.admitted.Named.{Named}

abbrev pub named : Named → Kind × List ℕ
named object = (object.kind, object.name.now)
