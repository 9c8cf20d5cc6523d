use Rattle.std.proofs.Common.{sym, ap}
use Rattle.std.specs.Prelude.{is_some}
use Rattle.tk_fields.proofs.ItemsOf.{elements-of_array}
use Rattle.tk_fields.proofs.list.elements_of.Goals as goal

pub returns-in-Some : goal.returns-in-Some
returns-in-Some c = (sym (ap is_some c.in-Some.ensures), rw c.as_slice.ensures.value (elements-of_array _ c.in-Some.items.now.items c.in-Some.ensures))
