use Rattle.tk_manifest.proofs.InOrder.{fault_at, items_from-count, objects_at}
use Rattle.tk_manifest.proofs.laws.lists_in_order.Goals as goal

pub returns-clause-count : goal.returns-clause-count
returns-clause-count c = λ kinds place ds. items_from-count kinds place 0 ds

pub returns-clause-object : goal.returns-clause-object
returns-clause-object c = λ kinds place before after d. objects_at kinds place before after d

pub returns-clause-fault : goal.returns-clause-fault
returns-clause-fault c = λ kinds place before after d fault right e. fault_at kinds place before after d fault right e
