use Rattle.tk_manifest.proofs.FineInput.{reading_fault-IsReadingFault}
use Rattle.tk_manifest.proofs.laws.faults_of_reading.Goals as goal

pub returns : goal.returns
returns c = λ kinds bytes fault e. reading_fault-IsReadingFault kinds bytes fault e
