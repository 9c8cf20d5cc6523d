use Rattle.tk_results.proofs.ReadsBack.{list_reads_back, object_reads_back, text_reads_back}
use Rattle.tk_results.proofs.laws.reads_back.Goals as goal

pub returns-clause-text : goal.returns-clause-text
returns-clause-text c = λ text. text_reads_back text

pub returns-clause-list : goal.returns-clause-list
returns-clause-list c = λ texts. list_reads_back texts

pub returns-clause-object : goal.returns-clause-object
returns-clause-object c = λ pairs h. object_reads_back pairs h
