use Rattle.tk_fields.proofs.FirstBad.{first_bad_key-IsFirstBad, first_bad_key-found, first_bad_key-none, first_bad_key-good}
use Rattle.tk_fields.proofs.laws.first_bad_key.Goals as goal

pub returns-clause-bad : goal.returns-clause-bad
returns-clause-bad c = λ table place keys fault e. first_bad_key-IsFirstBad table place keys fault e

pub returns-clause-found : goal.returns-clause-found
returns-clause-found c = λ table place before after key fault good e. first_bad_key-found table place before after key fault good e

pub returns-clause-none : goal.returns-clause-none
returns-clause-none c = λ table place keys e. first_bad_key-none table place keys e

pub returns-clause-good : goal.returns-clause-good
returns-clause-good c = λ table place keys good. first_bad_key-good table place keys good
