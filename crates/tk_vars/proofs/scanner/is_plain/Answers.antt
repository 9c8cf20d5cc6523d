use Rattle.std.proofs.Common.{◌≡◌, ℕ, List, [], ◌∷◌, true, refl, sym, ap, ◌∙◌, filter_map}
use Rattle.std.specs.List.{list_any}
use Rattle.tk_vars.specs.Steps.{plain_pieces}
use Rattle.tk_vars.specs.Target.{referenced}
use Rattle.tk_vars.proofs.OffsetFacts.{bad_offset-none}
use Rattle.tk_vars.proofs.ScanFacts.{IsAllScanned, scanned_nothing, at_end, no_dollar}
use Rattle.tk_vars.proofs.scanner.is_plain.Goals as goal

-- a text without `$` is scanned at once
all_scanned : (text : List ℕ) → no_dollar text ≡ true → IsAllScanned text (plain_pieces text)
all_scanned text none = at_end text [] [] text (scanned_nothing text) none

no_reference : (text : List ℕ) → filter_map referenced (plain_pieces text) ≡ []
no_reference [] = refl
no_reference (b ∷ bs) = refl

pub returns-clause-reading : goal.returns-clause-reading
returns-clause-reading c = λ yes. bad_offset-none c.args.text.now (all_scanned c.args.text.now (sym c.has_no_dollar.ensures ∙ yes)).reading

pub returns-clause-references : goal.returns-clause-references
returns-clause-references c = λ yes. ap (filter_map referenced) (sym (all_scanned c.args.text.now (sym c.has_no_dollar.ensures ∙ yes)).only) ∙ no_reference c.args.text.now

pub returns-clause-none : goal.returns-clause-none
returns-clause-none c = λ yes test. ap (list_any test) (returns-clause-references c yes)
