use Rattle.std.proofs.Common.{rules}
use borrow.Author.Tests.{tests}
use Rattle.std.proofs.lemmas.Iterator.Splits.{YieldsList-from_slice_split}
use Rattle.std.proofs.lemmas.Iterator.Search.{all_from_yields_List}
use Rattle.tk_names.specs.Rules.{is_segment, is_slash}
use Rattle.tk_names.proofs.rules.all_segments.Goals as goal

pub returns : goal.returns
returns c =
    all_from_yields_List is_segment _ _ c.all.result c.all.ensures.ran (YieldsList-from_slice_split _ is_slash c.args.path.now c.split.ensures.rest c.split.ensures.done c.split.ensures.closure (λ x b q k. search (rules, tests))) (λ x b q k. search (rules, tests))
