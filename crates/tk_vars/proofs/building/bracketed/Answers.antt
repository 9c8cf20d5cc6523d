use Rattle.std.proofs.Common.{sym, ◌∙◌, ap}
use Rattle.std.specs.Prelude.{bytes_eq}
use Rattle.tk_vars.proofs.BuildFacts.{quoted_text}
use Rattle.tk_vars.proofs.building.bracketed.Goals as goal

pub word_of-requires : goal.word_of-requires
word_of-requires c = quoted_text c.args.inner.now (sym (c.eq.ensures ∙ ap (bytes_eq c.args.inner.now) c.as_slice.ensures) ∙ c.if-eq.false) (sym c.is_index.ensures ∙ c.if-is_index.false) c.requires
