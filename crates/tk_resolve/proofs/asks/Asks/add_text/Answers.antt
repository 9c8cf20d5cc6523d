use Rattle.std.proofs.Common.{ap, ◌∙◌}
use Rattle.std.specs.List.{list_all}
use Rattle.std.proofs.lemmas.List.Sums.{AllPass-from_list_all}
use Rattle.tk_vars.specs.Reading.{is_piece, pieces_of}
use Rattle.tk_resolve.proofs.Asked.{adds_nothing}
use Rattle.tk_resolve.proofs.PassedOver.{none_passes_without}
use Rattle.tk_resolve.proofs.asks.Asks.add_text.Goals as goal

pub returns-then-is_plain : goal.returns-then-is_plain
returns-then-is_plain c = λ reads.
    let text = c.args.text.now in
    adds_nothing c.args.due (pieces_of text) c.args.self.now (λ test. none_passes_without test text (c.is_plain.ensures.references c.if-is_plain.true))

pub add_pieces-requires : goal.add_pieces-requires
add_pieces-requires c = AllPass-from_list_all is_piece c.as_slice.result.now (ap (list_all is_piece) c.as_slice.ensures ∙ c.in-Ok.ensures.reading.allowed)
