use Rattle.std.proofs.Common.{◌≡◌, drop, is_some}
use Rattle.std.specs.List.{list_all}
use Rattle.tk_shape.specs.Substituted.{element_count}
use Rattle.tk_shape.proofs.presence.have_elements.Given as goal

-- the texts that are left decide
abbrev pub invariant-loop-text : goal.invariant-loop-text
invariant-loop-text g l =
    list_all (λ text. is_some (element_count (g.S.Shapes.env l.shapes) text)) (drop l.text-index l.texts) ≡ list_all (λ text. is_some (element_count (g.S.Shapes.env l.shapes) text)) l.texts
