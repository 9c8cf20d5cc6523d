use Rattle.std.proofs.Common.{◌∙◌, ap, sym, find, is_some}
use Rattle.tk_validate.specs.declared.seen.Seen.{Seen}
use Rattle.tk_validate.specs.Seen.{is_of_name}
use Rattle.tk_validate.proofs.SeenNames.{is_some-map, visible}
use Rattle.tk_validate.proofs.seen.layers.Layers.contains.Goals as goal

pub returns : goal.returns
returns c =
    let name = c.args.name.now in
    let all = c.args.self.now in
    c.is_some.ensures ∙ (ap is_some c.get.ensures ∙ (is_some-map (λ (s : Seen). s.kind) (find (is_of_name name) all) ∙ sym (visible name all)))
