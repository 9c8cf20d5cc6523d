use Rattle.std.proofs.Common.{◌++◌, ap, sym, ◌∙◌, find, option_map}
use Rattle.std.specs.Option.{option_or}
use Rattle.std.proofs.lemmas.List.Folds.{find-append}
use Rattle.tk_validate.proofs.SeenNames.{map_or}
use Rattle.tk_validate.specs.declared.seen.Seen.{Seen}
use Rattle.tk_validate.specs.Seen.{is_of_name}
use Rattle.tk_validate.proofs.seen.layers.Layers.get.Goals as goal

pub returns : goal.returns
returns c =
    let test = is_of_name c.args.name.now in
    let kind = λ (s : Seen). s.kind in
    let inner = c.self.inside.inner.now in
    let middle = c.self.inside.middle.now in
    let outer = c.self.inside.outer.now in
    c.or.ensures
    ∙ (ap (λ o. option_or o c.or-behind.result) c.found-3.ensures
    ∙ (ap (option_or (option_map kind (find test inner)))
    (c.or-behind.ensures
    ∙ (ap (λ o. option_or o c.found-2.result) c.found.ensures
    ∙ (ap (option_or (option_map kind (find test middle))) c.found-2.ensures
    ∙ (sym (map_or kind (find test middle) (find test outer)) ∙ ap (option_map kind) (sym (find-append test middle outer))))))
    ∙ (sym (map_or kind (find test inner) (find test (middle ++ outer))) ∙ (ap (option_map kind) (sym (find-append test inner (middle ++ outer))) ∙ ap (λ all. option_map kind (find test all)) c.self.view_is))))
