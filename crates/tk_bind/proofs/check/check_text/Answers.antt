use Rattle.std.proofs.Common.{◌≡◌, None, Some, ap, sym, ◌∙◌, option_copied}
use Rattle.std.proofs.lemmas.Result.{err_from_is_err_and}
use Rattle.tk_bind.specs.declared.refusal.CheckError.TheVariants.{WrongType}
use Rattle.tk_bind.specs.Scope.{is_visible, is_well_typed}
use Rattle.tk_bind.proofs.TextFault.{failing, failing_found, text_fault-none, text_fault-mistyped}
use Rattle.tk_bind.proofs.check.check_text.Goals as goal

pub returns-in_err-pieces-clause-refused : goal.returns-in_err-pieces-clause-refused
returns-in_err-pieces-clause-refused g c = let p = err_from_is_err_and c.from_residual.result c.from_residual.ensures.1 in rw (p.1, p.2) (c.in_err-pieces.ensures.refused (g.N.Names.scope c.args.names.now) c.args.whole)

pub returns-in-Some-2-clause-refused : goal.returns-in-Some-2-clause-refused
returns-in-Some-2-clause-refused g c =
    let text = c.args.text.now in
    let scope = g.N.Names.scope c.args.names.now in
    let seen : failing (is_visible scope) text ≡ None =
    failing_found (is_visible scope) text c.as_slice.result.now c.in_ok-pieces.pieces c.in_ok-reference.field-0 None c.as_slice.ensures c.in_ok-pieces.ensures.pieces c.in_ok-reference.ensures (ap option_copied c.in_default.is) in
    let mistyped : failing (is_well_typed scope c.args.whole) text ≡ Some c.in-Some-2.reference.now =
    failing_found (is_well_typed scope c.args.whole) text c.as_slice-2.result.now c.in_ok-pieces.pieces c.in_ok-reference-2.field-0 (Some c.in-Some-2.reference.now) c.as_slice-2.ensures c.in_ok-pieces.ensures.pieces c.in_ok-reference-2.ensures (ap option_copied c.in-Some-2.is) in
    text_fault-mistyped scope c.args.whole text c.in-Some-2.reference.now c.in_ok-pieces.ensures.good seen mistyped ∙ ap (λ spelling. Some (WrongType spelling)) (sym c.in_ok-spelled-2.ensures)

pub returns-clause-good : goal.returns-clause-good
returns-clause-good g c =
    let text = c.args.text.now in
    let scope = g.N.Names.scope c.args.names.now in
    let seen : failing (is_visible scope) text ≡ None =
    failing_found (is_visible scope) text c.as_slice.result.now c.in_ok-pieces.pieces c.in_ok-reference.field-0 None c.as_slice.ensures c.in_ok-pieces.ensures.pieces c.in_ok-reference.ensures (ap option_copied c.in_default.is) in
    let typed : failing (is_well_typed scope c.args.whole) text ≡ None =
    failing_found (is_well_typed scope c.args.whole) text c.as_slice-2.result.now c.in_ok-pieces.pieces c.in_ok-reference-2.field-0 None c.as_slice-2.ensures c.in_ok-pieces.ensures.pieces c.in_ok-reference-2.ensures (ap option_copied c.in_default-2.is) in
    text_fault-none scope c.args.whole text c.in_ok-pieces.ensures.good seen typed
