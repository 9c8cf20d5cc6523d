use Rattle.std.proofs.Common.{◌≡◌, false, ℕ, List, ◌-◌, ◌∷◌, [], ◌++◌, length, refl, sym, ◌∙◌, ap, subst, arith}
use Rattle.std.specs.Prelude.{◌==◌}
use Rattle.std.specs.Str.{IsUtf8}
use Rattle.std.proofs.lemmas.List.{append_cancel_right}
use Rattle.tk_vars.specs.declared.piece.Piece.{Piece}
use Rattle.tk_vars.specs.declared.piece.Piece.TheVariants.{Ref}
use Rattle.tk_vars.specs.Reading.{Reads}
use Rattle.tk_vars.specs.Steps.{IsFirstReference, stands_first, plain_pieces}
use Rattle.tk_vars.proofs.OffsetFacts.{bad_offset-some}
use Rattle.tk_vars.proofs.ScanFacts.{IsScanned, IsScannedTo, nothing_scanned, to_after, plain_before, bad_here, past_reference, at_end, text_after, text_behind, refused_text}
use Rattle.tk_vars.proofs.scanner.scan.Goals as goal

pub loop-before-init : goal.loop-before-init
loop-before-init c = (subst (λ ps. IsScannedTo c.args.text.now ps c.args.text.now c.args.text.now) (sym c.new-pieces.ensures.items) (nothing_scanned c.args.text.now), c.utf8.text, c.utf8.text)

pub loop-before-preserved-then-not-must_stand : goal.loop-before-preserved-then-not-must_stand
loop-before-preserved-then-not-must_stand c =
    let rest : List ℕ = c.loop-before.rest.now in
    let before : List ℕ = c.in-Some.before.now in
    let after : List ℕ = c.in-Some.after.now in (
      to_after c.args.text.now c.loop-before.pieces.items c.loop-before.plain.now rest before after c.loop-before.invariant.0 c.in-Some.ensures.found (sym c.must_stand.ensures ∙ c.if-not-must_stand.true),
      text_after 36 rest before after (omega arith) c.loop-before.invariant.1 c.in-Some.ensures.found.text_is,
      c.loop-before.invariant.2,
    )

pub returns-in_default-2-clause-refused : goal.returns-in_default-2-clause-refused
returns-in_default-2-clause-refused c =
    let after : List ℕ = c.in-Some.after.now in
    let offset : ℕ = length c.args.text.now - length after - 1 in
    let none : stands_first (offset == 0) (36 ∷ after) ≡ false = rw c.in_default-2.is at c.in_ok-reference.ensures in
    let to = c.loop-before.invariant.0 in
    bad_here c.args.text.now c.loop-before.pieces.items to.plain c.loop-before.rest.now c.in-Some.before.now after offset to.scanned c.in-Some.ensures.found refl (sym c.must_stand.ensures ∙ c.if-not-must_stand.false) none

pub returns-in_default-2-clause-computed : goal.returns-in_default-2-clause-computed
returns-in_default-2-clause-computed c = bad_offset-some c.args.text.now (length c.args.text.now - length c.in-Some.after.now - 1) (returns-in_default-2-clause-refused c)

pub returns-in_default-2-clause-accepted : goal.returns-in_default-2-clause-accepted
returns-in_default-2-clause-accepted c = λ reading. absurd (refused_text c.args.text.now (length c.args.text.now - length c.in-Some.after.now - 1) (returns-in_default-2-clause-refused c) reading)

pub in_front-requires : goal.in_front-requires
in_front-requires c =
    let to = c.loop-before.invariant.0 in
    let before : List ℕ = c.in-Some.before.now in
    let whole : c.loop-before.plain.now ≡ (to.plain ++ before) ++ 36 ∷ c.in-Some.after.now =
    plain_before c.args.text.now c.loop-before.pieces.items c.loop-before.plain.now c.loop-before.rest.now before c.in-Some.after.now to c.in-Some.ensures.found in
    (to.plain ++ before, whole ∙ ap (λ t. (to.plain ++ before) ++ t) (sym c.from_dollar-from.ensures))

pub loop-before-preserved : goal.loop-before-preserved
loop-before-preserved c =
    let done : List Piece = c.loop-before.pieces.items in
    let to = c.loop-before.invariant.0 in
    let rest : List ℕ = c.loop-before.rest.now in
    let before : List ℕ = c.in-Some.before.now in
    let after : List ℕ = c.in-Some.after.now in
    let reference = c.in-Some-2.reference in
    let behind : List ℕ = c.in-Some-2.behind.now in
    let offset : ℕ = length c.args.text.now - length after - 1 in
    let first : IsFirstReference (offset == 0) (36 ∷ after) reference behind = rw c.in-Some-2.is at c.in_ok-reference.ensures in
    let next : IsScanned c.args.text.now ((done ++ plain_pieces (to.plain ++ before)) ++ Ref reference ∷ []) [] behind =
    past_reference c.args.text.now done to.plain rest before after reference behind offset to.scanned c.in-Some.ensures.found refl first in
    let whole : c.loop-before.plain.now ≡ (to.plain ++ before) ++ 36 ∷ after = plain_before c.args.text.now done c.loop-before.plain.now rest before after to c.in-Some.ensures.found in
    let plain_is : c.in_front.result.now ≡ to.plain ++ before =
    append_cancel_right c.in_front.result.now (to.plain ++ before) (36 ∷ after) (ap (λ t. c.in_front.result.now ++ t) (sym c.from_dollar-from.ensures) ∙ (c.in_front.ensures ∙ whole)) in
    let utf8 : IsUtf8 behind = text_behind (offset == 0) after reference behind (text_after 36 rest before after (omega arith) c.loop-before.invariant.1 c.in-Some.ensures.found.text_is) first in
    let pieces_are : c.push.new.self.items ≡ (done ++ plain_pieces (to.plain ++ before)) ++ Ref reference ∷ [] =
    c.in_ok-push.ensures.items ∙ (ap (λ ps. ps ++ Ref reference ∷ []) c.in_ok-add_plain.ensures ∙ ap (λ p. (done ++ plain_pieces p) ++ Ref reference ∷ []) plain_is) in (
      record { plain = []; from_is = refl; scanned = subst (λ ps. IsScanned c.args.text.now ps [] behind) (sym pieces_are) next },
      utf8,
      utf8,
    )

pub returns-clause-only_reading : goal.returns-clause-only_reading
returns-clause-only_reading c =
    let to = c.loop-before.invariant.0 in
    c.from_vec.ensures
    ∙ (c.in_ok-add_plain-2.ensures
    ∙ (ap (λ p. c.loop-before.pieces.items ++ plain_pieces p) to.from_is
    ∙ (at_end c.args.text.now c.loop-before.pieces.items to.plain c.loop-before.rest.now to.scanned c.in_default.ensures.none).only))

pub returns-clause-reading : goal.returns-clause-reading
returns-clause-reading c =
    let to = c.loop-before.invariant.0 in
    subst (Reads c.args.text.now) (sym (returns-clause-only_reading c)) (at_end c.args.text.now c.loop-before.pieces.items to.plain c.loop-before.rest.now to.scanned c.in_default.ensures.none).reading

pub returns-clause-joined : goal.returns-clause-joined
returns-clause-joined c = (returns-clause-reading c).joined
