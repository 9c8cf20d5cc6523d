-- What texts ask, reference by reference.
use Rattle.std.proofs.Common.{◌≡◌, ℕ, Bool, true, false, not, ◌&&◌, ◌||◌, List, [], ◌∷◌, ◌++◌, Option, Some, None, Contains, arith, bytes_eq, cond, refl, sym, ap, ◌∙◌, subst}
use denote.Ref.{Bor}
use Rattle.std.specs.List.{list_any}
use Rattle.std.specs.Option.{option_map_or}
use Rattle.std.proofs.lemmas.List.{append-nil, map-append}
use Rattle.std.proofs.lemmas.List.Elements.{All-append, All-cons, All-head, All-nil, All-tail, Contains-append_left, Contains-append_right}
use Rattle.std.proofs.lemmas.List.Folds.{list_any-append, list_any_at}
use Rattle.tk_types.specs.declared.value.ParamType.{ParamType}
use Rattle.tk_types.specs.declared.value.ParamType.TheVariants.{Str as string, Arr as array, Obj as object}
use Rattle.tk_types.specs.declared.value.Value.{Value}
use Rattle.tk_vars.specs.declared.piece.Piece.{Piece}
use Rattle.tk_vars.specs.declared.piece.Piece.TheVariants.{Plain, Ref}
use Rattle.tk_vars.specs.declared.reference.Reference.{Reference}
use Rattle.tk_vars.specs.Reading.{Reads, HasReading, ends_with_star, is_piece, pieces_of}
use Rattle.tk_vars.specs.Target.{target_of}
use Rattle.tk_vars.proofs.OneReading.{reading_is_pieces_of}
use Rattle.tk_vars.proofs.TextFacts.{and_second, same_text}
use Rattle.tk_bind.specs.declared.env.Env.{Env}
use Rattle.tk_bind.specs.Substitute.{reference_value}
use Rattle.tk_resolve.specs.declared.due.Due.{Due}
use Rattle.tk_resolve.specs.declared.due.Due.TheVariants.{OneText, Element, AnyValue}
use Rattle.tk_resolve.specs.Asks.{Adds, AsksTheSame, IsAlone, IsAsked, HoldsStricter, ReadsDue}
use Rattle.tk_types.specs.Behaviour.{type_of}
use Rattle.tk_resolve.specs.Due.{DueText, is_as_strict, is_due, seen}
use Rattle.tk_resolve.specs.Misuse.{any_lacks, any_use, is_judged, lacks, passes}

or_true : (b : Bool) → (b || true) ≡ true
or_true true = refl
or_true false = refl

or_false : (b : Bool) → (b || false) ≡ b
or_false true = refl
or_false false = refl

or_assoc : (a b c : Bool) → ((a || b) || c) ≡ (a || (b || c))
or_assoc true b c = refl
or_assoc false b c = refl

-- a reference of the table is read as itself
pub alone_of : (r : Reference) → is_piece (Ref r) ≡ true → IsAlone r
alone_of r allowed = record {
  joined = append-nil r.spelling;
  allowed = ap (λ b. b && true) allowed;
  apart = refl;
  alone = or_true (not (ends_with_star r.parts || false));
}

alone_pieces : (r : Reference) → IsAlone r → pieces_of r.spelling ≡ Ref r ∷ []
alone_pieces r alone = sym (reading_is_pieces_of r.spelling (Ref r ∷ []) alone)

alone_reads : (r : Reference) → IsAlone r → HasReading r.spelling
alone_reads r alone = subst (Reads r.spelling) (reading_is_pieces_of r.spelling (Ref r ∷ []) alone) alone

-- what is asked of it alone
alone_asked : (test : Reference → Bool) (r : Reference) → IsAlone r → list_any (passes test) (pieces_of r.spelling) ≡ list_any (passes test) (Ref r ∷ [])
alone_asked test r alone = ap (list_any (passes test)) (alone_pieces r alone)

-- some reference of a text more
any_more : (test : Due → Reference → Bool) (texts : List DueText) (due : Due) (text : List ℕ) → any_use test (texts ++ (due, text) ∷ []) ≡ (any_use test texts || list_any (passes (test due)) (pieces_of text))
any_more test texts due text =
    list_any-append (λ (t : DueText). list_any (passes (test t.0)) (pieces_of t.1)) texts ((due, text) ∷ [])
    ∙ ap (λ b. any_use test texts || b) (or_false (list_any (passes (test due)) (pieces_of text)))

reads_more : (texts : List DueText) (due : Due) (text : List ℕ) → ReadsDue texts → HasReading text → ReadsDue (texts ++ (due, text) ∷ [])
reads_more texts due text reads one =
    let P : DueText → Type 0 = λ t. HasReading t.1 in
    All-append P texts ((due, text) ∷ []) reads (All-cons P (due, text) [] one (All-nil P))

-- a reference that is asked
pub adds_asked : (due : Due) (r : Reference) (before after : List DueText) → IsAlone r → after ≡ before ++ (due, r.spelling) ∷ [] → Adds due (Ref r ∷ []) before after
adds_asked due r before after alone is = record {
  reads = λ reads. subst ReadsDue (sym is) (reads_more before due r.spelling reads (alone_reads r alone));
  asked = λ test stricter.
      ap (any_use test) is ∙ (any_more test before due r.spelling ∙ ap (λ b. any_use test before || b) (alone_asked (test due) r alone));
}

-- one that was asked where something as strict was due
any_contained : (test : Due → Reference → Bool) (texts : List DueText) (due : Due) (r : Reference) → IsAlone r → Contains texts (due, r.spelling) → test due r ≡ true → any_use test texts ≡ true
any_contained test texts due r alone there passed =
    let p : DueText → Bool = λ t. list_any (passes (test t.0)) (pieces_of t.1) in
    list_any_at p texts there.0 (due, r.spelling) there.1
    (ap p there.2 ∙ (alone_asked (test due) r alone ∙ ap (λ b. b || false) passed))

or_already : (any one : Bool) → (one ≡ true → any ≡ true) → any ≡ (any || (one || false))
or_already true one already = refl
or_already false true already = already refl
or_already false false already = refl

pub adds_again : (due : Due) (r : Reference) (before : List DueText) → IsAlone r → IsAsked before due r.spelling → Adds due (Ref r ∷ []) before before
adds_again due r before alone asked = record {
  reads = λ reads. reads;
  asked = λ test stricter.
      or_already (any_use test before) (test due r)
      (λ passed. any_contained test before asked.0 r alone asked.1 (stricter asked.0 due r asked.2 passed));
}

-- pieces of which no reference asks anything
pub adds_nothing : (due : Due) (pieces : List Piece) (before : List DueText) → ((test : Reference → Bool) → list_any (passes test) pieces ≡ false) → Adds due pieces before before
adds_nothing due pieces before none = record {
  reads = λ reads. reads;
  asked = λ test stricter. sym (ap (λ b. any_use test before || b) (none (test due)) ∙ or_false (any_use test before));
}

pub adds_plain : (due : Due) (text : List ℕ) (before : List DueText) → Adds due (Plain text ∷ []) before before
adds_plain due text before = adds_nothing due (Plain text ∷ []) before (λ test. refl)

-- more pieces
pub adds_more : (due : Due) (first second all : List Piece) (before between after : List DueText) → all ≡ first ++ second → Adds due first before between → Adds due second between after → Adds due all before after
adds_more due first second all before between after is one two = record {
  reads = λ reads. two.reads (one.reads reads);
  asked = λ test stricter.
      two.asked test stricter
      ∙ (ap (λ b. b || list_any (passes (test due)) second) (one.asked test stricter)
      ∙ (or_assoc (any_use test before) (list_any (passes (test due)) first) (list_any (passes (test due)) second)
      ∙ ap (λ b. any_use test before || b) (sym (list_any-append (passes (test due)) first second) ∙ ap (list_any (passes (test due))) (sym is))));
}

-- of no text, of a text more, and of the same texts
pub same_none : (all fewer : List DueText) → all ≡ [] → fewer ≡ [] → AsksTheSame all fewer
same_none all fewer none none_fewer = record {
  reads = λ reads. subst ReadsDue (sym none_fewer) (All-nil (λ (t : DueText). HasReading t.1));
  same = λ reads test stricter. ap (any_use test) (none_fewer ∙ sym none);
}

pub same_itself : (all fewer : List DueText) → fewer ≡ all → AsksTheSame all fewer
same_itself all fewer is = record {
  reads = λ reads. subst ReadsDue (sym is) reads;
  same = λ reads test stricter. ap (any_use test) is;
}

front_reads : (xs ys : List DueText) → ReadsDue (xs ++ ys) → ReadsDue xs
front_reads [] ys reads = All-nil (λ (t : DueText). HasReading t.1)
front_reads (x ∷ xs) ys reads =
    let P : DueText → Type 0 = λ t. HasReading t.1 in
    All-cons P x xs (All-head P x (xs ++ ys) reads) (front_reads xs ys (All-tail P x (xs ++ ys) reads))

last_reads : (xs : List DueText) (t : DueText) → ReadsDue (xs ++ t ∷ []) → HasReading t.1
last_reads [] t reads = All-head (λ (t : DueText). HasReading t.1) t [] reads
last_reads (x ∷ xs) t reads = last_reads xs t (All-tail (λ (t : DueText). HasReading t.1) x (xs ++ t ∷ []) reads)

pub same_more : (due : Due) (text : List ℕ) (texts all before after : List DueText) → all ≡ texts ++ (due, text) ∷ [] → AsksTheSame texts before → (HasReading text → Adds due (pieces_of text) before after) → AsksTheSame all after
same_more due text texts all before after is same adds =
    let split : ReadsDue all → ReadsDue (texts ++ (due, text) ∷ []) = subst ReadsDue is in
    record {
      reads = λ reads. (adds (last_reads texts (due, text) (split reads))).reads (same.reads (front_reads texts ((due, text) ∷ []) (split reads)));
      same = λ reads test stricter.
          (adds (last_reads texts (due, text) (split reads))).asked test stricter
          ∙ (ap (λ b. b || list_any (passes (test due)) (pieces_of text)) (same.same (front_reads texts ((due, text) ∷ []) (split reads)) test stricter)
          ∙ (sym (any_more test texts due text) ∙ ap (any_use test) (sym is)));
    }

-- What is lacking.

no_true : {A : Type 0} → false ≡ true → A
no_true e = cc

-- what isn't due where something is due isn't where something as strict is
pub undue : (due other : Due) (kind : ParamType) (judged : Bool) → is_as_strict due other ≡ true → (judged && not (is_due other kind)) ≡ true → (judged && not (is_due due kind)) ≡ true
undue due other string judged strict lacking = lacking
undue OneText OneText array judged strict lacking = lacking
undue OneText Element array judged strict lacking = no_true (and_second judged false lacking)
undue OneText AnyValue array judged strict lacking = no_true (and_second judged false lacking)
undue Element OneText array judged strict lacking = no_true strict
undue Element Element array judged strict lacking = lacking
undue Element AnyValue array judged strict lacking = lacking
undue AnyValue OneText array judged strict lacking = no_true strict
undue AnyValue Element array judged strict lacking = no_true strict
undue AnyValue AnyValue array judged strict lacking = lacking
undue OneText OneText object judged strict lacking = lacking
undue OneText Element object judged strict lacking = lacking
undue OneText AnyValue object judged strict lacking = no_true (and_second judged false lacking)
undue Element OneText object judged strict lacking = no_true strict
undue Element Element object judged strict lacking = lacking
undue Element AnyValue object judged strict lacking = no_true (and_second judged false lacking)
undue AnyValue OneText object judged strict lacking = no_true strict
undue AnyValue Element object judged strict lacking = no_true strict
undue AnyValue AnyValue object judged strict lacking = lacking

undue_found : (due other : Due) (found : Option Value) (judged : Bool) → is_as_strict due other ≡ true
    → (judged && not (option_map_or (λ value. is_due other (type_of value)) found false)) ≡ true → (judged && not (option_map_or (λ value. is_due due (type_of value)) found false)) ≡ true
undue_found due other None judged strict lacking = lacking
undue_found due other (Some value) judged strict lacking = undue due other (type_of value) judged strict lacking

pub lacks_stricter : (env : Env) (spared : List (List ℕ)) → HoldsStricter (lacks env spared)
lacks_stricter env spared due other r strict lacking = undue_found due other (reference_value env r) (is_judged spared (target_of r.parts)) strict lacking

pub same_lacks : (all fewer : List DueText) → AsksTheSame all fewer → ReadsDue all → (env : Env) (spared : List (List ℕ)) → any_lacks env spared fewer ≡ any_lacks env spared all
same_lacks all fewer same reads env spared = same.same reads (lacks env spared) (lacks_stricter env spared)

-- What is known of spellings.

-- an entry more is asked, and the others stay
pub known_more : (before after : List DueText) (due known : Due) (spelling name : List ℕ) (is_same : Bool) (found : Option Due) → after ≡ before ++ (due, spelling) ∷ [] → bytes_eq spelling name ≡ is_same
    → (found ≡ Some known → Contains before (known, name)) → cond is_same (Some due) found ≡ Some known → Contains after (known, name)
known_more before after due known spelling name true found is same others here =
    let one : due ≡ known = cc in
    subst (λ xs. Contains xs (known, name)) (sym is)
    (subst (λ n. Contains (before ++ (due, spelling) ∷ []) (known, n)) (same_text spelling name same)
    (subst (λ d. Contains (before ++ (due, spelling) ∷ []) (d, spelling)) one
    (Contains-append_right before ((due, spelling) ∷ []) (due, spelling) (0, omega arith, refl))))
known_more before after due known spelling name false found is same others here =
    subst (λ xs. Contains xs (known, name)) (sym is) (Contains-append_left before ((due, spelling) ∷ []) (known, name) (others here))

pub seen_more : (texts more : List (Due × Bor (List ℕ))) (t : Due × Bor (List ℕ)) → more ≡ texts ++ t ∷ [] → seen more ≡ seen texts ++ (t.0, t.1.now) ∷ []
seen_more texts more t is = ap seen is ∙ map-append (λ (t : Due × Bor (List ℕ)). (t.0, t.1.now)) texts (t ∷ [])

pub known_still : (before after : List DueText) (due : Due) (spelling : List ℕ) (known : Due) (name : List ℕ) → after ≡ before ++ (due, spelling) ∷ [] → Contains before (known, name) → Contains after (known, name)
known_still before after due spelling known name is there = subst (λ xs. Contains xs (known, name)) (sym is) (Contains-append_left before ((due, spelling) ∷ []) (known, name) there)
