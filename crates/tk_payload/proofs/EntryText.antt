-- The text of an entry is read back, and is UTF-8.
use Rattle.std.proofs.Common.{◌≡◌, ℕ, Bool, false, List, [], ◌∷◌, ◌++◌, Option, Some, None, Result, Ok, Err, IsUtf8, refl, sym, ap, ◌∙◌, subst, append_assoc, append-nil}
use Rattle.std.proofs.lemmas.Str.{IsUtf8-nil, IsUtf8-append}
use Rattle.json.specs.Token.{Token}
use Rattle.json.specs.Json.{Json, null, boolean, number, string, array, object, Items, no_items, item, Members, no_members, member}
use Rattle.json.specs.Lex.{tokens}
use Rattle.json.specs.Print.{print, print_from, token_text, ends, ArePrintable}
use Rattle.json.specs.Tree.{json_tokens, items_tokens, members_tokens}
use Rattle.json.proofs.Printed.Tokens.{tokens-print}
use Rattle.json.proofs.Printed.Utf8.{IsUtf8-quoted, IsUtf8-key, IsUtf8-boolean, IsUtf8-separator, IsUtf8-are_ascii}
use Rattle.tk_journal.specs.declared.entry.Entry.{Entry}
use Rattle.tk_payload.specs.Fits.{IsEntry}
use Rattle.tk_payload.specs.Forms.{entry_json, entry_text}
use Rattle.tk_payload.specs.Reading.{entry_at}
use Rattle.tk_payload.specs.Sound.{IsSound, AreSound, HasSound}
use Rattle.tk_payload.specs.declared.refusal.Refusal.{Refusal}
use Rattle.tk_payload.specs.declared.refusal.Refusal.TheVariants.{Memory, Unlike}
use Rattle.tk_payload.specs.Only.{IsOnly}
use Rattle.tk_payload.specs.Steps.{Gives, value_here}
use Rattle.tk_payload.specs.Writing.{appended, items_appended, members_appended}
use Rattle.tk_payload.proofs.Again.{before, items_before, members_before, here}
use Rattle.tk_payload.proofs.EntryAgain.{entry_again}

-- ---- the tokens of a value

mutual
  -- with the rest behind them
  before_is : (j : Json) (rest : List Token) → before j rest ≡ json_tokens j ++ rest
  before_is null rest = refl
  before_is (boolean b) rest = refl
  before_is (number s) rest = refl
  before_is (string s) rest = refl
  before_is (array js) rest = ap (λ (l : List Token). Token.begin_array ∷ l) (items_before_is js rest)
  before_is (object ms) rest = ap (λ (l : List Token). Token.begin_object ∷ l) (members_before_is ms rest)

  items_before_is : (js : Items) (rest : List Token) → items_before js rest ≡ items_tokens js ++ rest
  items_before_is no_items rest = refl
  items_before_is (item j js) rest =
      before_is j (items_before js rest) ∙ ap (λ (l : List Token). json_tokens j ++ l) (items_before_is js rest) ∙ sym (append_assoc (json_tokens j) (items_tokens js) rest)

  members_before_is : (ms : Members) (rest : List Token) → members_before ms rest ≡ members_tokens ms ++ rest
  members_before_is no_members rest = refl
  members_before_is (member k j ms) rest =
      ap (λ (l : List Token). Token.key k ∷ l)
      (before_is j (members_before ms rest) ∙ ap (λ (l : List Token). json_tokens j ++ l) (members_before_is ms rest) ∙ sym (append_assoc (json_tokens j) (members_tokens ms) rest))

mutual
  -- behind others
  pub appended_is : (ts : List Token) (j : Json) → appended ts j ≡ ts ++ json_tokens j
  appended_is ts null = refl
  appended_is ts (boolean b) = refl
  appended_is ts (number s) = refl
  appended_is ts (string s) = refl
  appended_is ts (array js) = items_appended_is (ts ++ Token.begin_array ∷ []) js ∙ append_assoc ts (Token.begin_array ∷ []) (items_tokens js)
  appended_is ts (object ms) = members_appended_is (ts ++ Token.begin_object ∷ []) ms ∙ append_assoc ts (Token.begin_object ∷ []) (members_tokens ms)

  items_appended_is : (ts : List Token) (js : Items) → items_appended ts js ≡ ts ++ items_tokens js
  items_appended_is ts no_items = refl
  items_appended_is ts (item j js) =
      items_appended_is (appended ts j) js ∙ ap (λ (l : List Token). l ++ items_tokens js) (appended_is ts j) ∙ append_assoc ts (json_tokens j) (items_tokens js)

  members_appended_is : (ts : List Token) (ms : Members) → members_appended ts ms ≡ ts ++ members_tokens ms
  members_appended_is ts no_members = refl
  members_appended_is ts (member k j ms) =
      let keyed = ts ++ Token.key k ∷ [] in
      members_appended_is (appended keyed j) ms ∙ ap (λ (l : List Token). l ++ members_tokens ms) (appended_is keyed j) ∙ append_assoc keyed (json_tokens j) (members_tokens ms)
      ∙ append_assoc ts (Token.key k ∷ []) (json_tokens j ++ members_tokens ms)

-- ---- they can be written

mutual
  unfolding ArePrintable

  printable : (j : Json) (rest : List Token) → IsSound j → ArePrintable rest → ArePrintable (before j rest)
  printable null rest h p = (tt, p)
  printable (boolean b) rest h p = (tt, p)
  printable (number s) rest h p = (h.0, p)
  printable (string s) rest h p = (tt, p)
  printable (array js) rest h p = (tt, items_printable js rest h p)
  printable (object ms) rest h p = (tt, members_printable ms rest h p)

  items_printable : (js : Items) (rest : List Token) → AreSound js → ArePrintable rest → ArePrintable (items_before js rest)
  items_printable no_items rest h p = (tt, p)
  items_printable (item j js) rest h p = printable j (items_before js rest) h.0 (items_printable js rest h.1 p)

  members_printable : (ms : Members) (rest : List Token) → HasSound ms → ArePrintable rest → ArePrintable (members_before ms rest)
  members_printable no_members rest h p = (tt, p)
  members_printable (member k j ms) rest h p = (tt, printable j (members_before ms rest) h.1 (members_printable ms rest h.2 p))

-- ---- their text is UTF-8

abbrev IsText : List Token → Type 0
IsText ts = (c : Bool) → IsUtf8 (print_from c ts)

first : (t : Token) (rest : List Token) → IsUtf8 (token_text t) → IsText rest → IsText (t ∷ rest)
unfolding print_from
first t rest u more c = IsUtf8-append _ _ (IsUtf8-separator c t) (IsUtf8-append _ _ u (more (ends t)))

mutual
  texts : (j : Json) (rest : List Token) → IsSound j → IsText rest → IsText (before j rest)
  texts null rest h p = first Token.null rest (IsUtf8-are_ascii _ refl) p
  texts (boolean b) rest h p = first (Token.boolean b) rest (IsUtf8-boolean b) p
  texts (number s) rest h p = first (Token.number s) rest h.1 p
  texts (string s) rest h p = first (Token.string s) rest (IsUtf8-quoted s h) p
  texts (array js) rest h p = first Token.begin_array _ (IsUtf8-are_ascii _ refl) (items_texts js rest h p)
  texts (object ms) rest h p = first Token.begin_object _ (IsUtf8-are_ascii _ refl) (members_texts ms rest h p)

  items_texts : (js : Items) (rest : List Token) → AreSound js → IsText rest → IsText (items_before js rest)
  items_texts no_items rest h p = first Token.end_array rest (IsUtf8-are_ascii _ refl) p
  items_texts (item j js) rest h p = texts j (items_before js rest) h.0 (items_texts js rest h.1 p)

  members_texts : (ms : Members) (rest : List Token) → HasSound ms → IsText rest → IsText (members_before ms rest)
  members_texts no_members rest h p = first Token.end_object rest (IsUtf8-are_ascii _ refl) p
  members_texts (member k j ms) rest h p = first (Token.key k) _ (IsUtf8-key k h.0) (texts j (members_before ms rest) h.1 (members_texts ms rest h.2 p))

nothing : IsText []
unfolding print_from
nothing c = IsUtf8-nil

alone : (j : Json) → before j [] ≡ json_tokens j
alone j = before_is j [] ∙ append-nil (json_tokens j)

no_token : ArePrintable []
unfolding ArePrintable
no_token = tt

-- ---- an entry

pub entry_utf8 : (e : Entry) → IsEntry e → IsUtf8 (entry_text e)
unfolding entry_text
entry_utf8 e h = subst (λ (ts : List Token). IsUtf8 (print ts)) (alone (entry_json e)) (texts (entry_json e) [] h.sound nothing false)

entry_tokens : (e : Entry) → IsEntry e → tokens (entry_text e) ≡ before (entry_json e) []
unfolding entry_text
entry_tokens e h =
    let same = alone (entry_json e) in
    tokens-print (json_tokens (entry_json e)) (subst ArePrintable same (printable (entry_json e) [] h.sound no_token)) ∙ sym same

pub entry_found : (e : Entry) → IsEntry e → value_here entry_at (tokens (entry_text e)) ≡ Some (e, [])
entry_found e h = ap (value_here entry_at) (entry_tokens e h) ∙ here entry_again (entry_json e) [] ∙ entry_again.again e [] h.fits

abbrev found : {X : Type 0} → X → X × List Token
found x = (x, [])

first_is : {X : Type 0} (x y : X) (rest : List Token) → Some (x, rest) ≡ Some (found y) → x ≡ y
first_is {X} x y rest e =
    let front : X × List Token = (x, rest) in
    let same : front ≡ found y = cc in
    ap (λ (p : X × List Token). p.0) same

none_some : {X : Type 0} (x : X) → (let none : Option X = None in none) ≡ Some x → ⊥
none_some x e = cc

only_one : {X : Type 0} (x y : X) → Some (found x) ≡ Some (found y) → x ≡ y
only_one {X} x y e =
    let same : found x ≡ found y = cc in
    ap (λ (p : X × List Token). p.0) same

-- no text is that of two entries
pub one_entry : (a b : Entry) → IsEntry a → IsEntry b → entry_text a ≡ entry_text b → a ≡ b
one_entry a b h k e = only_one a b (sym (entry_found a h) ∙ ap (λ (text : List ℕ). value_here entry_at (tokens text)) e ∙ entry_found b k)

-- what a text of an entry gives
pub read_only : (r : Result Entry Refusal) (rest : List Token) (text : List ℕ) (e : Entry) → Gives r rest (value_here entry_at (tokens text)) → IsEntry e → text ≡ entry_text e → IsOnly r e
read_only (Ok x) rest text e given h same =
    let both : Some (x, rest) ≡ Some (found e) = sym given ∙ ap (λ (t : List ℕ). value_here entry_at (tokens t)) same ∙ entry_found e h in
    first_is x e rest both
read_only (Err Memory) rest text e given h same = tt
read_only (Err Unlike) rest text e given h same = absurd (none_some _ (sym given ∙ ap (λ (t : List ℕ). value_here entry_at (tokens t)) same ∙ entry_found e h))

-- what the writer holds is the text
pub text_is : (front : List ℕ) (ts : List Token) (j : Json) (bytes : List ℕ) → front ≡ [] → ts ≡ appended [] j → bytes ≡ front ++ print ts → bytes ≡ print (json_tokens j)
text_is front ts j bytes e f h = h ∙ (λ i. e i ++ print (f i)) ∙ ap print (appended_is [] j)
