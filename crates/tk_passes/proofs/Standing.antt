-- What stands of actors, turn after turn.
use Rattle.std.proofs.Common.{◌≡◌, ℕ, ◌<◌, length, get_or, Bool, true, false, eqb, eq-eqb, cond, List, [], ◌∷◌, ◌++◌, append-nil, append_assoc, refl, sym, ap, ◌∙◌, subst}
use Rattle.std.specs.Prelude.{All}
use Rattle.std.proofs.lemmas.List.Elements.{All-nil, All-cons, All-head, All-tail}
use Rattle.tk_turn.specs.Claims.{Note, Claim, owns_by, AllOwn, NoneOwn, Follows, written_by}
use Rattle.tk_turn.proofs.Seats.{written_append}
use Rattle.tk_passes.specs.Notes.{Adds, AllOf, NoneOf, Wrote}
use Rattle.tk_passes.specs.Standing.{Each, Stands}

-- a pass of one number owns just that

pub own_new : (c : Claim) (n : ℕ) → c.first ≡ false → c.owner ≡ n → (new : List Note) → AllOf n new → AllOwn c new
own_new c n plain owner [] a = tt
own_new c n plain owner (e ∷ es) a =
    (subst (λ (g : Bool). owns_by g c.lent c.owner e.owner ≡ true) (sym plain) (eq-eqb e.owner c.owner (a.0 ∙ sym owner)), own_new c n plain owner es a.1)

pub none_new : (c : Claim) (n : ℕ) → c.first ≡ false → c.owner ≡ n → (rest : List Note) → NoneOwn c rest → NoneOf n rest
none_new c n plain owner [] h = tt
none_new c n plain owner (e ∷ es) h =
    (sym (ap (λ (g : Bool). owns_by g c.lent c.owner e.owner) plain ∙ ap (eqb e.owner) owner) ∙ h.0, none_new c n plain owner es h.1)

-- of a number that no entry has there are none, and of one that all have there are all

pub none_written : (n : ℕ) (rest : List Note) → NoneOf n rest → written_by n rest ≡ []
none_written n [] h = refl
none_written n (e ∷ es) h = ap (λ (b : Bool). cond b (e ∷ written_by n es) (written_by n es)) h.0 ∙ none_written n es h.1

pub all_written : (n : ℕ) (new : List Note) → AllOf n new → written_by n new ≡ new
all_written n [] a = refl
all_written n (e ∷ es) a = ap (λ (b : Bool). cond b (e ∷ written_by n es) (written_by n es)) (eq-eqb e.owner n a.0) ∙ ap (λ (l : List Note). e ∷ l) (all_written n es a.1)

all_append : (P : Note → Type 0) (xs ys : List Note) → All P xs → All P ys → All P (xs ++ ys)
all_append P [] ys p q = q
all_append P (x ∷ xs) ys p q = All-cons P x (xs ++ ys) (All-head P x xs p) (all_append P xs ys (All-tail P x xs p) q)

-- what one number wrote, on and on

pub wrote_none : (n : ℕ) (Such : Note → Type 0) (s : List Note) → Wrote n Such s s
wrote_none n Such s = record { rest = []; grown = sym (append-nil s); such = All-nil Such }

pub wrote_on : (n : ℕ) (Such : Note → Type 0) (s t u : List Note) → Wrote n Such s t → Wrote n Such t u → Wrote n Such s u
wrote_on n Such s t u w v = record {
  rest = w.rest ++ v.rest;
  grown = v.grown ∙ (ap (λ (l : List Note). l ++ v.rest) w.grown ∙ append_assoc s w.rest v.rest);
  such = subst (All Such) (sym (written_append n w.rest v.rest)) (all_append Such (written_by n w.rest) (written_by n v.rest) w.such v.such);
}

pub wrote_others : (n : ℕ) (Such : Note → Type 0) (s rest t : List Note) → t ≡ s ++ rest → NoneOf n rest → Wrote n Such s t
wrote_others n Such s rest t is none = record { rest = rest; grown = is; such = subst (All Such) (sym (none_written n rest none)) (All-nil Such) }

pub wrote_own : (n : ℕ) (Such : Note → Type 0) (s t : List Note) → Adds n Such s t → Wrote n Such s t
wrote_own n Such s t a = record { rest = a.new; grown = a.grown; such = subst (All Such) (sym (all_written n a.new a.own)) a.such }

module _ {A : Type 0} (number : A → ℕ) (such : ℕ → Note → Type 0) (ready : List Note → A → Type 0) (follows : A → A → List Note → Type 0) where
  pub stands_same : (a : A) (s : List Note) → ready s a → Stands number such ready follows a s a s
  stands_same a s is = record { same = refl; is_ready = is; wrote = wrote_none (number a) (such (number a)) s; stays = λ start f. f }

  pub stands_on : (a b c : A) (s t u : List Note) → Stands number such ready follows a s b t → Stands number such ready follows b t c u → Stands number such ready follows a s c u
  stands_on a b c s t u p q = record {
    same = q.same ∙ p.same;
    is_ready = q.is_ready;
    wrote = wrote_on (number a) (such (number a)) s t u p.wrote (subst (λ (n : ℕ). Wrote n (such n) t u) p.same q.wrote);
    stays = λ start f. q.stays start (p.stays start f);
  }

  module _ (sound : List Note → Type 0)
      (keep : (m : A) (journal rest : List Note) → sound (journal ++ rest) → NoneOf (number m) rest → ready journal m → ready (journal ++ rest) m)
      (follow : (start m : A) (journal rest : List Note) → sound (journal ++ rest) → NoneOf (number m) rest → ready journal m → follows start m journal → follows start m (journal ++ rest)) where
    -- others wrote
    pub stands_beside : (a : A) (s rest t : List Note) → t ≡ s ++ rest → sound t → NoneOf (number a) rest → ready s a → Stands number such ready follows a s a t
    stands_beside a s rest t is here none was =
        let there : sound (s ++ rest) = subst sound is here in
        record {
          same = refl;
          is_ready = subst (λ (j : List Note). ready j a) (sym is) (keep a s rest there none was);
          wrote = wrote_others (number a) (such (number a)) s rest t is none;
          stays = λ start f. subst (follows start a) (sym is) (follow start a s rest there none was f);
        }

    -- the list of a pass that the actor doesn't write goes on
    pub stands_behind : (a : A) (c : Claim) (t : List Note) → c.first ≡ false → c.owner ≡ number a → Follows c t → sound t → ready c.seen a → Stands number such ready follows a c.seen a t
    stands_behind a c t plain owner f here was = stands_beside a c.seen f.0 t f.1 here (none_new c (number a) plain owner f.0 f.2) was

  -- an actor that was asked, behind entries of others
  module _ (sound : List Note → Type 0) (asked : List Note → A → Type 0) (follows_asked : A → A → List Note → Type 0)
      (keep : (m : A) (journal rest : List Note) → sound (journal ++ rest) → NoneOf (number m) rest → asked journal m → asked (journal ++ rest) m)
      (follow : (start m : A) (journal rest : List Note) → sound (journal ++ rest) → NoneOf (number m) rest → asked journal m → follows_asked start m journal → follows_asked start m (journal ++ rest)) where
    pub asked_behind : (b : A) (c : Claim) (j : List Note) → c.first ≡ false → c.owner ≡ number b → Follows c j → sound j → asked c.seen b → asked j b
    asked_behind b c j plain owner f here was =
        subst (λ (l : List Note). asked l b) (sym f.1) (keep b c.seen f.0 (subst sound f.1 here) (none_new c (number b) plain owner f.0 f.2) was)

    follows_behind : (start b : A) (c : Claim) (j : List Note) → c.first ≡ false → c.owner ≡ number b → Follows c j → sound j → asked c.seen b → follows_asked start b c.seen → follows_asked start b j
    follows_behind start b c j plain owner f here was is =
        subst (follows_asked start b) (sym f.1) (follow start b c.seen f.0 (subst sound f.1 here) (none_new c (number b) plain owner f.0 f.2) was is)

    -- a turn: the actor is asked, others write, and then it does
    pub stands_turn : (a b d : A) (c : Claim) (j k seen : List Note) → c.first ≡ false → c.owner ≡ number a → number b ≡ number a → ((journal : List Note) → ready journal a → asked journal b)
        → ((start : A) (journal : List Note) → follows start a journal → follows_asked start b journal) → Follows c j → sound j → ready c.seen a → ready k d → number d ≡ number b → Adds (number b) (such (number b)) j k
        → ((start : A) → follows_asked start b j → follows start d k) → seen ≡ k → Stands number such ready follows a c.seen d seen
    stands_turn a b d c j k seen plain owner asks ask ask_follows f here was is same adds stays left =
        let number_b : c.owner ≡ number b = owner ∙ sym asks in
        let ready_b = ask c.seen was in
        let wrote : Wrote (number b) (such (number b)) c.seen k =
        wrote_on (number b) (such (number b)) c.seen j k (wrote_others (number b) (such (number b)) c.seen f.0 j f.1 (none_new c (number b) plain number_b f.0 f.2)) (wrote_own (number b) (such (number b)) j k adds) in
        subst (λ (l : List Note). Stands number such ready follows a c.seen d l) (sym left)
        (record {
          same = same ∙ asks;
          is_ready = is;
          wrote = subst (λ (n : ℕ). Wrote n (such n) c.seen k) asks wrote;
          stays = λ start was_following. stays start (follows_behind start b c j plain number_b f here ready_b (ask_follows start c.seen was_following));
        })

-- place by place
pub each_of : {X : Type 0} (P : X → X → Type 0) (xs ys : List X) → length ys ≡ length xs → ((i : ℕ) (d : X) → i < length xs → (x : X) × (y : X) × (x ≡ get_or xs i d) × (y ≡ get_or ys i d) × P x y) → Each P xs ys
each_of P xs ys same at = (
  same,
  λ i d h.
      let k = at i d h in
      subst (λ x. P x (get_or ys i d)) k.2 (subst (λ y. P k.0 y) k.3 k.4),
)
