-- What a pass has seen of the journal, and which owners' entries it alone writes.
use Rattle.std.specs.Prelude.{◌≡◌, ℕ, Bool, true, false, not, cond, eqb, List, [], ◌∷◌, ◌++◌, length, ltb, refl}
use Rattle.std.specs.List.{list_any}
use Rattle.std.specs.Coded.{code_by, coded_bool}
use base.Stored.{Gv, Coded, coded×, coded_ℕ, coded_list}
pub use Rattle.atomic_table.specs.Seated.{TableId}
use Rattle.atomic_table.specs.Seated.{table_id_coded, itself}

-- an entry of a journal: its owner, and what it says, as the code of a value
pub record Note : Type 0 where
  pub owner : ℕ
  pub body : Gv

-- notes, as plain data
abbrev pub note_coded : Coded Note
note_coded = code_by (ℕ × Gv) (coded× coded_ℕ itself) (λ e. (e.owner, e.body)) (λ p. record { owner = p.0; body = p.1 }) (λ _. refl)

-- what a pass has seen and owns: the first pass owns every number that it hasn't lent, any other owns one number
pub record Claim : Type 0 where
  pub first : Bool
  pub seen : List Note
  pub owner : ℕ
  pub lent : List ℕ

-- claims, as plain data
abbrev pub claim_coded : Coded Claim
claim_coded =
    code_by (Bool × (List Note × (ℕ × List ℕ))) (coded× coded_bool (coded× (coded_list note_coded) (coded× coded_ℕ (coded_list coded_ℕ))))
    (λ c. (c.first, (c.seen, (c.owner, c.lent)))) (λ p. record { first = p.0; seen = p.1.0; owner = p.1.1.0; lent = p.1.1.1 }) (λ _. refl)

-- whether a pass owns the number x, by whether it is the first one, what it has lent, and its own number
abbrev pub owns_by : Bool → List ℕ → ℕ → ℕ → Bool
owns_by true lent owner x = not (list_any (eqb x) lent)
owns_by false lent owner x = eqb x owner

-- whether the pass owns the number x, and so alone writes entries of the owner x
abbrev pub owns : Claim → ℕ → Bool
owns c x = owns_by c.first c.lent c.owner x

-- the pass owns every number
abbrev pub OwnsAll : Claim → Type 0
OwnsAll c = (x : ℕ) → owns c x ≡ true

-- no number stands twice in the list
abbrev pub Distinct : List ℕ → Type 0
Distinct [] = Unit {0}
Distinct (x ∷ xs) = (list_any (eqb x) xs ≡ false) × Distinct xs

-- the first pass, which has lent nothing
abbrev pub whole : List Note → Claim
whole seen = record { first = true; seen = seen; owner = 0; lent = [] }

-- a pass of one number
abbrev pub alone : List Note → ℕ → Claim
alone seen owner = record { first = false; seen = seen; owner = owner; lent = [] }

-- the pass once it has lent a number
abbrev pub lends : Claim → ℕ → Claim
lends c owner = record { first = c.first; seen = c.seen; owner = c.owner; lent = owner ∷ c.lent }

-- the pass once it has seen this list
abbrev pub saw : Claim → List Note → Claim
saw c seen = record { first = c.first; seen = seen; owner = c.owner; lent = c.lent }

-- the list without x
abbrev pub without : ℕ → List ℕ → List ℕ
without x [] = []
without x (y ∷ ys) = cond (eqb x y) (without x ys) (y ∷ without x ys)

-- the longer of two lists, the first one where they are as long
abbrev pub longer : List Note → List Note → List Note
longer xs ys = cond (ltb (length xs) (length ys)) ys xs

-- the first pass once it has taken another in
abbrev pub joined : Claim → Claim → Claim
joined c d = record { first = c.first; seen = longer c.seen d.seen; owner = c.owner; lent = without d.owner c.lent }

-- every entry is of an owner that the pass owns
abbrev pub AllOwn : Claim → List Note → Type 0
AllOwn c [] = Unit {0}
AllOwn c (e ∷ es) = (owns c e.owner ≡ true) × AllOwn c es

-- no entry is of an owner that the pass owns
abbrev pub NoneOwn : Claim → List Note → Type 0
NoneOwn c [] = Unit {0}
NoneOwn c (e ∷ es) = (owns c e.owner ≡ false) × NoneOwn c es

-- the journal begins with all that the pass has seen, and what follows is of owners that it doesn't own
abbrev pub Follows : Claim → List Note → Type 0
Follows c journal = (rest : List Note) × (journal ≡ c.seen ++ rest) × NoneOwn c rest

-- the journal begins with all that the pass has seen, and what follows is of owners that it owns
abbrev pub Continues : Claim → List Note → Type 0
Continues c journal = (new : List Note) × (journal ≡ c.seen ++ new) × AllOwn c new

-- the journal begins with this list
abbrev pub Begins : List Note → List Note → Type 0
Begins seen journal = (rest : List Note) × (journal ≡ seen ++ rest)

-- the entries of one owner, in their order
abbrev pub written_by : ℕ → List Note → List Note
written_by n [] = []
written_by n (e ∷ es) = cond (eqb e.owner n) (e ∷ written_by n es) (written_by n es)

-- a pass: of which lock it is, what it has seen, and what it owns
pub record PassValue : Type 0 where
  pub lock : TableId
  pub claim : Claim

-- passes, as plain data
abbrev pub pass_coded : Coded PassValue
pass_coded = code_by (TableId × Claim) (coded× table_id_coded claim_coded) (λ p. (p.lock, p.claim)) (λ p. record { lock = p.0; claim = p.1 }) (λ _. refl)

-- a held state: its value now, the lock, and the pass, which has seen the journal as it was taken
pub record HeldValue (S : Type 0) : Type 0 where
  pub state : S
  pub lock : TableId
  pub claim : Claim

-- held states, as plain data
abbrev pub held_coded : {S : Type 0} → Coded S → Coded (HeldValue S)
held_coded {S} c =
    code_by (S × (TableId × Claim)) (coded× c (coded× table_id_coded claim_coded)) (λ h. (h.state, (h.lock, h.claim)))
    (λ p. record { state = p.0; lock = p.1.0; claim = p.1.1 }) (λ _. refl)
