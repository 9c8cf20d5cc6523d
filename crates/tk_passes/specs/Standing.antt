-- Actors with their passes, and what stands of them behind turns.
use Rattle.std.specs.Prelude.{◌≡◌, ◌⊎◌, ℕ, ◌<◌, All, true, false, eqb, List, ◌++◌, map, length, get_or, Option, Some, None}
use Rattle.std.specs.List.{list_any}
use Rattle.tk_turn.specs.Claims.{TableId, Note, PassValue}
use Rattle.tk_passes.specs.declared.actor.Member.{Member}
use Rattle.tk_passes.specs.Notes.{Wrote}

-- a pass of the lock that owns this number alone
pub record IsPassFor (lock : TableId) (n : ℕ) (p : PassValue) : Type 0 where
  pub lock_is : p.lock ≡ lock
  pub alone : p.claim.first ≡ false
  pub owner : p.claim.owner ≡ n

-- it holds at each place of two lists
abbrev pub Each : {X : Type 0} → (X → X → Type 0) → List X → List X → Type 0
Each {X} P xs ys = (length ys ≡ length xs) × ((i : ℕ) (d : X) → i < length xs → P (get_or xs i d) (get_or ys i d))

abbrev pub numbers : {A : Type 0} → (A → ℕ) → List (Member A) → List ℕ
numbers {A} number ms = map (λ (m : Member A). number m.actor) ms

-- what stands of an actor over a journal, since it was another one over another journal
pub record Stands {A : Type 0} (number : A → ℕ) (such : ℕ → Note → Type 0) (ready : List Note → A → Type 0) (follows : A → A → List Note → Type 0) (was : A) (before : List Note) (now : A) (after : List Note) : Type 0 where
  pub same : number now ≡ number was
  pub is_ready : ready after now
  pub wrote : Wrote (number was) (such (number was)) before after
  pub stays : (start : A) → follows start was before → follows start now after

module _ {A : Type 0} (number : A → ℕ) (sound : List Note → Type 0) (ready : List Note → A → Type 0) where
  -- an actor with a pass of its number, that is ready over what the pass has seen
  abbrev pub SeatedBy : TableId → A → Option PassValue → Type 0
  SeatedBy lock a None = ⊥
  SeatedBy lock a (Some p) = IsPassFor lock (number a) p × sound p.claim.seen × ready p.claim.seen a

  abbrev pub IsSeated : TableId → Member A → Type 0
  IsSeated lock m = SeatedBy lock m.actor m.pass

module _ {A : Type 0} (number : A → ℕ) (sound : List Note → Type 0) (such : ℕ → Note → Type 0) (ready : List Note → A → Type 0) (follows : A → A → List Note → Type 0) where
  -- an actor and its pass behind its turns
  abbrev pub TurnedBy : TableId → A → Option PassValue → A → Option PassValue → Type 0
  TurnedBy lock a (Some p) b (Some q) = IsPassFor lock (number a) q × sound q.claim.seen × Stands number such ready follows a p.claim.seen b q.claim.seen
  TurnedBy lock a _ b _ = ⊥

  abbrev pub Turned : TableId → Member A → Member A → Type 0
  Turned lock was now = TurnedBy lock was.actor was.pass now.actor now.pass

-- a member has its pass, which has seen this, and nothing else of it changed but that it lacked nothing yet
abbrev pub HandedBy : TableId → ℕ → List Note → Option PassValue → Type 0
HandedBy lock n seen None = ⊥
HandedBy lock n seen (Some p) = IsPassFor lock n p × (p.claim.seen ≡ seen)

abbrev pub IsHanded : {A : Type 0} → (A → ℕ) → TableId → List Note → Member A → Member A → Type 0
IsHanded {A} number lock seen was now = (now.actor ≡ was.actor) × HandedBy lock (number was.actor) seen now.pass

module _ {A : Type 0} (number : A → ℕ) (such : ℕ → Note → Type 0) (ready : List Note → A → Type 0) (follows : A → A → List Note → Type 0) where
  -- a member whose pass was taken back stands over this journal
  abbrev pub BackBy : List Note → A → Option PassValue → A → Type 0
  BackBy seen a None b = ⊥
  BackBy seen a (Some p) b = Stands number such ready follows a p.claim.seen b seen

  abbrev pub IsBack : List Note → Member A → Member A → Type 0
  IsBack seen was now = BackBy seen was.actor was.pass now.actor

-- the number is one of these
abbrev pub IsAmong : List ℕ → ℕ → Type 0
IsAmong ns x = list_any (eqb x) ns ≡ true

abbrev pub IsNoneOf : List ℕ → ℕ → Type 0
IsNoneOf ns x = list_any (eqb x) ns ≡ false

-- what stands of a member behind a round
abbrev pub StandsBehind : {A : Type 0} → (A → ℕ) → (ℕ → Note → Type 0) → (List Note → A → Type 0) → (A → A → List Note → Type 0) → List Note → List Note → Member A → Member A → Type 0
StandsBehind {A} number such ready follows before after was now = Stands number such ready follows was.actor before now.actor after

-- such an entry of one of these numbers
abbrev pub OfNumbers : (ℕ → Note → Type 0) → List ℕ → Note → Type 0
OfNumbers such ns e = IsAmong ns e.owner × such e.owner e

-- the journal goes on by such entries of these numbers, or of those
pub record Grows (such_left such_right : ℕ → Note → Type 0) (left right : List ℕ) (before after : List Note) : Type 0 where
  pub new : List Note
  pub grown : after ≡ before ++ new
  pub each : All (λ e. OfNumbers such_left left e ⊎ OfNumbers such_right right e) new
