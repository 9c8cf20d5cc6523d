-- The steps of a disk in memory.
use Rattle.std.proofs.Common.{◌≡◌, ◌⊎◌, inl, inr, ℕ, ◌+◌, ◌≤◌, List, [], ◌∷◌, ◌++◌, length, take, drop, refl, sym, ◌∙◌, ap, subst, arith, append_assoc, length-append}
use Rattle.std.proofs.lemmas.Bool.{cases_eq}
use Rattle.std.proofs.lemmas.List.{take_at, drop_at, take-append-le, length-take-le, length-drop}
use Rattle.tk_disk.specs.Disk.{Torn, Tears, Elapses, over}
use Rattle.tk_disk.specs.Memory.{stepped, after, Leaves, LeftBefore, LeftSince}
use Rattle.tk_disk.specs.declared.memory.Step.{Step}
use Rattle.tk_disk.specs.declared.memory.Step.TheVariants.{Torn as TornAt, Settled}
use Rattle.std.specs.declared.alloc.Global.{Global}
use Rattle.std.proofs.Common.{Vec}

pub push : (images : List ℕ → Type 0) (steps : List Step) (step : Step) (file : List ℕ) → stepped (after images steps) step file → after images (steps ++ step ∷ []) file
push images [] step file left = left
push images (s ∷ steps) step file left = push (stepped images s) steps step file left

pub pop : (images : List ℕ → Type 0) (steps : List Step) (step : Step) (file : List ℕ) → after images (steps ++ step ∷ []) file → stepped (after images steps) step file
pop images [] step file left = left
pop images (s ∷ steps) step file left = pop (stepped images s) steps step file left

pub elapses_same : (start : List ℕ) (steps : List Step) → Elapses (length steps) (length steps) (LeftSince start steps) (LeftSince start steps) (Leaves start steps)
elapses_same start steps = record { later = omega arith; nothing_else = λ t c le left. inl left; keeps = λ t c le left. left }

pub elapses_push : (start : List ℕ) (steps : List Step) (step : Step) → Elapses (length steps) (length (steps ++ step ∷ [])) (LeftSince start steps) (LeftSince start (steps ++ step ∷ [])) (Leaves start (steps ++ step ∷ []))
elapses_push start steps step = record { later = omega (arith, size); nothing_else = λ t c le since. which t c since; keeps = λ t c le past. inr (had t c le past) }
  where
    size : length (steps ++ step ∷ []) ≡ length steps + 1
    size = length-append steps (step ∷ [])

    earlier : (t : ℕ) (c : List ℕ) (b : LeftBefore start (steps ++ step ∷ []) t c) → LeftSince start steps t c
    earlier t c b = elim (cases_eq b.moment (length steps)) [
      | inl last ↦ inl (subst (λ (l : List Step). Leaves start l c) (ap (λ (n : ℕ). take n (steps ++ step ∷ [])) last ∙ take_at steps (step ∷ []) (length steps) refl) b.left)
      | inr other ↦ inr (record {
        moment = b.moment;
        since = b.since;
        earlier = omega (arith, other, b.earlier, size);
        left = subst (λ (l : List Step). Leaves start l c) (take-append-le b.moment steps (step ∷ []) (omega (arith, b.earlier, size))) b.left;
      })
    ]

    which : (t : ℕ) (c : List ℕ) → LeftSince start (steps ++ step ∷ []) t c → LeftSince start steps t c ⊎ Leaves start (steps ++ step ∷ []) c
    which t c (inl now) = inr now
    which t c (inr before) = inl (earlier t c before)

    had : (t : ℕ) (c : List ℕ) → t ≤ length steps → LeftSince start steps t c → LeftBefore start (steps ++ step ∷ []) t c
    had t c le (inl now) = record { moment = length steps; since = le; earlier = omega (arith, size); left = subst (λ (l : List Step). Leaves start l c) (sym (take_at steps (step ∷ []) (length steps) refl)) now }
    had t c le (inr before) = record { moment = before.moment; since = before.since; earlier = omega (arith, before.earlier, size); left = subst (λ (l : List Step). Leaves start l c) (sym (take-append-le before.moment steps (step ∷ []) (omega (arith, before.earlier)))) before.left }

-- a write tears what was there, also where it was done whole or not at all
pub torn_over : (old bytes : List ℕ) (at : ℕ) → at ≤ length old → Torn at (length bytes) old (over old at bytes)
torn_over old bytes at le =
    let size : length (take at old) ≡ at = length-take-le at old le in
    let long : length (over old at bytes) ≡ at + (length bytes + length (drop (at + length bytes) old)) = omega (arith, size, length-append (take at old) (bytes ++ drop (at + length bytes) old), length-append bytes (drop (at + length bytes) old)) in
    record {
      before = take_at (take at old) (bytes ++ drop (at + length bytes) old) at size;
      behind = ap (λ (l : List ℕ). drop (at + length bytes) l) (sym (append_assoc (take at old) bytes (drop (at + length bytes) old)))
          ∙ drop_at (take at old ++ bytes) (drop (at + length bytes) old) (at + length bytes) (omega (arith, size, length-append (take at old) bytes));
      no_shorter = omega (arith, long, le, length-drop (at + length bytes) old);
      no_longer = omega (arith, long, le, length-drop (at + length bytes) old);
    }

pub torn_same : (old : List ℕ) (at n : ℕ) → Torn at n old old
torn_same old at n = record { before = refl; behind = refl; no_shorter = omega arith; no_longer = omega arith }

module _ (start : List ℕ) (steps new : List Step) where
  -- a write
  module _ (at len : ℕ) (is : new ≡ steps ++ TornAt at len ∷ []) where
    pub wrote_image : (bytes file : List ℕ) → Leaves start steps bytes → Torn at len bytes file → Leaves start new file
    wrote_image bytes file left torn = subst (λ (l : List Step). Leaves start l file) (sym is) (push (λ c. c ≡ start) steps (TornAt at len) file (bytes, left, torn))

    pub wrote_torn : Tears at len (Leaves start steps) (Leaves start new)
    wrote_torn c left = pop (λ f. f ≡ start) steps (TornAt at len) c (subst (λ (l : List Step). Leaves start l c) is left)

    pub wrote_time : Elapses (length steps) (length new) (LeftSince start steps) (LeftSince start new) (Leaves start new)
    wrote_time = subst (λ (l : List Step). Elapses (length steps) (length l) (LeftSince start steps) (LeftSince start l) (Leaves start l)) (sym is) (elapses_push start steps (TornAt at len))

  -- a sync
  module _ (v : Vec ℕ Global) (is : new ≡ steps ++ Settled v ∷ []) where
    pub settled_image : (bytes : List ℕ) → v.items ≡ bytes → Leaves start new bytes
    settled_image bytes same = subst (λ (l : List Step). Leaves start l bytes) (sym is) (push (λ c. c ≡ start) steps (Settled v) bytes (sym same))

    pub settled_only : (bytes : List ℕ) → v.items ≡ bytes → (c : List ℕ) → Leaves start new c → c ≡ bytes
    settled_only bytes same c left = pop (λ f. f ≡ start) steps (Settled v) c (subst (λ (l : List Step). Leaves start l c) is left) ∙ same

    pub settled_no_more : (bytes : List ℕ) → v.items ≡ bytes → Leaves start steps bytes → (c : List ℕ) → Leaves start new c → Leaves start steps c
    settled_no_more bytes same had c left = subst (Leaves start steps) (sym (settled_only bytes same c left)) had

    pub settled_time : Elapses (length steps) (length new) (LeftSince start steps) (LeftSince start new) (Leaves start new)
    settled_time = subst (λ (l : List Step). Elapses (length steps) (length l) (LeftSince start steps) (LeftSince start l) (Leaves start l)) (sym is) (elapses_push start steps (Settled v))
