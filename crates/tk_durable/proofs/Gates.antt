-- What a crash leaves of the writes at and behind a gate.
use Rattle.std.proofs.Common.{◌≡◌, inl, inr, ℕ, ◌+◌, ◌≤◌, List, [], ◌∷◌, ◌++◌, length, get_or, take, drop, sym, ◌∙◌, ap, subst, arith, append_assoc, length-append, take-append-drop}
use Rattle.std.proofs.lemmas.List.{take_at, drop_at, drop_more, take_more, length-take-le}
use Rattle.tk_disk.specs.Disk.{Torn, Tears, Only, over}
use Rattle.tk_durable.specs.Gates.{HasBehind, IsAddedOrNot, IsAdded}

module _ (gate : ℕ) (old bytes : List ℕ) (long : gate + 1 ≤ length old) where
  abbrev front : List ℕ
  front = take gate old

  abbrev pub staged : List ℕ
  staged = over old (gate + 1) bytes

  abbrev rest : List ℕ
  rest = drop (gate + 1 + length bytes) old

  abbrev closed : ℕ
  closed = get_or old gate 0

  size : length front ≡ gate
  size = length-take-le gate old (omega (arith, long))

  -- the staged file by its parts
  pub parts : staged ≡ front ++ (closed ∷ (bytes ++ rest))
  parts = ap (λ (l : List ℕ). l ++ (bytes ++ rest)) (take_more old gate 0 (omega (arith, long))) ∙ append_assoc front (closed ∷ []) (bytes ++ rest)

  parts_gate : staged ≡ (front ++ (closed ∷ [])) ++ (bytes ++ rest)
  parts_gate = ap (λ (l : List ℕ). l ++ (bytes ++ rest)) (take_more old gate 0 (omega (arith, long)))

  size_gate : length (front ++ closed ∷ []) ≡ gate + 1
  size_gate = omega (arith, size, length-append front (closed ∷ []))

  pub staged_long : gate + 1 ≤ length staged
  staged_long = omega (arith, size_gate, ap length parts_gate, length-append (front ++ closed ∷ []) (bytes ++ rest))

  staged_front : take gate staged ≡ front
  staged_front = ap (λ (l : List ℕ). take gate l) parts ∙ take_at front ((closed ∷ (bytes ++ rest))) gate size

  staged_back : drop (gate + 1) staged ≡ bytes ++ rest
  staged_back = ap (λ (l : List ℕ). drop (gate + 1) l) parts_gate ∙ drop_at (front ++ closed ∷ []) (bytes ++ rest) (gate + 1) size_gate

  pub torn_gate : (c : List ℕ) → Torn gate 1 staged c → HasBehind gate old bytes c
  torn_gate c torn =
      let value = get_or c gate 0 in
      let back : drop gate c ≡ value ∷ (bytes ++ rest) = drop_more c gate 0 (omega (arith, torn.no_shorter, staged_long)) ∙ ap (λ (l : List ℕ). value ∷ l) (torn.behind ∙ staged_back) in
      record {
        value = value;
        rest = rest;
        is = sym (take-append-drop gate c) ∙ ap (λ (l : List ℕ). l ++ drop gate c) (torn.before ∙ staged_front) ∙ ap (λ (l : List ℕ). front ++ l) back;
      }

  pub opened : IsAdded gate old bytes (over staged gate (1 ∷ []))
  opened = record {
    rest = rest;
    is = ap (λ (l : List ℕ). l ++ ((1 ∷ []) ++ drop (gate + 1) staged)) staged_front ∙ ap (λ (l : List ℕ). front ++ ((1 ∷ []) ++ l)) staged_back;
  }

  pub first_crash : (before after : List ℕ → Type 0) → Only old before → Tears (gate + 1) (length bytes) before after → (c : List ℕ) → after c → IsAddedOrNot gate old bytes c
  first_crash before after only tears c left =
      let from = tears c left in
      inl (from.2.before ∙ ap (λ (l : List ℕ). take (gate + 1) l) (only from.0 from.1))

  pub second_crash : (before after : List ℕ → Type 0) → Only staged before → Tears gate 1 before after → (c : List ℕ) → after c → IsAddedOrNot gate old bytes c
  second_crash before after only tears c left =
      let from = tears c left in
      inr (torn_gate c (subst (λ (f : List ℕ). Torn gate 1 f c) (only from.0 from.1) from.2))
