-- Where the children of each task stand, once one of them ended, and once a task got some.
use Rattle.std.proofs.Common.{◌≡◌, ◌≢◌, ℕ, zero, suc, ◌+◌, ◌-◌, ◌≤◌, Bool, true, false, cond, List, [], ◌∷◌, ◌++◌, length, map, take, drop, Option, refl, sym, ap, ◌∙◌, subst, inl, inr, arith, nat_eq, length-append}
use Rattle.std.specs.List.{range_with_len}
use Rattle.std.proofs.lemmas.Bool.{cases_eq}
use Rattle.std.proofs.lemmas.List.{length-map}
use Rattle.std.proofs.lemmas.List.Elements.{filter-append}
use Rattle.std.proofs.lemmas.List.FromFn.{length-map-range_with_len}
use Rattle.tk_types.specs.declared.run.Child.{Child}
use Rattle.tk_types.specs.declared.run.Outcome.{Outcome}
use Rattle.tk_verdict.specs.Facts.{children_at}
use Rattle.tk_labels.specs.Change.{child_at, children_with, once_ended}
use Rattle.tk_labels.specs.declared.spans.Span.{Span}
use Rattle.tk_labels.specs.Spans.{AreSpanned, HasSpan, IsSpan, span_at}
use Rattle.tk_labels.proofs.Changes.{ended_task, nat_differ, nat_same}
use Rattle.tk_labels.proofs.KeptAfter.{others_given}

-- parts of lists

take_front : {X : Type 0} (n : ℕ) (xs ys : List X) → n ≤ length xs → take n (xs ++ ys) ≡ take n xs
take_front zero xs ys le = refl
take_front (suc n) [] ys le = absurd (omega arith)
take_front (suc n) (x ∷ xs) ys le = ap (λ l. x ∷ l) (take_front n xs ys (omega arith))

part_front : {X : Type 0} (from n : ℕ) (xs ys : List X) → from + n ≤ length xs → take n (drop from (xs ++ ys)) ≡ take n (drop from xs)
part_front zero n xs ys le = take_front n xs ys (omega arith)
part_front (suc from) n [] ys le = absurd (omega arith)
part_front (suc from) n (x ∷ xs) ys le = part_front from n xs ys (omega arith)

behind : {X : Type 0} (xs ys : List X) → drop (length xs) (xs ++ ys) ≡ ys
behind [] ys = refl
behind (x ∷ xs) ys = behind xs ys

take_whole : {X : Type 0} (n : ℕ) (xs : List X) → n ≡ length xs → take n xs ≡ xs
take_whole zero [] is = refl
take_whole zero (x ∷ xs) is = absurd (omega arith)
take_whole (suc n) [] is = absurd (omega arith)
take_whole (suc n) (x ∷ xs) is = ap (λ l. x ∷ l) (take_whole n xs (omega arith))

take_map : {X Y : Type 0} (f : X → Y) (n : ℕ) (xs : List X) → take n (map f xs) ≡ map f (take n xs)
take_map f zero xs = refl
take_map f (suc n) [] = refl
take_map f (suc n) (x ∷ xs) = ap (λ l. f x ∷ l) (take_map f n xs)

part_map : {X Y : Type 0} (f : X → Y) (from n : ℕ) (xs : List X) → take n (drop from (map f xs)) ≡ map f (take n (drop from xs))
part_map f zero n xs = take_map f n xs
part_map f (suc from) zero [] = refl
part_map f (suc from) (suc n) [] = refl
part_map f (suc from) n (x ∷ xs) = part_map f from n xs

-- the children of a task, once one ended

ended_at : (t k : ℕ) (o : Outcome) (q : ℕ) (cs : List Child) → children_at (map (once_ended t k o) cs) q ≡ map (once_ended t k o) (children_at cs q)
ended_at t k o q [] = refl
ended_at t k o q (c ∷ cs) =
    ap (λ (n : ℕ). cond (nat_eq n q) (once_ended t k o c ∷ children_at (map (once_ended t k o) cs) q) (children_at (map (once_ended t k o) cs) q)) (ended_task t k o c)
    ∙ at_head (nat_eq c.task q) (ended_at t k o q cs)
  where
    at_head : (b : Bool) → children_at (map (once_ended t k o) cs) q ≡ map (once_ended t k o) (children_at cs q)
        → cond b (once_ended t k o c ∷ children_at (map (once_ended t k o) cs) q) (children_at (map (once_ended t k o) cs) q) ≡ map (once_ended t k o) (cond b (c ∷ children_at cs q) (children_at cs q))
    at_head true rest = ap (λ (l : List Child). once_ended t k o c ∷ l) rest
    at_head false rest = rest

pub ended_spanned : (t k : ℕ) (o : Outcome) (cs : List Child) (spans : List Span) → AreSpanned cs spans → AreSpanned (map (once_ended t k o) cs) spans
ended_spanned t k o cs spans spanned q =
    let span : Span = span_at spans q in
    let was : IsSpan cs q span = spanned q in
    record {
      order = was.order;
      within = let long = length-map cs (once_ended t k o) in let w = was.within in omega (arith, long, w);
      is = part_map (once_ended t k o) span.from (span.to - span.from) cs ∙ (ap (map (once_ended t k o)) was.is ∙ sym (ended_at t k o q cs));
    }

-- and once a task got some

all_new : (t : ℕ) (os : List (Option Outcome)) (a m : ℕ) → children_at (map (child_at t os) (range_with_len a m)) t ≡ map (child_at t os) (range_with_len a m)
all_new t os a zero = refl
all_new t os a (suc m) = rw (nat_same t t refl) (ap (λ (l : List Child). child_at t os a ∷ l) (all_new t os (a + 1) m))

module _ (cs : List Child) (t : ℕ) (os : List (Option Outcome)) (from to : ℕ) (olds news : List Span) (first : from ≡ length cs) (end : to ≡ from + length os)
    (spanned : AreSpanned cs olds) (none : children_at cs t ≡ []) (has : HasSpan t (record { from = from; to = to }) olds news) where
  abbrev pub ds : List Child
  ds = children_with t os

  many : length ds ≡ length os
  many = length-map-range_with_len (child_at t os) 0 (length os)

  here : IsSpan (cs ++ ds) t (record { from = from; to = to })
  here =
      record {
        order = omega (arith, end);
        within = omega (arith, first, end, many, length-append cs ds);
        is =
            let count : to - from ≡ length ds = omega (arith, end, many) in
            ap (λ (n : ℕ). take (to - from) (drop n (cs ++ ds))) first
            ∙ (ap (take (to - from)) (behind cs ds)
            ∙ (take_whole (to - from) ds count
            ∙ sym (filter-append (λ (c : Child). nat_eq c.task t) cs ds ∙ (ap (λ (l : List Child). l ++ children_at ds t) none ∙ all_new t os 0 (length os)))));
      }

  there : (q : ℕ) → q ≢ t → IsSpan (cs ++ ds) q (span_at olds q)
  there q other =
      let span : Span = span_at olds q in
      let was : IsSpan cs q span = spanned q in
      record {
        order = was.order;
        within = omega (arith, was.within, length-append cs ds);
        is = part_front span.from (span.to - span.from) cs ds (omega (arith, was.order, was.within)) ∙ (was.is ∙ sym (others_given t os q cs other));
      }

  pub given_spanned : AreSpanned (cs ++ ds) news
  given_spanned q =
      elim (cases_eq q t) [
        | inl same ↦
            subst (λ (s : Span). IsSpan (cs ++ ds) q s) (sym (has q ∙ rw (nat_same q t same) refl))
            (subst (λ (n : ℕ). IsSpan (cs ++ ds) n (record { from = from; to = to })) (sym same) here)
        | inr other ↦ subst (λ (s : Span). IsSpan (cs ++ ds) q s) (sym (has q ∙ rw (nat_differ q t other) refl)) (there q other)
      ]
