-- Labels that are judged in the order of ranks stay right.
use Rattle.std.proofs.Common.{◌≡◌, ℕ, ◌+◌, ◌<◌, ◌≤◌, ◌≢◌, List, length, map, refl, sym, ap, ◌∙◌, zero-add, arith, inl, inr, set, get_or, subst}
use Rattle.std.specs.Prelude.{All, Contains, slice_index}
use Rattle.std.specs.List.{range_with_len}
use Rattle.std.proofs.lemmas.Bool.{cases_eq}
use Rattle.std.proofs.lemmas.Grind.{get_or-set_at}
use Rattle.std.proofs.lemmas.List.{get_or-set_other, get_or_default, length-set}
use Rattle.std.proofs.lemmas.List.FromFn.{length-map-range_with_len, get_or-map-range_with_len}
use Rattle.std.proofs.lemmas.List.Sorted.{All-permutation, Contains-permutation}
use Rattle.tk_types.specs.declared.task.PipelineTask.{PipelineTask}
use Rattle.tk_types.specs.declared.run.Facts.{Facts}
use Rattle.tk_types.specs.declared.verdict.Verdict.{Verdict}
use Rattle.tk_types.specs.declared.verdict.Verdict.TheVariants.{Waits}
use Rattle.tk_graph.specs.Parents.{parents, IsRanking}
use Rattle.tk_verdict.specs.declared.sequence.Ranked.{Ranked}
use Rattle.tk_verdict.specs.Labels.{verdict_line}
use Rattle.tk_verdict.specs.Sequence.{ranked, ranked_at, IsSequence}
use Rattle.tk_verdict.specs.Verdict.{label_at}
use Rattle.tk_verdict.proofs.Locality.{task_line_agrees}

-- a place with its own rank
abbrev IsTrueRank : List ℕ → Ranked → Type 0
IsTrueRank ranks r = (r.rank ≡ slice_index ranks r.place) × (r.place < length ranks)

all_true : (ranks : List ℕ) (sequence : List Ranked) → IsSequence ranks sequence → All (IsTrueRank ranks) sequence
all_true ranks sequence is =
    All-permutation (IsTrueRank ranks) (ranked ranks) sequence is.permutation
    (λ k d lt.
    let within : k < length ranks = rw (← length-map-range_with_len (ranked_at ranks) 0 (length ranks)) lt in
    let here : get_or (ranked ranks) k d ≡ ranked_at ranks k = get_or-map-range_with_len (ranked_at ranks) 0 (length ranks) k k d within (zero-add k) in
    subst (IsTrueRank ranks) (sym here) (refl, within))

-- each place comes in the sequence
pub comes : (ranks : List ℕ) (sequence : List Ranked) → IsSequence ranks sequence → (place : ℕ) → place < length ranks → Contains sequence (ranked_at ranks place)
comes ranks sequence is place lt =
    Contains-permutation (ranked ranks) sequence (ranked_at ranks place) is.permutation
    (place, rw (length-map-range_with_len (ranked_at ranks) 0 (length ranks)) lt, get_or-map-range_with_len (ranked_at ranks) 0 (length ranks) place place (ranked_at ranks place) lt (zero-add place))

-- the labels of the first so many of the sequence are right
pub record Walked (facts : Facts) (sequence : List Ranked) (labels : List Verdict) (n : ℕ) : Type 0 where
  pub count : length labels ≡ length facts.spec.tasks
  pub right : (k : ℕ) (d : Ranked) → k < n → label_at labels (get_or sequence k d).place ≡ verdict_line facts labels (get_or sequence k d).place

-- a new label at a place changes no line of a place of its rank or a lower one
line_stays : (facts : Facts) (ranks : List ℕ) → IsRanking facts.spec.tasks ranks → (labels : List Verdict) (place other : ℕ) (label : Verdict)
    → other < length facts.spec.tasks → slice_index ranks other ≤ slice_index ranks place → verdict_line facts (set labels place label) other ≡ verdict_line facts labels other
line_stays facts ranks ranking labels place other label within low =
    task_line_agrees facts (set labels place label) labels other within
    (λ p c.
    let below : slice_index ranks p < slice_index ranks other = ranking.rising p other c in
    get_or-set_other labels place p label Waits (λ e. let same : slice_index ranks p ≡ slice_index ranks place = ap (slice_index ranks) e in absurd (omega arith)))

-- so a place that is right, or gets the label that it should have, is right afterwards
right_after : (facts : Facts) (ranks : List ℕ) → IsRanking facts.spec.tasks ranks → (labels : List Verdict) (place other : ℕ) (label : Verdict)
    → place < length labels → other < length facts.spec.tasks → slice_index ranks other ≤ slice_index ranks place → label ≡ verdict_line facts labels place
    → (other ≢ place → label_at labels other ≡ verdict_line facts labels other)
    → label_at (set labels place label) other ≡ verdict_line facts (set labels place label) other
right_after facts ranks ranking labels place other label lt within low is was =
    elim (cases_eq other place) [
      | inl e ↦ get_or-set_at labels place other label Waits e lt ∙ (is ∙ (ap (verdict_line facts labels) (sym e) ∙ sym (line_stays facts ranks ranking labels place other label within low)))
      | inr ne ↦ get_or-set_other labels place other label Waits ne ∙ (was ne ∙ sym (line_stays facts ranks ranking labels place other label within low))
    ]

-- the place of the n-th of the sequence is a task
pub place_within : (facts : Facts) (ranks : List ℕ) (sequence : List Ranked) (n : ℕ) (d : Ranked)
    → IsRanking facts.spec.tasks ranks → IsSequence ranks sequence → n < length sequence → (get_or sequence n d).place < length facts.spec.tasks
place_within facts ranks sequence n d ranking is lt =
    let here : IsTrueRank ranks (get_or sequence n d) = all_true ranks sequence is n d lt in
    omega (arith, ranking.count, here.1)

-- the step of the walk
pub Walked-more : (facts : Facts) (ranks : List ℕ) (sequence : List Ranked) (labels : List Verdict) (n : ℕ) (d : Ranked) (label : Verdict)
    → IsRanking facts.spec.tasks ranks → IsSequence ranks sequence → Walked facts sequence labels n → n < length sequence
    → label ≡ verdict_line facts labels (get_or sequence n d).place → Walked facts sequence (set labels (get_or sequence n d).place label) (n + 1)
Walked-more facts ranks sequence labels n d label ranking is was lt label_is =
    let r = get_or sequence n d in
    let here : IsTrueRank ranks r = all_true ranks sequence is n d lt in
    let within : r.place < length labels = omega (arith, ranking.count, was.count, here.1) in
    record {
      count = length-set labels r.place label ∙ was.count;
      right = λ k e below.
          let at_k : IsTrueRank ranks (get_or sequence k e) = all_true ranks sequence is k e (omega arith) in
          let same : r ≡ get_or sequence n e = get_or_default sequence n d e lt in
          let rises : (get_or sequence k e).rank ≤ (get_or sequence n e).rank = is.sorted k n e (omega arith) lt in
          let low : slice_index ranks (get_or sequence k e).place ≤ slice_index ranks r.place = omega (arith, rises, ap (λ (q : Ranked). q.rank) same, at_k.0, here.0) in
          right_after facts ranks ranking labels r.place (get_or sequence k e).place label within (omega (arith, ranking.count, at_k.1)) low label_is
          (λ other. elim (cases_eq k n) [
            | inl is_n ↦ absurd (other (ap (λ (j : ℕ). (get_or sequence j e).place) is_n ∙ ap (λ (q : Ranked). q.place) (sym same)))
            | inr ne ↦ was.right k e (omega arith)
          ]);
    }

-- at the end of the walk all are
pub Walked-all : (facts : Facts) (ranks : List ℕ) (sequence : List Ranked) (labels : List Verdict)
    → IsRanking facts.spec.tasks ranks → IsSequence ranks sequence → Walked facts sequence labels (length sequence)
    → (place : ℕ) → place < length facts.spec.tasks → label_at labels place ≡ verdict_line facts labels place
Walked-all facts ranks sequence labels ranking is walked place lt =
    let found = comes ranks sequence is place (omega (arith, ranking.count)) in
    subst (λ (q : ℕ). label_at labels q ≡ verdict_line facts labels q) (ap (λ (r : Ranked). r.place) found.2) (walked.right found.0 (ranked_at ranks place) found.1)

-- no label of the sequence is judged at the start
pub Walked-none : (facts : Facts) (sequence : List Ranked) (labels : List Verdict) → length labels ≡ length facts.spec.tasks → Walked facts sequence labels 0
Walked-none facts sequence labels long = record { count = long; right = λ k d none. absurd (omega arith) }

-- the parents at a place, as a list of them all has them
pub parents_at : (tasks : List PipelineTask) (lists : List (List ℕ)) (place : ℕ) (d : List ℕ)
    → lists ≡ map (parents tasks) (range_with_len 0 (length tasks)) → place < length tasks → get_or lists place d ≡ parents tasks place
parents_at tasks lists place d is lt =
    ap (λ (ls : List (List ℕ)). get_or ls place d) is ∙ get_or-map-range_with_len (parents tasks) 0 (length tasks) place place d lt (zero-add place)

pub parents_count : (tasks : List PipelineTask) (lists : List (List ℕ)) → lists ≡ map (parents tasks) (range_with_len 0 (length tasks)) → length lists ≡ length tasks
parents_count tasks lists is = ap length is ∙ length-map-range_with_len (parents tasks) 0 (length tasks)
