-- Where only what a change can reach is judged again, in the order of ranks, all labels of `tasks` are right.
use Rattle.std.proofs.Common.{◌≡◌, ◌≢◌, ℕ, ◌+◌, ◌<◌, ◌≤◌, Bool, true, false, List, length, set, get_or, refl, sym, ap, ◌∙◌, subst, inl, inr, arith, zero-add}
use Rattle.std.specs.Prelude.{◌⊎◌, ◌++◌, Contains, slice_get, slice_index}
use Rattle.std.specs.List.{list_any}
use Rattle.std.specs.Option.{option_map_or}
use Rattle.std.proofs.lemmas.Bool.{cases_Bool, cases_eq, cases_lt}
use Rattle.std.proofs.lemmas.Grind.{get_or-set_at}
use Rattle.std.proofs.lemmas.List.{get_or-set_other, get_or_default}
use Rattle.std.proofs.lemmas.List.FromFn.{length-map-range_with_len, get_or-map-range_with_len}
use Rattle.std.proofs.lemmas.List.Sorted.{All-permutation}
use Rattle.tk_types.specs.declared.task.PipelineTask.{PipelineTask}
use Rattle.tk_types.specs.declared.run.Facts.{Facts}
use Rattle.tk_types.specs.declared.run.RunSpec.{RunSpec}
use Rattle.tk_types.specs.declared.verdict.Verdict.{Verdict}
use Rattle.tk_types.specs.declared.verdict.Verdict.TheVariants.{Waits}
use Rattle.tk_graph.specs.Parents.{parents, IsRanking}
use Rattle.tk_verdict.specs.declared.sequence.Ranked.{Ranked}
use Rattle.tk_verdict.specs.Facts.{all_ended, children_of, is_good}
use Rattle.tk_verdict.specs.Good.{is_good_at}
use Rattle.tk_verdict.specs.Labels.{verdict_line}
use Rattle.tk_verdict.specs.Rows.{is_good_parent}
use Rattle.tk_verdict.specs.Sequence.{ranked, ranked_at, IsSequence}
use Rattle.tk_verdict.specs.Verdict.{label_at, blocks, is_skipped, is_skipped_by_when}
use Rattle.tk_verdict.proofs.Elements.{any_at}
use Rattle.tk_verdict.proofs.Locality.{parents_within}
use Rattle.tk_verdict.proofs.RightLabels.{labels_of_is_right}
use Rattle.tk_verdict.proofs.SameResults.{KnowsReadings}
use Rattle.tk_verdict.proofs.Walking.{Walked, Walked-none, Walked-more, Walked-all, comes, place_within}
use Rattle.tk_labels.specs.Local.{ShowsSame}
use Rattle.tk_labels.specs.Reached.{IsAgain, IsNext, WasKept}
use Rattle.tk_labels.proofs.Local.{line_is_local, same_shows, shown_decides}
use Rattle.tk_labels.proofs.SkippedBare.{skipped_bare}

-- the labels of the first so many of the sequence are right, and each of them without a mark shows what it showed
pub record Walks (old new : Facts) (sequence : List Ranked) (xs ys : List Verdict) (marks : List Bool) (n : ℕ) : Type 0 where
  pub walked : Walked new sequence ys n
  pub shows : (k : ℕ) (d : Ranked) → k < n → get_or marks (get_or sequence k d).place false ≡ false → ShowsSame old new xs ys (get_or sequence k d).place

pub Walks-none : (old new : Facts) (sequence : List Ranked) (xs ys : List Verdict) (marks : List Bool) → length ys ≡ length new.spec.tasks → Walks old new sequence xs ys marks 0
Walks-none old new sequence xs ys marks long = record { walked = Walked-none new sequence ys long; shows = λ k d none quiet. absurd (omega arith) }

-- what a task shows is told by its label
carried : (old new : Facts) (xs ys zs : List Verdict) (p : ℕ) → label_at zs p ≡ label_at ys p → ShowsSame old new xs ys p → ShowsSame old new xs zs p
carried old new xs ys zs p label same =
    record {
      blocks = ap blocks label ∙ same.blocks;
      good = ap (λ (v : Verdict). is_good_parent new (p, v)) label ∙ same.good;
      skipped = λ good. ap is_skipped label ∙ same.skipped good;
      results = same.results;
    }

-- one more of the sequence
pub Walks-more : (old new : Facts) (ranks : List ℕ) (sequence : List Ranked) (xs ys : List Verdict) (was marks : List Bool) (n : ℕ) (d : Ranked) (label : Verdict)
    → IsRanking new.spec.tasks ranks → IsSequence ranks sequence → Walks old new sequence xs ys was n → n < length sequence
    → label ≡ verdict_line new ys (get_or sequence n d).place
    → ((q : ℕ) → q ≢ (get_or sequence n d).place → get_or marks q false ≡ get_or was q false)
    → (get_or marks (get_or sequence n d).place false ≡ false → (zs : List Verdict) → label_at zs (get_or sequence n d).place ≡ label → ShowsSame old new xs zs (get_or sequence n d).place)
    → Walks old new sequence xs (set ys (get_or sequence n d).place label) marks (n + 1)
Walks-more old new ranks sequence xs ys was marks n d label ranking is walks lt line others shown =
    record {
      walked = Walked-more new ranks sequence ys n d label ranking is walks.walked lt line;
      shows = λ k e below quiet. at_place k e below quiet (cases_eq (get_or sequence k e).place (get_or sequence n d).place);
    }
  where
    within : (get_or sequence n d).place < length ys
    within = let small = place_within new ranks sequence n d ranking is lt in omega (arith, small, walks.walked.count)

    not_last : (k : ℕ) (e : Ranked) → k < n + 1 → (get_or sequence k e).place ≢ (get_or sequence n d).place → k < n
    not_last k e below other =
        elim (cases_eq k n) [
          | inl same ↦ absurd (other (ap (λ (j : ℕ). (get_or sequence j e).place) same ∙ ap (λ (r : Ranked). r.place) (sym (get_or_default sequence n d e lt))))
          | inr differ ↦ omega arith
        ]

    at_place : (k : ℕ) (e : Ranked) → k < n + 1 → get_or marks (get_or sequence k e).place false ≡ false
        → ((get_or sequence k e).place ≡ (get_or sequence n d).place) ⊎ ((get_or sequence k e).place ≢ (get_or sequence n d).place)
        → ShowsSame old new xs (set ys (get_or sequence n d).place label) (get_or sequence k e).place
    at_place k e below quiet (inl same) =
        subst (λ (q : ℕ). ShowsSame old new xs (set ys (get_or sequence n d).place label) q) (sym same)
        (shown (subst (λ (q : ℕ). get_or marks q false ≡ false) same quiet) (set ys (get_or sequence n d).place label)
        (get_or-set_at ys (get_or sequence n d).place (get_or sequence n d).place label Waits refl within))
    at_place k e below quiet (inr other) =
        carried old new xs ys (set ys (get_or sequence n d).place label) (get_or sequence k e).place
        (get_or-set_other ys (get_or sequence n d).place (get_or sequence k e).place label Waits other)
        (walks.shows k e (not_last k e below other) (sym (others (get_or sequence k e).place other) ∙ quiet))

-- at the end all are right
pub Walks-all : (old new : Facts) (ranks : List ℕ) (sequence : List Ranked) (xs ys : List Verdict) (marks : List Bool)
    → IsRanking new.spec.tasks ranks → IsSequence ranks sequence → Walks old new sequence xs ys marks (length sequence)
    → (place : ℕ) → place < length new.spec.tasks → label_at ys place ≡ verdict_line new ys place
Walks-all old new ranks sequence xs ys marks ranking is walks = Walked-all new ranks sequence ys ranking is walks.walked

-- the rank of the n-th of the sequence is that of its place
abbrev IsTrueRank : List ℕ → Ranked → Type 0
IsTrueRank ranks r = r.rank ≡ slice_index ranks r.place

true_rank : (ranks : List ℕ) (sequence : List Ranked) → IsSequence ranks sequence → (n : ℕ) (d : Ranked) → n < length sequence → IsTrueRank ranks (get_or sequence n d)
true_rank ranks sequence is n d lt =
    All-permutation (IsTrueRank ranks) (ranked ranks) sequence is.permutation
    (λ k e below.
    let within : k < length ranks = rw (← length-map-range_with_len (ranked_at ranks) 0 (length ranks)) below in
    let here : get_or (ranked ranks) k e ≡ ranked_at ranks k = get_or-map-range_with_len (ranked_at ranks) 0 (length ranks) k k e within (zero-add k) in
    subst (IsTrueRank ranks) (sym here) refl) n d lt

none_marked : (f : ℕ → Bool) (xs : List ℕ) (x : ℕ) → list_any f xs ≡ false → Contains xs x → f x ≡ false
none_marked f xs x none c =
    elim (cases_Bool (f x)) [
      | inl pass ↦ let any = any_at f xs x pass c in cc
      | inr fail ↦ fail
    ]

-- the parents of a task come before it, so where none has a mark, each shows what it showed
pub parents_show : (old new : Facts) (ranks : List ℕ) (sequence : List Ranked) (xs ys : List Verdict) (marks : List Bool) (n : ℕ) (d : Ranked)
    → IsRanking new.spec.tasks ranks → IsSequence ranks sequence → Walks old new sequence xs ys marks n → n < length sequence
    → list_any (λ q. get_or marks q false) (parents new.spec.tasks (get_or sequence n d).place) ≡ false
    → (q : ℕ) → Contains (parents new.spec.tasks (get_or sequence n d).place) q → ShowsSame old new xs ys q
parents_show old new ranks sequence xs ys marks n d ranking is walks lt quiet q c =
    let p = (get_or sequence n d).place in
    let lower : slice_index ranks q < slice_index ranks p = ranking.rising q p c in
    let small : q < length ranks = let w = parents_within new.spec.tasks p q c in omega (arith, w, ranking.count) in
    let found = comes ranks sequence is q small in
    let e : Ranked = ranked_at ranks q in
    let j : ℕ = found.0 in
    let there : get_or sequence j e ≡ e = found.2 in
    let before : j < n = first j e found.1 (ap (λ (r : Ranked). r.rank) there) lower (cases_lt j n) in
    let silent : get_or marks q false ≡ false = none_marked (λ r. get_or marks r false) (parents new.spec.tasks p) q quiet c in
    subst (λ (r : ℕ). ShowsSame old new xs ys r) (ap (λ (r : Ranked). r.place) there)
    (walks.shows j e before (subst (λ (r : ℕ). get_or marks r false ≡ false) (sym (ap (λ (r : Ranked). r.place) there)) silent))
  where
    first : (j : ℕ) (e : Ranked) → j < length sequence → (get_or sequence j e).rank ≡ slice_index ranks q → slice_index ranks q < slice_index ranks (get_or sequence n d).place → (j < n) ⊎ (n ≤ j) → j < n
    first j e within rank lower (inl before) = before
    first j e within rank lower (inr late) =
        let rises : (get_or sequence n e).rank ≤ (get_or sequence j e).rank = is.sorted n j e late within in
        let same : get_or sequence n d ≡ get_or sequence n e = get_or_default sequence n d e lt in
        let own : (get_or sequence n d).rank ≡ slice_index ranks (get_or sequence n d).place = true_rank ranks sequence is n d lt in
        let both : (get_or sequence n d).rank ≡ (get_or sequence n e).rank = ap (λ (r : Ranked). r.rank) same in
        absurd (omega (arith, rises, both, own, rank, lower))

module _ (knows : KnowsReadings) (old new : Facts) (t : ℕ) (xs : List Verdict) (was : WasKept old new t xs) where
  same_count : length new.spec.tasks ≡ length old.spec.tasks
  same_count = ap (λ (s : RunSpec). length s.tasks) was.spec

  old_right : (p : ℕ) → p < length old.spec.tasks → label_at xs p ≡ verdict_line old xs p
  old_right p within =
      subst (λ (ls : List Verdict). label_at ls p ≡ verdict_line old ls p) (sym was.labelled)
      ((labels_of_is_right old was.formed.acyclic).each p (omega (arith, within)))

  good_same : (p : ℕ) → p ≢ t → is_good_at new p ≡ is_good_at old p
  good_same p other = λ i. option_map_or (λ (task : PipelineTask). all_ended (is_good task) (was.others p other i)) (slice_get ((was.spec i).tasks ++ (was.spec i).finally) p) false

  -- of a task that isn't judged: its label is its line, and it shows what it showed
  pub kept_line : (ys : List Verdict) (p : ℕ) → p < length new.spec.tasks → p ≢ t → ((q : ℕ) → Contains (parents new.spec.tasks p) q → ShowsSame old new xs ys q)
      → label_at xs p ≡ verdict_line new ys p
  kept_line ys p within other shows =
      let small : p < length old.spec.tasks = omega (arith, within, same_count) in
      old_right p small
      ∙ sym (line_is_local knows old new was.formed was.spec xs ys p small (was.others p other) was.stop
      (λ q c. shows q (subst (λ (s : RunSpec). Contains (parents s.tasks p) q) (sym was.spec) c)))

  pub kept_shows : (p : ℕ) → p ≢ t → (zs : List Verdict) → label_at zs p ≡ label_at xs p → ShowsSame old new xs zs p
  kept_shows p other zs label = same_shows knows old new was.formed was.spec xs zs p (was.others p other) label

  -- of one that is, and has no mark
  pub again_shows : (ys : List Verdict) (p : ℕ) (label : Verdict) (mark : Bool) → p < length new.spec.tasks → IsAgain new ys (label_at xs p) p t label mark → mark ≡ false
      → (zs : List Verdict) → label_at zs p ≡ label → ShowsSame old new xs zs p
  again_shows ys p label mark within again quiet zs is =
      let small : p < length old.spec.tasks = omega (arith, within, same_count) in
      shown_decides knows old new was.formed was.spec xs zs p
      (λ skipped. skipped_bare old xs p (omega (arith, small)) (ap is_skipped (sym (old_right p small)) ∙ skipped))
      (λ skipped. skipped_bare new ys p (omega (arith, within)) (ap is_skipped (sym (is ∙ again.label)) ∙ skipped))
      (ap blocks is ∙ (again.alike quiet).blocks)
      (good (cases_eq p t))
      (ap is_skipped_by_when is ∙ (again.alike quiet).passes)
      (kept (cases_eq p t))
    where
      good : (p ≡ t) ⊎ (p ≢ t) → is_good_at new p ≡ is_good_at old p
      good (inl same) = again.good quiet same ∙ sym (subst (λ (q : ℕ). is_good_at old q ≡ false) (sym same) was.bad)
      good (inr other) = good_same p other

      kept : (p ≡ t) ⊎ (p ≢ t) → is_good_at old p ≡ true → children_of new p ≡ children_of old p
      kept (inl same) is_good = let bad : is_good_at old p ≡ false = subst (λ (q : ℕ). is_good_at old q ≡ false) (sym same) was.bad in cc
      kept (inr other) is_good = was.others p other

  -- so the walk goes on
  pub next_walks : (ranks : List ℕ) (sequence : List Ranked) (ys : List Verdict) (marks : List Bool) (n : ℕ) (d : Ranked) (label : Verdict) (mark : Bool)
      → IsRanking new.spec.tasks ranks → IsSequence ranks sequence → Walks old new sequence xs ys marks n → n < length sequence → length marks ≡ length new.spec.tasks
      → IsNext new ys marks (parents new.spec.tasks (get_or sequence n d).place) (label_at xs (get_or sequence n d).place) (get_or sequence n d).place t label mark
      → Walks old new sequence xs (set ys (get_or sequence n d).place label) (set marks (get_or sequence n d).place mark) (n + 1)
  next_walks ranks sequence ys marks n d label mark ranking is walks lt long next =
      elim next [
        | inl again ↦ Walks-more old new ranks sequence xs ys marks (set marks (get_or sequence n d).place mark) n d label ranking is walks lt again.label others
            (λ quiet. again_shows ys (get_or sequence n d).place label mark within again (sym (get_or-set_at marks (get_or sequence n d).place (get_or sequence n d).place mark false refl marked) ∙ quiet))
        | inr kept ↦ Walks-more old new ranks sequence xs ys marks (set marks (get_or sequence n d).place mark) n d label ranking is walks lt
            (kept.label ∙ kept_line ys (get_or sequence n d).place within kept.other (parents_show old new ranks sequence xs ys marks n d ranking is walks lt kept.quiet)) others
            (λ quiet zs same. kept_shows (get_or sequence n d).place kept.other zs (same ∙ kept.label))
      ]
    where
      within : (get_or sequence n d).place < length new.spec.tasks
      within = place_within new ranks sequence n d ranking is lt

      marked : (get_or sequence n d).place < length marks
      marked = omega (arith, within, long)

      others : (q : ℕ) → q ≢ (get_or sequence n d).place → get_or (set marks (get_or sequence n d).place mark) q false ≡ get_or marks q false
      others q other = get_or-set_other marks (get_or sequence n d).place q mark false other
