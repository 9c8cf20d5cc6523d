use Rattle.std.proofs.Common.{rules, ◌≡◌, ◌∙◌, ◌<◌, ◌+◌, ◌++◌, ◌∷◌, [], List, ap, drop, length, map, sym, take}
use Rattle.std.specs.Prelude.{filter_map}
use Rattle.std.specs.Option.{option_or}
use Rattle.std.proofs.lemmas.List.{drop_more, take_more}
use Rattle.tk_types.specs.First.{Finding, first_of}
use Rattle.tk_types.specs.declared.object.Item.{Item}
use Rattle.tk_admit.specs.Objects.{object_finding}
use Rattle.tk_admit.specs.Taken.{behind, taken_of}
use Rattle.tk_admit.specs.declared.taken.Taken.{Taken}
use Rattle.tk_admit.proofs.Steps.{optional_added}
use Rattle.tk_admit.proofs.objects.take_all.Goals as goal

pub loop-index-preserved : goal.loop-index-preserved
loop-index-preserved c =
    let items = c.args.items.now in
    let i = c.loop-index.index in
    let item = c.index-items-index.result in
    let runs = c.loop-index.runs.runs.items in
    let lt : i < length items = search rules in
    let more : take (i + 1) items ≡ take i items ++ item ∷ [] = take_more items i item lt ∙ ap (λ (x : Item). take i items ++ x ∷ []) (sym c.index-items-index.is) in
    let rest : drop i items ≡ item ∷ drop (i + 1) items = drop_more items i item lt ∙ ap (λ (x : Item). x ∷ drop (i + 1) items) (sym c.index-items-index.is) in
    let left : List (List Item × Item) = behind (take (i + 1) items) (drop (i + 1) items) in
    let step : behind (take i items) (drop i items) ≡ (take i items, item) ∷ left
    = ap (behind (take i items)) rest ∙ ap (λ (before : List Item). (take i items, item) ∷ behind before (drop (i + 1) items)) (sym more) in
    record {
      earlier = c.in_ok-take_next.ensures.earlier ∙ sym more;
      found =
          sym
          (ap (λ (each : List (List Item × Item)). first_of (map object_finding each)) step
          ∙ ap (λ (first : Finding). option_or first (first_of (map object_finding left))) c.in_ok-take_next.ensures.found.0)
          ∙ c.loop-index.invariant.found;
      made =
          ap (λ (made : List Taken). made ++ filter_map taken_of left) c.in_ok-take_next.ensures.runs
          ∙ (optional_added runs (taken_of (take i items, item)) (filter_map taken_of left)
          ∙ (sym (ap (λ (each : List (List Item × Item)). runs ++ filter_map taken_of each) step) ∙ c.loop-index.invariant.made));
      tallied = c.in_ok-take_next.ensures.tallied;
    }
