use Rattle.std.proofs.Common.{◌≡◌, ℕ, List, [], Some, length, get_or, sym, ◌∙◌, ap, arith}
use Rattle.std.specs.Prelude.{filter, nat_lt, slice_get}
use Rattle.std.proofs.lemmas.Option.{slice_get-get_or}
use Rattle.tk_cache.specs.Views.{seen}
use Rattle.tk_journal.specs.PodRows.{is_held_by}
use Rattle.tk_pod_cache.specs.Marks.{held_in}
use Rattle.tk_kubelet.proofs.Found.{count_here, count_later}
use Rattle.tk_kubelet.proofs.Skipped.{count_end, count_next, idle_held_by}
use Rattle.tk_kubelet.proofs.choose.has_room.Goals.{then-is_held_by, else-is_held_by}
use Rattle.tk_kubelet.proofs.choose.has_room.Goals as goal

pub overflow_add-count : goal.overflow_add-count
overflow_add-count c = let few = c.loop-place.invariant.few in let from = c.in-Some.ensures.1.0 in let below = c.in-Some.ensures.0 in omega (arith, few, from, below)

pub loop-place-preserved : goal.loop-place-preserved
loop-place-preserved c =
    let few = c.loop-place.invariant.few in
    let from = c.in-Some.ensures.1.0 in
    let rest = c.loop-place.invariant.rest in
    let next = count_next (held_in (seen c.args.cache.now).view) (λ (name : List ℕ). is_held_by c.args.number ((seen c.args.cache.now).view.pod name)) (seen c.args.cache.now).view.pods c.args.marks.now.held c.requires.held
    (λ name. idle_held_by c.args.number ((seen c.args.cache.now).view.pod name)) c.loop-place.at c.pod_count-end.result c.in-Some.place c.in-Some.ensures in
    let at : slice_get (seen c.args.cache.now).view.pods c.in-Some.place ≡ Some (get_or (seen c.args.cache.now).view.pods c.in-Some.place [])
    = slice_get-get_or (seen c.args.cache.now).view.pods c.in-Some.place [] (let below = c.in-Some.ensures.0 in omega (arith, below, c.pod_count-end.ensures)) in
    elim c.if-is_held_by.branch [
      | then-is_held_by w ↦
          let more = count_here (λ (name : List ℕ). is_held_by c.args.number ((seen c.args.cache.now).view.pod name)) (seen c.args.cache.now).view.pods c.in-Some.place (get_or (seen c.args.cache.now).view.pods c.in-Some.place []) at
          (ap (is_held_by c.args.number) (c.pod_at.ensures (get_or (seen c.args.cache.now).view.pods c.in-Some.place []) at) ∙ (sym c.is_held_by.ensures ∙ w.if-is_held_by.true)) in
          record { few = omega (arith, few, from); rest = omega (arith, more, next, rest) }
      | else-is_held_by w ↦
          let same = count_later (λ (name : List ℕ). is_held_by c.args.number ((seen c.args.cache.now).view.pod name)) (seen c.args.cache.now).view.pods c.in-Some.place (get_or (seen c.args.cache.now).view.pods c.in-Some.place []) at
          (ap (is_held_by c.args.number) (c.pod_at.ensures (get_or (seen c.args.cache.now).view.pods c.in-Some.place []) at) ∙ (sym c.is_held_by.ensures ∙ w.if-is_held_by.false)) in
          record { few = omega (arith, few, from); rest = omega (arith, same, next, rest) }
    ]

pub returns : goal.returns
returns c =
    let none = count_end (held_in (seen c.args.cache.now).view) (λ (name : List ℕ). is_held_by c.args.number ((seen c.args.cache.now).view.pod name)) (seen c.args.cache.now).view.pods c.args.marks.now.held c.requires.held
    (λ name. idle_held_by c.args.number ((seen c.args.cache.now).view.pod name)) c.loop-place.at c.pod_count-end.result c.pod_count-end.ensures c.in_default.ensures in
    let rest = c.loop-place.invariant.rest in
    let all : c.loop-place.count ≡ length (filter (λ (name : List ℕ). is_held_by c.args.number ((seen c.args.cache.now).view.pod name)) (seen c.args.cache.now).view.pods) = omega (arith, none, rest) in
    ap (λ (n : ℕ). nat_lt n 8) all
