use Rattle.std.proofs.Common.{◌≡◌, ◌∙◌, ◌++◌, ap, sym, cond, map, subst, List, ℕ, None, OnOk}
use Rattle.std.specs.List.{filter, flat_map}
use Rattle.tk_validate.specs.declared.seen.Seen.{Seen}
use Rattle.tk_validate.specs.Agreed.{agrees_with, differs}
use Rattle.tk_validate.specs.Seen.{entries_seen, params_seen, seen}
use Rattle.tk_validate.proofs.AgreedKinds.{all_agreed}
use Rattle.tk_validate.proofs.seen.task_seen.add_entries.Goals as goal

abbrev names_differing : List Seen → List Seen → List (List ℕ)
names_differing index xs = map (λ (s : Seen). s.name) (filter (differs index) xs)

abbrev agreed_by : List Seen → List (List ℕ) → List Seen → List Seen
agreed_by index mixed xs = map (λ (s : Seen). seen s.name (cond (agrees_with index mixed s) s.kind None)) xs

pub returns : goal.returns
returns c =
    let all = flat_map (params_seen c.args.outer.now) c.args.entries.now in
    let index_is : c.in_ok-index.index ≡ all = c.in_ok-index.ensures ∙ (c.as_slice.ensures ∙ c.in_ok-all.ensures) in
    let mixed_is : c.in_ok-mixed.mixed ≡ names_differing all all =
    c.in_ok-mixed.ensures
    ∙ (ap (λ i. names_differing i c.as_slice-2.result.now) index_is ∙ ap (names_differing all) (c.as_slice-2.ensures ∙ c.in_ok-all.ensures)) in
    let made : agreed_by c.in_ok-index.index c.in_ok-mixed.mixed c.as_slice-3.result.now ≡ entries_seen c.args.outer.now c.args.entries.now =
    ap (λ i. agreed_by i c.in_ok-mixed.mixed c.as_slice-3.result.now) index_is
    ∙ (ap (λ m. agreed_by all m c.as_slice-3.result.now) mixed_is
    ∙ (ap (agreed_by all (names_differing all all)) (c.as_slice-3.ensures ∙ c.in_ok-all.ensures) ∙ sym (all_agreed all))) in
    subst (λ xs. OnOk c.add_agreed.result (c.add_agreed.new.made ≡ c.args.made.now ++ xs)) made c.add_agreed.ensures
