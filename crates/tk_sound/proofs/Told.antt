-- The root and the weight of the entries that admit an input.
use Rattle.std.proofs.Common.{◌≡◌, ℕ, ◌+◌, List, [], ◌∷◌, map, None, reverse, refl, sym, ◌∙◌, sum_by, arith}
use Rattle.std.specs.Prelude.{fold, nat_lt}
use Rattle.std.specs.Option.{option_or}
use Rattle.std.proofs.lemmas.Bool.{ltb-false}
use mathlib.Core.List.{reverse_aux}
use Rattle.tk_types.specs.First.{Finding, first_of}
use Rattle.tk_types.specs.Limits.{most_weight}
use Rattle.tk_manifest.specs.declared.kinds.KindSet.{KindSet}
use Rattle.tk_manifest.specs.Input.{objects_of, reading_fault}
use Rattle.tk_validate.specs.Validate.{item_fault}
use Rattle.tk_early.specs.Possible.{told_count}
use Rattle.tk_journal.specs.declared.entry.Entry.{Entry}
use Rattle.tk_journal.specs.Folders.{HaveRoot}
use Rattle.tk_journal.specs.Weight.{run_weight, weight as history_weight}
use Rattle.tk_admit.specs.declared.taken.Taken.{Taken}
use Rattle.tk_admit.specs.Admit.{admitted, count_finding, input_fault, items_fault}
use Rattle.tk_admit.specs.Names.{names_finding}
use Rattle.tk_admit.specs.Objects.{objects_finding}
use Rattle.tk_admit.specs.Taken.{entry_of, taken}
use Rattle.tk_admit.specs.Weight.{asks_of, weight, weight_finding}
use Rattle.tk_read_laws.proofs.Nothing.{first_none, not_refused, rest_none}

-- all entries have the root
root_onto : (root : List ℕ) (runs : List Taken) (older : List Entry) → HaveRoot root older → HaveRoot root (reverse_aux (map (entry_of root) runs) older)
root_onto root [] older have = have
root_onto root (run ∷ runs) older have = root_onto root runs (entry_of root run ∷ older) (refl, have)

pub admitted_has_root : (kinds : KindSet) (asks : ℕ) (root bytes : List ℕ) → HaveRoot root (reverse (admitted kinds asks root bytes).entries)
admitted_has_root kinds asks root bytes = root_onto root (taken (objects_of kinds bytes)) [] tt

-- they weigh what the runs weigh
weight_onto : (root : List ℕ) (runs : List Taken) (older : List Entry)
    → history_weight (reverse_aux (map (entry_of root) runs) older) ≡ fold (λ (sum : ℕ) (run : Taken). sum + run_weight run.spec) (history_weight older) runs
weight_onto root [] older = refl
weight_onto root (run ∷ runs) older = weight_onto root runs (entry_of root run ∷ older)

behind_four : (a b c d e rest : Finding) → option_or a (option_or b (option_or c (option_or d (option_or e rest)))) ≡ None → e ≡ None
behind_four a b c d e rest none =
    first_none e rest (rest_none d (option_or e rest) (rest_none c (option_or d (option_or e rest)) (rest_none b (option_or c (option_or d (option_or e rest))) (rest_none a (option_or b (option_or c (option_or d (option_or e rest)))) none))))

few_told : (total : ℕ) → weight_finding total ≡ None → told_count total ≡ total
few_told total e = let few = ltb-false most_weight total (not_refused (nat_lt most_weight total) _ e) in omega (arith, few)

added : (a b c d : ℕ) → c ≡ d → c + a + b ≡ a + b + d
added a b c d e = omega (arith, e)

pub admitted_weighs : (kinds : KindSet) (asks : ℕ) (root bytes : List ℕ) → input_fault kinds asks bytes ≡ None
    → history_weight (reverse (admitted kinds asks root bytes).entries) + asks + sum_by asks_of (objects_of kinds bytes) ≡ (admitted kinds asks root bytes).weight
admitted_weighs kinds asks root bytes e =
    let items = objects_of kinds bytes in
    let runs = taken items in
    let total = weight asks items runs in
    let none : items_fault kinds asks items ≡ None = first_none (items_fault kinds asks items) None (rest_none (reading_fault kinds bytes) _ e) in
    let told : told_count total ≡ total = few_told total (behind_four (count_finding items) (first_of (map item_fault items)) (objects_finding items) (names_finding runs) (weight_finding total) _ none) in
    let sum : history_weight (reverse (map (entry_of root) runs)) ≡ sum_by (λ (run : Taken). run_weight run.spec) runs = weight_onto root runs [] in
    added asks (sum_by asks_of items) (history_weight (reverse (map (entry_of root) runs))) (sum_by (λ (run : Taken). run_weight run.spec) runs) sum ∙ sym told
