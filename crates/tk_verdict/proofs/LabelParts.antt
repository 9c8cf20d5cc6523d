-- A label by whether there are children.
use Rattle.std.proofs.Common.{◌≡◌, ◌<◌, List, [], ◌∷◌, length, map, refl, arith}
use Rattle.std.specs.Prelude.{Option}
use Rattle.tk_types.specs.declared.value.Param.{Param}
use Rattle.tk_types.specs.declared.run.Child.{Child}
use Rattle.tk_types.specs.declared.run.Stop.{Stop}
use Rattle.tk_types.specs.declared.verdict.SkipReason.{SkipReason}
use Rattle.tk_types.specs.declared.verdict.Verdict.{Verdict}
use Rattle.tk_verdict.specs.Labels.{label_by}
use denote.Bor.{Bor}

abbrev children_now : List (Bor Child) → List Child
children_now children = map (λ (c : Bor Child). c.now) children

pub without_children : (children : List (Bor Child)) (combinations : Option (List (List Param))) (row : Option SkipReason) (stop : Option Stop) (next : Verdict)
    → length children < 1 → label_by [] combinations row stop next ≡ label_by (children_now children) combinations row stop next
without_children [] combinations row stop next none = refl
without_children (c ∷ children) combinations row stop next none = absurd (omega arith)
