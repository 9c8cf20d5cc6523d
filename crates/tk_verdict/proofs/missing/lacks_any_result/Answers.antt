use Rattle.std.proofs.Common.{List, ℕ, Bool, IfOk, All, map, sym, subst, ap, ◌∙◌, ◌≡◌}
use Rattle.std.specs.List.{list_any}
use Rattle.tk_vars.specs.Reading.{HasReading}
use Rattle.tk_graph.specs.Results.{task_texts}
use Rattle.tk_bind.specs.Lacking.{text_lacks}
use Rattle.tk_bind.proofs.Readings.{All-under_map}
use Rattle.tk_verdict.proofs.MissingTexts.{texts_missing}
use Rattle.tk_verdict.proofs.missing.lacks_any_result.Goals as goal
use denote.Bor.{Bor}

pub lack-requires : goal.lack-requires
lack-requires c =
    let now : Bor (List ℕ) → List ℕ = λ t. t.now in
    let texts : map now c.as_slice.result.now ≡ task_texts c.args.task.now = ap (map now) c.as_slice.ensures.value ∙ c.in_ok-texts.ensures in
    All-under_map HasReading now c.as_slice.result.now (subst (λ (ts : List (List ℕ)). All HasReading ts) (sym texts) c.requires.texts)

pub returns : goal.returns
returns c =
    let now : Bor (List ℕ) → List ℕ = λ t. t.now in
    let env = c.args.lookup.now in
    let texts : map now c.as_slice.result.now ≡ task_texts c.args.task.now = ap (map now) c.as_slice.ensures.value ∙ c.in_ok-texts.ensures in
    let P : Bool → Type 0 = λ b. IfOk c.lack.result (λ lacks. lacks ≡ b) in
    subst P (ap (list_any (text_lacks env)) texts ∙ texts_missing env (task_texts c.args.task.now) c.requires.texts) c.lack.ensures
