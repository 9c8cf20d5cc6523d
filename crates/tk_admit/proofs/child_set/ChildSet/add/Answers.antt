use Rattle.std.proofs.Common.{◌≡◌, List, [], ◌∷◌, ◌++◌, map, refl, sym, ◌∙◌, ap, Bor}
use Rattle.std.specs.List.{list_any}
use Rattle.std.proofs.lemmas.List.{map-append}
use Rattle.tk_types.specs.declared.object.OutcomesChild.{OutcomesChild}
use Rattle.tk_admit.specs.Children.{is_of}
use Rattle.tk_admit.specs.Command.{is_same_child}
use Rattle.tk_admit.proofs.ChildAdded.{among-more, among-same, stood}
use Rattle.tk_admit.proofs.child_set.ChildSet.add.Goals as goal

pub invariant_of-self-in-Ok : goal.invariant_of-self-in-Ok
invariant_of-self-in-Ok c =
    let now : Bor OutcomesChild → OutcomesChild = λ b. b.now in
    let before : List OutcomesChild = map now c.self.inside.children.items in
    let pushed : map now c.push.new.self.items ≡ before ++ c.args.child.now ∷ [] =
    ap (map now) c.in_ok-push.ensures.items ∙ map-append now c.self.inside.children.items (c.args.child ∷ []) in
    λ task index.
    among-more c.self.inside.found c.insert.new.self (c.as_str.result, c.args.child.now.index) before c.args.child.now c.as_str.ensures refl c.in-Ok.ensures.updates c.self.invariant task index
    ∙ sym (ap (list_any (is_of task index)) pushed)

pub returns-in-Ok-clause-was : goal.returns-in-Ok-clause-was
returns-in-Ok-clause-was c =
    let now : Bor OutcomesChild → OutcomesChild = λ b. b.now in
    let before : List OutcomesChild = map now c.self.inside.children.items in
    stood _ _ _ c.in-Ok.ensures.added (among-same c.self.inside.found (c.as_str.result, c.args.child.now.index) before c.args.child.now c.as_str.ensures refl c.self.invariant)
    ∙ ap (list_any (is_same_child c.args.child.now)) c.self.view_is
