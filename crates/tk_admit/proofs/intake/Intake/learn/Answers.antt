use Rattle.std.proofs.Common.{rules, ◌∙◌, ◌<◌, List, Some, ap, length, sym}
use Rattle.std.proofs.lemmas.Map.Text.{hash_map_updates_str}
use Rattle.tk_types.specs.Behaviour.{tasks_of}
use Rattle.tk_types.specs.declared.object.Item.{Item}
use Rattle.tk_admit.specs.Taken.{resolved}
use Rattle.tk_admit.proofs.Measured.{kept_size}
use Rattle.tk_admit.proofs.RunSizes.{size_learned}
use Rattle.tk_admit.proofs.intake.Intake.learn.Goals as goal

pub invariant_of-self : goal.invariant_of-self
invariant_of-self c = λ name x found.
    let key = c.as_str.result.now in
    let object = c.args.object.now in
    let some : 0 < length (tasks_of c.args.spec.now) = search rules in
    kept_size c.self.inside.earlier key name c.args.size _ _
    (size_learned c.self.inside.earlier object c.args.spec.now key c.args.size (sym c.in-Some.ensures ∙ ap Some (sym c.as_str.ensures))
    (ap (λ (items : List Item). resolved items object) c.self.view_is ∙ c.requires.run) c.requires.size some)
    (c.self.invariant name) (hash_map_updates_str key c.self.inside.sizes c.insert.new.self _ c.in_ok-insert.ensures.updates name) x found
