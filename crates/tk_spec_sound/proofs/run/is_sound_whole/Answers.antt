use Rattle.std.proofs.Common.{Bool, IsTrue, ◌↔◌, length, ap, arith, subst, sym}
use Rattle.std.proofs.lemmas.Result.{IfOk-weaker}
use Rattle.tk_graph.specs.Parents.{IsAcyclic}
use Rattle.tk_spec_sound.specs.Parts.{IsSoundWhole}
use Rattle.tk_spec_sound.proofs.Answers.{no_is, refused_by, told_as}
use Rattle.tk_spec_sound.proofs.run.is_sound_whole.Goals as goal

pub returns-then-not-branch : goal.returns-then-not-branch
returns-then-not-branch c = no_is (λ whole. refused_by c.in_ok-names_differ.field-0 c.in_ok-names_differ.ensures c.if-not-branch.true whole.names_differ)

pub is_acyclic-requires : goal.is_acyclic-requires
is_acyclic-requires c = let few = c.requires in let long = ap length c.as_slice.ensures in omega (arith, few, long)

pub returns : goal.returns
returns c =
    let spec = c.args.spec.now in
    IfOk-weaker c.is_acyclic.result (λ (yes : Bool). IsTrue yes ↔ IsAcyclic c.as_slice.result.now) (λ (yes : Bool). IsTrue yes ↔ IsSoundWhole spec)
    (λ yes tells. told_as yes (λ acyclic. record { names_differ = c.in_ok-names_differ.ensures.0 c.if-not-branch.false; acyclic = subst IsAcyclic c.as_slice.ensures acyclic })
    (λ (whole : IsSoundWhole spec). subst IsAcyclic (sym c.as_slice.ensures) whole.acyclic) tells)
    c.is_acyclic.ensures
