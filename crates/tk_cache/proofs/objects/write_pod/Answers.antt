use Rattle.std.proofs.Common.{rules, ◌≡◌, Some, ap}
use Rattle.std.proofs.lemmas.Map.Text.{hash_map_updates_text}
use Rattle.tk_types.specs.declared.scenario.Kind.TheVariants.{Pods}
use Rattle.tk_journal.specs.Effects.{name_of, pod_made, pod_after}
use Rattle.tk_cache.specs.Objects.{held_at}
use Rattle.tk_journal.specs.declared.object.PodState.{PodState}
use Rattle.tk_cache.specs.declared.objects.Held.{Held}
use Rattle.tk_cache.proofs.Held.{held_written, names_kept}
use Rattle.tk_cache.proofs.objects.write_pod.Goals as goal

pub returns-in-Some-clause-at : goal.returns-in-Some-clause-at
returns-in-Some-clause-at c =
    let is : c.name-name.result.now ≡ name_of c.args.entry.now.act = search rules in
    let there : held_at c.args.pods.now c.name-name.result.now ≡ Some c.in-Some.held.now = search rules in
    let w : Held PodState = record { object = c.apply.new.self; version = c.args.position } in
    held_written c.args.pods.now (c.get_mut.follows.lender w) Pods c.args.entry.now c.args.position (pod_after c.args.entry.now.actor c.args.entry.now.act) (pod_made c.args.entry.now.act) c.name-name.result.now c.in-Some.held.now w is there
    (ap (λ object. record { object = object; version = c.args.position }) c.in_ok-apply.ensures.ok)
    (λ cs. hash_map_updates_text c.name-name.result.now c.args.pods.now (c.get_mut.follows.lender w) (Some w) ((c.get_mut.follows.holds w).3 (search rules)) cs)

pub returns-in-Some-clause-names : goal.returns-in-Some-clause-names
returns-in-Some-clause-names c =
    let is : c.name-name.result.now ≡ name_of c.args.entry.now.act = search rules in
    let there : held_at c.args.pods.now c.name-name.result.now ≡ Some c.in-Some.held.now = search rules in
    let w : Held PodState = record { object = c.apply.new.self; version = c.args.position } in
    names_kept c.args.pods.now (c.get_mut.follows.lender w) Pods c.args.entry.now c.args.position (pod_after c.args.entry.now.actor c.args.entry.now.act) (pod_made c.args.entry.now.act) c.name-name.result.now c.in-Some.held.now w is there c.requires.fits (c.get_mut.follows.holds w).1
