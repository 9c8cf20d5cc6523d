use Rattle.std.proofs.Common.{◌≡◌, ◌-◌, List, ◌++◌, OnOk, map, length, replicate, Bor, ap, subst, ◌∙◌, arith}
use Rattle.std.proofs.lemmas.List.{length-append}
use Rattle.tk_types.specs.Place.{Place}
use Rattle.tk_journal.specs.Names.{task_run_names}
use Rattle.tk_admit.proofs.Owners.{replicated}
use Rattle.tk_admit.proofs.clashes.add_run.Goals as goal

pub returns-clause-owners : goal.returns-clause-owners
returns-clause-owners c =
    let place : Place = c.args.run.now.place in
    let made = task_run_names c.args.run.now.spec in
    let before = length-append c.args.names.now made in
    let after : length c.add_names.new.names ≡ length (c.args.names.now ++ made) = ap length c.in_ok-add_names.ensures in
    let count : c.len.result - c.len-before.result ≡ length made = omega arith in
    let places : List Place → Type 0 = λ ys. OnOk c.add_owners.result (map (λ (p : Bor Place). p.now) c.add_owners.new.owners.items ≡ map (λ (p : Bor Place). p.now) c.args.owners.now.items ++ ys) in
    subst places (ap (λ n. replicate n place) count ∙ replicated place made) c.add_owners.ensures
