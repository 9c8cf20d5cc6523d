use Rattle.std.proofs.Common.{ℕ, List, ◌++◌, take, subst, sym}
use Rattle.tk_taken_names.specs.Taken.{IsNew}
use Rattle.tk_taken_names.proofs.News.{next_is_new}
use Rattle.tk_taken_names.proofs.taken.TakenNames.add.Goals as goal

pub add_one-requires : goal.add_one-requires
add_one-requires c =
    let taken = c.args.self.now in
    let names = c.args.names.now in
    let i = c.loop-name.name-index in
    subst (λ (so_far : List (List ℕ)). IsNew so_far c.as_str.result.now) (sym c.loop-name.invariant)
    (subst (IsNew (taken ++ take i names)) (sym c.as_str.ensures) (next_is_new taken names c.requires i c.name-item.result c.loop-name-test.true c.name-item.is))
