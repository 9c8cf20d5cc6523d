use Rattle.std.proofs.Common.{◌≡◌, ℕ, List, IfSome, Option, HashMap, BuildHasherDefault, FoldHasher, bytes_eq, find, option_map, ap, subst, ◌∙◌}
use Rattle.std.specs.HashMap.{get_by}
use Rattle.tk_types.proofs.first_named.FirstNamed.get.Goals as goal
use denote.Bor.{Bor}

pub returns-in-Some : goal.returns-in-Some
returns-in-Some g c =
    let P : Option (HashMap (Bor (List ℕ)) (Bor g.row.T.Denot) (BuildHasherDefault FoldHasher)) → Type 0 = λ o. IfSome o (λ found. (name : List ℕ) → option_map (λ item. item.now) (get_by (λ k. bytes_eq name k.now) found) ≡ find (λ item. bytes_eq (g.T.Named.name item) name) c.self.inside.items.now) in
    ap (option_map (λ item. item.now)) (c.copied.ensures ∙ c.get.ensures.value)
    ∙ (subst P c.in-Some.is c.self.invariant c.args.name.now
    ∙ ap (find (λ item. bytes_eq (g.T.Named.name item) c.args.name.now)) c.self.view_is)
