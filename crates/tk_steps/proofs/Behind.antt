-- What stands behind a folder in a path.
use Rattle.std.proofs.Common.{◌≡◌, ℕ, List, ◌∷◌, ◌++◌, Option, Some, None, sym, ◌∙◌, ap, inl, inr, append_assoc, codes}
use Rattle.std.specs.Prelude.{MatchOption, IfSome, ◌≢◌}
use Rattle.std.specs.Str.Pattern.{FindsTextPrefix, StripsPrefix}
use denote.Ref.{Bor}
use Rattle.tk_space.specs.Apart.{IsWithin, LiesUnder}
use Rattle.tk_space.specs.Space.{below}

pub text_behind : (folder path : List ℕ) (r : Option (Bor (List ℕ))) → MatchOption r (FindsTextPrefix folder path None) (λ x. StripsPrefix (FindsTextPrefix folder) path x.now) → IfSome r (λ x. path ≡ folder ++ x.now)
text_behind folder path None is = tt
text_behind folder path (Some x) (n, found, rest, count) = found.1 ∙ ap (λ (l : List ℕ). folder ++ l) (sym rest)

pub slash_behind : (text : List ℕ) (r : Option (Bor (List ℕ))) → MatchOption r ((rest : List ℕ) → text ≢ 47 ∷ rest) (λ x. text ≡ 47 ∷ x.now) → IfSome r (λ x. text ≡ 47 ∷ x.now)
slash_behind text None is = tt
slash_behind text (Some x) is = is

pub both_behind : (path folder text : List ℕ) (r : Option (Bor (List ℕ))) → path ≡ folder ++ text → IfSome r (λ x. text ≡ 47 ∷ x.now) → IfSome r (λ x. path ≡ below folder x.now)
both_behind path folder text None is behind = tt
both_behind path folder text (Some x) is behind = is ∙ (ap (λ (l : List ℕ). folder ++ l) behind ∙ sym (append_assoc folder (codes "/") x.now))

-- a path whose front is a name and a slash lies under that name
pub lies_behind : (name rest path : List ℕ) → path ≡ name ++ 47 ∷ rest → LiesUnder name path
lies_behind name rest path is = (rest, is ∙ sym (append_assoc name (codes "/") rest))

-- what is within a name stays so below a folder
pub within_below : (folder name path : List ℕ) → IsWithin name path → IsWithin (below folder name) (below folder path)
within_below folder name path (inl is) = inl (ap (below folder) is)
within_below folder name path (inr (rest, is)) = inr (rest, ap (below folder) is ∙ simp append_assoc)
