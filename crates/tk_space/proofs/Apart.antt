-- Folders of different pods are apart.
use Rattle.std.proofs.Common.{◌≡◌, ◌≢◌, inl, inr, ℕ, ◌==◌, true, false, List, [], ◌∷◌, ◌++◌, append_assoc, length, Option, Some, None, codes, refl, ap, sym, ◌∙◌, subst, rules, if◌then◌else◌}
use Rattle.std.specs.Option.{option_map_or}
use Rattle.std.proofs.lemmas.List.{append_cancel_left}
use Rattle.tk_types.specs.declared.task.Space.{Space}
use Rattle.tk_space.specs.Apart.{IsName, IsWithin, LiesUnder}
use Rattle.tk_space.specs.Space.{below, under, pod_folder, spaces_folder, claims_folder, space_folder}

-- of equal paths, the first names are equal
pub same_name : (a b x y : List ℕ) → IsName a → IsName b → a ++ (47 ∷ x) ≡ b ++ (47 ∷ y) → a ≡ b
same_name [] [] x y p q e = refl
same_name [] (b ∷ bytes) x y p q e = let same : b ≡ 47 = cc in absurd (q.0 same)
same_name (a ∷ front) [] x y p q e = let same : a ≡ 47 = cc in absurd (p.0 same)
same_name (a ∷ front) (b ∷ bytes) x y p q e =
    let rest : front ++ (47 ∷ x) ≡ bytes ++ (47 ∷ y) = cc in
    let byte : a ≡ b = cc in
    let more = same_name front bytes x y p.1 q.1 rest in
    cc

-- a path under two folders of one root
pub same_pod : (root a b path : List ℕ) → IsName a → IsName b → LiesUnder (below root a) path → LiesUnder (below root b) path → a ≡ b
same_pod root a b path p q (x, e) (y, f) =
    let whole : root ++ (47 ∷ (a ++ (47 ∷ x))) ≡ root ++ (47 ∷ (b ++ (47 ∷ y))) = (simp append_assoc at (sym e ∙ f)) in
    let behind = append_cancel_left root (47 ∷ (a ++ (47 ∷ x))) (47 ∷ (b ++ (47 ∷ y))) whole in
    let rest : a ++ (47 ∷ x) ≡ b ++ (47 ∷ y) = cc in
    same_name a b x y p q rest

-- what is in a folder's folder is in that folder
pub lies_deeper : (folder name path : List ℕ) → LiesUnder (below folder name) path → LiesUnder folder path
lies_deeper folder name path (x, e) = (below name x, e ∙ simp append_assoc)

pub within_lies : (folder path more : List ℕ) → LiesUnder folder path → IsWithin path more → LiesUnder folder more
within_lies folder path more (x, e) (inl same) = (x, same ∙ e)
within_lies folder path more (x, e) (inr (y, f)) = (below x y, f ∙ ap (λ p. below p y) e ∙ simp append_assoc)

under_lies : (folder rest sub : List ℕ) → LiesUnder folder (under (below folder rest) sub)
under_lies folder rest sub =
    elim (length sub == 0) as (λ empty. LiesUnder folder (if empty then below folder rest else below (below folder rest) sub))
    [ true ↦ (rest, refl) | false ↦ (below rest sub, simp append_assoc) ]

pub own_lies : (root pod : List ℕ) (space : Space) → space.claim ≡ None → LiesUnder (spaces_folder root pod) (space_folder root pod space)
own_lies root pod space e =
    subst (λ claim. LiesUnder (spaces_folder root pod) (under (option_map_or (below (claims_folder root)) claim (below (spaces_folder root pod) space.name)) space.sub)) (sym e)
    (under_lies (spaces_folder root pod) space.name space.sub)

pub claim_lies : (root pod claim : List ℕ) (space : Space) → space.claim ≡ Some claim → LiesUnder (claims_folder root) (space_folder root pod space)
claim_lies root pod claim space e =
    subst (λ c. LiesUnder (claims_folder root) (under (option_map_or (below (claims_folder root)) c (below (spaces_folder root pod) space.name)) space.sub)) (sym e)
    (under_lies (claims_folder root) claim space.sub)

-- an emptyDir's folder lies in its pod's
pub own_in_pod : (root pod : List ℕ) (space : Space) → space.claim ≡ None → LiesUnder (pod_folder root pod) (space_folder root pod space)
own_in_pod root pod space e = lies_deeper (pod_folder root pod) (codes "ws") (space_folder root pod space) (own_lies root pod space e)

pub apart_of_pods : (root pod other : List ℕ) (space far : Space) → pod ≢ other → IsName pod → IsName other → space.claim ≡ None → far.claim ≡ None → IsWithin (space_folder root other far) (space_folder root pod space) → ⊥
apart_of_pods root pod other space far differ p q own far_own within =
    differ
    (same_pod root pod other (space_folder root pod space) p q
    (own_in_pod root pod space own)
    (within_lies (pod_folder root other) (space_folder root other far) (space_folder root pod space) (own_in_pod root other far far_own) within))

claims_is_name : IsName (codes "claims")
claims_is_name = search rules

apart_of_claim : (root pod other claim : List ℕ) (space far : Space) → IsName pod → pod ≢ codes "claims" → space.claim ≡ None → far.claim ≡ Some claim → IsWithin (space_folder root other far) (space_folder root pod space) → ⊥
apart_of_claim root pod other claim space far p differ own claimed within =
    differ
    (same_pod root pod (codes "claims") (space_folder root pod space) p claims_is_name
    (own_in_pod root pod space own)
    (within_lies (claims_folder root) (space_folder root other far) (space_folder root pod space) (claim_lies root other claim far claimed) within))

pub apart_of_claims : (root pod other : List ℕ) (space far : Space) → pod ≢ other → IsName pod → IsName other → pod ≢ codes "claims" → space.claim ≡ None → IsWithin (space_folder root other far) (space_folder root pod space) → ⊥
apart_of_claims root pod other space far differ p q unclaimed own within = by_claim far.claim refl
  where
    by_claim : (claim : Option (List ℕ)) → far.claim ≡ claim → ⊥
    by_claim None e = apart_of_pods root pod other space far differ p q own e within
    by_claim (Some claim) e = apart_of_claim root pod other claim space far p unclaimed own e within
