-- Paths under the folders of pods.
use Rattle.std.proofs.Common.{◌≡◌, ◌≢◌, ℕ, zero, suc, List, [], ◌∷◌, ◌++◌, length, drop, true, false, refl, sym, ◌∙◌, ap, subst, inl, inr, slice_get, codes, append_assoc, rules}
use Rattle.std.specs.Prelude.{◌⊎◌, nat_eq}
use Rattle.std.specs.List.{starts_with}
use Rattle.std.proofs.lemmas.Bool.{and_parts, eqb-true, false_from_ne_true}
use Rattle.std.proofs.lemmas.Bool.Decides.{Decides-eqb}
use Rattle.std.proofs.lemmas.Slice.Eq.{starts_is}
use Rattle.tk_edge.specs.Files.{is_slash, is_under}
use Rattle.tk_space.specs.Apart.{IsName, LiesUnder}
use Rattle.tk_space.specs.Space.{below, pod_folder, claims_folder, spaces_folder}
use Rattle.tk_space.proofs.Apart.{same_pod, lies_deeper}
use Rattle.tk_journal.specs.declared.object.Plan.{Plan}
use Rattle.tk_steps.specs.May.{IsOwnFolder}

-- a path that is under a folder lies there

slash_drop : (n : ℕ) (path : List ℕ) → is_slash (slice_get path n) ≡ true → (rest : List ℕ) × (drop n path ≡ 47 ∷ rest)
slash_drop n [] is = cc
slash_drop zero (byte ∷ rest) is = (rest, ap (λ (b : ℕ). b ∷ rest) (eqb-true byte 47 is))
slash_drop (suc n) (byte ∷ rest) is = slash_drop n rest is

pub under_lies : (folder path : List ℕ) → is_under folder path ≡ true → LiesUnder folder path
under_lies folder path is =
    let parts = and_parts (is_slash (slice_get path (length folder))) (starts_with nat_eq path folder) is in
    let begins : path ≡ folder ++ drop (length folder) path = (starts_is Decides-eqb path folder (starts_with nat_eq path folder) refl).0 parts.1 in
    let behind = slash_drop (length folder) path parts.0 in
    (behind.0, begins ∙ (ap (λ (l : List ℕ). folder ++ l) behind.1 ∙ sym (append_assoc folder (codes "/") behind.0)))

-- what lies under a folder that lies under another one
pub lies_through : (folder inner path : List ℕ) → LiesUnder folder inner → LiesUnder inner path → LiesUnder folder path
lies_through folder inner path (x, e) (y, f) = (below x y, f ∙ (ap (λ (p : List ℕ). below p y) e ∙ simp append_assoc))

-- what is cleared for a pod is its folder or lies in it
pub own_folder : (root name folder path : List ℕ) → {plan : Plan} → IsOwnFolder root name plan folder → LiesUnder folder path → LiesUnder (pod_folder root name) path
own_folder root name folder path (inl is) lies = subst (λ (f : List ℕ). LiesUnder f path) is lies
own_folder root name folder path (inr space) lies =
    let inside : LiesUnder (spaces_folder root name) folder = (space.lies.space, space.lies.at) in
    lies_deeper (pod_folder root name) (codes "ws") path (lies_through (spaces_folder root name) folder path inside lies)

claims_is_name : IsName (codes "claims")
claims_is_name = search rules

-- a path of a pod or of a claim isn't under what is cleared for another pod
pub not_cleared : (root name other folder path : List ℕ) → IsName name → IsName other → other ≢ name → other ≢ codes "claims" → LiesUnder (pod_folder root name) path ⊎ LiesUnder (claims_folder root) path
    → {plan : Plan} → IsOwnFolder root other plan folder → is_under folder path ≡ false
not_cleared root name other folder path plain far differ no_claims lies own = false_from_ne_true (is_under folder path) (λ is. clash lies (own_folder root other folder path own (under_lies folder path is)))
  where
    clash : LiesUnder (pod_folder root name) path ⊎ LiesUnder (claims_folder root) path → LiesUnder (pod_folder root other) path → ⊥
    clash (inl mine) theirs = differ (same_pod root other name path far plain theirs mine)
    clash (inr claim) theirs = no_claims (same_pod root other (codes "claims") path far claims_is_name theirs claim)
