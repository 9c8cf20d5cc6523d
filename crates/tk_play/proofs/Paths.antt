-- Where a pod's files lie, and that files of different kinds and of different pods are apart.
use Rattle.std.proofs.Common.{◌≡◌, ◌≢◌, ℕ, zero, suc, ◌<◌, ◌-◌, ◌^◌, List, ◌∷◌, ◌++◌, Bool, get_or, true, false, refl, sym, ◌∙◌, ap, subst, inl, inr, arith, nat_eq, codes, append_assoc, rules}
use Rattle.std.specs.Prelude.{◌⊎◌, decimal, if◌then◌else◌}
use Rattle.std.proofs.Math.Dec.{eqb-suc-zero}
use Rattle.std.proofs.lemmas.List.{append_cancel_left, append_cancel_right, reverse-append}
use Rattle.tk_edge.specs.Files.{broken}
use Rattle.tk_journal.specs.declared.object.Plan.{Plan}
use Rattle.tk_space.specs.Apart.{IsName}
use Rattle.tk_space.specs.Space.{below, pod_folder, spaces_folder, claims_folder}
use Rattle.tk_space.proofs.Apart.{same_name}
use Rattle.tk_steps.specs.May.{IsOwnPut, IsSpaceFile}
use Rattle.tk_steps.specs.Paths.{start_path, post_path, wait_path, script_path, result_path}
use Rattle.tk_steps.specs.Ready.{is_own_space}
use Rattle.tk_held.proofs.Kept.{layout_is}
use Rattle.tk_held.proofs.Lasts.{byte_back, post_last, post_before, start_last, start_before}
use Rattle.tk_play.specs.Own.{IsSpaced}

-- a path in a pod's folder, by what stands behind it
abbrev pub inside : List ℕ → List ℕ → List ℕ → List ℕ
inside root name rest = below (pod_folder root name) rest

pub same_inside : (root a b x y : List ℕ) → IsName a → IsName b → inside root a x ≡ inside root b y → (a ≡ b) × (x ≡ y)
same_inside root a b x y p q same =
    let whole : root ++ (47 ∷ (a ++ (47 ∷ x))) ≡ root ++ (47 ∷ (b ++ (47 ∷ y))) = (simp append_assoc at same) in
    let behind = append_cancel_left root (47 ∷ (a ++ (47 ∷ x))) (47 ∷ (b ++ (47 ∷ y))) whole in
    let rest : a ++ (47 ∷ x) ≡ b ++ (47 ∷ y) = cc in
    let names : a ≡ b = same_name a b x y p q rest in
    let again : b ++ (47 ∷ x) ≡ b ++ (47 ∷ y) = subst (λ (n : List ℕ). n ++ (47 ∷ x) ≡ b ++ (47 ∷ y)) names rest in
    let ends = append_cancel_left b (47 ∷ x) (47 ∷ y) again in
    (names, cc)

deeper : (folder a b : List ℕ) → below (below folder a) b ≡ below folder (below a b)
deeper folder a b = simp append_assoc

-- by what stands behind the pod's folder

start_in : (root name : List ℕ) → start_path root name ≡ inside root name (below (codes "run") (codes "start"))
start_in root name = deeper (pod_folder root name) (codes "run") (codes "start")

pub post_in : (root name : List ℕ) (step : ℕ) → post_path root name step ≡ inside root name (below (codes "run") (below (decimal step) (codes "out")))
post_in root name step = deeper (below (pod_folder root name) (codes "run")) (decimal step) (codes "out") ∙ deeper (pod_folder root name) (codes "run") (below (decimal step) (codes "out"))

script_in : (root name : List ℕ) (step : ℕ) → script_path root name step ≡ inside root name (below (codes "scripts") (decimal step))
script_in root name step = deeper (pod_folder root name) (codes "scripts") (decimal step)

pub result_in : (root name result : List ℕ) → result_path root name result ≡ inside root name (below (codes "results") result)
result_in root name result = deeper (pod_folder root name) (codes "results") result

pub wait_next : (root name : List ℕ) (step : ℕ) → wait_path root name (suc step) ≡ post_path root name step
wait_next root name step =
    let less : suc step - 1 ≡ step = omega arith in
    let other : nat_eq (suc step) 0 ≡ false = eqb-suc-zero step in
    rw other (ap (post_path root name) less)

wait_in : (root name : List ℕ) (step : ℕ) → (rest : List ℕ) × (wait_path root name step ≡ inside root name (below (codes "run") rest))
wait_in root name zero = (codes "start", start_in root name)
wait_in root name (suc step) = (below (decimal step) (codes "out"), wait_next root name step ∙ post_in root name step)

broken_in : (root name rest path : List ℕ) → path ≡ inside root name (below (codes "run") rest) → broken path ≡ inside root name (below (codes "run") (rest ++ codes ".err"))
broken_in root name rest path is = ap broken is ∙ simp append_assoc

-- what begins with different words is apart

run_result : (x y : List ℕ) → below (codes "results") x ≡ below (codes "run") y → ⊥
run_result x y same = let second : 101 ≡ 117 = ap (λ (p : List ℕ). get_or p 1 0) same in absurd (omega (arith, second))

script_result : (x y : List ℕ) → below (codes "results") x ≡ below (codes "scripts") y → ⊥
script_result x y same = let first : 114 ≡ 115 = ap (λ (p : List ℕ). get_or p 0 0) same in absurd (omega (arith, first))

space_result : (x y : List ℕ) → below (codes "results") x ≡ below (codes "ws") y → ⊥
space_result x y same = let first : 114 ≡ 119 = ap (λ (p : List ℕ). get_or p 0 0) same in absurd (omega (arith, first))

run_script : (x y : List ℕ) → below (codes "run") x ≡ below (codes "scripts") y → ⊥
run_script x y same = let first : 114 ≡ 115 = ap (λ (p : List ℕ). get_or p 0 0) same in absurd (omega (arith, first))

run_space : (x y : List ℕ) → below (codes "run") x ≡ below (codes "ws") y → ⊥
run_space x y same = let first : 114 ≡ 119 = ap (λ (p : List ℕ). get_or p 0 0) same in absurd (omega (arith, first))

claims_is_name : IsName (codes "claims")
claims_is_name = search rules

broken_last : (path : List ℕ) → byte_back (broken path) 0 ≡ 114
broken_last path = rw (reverse-append path (codes ".err")) refl

-- where a file lies by which a workspace's folder is made
abbrev IsSpacePlace : List ℕ → List ℕ → List ℕ → Type 0
IsSpacePlace root name path =
    ((rest : List ℕ) × (path ≡ inside root name (below (codes "ws") rest))) ⊎ ((rest : List ℕ) × (path ≡ inside root (codes "claims") rest))

space_place : (root name : List ℕ) (plan : Plan) → IsSpaced root name plan → (path bytes : List ℕ) → IsSpaceFile root name plan path bytes → IsSpacePlace root name path
space_place root name plan spaced path bytes space = elim (spaced.folders space.place space.folder space.planned) [
  | inl own ↦
      let file = file_of (is_own_space root name space.folder) in
      inl (
        below own.0 file.0,
        space.at ∙ (file.1 ∙ (ap (λ (f : List ℕ). below f file.0) own.1 ∙ (deeper (spaces_folder root name) own.0 file.0 ∙ deeper (pod_folder root name) (codes "ws") (below own.0 file.0)))),
      )
  | inr claim ↦
      let file = file_of (is_own_space root name space.folder) in
      inr (below claim.0 file.0, space.at ∙ (file.1 ∙ (ap (λ (f : List ℕ). below f file.0) claim.1 ∙ deeper (claims_folder root) claim.0 file.0)))
]
  where
    file_of : (own : Bool) → (file : List ℕ) × (below space.folder (if own then codes ".space" else codes ".claim") ≡ below space.folder file)
    file_of true = (codes ".space", refl)
    file_of false = (codes ".claim", refl)

module _ (root name other : List ℕ) (plain : IsName name) (no_claims : name ≢ codes "claims") (plan : Plan) (spaced : IsSpaced root other plan) where
  -- what is put before the steps of a pod are armed is no result
  pub result_unput : (result path bytes : List ℕ) → IsOwnPut root other plan path bytes → result_path root name result ≡ path → ⊥
  result_unput result path bytes put same = by_put put
    where
      place : inside root name (below (codes "results") result) ≡ path
      place = sym (result_in root name result) ∙ same

      by_space : IsSpacePlace root other path → ⊥
      by_space (inl (rest, is)) = space_result result rest (same_inside root name other _ _ plain spaced.plain (place ∙ is)).1
      by_space (inr (rest, is)) = no_claims (same_inside root name (codes "claims") _ _ plain claims_is_name (place ∙ is)).0

      by_put : IsOwnPut root other plan path bytes → ⊥
      by_put (inl start) = run_result result _ (same_inside root name other _ _ plain spaced.plain (place ∙ (start.0 ∙ start_in root other))).1
      by_put (inr (inl script)) = script_result result _ (same_inside root name other _ _ plain spaced.plain (place ∙ (script.at ∙ script_in root other script.step))).1
      by_put (inr (inr space)) = by_space (space_place root other plan spaced path bytes space)

  -- nor is it a wait file with `.err`
  pub broken_unput : (step : ℕ) (path bytes : List ℕ) → IsOwnPut root other plan path bytes → broken (wait_path root name step) ≡ path → ⊥
  broken_unput step path bytes put same = by_put put
    where
      wait : (rest : List ℕ) × (wait_path root name step ≡ inside root name (below (codes "run") rest))
      wait = wait_in root name step

      place : inside root name (below (codes "run") (wait.0 ++ codes ".err")) ≡ path
      place = sym (broken_in root name wait.0 (wait_path root name step) wait.1) ∙ same

      by_space : IsSpacePlace root other path → ⊥
      by_space (inl (rest, is)) = run_space _ rest (same_inside root name other _ _ plain spaced.plain (place ∙ is)).1
      by_space (inr (rest, is)) = no_claims (same_inside root name (codes "claims") _ _ plain claims_is_name (place ∙ is)).0

      by_put : IsOwnPut root other plan path bytes → ⊥
      by_put (inl start) =
          let both : byte_back (broken (wait_path root name step)) 0 ≡ byte_back (start_path root other) 0 = ap (λ (p : List ℕ). byte_back p 0) (same ∙ start.0) in
          absurd (omega (arith, both, broken_last (wait_path root name step), start_last root other))
      by_put (inr (inl script)) = run_script _ _ (same_inside root name other _ _ plain spaced.plain (place ∙ (script.at ∙ script_in root other script.step))).1
      by_put (inr (inr space)) = by_space (space_place root other plan spaced path bytes space)

  -- a start file is put for its pod alone
  pub start_put_by : (path bytes : List ℕ) → IsOwnPut root other plan path bytes → start_path root name ≡ path → name ≡ other
  start_put_by path bytes put same = by_put put
    where
      place : inside root name (below (codes "run") (codes "start")) ≡ path
      place = sym (start_in root name) ∙ same

      by_space : IsSpacePlace root other path → name ≡ other
      by_space (inl (rest, is)) = (same_inside root name other _ _ plain spaced.plain (place ∙ is)).0
      by_space (inr (rest, is)) = absurd (no_claims (same_inside root name (codes "claims") _ _ plain claims_is_name (place ∙ is)).0)

      by_put : IsOwnPut root other plan path bytes → name ≡ other
      by_put (inl start) = (same_inside root name other _ _ plain spaced.plain (place ∙ (start.0 ∙ start_in root other))).0
      by_put (inr (inl script)) = (same_inside root name other _ _ plain spaced.plain (place ∙ (script.at ∙ script_in root other script.step))).0
      by_put (inr (inr space)) = by_space (space_place root other plan spaced path bytes space)

module _ (root name other : List ℕ) (plain : IsName name) (far : IsName other) where
  -- a result is no post file
  pub result_unposted : (result : List ℕ) (step : ℕ) → result_path root name result ≡ post_path root other step → ⊥
  result_unposted result step same = run_result result _ (same_inside root name other _ _ plain far (sym (result_in root name result) ∙ (same ∙ post_in root other step))).1

  pub result_unbroken : (result : List ℕ) (step : ℕ) → result_path root name result ≡ broken (post_path root other step) → ⊥
  result_unbroken result step same = run_result result _ (same_inside root name other _ _ plain far (sym (result_in root name result) ∙ (same ∙ broken_in root other _ (post_path root other step) (post_in root other step)))).1

  -- a wait file with `.err` is no result, and no post file
  pub broken_no_result : (step : ℕ) (result : List ℕ) → broken (wait_path root name step) ≡ inside root other (below (codes "results") result) → ⊥
  broken_no_result step result same =
      let wait = wait_in root name step in
      run_result result _ (sym (same_inside root name other _ _ plain far (sym (broken_in root name wait.0 (wait_path root name step) wait.1) ∙ same)).1)

  pub broken_no_post : (step later : ℕ) → broken (wait_path root name step) ≡ post_path root other later → ⊥
  broken_no_post step later same =
      let both : byte_back (broken (wait_path root name step)) 0 ≡ byte_back (post_path root other later) 0 = ap (λ (p : List ℕ). byte_back p 0) same in
      absurd (omega (arith, both, broken_last (wait_path root name step), post_last root other later))

  -- what a step waits for with `.err` is what the step before it leaves so
  pub broken_post : (step before : ℕ) → step < 2 ^ 32 → before < 2 ^ 32 → broken (wait_path root name step) ≡ broken (post_path root other before) → (step ≡ suc before) × (name ≡ other)
  broken_post zero before small least same =
      let whole = append_cancel_right (start_path root name) (post_path root other before) (codes ".err") same in
      let both : byte_back (start_path root name) 1 ≡ byte_back (post_path root other before) 1 = ap (λ (p : List ℕ). byte_back p 1) whole in
      absurd (omega (arith, both, start_before root name, post_before root other before))
  broken_post (suc step) before small least same =
      let whole = append_cancel_right (wait_path root name (suc step)) (post_path root other before) (codes ".err") same in
      let posts : post_path root name step ≡ post_path root other before = sym (wait_next root name step) ∙ whole in
      let names : name ≡ other = (same_inside root name other _ _ plain far (sym (post_in root name step) ∙ (posts ∙ post_in root other before))).0 in
      let own : post_path root name step ≡ post_path root name before = posts ∙ ap (λ (n : List ℕ). post_path root n before) (sym names) in
      (ap suc ((layout_is root).apart name step before (omega arith) least own), names)
