-- What stands at the files by which the steps of a pod wait for each other.
use Rattle.std.proofs.Common.{◌≡◌, ◌≢◌, ℕ, suc, ◌<◌, ◌^◌, List, [], ◌∷◌, ◌++◌, Option, Some, None, is_some, Bool, true, false, refl, sym, ◌∙◌, ap, subst, inl, inr, arith, nat_eq, codes, map}
use Rattle.std.specs.Prelude.{bytes_eq, filter, if◌then◌else◌}
use Rattle.std.specs.Map.{lookup}
use Rattle.std.specs.Option.{option_or}
use Rattle.std.proofs.lemmas.Bool.{cases_Bool, eqb-true, eq-eqb}
use Rattle.std.proofs.lemmas.List.{append_assoc}
use Rattle.std.proofs.lemmas.Option.{same_Some}
use Rattle.std.proofs.lemmas.Slice.Eq.{bytes_eq-Decides}
use Rattle.tk_pod.specs.Exits.{continues, passes}
use Rattle.tk_types.specs.declared.value.Pair.{Pair}
use Rattle.tk_edge.specs.declared.event.Event.{Event}
use Rattle.tk_edge.specs.declared.event.Event.TheVariants as events
use Rattle.tk_edge.specs.declared.event.Arming.{Arming}
use Rattle.tk_edge.specs.declared.order.Order.{Order}
use Rattle.tk_edge.specs.Files.{broken, is_under}
use Rattle.tk_edge.specs.History.{Has, Fits, IsTold, MayStart, arming_of, exit_of, order_of, was_put}
use Rattle.tk_edge.specs.InOrder.{AreStartsArmed}
use Rattle.tk_edge.specs.Memory.{leaves, post_of}
use Rattle.tk_edge.proofs.InOrder.{arming_stays, armed_with, exit_started, order_new}
use Rattle.tk_script.specs.ScriptHost.{Scripts, RefuseAsScripted, files_in, has_begun, is_plain, result_of, results_at, results_for, script_file, script_of}
use Rattle.tk_space.specs.Apart.{IsName}
use Rattle.tk_space.specs.Space.{below}
use Rattle.tk_steps.specs.Paths.{start_path, wait_path}
use Rattle.tk_held.proofs.Under.{own_folder, under_lies}
use Rattle.tk_machine.specs.Kills.{BrokeBefore}
use Rattle.tk_play.specs.Own.{MayOwn, AreOwn}
use Rattle.tk_play.proofs.Own.{IsArmedAt, armed_at, broke_later, goes_one}
use Rattle.tk_play.proofs.Paths.{inside, same_inside, post_in, broken_unput, start_put_by, broken_no_result, broken_no_post, broken_post}

-- a file stands, whatever may have been written over it

or_stands : (first file : Option (List ℕ)) → is_some file ≡ true → is_some (option_or first file) ≡ true
or_stands None file stands = stands
or_stands (Some bytes) file stands = refl

if_stands : (written : Bool) (bytes : List ℕ) (file : Option (List ℕ)) → is_some file ≡ true → is_some (if written then Some bytes else file) ≡ true
if_stands true bytes file stands = refl
if_stands false bytes file stands = stands

-- what is cleared for a pod lies in its folder
pub cleared_for : (root name : List ℕ) (plain : IsName name) (rest path folder : List ℕ) (older : List Event) (answered : Bool) (own : MayOwn root (events.Cleared folder answered) older) → path ≡ inside root name rest → is_under folder path ≡ true → name ≡ own.name
cleared_for root name plain rest path folder older answered own is under =
    let lies = own_folder root own.name folder path own.may.0 (under_lies folder path under) in
    (same_inside root name own.name rest lies.0 plain own.spaced.plain (sym is ∙ lies.1)).0

module _ (scripts : Scripts) where
  abbrev root : List ℕ
  root = scripts.root

  -- the results of a pod's script lie among its results

  pub result_key : (pod key : List ℕ) → root ++ codes "/" ++ pod ++ codes "/results/" ++ key ≡ inside root pod (below (codes "results") key)
  result_key pod key = simp append_assoc

  module _ (path pod : List ℕ) (other : (key : List ℕ) → path ≡ inside root pod (below (codes "results") key) → ⊥) where
    none_among : (files : List Pair) → lookup (bytes_eq path) (map (result_of root pod) files) ≡ None
    none_among [] = refl
    none_among (file ∷ files) = elim (cases_Bool (bytes_eq path (root ++ codes "/" ++ pod ++ codes "/results/" ++ file.key))) [
      | inl hit ↦ absurd (other file.key ((bytes_eq-Decides path (root ++ codes "/" ++ pod ++ codes "/results/" ++ file.key)).0 hit ∙ result_key pod file.key))
      | inr miss ↦ rw miss (none_among files)
    ]

    pub none_left : (older : List Event) → lookup (bytes_eq path) (results_at scripts pod older) ≡ None
    none_left older = by_begun (has_begun pod older)
      where
        by_begun : (begun : Bool) → lookup (bytes_eq path) (if begun then [] else results_for scripts pod) ≡ None
        by_begun true = refl
        by_begun false = none_among (filter is_plain (files_in (script_of scripts.pods pod)))

  -- a file that was put stands
  put_stands : (path : List ℕ) (told : List Event) → was_put path told ≡ true → is_some (script_file scripts path told) ≡ true
  put_stands path [] put = cc
  put_stands path (events.Put other bytes true ∷ older) put = elim (cases_Bool (bytes_eq path other)) [
    | inl hit ↦ rw hit refl
    | inr miss ↦ rw miss (put_stands path older (rw miss at put))
  ]
  put_stands path (events.Put other bytes false ∷ older) put = put_stands path older put
  put_stands path (events.Cleared folder true ∷ older) put = elim (cases_Bool (is_under folder path)) [
    | inl hit ↦ (let bad : false ≡ true = rw hit at put in cc (bad))
    | inr miss ↦ rw miss (put_stands path older (rw miss at put))
  ]
  put_stands path (events.Cleared folder false ∷ older) put = put_stands path older put
  put_stands path (events.Fetched other bytes ∷ older) put = put_stands path older put
  put_stands path (events.Armed child arming ∷ older) put = put_stands path older put
  put_stands path (events.Started child order ∷ older) put = or_stands (lookup (bytes_eq path) (results_at scripts order.pod older)) (script_file scripts path older) (put_stands path older put)
  put_stands path (events.Refused child ∷ older) put = if_stands (leaves path None (arming_of child older)) [] (script_file scripts path older) (put_stands path older put)
  put_stands path (events.Exited child exit ∷ older) put = if_stands (leaves path (Some exit) (arming_of child older)) [] (script_file scripts path older) (put_stands path older put)

  -- the file that an entry left which passed stands
  passed_stands : (told : List Event) → AreOwn root told → IsTold told → (child exit : ℕ) (arming : Arming) → arming_of child told ≡ Some arming → exit_of child told ≡ Some exit → passes arming.keep_going exit ≡ true → is_some (script_file scripts arming.post told) ≡ true
  passed_stands [] own is_told child exit arming armed exited passed = cc
  passed_stands (events.Put other bytes true ∷ older) own is_told child exit arming armed exited passed =
      if_stands (bytes_eq arming.post other) bytes (script_file scripts arming.post older) (passed_stands older own.1 is_told.1 child exit arming armed exited passed)
  passed_stands (events.Put other bytes false ∷ older) own is_told child exit arming armed exited passed = passed_stands older own.1 is_told.1 child exit arming armed exited passed
  passed_stands (events.Cleared folder true ∷ older) own is_told child exit arming armed exited passed = elim (cases_Bool (is_under folder arming.post)) [
    | inl hit ↦
        let at = armed_at root older child arming own.1 armed in
        let same = cleared_for root arming.order.pod at.plain _ arming.post folder older true own.0 (at.posts ∙ post_in root arming.order.pod arming.order.step) hit in
        absurd (own.0.may.1 child arming armed same)
    | inr miss ↦ rw miss (passed_stands older own.1 is_told.1 child exit arming armed exited passed)
  ]
  passed_stands (events.Cleared folder false ∷ older) own is_told child exit arming armed exited passed = passed_stands older own.1 is_told.1 child exit arming armed exited passed
  passed_stands (events.Fetched other bytes ∷ older) own is_told child exit arming armed exited passed = passed_stands older own.1 is_told.1 child exit arming armed exited passed
  passed_stands (events.Armed other first ∷ older) own is_told child exit arming armed exited passed = elim (cases_Bool (nat_eq child other)) [
    | inl hit ↦
        let started = exit_started child exit older is_told.1 exited in
        let none : order_of child older ≡ None = subst (λ (c : ℕ). order_of c older ≡ None) (sym (eqb-true child other hit)) (order_new other older is_told.0) in
        let bad : None ≡ Some started.it = sym none ∙ started.is in
        cc (bad)
    | inr miss ↦ passed_stands older own.1 is_told.1 child exit arming (rw miss at armed) exited passed
  ]
  passed_stands (events.Started other order ∷ older) own is_told child exit arming armed exited passed =
      or_stands (lookup (bytes_eq arming.post) (results_at scripts order.pod older)) (script_file scripts arming.post older) (passed_stands older own.1 is_told.1 child exit arming armed exited passed)
  passed_stands (events.Refused other ∷ older) own is_told child exit arming armed exited passed =
      if_stands (leaves arming.post None (arming_of other older)) [] (script_file scripts arming.post older) (passed_stands older own.1 is_told.1 child exit arming armed exited passed)
  passed_stands (events.Exited other now ∷ older) own is_told child exit arming armed exited passed = elim (cases_Bool (nat_eq child other)) [
    | inl hit ↦
        let found : Some now ≡ Some exit = rw hit at exited in
        let here : arming_of other older ≡ Some arming = subst (λ (c : ℕ). arming_of c older ≡ Some arming) (eqb-true child other hit) armed in
        let pass : passes arming.keep_going now ≡ true = ap (passes arming.keep_going) (same_Some now exit found) ∙ passed in
        let left : bytes_eq arming.post arming.post ≡ true = (bytes_eq-Decides arming.post arming.post).1 refl in
        rw (here, pass, left) refl
    | inr miss ↦ if_stands (leaves arming.post (Some now) (arming_of other older)) [] (script_file scripts arming.post older) (passed_stands older own.1 is_told.1 child exit arming armed (rw miss at exited) passed)
  ]

  -- so the wait file of an entry that may start stands
  pub may_start_stands : (told : List Event) → AreOwn root told → IsTold told → (arming : Arming) → MayStart arming told → is_some (script_file scripts arming.wait told) ≡ true
  may_start_stands told own is_told arming (inl put) = put_stands arming.wait told put
  may_start_stands told own is_told arming (inr p) = subst (λ (path : List ℕ). is_some (script_file scripts path told) ≡ true) p.post (passed_stands told own is_told p.child p.exit p.arming p.armed p.exited p.passed)

  -- a wait file with `.err` stands only behind a step that broke
  module _ (name : List ℕ) (plain : IsName name) (no_claims : name ≢ codes "claims") (keep : ℕ) where
    -- the pod's entries go on as its plan says
    abbrev pub AreKeeping : List Event → Type 0
    AreKeeping told = (child : ℕ) (arming : Arming) → arming_of child told ≡ Some arming → arming.order.pod ≡ name → arming.keep_going ≡ continues keep arming.order.step

    pub keeping_older : (e : Event) (older : List Event) → Fits e older → AreKeeping (e ∷ older) → AreKeeping older
    keeping_older e older fits keeping child arming armed same = keeping child arming (arming_stays child arming e older fits armed) same

    abbrev path_of : ℕ → List ℕ
    path_of step = broken (wait_path root name step)

    abbrev Stands : ℕ → List Event → Type 0
    Stands step told = is_some (script_file scripts (path_of step) told) ≡ true

    later : (step : ℕ) (e : Event) (older : List Event) → IsTold (e ∷ older) → BrokeBefore keep name step older → BrokeBefore keep name step (e ∷ older)
    later step e older is_told broke = broke_later keep name step older (e ∷ older) (goes_one e older) is_told broke

    -- the file is left by the entry before
    record LeftBy (step : ℕ) (arming : Arming) : Type 0 where
      next : step ≡ suc arming.order.step
      same : name ≡ arming.order.pod

    left_by : (step : ℕ) → step < 2 ^ 32 → (told : List Event) → AreOwn root told → (child : ℕ) (arming : Arming) → arming_of child told ≡ Some arming → path_of step ≡ broken arming.post → LeftBy step arming
    left_by step small told own child arming armed is =
        let at = armed_at root told child arming own armed in
        let both = broken_post root name arming.order.pod plain at.plain step arming.order.step small at.small (is ∙ ap broken at.posts) in
        record { next = both.0; same = both.1 }

    -- by an exit that doesn't pass
    exit_broke : (step child exit : ℕ) (older : List Event) → step < 2 ^ 32 → AreOwn root older → IsTold (events.Exited child exit ∷ older) → AreStartsArmed older → AreKeeping older → (arming : Arming) → arming_of child older ≡ Some arming → bytes_eq (path_of step) (post_of (Some exit) arming) ≡ true
        → BrokeBefore keep name step (events.Exited child exit ∷ older)
    exit_broke step child exit older small own is_told starts keeping arming armed left = by_pass (passes arming.keep_going exit) refl
      where
        at : IsArmedAt root arming
        at = armed_at root older child arming own armed

        is : path_of step ≡ post_of (Some exit) arming
        is = (bytes_eq-Decides (path_of step) (post_of (Some exit) arming)).0 left

        by_pass : (passed : Bool) → passes arming.keep_going exit ≡ passed → BrokeBefore keep name step (events.Exited child exit ∷ older)
        by_pass true passed =
            let posted : path_of step ≡ arming.post = rw passed at is in
            absurd (broken_no_post root name arming.order.pod plain at.plain step arming.order.step (posted ∙ at.posts))
        by_pass false broke =
            let posted : path_of step ≡ broken arming.post = rw broke at is in
            let by = left_by step small older own child arming armed posted in
            let runs = is_told.0 in
            let entry = armed_with child runs.order older is_told.1 starts runs.started in
            let same : entry.it ≡ arming = same_Some entry.it arming (sym entry.is ∙ armed) in
            let order : runs.order ≡ arming.order = entry.has ∙ ap (λ (a : Arming). a.order) same in (
              arming.order.step,
              omega (arith, by.next),
              record {
                child = child;
                order = runs.order;
                started = runs.started;
                same_pod = ap (λ (o : Order). o.pod) order ∙ sym by.same;
                same_step = ap (λ (o : Order). o.step) order;
                exit = exit;
                exited = rw (eq-eqb child child refl) refl;
                broke = ap (λ (k : Bool). passes k exit) (sym (keeping child arming armed (sym by.same))) ∙ broke;
              },
            )

    some_file : (file : Option (List ℕ)) → Has file (λ bytes. Unit {0}) → is_some file ≡ true
    some_file file has = ap is_some has.is

    pub stands_broke : (told : List Event) → AreOwn root told → IsTold told → AreStartsArmed told → RefuseAsScripted scripts told → AreKeeping told → (step : ℕ) → step < 2 ^ 32 → Stands step told → BrokeBefore keep name step told
    stands_broke [] own is_told starts refuses keeping step small stands = cc
    stands_broke (events.Put path bytes true ∷ older) own is_told starts refuses keeping step small stands = elim (cases_Bool (bytes_eq (path_of step) path)) [
      | inl hit ↦ absurd (broken_unput root name own.0.name plain no_claims own.0.plan own.0.spaced step path bytes own.0.may.0 ((bytes_eq-Decides (path_of step) path).0 hit))
      | inr miss ↦ later step (events.Put path bytes true) older is_told (stands_broke older own.1 is_told.1 starts refuses.1 (keeping_older (events.Put path bytes true) older is_told.0 keeping) step small (rw miss at stands))
    ]
    stands_broke (events.Put path bytes false ∷ older) own is_told starts refuses keeping step small stands =
        later step (events.Put path bytes false) older is_told (stands_broke older own.1 is_told.1 starts refuses.1 (keeping_older (events.Put path bytes false) older is_told.0 keeping) step small stands)
    stands_broke (events.Cleared folder true ∷ older) own is_told starts refuses keeping step small stands = elim (cases_Bool (is_under folder (path_of step))) [
      | inl hit ↦ (let bad : false ≡ true = rw hit at stands in cc (bad))
      | inr miss ↦ later step (events.Cleared folder true) older is_told (stands_broke older own.1 is_told.1 starts refuses.1 (keeping_older (events.Cleared folder true) older is_told.0 keeping) step small (rw miss at stands))
    ]
    stands_broke (events.Cleared folder false ∷ older) own is_told starts refuses keeping step small stands =
        later step (events.Cleared folder false) older is_told (stands_broke older own.1 is_told.1 starts refuses.1 (keeping_older (events.Cleared folder false) older is_told.0 keeping) step small stands)
    stands_broke (events.Fetched path bytes ∷ older) own is_told starts refuses keeping step small stands =
        later step (events.Fetched path bytes) older is_told (stands_broke older own.1 is_told.1 starts refuses.1 (keeping_older (events.Fetched path bytes) older is_told.0 keeping) step small stands)
    stands_broke (events.Armed child arming ∷ older) own is_told starts refuses keeping step small stands =
        later step (events.Armed child arming) older is_told (stands_broke older own.1 is_told.1 starts refuses.1 (keeping_older (events.Armed child arming) older is_told.0 keeping) step small stands)
    stands_broke (events.Started child order ∷ older) own is_told starts refuses keeping step small stands =
        let pod : order.pod ≡ own.0.name = ap (λ (o : Order). o.pod) own.0.may.own_order ∙ own.0.may.same_pod in
        let far : IsName order.pod = subst IsName (sym pod) own.0.spaced.plain in
        let none = none_left (path_of step) order.pod (λ key is. broken_no_result root name order.pod plain far step key is) older in
        later step (events.Started child order) older is_told (stands_broke older own.1 is_told.1 starts.1 refuses.1 (keeping_older (events.Started child order) older is_told.0 keeping) step small (rw none at stands))
    stands_broke (events.Refused child ∷ older) own is_told starts refuses keeping step small stands =
        by_arming (λ n less file. stands_broke older own.1 is_told.1 starts refuses.1 (keeping_older (events.Refused child) older is_told.0 keeping) n less file) (arming_of child older) refl stands
      where
        by_arming : ((n : ℕ) → n < 2 ^ 32 → Stands n older → BrokeBefore keep name n older) → (o : Option Arming) → arming_of child older ≡ o → is_some (if leaves (path_of step) None o then Some [] else script_file scripts (path_of step) older) ≡ true → BrokeBefore keep name step (events.Refused child ∷ older)
        by_arming rest None none file = later step (events.Refused child) older is_told (rest step small file)
        by_arming rest (Some arming) armed file = elim (cases_Bool (bytes_eq (path_of step) (broken arming.post))) [
          | inl hit ↦
              let by = left_by step small older own.1 child arming armed ((bytes_eq-Decides (path_of step) (broken arming.post)).0 hit) in
              let found = refuses.0 in
              let same : found.it ≡ arming = same_Some found.it arming (sym found.is ∙ armed) in
              let at = armed_at root older child arming own.1 armed in
              let wait : arming.wait ≡ wait_path root name arming.order.step = at.waits ∙ ap (λ (n : List ℕ). wait_path root n arming.order.step) (sym by.same) in
              let there : Stands arming.order.step older = subst (λ (w : List ℕ). is_some (script_file scripts (broken w) older) ≡ true) (ap (λ (a : Arming). a.wait) same ∙ wait) (some_file (script_file scripts (broken found.it.wait) older) found.has) in
              let broke = rest arming.order.step at.small there in
              later step (events.Refused child) older is_told (broke.0, omega (arith, broke.1, by.next), broke.2)
          | inr miss ↦ later step (events.Refused child) older is_told (rest step small (rw miss at file))
        ]
    stands_broke (events.Exited child exit ∷ older) own is_told starts refuses keeping step small stands =
        by_arming (λ n less file. stands_broke older own.1 is_told.1 starts refuses.1 (keeping_older (events.Exited child exit) older is_told.0 keeping) n less file) (arming_of child older) refl stands
      where
        by_arming : ((n : ℕ) → n < 2 ^ 32 → Stands n older → BrokeBefore keep name n older) → (o : Option Arming) → arming_of child older ≡ o → is_some (if leaves (path_of step) (Some exit) o then Some [] else script_file scripts (path_of step) older) ≡ true → BrokeBefore keep name step (events.Exited child exit ∷ older)
        by_arming rest None none file = later step (events.Exited child exit) older is_told (rest step small file)
        by_arming rest (Some arming) armed file = elim (cases_Bool (bytes_eq (path_of step) (post_of (Some exit) arming))) [
          | inl hit ↦ exit_broke step child exit older small own.1 is_told starts (keeping_older (events.Exited child exit) older is_told.0 keeping) arming armed hit
          | inr miss ↦ later step (events.Exited child exit) older is_told (rest step small (rw miss at file))
        ]

-- The start file of a pod one of whose steps is armed stood before, where it stands now.
module _ (root name : List ℕ) (plain : IsName name) (no_claims : name ≢ codes "claims") (child : ℕ) (arming : Arming) (same : arming.order.pod ≡ name) where
  pub put_before : (since old : List Event) → AreOwn root (since ++ old) → IsTold (since ++ old) → arming_of child old ≡ Some arming → was_put (start_path root name) (since ++ old) ≡ true → was_put (start_path root name) old ≡ true
  put_before [] old own is_told armed put = put
  put_before (events.Put path bytes true ∷ since) old own is_told armed put = elim (cases_Bool (bytes_eq (start_path root name) path)) [
    | inl hit ↦
        let by = start_put_by root name own.0.name plain no_claims own.0.plan own.0.spaced path bytes own.0.may.0 ((bytes_eq-Decides (start_path root name) path).0 hit) in
        absurd (own.0.may.1 child arming (still since own.1 is_told.1) (same ∙ by))
    | inr miss ↦ put_before since old own.1 is_told.1 armed (rw miss at put)
  ]
    where
      still : (since : List Event) → AreOwn root (since ++ old) → IsTold (since ++ old) → arming_of child (since ++ old) ≡ Some arming
      still [] own is_told = armed
      still (e ∷ since) own is_told = arming_stays child arming e (since ++ old) is_told.0 (still since own.1 is_told.1)
  put_before (events.Put path bytes false ∷ since) old own is_told armed put = put_before since old own.1 is_told.1 armed put
  put_before (events.Cleared folder true ∷ since) old own is_told armed put = elim (cases_Bool (is_under folder (start_path root name))) [
    | inl hit ↦ (let bad : false ≡ true = rw hit at put in cc (bad))
    | inr miss ↦ put_before since old own.1 is_told.1 armed (rw miss at put)
  ]
  put_before (events.Cleared folder false ∷ since) old own is_told armed put = put_before since old own.1 is_told.1 armed put
  put_before (events.Fetched path bytes ∷ since) old own is_told armed put = put_before since old own.1 is_told.1 armed put
  put_before (events.Armed other first ∷ since) old own is_told armed put = put_before since old own.1 is_told.1 armed put
  put_before (events.Started other order ∷ since) old own is_told armed put = put_before since old own.1 is_told.1 armed put
  put_before (events.Refused other ∷ since) old own is_told armed put = put_before since old own.1 is_told.1 armed put
  put_before (events.Exited other exit ∷ since) old own is_told armed put = put_before since old own.1 is_told.1 armed put
