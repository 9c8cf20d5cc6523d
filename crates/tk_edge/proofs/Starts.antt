-- When a host in memory starts an entry, and which files its turn leaves.
use Rattle.std.proofs.Common.{◌≡◌, ℕ, List, [], ◌∷◌, ◌++◌, take, drop, length, Bool, true, false, refl, sym, ◌∙◌, ap, subst, inl, inr}
use Rattle.std.specs.Prelude.{bytes_eq, nat_eq, ◌||◌, ◌&&◌, ◌↔◌, IsTrue, Option, Some, None, is_some}
use Rattle.std.specs.Cmp.{both_ways}
use Rattle.std.proofs.Math.Bool.{or-true}
use Rattle.std.proofs.lemmas.Bool.{cases_Bool, eqb-true}
use Rattle.std.proofs.lemmas.List.{append_cancel_left, take-append-drop}
use Rattle.std.proofs.Math.Seq.{take-append_seam}
use Rattle.std.proofs.lemmas.Slice.Eq.{bytes_eq-Decides}
use Rattle.tk_pod.specs.Exits.{passes}
use Rattle.tk_edge.specs.declared.event.Event.{Event}
use Rattle.tk_edge.specs.declared.event.Event.TheVariants as events
use Rattle.tk_edge.specs.declared.event.Arming.{Arming}
use Rattle.tk_edge.specs.declared.order.Watch.TheVariants as watches
use Rattle.tk_edge.specs.Files.{IsWatchFile, broken}
use Rattle.tk_edge.specs.History.{Has, HasPassed, MayStart, arming_of, exit_of, was_put}
use Rattle.tk_edge.specs.Markers.{Stands, FollowsMarkers}
use Rattle.tk_edge.specs.Memory.{file_of, leaves, post_of, has_passed_with, child_passed, some_passed}

pub both : (a b : Bool) → (a && b) ≡ true → (a ≡ true) × (b ≡ true)
both true b is = (refl, is)
both false b is = cc

-- an entry that passed, and that it is found

pub child_has : (pod path : List ℕ) (h : List Event) (child : ℕ) (a : Option Arming) (x : Option ℕ) → arming_of child h ≡ a → exit_of child h ≡ x → has_passed_with pod path a x ≡ true → HasPassed pod path h
child_has pod path h child (Some a) (Some exit) armed exited is =
    let first = both (bytes_eq a.order.pod pod && bytes_eq a.post path) (passes a.keep_going exit) is in
    let names = both (bytes_eq a.order.pod pod) (bytes_eq a.post path) first.0 in
    record {
      child = child;
      arming = a;
      armed = armed;
      same_pod = (bytes_eq-Decides a.order.pod pod).0 names.0;
      post = (bytes_eq-Decides a.post path).0 names.1;
      exit = exit;
      exited = exited;
      passed = first.1;
    }
child_has pod path h child (Some a) None armed exited is = cc
child_has pod path h child None x armed exited is = cc

pub some_has : (pod path : List ℕ) (whole h : List Event) → some_passed pod path whole h ≡ true → HasPassed pod path whole
some_has pod path whole [] is = cc
some_has pod path whole (events.Armed child arming ∷ older) is = elim (cases_Bool (child_passed pod path whole child)) [
  | inl hit ↦ child_has pod path whole child (arming_of child whole) (exit_of child whole) refl refl hit
  | inr miss ↦ some_has pod path whole older (rw miss at is)
]
some_has pod path whole (_ ∷ older) is = some_has pod path whole older is

some_found : (pod path : List ℕ) (whole h : List Event) (child : ℕ) (a : Arming) → arming_of child h ≡ Some a → child_passed pod path whole child ≡ true → some_passed pod path whole h ≡ true
some_found pod path whole [] child a armed passed = cc
some_found pod path whole (events.Armed other arming ∷ older) child a armed passed = elim (cases_Bool (nat_eq child other)) [
  | inl hit ↦
      let here : child_passed pod path whole other ≡ true = subst (λ (c : ℕ). child_passed pod path whole c ≡ true) (eqb-true child other hit) passed in
      rw here refl
  | inr miss ↦
      let before : some_passed pod path whole older ≡ true = some_found pod path whole older child a (rw miss at armed) passed in
      rw (before, or-true) refl
]
some_found pod path whole (_ ∷ older) child a armed passed = some_found pod path whole older child a armed passed

pub passed_found : (pod path : List ℕ) (h : List Event) → HasPassed pod path h → some_passed pod path h h ≡ true
passed_found pod path h p =
    let pods : bytes_eq p.arming.order.pod pod ≡ true = (bytes_eq-Decides p.arming.order.pod pod).1 p.same_pod in
    let posts : bytes_eq p.arming.post path ≡ true = (bytes_eq-Decides p.arming.post path).1 p.post in
    let here : child_passed pod path h p.child ≡ true = rw (p.armed, p.exited, pods, posts, p.passed) refl in
    some_found pod path h h p.child p.arming p.armed here

pub may_start_iff : (a : Arming) (h : List Event) (put some : Bool) → was_put a.wait h ≡ put → some_passed a.order.pod a.wait h h ≡ some → IsTrue (put || some) ↔ MayStart a h
may_start_iff a h put some is_put has_some = (starts put some is_put has_some, found put some is_put has_some)
  where
    starts : (put some : Bool) → was_put a.wait h ≡ put → some_passed a.order.pod a.wait h h ≡ some → IsTrue (put || some) → MayStart a h
    starts true some is_put has_some may = inl is_put
    starts false true is_put has_some may = inr (some_has a.order.pod a.wait h h has_some)
    starts false false is_put has_some may = cc

    found : (put some : Bool) → was_put a.wait h ≡ put → some_passed a.order.pod a.wait h h ≡ some → MayStart a h → IsTrue (put || some)
    found true some is_put has_some may = refl
    found false true is_put has_some may = refl
    found false false is_put has_some (inl put) = cc
    found false false is_put has_some (inr passed) = let there = passed_found a.order.pod a.wait h passed in cc

pub may_start_else : (a : Arming) (h : List Event) (wait : List ℕ) (some : Bool) → wait ≡ a.wait → was_put wait h ≡ false → some_passed a.order.pod a.wait h h ≡ some → IsTrue some ↔ MayStart a h
may_start_else a h wait some is not_put has_some = may_start_iff a h false some (subst (λ (w : List ℕ). was_put w h ≡ false) is not_put) has_some

pub stands_iff : (path : List ℕ) (h : List Event) (o : Option (List ℕ)) → file_of path h ≡ o → IsTrue (is_some o) ↔ Stands path (λ p. file_of p h)
stands_iff path h (Some bytes) is = (λ some. record { it = bytes; is = is; has = tt }, λ stands. refl)
stands_iff path h None is = (λ some. cc, λ stands. (let now : None ≡ Some stands.it = sym is ∙ stands.is in cc))

-- what the answers of an entry that waits say of its files

both_sides : (b : Bool) → b ≡ false → b ≡ true → ⊥
both_sides b off on = cc

pub waits_fit : (child : ℕ) (killed : Bool) (h : List Event) (a : Arming) (err ready : Bool) → arming_of child h ≡ Some a → (IsTrue err ↔ Stands (broken a.wait) (λ p. file_of p h)) → err ≡ false → (IsTrue ready ↔ (Stands a.wait (λ p. file_of p h) × MayStart a h)) → ready ≡ false → FollowsMarkers child killed h (Some (λ p. file_of p h)) watches.Waits
waits_fit child killed h a err ready armed is_err no_err is_ready not_ready waits alive = record {
  it = a;
  is = armed;
  has = (λ stands. both_sides err no_err (is_err.1 stands), λ stands may. both_sides ready not_ready (is_ready.1 (stands, may)));
}

pub starts_fit : (child : ℕ) (killed : Bool) (h : List Event) (a : Arming) (err ready : Bool) → arming_of child h ≡ Some a → (IsTrue err ↔ Stands (broken a.wait) (λ p. file_of p h)) → err ≡ false → (IsTrue ready ↔ (Stands a.wait (λ p. file_of p h) × MayStart a h)) → ready ≡ true → FollowsMarkers child killed h (Some (λ p. file_of p h)) watches.Started
starts_fit child killed h a err ready armed is_err no_err is_ready now_ready waits alive = record {
  it = a;
  is = armed;
  has = (λ stands. both_sides err no_err (is_err.1 stands), (is_ready.0 now_ready).0);
}

pub refused_fit : (child : ℕ) (killed : Bool) (h : List Event) (a : Arming) (err : Bool) → arming_of child h ≡ Some a → (IsTrue err ↔ Stands (broken a.wait) (λ p. file_of p h)) → err ≡ true → FollowsMarkers child killed h (Some (λ p. file_of p h)) (watches.Broke None)
refused_fit child killed h a err armed is_err now_err waits alive = record { it = a; is = armed; has = is_err.0 now_err }

-- the files that an entry leaves are its own

leaves_file : (path : List ℕ) (exit : Option ℕ) (a : Arming) → bytes_eq path (post_of exit a) ≡ true → IsWatchFile a path
leaves_file path (Some exit) a is = elim (cases_Bool (passes a.keep_going exit)) [
  | inl hit ↦ inr (inl ((bytes_eq-Decides path a.post).0 (rw hit at is)))
  | inr miss ↦ inr (inr ((bytes_eq-Decides path (broken a.post)).0 (rw miss at is)))
]
leaves_file path None a is = inr (inr ((bytes_eq-Decides path (broken a.post)).0 is))

pub leaves_own : (path : List ℕ) (exit : Option ℕ) (o : Option Arming) → leaves path exit o ≡ true → Has o (λ arming. IsWatchFile arming path)
leaves_own path exit (Some a) is = record { it = a; is = refl; has = leaves_file path exit a is }
leaves_own path exit None is = cc

pub refused_rest : (child : ℕ) (path : List ℕ) (h new : List Event) → new ≡ events.Refused child ∷ h → (Has (arming_of child h) (λ arming. IsWatchFile arming path) → ⊥) → file_of path new ≡ file_of path h
refused_rest child path h new told differ = elim (cases_Bool (leaves path None (arming_of child h))) [
  | inl hit ↦ absurd (differ (leaves_own path None (arming_of child h) hit))
  | inr miss ↦ rw (told, miss) refl
]

pub ended_rest : (child exit : ℕ) (path : List ℕ) (h new : List Event) → new ≡ events.Exited child exit ∷ h → (Has (arming_of child h) (λ arming. IsWatchFile arming path) → ⊥) → file_of path new ≡ file_of path h
ended_rest child exit path h new told differ = elim (cases_Bool (leaves path (Some exit) (arming_of child h))) [
  | inl hit ↦ absurd (differ (leaves_own path (Some exit) (arming_of child h) hit))
  | inr miss ↦ rw (told, miss) refl
]

-- a path that begins with another, and what comes behind it

tail_is : (path post rest end : List ℕ) → bytes_eq (take (length post) path) post ≡ true → rest ≡ drop (length post) path → bytes_eq rest end ≡ bytes_eq path (post ++ end)
tail_is path post rest end same is =
    let front : take (length post) path ≡ post = (bytes_eq-Decides (take (length post) path) post).0 same in
    let whole : path ≡ post ++ rest = sym (take-append-drop (length post) path) ∙ (ap (λ (f : List ℕ). f ++ drop (length post) path) front ∙ ap (λ (r : List ℕ). post ++ r) (sym is)) in
    both_ways (bytes_eq rest end) (bytes_eq path (post ++ end))
    (λ hit. (bytes_eq-Decides path (post ++ end)).1 (whole ∙ ap (λ (r : List ℕ). post ++ r) ((bytes_eq-Decides rest end).0 hit)))
    (λ hit. (bytes_eq-Decides rest end).1 (append_cancel_left post rest end (sym whole ∙ (bytes_eq-Decides path (post ++ end)).0 hit)))

pub ends_so : (path post rest found end : List ℕ) → found ≡ end → bytes_eq (take (length post) path) post ≡ true → rest ≡ drop (length post) path → bytes_eq rest found ≡ bytes_eq path (post ++ end)
ends_so path post rest found end is same rest_is = subst (λ (e : List ℕ). bytes_eq rest e ≡ bytes_eq path (post ++ end)) (sym is) (tail_is path post rest end same rest_is)

pub no_tail : (path post end : List ℕ) → bytes_eq (take (length post) path) post ≡ false → false ≡ bytes_eq path (post ++ end)
no_tail path post end differ = elim (cases_Bool (bytes_eq path (post ++ end))) [
  | inl hit ↦
      let front : take (length post) path ≡ post = ap (λ (p : List ℕ). take (length post) p) ((bytes_eq-Decides path (post ++ end)).0 hit) ∙ take-append_seam post end in
      let same : bytes_eq (take (length post) path) post ≡ true = (bytes_eq-Decides (take (length post) path) post).1 front in
      cc
  | inr miss ↦ sym miss
]
