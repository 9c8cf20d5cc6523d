-- What an index of a history that plays scripts owes after each event.
use Rattle.std.proofs.Common.{◌≡◌, ◌+◌, ℕ, Bool, true, false, List, [], ◌∷◌, ◌++◌, length, refl, sym, ap, ◌∙◌, inl, inr, subst, nat_eq, not, ◌&&◌, ◌||◌, if◌then◌else◌}
use Rattle.std.specs.Prelude.{bytes_eq, slice_index_or, Option, Some, None}
use Rattle.std.specs.Option.{option_or, option_map, option_map_or}
use Rattle.std.specs.Map.{lookup}
use Rattle.std.proofs.lemmas.Bool.{cases_Bool, eqb-true}
use Rattle.std.proofs.lemmas.List.{length-append}
use Rattle.tk_script.specs.declared.file_table.Held.{Held}
use Rattle.tk_edge.specs.declared.event.Event.{Event}
use Rattle.tk_edge.specs.declared.event.Event.TheVariants as events
use Rattle.tk_edge.specs.declared.event.Arming.{Arming}
use Rattle.tk_edge.specs.declared.order.Order.{Order}
use Rattle.tk_edge.specs.Files.{is_under}
use Rattle.tk_script.specs.FileTable.{bytes_at, put_at}
use Rattle.tk_edge.specs.History.{HasPassed, IsNew, arming_of, exit_of, order_of}
use Rattle.tk_edge.specs.Memory.{has_passed_with, leaves, some_passed}
use Rattle.tk_script.specs.ScriptHost.{Scripts, IsPlayed, RefusesScripted, results_at, results_for, script_file, scripted_exit}
use Rattle.tk_edge.proofs.Logs.{nat_eq_true, push_at}
use Rattle.tk_edge.proofs.Starts.{child_has, passed_found, some_has}
use Rattle.std.specs.Cmp.{both_ways}
use Rattle.std.specs.List.{list_any}
use Rattle.std.proofs.Math.Bool.{or-true}
use Rattle.std.proofs.lemmas.Slice.Eq.{bytes_eq-Decides}

-- nothing is told of a new child

some_none : {X : Type 0} (o : Option X) (x : X) → o ≡ None → o ≡ Some x → ⊥
some_none o x none some = let both : None ≡ Some x = sym none ∙ some in cc

pub new_arming : (child : ℕ) (told : List Event) → IsNew child told → arming_of child told ≡ None
new_arming child [] new = refl
new_arming child (events.Armed other arming ∷ older) new = rw new.0 (new_arming child older new.1)
new_arming child (events.Put path bytes answered ∷ older) new = new_arming child older new.1
new_arming child (events.Cleared folder answered ∷ older) new = new_arming child older new.1
new_arming child (events.Fetched path bytes ∷ older) new = new_arming child older new.1
new_arming child (events.Started other order ∷ older) new = new_arming child older new.1
new_arming child (events.Refused other ∷ older) new = new_arming child older new.1
new_arming child (events.Exited other exit ∷ older) new = new_arming child older new.1

pub new_order : (child : ℕ) (told : List Event) → IsNew child told → order_of child told ≡ None
new_order child [] new = refl
new_order child (events.Started other order ∷ older) new = rw new.0 (new_order child older new.1)
new_order child (events.Put path bytes answered ∷ older) new = new_order child older new.1
new_order child (events.Cleared folder answered ∷ older) new = new_order child older new.1
new_order child (events.Fetched path bytes ∷ older) new = new_order child older new.1
new_order child (events.Armed other arming ∷ older) new = new_order child older new.1
new_order child (events.Refused other ∷ older) new = new_order child older new.1
new_order child (events.Exited other exit ∷ older) new = new_order child older new.1

pub new_exit : (child : ℕ) (told : List Event) → IsNew child told → exit_of child told ≡ None
new_exit child [] new = refl
new_exit child (events.Exited other exit ∷ older) new = rw new.0 (new_exit child older new.1)
new_exit child (events.Put path bytes answered ∷ older) new = new_exit child older new.1
new_exit child (events.Cleared folder answered ∷ older) new = new_exit child older new.1
new_exit child (events.Fetched path bytes ∷ older) new = new_exit child older new.1
new_exit child (events.Armed other arming ∷ older) new = new_exit child older new.1
new_exit child (events.Started other order ∷ older) new = new_exit child older new.1
new_exit child (events.Refused other ∷ older) new = new_exit child older new.1

-- which entries passed

has_same : (pod path : List ℕ) (told now : List Event) → ((c : ℕ) → arming_of c now ≡ arming_of c told) → ((c : ℕ) → exit_of c now ≡ exit_of c told) → HasPassed pod path told → HasPassed pod path now
has_same pod path told now armings exits p = record {
  child = p.child;
  arming = p.arming;
  armed = armings p.child ∙ p.armed;
  same_pod = p.same_pod;
  post = p.post;
  exit = p.exit;
  exited = exits p.child ∙ p.exited;
  passed = p.passed;
}

by_passes : (pod path : List ℕ) (told now : List Event) → (HasPassed pod path now → HasPassed pod path told) → (HasPassed pod path told → HasPassed pod path now) → some_passed pod path now now ≡ some_passed pod path told told
by_passes pod path told now back on = both_ways (some_passed pod path now now) (some_passed pod path told told)
    (λ is. passed_found pod path told (back (some_has pod path now now is)))
    (λ is. passed_found pod path now (on (some_has pod path told told is)))

passed_same : (pod path : List ℕ) (told now : List Event) → ((c : ℕ) → arming_of c now ≡ arming_of c told) → ((c : ℕ) → exit_of c now ≡ exit_of c told) → some_passed pod path now now ≡ some_passed pod path told told
passed_same pod path told now armings exits = by_passes pod path told now
    (has_same pod path now told (λ c. sym (armings c)) (λ c. sym (exits c)))
    (has_same pod path told now armings exits)

armed_on : (pod path : List ℕ) (told : List Event) (n : ℕ) (arming : Arming) → IsNew n told → HasPassed pod path told → HasPassed pod path (events.Armed n arming ∷ told)
armed_on pod path told n arming new p = elim (cases_Bool (nat_eq p.child n)) [
  | inl hit ↦ absurd (some_none (exit_of p.child told) p.exit (subst (λ (k : ℕ). exit_of k told ≡ None) (sym (eqb-true p.child n hit)) (new_exit n told new)) p.exited)
  | inr miss ↦ record { child = p.child; arming = p.arming; armed = rw miss p.armed; same_pod = p.same_pod; post = p.post; exit = p.exit; exited = p.exited; passed = p.passed }
]

armed_back : (pod path : List ℕ) (told : List Event) (n : ℕ) (arming : Arming) → IsNew n told → HasPassed pod path (events.Armed n arming ∷ told) → HasPassed pod path told
armed_back pod path told n arming new p = elim (cases_Bool (nat_eq p.child n)) [
  | inl hit ↦ absurd (some_none (exit_of p.child told) p.exit (subst (λ (k : ℕ). exit_of k told ≡ None) (sym (eqb-true p.child n hit)) (new_exit n told new)) p.exited)
  | inr miss ↦ record { child = p.child; arming = p.arming; armed = (let before = rw miss at p.armed in before); same_pod = p.same_pod; post = p.post; exit = p.exit; exited = p.exited; passed = p.passed }
]

passed_armed : (pod path : List ℕ) (told : List Event) (n : ℕ) (arming : Arming) → IsNew n told → some_passed pod path (events.Armed n arming ∷ told) (events.Armed n arming ∷ told) ≡ some_passed pod path told told
passed_armed pod path told n arming new = by_passes pod path told (events.Armed n arming ∷ told) (armed_back pod path told n arming new) (armed_on pod path told n arming new)

-- an entry passed before, or with this exit
exited_on : (pod path : List ℕ) (told : List Event) (child exit : ℕ) → exit_of child told ≡ None → HasPassed pod path told → HasPassed pod path (events.Exited child exit ∷ told)
exited_on pod path told child exit runs p = elim (cases_Bool (nat_eq p.child child)) [
  | inl hit ↦ absurd (some_none (exit_of p.child told) p.exit (subst (λ (k : ℕ). exit_of k told ≡ None) (sym (eqb-true p.child child hit)) runs) p.exited)
  | inr miss ↦ record { child = p.child; arming = p.arming; armed = p.armed; same_pod = p.same_pod; post = p.post; exit = p.exit; exited = rw miss p.exited; passed = p.passed }
]

exited_now : (pod path : List ℕ) (told : List Event) (child exit : ℕ) → has_passed_with pod path (arming_of child told) (Some exit) ≡ true → HasPassed pod path (events.Exited child exit ∷ told)
exited_now pod path told child exit is =
    let here : exit_of child (events.Exited child exit ∷ told) ≡ Some exit = rw (nat_eq_true child child refl) refl in
    child_has pod path (events.Exited child exit ∷ told) child (arming_of child told) (Some exit) refl here is

exited_back : (pod path : List ℕ) (told : List Event) (child exit : ℕ) → HasPassed pod path (events.Exited child exit ∷ told) → (some_passed pod path told told || has_passed_with pod path (arming_of child told) (Some exit)) ≡ true
exited_back pod path told child exit p = elim (cases_Bool (nat_eq p.child child)) [
  | inl hit ↦
      let code : Some exit ≡ Some p.exit = rw hit at p.exited in
      let same : exit ≡ p.exit = cc in
      let armed : arming_of child told ≡ Some p.arming = subst (λ (k : ℕ). arming_of k told ≡ Some p.arming) (eqb-true p.child child hit) p.armed in
      let pods : bytes_eq p.arming.order.pod pod ≡ true = (bytes_eq-Decides p.arming.order.pod pod).1 p.same_pod in
      let posts : bytes_eq p.arming.post path ≡ true = (bytes_eq-Decides p.arming.post path).1 p.post in
      let now : has_passed_with pod path (arming_of child told) (Some exit) ≡ true = rw (armed, same, pods, posts, p.passed) refl in
      rw (now, or-true) refl
  | inr miss ↦
      let before : HasPassed pod path told = record { child = p.child; arming = p.arming; armed = p.armed; same_pod = p.same_pod; post = p.post; exit = p.exit; exited = (let e = rw miss at p.exited in e); passed = p.passed } in
      rw (passed_found pod path told before) refl
]

passed_exited : (pod path : List ℕ) (told : List Event) (child exit : ℕ) → exit_of child told ≡ None → some_passed pod path (events.Exited child exit ∷ told) (events.Exited child exit ∷ told) ≡ (some_passed pod path told told || has_passed_with pod path (arming_of child told) (Some exit))
passed_exited pod path told child exit runs = both_ways (some_passed pod path now now) (some_passed pod path told told || has_passed_with pod path (arming_of child told) (Some exit))
    (λ is. exited_back pod path told child exit (some_has pod path now now is))
    (λ is. passed_found pod path now (either (some_passed pod path told told) refl is))
  where
    now : List Event
    now = events.Exited child exit ∷ told

    either : (b : Bool) → some_passed pod path told told ≡ b → (b || has_passed_with pod path (arming_of child told) (Some exit)) ≡ true → HasPassed pod path now
    either true is some = exited_on pod path told child exit runs (some_has pod path told told is)
    either false is some = exited_now pod path told child exit some

-- what was told before the last event, and rooms that were made

pub after_room : (e : Event) (told mid now : List Event) → now ≡ e ∷ mid → mid ≡ told → now ≡ e ∷ told
after_room e told mid now tells same = tells ∙ ap (λ (h : List Event). e ∷ h) same

pub new_after : (child : ℕ) (told mid : List Event) → IsNew child mid → mid ≡ told → IsNew child told
new_after child told mid new same = subst (λ (h : List Event). IsNew child h) same new

pub pushed_after : (exit : ℕ) (old mid now : List ℕ) → now ≡ mid ++ exit ∷ [] → mid ≡ old → now ≡ old ++ exit ∷ []
pushed_after exit old mid now is same = is ∙ ap (λ (xs : List ℕ). xs ++ exit ∷ []) same

pub widened : (s : Scripts) (told : List Event) (table : List ℕ → Option Held) (begun : List ℕ → Bool) (passed : List ℕ → List (List ℕ)) (exits : List ℕ) (n : ℕ) (wide : List ℕ → Option Held) (more : List ℕ → Bool)
    → ((q : List ℕ) → wide q ≡ table q) → ((q : List ℕ) → more q ≡ begun q) → IsPlayed s told table begun passed exits n → IsPlayed s told wide more passed exits n
widened s told table begun passed exits n wide more same_table same_begun i = record {
  files = λ q. ap (option_map (λ (h : Held). h.bytes)) (same_table q) ∙ i.files q;
  puts = λ q. ap (λ (o : Option Held). option_map_or (λ (h : Held). h.put) o false) (same_table q) ∙ i.puts q;
  begins = λ q. same_begun q ∙ i.begins q;
  passes = i.passes;
  orders = i.orders;
  armings = i.armings;
  ends = i.ends;
  count = i.count;
  refuses = i.refuses;
}

-- an event that changes no file

module _ (s : Scripts) (told : List Event) (table : List ℕ → Option Held) (begun : List ℕ → Bool) (passed : List ℕ → List (List ℕ)) (exits : List ℕ) (n : ℕ) (i : IsPlayed s told table begun passed exits n) where
  as_before : (e : Event) → IsPlayed s (e ∷ told) table begun passed exits n → (now : List Event) (m : ℕ) → now ≡ e ∷ told → m ≡ n → IsPlayed s now table begun passed exits m
  as_before e j now m tells same =
      subst (λ (h : List Event). IsPlayed s h table begun passed exits m) (sym tells) (subst (λ (k : ℕ). IsPlayed s (e ∷ told) table begun passed exits k) (sym same) j)

  pub played_failed_put : (path bytes : List ℕ) (now : List Event) (m : ℕ) → now ≡ events.Put path bytes false ∷ told → m ≡ n → IsPlayed s now table begun passed exits m
  played_failed_put path bytes now m tells same = as_before (events.Put path bytes false) (record { files = i.files; puts = i.puts; begins = i.begins; passes = λ pod p. i.passes pod p ∙ sym (passed_same pod p told ((events.Put path bytes false) ∷ told) (λ c. refl) (λ c. refl)); orders = i.orders; armings = i.armings; ends = i.ends; count = i.count; refuses = (tt, i.refuses) }) now m tells same

  pub played_failed_clear : (folder : List ℕ) (now : List Event) (m : ℕ) → now ≡ events.Cleared folder false ∷ told → m ≡ n → IsPlayed s now table begun passed exits m
  played_failed_clear folder now m tells same = as_before (events.Cleared folder false) (record { files = i.files; puts = i.puts; begins = i.begins; passes = λ pod p. i.passes pod p ∙ sym (passed_same pod p told ((events.Cleared folder false) ∷ told) (λ c. refl) (λ c. refl)); orders = i.orders; armings = i.armings; ends = i.ends; count = i.count; refuses = (tt, i.refuses) }) now m tells same

  pub played_fetch : (path : List ℕ) (bytes : Option (List ℕ)) (now : List Event) (m : ℕ) → now ≡ events.Fetched path bytes ∷ told → m ≡ n → IsPlayed s now table begun passed exits m
  played_fetch path bytes now m tells same = as_before (events.Fetched path bytes) (record { files = i.files; puts = i.puts; begins = i.begins; passes = λ pod p. i.passes pod p ∙ sym (passed_same pod p told ((events.Fetched path bytes) ∷ told) (λ c. refl) (λ c. refl)); orders = i.orders; armings = i.armings; ends = i.ends; count = i.count; refuses = (tt, i.refuses) }) now m tells same

  pub played_put : (path bytes key held : List ℕ) (after : List ℕ → Option Held) (now : List Event) (m : ℕ) → now ≡ events.Put path bytes true ∷ told → m ≡ n → path ≡ key → bytes ≡ held
      → ((q : List ℕ) → bytes_at after q ≡ (if bytes_eq q key then Some held else bytes_at table q)) → ((q : List ℕ) → put_at after q ≡ ((true && bytes_eq q key) || put_at table q)) → IsPlayed s now after begun passed exits m
  played_put path bytes key held after now m tells same is whole wrote marked = rw (tells, same, is, whole) (record {
    files = λ q. wrote q ∙ ap (λ o. if bytes_eq q key then Some held else o) (i.files q);
    puts = λ q. marked q ∙ ap (λ b. bytes_eq q key || b) (i.puts q);
    begins = i.begins;
    passes = λ pod p. i.passes pod p ∙ sym (passed_same pod p told ((events.Put key held true) ∷ told) (λ c. refl) (λ c. refl));
    orders = i.orders;
    armings = i.armings;
    ends = i.ends;
    count = i.count;
    refuses = (tt, i.refuses);
  })

  pub played_clear : (folder key : List ℕ) (after : List ℕ → Option Held) (now : List Event) (m : ℕ) → now ≡ events.Cleared folder true ∷ told → m ≡ n → folder ≡ key
      → ((q : List ℕ) → bytes_at after q ≡ (if is_under key q then None else bytes_at table q)) → ((q : List ℕ) → put_at after q ≡ (not (is_under key q) && put_at table q)) → IsPlayed s now after begun passed exits m
  played_clear folder key after now m tells same is wrote marked = rw (tells, same, is) (record {
    files = λ q. wrote q ∙ ap (λ o. if is_under key q then None else o) (i.files q);
    puts = λ q. marked q ∙ ap (λ b. not (is_under key q) && b) (i.puts q);
    begins = i.begins;
    passes = λ pod p. i.passes pod p ∙ sym (passed_same pod p told ((events.Cleared key true) ∷ told) (λ c. refl) (λ c. refl));
    orders = i.orders;
    armings = i.armings;
    ends = i.ends;
    count = i.count;
    refuses = (tt, i.refuses);
  })

  pub played_refused : (child : ℕ) (at : List ℕ → Bool) (after : List ℕ → Option Held) (now : List Event) (m : ℕ) → now ≡ events.Refused child ∷ told → m ≡ n → ((q : List ℕ) → at q ≡ leaves q None (arming_of child told))
      → ((q : List ℕ) → bytes_at after q ≡ (if at q then Some [] else bytes_at table q)) → ((q : List ℕ) → put_at after q ≡ put_at table q) → RefusesScripted s (events.Refused child) told → IsPlayed s now after begun passed exits m
  played_refused child at after now m tells same is wrote marked found = rw (tells, same) (record {
    files = λ q. wrote q ∙ (ap (λ b. if b then Some [] else bytes_at table q) (is q) ∙ ap (λ o. if leaves q None (arming_of child told) then Some [] else o) (i.files q));
    puts = λ q. marked q ∙ i.puts q;
    begins = i.begins;
    passes = λ pod p. i.passes pod p ∙ sym (passed_same pod p told ((events.Refused child) ∷ told) (λ c. refl) (λ c. refl));
    orders = i.orders;
    armings = i.armings;
    ends = i.ends;
    count = i.count;
    refuses = (found, i.refuses);
  })

  pub played_exited : (child exit : ℕ) (at : List ℕ → Bool) (pass : List ℕ → List ℕ → Bool) (after : List ℕ → Option Held) (now : List Event) (grown : List ℕ → List (List ℕ)) (m : ℕ) → now ≡ events.Exited child exit ∷ told → m ≡ n → slice_index_or exits child 0 ≡ exit → exit_of child told ≡ None
      → ((pod path : List ℕ) → pass pod path ≡ has_passed_with pod path (arming_of child told) (Some exit)) → ((pod path : List ℕ) → list_any (bytes_eq pod) (grown path) ≡ (list_any (bytes_eq pod) (passed path) || pass pod path)) → ((q : List ℕ) → at q ≡ leaves q (Some exit) (arming_of child told))
      → ((q : List ℕ) → bytes_at after q ≡ (if at q then Some [] else bytes_at table q)) → ((q : List ℕ) → put_at after q ≡ put_at table q) → IsPlayed s now after begun grown exits m
  played_exited child exit at pass after now grown m tells same scripted runs passing adds is wrote marked = rw (tells, same) (record {
    files = λ q. wrote q ∙ (ap (λ b. if b then Some [] else bytes_at table q) (is q) ∙ ap (λ o. if leaves q (Some exit) (arming_of child told) then Some [] else o) (i.files q));
    puts = λ q. marked q ∙ i.puts q;
    begins = i.begins;
    passes = λ pod p. adds pod p ∙ (ap (λ b. b || pass pod p) (i.passes pod p) ∙ (ap (λ b. some_passed pod p told told || b) (passing pod p) ∙ sym (passed_exited pod p told child exit runs)));
    orders = i.orders;
    armings = i.armings;
    ends = λ other code ended. elim (cases_Bool (nat_eq other child)) [
      | inl hit ↦
          let code_is : Some exit ≡ Some code = rw hit at ended in
          (let here : slice_index_or exits other 0 ≡ exit = subst (λ (c : ℕ). slice_index_or exits c 0 ≡ exit) (sym (eqb-true other child hit)) scripted in
          let codes : exit ≡ code = cc in
          here ∙ codes)
      | inr miss ↦ i.ends other code (rw miss at ended)
    ];
    count = i.count;
    refuses = (tt, i.refuses);
  })

  -- the results of a first start
  left_by : (child : ℕ) (order : Order) (results : List (List ℕ × List ℕ)) (after : List ℕ → Option Held) → results ≡ (if begun order.pod then [] else results_for s order.pod)
      → ((q : List ℕ) → bytes_at after q ≡ option_or (lookup (bytes_eq q) results) (bytes_at table q)) → (q : List ℕ) → bytes_at after q ≡ script_file s q (events.Started child order ∷ told)
  left_by child order results after is wrote q =
      wrote q ∙ (ap (λ rs. option_or (lookup (bytes_eq q) rs) (bytes_at table q)) (is ∙ ap (λ (b : Bool). if b then [] else results_for s order.pod) (i.begins order.pod)) ∙ ap (λ o. option_or (lookup (bytes_eq q) (results_at s order.pod told)) o) (i.files q))

  pub played_begun : (child : ℕ) (order : Order) (arming : Arming) (name : List ℕ) (results : List (List ℕ × List ℕ)) (after : List ℕ → Option Held) (later : List ℕ → Bool) (now : List Event) (m : ℕ)
      → now ≡ events.Started child order ∷ told → m ≡ n → arming_of child told ≡ Some arming → order ≡ arming.order → name ≡ order.pod → results ≡ (if begun order.pod then [] else results_for s order.pod)
      → ((q : List ℕ) → bytes_at after q ≡ option_or (lookup (bytes_eq q) results) (bytes_at table q)) → ((q : List ℕ) → put_at after q ≡ put_at table q) → ((q : List ℕ) → later q ≡ (bytes_eq q name || begun q)) → IsPlayed s now after later passed exits m
  played_begun child order arming name results after later now m tells same armed own_order named is wrote marked adds = rw (tells, same) (record {
    files = left_by child order results after is wrote;
    puts = λ q. marked q ∙ i.puts q;
    begins = λ q. adds q ∙ (ap (λ p. bytes_eq q p || begun q) named ∙ ap (λ b. bytes_eq q order.pod || b) (i.begins q));
    passes = λ pod p. i.passes pod p ∙ sym (passed_same pod p told (events.Started child order ∷ told) (λ c. refl) (λ c. refl));
    orders = λ other found started. elim (cases_Bool (nat_eq other child)) [
      | inl hit ↦
          let found_is : Some order ≡ Some found = rw hit at started in
          let here : slice_index_or exits child 0 ≡ scripted_exit s.pods order = i.armings child arming armed ∙ ap (scripted_exit s.pods) (sym own_order) in
          let there : slice_index_or exits other 0 ≡ scripted_exit s.pods order = subst (λ (c : ℕ). slice_index_or exits c 0 ≡ scripted_exit s.pods order) (sym (eqb-true other child hit)) here in
          let same_order : order ≡ found = cc in
          there ∙ ap (scripted_exit s.pods) same_order
      | inr miss ↦ i.orders other found (rw miss at started)
    ];
    armings = i.armings;
    ends = i.ends;
    count = i.count;
    refuses = (tt, i.refuses);
  })

  pushed : (exit c : ℕ) → nat_eq c n ≡ false → slice_index_or (exits ++ exit ∷ []) c 0 ≡ slice_index_or exits c 0
  pushed exit c miss = push_at exits exit 0 c ∙ rw (i.count, miss) refl

  pushed_here : (exit c : ℕ) → nat_eq c n ≡ true → slice_index_or (exits ++ exit ∷ []) c 0 ≡ exit
  pushed_here exit c hit = push_at exits exit 0 c ∙ rw (i.count, hit) refl

  old_ends : (exit : ℕ) → IsNew n told → (c code : ℕ) → exit_of c told ≡ Some code → slice_index_or (exits ++ exit ∷ []) c 0 ≡ code
  old_ends exit new c code ended = elim (cases_Bool (nat_eq c n)) [
    | inl hit ↦ absurd (some_none (exit_of c told) code (subst (λ (k : ℕ). exit_of k told ≡ None) (sym (eqb-true c n hit)) (new_exit n told new)) ended)
    | inr miss ↦ pushed exit c miss ∙ i.ends c code ended
  ]

  old_orders : (exit : ℕ) → IsNew n told → (c : ℕ) (order : Order) → order_of c told ≡ Some order → slice_index_or (exits ++ exit ∷ []) c 0 ≡ scripted_exit s.pods order
  old_orders exit new c order started = elim (cases_Bool (nat_eq c n)) [
    | inl hit ↦ absurd (some_none (order_of c told) order (subst (λ (k : ℕ). order_of k told ≡ None) (sym (eqb-true c n hit)) (new_order n told new)) started)
    | inr miss ↦ pushed exit c miss ∙ i.orders c order started
  ]

  old_armings : (exit : ℕ) → IsNew n told → (c : ℕ) (arming : Arming) → arming_of c told ≡ Some arming → slice_index_or (exits ++ exit ∷ []) c 0 ≡ scripted_exit s.pods arming.order
  old_armings exit new c arming armed = elim (cases_Bool (nat_eq c n)) [
    | inl hit ↦ absurd (some_none (arming_of c told) arming (subst (λ (k : ℕ). arming_of k told ≡ None) (sym (eqb-true c n hit)) (new_arming n told new)) armed)
    | inr miss ↦ pushed exit c miss ∙ i.armings c arming armed
  ]

  longer : (exit : ℕ) (later : List ℕ) (m : ℕ) → later ≡ exits ++ exit ∷ [] → m ≡ n + 1 → length later ≡ m
  longer exit later m is more = rw (is, more, length-append) (ap (λ k. k + 1) i.count)

  pub played_armed : (child : ℕ) (arming : Arming) (exit : ℕ) (later : List ℕ) (now : List Event) (m : ℕ) → now ≡ events.Armed child arming ∷ told → m ≡ n + 1 → child ≡ n → IsNew child told → exit ≡ scripted_exit s.pods arming.order → later ≡ exits ++ exit ∷ [] → IsPlayed s now table begun passed later m
  played_armed child arming exit later now m tells more number new scripted grows =
      let fresh : IsNew n told = subst (λ (c : ℕ). IsNew c told) number new in
      let count = longer exit later m grows more in
      rw (tells, grows, number) (record {
        files = i.files;
        puts = i.puts;
        begins = i.begins;
        passes = λ pod p. i.passes pod p ∙ sym (passed_armed pod p told n arming fresh);
        orders = old_orders exit fresh;
        armings = λ other found armed. elim (cases_Bool (nat_eq other n)) [
          | inl hit ↦
              let found_is : Some arming ≡ Some found = rw hit at armed in
              let same_arming : arming ≡ found = cc in
              pushed_here exit other hit ∙ (scripted ∙ ap (λ (a : Arming). scripted_exit s.pods a.order) same_arming)
          | inr miss ↦ old_armings exit fresh other found (rw miss at armed)
        ];
        ends = old_ends exit fresh;
        count = rw (← grows) count;
        refuses = (tt, i.refuses);
      })

  pub played_started : (child : ℕ) (order : Order) (name : List ℕ) (results : List (List ℕ × List ℕ)) (after : List ℕ → Option Held) (more_begun : List ℕ → Bool) (exit : ℕ) (later : List ℕ) (now : List Event) (m : ℕ)
      → now ≡ events.Started child order ∷ told → m ≡ n + 1 → child ≡ n → IsNew child told → name ≡ order.pod → results ≡ (if begun order.pod then [] else results_for s order.pod)
      → ((q : List ℕ) → bytes_at after q ≡ option_or (lookup (bytes_eq q) results) (bytes_at table q)) → ((q : List ℕ) → put_at after q ≡ put_at table q) → ((q : List ℕ) → more_begun q ≡ (bytes_eq q name || begun q))
      → exit ≡ scripted_exit s.pods order → later ≡ exits ++ exit ∷ [] → IsPlayed s now after more_begun passed later m
  played_started child order name results after more_begun exit later now m tells more number new named is wrote marked adds scripted grows =
      let fresh : IsNew n told = subst (λ (c : ℕ). IsNew c told) number new in
      let count = longer exit later m grows more in
      rw (tells, grows, number) (record {
        files = left_by n order results after is wrote;
        puts = λ q. marked q ∙ i.puts q;
        begins = λ q. adds q ∙ (ap (λ p. bytes_eq q p || begun q) named ∙ ap (λ b. bytes_eq q order.pod || b) (i.begins q));
        passes = λ pod p. i.passes pod p ∙ sym (passed_same pod p told (events.Started n order ∷ told) (λ c. refl) (λ c. refl));
        orders = λ other found started. elim (cases_Bool (nat_eq other n)) [
          | inl hit ↦
              let found_is : Some order ≡ Some found = rw hit at started in
              let same_order : order ≡ found = cc in
              pushed_here exit other hit ∙ (scripted ∙ ap (scripted_exit s.pods) same_order)
          | inr miss ↦ old_orders exit fresh other found (rw miss at started)
        ];
        armings = old_armings exit fresh;
        ends = old_ends exit fresh;
        count = rw (← grows) count;
        refuses = (tt, i.refuses);
      })

-- nothing is told

pub played_new : (s : Scripts) (told : List Event) (table : List ℕ → Option Held) (begun : List ℕ → Bool) (passed : List ℕ → List (List ℕ)) (exits : List ℕ) (n : ℕ)
    → told ≡ [] → ((q : List ℕ) → table q ≡ None) → ((q : List ℕ) → begun q ≡ false) → ((q : List ℕ) → passed q ≡ []) → exits ≡ [] → n ≡ 0 → IsPlayed s told table begun passed exits n
played_new s told table begun passed exits n none no_file not_begun no_pass no_exit no_child = rw (none, no_exit, no_child) (record {
  files = λ q. ap (option_map (λ (h : Held). h.bytes)) (no_file q);
  puts = λ q. ap (λ (o : Option Held). option_map_or (λ (h : Held). h.put) o false) (no_file q);
  begins = not_begun;
  passes = λ pod q. ap (list_any (bytes_eq pod)) (no_pass q);
  orders = λ c o is. cc;
  armings = λ c a is. cc;
  ends = λ c e is. cc;
  count = refl;
  refuses = tt;
})

-- rooms were made

pub settled : (s : Scripts) (told now : List Event) (table wide : List ℕ → Option Held) (begun more : List ℕ → Bool) (passed : List ℕ → List (List ℕ)) (exits xs : List ℕ) (n m : ℕ)
    → IsPlayed s told table begun passed exits n → now ≡ told → xs ≡ exits → m ≡ n → ((q : List ℕ) → wide q ≡ table q) → ((q : List ℕ) → more q ≡ begun q) → IsPlayed s now wide more passed xs m
settled s told now table wide begun more passed exits xs n m i same_told same_exits same_count same_table same_begun =
    rw (same_told, same_exits, same_count) (widened s told table begun passed exits n wide more same_table same_begun i)
