-- Which files a call of a host that plays scripts leaves, and what its watches say of them.
use Rattle.std.proofs.Common.{◌≡◌, ℕ, Bool, true, false, not, ◌&&◌, List, [], ◌∷◌, refl, sym, ap, ◌∙◌, subst, inl, inr, if◌then◌else◌, nat_eq, zero, suc, ◌<◌, length, arith}
use Rattle.std.specs.Prelude.{bytes_eq, Option, Some, None, is_some, Contains, slice_index_or}
use Rattle.std.specs.List.{list_any}
use Rattle.std.specs.Map.{lookup}
use Rattle.std.specs.Option.{option_or}
use Rattle.std.proofs.lemmas.Bool.{cases_Bool}
use Rattle.std.proofs.Math.Bool.{or-true}
use Rattle.std.proofs.lemmas.Slice.Eq.{bytes_eq-Decides}
use Rattle.tk_types.specs.declared.value.Pair.{Pair}
use Rattle.tk_edge.specs.declared.event.Event.{Event}
use Rattle.tk_edge.specs.declared.event.Event.TheVariants as events
use Rattle.tk_edge.specs.declared.event.Arming.{Arming}
use Rattle.tk_edge.specs.declared.order.Order.{Order}
use Rattle.tk_edge.specs.declared.order.Watch.{Watch}
use Rattle.tk_edge.specs.declared.order.Watch.TheVariants as watches
use Rattle.tk_edge.specs.Calls.{TellsArmedTurn, TellsExit}
use Rattle.tk_edge.specs.Files.{IsOwnFile, IsWatchFile, broken}
use Rattle.tk_edge.specs.History.{Has, StillWaits, arming_of, is_refused, order_of}
use Rattle.tk_edge.specs.Markers.{FitsMarkers, FollowsMarkers}
use Rattle.tk_edge.specs.Memory.{leaves}
use Rattle.tk_edge.specs.Plays.{IsPlayed, first_watch, may_start}
use Rattle.tk_script.specs.ScriptHost.{IsScripted, RefusesScripted, Scripts, files_in, has_begun, is_plain, plays_with, result_of, results_of, script_file, script_files, script_of, script_watch, waiting_watch}
use Rattle.tk_edge.proofs.Starts.{both, leaves_own, may_start_iff}

pub script_put : (s : Scripts) (path bytes : List ℕ) (h : List Event) → script_file s path (events.Put path bytes true ∷ h) ≡ Some bytes
script_put s path bytes h = rw ((bytes_eq-Decides path path).1 refl) refl

pub script_other : (s : Scripts) (path other bytes : List ℕ) (h : List Event) → (path ≡ other → ⊥) → script_file s path (events.Put other bytes true ∷ h) ≡ script_file s path h
script_other s path other bytes h differ = elim (cases_Bool (bytes_eq path other)) [
  | inl hit ↦ absurd (differ ((bytes_eq-Decides path other).0 hit))
  | inr miss ↦ rw miss refl
]

-- a start changes results of its pod alone

slash_at : (name : List ℕ) (k : ℕ) → k < length name → slice_index_or name k 47 ≡ 47 → list_any (nat_eq 47) name ≡ true
slash_at [] k below at = absurd (omega (arith, below))
slash_at (x ∷ xs) zero below at = rw at refl
slash_at (x ∷ xs) (suc k) below at = rw (slash_at xs k (omega (arith, below)) at, or-true) refl

any_slash : (name : List ℕ) → Contains name 47 → list_any (nat_eq 47) name ≡ true
any_slash name has = slash_at name has.0 has.1 has.2

own : (root pod q : List ℕ) (file : Pair) → is_plain file ≡ true → bytes_eq q (result_of root pod file).0 ≡ true → IsOwnFile pod q
own root pod q file plain hit = record {
  root = root;
  name = file.key;
  is = (bytes_eq-Decides q (result_of root pod file).0).0 hit;
  no_slash = λ has. (let slash = any_slash file.key has in let plainly : not true ≡ true = rw slash at plain in cc);
}

no_result : (root pod q : List ℕ) (files : List Pair) → (IsOwnFile pod q → ⊥) → lookup (bytes_eq q) (results_of root pod files) ≡ None
no_result root pod q [] differ = refl
no_result root pod q (file ∷ files) differ = elim (cases_Bool (is_plain file)) [
  | inr slash ↦ rw slash (no_result root pod q files differ)
  | inl plain ↦ rw plain (elim (cases_Bool (bytes_eq q (result_of root pod file).0)) [
    | inl hit ↦ absurd (differ (own root pod q file plain hit))
    | inr miss ↦ rw miss (no_result root pod q files differ)
  ])
]

pub started_rest : (s : Scripts) (child : ℕ) (order : Order) (q : List ℕ) (h : List Event) → (IsOwnFile order.pod q → ⊥) → script_file s q (events.Started child order ∷ h) ≡ script_file s q h
started_rest s child order q h differ = elim (cases_Bool (has_begun order.pod h)) [
  | inl hit ↦ rw hit refl
  | inr miss ↦ rw miss (ap (λ o. option_or o (script_file s q h)) (no_result s.root order.pod q (files_in (script_of s.pods order.pod)) differ))
]

pub script_refused : (s : Scripts) (child : ℕ) (q : List ℕ) (h : List Event) → (Has (arming_of child h) (λ arming. IsWatchFile arming q) → ⊥) → script_file s q (events.Refused child ∷ h) ≡ script_file s q h
script_refused s child q h differ = elim (cases_Bool (leaves q None (arming_of child h))) [
  | inl hit ↦ absurd (differ (leaves_own q None (arming_of child h) hit))
  | inr miss ↦ rw miss refl
]

pub script_exited : (s : Scripts) (child exit : ℕ) (q : List ℕ) (h : List Event) → (Has (arming_of child h) (λ arming. IsWatchFile arming q) → ⊥) → script_file s q (events.Exited child exit ∷ h) ≡ script_file s q h
script_exited s child exit q h differ = elim (cases_Bool (leaves q (Some exit) (arming_of child h))) [
  | inl hit ↦ absurd (differ (leaves_own q (Some exit) (arming_of child h) hit))
  | inr miss ↦ rw miss refl
]

-- what the answer of an entry that waits says of its files

no_file : {X : Type 0} (o : Option X) (P : X → Type 0) → o ≡ None → Has o P → ⊥
no_file o P none has = let both : None ≡ Some has.it = sym none ∙ has.is in cc

fits : (s : Scripts) (told : List Event) (a : Arming) (err there : Option (List ℕ)) (may : Bool) → script_file s (broken a.wait) told ≡ err → script_file s a.wait told ≡ there → may_start a told ≡ may
    → FitsMarkers a told (script_files s told) (first_watch (is_some err) (is_some there && may))
fits s told a (Some e) there may is_err is_there is_may = record { it = e; is = is_err; has = tt }
fits s told a None (Some b) true is_err is_there is_may = (no_file _ _ is_err, record { it = b; is = is_there; has = tt })
fits s told a None (Some b) false is_err is_there is_may = (no_file _ _ is_err, λ stands starts. (let now = (may_start_iff a told _ _ refl refl).1 starts in let both : true ≡ false = sym now ∙ is_may in cc))
fits s told a None None may is_err is_there is_may = (no_file _ _ is_err, λ stands starts. no_file _ _ is_there stands)

-- what an entry finds that is refused
pub broken_found : (s : Scripts) (child : ℕ) (told : List Event) (arming : Arming) → arming_of child told ≡ Some arming → true ≡ is_some (script_file s (broken arming.wait) told) → RefusesScripted s (events.Refused child) told
broken_found s child told arming armed stands = record { it = arming; is = armed; has = there (script_file s (broken arming.wait) told) refl stands }
  where
    there : (o : Option (List ℕ)) → script_file s (broken arming.wait) told ≡ o → true ≡ is_some o → Has (script_file s (broken arming.wait) told) (λ bytes. Unit {0})
    there None is none = cc
    there (Some bytes) is some = record { it = bytes; is = is; has = tt }

-- a watch by the script is what the host plays, where it plays
pub watch_plays : (failing : List ℕ) (s : Scripts) (killed : Bool) (child : ℕ) (told : List Event) (watch : Watch) → IsScripted s killed child told watch → IsPlayed (plays_with failing s) killed child told watch
watch_plays [] s killed child told watch scripted = scripted
watch_plays (call ∷ calls) s killed child told watch scripted = tt

pub markers_hold : (s : Scripts) (killed : Bool) (child : ℕ) (told : List Event) (watch : Watch) → IsScripted s killed child told watch → FollowsMarkers child killed told (Some (script_files s told)) watch
markers_hold s killed child told watch scripted waits alive =
    let waiting : script_watch s killed child told scripted.it ≡ waiting_watch s told scripted.it = rw (waits.not_started, waits.not_refused, alive) refl in
    record {
      it = scripted.it;
      is = scripted.is;
      has = subst (FitsMarkers scripted.it told (script_files s told)) (sym (scripted.has ∙ waiting)) (fits s told scripted.it _ _ _ refl refl refl);
    }

-- a killed entry doesn't start

starts_alive : (started passed refused killed : Bool) (exit : ℕ) (waiting : Watch) → (if started then (if passed then watches.Passed exit else watches.Broke (Some exit)) else if refused then watches.Broke None else if killed then watches.Waits else waiting) ≡ watches.Started → killed ≡ false
starts_alive started passed refused false exit waiting is = refl
starts_alive true true refused true exit waiting is = cc
starts_alive true false refused true exit waiting is = cc
starts_alive false passed true true exit waiting is = cc
starts_alive false passed false true exit waiting is = cc

pub alive_holds : (s : Scripts) (killed : Bool) (child : ℕ) (told : List Event) (watch : Watch) → IsScripted s killed child told watch → watch ≡ watches.Started → killed ≡ false
alive_holds s killed child told watch scripted is = starts_alive (is_some (order_of child told)) _ (is_refused child told) killed _ _ (sym scripted.has ∙ is)

-- a child that isn't armed leaves no file when it ends

pub exit_same : (s : Scripts) (child exit : ℕ) (q : List ℕ) (old new : List Event) → arming_of child old ≡ None → TellsExit child exit old new → script_file s q new ≡ script_file s q old
exit_same s child exit q old new free (inl ended) = rw (ended.1, free) refl
exit_same s child exit q old new free (inr said) = rw said.1 refl

-- an entry starts

pub begun_told : (child : ℕ) (old new : List Event) (arming : Arming) (stands : Bool) → StillWaits child old → arming_of child old ≡ Some arming → (stands && may_start arming old) ≡ true → Has (arming_of child old) (λ a. new ≡ events.Started child a.order ∷ old) → TellsArmedTurn child old new (arming_of child old) watches.Started
begun_told child old new arming stands waits armed ready has =
    let named : Some arming ≡ Some has.it = sym armed ∙ has.is in
    let same : arming ≡ has.it = cc in
    let may : may_start has.it old ≡ true = subst (λ (a : Arming). may_start a old ≡ true) same (both stands (may_start arming old) ready).1 in
    let turn : TellsArmedTurn child old new (Some has.it) watches.Started = (waits, (may_start_iff has.it old _ _ refl refl).0 may, has.has) in
    subst (λ (o : Option Arming). TellsArmedTurn child old new o watches.Started) (sym has.is) turn

-- a call changes its own files alone

pub start_rest : (s t : Scripts) (child : ℕ) (order : Order) (q : List ℕ) (h new : List Event) → t ≡ s → new ≡ events.Started child order ∷ h → (IsOwnFile order.pod q → ⊥) → script_file t q new ≡ script_file s q h
start_rest s t child order q h new same tells differ = rw (same, tells) (started_rest s child order q h differ)

turn_rest : (s : Scripts) (child : ℕ) (q : List ℕ) (old new : List Event) (o : Option Arming) (watch : Watch) → arming_of child old ≡ o → TellsArmedTurn child old new o watch → (Has (arming_of child old) (λ arming. IsWatchFile arming q) → ⊥) → script_file s q new ≡ script_file s q old
turn_rest s child q old new None watch armed tells differ = absurd tells
turn_rest s child q old new (Some a) watches.Waits armed tells differ = rw tells.1 refl
turn_rest s child q old new (Some a) watches.Started armed tells differ = rw tells.2 (started_rest s child a.order q old (λ own_file. differ (record { it = a; is = armed; has = inl own_file })))
turn_rest s child q old new (Some a) watches.Runs armed tells differ = rw tells.1 refl
turn_rest s child q old new (Some a) (watches.Passed exit) armed tells differ = elim tells.1 [
  | inl ended ↦ rw ended.1 (script_exited s child exit q old differ)
  | inr said ↦ rw said.1 refl
]
turn_rest s child q old new (Some a) (watches.Broke (Some exit)) armed tells differ = elim tells.1 [
  | inl ended ↦ rw ended.1 (script_exited s child exit q old differ)
  | inr said ↦ rw said.1 refl
]
turn_rest s child q old new (Some a) (watches.Broke None) armed tells differ = elim tells [
  | inl refused ↦ rw refused.1 (script_refused s child q old differ)
  | inr said ↦ rw said.1 refl
]

pub watch_rest : (s t : Scripts) (child : ℕ) (q : List ℕ) (old mid new : List Event) (watch : Watch) → t ≡ s → new ≡ mid → TellsArmedTurn child old mid (arming_of child old) watch → (Has (arming_of child old) (λ arming. IsWatchFile arming q) → ⊥) → script_file t q new ≡ script_file s q old
watch_rest s t child q old mid new watch same kept tells differ = rw (same, kept) (turn_rest s child q old mid (arming_of child old) watch refl tells differ)
