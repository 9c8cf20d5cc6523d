-- The places of scripts by the names of their pods.
use Rattle.std.proofs.Common.{◌≡◌, ◌<◌, ◌+◌, ℕ, zero, suc, Bool, true, false, List, [], ◌∷◌, length, sym, ap, ◌∙◌, arith, cond, get_or, drop, bytes_eq}
use Rattle.std.specs.Prelude.{Option, Some}
use Rattle.std.specs.List.{slice_get}
use Rattle.std.proofs.lemmas.List.{at_drop_more}
use Rattle.tk_script.specs.declared.pod_script.PodScript.{PodScript}
use Rattle.tk_script.specs.ScriptHost.{script_at, script_of}
use Rattle.tk_script.proofs.Tables.{bytes_eq_swap}

at_place : {X : Type 0} (xs : List X) (i : ℕ) (x : X) → i < length xs → x ≡ get_or xs i x → slice_get xs i ≡ Some x
at_place [] i x below is = let no : ⊥ = omega (arith, below) in absurd no
at_place (y ∷ ys) zero x below is = ap Some (sym is)
at_place (y ∷ ys) (suc i) x below is = at_place ys i x (omega (arith, below)) is

-- one more place, in front of those that are known
pub placed_before : (pods : List PodScript) (old new : List ℕ → Option ℕ) (key q : List ℕ) (i : ℕ) (x : PodScript)
    → i < length pods → x ≡ get_or pods i x → key ≡ x.pod → new q ≡ cond (bytes_eq key q) (Some i) (old q)
    → script_at pods (old q) ≡ script_of (drop (i + 1) pods) q → script_at pods (new q) ≡ script_of (drop i pods) q
placed_before pods old new key q i x below is named wrote rest =
    ap (script_at pods) (wrote ∙ ap (λ b. cond b (Some i) (old q)) (bytes_eq_swap key q ∙ ap (bytes_eq q) named))
    ∙ (both (bytes_eq q x.pod)
    ∙ sym (at_drop_more (λ ps. script_of ps q) pods i x below ∙ ap (λ y. script_of (y ∷ drop (i + 1) pods) q) (sym is)))
  where
    both : (b : Bool) → script_at pods (cond b (Some i) (old q)) ≡ cond b (Some x) (script_of (drop (i + 1) pods) q)
    both true = at_place pods i x below is
    both false = rest
