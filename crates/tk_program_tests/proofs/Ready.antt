-- Members that begin over a journal without entries.
use Rattle.std.proofs.Common.{◌≡◌, ◌⊎◌, ℕ, zero, suc, List, [], ◌∷◌, ◌++◌, length, Some, inl, inr, refl, sym, ap, ◌∙◌, subst}
use Rattle.std.specs.Prelude.{Bool, true, slice_get}
use Rattle.std.proofs.lemmas.Option.{same_Some}
use Rattle.std.proofs.lemmas.List.Elements.{All-nil}
use Rattle.tk_edge.specs.declared.event.Event.{Event}
use Rattle.tk_journal.specs.declared.entry.Entry.{Entry}
use Rattle.tk_journal.specs.Legal.{is_admit}
use Rattle.tk_cache.specs.Fronts.{Shows}
use Rattle.tk_cache.specs.Views.{seen}
use Rattle.tk_held.specs.Laws.{NothingIsMet}
use Rattle.tk_kubelet.specs.Holding.{IsMet, holding_of}
use Rattle.tk_rounds.specs.declared.bench.Node.{Node}
use Rattle.tk_rounds.specs.Bench.{AllReady, IsReadyNode}

last_cases : {X : Type 0} (xs : List X) (m x : X) (i : ℕ) → slice_get (xs ++ m ∷ []) i ≡ Some x → (slice_get xs i ≡ Some x) ⊎ ((i ≡ length xs) × (m ≡ x))
last_cases [] m x zero at = inr (refl, same_Some m x at)
last_cases [] m x (suc i) at = cc
last_cases (y ∷ xs) m x zero at = inl at
last_cases (y ∷ xs) m x (suc i) at = elim (last_cases xs m x i at) [
  | inl front ↦ inl front
  | inr last ↦ inr (ap suc last.0, last.1)
]

pub none_ready : {M : Type 0} (number : M → ℕ) (ready : List Entry → M → Type 0) (history : List Entry) → AllReady number ready history []
none_ready number ready history i m at = cc

-- one more member, with its place as its number
pub more_ready : {M : Type 0} (number : M → ℕ) (ready : List Entry → M → Type 0) (history : List Entry) (xs : List M) (m : M) → AllReady number ready history xs → number m ≡ length xs → ready history m → AllReady number ready history (xs ++ m ∷ [])
more_ready {M} number ready history xs m are named is i x at = elim (last_cases xs m x i at) [
  | inl front ↦ are i x front
  | inr last ↦ (ap number (sym last.1) ∙ (named ∙ sym last.0), subst (ready history) last.1 is)
]

-- a node that begins
pub node_ready : {K H G : Type 0} (told : H → List Event) (killed : H → ℕ → Bool) (was now : Node K H G) (number : ℕ) (root : List ℕ) → Shows (seen was.cache) [] → told was.host ≡ [] → now ≡ record was { kubelet = holding_of number 1 root [] } → NothingIsMet → IsReadyNode told killed [] now
node_ready told killed was now number root shows silent is law =
    subst (IsReadyNode told killed []) (sym is) (record {
      shows = shows;
      met = subst (IsMet (holding_of number 1 root []) [] (killed was.host)) (sym silent) (law.any number 1 root [] (killed was.host) (law.admitted number 1 [] (All-nil (λ (e : Entry). is_admit e.act ≡ true))));
    })
