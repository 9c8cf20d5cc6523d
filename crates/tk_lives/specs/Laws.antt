-- What a call may rest on that goes on from a history.
use Rattle.std.specs.Prelude.{◌≡◌, ◌≢◌, ◌<◌, ◌↔◌, ℕ, true, List, ◌++◌, All, Some, None}
use Rattle.tk_journal.specs.declared.entry.Actor.TheVariants as actors
use Rattle.tk_journal.specs.declared.entry.Entry.{Entry}
use Rattle.tk_journal.specs.declared.object.Claim.{Claim}
use Rattle.tk_journal.specs.declared.object.PodState.{PodState}
use Rattle.tk_journal.specs.Effects.{claim_of}
use Rattle.tk_journal.specs.History.{pod_of}
use Rattle.tk_journal.specs.Legal.{IsLegal, is_admit}
use Rattle.tk_journal.specs.Lists.{Has}
use Rattle.tk_payload.specs.Fits.{IsEntry}
use Rattle.tk_lives.specs.Lives.{IsUnclaimedIn, greatest_life}
use Rattle.tk_lives.specs.Taking.{GoesOnFrom, first_difference}

abbrev pub NextLifeIsNew : Type 0
NextLifeIsNew =
    (history : List Entry) → IsLegal history → (number life : ℕ) → greatest_life number history < life
    → (name : List ℕ) (state : PodState) → pod_of history name ≡ Some state → state.claim ≢ claim_of (actors.Kubelet number life)

abbrev pub ClaimsStay : Type 0
ClaimsStay =
    (newer before : List Entry) → IsLegal (newer ++ before)
    → (name : List ℕ) (state : PodState) (claim : Claim) → pod_of before name ≡ Some state → state.claim ≡ Some claim
    → Has (pod_of (newer ++ before) name) (λ (later : PodState). later.claim ≡ Some claim)

-- what a kubelet claimed in such a life was unclaimed before the call
abbrev pub NextLifeOwnsNothingBefore : Type 0
NextLifeOwnsNothingBefore =
    (newer before : List Entry) → IsLegal (newer ++ before) → (number life : ℕ) → greatest_life number before < life
    → (name : List ℕ) (state : PodState) → pod_of (newer ++ before) name ≡ Some state
    → state.claim ≡ claim_of (actors.Kubelet number life) → IsUnclaimedIn before name

-- entries that programs can hold: their file has a part of an input's Admit entries, or all of these and admits no more
abbrev pub TakesOver : Type 0
TakesOver =
    (file given : List Entry) → All IsEntry file → All IsEntry given → (first_difference file given ≡ None) ↔ GoesOnFrom file given

abbrev pub AdmittedHasNoLife : Type 0
AdmittedHasNoLife =
    (history : List Entry) → IsLegal history → All (λ (e : Entry). is_admit e.act ≡ true) history
    → (number : ℕ) → greatest_life number history ≡ 0

abbrev pub FrontsAreLegal : Type 0
FrontsAreLegal = (newer older : List Entry) → IsLegal (newer ++ older) → IsLegal older
