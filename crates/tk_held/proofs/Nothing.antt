-- The conditions hold for a new kubelet.
use Rattle.std.proofs.Common.{◌≡◌, ℕ, List, [], ◌∷◌, Option, None, true, refl}
use Rattle.std.proofs.lemmas.List.Elements.{All-head, All-tail}
use Rattle.tk_types.specs.declared.scenario.Kind.TheVariants as kinds
use Rattle.tk_edge.proofs.Keeps.{nothing_is_kept}
use Rattle.tk_journal.specs.declared.act.Act.{Act}
use Rattle.tk_journal.specs.declared.act.Act.TheVariants as acts
use Rattle.tk_journal.specs.declared.act.Admission.TheVariants as admissions
use Rattle.tk_journal.specs.declared.entry.Entry.{Entry}
use Rattle.tk_journal.specs.declared.object.PodState.{PodState}
use Rattle.tk_journal.specs.Effects.{kind_of, writes}
use Rattle.tk_journal.specs.History.{pod_of, pod_written}
use Rattle.tk_journal.specs.Legal.{is_admit}
use Rattle.tk_journal.proofs.Basics.{writes_kind}
use Rattle.tk_journal.proofs.Past.{state_cases}
use Rattle.tk_steps.specs.Paths.{layout_of}
use Rattle.tk_held.specs.Conditions.{pods_of}
use Rattle.tk_held.specs.Laws.{AreAdmits, HasNoClaim, NothingIsMet}

-- what is admitted is no pod
no_pod : (act : Act) → is_admit act ≡ true → kind_of act ≡ kinds.Pods → ⊥
no_pod (acts.Admit name (admissions.Run spec) pending asked root) admits kind = cc
no_pod (acts.Admit name (admissions.Task spec) pending asked root) admits kind = cc
no_pod _ admits kind = cc

none_there : (history : List Entry) → AreAdmits history → (name : List ℕ) → pod_of history name ≡ None
none_there [] admits name = refl
none_there (e ∷ older) admits name =
    state_cases (writes kinds.Pods name) (λ (before : List Entry) d was. pod_written d was) (λ (o : Option PodState). o ≡ None) e older
    (λ miss. none_there older (All-tail (λ (d : Entry). is_admit d.act ≡ true) e older admits) name)
    (λ hit. absurd (no_pod e.act (All-head (λ (d : Entry). is_admit d.act ≡ true) e older admits) (writes_kind kinds.Pods name e hit)))

admitted : (number life : ℕ) (history : List Entry) → AreAdmits history → HasNoClaim number life history
admitted number life history admits name state is = let none = none_there history admits name in cc

pub nothing_is_met : NothingIsMet
nothing_is_met = record {
  any = λ number life root history killed none. record {
    claimed = record {
      mine = λ place pod at. cc;
      all = λ name state is mine unended. absurd (none name state is mine);
      apart = λ i j a b at_i at_j same. cc;
      none_lost = λ name state ended is mine is_ended. absurd (none name state is mine);
    };
    keeps = λ place pod at. cc;
    ready = λ have place pod at. cc;
    kept = nothing_is_kept (layout_of root) killed (pods_of number history);
    settled = λ child arming armed over. cc;
  };
  admitted = admitted;
}
