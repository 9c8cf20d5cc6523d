-- A world at its start.
use Rattle.std.proofs.Common.{◌≡◌, ℕ, zero, suc, List, [], ◌∷◌, Option, Some, None, true, false, refl, subst}
use Rattle.std.specs.Prelude.{slice_get, replicate}
use Rattle.std.proofs.lemmas.Option.{same_Some}
use Rattle.std.proofs.lemmas.List.Elements.{All-head, All-tail}
use Rattle.tk_edge.proofs.Keeps.{nothing_is_kept}
use Rattle.tk_types.specs.declared.scenario.Kind.TheVariants as kinds
use Rattle.tk_journal.specs.declared.act.Act.{Act}
use Rattle.tk_journal.specs.declared.act.Act.TheVariants as acts
use Rattle.tk_journal.specs.declared.act.Admission.TheVariants as admissions
use Rattle.tk_journal.specs.declared.entry.Entry.{Entry}
use Rattle.tk_journal.specs.declared.object.PodState.{PodState}
use Rattle.tk_journal.specs.Effects.{writes}
use Rattle.tk_journal.specs.History.{pod_of, pod_written}
use Rattle.tk_journal.specs.Legal.{is_admit}
use Rattle.tk_journal.specs.Fronts.{AreWithin}
use Rattle.tk_edge.specs.InOrder.{IsKept}
use Rattle.tk_journal.proofs.Past.{state_cases}
use Rattle.tk_held.specs.Conditions.{pods_of}
use Rattle.tk_machine.specs.State.{KubeletState}
use Rattle.tk_machine.specs.Hosts.{Script, IsScripted, layout}
use Rattle.tk_machine.specs.Kills.{AreKilledRight}
use Rattle.tk_held.specs.Laws.{AreAdmits}
use Rattle.tk_machine.specs.Machine.{StartIsSound}
use Rattle.tk_machine.proofs.Soundness.{none_within}

replicate_get : {X : Type 0} (n i : ℕ) (x y : X) → slice_get (replicate n x) i ≡ Some y → x ≡ y
replicate_get zero i x y is = cc
replicate_get (suc n) zero x y is = same_Some x y is
replicate_get (suc n) (suc i) x y is = replicate_get n i x y is

no_pod_written : (name : List ℕ) (e : Entry) (act : Act) → e.act ≡ act → is_admit act ≡ true → writes kinds.Pods name e ≡ true → ⊥
no_pod_written name e (acts.Admit named (admissions.Run spec) pending asked root) is admits hit = let out = rw is at hit in cc (out)
no_pod_written name e (acts.Admit named (admissions.Task spec) pending asked root) is admits hit = let out = rw is at hit in cc (out)
no_pod_written name e act is admits hit = cc

no_pods : (admitted : List Entry) → AreAdmits admitted → (name : List ℕ) → pod_of admitted name ≡ None
no_pods [] admits name = refl
no_pods (e ∷ older) admits name =
    state_cases (writes kinds.Pods name) (λ (before : List Entry) d was. pod_written d was) (λ (o : Option PodState). o ≡ None) e older
    (λ miss. no_pods older (All-tail (λ (x : Entry). is_admit x.act ≡ true) e older admits) name)
    (λ hit. absurd (no_pod_written name e e.act refl (All-head (λ (x : Entry). is_admit x.act ≡ true) e older admits) hit))

pub start_is_sound : (script : Script) → StartIsSound script
start_is_sound script controllers kubelets admitted legal admits = record {
  legal = legal;
  controllers = λ i fronts at. subst (λ f. AreWithin f admitted) (replicate_get controllers i _ fronts at) (none_within admitted);
  kubelets = λ i k at. subst (λ (x : KubeletState). AreWithin x.fronts admitted) (replicate_get kubelets i _ k at) (none_within admitted);
  kept = λ i k at. subst (λ (x : KubeletState). IsKept layout x.killed (pods_of i admitted) x.told) (replicate_get kubelets i _ k at) (nothing_is_kept layout (λ child. false) (pods_of i admitted));
  scripted = λ i k at. subst (λ (x : KubeletState). IsScripted script x.told) (replicate_get kubelets i _ k at) tt;
  spared = λ i k at. subst (λ (x : KubeletState). AreKilledRight i x.life x.killed x.told admitted 0) (replicate_get kubelets i _ k at) (λ child arming pod is_killed armed there held. cc (is_killed));
  claims = λ name pod claim there is. let none = no_pods admitted admits name in cc (none, there);
}
