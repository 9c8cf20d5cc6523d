-- What turns and asks add to the history, and that all else stands when it grows.
use Rattle.std.proofs.Common.{◌≡◌, ◌≢◌, ℕ, List, [], ◌∷◌, length, Some, refl, sym, ◌∙◌, ap, subst, inl, inr}
use Rattle.std.specs.Prelude.{◌⊎◌, ◌<◌, ◌^◌, codes, slice_get}
use Rattle.tk_types.specs.declared.object.Asked.{Asked}
use Rattle.tk_journal.specs.declared.act.Act.{Act}
use Rattle.tk_journal.specs.declared.act.Act.TheVariants as acts
use Rattle.tk_journal.specs.declared.entry.Actor.{Actor}
use Rattle.tk_journal.specs.declared.entry.Actor.TheVariants as actors
use Rattle.tk_journal.specs.declared.entry.Entry.{Entry}
use Rattle.tk_journal.specs.declared.entry.Fronts.{Fronts}
use Rattle.tk_journal.specs.Folders.{HasRoot, HaveRoot}
use Rattle.tk_journal.specs.History.{View, view_at}
use Rattle.tk_journal.specs.Legal.{IsLegal}
use Rattle.tk_journal.specs.Progress.{at_end}
use Rattle.tk_journal.specs.Rows.{IsJustified}
use Rattle.tk_cache.specs.Fronts.{Shows}
use Rattle.tk_cache.specs.Views.{Kept, Seen, seen}
use Rattle.tk_choice.specs.Took.{entry_of}
use Rattle.tk_script.specs.ScriptHost.{Scripts}
use Rattle.tk_machine.specs.Hosts.{Script}
use Rattle.tk_machine.specs.State.{KubeletState}
use Rattle.tk_machine.specs.Machine.{Answers, AskTurn, IsSound, KubeletTurn, WorkerTurn}
use Rattle.tk_play.specs.Scripts.{script_of}
use Rattle.tk_world.specs.declared.node.Node.{Node}
use Rattle.tk_world.specs.Nodes.{IsNode}
use Rattle.tk_world.specs.Whole.{Stands, world_of}
use Rattle.tk_held.proofs.Others.{others_keep}
use Rattle.tk_cache.proofs.Showing.{shows_grown}

-- one entry of the actor, or none
abbrev pub AddsBy : Actor → List Entry → List Entry → Type 0
AddsBy actor history after = (after ≡ history) ⊎ ((e : Entry) × (e.actor ≡ actor) × (after ≡ e ∷ history))

answers_add : (history : List Entry) (actor : Actor) (fronts : Fronts) (moment : ℕ) (act : Act) (after : List Entry) → Answers history actor fronts moment act after → AddsBy actor history after
answers_add history actor fronts moment act after answers = elim answers [
  | inl went ↦ inr (entry_of actor fronts moment act, refl, went.1)
  | inr refused ↦ inl refused.1
]

pub worker_adds : (history : List Entry) (actor : Actor) (fronts : Fronts) (moment : ℕ) (after : List Entry) → WorkerTurn history actor fronts moment after → AddsBy actor history after
worker_adds history actor fronts moment after turn = elim turn [
  | inl idle ↦ inl idle.1
  | inr tried ↦ answers_add history actor fronts moment tried.0 after tried.2
]

pub kubelet_adds : (script : Script) (number : ℕ) (k now : KubeletState) (moment : ℕ) (history after : List Entry) → KubeletTurn script number k moment history after now → AddsBy (actors.Kubelet number k.life) history after
kubelet_adds script number k now moment history after turn = elim turn.tries [
  | inl idle ↦ inl idle.1
  | inr tried ↦ answers_add history (actors.Kubelet number k.life) k.fronts moment tried.0 after tried.2
]

pub ask_adds : (history : List Entry) (moment : ℕ) (name : List ℕ) (status : Asked) (after : List Entry) → AskTurn history moment name status after → AddsBy actors.User history after
ask_adds history moment name status after turn = elim turn [
  | inl went ↦ inr (entry_of actors.User (at_end history) moment (acts.Ask name status), refl, went.1)
  | inr refused ↦ inl refused.1
]

pub shows_more : (was : Seen) (actor : Actor) (history after : List Entry) → AddsBy actor history after → Shows was history → Shows was after
shows_more was actor history after adds shows = elim adds [
  | inl same ↦ subst (Shows was) (sym same) shows
  | inr grew ↦ subst (Shows was) (sym grew.2) (shows_grown was (grew.0 ∷ []) history shows)
]

-- only admission admits
admits_nothing : (root : List ℕ) (view : View) (actor : Actor) (moment : ℕ) (act : Act) → actor ≢ actors.Admission → IsJustified view actor moment act → HasRoot root act
admits_nothing root view actor moment (acts.Admit name spec pending asked own) other justified = absurd (other justified)
admits_nothing root view actor moment _ other justified = tt

pub rooted_more : (root : List ℕ) (actor : Actor) (history after : List Entry) → actor ≢ actors.Admission → AddsBy actor history after → IsLegal after → HaveRoot root history → HaveRoot root after
rooted_more root actor history after other adds legal rooted = elim adds [
  | inl same ↦ subst (HaveRoot root) (sym same) rooted
  | inr grew ↦
      let step = (subst IsLegal grew.2 legal).1 in
      subst (HaveRoot root) (sym grew.2) (admits_nothing root (view_at grew.0.fronts history) grew.0.actor grew.0.moment grew.0.act (subst (λ (a : Actor). a ≢ actors.Admission) (sym grew.1) other) step.justified, rooted)
]

-- the actor is no life of the kubelet of this number
abbrev pub IsNotBy : ℕ → Actor → Type 0
IsNotBy number actor = (life : ℕ) → actor ≢ actors.Kubelet number life

-- a node stands under the entries of others
pub node_stays : (scripts : Scripts) (number : ℕ) (node : Node) (actor : Actor) (history after : List Entry) → IsNotBy number actor → AddsBy actor history after → IsLegal after → IsNode scripts history number node → IsNode scripts after number node
node_stays scripts number node actor history after other adds legal stands = elim adds [
  | inl same ↦ subst (λ (h : List Entry). IsNode scripts h number node) (sym same) stands
  | inr grew ↦ subst (λ (h : List Entry). IsNode scripts h number node) (sym grew.2) (record {
    number = stands.number;
    life = stands.life;
    root = stands.root;
    shows = shows_grown (seen node.cache) (grew.0 ∷ []) history stands.shows;
    met = others_keep node.kubelet.number node.kubelet.life node.kubelet.root node.kubelet.held history _ node.host.log.told grew.0 (subst IsLegal grew.2 legal)
        (λ life by. other life (sym grew.1 ∙ by ∙ ap (λ (n : ℕ). actors.Kubelet n life) stands.number)) stands.met;
    own = stands.own;
    plays = stands.plays;
  })
]

-- all stands behind an entry of an actor, where each node is one that stands again or one of another kubelet
pub stands_more : (scripts : Scripts) (history after : List Entry) (clock : ℕ) (controllers : List Kept) (nodes now : List Node) (watch : Kept) (actor : Actor)
    → actor ≢ actors.Admission → AddsBy actor history after → Stands scripts history clock controllers nodes watch
    → IsSound (script_of scripts) (world_of after clock controllers now) → length now ≡ length nodes
    → ((j : ℕ) (node : Node) → slice_get now j ≡ Some node → IsNode scripts after j node ⊎ (IsNotBy j actor × (slice_get nodes j ≡ Some node)))
    → Stands scripts after clock controllers now watch
stands_more scripts history after clock controllers nodes now watch actor other adds stands sound count each = record {
  few_controllers = stands.few_controllers;
  few_nodes = subst (λ (n : ℕ). n < 2 ^ 32) (sym count) stands.few_nodes;
  root = stands.root;
  rooted = rooted_more (codes "/work") actor history after other adds sound.legal stands.rooted;
  sound = sound;
  shown = λ i cache at. shows_more (seen cache) actor history after adds (stands.shown i cache at);
  watched = shows_more (seen watch) actor history after adds stands.watched;
  stand = λ j node at. elim (each j node at) [
    | inl is ↦ is
    | inr was ↦ node_stays scripts j node actor history after was.0 adds sound.legal (stands.stand j node was.1)
  ];
}
