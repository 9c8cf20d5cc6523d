-- Members admit nothing and ask nothing, and what stands of them stands behind the user's asks.
use Rattle.std.proofs.Common.{◌≡◌, ◌≢◌, ℕ, List, ◌∷◌, length, Option, true, false, refl, sym, ◌∙◌, ap, subst, inl, inr}
use Rattle.std.specs.Prelude.{Bool, ◌⊎◌}
use Rattle.std.proofs.lemmas.Option.{same_Some}
use Rattle.tk_edge.specs.declared.event.Event.{Event}
use Rattle.tk_edge.specs.declared.gate.GateTurn.{GateTurn}
use Rattle.tk_journal.specs.declared.act.Act.{Act}
use Rattle.tk_journal.specs.declared.act.Act.TheVariants as acts
use Rattle.tk_journal.specs.declared.entry.Actor.{Actor}
use Rattle.tk_journal.specs.declared.entry.Actor.TheVariants as actors
use Rattle.tk_journal.specs.declared.entry.Entry.{Entry}
use Rattle.tk_journal.specs.History.{View, view_at}
use Rattle.tk_journal.specs.Legal.{IsLegal, is_admit}
use Rattle.tk_journal.specs.Rows.{IsJustified}
use Rattle.tk_rounds.specs.Growth.{GrowsBy, OfOne}
use Rattle.tk_rounds.specs.declared.bench.Bench.{Bench}
use Rattle.tk_rounds.specs.declared.bench.Controller.{Controller}
use Rattle.tk_rounds.specs.declared.bench.Node.{Node}
use Rattle.tk_rounds.specs.Bench.{ControllerFollows, IsReadyController, IsReadyNode, NodeFollows, controller_number, node_number}
use Rattle.tk_rounds.proofs.Parts.{all_follow, all_ready}
use Rattle.tk_rounds.specs.Members.{by_controller, by_kubelet, of_controller, of_kubelet}
use Rattle.tk_rounds.proofs.Growing.{grows_as, kept}
use Rattle.tk_run.specs.declared.asks.AskWord.{AskWord}
use Rattle.tk_run.specs.Asks.{AreTried, ClockTold, IsOfUser, UserFollows, by_user, clock_told, of_user}
use Rattle.tk_run.specs.Going.{GoesOn, IsReady, OfMembers}
use Rattle.tk_run.proofs.Asked.{tried_other, user_other}

-- an entry of a controller or a node
abbrev pub OfTurns : ℕ → ℕ → Entry → Type 0
OfTurns controllers nodes e = OfOne of_controller controllers e ⊎ OfOne of_kubelet nodes e

not_controller : (number : ℕ) (actor : Actor) → by_controller number actor ≡ true → by_user actor ≡ false
not_controller number (actors.Runs i) is = refl
not_controller number (actors.Tasks i) is = refl
not_controller number _ is = cc

not_kubelet : (number : ℕ) (actor : Actor) → by_kubelet number actor ≡ true → by_user actor ≡ false
not_kubelet number (actors.Kubelet i life) is = refl
not_kubelet number _ is = cc

not_user : (controllers nodes : ℕ) (e : Entry) → OfTurns controllers nodes e → of_user e ≡ false
not_user controllers nodes e (inl own) = not_controller own.0 e.actor own.2.0
not_user controllers nodes e (inr own) = not_kubelet own.0 e.actor own.2.0

pub user_controller : (number : ℕ) (e : Entry) → IsOfUser e → of_controller number e ≡ false
user_controller number e is = ap (by_controller number) is.0

pub user_kubelet : (number : ℕ) (e : Entry) → IsOfUser e → of_kubelet number e ≡ false
user_kubelet number e is = ap (by_kubelet number) is.0

pub not_admission : (controllers nodes : ℕ) (e : Entry) → OfMembers controllers nodes e → e.actor ≢ actors.Admission
not_admission controllers nodes e (inl own) is = let both = sym own.2.0 ∙ ap (by_controller own.0) is in cc (both)
not_admission controllers nodes e (inr (inl own)) is = let both = sym own.2.0 ∙ ap (by_kubelet own.0) is in cc (both)
not_admission controllers nodes e (inr (inr user)) is = let both = sym user.0 ∙ is in cc (both)

pub admits_none : (view : View) (actor : Actor) (moment : ℕ) (act : Act) → actor ≢ actors.Admission → IsJustified view actor moment act → is_admit act ≡ false
admits_none view actor moment (acts.Admit name spec pending asked root) other justified = absurd (other justified)
admits_none view actor moment _ other justified = refl

turns_are_members : (controllers nodes : ℕ) (e : Entry) → OfTurns controllers nodes e → OfMembers controllers nodes e
turns_are_members controllers nodes e (inl own) = inl own
turns_are_members controllers nodes e (inr own) = inr (inl own)

pub members_grow : (controllers nodes : ℕ) (history after : List Entry) → GrowsBy (OfTurns controllers nodes) history after → GrowsBy (OfMembers controllers nodes) history after
members_grow controllers nodes history after grows = grows_as (OfTurns controllers nodes) (OfMembers controllers nodes) (turns_are_members controllers nodes) history after grows

pub user_grows : (controllers nodes : ℕ) (history after : List Entry) → GrowsBy IsOfUser history after → GrowsBy (OfMembers controllers nodes) history after
user_grows controllers nodes history after grows = grows_as IsOfUser (OfMembers controllers nodes) (λ e own. inr (inr own)) history after grows

-- what was asked stands behind turns
pub tried_turns : (since : ℕ) (words : List AskWord) (tried : List Bool) (controllers nodes : ℕ) (history after : List Entry) → IsLegal after → GrowsBy (OfTurns controllers nodes) history after → AreTried since words tried history → AreTried since words tried after
tried_turns since words tried controllers nodes history after legal grows was =
    kept (OfTurns controllers nodes) (λ (h : List Entry). AreTried since words tried h)
    (λ h e here own is. tried_other since words h e here tried (not_user controllers nodes e own)
    (admits_none (view_at e.fronts h) e.actor e.moment e.act (not_admission controllers nodes e (turns_are_members controllers nodes e own)) here.1.justified) is)
    history after legal grows was

pub user_turns : (since now : ClockTold) (controllers nodes : ℕ) (history after : List Entry) → IsLegal after → GrowsBy (OfTurns controllers nodes) history after → UserFollows since now history → UserFollows since now after
user_turns since now controllers nodes history after legal grows was =
    kept (OfTurns controllers nodes) (UserFollows since now) (λ h e here own is. user_other since now h e (not_user controllers nodes e own) is) history after legal grows was

-- a bench whose user's clock went on

module _ {K H G : Type 0} (answers : G → Option (List GateTurn)) (readings : K → Option (List ℕ)) (last : K → ℕ) (told : H → List Event) (killed : H → ℕ → Bool) (faults : H → ℕ)
    (keep_controller : (m : Controller K G) (history : List Entry) (e : Entry) → IsLegal (e ∷ history) → of_controller (controller_number m) e ≡ false → IsReadyController history m → IsReadyController (e ∷ history) m)
    (follow_controller : (start m : Controller K G) (history : List Entry) (e : Entry) → IsLegal (e ∷ history) → of_controller (controller_number m) e ≡ false → IsReadyController history m → ControllerFollows answers readings last start m history → ControllerFollows answers readings last start m (e ∷ history))
    (keep_node : (m : Node K H G) (history : List Entry) (e : Entry) → IsLegal (e ∷ history) → of_kubelet (node_number m) e ≡ false → IsReadyNode told killed history m → IsReadyNode told killed (e ∷ history) m)
    (follow_node : (start m : Node K H G) (history : List Entry) (e : Entry) → IsLegal (e ∷ history) → of_kubelet (node_number m) e ≡ false → IsReadyNode told killed history m → NodeFollows answers readings last told faults start m history → NodeFollows answers readings last told faults start m (e ∷ history))
    (bench : Bench K H G) (user : K) (history after : List Entry) (legal : IsLegal after) (grows : GrowsBy IsOfUser history after) (ready : IsReady told killed history bench) where
  pub asked_ready : IsReady told killed after (record bench { user = user })
  asked_ready = record {
    few = ready.few;
    controllers = all_ready of_controller controller_number IsReadyController (ControllerFollows answers readings last) keep_controller follow_controller IsOfUser user_controller bench.controllers.items history after legal grows ready.controllers;
    nodes = all_ready of_kubelet node_number (IsReadyNode told killed) (NodeFollows answers readings last told faults) keep_node follow_node IsOfUser user_kubelet bench.kubelets.items history after legal grows ready.nodes;
  }

  pub asked_goes : ((since : ClockTold) → UserFollows since (clock_told readings last bench.user) history → UserFollows since (clock_told readings last user) after) → GoesOn answers readings last told faults bench (record bench { user = user }) history after
  asked_goes follows = record {
    counts = (refl, refl);
    grows = user_grows (length bench.controllers.items) (length bench.kubelets.items) history after grows;
    controllers = all_follow of_controller controller_number IsReadyController (ControllerFollows answers readings last) keep_controller follow_controller IsOfUser user_controller bench.controllers.items bench.controllers.items history history after legal grows ready.controllers
        (λ i start a b at_a at_b is. subst (λ (m : Controller K G). ControllerFollows answers readings last start m history) (same_Some a b (sym at_a ∙ at_b)) is);
    nodes = all_follow of_kubelet node_number (IsReadyNode told killed) (NodeFollows answers readings last told faults) keep_node follow_node IsOfUser user_kubelet bench.kubelets.items bench.kubelets.items history history after legal grows ready.nodes
        (λ i start a b at_a at_b is. subst (λ (m : Node K H G). NodeFollows answers readings last told faults start m history) (same_Some a b (sym at_a ∙ at_b)) is);
    user = follows;
  }
