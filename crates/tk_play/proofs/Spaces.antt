-- The pods of a legal journal, all of whose admitted objects have one root, have their own places.
use Rattle.std.proofs.Common.{◌≡◌, ℕ, zero, suc, List, [], ◌∷◌, Option, Some, None, refl, sym, ◌∙◌, ap, subst, inl, inr, slice_get, map}
use Rattle.std.specs.Prelude.{◌⊎◌, filter_map, option_and_then, option_map}
use Rattle.std.specs.List.{cons_option}
use Rattle.std.proofs.lemmas.Option.{same_Some}
use Rattle.tk_types.specs.Lists.{all_some}
use Rattle.tk_types.specs.declared.scenario.Kind.TheVariants as kinds
use Rattle.tk_types.specs.declared.task.Space.{Space}
use Rattle.tk_types.specs.declared.task.SpaceSpec.{SpaceSpec}
use Rattle.tk_types.specs.declared.value.Param.{Param}
use Rattle.tk_names.specs.Children.{pod_name}
use Rattle.tk_space.specs.Apart.{LiesUnder}
use Rattle.tk_space.specs.Space.{bound_space, claims_folder, folders_of, spaces_folder, space_folder}
use Rattle.tk_space.proofs.Apart.{own_lies, claim_lies}
use Rattle.tk_journal.specs.declared.act.Act.{Act}
use Rattle.tk_journal.specs.declared.act.Act.TheVariants as acts
use Rattle.tk_journal.specs.declared.entry.Actor.{Actor}
use Rattle.tk_journal.specs.declared.entry.Entry.{Entry}
use Rattle.tk_journal.specs.declared.object.Plan.{Plan}
use Rattle.tk_journal.specs.declared.object.PodState.{PodState}
use Rattle.tk_journal.specs.declared.object.TaskRunState.{TaskRunState}
use Rattle.tk_journal.specs.Effects.{writes, pod_made, pod_after}
use Rattle.tk_journal.specs.Folders.{HaveRoot}
use Rattle.tk_journal.specs.History.{past, task_run_of, pod_of, pod_written, view_at}
use Rattle.tk_journal.specs.Legal.{IsLegal}
use Rattle.tk_journal.specs.Lists.{Has}
use Rattle.tk_journal.specs.Plan.{IsPlan, filled, plan_env, plan_with, pod_of_attempt}
use Rattle.tk_journal.specs.Rows.{IsJustified}
use Rattle.tk_journal.specs.TaskRunRows.{MakePodRow}
use Rattle.tk_journal.proofs.Claimed.{legal_past}
use Rattle.tk_journal.proofs.Folders.{task_run_root, have_past}
use Rattle.tk_journal.proofs.Induction.{lasting}
use Rattle.tk_journal.proofs.Past.{state_cases}
use Rattle.tk_held.proofs.Origins.{legal_is_placed}
use Rattle.tk_play.specs.Own.{IsSpaced}

-- what a plan is made of

from_and_then : {A B : Type 0} (f : A → Option B) (o : Option A) (y : B) → option_and_then f o ≡ Some y → (x : A) × (f x ≡ Some y)
from_and_then f None y is = cc
from_and_then f (Some x) y is = (x, is)

from_map : {A B : Type 0} (f : A → B) (o : Option A) (y : B) → option_map f o ≡ Some y → (x : A) × (f x ≡ y)
from_map f None y is = cc
from_map f (Some x) y is = (x, same_Some (f x) y is)

plan_folders : (task_run : TaskRunState) (attempt : ℕ) (plan : Plan) → IsPlan task_run attempt plan
    → plan.folders ≡ folders_of task_run.root (pod_of_attempt task_run attempt) task_run.spec.body.spec.spaces task_run.spec.body.bound
plan_folders task_run attempt plan is =
    let steps = task_run.spec.body.spec.steps in
    let bound = from_and_then (λ (bound : List Param). option_map (plan_with task_run attempt) (all_some (map (filled (plan_env task_run attempt bound)) steps))) _ plan is in
    let made = from_map (plan_with task_run attempt) (all_some (map (filled (plan_env task_run attempt bound.0)) steps)) plan bound.1 in
    ap (λ (p : Plan). p.folders) (sym made.1)

-- its workspaces have the folders of those that a Task declares, under the pod's name and the one root
record HasSpaces (history : List Entry) (pod : PodState) : Type 0 where
  specs : List SpaceSpec
  bound : List Space
  folders : (root : List ℕ) → HaveRoot root history → pod.plan.folders ≡ folders_of root (pod_name pod.task_run pod.attempt) specs bound

later_spaces : (e : Entry) (older : List Entry) (pod : PodState) → HasSpaces older pod → HasSpaces (e ∷ older) pod
later_spaces e older pod has = record { specs = has.specs; bound = has.bound; folders = λ root have. has.folders root have.1 }

kept_spaces : (history : List Entry) (actor : Actor) (act : Act) (pod : PodState) → HasSpaces history pod → HasSpaces history (pod_after actor act pod)
kept_spaces history actor (acts.ClaimPod name) pod has = record { specs = has.specs; bound = has.bound; folders = has.folders }
kept_spaces history actor (acts.EndPod name exits outcome) pod has = record { specs = has.specs; bound = has.bound; folders = has.folders }
kept_spaces history actor _ pod has = has

made_spaces : (older : List Entry) (e : Entry) → IsLegal older → (act : Act) → IsJustified (view_at e.fronts older) e.actor e.moment act → (pod : PodState) → pod_made act ≡ Some pod → HasSpaces (e ∷ older) pod
made_spaces older e legal (acts.MakePod named task_run attempt plan mark) just pod out = subst (HasSpaces (e ∷ older)) (same_Some _ pod out) (record {
  specs = row.it.spec.body.spec.spaces;
  bound = row.it.spec.body.bound;
  folders = λ root have.
      let own_root : row.it.root ≡ root = task_run_root root (past e.fronts.task_runs older) (have_past root e.fronts.task_runs older have.1) task_run row.it row.is in
      let own_name : pod_of_attempt row.it attempt ≡ pod_name task_run attempt = ap (λ (n : List ℕ). pod_name n attempt) ((lasting (past e.fronts.task_runs older) (legal_past e.fronts.task_runs older legal)).task_runs task_run row.it row.is).named in
      plan_folders row.it attempt plan row.has.planned
      ∙ (ap (λ (r : List ℕ). folders_of r (pod_of_attempt row.it attempt) row.it.spec.body.spec.spaces row.it.spec.body.bound) own_root
      ∙ ap (λ (n : List ℕ). folders_of root n row.it.spec.body.spec.spaces row.it.spec.body.bound) own_name);
})
  where
    row : Has (task_run_of (past e.fronts.task_runs older) task_run) (MakePodRow named task_run attempt plan mark)
    row = just.1
made_spaces older e legal act just pod out = cc

has_spaces : (history : List Entry) → IsLegal history → (name : List ℕ) (pod : PodState) → pod_of history name ≡ Some pod → HasSpaces history pod
has_spaces [] legal name pod is = cc
has_spaces (e ∷ older) legal name pod is =
    state_cases (writes kinds.Pods name) (λ (before : List Entry) d was. pod_written d was) (λ (o : Option PodState). (p : PodState) → o ≡ Some p → HasSpaces (e ∷ older) p) e older
    (λ miss p there. later_spaces e older p (has_spaces older legal.0 name p there)) (λ hit. written (pod_of older name) (has_spaces older legal.0 name)) pod is
  where
    written : (was : Option PodState) → ((p : PodState) → was ≡ Some p → HasSpaces older p) → (p : PodState) → pod_written e was ≡ Some p → HasSpaces (e ∷ older) p
    written None own p out = made_spaces older e legal.0 e.act legal.1.justified p out
    written (Some before) own p out =
        subst (HasSpaces (e ∷ older)) (same_Some (pod_after e.actor e.act before) p out)
        (kept_spaces (e ∷ older) e.actor e.act before (later_spaces e older before (own before refl)))

-- so they have their place

from_filter : {X Y : Type 0} (f : X → Option Y) (xs : List X) (i : ℕ) (y : Y) → slice_get (filter_map f xs) i ≡ Some y → (x : X) × (f x ≡ Some y)
from_filter f [] i y at = cc
from_filter {X} {Y} f (x ∷ xs) i y at = by_head (f x) refl (λ j found. from_filter f xs j y found) i at
  where
    by_head : (o : Option Y) → f x ≡ o → ((j : ℕ) → slice_get (filter_map f xs) j ≡ Some y → (z : X) × (f z ≡ Some y)) → (j : ℕ) → slice_get (cons_option o (filter_map f xs)) j ≡ Some y → (z : X) × (f z ≡ Some y)
    by_head None is rest j at = rest j at
    by_head (Some z) is rest zero at = (x, is ∙ at)
    by_head (Some z) is rest (suc j) at = rest j at

abbrev LiesRight : List ℕ → List ℕ → List ℕ → Type 0
LiesRight root name folder = LiesUnder (spaces_folder root name) folder ⊎ LiesUnder (claims_folder root) folder

space_lies : (root name : List ℕ) (space : Space) → LiesRight root name (space_folder root name space)
space_lies root name space = by_claim space.claim refl
  where
    by_claim : (claim : Option (List ℕ)) → space.claim ≡ claim → LiesRight root name (space_folder root name space)
    by_claim None is = inl (own_lies root name space is)
    by_claim (Some claim) is = inr (claim_lies root name claim space is)

folder_lies : (root name : List ℕ) (specs : List SpaceSpec) (bound : List Space) (place : ℕ) (folder : List ℕ) → slice_get (folders_of root name specs bound) place ≡ Some folder → LiesRight root name folder
folder_lies root name specs bound place folder at =
    let spec = from_filter (λ (s : SpaceSpec). option_map (space_folder root name) (bound_space bound s)) specs place folder at in
    let space = from_map (space_folder root name) (bound_space bound spec.0) folder spec.1 in
    subst (LiesRight root name) space.1 (space_lies root name space.0)

pub legal_is_spaced : (root : List ℕ) (history : List Entry) → IsLegal history → HaveRoot root history → (name : List ℕ) (state : PodState) → pod_of history name ≡ Some state → IsSpaced root name state.plan
legal_is_spaced root history legal have name state is =
    let placed = legal_is_placed root history legal have name state is in
    let has = has_spaces history legal name state is in
    let named = ((lasting history legal).pods name state is).named in
    let folders : state.plan.folders ≡ folders_of root name has.specs has.bound = has.folders root have ∙ ap (λ (n : List ℕ). folders_of root n has.specs has.bound) (sym named) in
    record {
      plain = placed.plain;
      no_claims = placed.no_claims;
      folders = λ place folder at. folder_lies root name has.specs has.bound place folder (ap (λ (fs : List (List ℕ)). slice_get fs place) (sym folders) ∙ at);
    }
