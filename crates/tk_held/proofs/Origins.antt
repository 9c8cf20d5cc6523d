-- Each pod of a legal journal has the plan of an attempt of its TaskRun.
use Rattle.std.proofs.Common.{◌≡◌, ℕ, zero, suc, ◌<◌, ◌≤◌, List, [], ◌∷◌, length, Option, Some, None, refl, sym, ◌∙◌, ap, subst, inl, inr, arith, slice_get, map}
use Rattle.std.specs.Prelude.{◌⊎◌, filter_map, option_and_then, option_map}
use Rattle.std.specs.List.{cons_option, enumerate_from}
use Rattle.std.specs.Option.{option_map_or}
use Rattle.std.proofs.lemmas.List.{length-map}
use Rattle.std.proofs.lemmas.List.FromFn.{length-enumerate_from}
use Rattle.std.proofs.lemmas.Option.{same_Some}
use Rattle.tk_types.specs.Lists.{all_some}
use Rattle.tk_types.specs.declared.scenario.Kind.TheVariants as kinds
use Rattle.tk_types.specs.declared.task.Space.{Space}
use Rattle.tk_types.specs.declared.task.SpaceSpec.{SpaceSpec}
use Rattle.tk_types.specs.declared.value.Param.{Param}
use Rattle.tk_names.specs.Children.{pod_name}
use Rattle.tk_space.specs.Apart.{IsName, LiesUnder}
use Rattle.tk_space.specs.Space.{bound_space, claims_folder, folders_of, pod_folder, space_folder}
use Rattle.tk_space.proofs.Apart.{own_in_pod, claim_lies}
use Rattle.tk_journal.specs.declared.act.Act.{Act}
use Rattle.tk_journal.specs.declared.act.Act.TheVariants as acts
use Rattle.tk_journal.specs.declared.entry.Actor.{Actor}
use Rattle.tk_journal.specs.declared.entry.Entry.{Entry}
use Rattle.tk_journal.specs.declared.object.EndedPod.{EndedPod}
use Rattle.tk_journal.specs.declared.object.Plan.{Plan}
use Rattle.tk_journal.specs.declared.object.PodState.{PodState}
use Rattle.tk_journal.specs.declared.object.TaskRunState.{TaskRunState}
use Rattle.tk_journal.specs.Effects.{writes, pod_made, pod_after}
use Rattle.tk_journal.specs.Folders.{HaveRoot}
use Rattle.tk_journal.specs.History.{past, task_run_of, pod_of, pod_written, view_at}
use Rattle.tk_journal.specs.Legal.{IsLegal}
use Rattle.tk_journal.specs.Lists.{Has}
use Rattle.tk_journal.specs.Plan.{Filled, IsPlan, filled, folder_of, order_of, plan_env, plan_with, pod_of_attempt, script_file}
use Rattle.tk_journal.specs.Right.{LastingPod}
use Rattle.tk_journal.specs.Rows.{IsJustified}
use Rattle.tk_journal.specs.TaskRunRows.{MakePodRow}
use Rattle.tk_journal.proofs.Claimed.{legal_past}
use Rattle.tk_journal.proofs.Folders.{task_run_plain}
use Rattle.tk_journal.proofs.Induction.{lasting}
use Rattle.tk_journal.proofs.Past.{state_cases}
use Rattle.tk_journal.proofs.PlainNames.{pod_is_name, not_claims}
use Rattle.tk_held.specs.Laws.{LegalIsPlanned, LegalIsPlaced}
use Rattle.tk_journal.proofs.Folders.{task_run_root, have_past}

-- what a plan is made of

from_and_then : {A B : Type 0} (f : A → Option B) (o : Option A) (y : B) → option_and_then f o ≡ Some y → (x : A) × (f x ≡ Some y)
from_and_then f None y is = cc
from_and_then f (Some x) y is = (x, is)

from_map : {A B : Type 0} (f : A → B) (o : Option A) (y : B) → option_map f o ≡ Some y → (x : A) × (f x ≡ y)
from_map f None y is = cc
from_map f (Some x) y is = (x, same_Some (f x) y is)

made_with : (task_run : TaskRunState) (attempt : ℕ) (plan : Plan) → IsPlan task_run attempt plan → (steps : List Filled) × (plan_with task_run attempt steps ≡ plan)
made_with task_run attempt plan is =
    let body = task_run.spec.body in
    let bound = from_and_then (λ (bound : List Param). option_map (plan_with task_run attempt) (all_some (map (filled (plan_env task_run attempt bound)) body.spec.steps))) _ plan is in
    from_map (plan_with task_run attempt) (all_some (map (filled (plan_env task_run attempt bound.0)) body.spec.steps)) plan bound.1

-- a script for each order
scripts_length : (task_run : TaskRunState) (attempt : ℕ) (plan : Plan) → IsPlan task_run attempt plan → length plan.scripts ≡ length plan.orders
scripts_length task_run attempt plan is =
    let made = made_with task_run attempt plan is in
    let scripts : length (plan_with task_run attempt made.0).scripts ≡ length made.0 = length-map made.0 (λ (step : Filled). option_map_or script_file step.script []) in
    let orders : length (plan_with task_run attempt made.0).orders ≡ length made.0 =
    length-map (enumerate_from 0 made.0) (order_of (pod_of_attempt task_run attempt) (folder_of task_run attempt)) ∙ length-enumerate_from 0 made.0 in
    ap (λ (p : Plan). length p.scripts) (sym made.1) ∙ (scripts ∙ (sym orders ∙ ap (λ (p : Plan). length p.orders) made.1))

plan_folders : (task_run : TaskRunState) (attempt : ℕ) (plan : Plan) → IsPlan task_run attempt plan
    → plan.folders ≡ folders_of task_run.root (pod_of_attempt task_run attempt) task_run.spec.body.spec.spaces task_run.spec.body.bound
plan_folders task_run attempt plan is = let made = made_with task_run attempt plan is in ap (λ (p : Plan). p.folders) (sym made.1)

-- where a pod comes from

-- its plan is that of its attempt of a TaskRun of this name, which has the root that all has
record Origin (history : List Entry) (pod : PodState) : Type 0 where
  task_run : TaskRunState
  plan : IsPlan task_run pod.attempt pod.plan
  named : task_run.spec.name ≡ pod.task_run
  rooted : (root : List ℕ) → HaveRoot root history → task_run.root ≡ root

kept_origin : (history : List Entry) (actor : Actor) (act : Act) (pod : PodState) → Origin history pod → Origin history (pod_after actor act pod)
kept_origin history actor (acts.ClaimPod name) pod o = record { task_run = o.task_run; plan = o.plan; named = o.named; rooted = o.rooted }
kept_origin history actor (acts.EndPod name exits outcome) pod o = record { task_run = o.task_run; plan = o.plan; named = o.named; rooted = o.rooted }
kept_origin history actor _ pod o = o

made_origin : (older : List Entry) (e : Entry) → IsLegal older → (act : Act) → IsJustified (view_at e.fronts older) e.actor e.moment act → (pod : PodState) → pod_made act ≡ Some pod → Origin (e ∷ older) pod
made_origin older e legal (acts.MakePod named task_run attempt plan mark) just pod out = subst (Origin (e ∷ older)) (same_Some _ pod out) (record {
  task_run = row.it;
  plan = row.has.planned;
  named = ((lasting (past e.fronts.task_runs older) (legal_past e.fronts.task_runs older legal)).task_runs task_run row.it row.is).named;
  rooted = λ root have. task_run_root root (past e.fronts.task_runs older) (have_past root e.fronts.task_runs older have.1) task_run row.it row.is;
})
  where
    row : Has (task_run_of (past e.fronts.task_runs older) task_run) (MakePodRow named task_run attempt plan mark)
    row = just.1
made_origin older e legal act just pod out = cc

origin : (history : List Entry) → IsLegal history → (name : List ℕ) (pod : PodState) → pod_of history name ≡ Some pod → Origin history pod
origin [] legal name pod is = cc
origin (e ∷ older) legal name pod is =
    state_cases (writes kinds.Pods name) (λ (before : List Entry) d was. pod_written d was) (λ (o : Option PodState). (p : PodState) → o ≡ Some p → Origin (e ∷ older) p) e older
    (λ miss p there. later p (origin older legal.0 name p there)) (λ hit. written (pod_of older name) (origin older legal.0 name)) pod is
  where
    later : (p : PodState) → Origin older p → Origin (e ∷ older) p
    later p o = record { task_run = o.task_run; plan = o.plan; named = o.named; rooted = λ root have. o.rooted root have.1 }

    written : (was : Option PodState) → ((p : PodState) → was ≡ Some p → Origin older p) → (p : PodState) → pod_written e was ≡ Some p → Origin (e ∷ older) p
    written None own p out = made_origin older e legal.0 e.act legal.1.justified p out
    written (Some before) own p out =
        subst (Origin (e ∷ older)) (same_Some (pod_after e.actor e.act before) p out)
        (kept_origin (e ∷ older) e.actor e.act before (later before (own before refl)))

-- so it has 1 to 32 orders of its own

first_claimed : (history : List Entry) (name : List ℕ) (state : PodState) → LastingPod history name state → state.claim ≡ None → (ended : Option EndedPod) → state.ended ≡ ended → ended ≡ None
first_claimed history name state last none None is = refl
first_claimed history name state last none (Some ended) is =
    let claimed = last.claimed_first (ended, is) in
    let bad : Some claimed.0 ≡ None = sym claimed.1 ∙ none in
    cc (bad)

pub legal_is_planned : LegalIsPlanned
legal_is_planned history legal name state is =
    let last = (lasting history legal).pods name state is in
    let from = origin history legal name state is in
    let same = scripts_length from.task_run state.attempt state.plan from.plan in
    let few = last.steps.1 in
    record {
      planned = record {
        some = last.steps.0;
        few = last.steps.1;
        scripts = omega (arith, same, few);
        pod = λ step order at. (last.orders step order at).0;
        step = λ step order at. (last.orders step order at).1;
      };
      claimed_first = λ none. first_claimed history name state last none state.ended refl;
    }

-- and its files have their place

from_filter : {X Y : Type 0} (f : X → Option Y) (xs : List X) (i : ℕ) (y : Y) → slice_get (filter_map f xs) i ≡ Some y → (x : X) × (f x ≡ Some y)
from_filter f [] i y at = cc
from_filter {X} {Y} f (x ∷ xs) i y at = by_head (f x) refl (λ j found. from_filter f xs j y found) i at
  where
    by_head : (o : Option Y) → f x ≡ o → ((j : ℕ) → slice_get (filter_map f xs) j ≡ Some y → (z : X) × (f z ≡ Some y)) → (j : ℕ) → slice_get (cons_option o (filter_map f xs)) j ≡ Some y → (z : X) × (f z ≡ Some y)
    by_head None is rest j at = rest j at
    by_head (Some z) is rest zero at = (x, is ∙ at)
    by_head (Some z) is rest (suc j) at = rest j at

space_lies : (root pod : List ℕ) (space : Space) → LiesUnder (pod_folder root pod) (space_folder root pod space) ⊎ LiesUnder (claims_folder root) (space_folder root pod space)
space_lies root pod space = by_claim space.claim refl
  where
    by_claim : (claim : Option (List ℕ)) → space.claim ≡ claim → LiesUnder (pod_folder root pod) (space_folder root pod space) ⊎ LiesUnder (claims_folder root) (space_folder root pod space)
    by_claim None is = inl (own_in_pod root pod space is)
    by_claim (Some claim) is = inr (claim_lies root pod claim space is)

folder_lies : (root pod : List ℕ) (specs : List SpaceSpec) (bound : List Space) (place : ℕ) (folder : List ℕ) → slice_get (folders_of root pod specs bound) place ≡ Some folder
    → LiesUnder (pod_folder root pod) folder ⊎ LiesUnder (claims_folder root) folder
folder_lies root pod specs bound place folder at =
    let spec = from_filter (λ (s : SpaceSpec). option_map (space_folder root pod) (bound_space bound s)) specs place folder at in
    let space = from_map (space_folder root pod) (bound_space bound spec.0) folder spec.1 in
    subst (λ (f : List ℕ). LiesUnder (pod_folder root pod) f ⊎ LiesUnder (claims_folder root) f) space.1 (space_lies root pod space.0)

pub legal_is_placed : LegalIsPlaced
legal_is_placed root history legal have name state is = record {
  plain = subst IsName (sym last.named) (pod_is_name state.task_run state.attempt (omega (arith, few)) (task_run_plain history legal state.task_run owner.it owner.is));
  no_claims = λ same. not_claims state.task_run state.attempt (sym last.named ∙ same);
  folders = λ place folder at. folder_lies root name from.task_run.spec.body.spec.spaces from.task_run.spec.body.bound place folder (ap (λ (fs : List (List ℕ)). slice_get fs place) (sym folders) ∙ at);
}
  where
    last : LastingPod history name state
    last = (lasting history legal).pods name state is

    owner : Has (task_run_of history state.task_run) (λ task_run. (place : ℕ) × (state.attempt ≡ suc place) × (place < length task_run.attempts))
    owner = last.attempt

    few : state.attempt ≤ 101
    few =
        let t = (lasting history legal).task_runs state.task_run owner.it owner.is in
        omega (arith, owner.has.1, owner.has.2, t.few, t.sized)

    from : Origin history state
    from = origin history legal name state is

    own_name : pod_of_attempt from.task_run state.attempt ≡ name
    own_name = ap (λ (n : List ℕ). pod_name n state.attempt) from.named ∙ sym last.named

    folders : state.plan.folders ≡ folders_of root name from.task_run.spec.body.spec.spaces from.task_run.spec.body.bound
    folders = plan_folders from.task_run state.attempt state.plan from.plan
        ∙ (ap (λ (r : List ℕ). folders_of r (pod_of_attempt from.task_run state.attempt) from.task_run.spec.body.spec.spaces from.task_run.spec.body.bound) (from.rooted root have)
        ∙ ap (λ (n : List ℕ). folders_of root n from.task_run.spec.body.spec.spaces from.task_run.spec.body.bound) own_name)
