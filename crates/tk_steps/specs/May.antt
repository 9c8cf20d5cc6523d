-- What a kubelet may do on its host for one of its pods, and what that adds to the host's history.
use Rattle.std.specs.Prelude.{◌≡◌, ◌⊎◌, ℕ, List, [], ◌∷◌, ◌++◌, Some, slice_get}
use Rattle.std.specs.List.{Contains}
use Rattle.tk_pod.specs.Exits.{continues}
use Rattle.tk_types.specs.declared.value.ResultSpec.{ResultSpec}
use Rattle.tk_edge.specs.declared.event.Event.{Event}
use Rattle.tk_edge.specs.declared.event.Event.TheVariants as events
use Rattle.tk_edge.specs.declared.event.Arming.{Arming}
use Rattle.tk_edge.specs.declared.order.Order.{Order}
use Rattle.tk_edge.specs.History.{Has, IsNew, arming_of, StillWaits, StillRuns, MayStart}
use Rattle.tk_journal.specs.declared.object.Plan.{Plan}
use Rattle.tk_space.specs.Apart.{IsWithin}
use Rattle.tk_space.specs.Space.{below, pod_folder, spaces_folder}
use Rattle.tk_steps.specs.Ready.{space_file}
use Rattle.tk_steps.specs.Paths.{start_path, post_path, wait_path, script_path, result_path}

-- no step of the pod is armed
abbrev pub IsUnarmed : List ℕ → List Event → Type 0
IsUnarmed name told = (child : ℕ) (arming : Arming) → arming_of child told ≡ Some arming → arming.order.pod ≡ name → ⊥

-- the script of a step, as the plan gives it
pub record IsScript (root name : List ℕ) (plan : Plan) (path bytes : List ℕ) : Type 0 where
  pub step : ℕ
  pub text : slice_get plan.scripts step ≡ Some bytes
  pub at : path ≡ script_path root name step

-- the file by which the folder of one of the plan's workspaces is made
pub record IsSpaceFile (root name : List ℕ) (plan : Plan) (path bytes : List ℕ) : Type 0 where
  pub place : ℕ
  pub folder : List ℕ
  pub planned : slice_get plan.folders place ≡ Some folder
  pub at : path ≡ space_file root name folder
  pub empty : bytes ≡ []

-- the folder below that of the pod's emptyDirs which another folder is, or in which it lies
pub record IsSpaceOf (root name own folder : List ℕ) : Type 0 where
  pub space : List ℕ
  pub at : folder ≡ below (spaces_folder root name) space
  pub within : IsWithin folder own

-- the folder of one of the plan's emptyDirs
pub record IsSpaceFolder (root name : List ℕ) (plan : Plan) (folder : List ℕ) : Type 0 where
  pub place : ℕ
  pub own : List ℕ
  pub planned : slice_get plan.folders place ≡ Some own
  pub lies : IsSpaceOf root name own folder

-- what is put in a pod's folder before its steps are armed
abbrev pub IsOwnPut : List ℕ → List ℕ → Plan → List ℕ → List ℕ → Type 0
IsOwnPut root name plan path bytes = ((path ≡ start_path root name) × (bytes ≡ [])) ⊎ IsScript root name plan path bytes ⊎ IsSpaceFile root name plan path bytes

-- what is cleared before its steps are armed
abbrev pub IsOwnFolder : List ℕ → List ℕ → Plan → List ℕ → Type 0
IsOwnFolder root name plan folder = (folder ≡ pod_folder root name) ⊎ IsSpaceFolder root name plan folder

-- the entry is armed as the plan's step of this number
pub record IsOwnArming (root name : List ℕ) (plan : Plan) (arming : Arming) : Type 0 where
  pub same_pod : arming.order.pod ≡ name
  pub own_order : slice_get plan.orders arming.order.step ≡ Some arming.order
  pub keeps : arming.keep_going ≡ continues plan.keep arming.order.step
  pub waits : arming.wait ≡ wait_path root name arming.order.step
  pub posts : arming.post ≡ post_path root name arming.order.step

-- no entry is armed as this step
abbrev pub IsStepUnarmed : List ℕ → ℕ → List Event → Type 0
IsStepUnarmed name step told = (child : ℕ) (arming : Arming) → arming_of child told ≡ Some arming → arming.order.pod ≡ name → arming.order.step ≡ step → ⊥

-- the child is armed as a step of the pod
abbrev pub IsOwnChild : List ℕ → ℕ → List Event → Type 0
IsOwnChild name child told = Has (arming_of child told) (λ arming. arming.order.pod ≡ name)

-- the pod's step starts by its own order, once its wait file stands
pub record StartsOwn (name : List ℕ) (child : ℕ) (order : Order) (told : List Event) : Type 0 where
  pub arming : Arming
  pub armed : arming_of child told ≡ Some arming
  pub same_pod : arming.order.pod ≡ name
  pub own_order : order ≡ arming.order
  pub waited : StillWaits child told
  pub may : MayStart arming told

-- What a turn may add for a pod: its folder is cleared and files are put before its steps are armed, each step is
-- armed once and then starts, ends or is refused, and its results are fetched.
abbrev pub May : List ℕ → List ℕ → Plan → Event → List Event → Type 0
May root name plan (events.Put path bytes answered) older = IsOwnPut root name plan path bytes × IsUnarmed name older
May root name plan (events.Cleared folder answered) older = IsOwnFolder root name plan folder × IsUnarmed name older
May root name plan (events.Fetched path bytes) older = (spec : ResultSpec) × Contains plan.results spec × (path ≡ result_path root name spec.name)
May root name plan (events.Armed child arming) older = IsNew child older × IsOwnArming root name plan arming × IsStepUnarmed name arming.order.step older
May root name plan (events.Started child order) older = StartsOwn name child order older
May root name plan (events.Refused child) older = IsOwnChild name child older × StillWaits child older
May root name plan (events.Exited child exit) older = IsOwnChild name child older × StillRuns child older

-- each event that the newer history adds, with what stood before it
abbrev pub EachSince : (Event → List Event → Type 0) → List Event → List Event → Type 0
EachSince P [] old = Unit {0}
EachSince P (e ∷ since) old = P e (since ++ old) × EachSince P since old

pub record Adds (P : Event → List Event → Type 0) (old new : List Event) : Type 0 where
  pub since : List Event
  pub is : new ≡ since ++ old
  pub each : EachSince P since old

abbrev pub AddsFor : List ℕ → List ℕ → Plan → List Event → List Event → Type 0
AddsFor root name plan old new = Adds (May root name plan) old new
