-- What a kubelet's calls for one pod come to.
use Rattle.std.specs.Prelude.{◌≡◌, ◌<◌, ℕ, suc, Bool, true, false, not, List, [], ◌∷◌, Some, None, if◌then◌else◌, is_none}
use Rattle.tk_edge.specs.declared.event.Event.{Event}
use Rattle.tk_edge.specs.declared.event.Event.TheVariants as events
use Rattle.tk_edge.specs.declared.order.Watch.{Watch}
use Rattle.tk_edge.specs.declared.order.Watch.TheVariants as watches
use Rattle.tk_edge.specs.Causes.{raised}
use Rattle.tk_steps.specs.declared.held.HeldPod.{HeldPod}
use Rattle.tk_steps.specs.declared.held.HeldStep.{HeldStep}
use Rattle.tk_steps.specs.Held.{HoldsPod}
use Rattle.tk_steps.specs.May.{AddsFor}

-- the same pod, of which the kubelet still holds what its host tells, by what may be done for it
pub record Moves (root : List ℕ) (old new : HeldPod) (told now : List Event) : Type 0 where
  pub same_name : new.name ≡ old.name
  pub same_plan : new.plan ≡ old.plan
  pub holds : HoldsPod now new
  pub adds : AddsFor root old.name old.plan told now

-- what an answer shows of the step
abbrev pub seen : Watch → HeldStep → HeldStep
seen (watches.Passed exit) step = record step { exit = Some exit }
seen (watches.Broke (Some exit)) step = record step { exit = Some exit }
seen (watches.Broke None) step = record step { refused = true }
seen _ step = step

-- the step started, or was found ended or refused for the first time
abbrev pub acts : Watch → HeldStep → Bool
acts watches.Started step = true
acts (watches.Passed exit) step = is_none step.exit
acts (watches.Broke (Some exit)) step = is_none step.exit
acts (watches.Broke None) step = not step.refused
acts _ step = false

-- how many steps started, and how many were found ended or refused
abbrev pub count_actions : List Event → ℕ
count_actions [] = 0
count_actions (events.Started child order ∷ older) = suc (count_actions older)
count_actions (events.Exited child exit ∷ older) = suc (count_actions older)
count_actions (events.Refused child ∷ older) = suc (count_actions older)
count_actions (_ ∷ older) = count_actions older

-- there were more of them, or none
abbrev pub Acts : Bool → List Event → List Event → Type 0
Acts true told now = count_actions told < count_actions now
Acts false told now = count_actions now ≡ count_actions told

-- the count of faults where a call failed, or where none did
abbrev pub counted : Bool → ℕ → ℕ
counted failed count = if failed then raised count else count
