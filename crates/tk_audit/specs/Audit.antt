-- Audited histories: what each reason asks of an entry, which is given as the reason where the entry fails it.
use Rattle.std.specs.Prelude.{◌≡◌, ◌≢◌, ◌≤◌, ◌<◌, ℕ, List, [], ◌∷◌, length, Bool, true, false, All, AllPairs, Contains}
use Rattle.tk_types.specs.declared.scenario.Kind.{Kind}
use Rattle.tk_types.specs.declared.scenario.Kind.TheVariants as kinds
use Rattle.tk_journal.specs.declared.entry.Actor.{Actor}
use Rattle.tk_journal.specs.declared.entry.Actor.TheVariants as actors
use Rattle.tk_journal.specs.declared.entry.Fronts.{Fronts}
use Rattle.tk_journal.specs.declared.act.Act.{Act}
use Rattle.tk_journal.specs.declared.act.Act.TheVariants as acts
use Rattle.tk_journal.specs.declared.entry.Entry.{Entry}
use Rattle.tk_journal.specs.Effects.{name_of, kind_of, is_create}
use Rattle.tk_journal.specs.Fronts.{AreWithin}
use Rattle.tk_journal.specs.History.{past, run_of, task_run_of, pod_of, view_at}
use Rattle.tk_journal.specs.Legal.{is_admit, IsFree, IsCurrent, compared_names, all_compared}
use Rattle.tk_journal.specs.Lists.{IsThere}
use Rattle.tk_journal.specs.Rows.{IsJustified}
use Rattle.tk_journal.specs.Sound.{IsSound}
use Rattle.tk_time.specs.Moment.{last_moment}
use Rattle.tk_audit.specs.declared.why.Why.{Why}
use Rattle.tk_audit.specs.declared.why.Why.TheVariants as whys

-- an Admit stands behind Admits alone
abbrev pub ComesInTime : List Entry → Act → Type 0
ComesInTime older (acts.Admit name spec pending asked root) = All (λ (before : Entry). is_admit before.act ≡ true) older
ComesInTime older _ = Unit {0}

-- these names differ, and none of them stands among those
pub record AreNew (taken names : List (List ℕ)) : Type 0 where
  pub differ : AllPairs (λ a b. a ≢ b) names
  pub apart : All (λ name. Contains taken name → ⊥) names

-- an Admit is admission's, and sound, and the names that its TaskRuns may have are new
pub record IsSoundIn (older : List Entry) (e : Entry) (Sound : Type 0) : Type 0 where
  pub by : e.actor ≡ actors.Admission
  pub sound : Sound
  pub names : AreNew (all_compared older) (compared_names e.act)

abbrev pub IsSoundAct : List Entry → Entry → Act → Type 0
IsSoundAct older e (acts.Admit name spec pending asked root) = IsSoundIn older e (IsSound name asked spec)
IsSoundAct older e _ = Unit {0}

-- an object of the kind has the name
abbrev pub IsPresent : Kind → List ℕ → List Entry → Type 0
IsPresent kinds.Runs name history = IsThere (run_of history name)
IsPresent kinds.TaskRuns name history = IsThere (task_run_of history name)
IsPresent kinds.Pods name history = IsThere (pod_of history name)

-- a create (true) finds its name free
abbrev pub FindsFree : Bool → Kind → List ℕ → List Entry → Type 0
FindsFree true kind name older = IsFree kind name older
FindsFree false kind name older = Unit {0}

-- an update (false) finds its object there
abbrev pub FindsPresent : Bool → Kind → List ℕ → List Entry → Type 0
FindsPresent true kind name older = Unit {0}
FindsPresent false kind name older = IsPresent kind name older

-- an update (false) finds its object as it was at its front
abbrev pub FindsCurrent : Bool → Kind → List ℕ → Fronts → List Entry → Type 0
FindsCurrent true kind name fronts older = Unit {0}
FindsCurrent false kind name fronts older = IsCurrent kind name fronts older

-- the fronts are the history's end
pub record AreAtEnd (fronts : Fronts) (history : List Entry) : Type 0 where
  pub runs : fronts.runs ≡ length history
  pub task_runs : fronts.task_runs ≡ length history
  pub pods : fronts.pods ≡ length history

-- its row holds: none is asked of an Admit, and an Ask's is that of the end
abbrev pub HasRow : List Entry → Entry → Act → Type 0
HasRow older e (acts.Admit name spec pending asked root) = Unit {0}
HasRow older e (acts.Ask name status) = AreAtEnd e.fronts older × IsJustified (view_at e.fronts older) e.actor e.moment (acts.Ask name status)
HasRow older e act = IsJustified (view_at e.fronts older) e.actor e.moment act

-- what each reason asks, but for the moment's limit
abbrev pub Keeps : Why → List Entry → Entry → Type 0
Keeps whys.Late older e = ComesInTime older e.act
Keeps whys.Front older e = AreWithin e.fronts older
Keeps whys.Unsound older e = IsSoundAct older e e.act
Keeps whys.Taken older e = FindsFree (is_create e.act) (kind_of e.act) (name_of e.act) older
Keeps whys.Absent older e = FindsPresent (is_create e.act) (kind_of e.act) (name_of e.act) older
Keeps whys.Moved older e = FindsCurrent (is_create e.act) (kind_of e.act) (name_of e.act) e.fronts older
Keeps whys.Row older e = HasRow older e e.act

-- the moment is one of a clock
abbrev pub IsInLimit : Why → ℕ → Type 0
IsInLimit whys.Row moment = moment ≤ last_moment
IsInLimit _ moment = Unit {0}

-- what each reason asks
abbrev pub Meets : Why → List Entry → Entry → Type 0
Meets why older e = Keeps why older e × IsInLimit why e.moment

-- the order of the reasons
abbrev pub rank : Why → ℕ
rank whys.Late = 0
rank whys.Front = 1
rank whys.Unsound = 2
rank whys.Taken = 3
rank whys.Absent = 4
rank whys.Moved = 5
rank whys.Row = 6

-- an entry that fails nothing
abbrev pub IsAudited : List Entry → Entry → Type 0
IsAudited older e = (why : Why) → Meets why older e

-- the first reason of an entry that fails one
pub record IsReason (older : List Entry) (e : Entry) (why : Why) : Type 0 where
  pub earlier : (other : Why) → rank other < rank why → Meets other older e
  pub fails : Meets why older e → ⊥

-- the newest first; each entry is audited at its position
abbrev pub AreAudited : List Entry → Type 0
AreAudited [] = Unit {0}
AreAudited (e ∷ older) = AreAudited older × IsAudited older e
