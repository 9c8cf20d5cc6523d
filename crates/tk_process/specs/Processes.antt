-- The files by which the process of an armed entry tells how it goes, and the words that it is given.
use Rattle.std.specs.Prelude.{◌≡◌, ◌⊎◌, ℕ, Bool, true, false, List, [], ◌∷◌, ◌++◌, codes, Option, Some, None, IfSome}
use Rattle.std.specs.Fmt.{decimal}
use Rattle.tk_edge.specs.declared.event.Arming.{Arming}
use Rattle.tk_edge.specs.declared.order.Order.{Order}
use Rattle.tk_edge.specs.declared.order.Watch.{Watch}
use Rattle.tk_edge.specs.declared.order.Watch.TheVariants as watches
use Rattle.tk_edge.specs.Armed.{exit_text}
use Rattle.tk_edge.specs.Files.{broken}
use Rattle.tk_enter.specs.declared.words.EntryWords.{EntryWords}
use Rattle.tk_enter.specs.Words.{spelled}
use Rattle.tk_process.specs.declared.process.Told.{Told}
use Rattle.tk_process.specs.declared.starter.Starter.{Starter}

-- a file beside another one: in the folder that its path begins with, where it tells one
pub record IsInFolder (path name file : List ℕ) : Type 0 where
  pub folder : List ℕ
  pub last : List ℕ
  pub splits : folder ++ last ≡ path
  pub is : file ≡ folder ++ codes "/" ++ name

abbrev pub IsBeside : List ℕ → List ℕ → List ℕ → Type 0
IsBeside path name file = IsInFolder path name file ⊎ (file ≡ name)

-- the files of a process whose post file this is
pub record AreBeside (post : List ℕ) (told : Told) : Type 0 where
  pub start : IsBeside post (codes "began") told.began
  pub exit : IsBeside post (codes "exit") told.exit
  pub end : IsBeside post (codes "cancel") told.cancel
  pub failed : told.failed ≡ broken post

-- what the process is told: to wait and post as it was armed, and where to tell how it goes
pub record IsOfArming (arming : Arming) (told : Told) (w : EntryWords) : Type 0 where
  pub waits : w.wait ≡ arming.wait
  pub posts : w.post ≡ arming.post
  pub keeps : w.keep_going ≡ arming.keep_going
  pub runs : w.argv ≡ arming.order.argv
  pub tells_start : w.began ≡ told.began
  pub tells_exit : w.exit ≡ told.exit
  pub ends_at : w.cancel ≡ told.cancel

-- the words that start the program, by `setsid` where that is there
abbrev pub starting : Option (List ℕ) → List ℕ → List (List ℕ)
starting None program = program ∷ []
starting (Some setsid) program = setsid ∷ program ∷ []

-- a file of this name in some folder
abbrev pub IsIn : List ℕ → List ℕ → Type 0
IsIn name file = (folder : List ℕ) × (file ≡ folder ++ codes "/" ++ name)

-- the words before a process' own: the program, in a session of its own or not; and the variable that tells its parent
pub record IsStarter (program : List ℕ) (parent : ℕ) (starter : Starter) : Type 0 where
  pub setsid : Option (List ℕ)
  pub found : IfSome setsid (IsIn (codes "setsid"))
  pub words : starter.words ≡ starting setsid program
  pub key : starter.parent.key ≡ codes "TKN_PARENT"
  pub value : starter.parent.value ≡ decimal parent

-- the order of the process: the entry's own, but for its words and one variable, behind all others, that tells its parent
pub record IsProcessOrder (starter : Starter) (arming : Arming) (told : Told) (order : Order) : Type 0 where
  pub words : EntryWords
  pub of_arming : IsOfArming arming told words
  pub is : order ≡ record arming.order { argv = starter.words ++ spelled words; env = arming.order.env ++ starter.parent ∷ [] }

-- the exit that a file tells
abbrev pub TellsExitIn : List ℕ → Option ℕ → Type 0
TellsExitIn bytes (Some exit) = bytes ≡ exit_text exit
TellsExitIn bytes None = Unit {0}

-- the answer by the file that was left, the post file or that with `.err`, and by the exit that was read
abbrev pub LeftAs : Bool → Option ℕ → Watch → Type 0
LeftAs true (Some exit) (watches.Passed told) = told ≡ exit
LeftAs false (Some exit) (watches.Broke (Some told)) = told ≡ exit
LeftAs _ _ _ = ⊥
