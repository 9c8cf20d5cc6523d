-- Below which folders a file may stand.
use Rattle.std.specs.Prelude.{ℕ, Bool, List, ◌||◌, is_some}
use Rattle.std.specs.HashMap.{get_by_text}
use Rattle.tk_script.specs.declared.folders.Folders.{Folders}

-- the folder is one of those with a name
abbrev pub is_named : Folders → List ℕ → Bool
is_named folders folder = is_some (get_by_text folders.names folder)

-- a file may stand below the folder
abbrev pub may_hold : Folders → List ℕ → Bool
may_hold folders folder = folders.all || is_named folders folder
