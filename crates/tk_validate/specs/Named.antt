-- What the references of a text name.
use Rattle.std.specs.Prelude.{ℕ, List, [], Option, Some, None}
use Rattle.tk_vars.specs.declared.reference.Reference.{Reference}
use Rattle.tk_vars.specs.Offset.{bad_offset}
use Rattle.tk_vars.specs.Reading.{pieces_of}
use Rattle.tk_vars.specs.Target.{references_of, whole_of}

-- the references of a text that has a reading; a text without one names nothing
unfoldable pub read_references : List ℕ → List Reference
read_references text = elim (bad_offset text) [ None ↦ references_of text | Some offset ↦ [] ]

-- the `[*]` that a text with a reading is as a whole
unfoldable pub whole_read : List ℕ → Option Reference
whole_read text = elim (bad_offset text) [ None ↦ whole_of (pieces_of text) | Some offset ↦ None ]
