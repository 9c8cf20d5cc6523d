-- Where the children of each task stand among those of a run.
use Rattle.std.specs.Prelude.{◌≡◌, ◌≤◌, ℕ, List, length, nat_eq, slice_index_or, slice_range, if◌then◌else◌}
use Rattle.tk_types.specs.declared.run.Child.{Child}
use Rattle.tk_labels.specs.declared.spans.Span.{Span}
use Rattle.tk_verdict.specs.Facts.{children_at}

abbrev pub nowhere : Span
nowhere = record { from = 0; to = 0 }

-- the children of the task at a place stand there and nowhere else
pub record IsSpan (children : List Child) (place : ℕ) (span : Span) : Type 0 where
  pub order : span.from ≤ span.to
  pub within : span.to ≤ length children
  pub is : slice_range children span.from span.to ≡ children_at children place

abbrev pub span_at : List Span → ℕ → Span
span_at spans place = slice_index_or spans place nowhere

-- so do those of each task
abbrev pub AreSpanned : List Child → List Span → Type 0
AreSpanned children spans = (place : ℕ) → IsSpan children place (span_at spans place)

-- one task's span is changed
abbrev pub HasSpan : ℕ → Span → List Span → List Span → Type 0
HasSpan task span old new = (place : ℕ) → span_at new place ≡ (if nat_eq place task then span else span_at old place)
