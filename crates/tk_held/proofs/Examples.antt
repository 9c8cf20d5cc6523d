-- Worked examples of what is late and of counts.
use Rattle.std.proofs.Common.{◌≡◌, ℕ, ◌-◌, ◌^◌, [], ◌∷◌, Some, None, true, false, refl}
use Rattle.tk_journal.specs.declared.object.Attempt.{Attempt}
use Rattle.tk_held.specs.Pods.{raised_by}
use Rattle.tk_held.specs.Settled.{attempt_at, is_late_attempt}

-- an attempt that was opened at a moment
abbrev opened : ℕ → Attempt
opened moment = record { moment = moment; outcome = None }

late_at_its_end : is_late_attempt 1000 1500 (Some (opened 500)) ≡ true
late_at_its_end = refl

not_late_a_millisecond_before : is_late_attempt 1000 1499 (Some (opened 500)) ≡ false
not_late_a_millisecond_before = refl

never_late_without_a_timeout : is_late_attempt 0 9999 (Some (opened 500)) ≡ false
never_late_without_a_timeout = refl

never_late_unopened : is_late_attempt 1000 9999 None ≡ false
never_late_unopened = refl

attempts_count_from_one : attempt_at 2 (opened 1 ∷ opened 7 ∷ []) ≡ Some (opened 7)
attempts_count_from_one = refl

no_attempt_of_number_zero : attempt_at 0 (opened 1 ∷ []) ≡ None
no_attempt_of_number_zero = refl

two_faults_more : raised_by 2 5 ≡ 7
two_faults_more = refl

a_full_count_stands : raised_by 3 (2 ^ 64 - 2) ≡ 2 ^ 64 - 1
a_full_count_stands = refl
