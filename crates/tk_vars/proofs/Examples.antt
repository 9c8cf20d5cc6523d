-- Texts with their pieces, their bad offsets, and what references refer to.
use Rattle.std.proofs.Common.{◌≡◌, [], ◌∷◌, Some, None, refl}
use Rattle.std.specs.Prelude.{codes}
use Rattle.std.specs.Fmt.{digits}
use Rattle.tk_vars.specs.declared.part.Part.TheVariants.{Name, Star}
use Rattle.tk_vars.specs.declared.piece.Piece.TheVariants.{Plain, Ref}
use Rattle.tk_vars.specs.Offset.{bad_offset}
use Rattle.tk_vars.specs.Reading.{pieces_of, reference_of, HasReading}
use Rattle.tk_vars.specs.Target.{target_of, param, result, word}

nothing : pieces_of [] ≡ []
nothing = refl

quoted_name : pieces_of (codes "x$(params['a.b'])y") ≡ Plain (codes "x") ∷ Ref (record { spelling = codes "$(params['a.b'])"; parts = Name (codes "params") ∷ Name (codes "a.b") ∷ [] }) ∷ Plain (codes "y") ∷ []
quoted_name = refl

quoted_name_reads : HasReading (codes "x$(params['a.b'])y")
quoted_name_reads = record { joined = refl; allowed = refl; apart = refl; alone = refl }

command_stays : pieces_of (codes "$(date)") ≡ Plain (codes "$(date)") ∷ []
command_stays = refl

longer_word_stays : pieces_of (codes "$(paramsx.y)") ≡ Plain (codes "$(paramsx.y)") ∷ []
longer_word_stays = refl

first_dollar_stays : pieces_of (codes "$$(params.x)") ≡ Plain (codes "$") ∷ Ref (record { spelling = codes "$(params.x)"; parts = Name (codes "params") ∷ Name (codes "x") ∷ [] }) ∷ []
first_dollar_stays = refl

whole_array : HasReading (codes "$(tasks.test.results.log[*])")
whole_array = record { joined = refl; allowed = refl; apart = refl; alone = refl }

array_behind_a_dash : bad_offset (codes "-$(params.x[*])") ≡ Some 1
array_behind_a_dash = refl

first_of_two : bad_offset (codes "$(params.x)$(params.)$(params.)") ≡ Some 11
first_of_two = refl

index : bad_offset (codes "$(params.x[10])") ≡ None
unfolding digits
index = refl

leading_zero : bad_offset (codes "$(params.x[01])") ≡ Some 0
unfolding digits
leading_zero = refl

key_of_a_parameter : target_of (reference_of (codes "params.x.k")).parts ≡ param (codes "x") (Name (codes "k") ∷ [])
key_of_a_parameter = refl

array_of_a_result : target_of (reference_of (codes "tasks.a.results.r[*]")).parts ≡ result (codes "a") (codes "r") (Star ∷ [])
array_of_a_result = refl

-- an index where a name belongs is a result that no task declares
result_without_a_name : target_of (reference_of (codes "tasks.a.results[0]")).parts ≡ result (codes "a") (codes "[0]") []
unfolding digits
result_without_a_name = refl

status_of_all : target_of (reference_of (codes "tasks.status")).parts ≡ word (codes "tasks.status")
status_of_all = refl
