-- Names that are known.
use Rattle.std.proofs.Common.{◌≡◌, [], ◌∷◌, ◌++◌, refl, true, false}
use Rattle.std.specs.Prelude.{codes, Some, None, replicate}
use Rattle.std.specs.Fmt.{digits}
use Rattle.hex.specs.Hex.{encode_with}
use Rattle.md5.specs.Md5.{block_words, rounds, compress, hash_after, digest_bytes, md5}
use Rattle.tk_names.specs.Rules.{is_dns_label, is_object_name, is_name_prefix, is_param_name, is_object_param_name, is_task_result_name, is_pipeline_result_name, is_env_name, is_sub_path}
use Rattle.tk_names.specs.Children.{cut_place, shortened, child_name, pod_name, generated}
use Rattle.tk_names.specs.Clash.{clash}

longest_label : is_dns_label (replicate 63 97) ≡ true
longest_label = refl

too_long_label : is_dns_label (replicate 64 97) ≡ false
too_long_label = refl

dash_last : is_dns_label (codes "a-") ≡ false
dash_last = refl

empty_label : is_dns_label [] ≡ false
empty_label = refl

dotted_object : is_object_name (codes "a.b") ≡ true
dotted_object = refl

longest_object : is_object_name (replicate 253 97) ≡ true
longest_object = refl

too_long_object : is_object_name (replicate 254 97) ≡ false
too_long_object = refl

longest_prefix : is_name_prefix (replicate 248 97) ≡ true
longest_prefix = refl

too_long_prefix : is_name_prefix (replicate 249 97) ≡ false
too_long_prefix = refl

no_object : is_object_name [] ≡ false
no_object = refl

no_prefix : is_name_prefix [] ≡ false
no_prefix = refl

dash_last_in_prefix : is_name_prefix (codes "build-") ≡ true
dash_last_in_prefix = refl

digit_first_param : is_param_name (codes "1a") ≡ false
digit_first_param = refl

dotted_object_param : is_object_param_name (codes "a.b") ≡ false
dotted_object_param = refl

underscore_first_in_task : is_task_result_name (codes "_a") ≡ false
underscore_first_in_task = refl

underscore_first : is_pipeline_result_name (codes "_a") ≡ true
underscore_first = refl

env_with_equals : is_env_name (codes "A=B") ≡ false
env_with_equals = refl

sub_path : is_sub_path (codes "a/b.c") ≡ true
sub_path = refl

sub_path_above : is_sub_path (codes "a/../b") ≡ false
sub_path_above = refl

no_sub_path : is_sub_path [] ≡ false
no_sub_path = refl

short_text : shortened (replicate 63 97) ≡ replicate 63 97
short_text = refl

long_text :
    shortened (codes "12345678901234567890123456789012345678901234567890123456789012345678901234567890")
    ≡ codes "123456789012345678901234567890-57edf4a22be3c955ac49da2e2107b67a"
unfolding cut_place encode_with block_words rounds compress hash_after digest_bytes md5
long_text = refl

-- 29 letters and a character of two bytes: the cut is before it
cut_before_character : cut_place (replicate 29 97 ++ 195 ∷ 164 ∷ replicate 40 97) 30 ≡ 29
unfolding cut_place
cut_before_character = refl

of_combination : child_name (codes "r") (codes "t") (Some 0) ≡ codes "r-t-0"
unfolding digits
of_combination = refl

of_attempt : pod_name (codes "r-a") 2 ≡ codes "r-a-pod-2"
unfolding digits
of_attempt = refl

by_place : generated (codes "build-") 36 ≡ codes "build-00010"
by_place = refl

last_counter : generated [] 60466175 ≡ codes "zzzzz"
last_counter = refl

found_again : clash (codes "a" ∷ codes "b" ∷ codes "a" ∷ []) ≡ Some (0, 2)
found_again = refl

first_of_two_pairs : clash (codes "a" ∷ codes "b" ∷ codes "b" ∷ codes "a" ∷ []) ≡ Some (1, 2)
first_of_two_pairs = refl

all_differ : clash (codes "a" ∷ codes "b" ∷ []) ≡ None
all_differ = refl
