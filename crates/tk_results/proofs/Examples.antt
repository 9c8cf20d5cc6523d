-- Result files by their bytes, what an attempt emits, and what is printed.
use Rattle.std.proofs.Common.{◌≡◌, ℕ, List, [], ◌∷◌, refl, Some, None, Ok, Err}
use Rattle.std.specs.Prelude.{codes}
use Rattle.std.specs.Str.{is_utf8, chars}
use lib.Utf8.{encode}
use Rattle.serde_json.proofs.OnLiterals.{serde_json_on_literals}
use Rattle.tk_types.specs.declared.value.Pair.{Pair}
use Rattle.tk_types.specs.declared.value.Param.{Param}
use Rattle.tk_types.specs.declared.value.ParamType.{ParamType}
use Rattle.tk_types.specs.declared.value.ParamType.TheVariants.{Str as string, Arr as array, Obj as object}
use Rattle.tk_types.specs.declared.value.ResultSpec.{ResultSpec}
use Rattle.tk_types.specs.declared.value.Value.TheVariants.{Str, Arr, Obj}
use Rattle.tk_results.specs.declared.files.Fetched.{Fetched}
use Rattle.tk_results.specs.declared.refusal.ReadError.TheVariants.{BadText, BadList, BadObject}
use Rattle.tk_results.specs.declared.refusal.GatherError.TheVariants.{Bad}
use Rattle.tk_results.specs.Gathered.{gathered}
use Rattle.tk_results.specs.Read.{result_of}
use Rattle.tk_results.specs.Written.{json_text}

newline_kept : result_of string (codes "a\n") ≡ Ok (Str (codes "a\n"))
unfolding is_utf8 chars encode
newline_kept = refl

-- no byte of UTF-8 is 255
no_text : result_of string (97 ∷ 255 ∷ []) ≡ Err BadText
unfolding is_utf8 chars encode
no_text = refl

empty_text : result_of string [] ≡ Ok (Str [])
unfolding is_utf8 chars encode
empty_text = refl

one_element : result_of array (codes "[\"a\"]\n") ≡ Ok (Arr (codes "a" ∷ []))
unfolding serde_json_on_literals is_utf8 chars
one_element = refl

number_in_list : result_of array (codes "[1]") ≡ Err BadList
unfolding serde_json_on_literals is_utf8 chars
number_in_list = refl

no_json : result_of array [] ≡ Err BadList
unfolding serde_json_on_literals is_utf8 chars
no_json = refl

-- the pairs stand in the order of the keys, and of equal keys the last one counts
keys_in_order : result_of object (codes "{\"b\":\"1\",\"a\":\"2\",\"b\":\"3\"}") ≡ Ok (Obj (record { key = codes "a"; value = codes "2" } ∷ record { key = codes "b"; value = codes "3" } ∷ []))
unfolding serde_json_on_literals is_utf8 chars
keys_in_order = refl

number_in_object : result_of object (codes "{\"k\":1}") ≡ Err BadObject
unfolding serde_json_on_literals is_utf8 chars
number_in_object = refl

list_for_object : result_of object (codes "[]") ≡ Err BadObject
unfolding serde_json_on_literals is_utf8 chars
list_for_object = refl

-- ---- gathered

abbrev declared : List ℕ → ParamType → ResultSpec
declared name kind = record { name = name; kind = kind }

abbrev file : List ℕ → List ℕ → Fetched
file name bytes = record { name = name; bytes = Some bytes }

abbrev missing : List ℕ → Fetched
missing name = record { name = name; bytes = None }

abbrev text : List ℕ → List ℕ → Param
text name bytes = record { name = name; value = Str bytes }

-- in the order of the declarations; a file of an undeclared name is ignored, and of two files of one name the second
in_order : gathered (declared (codes "a") string ∷ declared (codes "b") string ∷ []) (file (codes "x") (codes "!") ∷ file (codes "b") (codes "2") ∷ file (codes "a") (codes "1") ∷ file (codes "a") (codes "3") ∷ [])
    ≡ Ok (text (codes "a") (codes "1") ∷ text (codes "b") (codes "2") ∷ [])
unfolding is_utf8 chars encode
in_order = refl

missing_files : gathered (declared (codes "a") string ∷ declared (codes "b") string ∷ declared (codes "c") string ∷ []) (missing (codes "a") ∷ file (codes "c") [] ∷ []) ≡ Ok (text (codes "c") [] ∷ [])
unfolding is_utf8 chars encode
missing_files = refl

first_refused : gathered (declared (codes "a") string ∷ declared (codes "b") string ∷ declared (codes "c") string ∷ []) (file (codes "c") (255 ∷ []) ∷ file (codes "b") (255 ∷ []) ∷ file (codes "a") [] ∷ []) ≡ Err (Bad (codes "b"))
unfolding is_utf8 chars encode
first_refused = refl

-- a name that is declared twice gives its file twice
declared_twice : gathered (declared (codes "a") string ∷ declared (codes "a") string ∷ []) (file (codes "a") (codes "1") ∷ []) ≡ Ok (text (codes "a") (codes "1") ∷ text (codes "a") (codes "1") ∷ [])
unfolding is_utf8 chars encode
declared_twice = refl

-- ---- printed

text_printed : json_text (Str (codes "img-abc123")) ≡ codes "\"img-abc123\""
unfolding serde_json_on_literals
text_printed = refl

quote_and_newline : json_text (Str (codes "say \"hi\"\n")) ≡ codes "\"say \\\"hi\\\"\\n\""
unfolding serde_json_on_literals
quote_and_newline = refl

list_printed : json_text (Arr (codes "ok-linux" ∷ codes "ok-mac" ∷ [])) ≡ codes "[\"ok-linux\",\"ok-mac\"]"
unfolding serde_json_on_literals
list_printed = refl

empty_list : json_text (Arr []) ≡ codes "[]"
unfolding serde_json_on_literals
empty_list = refl

abbrev pair : List ℕ → List ℕ → Pair
pair key value = record { key = key; value = value }

-- the members stand in the order of the keys, and of equal keys the last one counts
object_printed : json_text (Obj (pair (codes "os") (codes "linux") ∷ pair (codes "arch") (codes "arm") ∷ pair (codes "os") (codes "mac") ∷ [])) ≡ codes "{\"arch\":\"arm\",\"os\":\"mac\"}"
unfolding serde_json_on_literals
object_printed = refl
