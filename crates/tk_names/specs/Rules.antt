-- Which texts are names, rule by rule.
use Rattle.std.specs.Prelude.{ℕ, ◌-◌, Bool, false, not, ◌&&◌, ◌||◌, ◌==◌, nat_le, List, length, codes, bytes_eq}
use Rattle.std.specs.Option.{option_map_or}
use Rattle.std.specs.List.{list_any, list_all, slice_split, slice_get}
use Rattle.std.specs.Char.{is_ascii_alphabetic, is_ascii_alphanumeric, is_ascii_digit, is_ascii_lowercase}

-- there is a first byte, and it passes the test
abbrev pub first_is : (ℕ → Bool) → List ℕ → Bool
first_is test name = option_map_or test (slice_get name 0) false

-- there is a last byte, and it passes the test
abbrev pub last_is : (ℕ → Bool) → List ℕ → Bool
last_is test name = option_map_or test (slice_get name (length name - 1)) false

-- `a` to `z` and digits
abbrev pub is_lower_or_digit : ℕ → Bool
is_lower_or_digit b = is_ascii_lowercase b || is_ascii_digit b

-- these and `-`
abbrev pub is_label_byte : ℕ → Bool
is_label_byte b = is_lower_or_digit b || b == 45

-- these and `.`
abbrev pub is_object_name_byte : ℕ → Bool
is_object_name_byte b = is_label_byte b || b == 46

-- letters, digits, `-`, `_` and `.`
abbrev pub is_word_byte : ℕ → Bool
is_word_byte b = is_ascii_alphanumeric b || b == 45 || b == 95 || b == 46

-- letters and `_`
abbrev pub is_letter_or_underscore : ℕ → Bool
is_letter_or_underscore b = is_ascii_alphabetic b || b == 95

-- letters, digits and `_`
abbrev pub is_alphanumeric_or_underscore : ℕ → Bool
is_alphanumeric_or_underscore b = is_ascii_alphanumeric b || b == 95

-- a dot
abbrev pub is_dot : ℕ → Bool
is_dot b = b == 46

-- DNS labels name pipeline tasks, steps and workspaces (Kubernetes, Object Names and IDs, RFC 1123 Label Names)
abbrev pub is_dns_label : List ℕ → Bool
is_dns_label name = nat_le (length name) 63 && list_all is_label_byte name && first_is is_lower_or_digit name && last_is is_lower_or_digit name

-- names of objects and claims (Kubernetes, Object Names and IDs, DNS Subdomain Names)
abbrev pub is_object_name : List ℕ → Bool
is_object_name name = nat_le (length name) 253 && list_all is_object_name_byte name && first_is is_lower_or_digit name && last_is is_lower_or_digit name

-- what stands before the digits of a generated name
abbrev pub is_name_prefix : List ℕ → Bool
is_name_prefix name = nat_le (length name) 248 && list_all is_object_name_byte name && first_is is_lower_or_digit name

-- names of parameters (Tekton, Tasks, Specifying Parameters)
abbrev pub is_param_name : List ℕ → Bool
is_param_name name = list_all is_word_byte name && first_is is_letter_or_underscore name

-- names of object parameters, which have no dot
abbrev pub is_object_param_name : List ℕ → Bool
is_object_param_name name = is_param_name name && not (list_any is_dot name)

-- names of a Task's results (Tekton, Tasks, Emitting Results)
abbrev pub is_task_result_name : List ℕ → Bool
is_task_result_name name = list_all is_word_byte name && first_is is_ascii_alphanumeric name && last_is is_ascii_alphanumeric name

-- names of a Pipeline's results (Tekton, Pipelines, Emitting Results from a Pipeline)
abbrev pub is_pipeline_result_name : List ℕ → Bool
is_pipeline_result_name name = list_all is_word_byte name && first_is is_alphanumeric_or_underscore name

-- neither `=` nor the zero byte
abbrev pub is_env_byte : ℕ → Bool
is_env_byte b = not (b == 61) && not (b == 0)

-- names of environment variables of a step
abbrev pub is_env_name : List ℕ → Bool
is_env_name name = nat_le 1 (length name) && list_all is_env_byte name

-- a segment of a path below a folder: a word, but neither `.` nor `..`
abbrev pub is_segment : List ℕ → Bool
is_segment segment = nat_le 1 (length segment) && list_all is_word_byte segment && not (bytes_eq segment (codes ".")) && not (bytes_eq segment (codes ".."))

-- a slash
abbrev pub is_slash : ℕ → Bool
is_slash b = b == 47

-- a path below a folder (Tekton, Workspaces, Using Workspaces in Pipelines): segments joined by `/`, of at most 253 bytes together
abbrev pub is_sub_path : List ℕ → Bool
is_sub_path path = nat_le (length path) 253 && list_all is_segment (slice_split is_slash path)
