-- What bytes are as a text and as JSON.
use Rattle.std.specs.Prelude.{ℕ, List, Option, Some, None, if◌then◌else◌, option_and_then}
use Rattle.std.specs.Str.{is_utf8}
use Rattle.serde_json.specs.Data.{Data}
use Rattle.serde_json.specs.Read.{read}

-- the text that bytes are, if they are UTF-8
abbrev pub text_of : List ℕ → Option (List ℕ)
text_of bytes = if is_utf8 bytes then Some bytes else None

-- the JSON value that bytes are, if they are a text of JSON
abbrev pub json_of : List ℕ → Option Data
json_of bytes = option_and_then read (text_of bytes)
