use Rattle.std.proofs.Common.{◌≡◌, map, string_bytes}
use Rattle.serde_json.specs.Data.{object}
use Rattle.serde_json.specs.View.{members_view}
use Rattle.tk_fields.specs.Get.{keys_of}
use Rattle.tk_fields.specs.Keys.{first_bad_key, rows_of}
use Rattle.tk_fields.proofs.table.check_keys.Given as goal

-- what is wrong first with the keys that are left is what is wrong first with all
abbrev pub invariant-loop-key : goal.invariant-loop-key
invariant-loop-key g l =
    let table = rows_of (map g.K.Key.key l.names) l.roles in
    first_bad_key table l.place (map string_bytes l.key-iterator) ≡ first_bad_key table l.place (keys_of (object (members_view l.object.entries)))
