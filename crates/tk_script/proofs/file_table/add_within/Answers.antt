use Rattle.std.specs.Prelude.{string_bytes}
use Rattle.std.specs.HashMap.{get_by_text}
use Rattle.std.proofs.lemmas.Map.Text.{hash_map_updates_text}
use Rattle.tk_script.proofs.Tables.{when_ok, added_name}
use Rattle.tk_script.proofs.file_table.add_within.Goals as goal

pub returns : goal.returns
returns c = λ q. added_name (get_by_text c.args.names.now) (get_by_text c.insert.new.self) (string_bytes c.args.name) q _
    (hash_map_updates_text (string_bytes c.args.name) c.args.names.now c.insert.new.self _ (when_ok c.insert.result _ (c.insert.ensures.succeeds c.requires) c.insert.ensures.updates) q)
