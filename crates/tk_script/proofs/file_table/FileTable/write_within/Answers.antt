use Rattle.std.proofs.Common.{arith, rules}
use Rattle.std.specs.Prelude.{string_bytes}
use Rattle.std.specs.HashMap.{get_by_text}
use Rattle.std.proofs.lemmas.Map.Text.{hash_map_updates_text, text_keys}
use Rattle.tk_script.proofs.Tables.{when_ok, written_bytes, written_puts}
use Rattle.tk_script.proofs.file_table.FileTable.write_within.Goals as goal

pub invariant_of-self : goal.invariant_of-self
invariant_of-self c = record { known = λ folder path under stands. grind (arith, text_keys, c.note.ensures.noted folder, c.note.ensures.kept folder, c.args.self.now.known folder path, under, stands) }

pub returns-clause-bytes : goal.returns-clause-bytes
returns-clause-bytes c = λ q. written_bytes (get_by_text c.args.self.now.held) (get_by_text c.insert.new.self) (string_bytes c.args.path) q _
    (hash_map_updates_text (string_bytes c.args.path) c.args.self.now.held c.insert.new.self _ (when_ok c.insert.result _ (c.insert.ensures.succeeds c.requires) c.insert.ensures.updates) q)

pub returns-clause-puts : goal.returns-clause-puts
returns-clause-puts c = λ q. written_puts (get_by_text c.args.self.now.held) (get_by_text c.insert.new.self) (string_bytes c.args.path) q _ c.args.put (search rules)
    (hash_map_updates_text (string_bytes c.args.path) c.args.self.now.held c.insert.new.self _ (when_ok c.insert.result _ (c.insert.ensures.succeeds c.requires) c.insert.ensures.updates) q)
