use Rattle.std.proofs.Common.{◌∙◌, ap, sym, map}
use Rattle.std.specs.Prelude.{string_bytes, bytes_eq}
use Rattle.std.specs.Option.{option_or}
use Rattle.std.specs.Map.{lookup}
use Rattle.std.specs.HashMap.{get_by_text}
use Rattle.std.proofs.lemmas.List.{map-append}
use Rattle.tk_script.specs.FileTable.{bytes_at}
use Rattle.tk_script.proofs.Tables.{shown, all_step, room_left}
use Rattle.tk_script.proofs.file_table.FileTable.write_all.Goals as goal

pub loop-path-preserved : goal.loop-path-preserved
loop-path-preserved c =
    let rest = c.in-Some.ensures.items in (
      room_left _ _ _ _ _ rest c.loop-path.invariant.0 c.write_within.ensures.room,
      λ q. all_step q (string_bytes c.in-Some.path) c.in-Some.bytes (map shown c.pop.new.self.items) (bytes_at (get_by_text c.loop-path.self.held) q) (bytes_at (get_by_text c.write_within.new.self.held) q) (c.write_within.ensures.bytes q)
          ∙ (ap (λ xs. option_or (lookup (bytes_eq q) xs) (bytes_at (get_by_text c.loop-path.self.held) q)) (sym (ap (map shown) rest ∙ map-append shown c.pop.new.self.items _)) ∙ c.loop-path.invariant.1 q),
      λ q. c.write_within.ensures.puts q ∙ c.loop-path.invariant.2 q,
    )
