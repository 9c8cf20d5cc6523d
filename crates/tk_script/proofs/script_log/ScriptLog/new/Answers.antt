use Rattle.std.proofs.Common.{ap, [], string_bytes}
use Rattle.std.specs.Prelude.{bytes_eq, is_some}
use Rattle.std.specs.Option.{option_map_or}
use Rattle.std.specs.Map.{lookup}
use Rattle.tk_script.proofs.Played.{played_new}
use Rattle.tk_script.proofs.script_log.ScriptLog.new.Goals as goal

pub invariant_of-result : goal.invariant_of-result
invariant_of-result c = played_new _ _ _ _ _ _ _ c.new-log.ensures.told
    c.new-files.ensures
    (λ q. ap (λ es. is_some (lookup (λ k. bytes_eq q (string_bytes k)) es)) c.new-begun.ensures.empty)
    (λ q. ap (λ es. option_map_or (λ names. names.items) (lookup (λ k. bytes_eq q (string_bytes k)) es) []) c.new-passed.ensures.empty)
    c.new-exits.ensures.items c.new-log.ensures.count
