use Rattle.std.proofs.Common.{◌∙◌, ap, refl, rules, not}
use Rattle.std.specs.Prelude.{string_bytes, bytes_eq}
use Rattle.std.specs.HashMap.{get_by_text}
use Rattle.std.specs.Map.{lookup}
use Rattle.std.proofs.lemmas.Map.Made.{filter_same_pairs}
use Rattle.std.proofs.lemmas.Map.Entries.{lookup-filter-keys}
use Rattle.std.proofs.lemmas.Slice.Eq.{bytes_eq-Decides}
use Rattle.tk_edge.specs.Files.{is_under}
use Rattle.tk_script.proofs.Tables.{cleared_bytes, cleared_puts}
use Rattle.tk_script.proofs.file_table.take_below.Goals as goal

pub returns-clause-bytes : goal.returns-clause-bytes
returns-clause-bytes c = λ q.
    let kept = filter_same_pairs _ (λ e. not (is_under c.args.folder.now (string_bytes e.0))) _ (λ k v b w f' t. search rules) _ _ c.retain.ensures.filtered in
    cleared_bytes (get_by_text c.args.files.now) (get_by_text c.retain.new.self) q (is_under c.args.folder.now q)
    (ap (lookup (λ k. bytes_eq q (string_bytes k))) kept ∙ lookup-filter-keys (λ k. bytes_eq q (string_bytes k)) (λ k. not (is_under c.args.folder.now (string_bytes k))) (not (is_under c.args.folder.now q)) (λ k hit. rw ((bytes_eq-Decides q (string_bytes k)).0 hit) refl) c.args.files.now.entries)

pub returns-clause-puts : goal.returns-clause-puts
returns-clause-puts c = λ q.
    let kept = filter_same_pairs _ (λ e. not (is_under c.args.folder.now (string_bytes e.0))) _ (λ k v b w f' t. search rules) _ _ c.retain.ensures.filtered in
    cleared_puts (get_by_text c.args.files.now) (get_by_text c.retain.new.self) q (is_under c.args.folder.now q)
    (ap (lookup (λ k. bytes_eq q (string_bytes k))) kept ∙ lookup-filter-keys (λ k. bytes_eq q (string_bytes k)) (λ k. not (is_under c.args.folder.now (string_bytes k))) (not (is_under c.args.folder.now q)) (λ k hit. rw ((bytes_eq-Decides q (string_bytes k)).0 hit) refl) c.args.files.now.entries)
