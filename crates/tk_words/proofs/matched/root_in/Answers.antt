use Rattle.std.proofs.Common.{◌≡◌, Some, None, ap, sym, ◌∙◌, option_map, codes}
use Rattle.clap.specs.Words.{first_of, found_of, rows_of}
use Rattle.clap.proofs.WalkLemmas.{first_value-rows}
use Rattle.tk_words.proofs.matched.root_in.Goals as goal

pub returns-in_ok-from_str-in-Some : goal.returns-in_ok-from_str-in-Some
returns-in_ok-from_str-in-Some c =
    let first : first_of (codes "root") (rows_of (found_of c.args.matches.now)) ≡ Some c.in-Some.folder.now =
    sym (first_value-rows (found_of c.args.matches.now) (codes "root")) ∙ sym c.get_str.ensures ∙ ap (option_map (λ s. s.now)) c.in-Some.is in
    ap Some c.in_ok-from_str-in-Some.ensures ∙ sym first

pub returns-in-None : goal.returns-in-None
returns-in-None c =
    let first : first_of (codes "root") (rows_of (found_of c.args.matches.now)) ≡ None =
    sym (first_value-rows (found_of c.args.matches.now) (codes "root")) ∙ sym c.get_str.ensures ∙ ap (option_map (λ s. s.now)) c.in-None.is in
    sym first
