use Rattle.std.proofs.Common.{◌≡◌, ◌∙◌, Some, None, [], List, ap, sym, subst, map, option_map, unwrap_or, codes, IfOk}
use Rattle.clap.specs.Walk.{Text}
use Rattle.clap.specs.Words.{all_of, found_of, rows_of}
use Rattle.clap.proofs.WalkLemmas.{raw_values-rows}
use Rattle.tk_words.proofs.matched.others_in.Goals as goal

pub returns-in-Some : goal.returns-in-Some
returns-in-Some c =
    let all : all_of (codes "others") (rows_of (found_of c.args.matches.now)) ≡ Some (map (λ t. t.now) c.in-Some.texts.now) =
    sym (raw_values-rows (found_of c.args.matches.now) (codes "others")) ∙ sym c.get_raw.ensures
    ∙ ap (option_map (λ s. map (λ v. v.now) s.now)) c.in-Some.is in
    subst (λ (ts : List Text). IfOk c.copied.result (λ others. others ≡ ts)) (sym (ap (λ o. unwrap_or o []) all)) c.copied.ensures

pub returns-in-None : goal.returns-in-None
returns-in-None c =
    let none : all_of (codes "others") (rows_of (found_of c.args.matches.now)) ≡ None =
    sym (raw_values-rows (found_of c.args.matches.now) (codes "others")) ∙ sym c.get_raw.ensures
    ∙ ap (option_map (λ s. map (λ v. v.now) s.now)) c.in-None.is in
    c.new.ensures ∙ sym (ap (λ o. unwrap_or o []) none)
