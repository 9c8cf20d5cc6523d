use Rattle.std.proofs.Common.{◌≡◌, ◌∙◌, Some, ap, map}
use Rattle.clap.specs.Words.{takes}
use Rattle.tk_words.specs.Command.{tkn}
use Rattle.tk_words.specs.Ordered.{ordered}
use Rattle.tk_words.proofs.Meant.{line_taken, words_meant}
use Rattle.tk_words.proofs.by_clap.by_clap.Goals as goal

pub matches_in-requires : goal.matches_in-requires
matches_in-requires c =
    let are : map (λ w. w.now) c.as_slice.result.now ≡ ordered c.args.line.now = ap (map (λ w. w.now)) c.as_slice.ensures.value ∙ c.in_ok-words.ensures in
    record { taken = ap (takes tkn) are ∙ line_taken c.args.line.now c.requires.fits }

pub returns : goal.returns
returns c =
    let are : map (λ w. w.now) c.as_slice.result.now ≡ ordered c.args.line.now = ap (map (λ w. w.now)) c.as_slice.ensures.value ∙ c.in_ok-words.ensures in
    let read : c.in_ok-read.field-0 ≡ Some c.args.line.now = c.in_ok-read.ensures ∙ words_meant c.args.line.now _ _ c.requires.fits are c.in_ok-matches.ensures in
    cc

pub unreachable-requires : goal.unreachable-requires
unreachable-requires c =
    let are : map (λ w. w.now) c.as_slice.result.now ≡ ordered c.args.line.now = ap (map (λ w. w.now)) c.as_slice.ensures.value ∙ c.in_ok-words.ensures in
    let read : c.in_ok-read.field-0 ≡ Some c.args.line.now = c.in_ok-read.ensures ∙ words_meant c.args.line.now _ _ c.requires.fits are c.in_ok-matches.ensures in
    cc
