use Rattle.std.proofs.Common.{◌∙◌, ap, map}
use Rattle.clap.specs.Words.{App, is_simple, subcommand_of, takes}
use Rattle.tk_words.proofs.by_clap.matches_in.Goals as goal

pub returns-in-Ok : goal.returns-in-Ok
returns-in-Ok c =
    (c.in-Ok.ensures.matches (ap is_simple c.in_ok-tkn.ensures)).1 ∙ ap (λ (a : App). subcommand_of a (map (λ w. w.now) c.args.words.now)) c.in_ok-tkn.ensures

pub unreachable-requires : goal.unreachable-requires
unreachable-requires c =
    let taken = ap (λ (a : App). takes a (map (λ w. w.now) c.args.words.now)) c.in_ok-tkn.ensures ∙ c.requires.taken in
    c.in_default.not-OutOfMemory (c.kind.ensures ∙ c.in-Err.ensures.passes taken)
