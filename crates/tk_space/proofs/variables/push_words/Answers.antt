use Rattle.std.proofs.Common.{◌≡◌, codes, option_copied}
use Rattle.tk_space.specs.Space.{bound_text, claim_text, path_text, space_word}
use Rattle.tk_space.proofs.WordFacts.{three_behind}
use Rattle.tk_space.proofs.variables.push_words.Goals as goal

pub returns : goal.returns
returns c =
    let name = c.args.name.now in
    let space = option_copied c.args.space in
    let path : c.in_ok-space_word.field-0 ≡ space_word name (codes ".path") (path_text c.args.root.now c.args.pod.now space) = cc (c.in_ok-space_word.ensures, c.in_ok-path.ensures) in
    let bound : c.in_ok-space_word-2.field-0 ≡ space_word name (codes ".bound") (bound_text space) = cc (c.in_ok-space_word-2.ensures, c.in_ok-bound.ensures) in
    let claim : c.in_ok-space_word-3.field-0 ≡ space_word name (codes ".claim") (claim_text space) = cc (c.in_ok-space_word-3.ensures, c.in_ok-claim.ensures) in
    three_behind _ _ _ _ path bound claim c.in_ok-push.ensures.ok c.in_ok-push-2.ensures.ok c.in_ok-push-3.ensures.ok
