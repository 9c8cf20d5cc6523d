use Rattle.std.proofs.Common.{not}
use Rattle.std.specs.Char.{is_ascii_alphabetic}
use Rattle.tk_vars.proofs.SplitFacts.{splits_before, splits_by_same, not_not}
use Rattle.tk_vars.proofs.splitting.split_head.Goals as goal

pub returns : goal.returns
returns c =
    splits_by_same (λ b. not (not (is_ascii_alphabetic b))) is_ascii_alphabetic (λ b. not_not (is_ascii_alphabetic b)) c.args.inner.now c.split_at.result.0.now c.split_at.result.1.now
    (splits_before (λ b. not (is_ascii_alphabetic b)) c.args.inner.now c.split_at.result.0.now c.split_at.result.1.now c.head_end.result c.unwrap_or.result c.head_end.ensures c.unwrap_or.ensures c.split_at.ensures.front c.split_at.ensures.back)
