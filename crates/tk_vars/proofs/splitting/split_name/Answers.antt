use Rattle.std.specs.Prelude.{◌==◌, ◌||◌}
use Rattle.tk_vars.proofs.SplitFacts.{splits_before}
use Rattle.tk_vars.proofs.splitting.split_name.Goals as goal

pub returns : goal.returns
returns c = splits_before (λ b. b == 46 || b == 91) c.args.text.now c.split_at.result.0.now c.split_at.result.1.now c.name_end.result c.unwrap_or.result c.name_end.ensures c.unwrap_or.ensures c.split_at.ensures.front c.split_at.ensures.back
