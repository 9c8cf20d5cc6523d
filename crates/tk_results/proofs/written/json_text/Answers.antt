use Rattle.std.proofs.Common.{ap, ◌∙◌}
use Rattle.serde_json.specs.Written.{compact_text, has_float}
use Rattle.tk_results.proofs.JsonText.{no_float}
use Rattle.tk_results.proofs.written.json_text.Goals as goal

pub returns : goal.returns
returns c =
    let is = c.in_ok-json.ensures in
    c.from_string.ensures ∙ (c.in_ok-to_string.ensures.text (ap has_float is ∙ no_float c.args.value.now) ∙ ap compact_text is)
