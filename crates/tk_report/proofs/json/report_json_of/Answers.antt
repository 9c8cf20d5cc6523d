use Rattle.std.proofs.Common.{ap, ◌∙◌, map}
use Rattle.std.specs.Prelude.{flat_map}
use Rattle.serde_json.specs.Written.{compact_text, has_float}
use Rattle.tk_cache.specs.Views.{seen}
use Rattle.tk_report.specs.Admitted.{named}
use Rattle.tk_report.specs.Json.{data_at, list_data}
use Rattle.tk_report.proofs.NoFloat.{no_float-report}
use Rattle.tk_report.proofs.json.report_json_of.Goals as goal

pub returns : goal.returns
returns c =
    let shown = (seen c.args.objects.now).view in
    let is = c.in_ok-json.ensures
    ∙ ap (λ found. list_data (flat_map (data_at shown) (map named found))) c.as_slice.ensures.value
    ∙ ap (λ objects. list_data (flat_map (data_at shown) objects)) c.in_ok-found.ensures in
    c.from_string.ensures ∙ (c.in_ok-to_string.ensures.text (ap has_float is ∙ no_float-report shown c.args.journal.now.history) ∙ ap compact_text is)
