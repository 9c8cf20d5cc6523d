use Rattle.std.proofs.Common.{◌≡◌, ◌∙◌, ap, ap₂, codes, true}
use Rattle.std.proofs.lemmas.Result.{IfOk-weaker}
use Rattle.clap.specs.Words.{App, Shape, app_of, new_app, with_subcommand}
use Rattle.clap.specs.Simple.{app_of_fields, on_top}
use Rattle.clap.proofs.SimpleLemmas.{plain_fields}
use Rattle.tk_words.specs.Command.{without_help}
use Rattle.tk_words.proofs.command.tkn.Goals as goal

abbrev top : App → Shape
top a = a.top

pub returns : goal.returns
returns c =
    let quiet : app_of c.disable_help_subcommand.result ≡ on_top without_help (new_app (codes "tkn")) =
    ap app_of_fields c.disable_help_subcommand.ensures
    ∙ ap (on_top (λ s. record s { disable_help_subcommand = true }))
    (ap app_of_fields c.disable_help_flag.ensures ∙ ap (on_top (λ s. record s { disable_help_flag = true })) c.new.ensures.app) in
    let check_local = (plain_fields c.new-2.result (ap (λ (a : App). a.top.is_plain) c.new-2.ensures.app)).globals in
    let decide_local = (plain_fields c.new-3.result (ap (λ (a : App). a.top.is_plain) c.new-3.ensures.app)).globals in
    let simulate_local = (plain_fields c.in_ok-simulate.field-0 (ap (λ (a : App). a.top.is_plain) c.in_ok-simulate.ensures)).globals in
    let run_local = (plain_fields c.in_ok-run.field-0 (ap (λ (a : App). a.top.is_plain) c.in_ok-run.ensures)).globals in
    let generate_local = (plain_fields c.in_ok-generate.field-0 (ap (λ (a : App). a.top.is_plain) c.in_ok-generate.ensures)).globals in
    let one = c.in_ok-subcommand.ensures.shape check_local ∙ ap₂ with_subcommand quiet (ap top c.new-2.ensures.app) in
    let two = c.in_ok-subcommand-2.ensures.shape decide_local ∙ ap₂ with_subcommand one (ap top c.new-3.ensures.app) in
    let three = c.in_ok-subcommand-3.ensures.shape simulate_local ∙ ap₂ with_subcommand two (ap top c.in_ok-simulate.ensures) in
    let four = c.in_ok-subcommand-4.ensures.shape run_local ∙ ap₂ with_subcommand three (ap top c.in_ok-run.ensures) in
    IfOk-weaker c.subcommand-5.result _ _ (λ r h. h.shape generate_local ∙ ap₂ with_subcommand four (ap top c.in_ok-generate.ensures)) c.subcommand-5.ensures
