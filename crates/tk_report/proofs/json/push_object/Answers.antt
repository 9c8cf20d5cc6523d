use Rattle.std.proofs.Common.{sym}
use Rattle.tk_report.proofs.json.push_object.Goals as goal

pub run_data-requires : goal.run_data-requires
run_data-requires c = c.requires c.args.name.now c.in-Some.run'.now (sym c.in-Some.ensures)
