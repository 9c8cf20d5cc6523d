use Rattle.std.proofs.Common.{sym, subst}
use Rattle.tk_cache.specs.Fronts.{Shows}
use Rattle.tk_cache.specs.Views.{Kept, seen, kept_of}
use Rattle.tk_cache.proofs.Showing.{shown_beside, shown_task_runs, with_task_runs}
use Rattle.tk_cache.proofs.cache.Cache.advance_task_runs.Goals as goal

pub advance_task_runs-requires-clause-beside : goal.advance_task_runs-requires-clause-beside
advance_task_runs-requires-clause-beside c =
    let shows : Shows (seen (kept_of c.self.inside.fronts c.self.inside.runs c.self.inside.beside c.self.inside.task_runs c.self.inside.pods)) c.args.journal.now.history = subst (λ (k : Kept). Shows (seen k) c.args.journal.now.history) (sym c.self.view_is) c.requires.shows in
    shown_beside c.self.inside.fronts c.self.inside.runs c.self.inside.beside c.self.inside.task_runs c.self.inside.pods c.args.journal.now.history shows

pub advance_task_runs-requires-clause-shows : goal.advance_task_runs-requires-clause-shows
advance_task_runs-requires-clause-shows c =
    let shows : Shows (seen (kept_of c.self.inside.fronts c.self.inside.runs c.self.inside.beside c.self.inside.task_runs c.self.inside.pods)) c.args.journal.now.history = subst (λ (k : Kept). Shows (seen k) c.args.journal.now.history) (sym c.self.view_is) c.requires.shows in
    shown_task_runs c.self.inside.fronts c.self.inside.runs c.self.inside.beside c.self.inside.task_runs c.self.inside.pods c.args.journal.now.history shows

pub returns-in-Ok-clause-shows : goal.returns-in-Ok-clause-shows
returns-in-Ok-clause-shows c =
    let shows : Shows (seen (kept_of c.self.inside.fronts c.self.inside.runs c.self.inside.beside c.self.inside.task_runs c.self.inside.pods)) c.args.journal.now.history = subst (λ (k : Kept). Shows (seen k) c.args.journal.now.history) (sym c.self.view_is) c.requires.shows in
    with_task_runs c.self.inside.fronts c.self.inside.runs c.self.inside.beside c.self.inside.task_runs c.self.inside.pods c.args.journal.now.history shows c.args.to c.advance_task_runs.new.runs c.advance_task_runs.new.task_runs c.requires.within c.in-Ok.ensures.beside c.in-Ok.ensures.shows
