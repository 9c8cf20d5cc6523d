use Rattle.std.proofs.Common.{◌<◌, ◌∙◌, ℕ, List, [], get_or, ap, sym, subst}
use Rattle.std.proofs.lemmas.Option.{slice_get-get_or}
use Rattle.tk_cache.specs.Views.{seen}
use Rattle.tk_world.specs.Looking.{is_open_run}
use Rattle.tk_world.proofs.Opens.{any_here, any_later}
use Rattle.tk_world.proofs.looking.has_open_run.Goals as goal

pub returns-then-is_open_run : goal.returns-then-is_open_run
returns-then-is_open_run c =
    let name = get_or ((seen c.args.cache.now).view.runs) c.loop-place.place [] in
    let there = slice_get-get_or ((seen c.args.cache.now).view.runs) c.loop-place.place [] (subst (λ (n : ℕ). c.loop-place.place < n) c.run_count-place-end.ensures c.loop-place-test.true) in
    sym (any_here (λ (name : List ℕ). is_open_run ((seen c.args.cache.now).view.run name)) ((seen c.args.cache.now).view.runs) c.loop-place.place name there (ap is_open_run (c.run_at.ensures name there) ∙ (sym c.is_open_run.ensures ∙ c.if-is_open_run.true))) ∙ c.loop-place.invariant

pub loop-place-preserved : goal.loop-place-preserved
loop-place-preserved c =
    let name = get_or ((seen c.args.cache.now).view.runs) c.loop-place.place [] in
    let there = slice_get-get_or ((seen c.args.cache.now).view.runs) c.loop-place.place [] (subst (λ (n : ℕ). c.loop-place.place < n) c.run_count-place-end.ensures c.loop-place-test.true) in
    any_later (λ (name : List ℕ). is_open_run ((seen c.args.cache.now).view.run name)) ((seen c.args.cache.now).view.runs) c.loop-place.place name there (ap is_open_run (c.run_at.ensures name there) ∙ (sym c.is_open_run.ensures ∙ c.if-is_open_run.false)) ∙ c.loop-place.invariant
