use Rattle.std.proofs.Common.{sym, ◌∙◌, subst, take, ◌+◌}
use Rattle.tk_steps.proofs.Moved.{moves_then}
use Rattle.tk_outcome.specs.Walked.{AreFetched}
use Rattle.tk_outcome.proofs.Answered.{all_differ, declared_at, fetched_more, same_files}
use Rattle.tk_outcome.proofs.fetching.fetch_results.Goals as goal

pub fetch_result-requires-clause-declared : goal.fetch_result-requires-clause-declared
fetch_result-requires-clause-declared g c =
    declared_at c.args.pod.now.plan.results c.args.specs.now c.loop-place.place c.index-specs-place.result c.requires.declared c.loop-place-test.true c.index-specs-place.is

pub returns-in_err-file-clause-moves : goal.returns-in_err-file-clause-moves
returns-in_err-file-clause-moves g c = moves_then _ _ _ _ _ _ _ c.loop-place.invariant.moves c.fetch_result.ensures.moves

pub returns-in_err-push-clause-moves : goal.returns-in_err-push-clause-moves
returns-in_err-push-clause-moves g c = moves_then _ _ _ _ _ _ _ c.loop-place.invariant.moves c.fetch_result.ensures.moves

pub loop-place-preserved : goal.loop-place-preserved
loop-place-preserved g c =
    let root = c.args.root.now in
    let name = c.args.pod.now.name in
    let specs = c.args.specs.now in
    let place = c.loop-place.place in
    let found = c.loop-place.found.items in
    let told = g.H.Host.told c.loop-place.host in
    let now = g.H.Host.told c.fetch_result.new.host in
    let files = g.H.Host.files c.fetch_result.new.host in
    let before : AreFetched root name told files (take place specs) found = same_files root name told (g.H.Host.files c.loop-place.host) files (take place specs) found c.fetch_result.ensures.files c.loop-place.invariant.fetched in
    record {
      fetched = subst (AreFetched root name now files (take (place + 1) specs)) (sym c.in_ok-push.ensures.items)
          (fetched_more root name told now files c.index-specs-place.result c.in_ok-file.file c.in_ok-file.ensures.told c.in_ok-file.ensures.fetched specs place found (all_differ c.args.pod.now.plan.results specs c.requires.declared) c.loop-place-test.true c.index-specs-place.is before);
      moves = moves_then _ _ _ _ _ _ _ c.loop-place.invariant.moves c.fetch_result.ensures.moves;
      stays = λ so. c.fetch_result.ensures.stays (c.loop-place.invariant.stays so);
      quiet = c.fetch_result.ensures.quiet ∙ c.loop-place.invariant.quiet;
      files = c.fetch_result.ensures.files ∙ c.loop-place.invariant.files;
      killed = c.fetch_result.ensures.killed ∙ c.loop-place.invariant.killed;
      watches = c.fetch_result.ensures.watches ∙ c.loop-place.invariant.watches;
      plays = c.fetch_result.ensures.plays ∙ c.loop-place.invariant.plays;
      count = c.in_ok-file.ensures.count ∙ c.loop-place.invariant.count;
    }
