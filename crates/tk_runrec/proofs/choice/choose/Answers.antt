use Rattle.std.proofs.Common.{◌≤◌, ◌<◌, length, sym, arith}
use Rattle.tk_cache.specs.Views.{seen}
use Rattle.tk_runrec.proofs.Active.{none_chosen, none_active, none_within, found_active, none_further}
use Rattle.tk_runrec.proofs.choice.choose.Goals as goal

pub returns-in_default : goal.returns-in_default
returns-in_default c = sym (none_active (seen c.args.cache.now).view c.args.moment c.active-active.result.now c.active-active.ensures c.loop-from.from c.loop-from.invariant c.in_default.ensures)

pub returns-then-end-place : goal.returns-then-end-place
returns-then-end-place c =
    let view = (seen c.args.cache.now).view in
    let past : length view.runs ≤ c.in-Some.place = omega (arith, c.run_count-end.ensures, c.if-end-place.true) in
    sym (none_within view c.args.moment c.active-active.result.now c.active-active.ensures c.loop-from.from c.loop-from.invariant c.in-Some.place c.in-Some.ensures past)

pub returns-then-is_some : goal.returns-then-is_some
returns-then-is_some c =
    let view = (seen c.args.cache.now).view in
    let within : c.in-Some.place < length view.runs = omega (arith, c.run_count-end.ensures, c.if-end-place.false) in
    found_active view c.args.moment c.active-active.result.now c.active-active.ensures c.loop-from.from c.loop-from.invariant c.in-Some.place c.in-Some.ensures c.in_ok-found.found c.if-is_some.ensures within c.in_ok-found.ensures

pub loop-from-preserved : goal.loop-from-preserved
loop-from-preserved c =
    none_further (seen c.args.cache.now).view c.args.moment c.active-active.result.now c.active-active.ensures c.loop-from.from c.loop-from.invariant c.in-Some.place c.in-Some.ensures c.in_ok-found.found c.if-is_some.ensures c.in_ok-found.ensures

pub returns : goal.returns
returns c =
    let view = (seen c.args.cache.now).view in
    let past : length view.runs ≤ c.loop-from.from = omega (arith, c.run_count-end.ensures, c.loop-from-test.false) in
    sym (none_chosen view c.args.moment c.loop-from.from past c.loop-from.invariant)
