use Rattle.std.proofs.Common.{◌≡◌, ◌<◌, ◌≤◌, length, ap, arith}
use Rattle.std.specs.Ordering.{nat_cmp}
use Rattle.std.specs.Cmp.Lexicographic.{slice_cmp}
use Rattle.std.specs.declared.cmp.Ordering.TheVariants.{Less, Equal, Greater}
use Rattle.tk_bind.proofs.WithPair.{goes_on, stops_before, stops_at, goes_last}
use Rattle.tk_bind.proofs.completing.with_pair.Goals as goal

pub loop-place-preserved : goal.loop-place-preserved
loop-place-preserved c =
    let greater : slice_cmp nat_cmp c.args.pair.now.key c.index.result.now.key ≡ Greater = cc in
    let lt : c.loop-place.place < length c.loop-place.pairs.items = omega (arith, c.loop-place.pairs.ok, ap length c.loop-place.invariant.same, c.args.pairs.ok) in
    record { same = c.loop-place.invariant.same; behind = goes_on c.loop-place.pairs.items c.args.pair.now c.index.result.now c.loop-place.place lt c.index.ensures greater c.loop-place.invariant.behind }

pub returns-in-Less : goal.returns-in-Less
returns-in-Less c =
    let less : slice_cmp nat_cmp c.args.pair.now.key c.index.result.now.key ≡ Less = cc in
    let lt : c.loop-place.place < length c.loop-place.pairs.items = omega (arith, c.loop-place.pairs.ok, ap length c.loop-place.invariant.same, c.args.pairs.ok) in
    stops_before c.args.pairs.items c.loop-place.pairs.items c.insert.new.self.items c.args.pair.now c.in_ok-copy-in-Less.field-0 c.index.result.now c.loop-place.place lt c.index.ensures less c.loop-place.invariant.behind c.loop-place.invariant.same c.in_ok-insert-in-Less.ensures.items c.in_ok-copy-in-Less.ensures

pub returns-in-Equal : goal.returns-in-Equal
returns-in-Equal c =
    let equal : slice_cmp nat_cmp c.args.pair.now.key c.index.result.now.key ≡ Equal = cc in
    let lt : c.loop-place.place < length c.loop-place.pairs.items = omega (arith, c.loop-place.pairs.ok, ap length c.loop-place.invariant.same, c.args.pairs.ok) in
    stops_at c.args.pairs.items c.loop-place.pairs.items c.args.pair.now c.index.result.now c.loop-place.place lt c.index.ensures equal c.loop-place.invariant.behind c.loop-place.invariant.same

pub returns : goal.returns
returns c =
    let le : length c.loop-place.pairs.items ≤ c.loop-place.place = omega (arith, c.loop-place.pairs.ok, ap length c.loop-place.invariant.same, c.args.pairs.ok) in
    goes_last c.args.pairs.items c.loop-place.pairs.items c.push.new.self.items c.args.pair.now c.in_ok-copy.field-0 c.loop-place.place le c.loop-place.invariant.behind c.loop-place.invariant.same c.in_ok-push.ensures.items c.in_ok-copy.ensures
