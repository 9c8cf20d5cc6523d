use Rattle.std.proofs.Common.{◌∙◌, sym}
use Rattle.tk_bind.proofs.Putting.{IsWalked, is_walked, put_there, put_new, below_there, below_new}
use Rattle.tk_bind.proofs.completing.put.Goals as goal

pub returns-then-begins_at-clause-put : goal.returns-then-begins_at-clause-put
returns-then-begins_at-clause-put c =
    let walked : IsWalked c.args.all.now.items c.args.pairs.now c.split_at.result.0.now c.split_at.result.1.now c.args.pair.now = is_walked c.args.all.now.items c.args.pairs.now c.split_at.result.0.now c.split_at.result.1.now c.args.pair.now c.as_str-key.result.now c.count_below.result c.as_str-key.ensures c.split_at.ensures.front c.split_at.ensures.back c.requires c.count_below.ensures.below c.count_below.ensures.stops in
    put_there c.args.all.now.items c.args.pairs.now c.split_at.result.0.now c.split_at.result.1.now c.extend.new.all.items c.args.pair.now c.as_str-key.result.now walked c.as_str-key.ensures c.in_ok-extend.ensures (sym c.begins_at.ensures ∙ c.if-begins_at.true)

pub returns-then-begins_at-clause-below : goal.returns-then-begins_at-clause-below
returns-then-begins_at-clause-below c =
    let walked : IsWalked c.args.all.now.items c.args.pairs.now c.split_at.result.0.now c.split_at.result.1.now c.args.pair.now = is_walked c.args.all.now.items c.args.pairs.now c.split_at.result.0.now c.split_at.result.1.now c.args.pair.now c.as_str-key.result.now c.count_below.result c.as_str-key.ensures c.split_at.ensures.front c.split_at.ensures.back c.requires c.count_below.ensures.below c.count_below.ensures.stops in
    λ key h. below_there c.args.all.now.items c.args.pairs.now c.split_at.result.0.now c.split_at.result.1.now c.extend.new.all.items c.args.pair.now key walked c.in_ok-extend.ensures h

pub returns-clause-put : goal.returns-clause-put
returns-clause-put c =
    let walked : IsWalked c.args.all.now.items c.args.pairs.now c.split_at.result.0.now c.split_at.result.1.now c.args.pair.now = is_walked c.args.all.now.items c.args.pairs.now c.split_at.result.0.now c.split_at.result.1.now c.args.pair.now c.as_str-key.result.now c.count_below.result c.as_str-key.ensures c.split_at.ensures.front c.split_at.ensures.back c.requires c.count_below.ensures.below c.count_below.ensures.stops in
    put_new c.args.all.now.items c.args.pairs.now c.split_at.result.0.now c.split_at.result.1.now c.extend.new.all.items c.push.new.self.items c.args.pair.now c.in_ok-copy.field-0 c.as_str-key.result.now walked c.as_str-key.ensures c.in_ok-extend.ensures c.in_ok-push.ensures.items c.in_ok-copy.ensures (sym c.begins_at.ensures ∙ c.if-begins_at.false)

pub returns-clause-below : goal.returns-clause-below
returns-clause-below c =
    let walked : IsWalked c.args.all.now.items c.args.pairs.now c.split_at.result.0.now c.split_at.result.1.now c.args.pair.now = is_walked c.args.all.now.items c.args.pairs.now c.split_at.result.0.now c.split_at.result.1.now c.args.pair.now c.as_str-key.result.now c.count_below.result c.as_str-key.ensures c.split_at.ensures.front c.split_at.ensures.back c.requires c.count_below.ensures.below c.count_below.ensures.stops in
    λ key h. below_new c.args.all.now.items c.args.pairs.now c.split_at.result.0.now c.split_at.result.1.now c.extend.new.all.items c.push.new.self.items c.args.pair.now c.in_ok-copy.field-0 key walked c.in_ok-extend.ensures c.in_ok-push.ensures.items c.in_ok-copy.ensures h
