use Rattle.std.proofs.Common.{◌≡◌, ◌+◌, true, [], ◌∷◌, ◌++◌, length, reverse, sym, ◌∙◌, subst, arith, rules}
use Rattle.tk_durable.specs.Durable.{DurableValue}
use Rattle.tk_durable.proofs.Appends.{IsBlockOf, leaves, stands_more}
use Rattle.tk_durable.proofs.Histories.{holds_more, stands_as}
use Rattle.tk_durable.proofs.durable.Durable.append.Goals as goal

pub invariant_of-self : goal.invariant_of-self
invariant_of-self g c sound told =
    let K = g.D.Disk in
    let old = c.self.inside in
    let e = c.args.entry.now in
    let t = c.add.ensures.told.1 told in
    let block : IsBlockOf e c.deref.result.now = record { is_entry = c.in-Ok.ensures.entry; fits = c.in-Ok.ensures.fits; is = c.deref.ensures.value ∙ c.in-Ok.ensures.bytes } in
    let next : c.in-Some.next ≡ old.gate + length c.deref.result.now = search (rules, arith) in
    let found = c.self.invariant sound t in
    (found.0 ++ e ∷ [], stands_more K.content K.images old.disk c.add.new.disk old.gate c.in-Some.next found.0 e c.deref.result.now found.1 block (c.in-Ok-add.ensures.added t) (c.in-Ok-add.ensures.durable_after t) next)

pub returns-in-Ok-add-clause-any_moment : goal.returns-in-Ok-add-clause-any_moment
returns-in-Ok-add-clause-any_moment g c = rw (sym c.self.view_is) (λ t history holds.
    let K = g.D.Disk in
    let old = c.self.inside in
    let e = c.args.entry.now in
    let sound : old.sound ≡ true = subst (λ (v : DurableValue _). v.sound ≡ true) (sym c.self.view_is) c.requires.sound in
    let block : IsBlockOf e c.deref.result.now = record { is_entry = c.in-Ok.ensures.entry; fits = c.in-Ok.ensures.fits; is = c.deref.ensures.value ∙ c.in-Ok.ensures.bytes } in
    let found = c.self.invariant sound t in
    leaves K.content K.images K.moment K.images_since old.disk c.add.new.disk old.gate found.0 history e c.deref.result.now found.1 block (c.add.ensures.any_moment t) holds)

pub returns-in-Ok-add-clause-appended : goal.returns-in-Ok-add-clause-appended
returns-in-Ok-add-clause-appended g c = rw (sym c.self.view_is) (λ ok t history holds.
    let K = g.D.Disk in
    let old = c.self.inside in
    let e = c.args.entry.now in
    let sound : old.sound ≡ true = subst (λ (v : DurableValue _). v.sound ≡ true) (sym c.self.view_is) c.requires.sound in
    let block : IsBlockOf e c.deref.result.now = record { is_entry = c.in-Ok.ensures.entry; fits = c.in-Ok.ensures.fits; is = c.deref.ensures.value ∙ c.in-Ok.ensures.bytes } in
    let next : c.in-Some.next ≡ old.gate + length c.deref.result.now = search (rules, arith) in
    let found = c.self.invariant sound t in
    let stands = stands_as history found.0 (K.content old.disk) (K.images old.disk) old.gate holds found.1 in
    holds_more history e (K.content c.add.new.disk) (K.images c.add.new.disk) c.in-Some.next
    (stands_more K.content K.images old.disk c.add.new.disk old.gate c.in-Some.next (reverse history) e c.deref.result.now stands block (c.in-Ok-add.ensures.added t) (c.in-Ok-add.ensures.durable_after t) next))

pub returns-clause-any_moment : goal.returns-clause-any_moment
returns-clause-any_moment g c = rw (sym c.self.view_is) (λ t history holds.
    let K = g.D.Disk in
    let old = c.self.inside in
    let e = c.args.entry.now in
    let sound : old.sound ≡ true = subst (λ (v : DurableValue _). v.sound ≡ true) (sym c.self.view_is) c.requires.sound in
    let block : IsBlockOf e c.deref.result.now = record { is_entry = c.in-Ok.ensures.entry; fits = c.in-Ok.ensures.fits; is = c.deref.ensures.value ∙ c.in-Ok.ensures.bytes } in
    let found = c.self.invariant sound t in
    leaves K.content K.images K.moment K.images_since old.disk c.add.new.disk old.gate found.0 history e c.deref.result.now found.1 block (c.add.ensures.any_moment t) holds)
