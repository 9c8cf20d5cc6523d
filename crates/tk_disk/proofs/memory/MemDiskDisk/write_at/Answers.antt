use Rattle.std.proofs.Common.{◌≡◌, ◌≤◌, ℕ, List, length, rules, sym, subst}
use Rattle.tk_disk.specs.Disk.{Torn, over}
use Rattle.tk_disk.specs.Memory.{Leaves, MemoryValue}
use Rattle.tk_disk.proofs.Steps.{torn_over, torn_same, wrote_image, wrote_time, wrote_torn}
use Rattle.tk_disk.proofs.memory.MemDiskDisk.write_at.Goals as goal

-- the call failed: nothing was written, but any bytes may stand in the range
pub invariant_of-self-then-fails : goal.invariant_of-self-then-fails
invariant_of-self-then-fails c =
    let old = c.self.inside in
    wrote_image old.start.items old.steps.items c.note.new.steps.items c.args.at (length c.args.bytes.now) c.in-Ok-note.ensures.ok old.bytes.items old.bytes.items c.self.invariant (torn_same old.bytes.items c.args.at (length c.args.bytes.now))

pub returns-then-fails-clause-torn : goal.returns-then-fails-clause-torn
returns-then-fails-clause-torn c = rw (sym c.self.view_is) (λ tells. wrote_torn c.self.inside.start.items c.self.inside.steps.items c.note.new.steps.items c.args.at (length c.args.bytes.now) c.in-Ok-note.ensures.ok)

pub returns-then-fails-clause-time : goal.returns-then-fails-clause-time
returns-then-fails-clause-time c = rw (sym c.self.view_is) (λ tells. wrote_time c.self.inside.start.items c.self.inside.steps.items c.note.new.steps.items c.args.at (length c.args.bytes.now) c.in-Ok-note.ensures.ok)

pub returns-then-fails-clause-told : goal.returns-then-fails-clause-told
returns-then-fails-clause-told c =
    let old = c.self.inside in
    rw (sym c.self.view_is) ((λ tells. wrote_image old.start.items old.steps.items c.note.new.steps.items c.args.at (length c.args.bytes.now) c.in-Ok-note.ensures.ok old.bytes.items old.bytes.items c.self.invariant (torn_same old.bytes.items c.args.at (length c.args.bytes.now))), (λ tells. c.self.invariant))

-- it was done whole
pub invariant_of-self-2 : goal.invariant_of-self-2
invariant_of-self-2 c =
    let old = c.self.inside in
    let le : c.args.at ≤ length old.bytes.items = subst (λ (v : MemoryValue). Leaves v.start v.steps v.bytes → c.args.at ≤ length v.bytes) (sym c.self.view_is) c.requires c.self.invariant in
    let is : c.in-Ok.new.items ≡ over old.bytes.items c.args.at c.args.bytes.now = search rules in
    wrote_image old.start.items old.steps.items c.note.new.steps.items c.args.at (length c.args.bytes.now) c.in-Ok-note.ensures.ok old.bytes.items c.in-Ok.new.items c.self.invariant
    (subst (λ (f : List ℕ). Torn c.args.at (length c.args.bytes.now) old.bytes.items f) (sym is) (torn_over old.bytes.items c.args.bytes.now c.args.at le))

pub returns-clause-torn : goal.returns-clause-torn
returns-clause-torn c = rw (sym c.self.view_is) (λ tells. wrote_torn c.self.inside.start.items c.self.inside.steps.items c.note.new.steps.items c.args.at (length c.args.bytes.now) c.in-Ok-note.ensures.ok)

pub returns-clause-time : goal.returns-clause-time
returns-clause-time c = rw (sym c.self.view_is) (λ tells. wrote_time c.self.inside.start.items c.self.inside.steps.items c.note.new.steps.items c.args.at (length c.args.bytes.now) c.in-Ok-note.ensures.ok)

pub returns-clause-told : goal.returns-clause-told
returns-clause-told c =
    let old = c.self.inside in
    let le : c.args.at ≤ length old.bytes.items = subst (λ (v : MemoryValue). Leaves v.start v.steps v.bytes → c.args.at ≤ length v.bytes) (sym c.self.view_is) c.requires c.self.invariant in
    let is : c.in-Ok.new.items ≡ over old.bytes.items c.args.at c.args.bytes.now = search rules in
    rw (sym c.self.view_is) (
      (λ tells. wrote_image old.start.items old.steps.items c.note.new.steps.items c.args.at (length c.args.bytes.now) c.in-Ok-note.ensures.ok old.bytes.items c.in-Ok.new.items c.self.invariant
          (subst (λ (f : List ℕ). Torn c.args.at (length c.args.bytes.now) old.bytes.items f) (sym is) (torn_over old.bytes.items c.args.bytes.now c.args.at le))),
      (λ tells. c.self.invariant),
    )
