use Rattle.std.proofs.Common.{◌≡◌, ◌-◌, ◌^◌, min, take}
use Rattle.tk_results.specs.Gathered.{total_of}
use Rattle.tk_results.proofs.files.count_bytes.Given as goal

-- the count so far is that of the declarations so far, up to the cap
abbrev pub invariant-loop-spec : goal.invariant-loop-spec
invariant-loop-spec l = l.count ≡ min (total_of (take l.spec-index l.specs) l.files) (2 ^ 64 - 1)
