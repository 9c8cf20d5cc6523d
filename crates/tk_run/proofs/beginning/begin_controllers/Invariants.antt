use Rattle.std.proofs.Common.{◌≡◌, ◌≤◌, ℕ, length}
use Rattle.std.specs.Prelude.{slice_get}
use Rattle.tk_run.specs.Begun.{AreBegun, controller_begun}
use Rattle.tk_run.proofs.beginning.begin_controllers.Given as goal

abbrev pub invariant-loop-i : goal.invariant-loop-i
invariant-loop-i g l = record {
  count : length l.controllers ≡ length l.fn.controllers;
  begun : AreBegun controller_begun l.i l.fn.controllers l.controllers;
  later : (j : ℕ) → l.i ≤ j → slice_get l.controllers j ≡ slice_get l.fn.controllers j;
  end : l.i-end ≡ length l.fn.controllers;
}
