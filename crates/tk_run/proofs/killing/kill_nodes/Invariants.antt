use Rattle.std.proofs.Common.{◌≡◌, length}
use Rattle.tk_rounds.specs.Bench.{AllFollow, AllReady, IsReadyNode, NodeFollows, node_number}
use Rattle.tk_journal.specs.Legal.{IsLegal}
use Rattle.tk_run.specs.Run.{AreAllOfLife, AreSettledBelow}
use Rattle.tk_run.proofs.killing.kill_nodes.Given as goal

abbrev pub invariant-loop-i : goal.invariant-loop-i
invariant-loop-i g l = record {
  count : length l.nodes ≡ length l.fn.nodes;
  ready : AllReady node_number (IsReadyNode g.H.Host.told g.H.Host.killed) l.store.history l.nodes;
  follow : AllFollow (NodeFollows g.G.Gate.answers g.K.Clock.readings g.K.Clock.last g.H.Host.told g.H.Host.faults) l.fn.nodes l.nodes l.store.history l.store.history;
  settled : IsLegal l.store.history → AreAllOfLife l.store.history l.fn.nodes → AreAllOfLife l.store.history l.nodes × AreSettledBelow g.H.Host.told g.H.Host.killed l.i l.nodes;
  end : l.i-end ≡ length l.fn.nodes;
}
