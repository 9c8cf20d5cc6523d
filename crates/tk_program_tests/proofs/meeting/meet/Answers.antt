use Rattle.tk_program_tests.proofs.meeting.meet.Goals as goal

pub round-requires-clause-controllers : goal.round-requires-clause-controllers
round-requires-clause-controllers g c κs within = rw c.in_ok-store.ensures c.in_ok-bench.ensures.controllers

pub round-requires-clause-nodes : goal.round-requires-clause-nodes
round-requires-clause-nodes g c κs within = rw c.in_ok-store.ensures c.in_ok-bench.ensures.nodes
