-- Streams in memory of which scripted calls fail.
use Rattle.std.specs.Prelude.{ℕ, Bool, List}
use Rattle.tk_edge.specs.declared.script.Script.{Script}

-- a source: the bytes left, whether the end was given, the numbers of the calls that fail, and how many calls there were and failed
pub record ScriptedSource : Type 0 where
  pub left : List ℕ
  pub ended : Bool
  pub failing : List ℕ
  pub calls : ℕ
  pub faults : ℕ

abbrev pub source_of : List ℕ → Bool → Script → ScriptedSource
source_of left ended script = record { left = left; ended = ended; failing = script.failing; calls = script.calls; faults = script.faults }

-- a sink: the bytes written, the numbers of the calls that fail, and how many calls there were and failed
pub record ScriptedSink : Type 0 where
  pub written : List ℕ
  pub failing : List ℕ
  pub calls : ℕ
  pub faults : ℕ

abbrev pub sink_of : List ℕ → Script → ScriptedSink
sink_of written script = record { written = written; failing = script.failing; calls = script.calls; faults = script.faults }
