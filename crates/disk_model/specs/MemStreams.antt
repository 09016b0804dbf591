-- Which calls of a source or a sink in memory are to fail.
use Rattle.std.specs.Prelude.{ℕ, List}
use Rattle.disk_model.specs.declared.mem_source.MemSource.{MemSource}
use Rattle.disk_model.specs.declared.mem_sink.MemSink.{MemSink}
use Rattle.disk_model.specs.Failing.{failing_calls, calls_made}

-- the numbers of the reads that are to fail, and how many were made
abbrev pub source_failing : MemSource → List ℕ
source_failing source = failing_calls source.failing

abbrev pub source_made : MemSource → ℕ
source_made source = calls_made source.failing

-- the same of the writes
abbrev pub sink_failing : MemSink → List ℕ
sink_failing sink = failing_calls sink.failing

abbrev pub sink_made : MemSink → ℕ
sink_made sink = calls_made sink.failing
