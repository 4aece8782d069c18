-- What is seen of the files and the sinks in memory.
use Rattle.std.specs.Prelude.{ℕ, min, List, length, Some, Result, Err, if◌then◌else◌}
use Rattle.tester_io.specs.declared.fault.FileFault.{FileFault}
use Rattle.tester_io.specs.declared.fault.FileFault.TheVariants.{Failed}
use Rattle.tester_io.specs.declared.memory.MemFiles.{MemFiles}
use Rattle.tester_io.specs.declared.memory_sink.MemSink.{MemSink}
use Rattle.tester_io.specs.declared.calm.CalmFiles.{CalmFiles}
use Rattle.tester_io.specs.declared.calm.CalmSink.{CalmSink}
use Rattle.tester_io.specs.Outside.{Contents, FilesSeen, SinkSeen}
use Rattle.tester_io.specs.Memory.{held_in, reading, is_to_fail}

-- what the names hold (own)
abbrev pub contents : MemFiles → Contents
contents files = held_in files.shelf.files

-- how many calls were made, readings and writings together (own)
abbrev pub calls_made : MemFiles → ℕ
calls_made files = files.turns.calls

-- the numbers of the calls that are to fail (own)
abbrev pub calls_to_fail : MemFiles → List ℕ
calls_to_fail files = files.turns.fails

-- what a reading gives, memory found (own)
abbrev pub wanted : MemFiles → List ℕ → ℕ → Result (List ℕ) FileFault
wanted files name limit =
    if is_to_fail (calls_to_fail files) (calls_made files) then Err Failed
    else reading (contents files name) limit

-- how many readings failed (own)
abbrev pub failed_reads : MemFiles → ℕ
failed_reads files = files.read_faults

-- how many writings failed (own)
abbrev pub failed_writes : MemFiles → ℕ
failed_writes files = files.write_faults

-- how many readings asked for a name that is not held (own)
abbrev pub absent_reads : MemFiles → ℕ
absent_reads files = files.shelf.absents

-- how many readings found more bytes than they take (own)
abbrev pub oversized_reads : MemFiles → ℕ
oversized_reads files = files.shelf.oversizes

-- what is seen of them (own)
abbrev pub seen_of : MemFiles → FilesSeen
seen_of files = record {
  told = Some (contents files);
  absents = absent_reads files;
  read_faults = failed_reads files;
  oversizes = oversized_reads files;
  write_faults = failed_writes files;
}

-- what the sink has (own)
abbrev pub written : MemSink → List ℕ
written sink = sink.bytes

-- how many writings were tried (own)
abbrev pub writes_made : MemSink → ℕ
writes_made sink = sink.turns.calls

-- the numbers of the writings that are to fail (own)
abbrev pub writes_to_fail : MemSink → List ℕ
writes_to_fail sink = sink.turns.fails

-- how many writings failed (own)
abbrev pub sink_failures : MemSink → ℕ
sink_failures sink = sink.write_faults

-- what is seen of it (own)
abbrev pub sink_seen_of : MemSink → SinkSeen
sink_seen_of sink = record { told = Some (written sink); write_faults = sink_failures sink }

-- how much of a piece a sink in memory takes at once: 64 bytes at most (own)
abbrev pub taken : List ℕ → ℕ
taken piece = min 64 (length piece)

-- what the names hold in files that do not fail (own)
abbrev pub calm_contents : CalmFiles → Contents
calm_contents files = held_in files.shelf.files

-- how many readings asked for a name that is not held (own)
abbrev pub calm_absents : CalmFiles → ℕ
calm_absents files = files.shelf.absents

-- how many readings found more bytes than they take (own)
abbrev pub calm_oversizes : CalmFiles → ℕ
calm_oversizes files = files.shelf.oversizes

-- what is seen of them (own)
abbrev pub calm_seen_of : CalmFiles → FilesSeen
calm_seen_of files = record {
  told = Some (calm_contents files);
  absents = calm_absents files;
  read_faults = 0;
  oversizes = calm_oversizes files;
  write_faults = 0;
}

-- what a sink that does not fail has (own)
abbrev pub calm_written : CalmSink → List ℕ
calm_written sink = sink.bytes

-- what is seen of it (own)
abbrev pub calm_sink_seen_of : CalmSink → SinkSeen
calm_sink_seen_of sink = record { told = Some (calm_written sink); write_faults = 0 }
