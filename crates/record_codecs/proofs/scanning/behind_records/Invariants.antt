use Rattle.record_codecs.specs.FrontRecords.{BeginWithRecords}
use Rattle.record_codecs.proofs.scanning.behind_records.Given as goal

abbrev pub invariant-loop : goal.invariant-loop
invariant-loop l = BeginWithRecords l.codec l.counter l.rest l.bytes
