use Rattle.std.proofs.Common.{List}
use Rattle.std.specs.Io.KnownBytes.{Keeps}
use Rattle.std.specs.declared.io.Error.{Error}
use Rattle.amo_disk.specs.Disk.{Interrupts}
use Rattle.amo_disk.proofs.disk.write_patiently.Given as goal

-- what was interrupted wrote nothing, and each call before was interrupted
abbrev pub invariant-attempts : goal.invariant-attempts
invariant-attempts g l = record {
  kept : Keeps (g.D.Device.contents l.initial.writer) (g.D.Device.contents l.writer);
  interrupted : (errors : List Error) × Interrupts g.D.Device.answers l.bytes l.initial.writer errors l.writer;
}
