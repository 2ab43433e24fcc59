use Rattle.std.proofs.Common.{length, take, ◌-◌, ◌≤◌}
use Rattle.amo_disk.specs.Folder.{Grows}
use Rattle.amo_disk.proofs.roll.append_all.Given as goal

-- the first bytes were appended
abbrev pub invariant-loop-done : goal.invariant-loop-done
invariant-loop-done g l = record {
  within : l.done ≤ length l.bytes;
  grown : Grows (g.F.Folder.pieces l.initial.folder) (g.F.Folder.pieces l.folder) (take l.done l.bytes);
}

-- how many bytes are left
abbrev pub decreases-loop-done : goal.decreases-loop-done
decreases-loop-done g l = length l.bytes - l.done
