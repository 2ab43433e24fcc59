use Rattle.std.proofs.Common.{◌≡◌, length, map, take, vec_capacity}
use Rattle.amo_world.specs.Stream.{IsStream}
use Rattle.amo_book.specs.Book.{Each}
use Rattle.amo_host.specs.Charges.{stream_mode_of}
use Rattle.amo_host.specs.Host.{streams_of}
use Rattle.amo_host.proofs.charges.modes_of.Given as goal

-- the charges passed are noted, and there is room for all
abbrev pub invariant-loop-charge : goal.invariant-loop-charge
invariant-loop-charge l = record {
  modes : l.modes.items ≡ map stream_mode_of (take l.charge-index l.charges);
  room : vec_capacity l.modes ≡ length l.charges;
  streams : Each IsStream (streams_of l.modes.items);
}
