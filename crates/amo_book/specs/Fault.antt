-- The numbers of the faults.
use Rattle.std.specs.Prelude.{ℕ, List}
use Rattle.amo_packet.specs.Codes.{no_memory_code}
use Rattle.amo_core.specs.Codes.{full_code, down_code, nothing_code}
use Rattle.amo_book.specs.declared.fault.OpenFault.{OpenFault}
use Rattle.amo_book.specs.declared.fault.OpenFault.TheVariants as open_fault
use Rattle.amo_book.specs.declared.fault.PutFault.{PutFault}
use Rattle.amo_book.specs.declared.fault.PutFault.TheVariants as put_fault
use Rattle.amo_book.specs.declared.fault.GetFault.{GetFault}
use Rattle.amo_book.specs.declared.fault.GetFault.TheVariants as get_fault
use Rattle.amo_book.specs.declared.fault.AckFault.{AckFault}
use Rattle.amo_book.specs.declared.fault.AckFault.TheVariants as ack_fault
use Rattle.amo_book.specs.declared.fault.DriveFault.{DriveFault}
use Rattle.amo_book.specs.declared.fault.DriveFault.TheVariants as drive_fault

-- another call is at work at the side
abbrev pub busy_code : ℕ
busy_code = 43

-- the book has no such side
abbrev pub no_stream_code : ℕ
no_stream_code = 44

-- the number of each fault of an opening
abbrev pub open_code : OpenFault → ℕ
open_code open_fault.NoMemory = no_memory_code
open_code open_fault.Limits = 31

-- the number of each fault of a put
abbrev pub put_code : PutFault → ℕ
put_code (put_fault.Full position m) = full_code
put_code (put_fault.Down position m) = down_code
put_code (put_fault.Busy m) = busy_code
put_code (put_fault.NoStream m) = no_stream_code

-- the message that comes back
abbrev pub put_message : PutFault → List ℕ
put_message (put_fault.Full position m) = m
put_message (put_fault.Down position m) = m
put_message (put_fault.Busy m) = m
put_message (put_fault.NoStream m) = m

-- the number of each fault of a get
abbrev pub get_code : GetFault → ℕ
get_code (get_fault.Down position) = down_code
get_code get_fault.Busy = busy_code
get_code get_fault.NoStream = no_stream_code
get_code (get_fault.Nothing position) = nothing_code

-- the number of each fault of a get_ack
abbrev pub ack_code : AckFault → ℕ
ack_code (ack_fault.Down position) = down_code
ack_code ack_fault.Busy = busy_code
ack_code ack_fault.NoStream = no_stream_code
ack_code (ack_fault.NotYet position) = 46

-- the number of each fault of a host's act
abbrev pub drive_code : DriveFault → ℕ
drive_code drive_fault.NoMemory = no_memory_code
drive_code drive_fault.Busy = busy_code
