-- What the calls of clients answer.
use Rattle.std.specs.Prelude.{◌≡◌, ℕ, Bool, true, false, List, Result, Ok, Err, Option, None, Some, slice_get}
use Rattle.amo_object.specs.declared.step.End.{End}
use Rattle.amo_core.specs.declared.reply.Reply.{Reply}
use Rattle.amo_core.specs.declared.reply.Reply.TheVariants as reply
use Rattle.amo_book.specs.declared.fault.PutFault.{PutFault}
use Rattle.amo_book.specs.declared.fault.PutFault.TheVariants as put_fault
use Rattle.amo_book.specs.declared.fault.GetFault.{GetFault}
use Rattle.amo_book.specs.declared.fault.GetFault.TheVariants as get_fault
use Rattle.amo_book.specs.declared.fault.AckFault.{AckFault}
use Rattle.amo_book.specs.declared.fault.AckFault.TheVariants as ack_fault
use Rattle.amo_book.specs.Pass.{Answer}
use Rattle.amo_book.specs.Book.{BookState}

-- the reply and the position that a put answered
abbrev pub put_answer : Result ℕ PutFault → Answer
put_answer (Ok position) = Some (reply.Ok, position)
put_answer (Err (put_fault.Full position m)) = Some (reply.Full, position)
put_answer (Err (put_fault.Down position m)) = Some (reply.Down, position)
put_answer (Err (put_fault.Busy m)) = None
put_answer (Err (put_fault.NoStream m)) = None

-- the reply and the position that a get answered
abbrev pub get_answer : Result (List ℕ × ℕ) GetFault → Answer
get_answer (Ok (m, position)) = Some (reply.Got m, position)
get_answer (Err (get_fault.Nothing position)) = Some (reply.Nothing, position)
get_answer (Err (get_fault.Down position)) = Some (reply.Down, position)
get_answer (Err get_fault.Busy) = None
get_answer (Err get_fault.NoStream) = None

-- the reply and the position that a get_ack answered
abbrev pub ack_answer : Result (Bool × ℕ) AckFault → Answer
ack_answer (Ok (true, position)) = Some (reply.Yes, position)
ack_answer (Ok (false, position)) = Some (reply.No, position)
ack_answer (Err (ack_fault.NotYet position)) = Some (reply.NotYet, position)
ack_answer (Err (ack_fault.Down position)) = Some (reply.Down, position)
ack_answer (Err ack_fault.Busy) = None
ack_answer (Err ack_fault.NoStream) = None

-- the book was opened with this side
abbrev pub HasSide : BookState → End → ℕ → Type 0
HasSide book side stream = (place : ℕ) × (slice_get book.sides place ≡ Some (side, stream))

-- what a call found no stream for
abbrev pub IsPutNoStream : Result ℕ PutFault → Type 0
IsPutNoStream (Err (put_fault.NoStream m)) = Unit {0}
IsPutNoStream _ = ⊥

-- the replies that a put may have, with the message that comes back
abbrev pub IsPutReply : Reply → Option (List ℕ) → Type 0
IsPutReply reply.Ok None = Unit {0}
IsPutReply reply.Full (Some m) = Unit {0}
IsPutReply reply.Down (Some m) = Unit {0}
IsPutReply _ _ = ⊥

-- the replies that a get may have
abbrev pub IsGetReply : Reply → Type 0
IsGetReply (reply.Got m) = Unit {0}
IsGetReply reply.Nothing = Unit {0}
IsGetReply reply.Down = Unit {0}
IsGetReply _ = ⊥

-- the replies that a get_ack may have
abbrev pub IsAckReply : Reply → Type 0
IsAckReply reply.Yes = Unit {0}
IsAckReply reply.No = Unit {0}
IsAckReply reply.NotYet = Unit {0}
IsAckReply reply.Down = Unit {0}
IsAckReply _ = ⊥
