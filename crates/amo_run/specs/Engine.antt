-- What turns do to a pump, its pass and the record of its events.
use Rattle.std.specs.Prelude.{◌≡◌, ℕ, ◌<◌, ◌^◌, Bool, true, false, List, [], ◌∷◌, ◌++◌, map, slice_get, Contains, Option, Some, None, Result, Ok, Err}
use Rattle.atomic_table.specs.Seated.{TableId}
use Rattle.amo_object.specs.declared.step.End.{End}
use Rattle.amo_packet.specs.declared.packet.OwnedPacket.{OwnedPacket}
use Rattle.amo_packet.specs.Grammar.{Spells, CarriesNoBytes}
use Rattle.amo_window.specs.Timers.{due}
use Rattle.amo_core.specs.declared.act.Act.{Act}
use Rattle.amo_core.specs.declared.act.Act.TheVariants as act
use Rattle.amo_core.specs.declared.reply.Reply.TheVariants.{Done}
use Rattle.amo_world.specs.declared.event.Event.{Event}
use Rattle.amo_book.specs.Book.{BookState}
use Rattle.amo_book.specs.Charge.{ChargeState}
use Rattle.amo_book.specs.Pass.{PassState, event}
use Rattle.amo_host.specs.Host.{side_of}
use Rattle.amo_host.specs.Station.{Station, IsStation, BelongTogether}
use Rattle.amo_host.specs.declared.fault.PumpFault.{PumpFault}
use Rattle.amo_host.specs.declared.fault.PumpFault.TheVariants.{NoWord}
use Rattle.amo_host.specs.declared.turned.Kind.{Kind}
use Rattle.amo_host.specs.declared.turned.Kind.TheVariants as kind
use Rattle.amo_host.specs.declared.turned.Turned.{Turned}
use Rattle.amo_host.specs.declared.turned.Turned.TheVariants.{Did}
use Rattle.amo_run.specs.declared.engine.Turn.{Turn}
use Rattle.amo_run.specs.Fits.{AllFit}
use Rattle.amo_run.specs.Roster.{is_call}
use Rattle.amo_run.specs.Told.{Tells, listed}
use Rattle.amo_run.specs.Versions.{version_of}

-- what no act changes in a charge: its book, its place there, its side and its stream
abbrev pub tie : ChargeState → TableId × (ℕ × (End × ℕ))
tie c = (c.book, (c.place, (c.side, c.stream)))

abbrev pub ties : List ChargeState → List (TableId × (ℕ × (End × ℕ)))
ties charges = map tie charges

-- the event is no call, and it is one at the side of a charge with one of these ties
abbrev pub IsDriven : List (TableId × (ℕ × (End × ℕ))) → Event → Type 0
IsDriven tied e = (is_call e.act ≡ false) × ((k : ℕ) × (book : TableId) × (place : ℕ) × (slice_get tied k ≡ Some (book, (place, (e.side, e.stream)))))

-- a pump, whose charges are this book's as the pass is
abbrev pub Works : {W : Type 0} → BookState → PassState → Station W → Type 0
Works book v s = BelongTogether book v s × IsStation s

-- The pass's own events have grown by these, each of the side of a charge of the pump, which is one of the book, and with a line in the pump's version of
-- journals. Pass and pump still belong together, the charges are those that the pump had, and it starts as it did.
pub record Advances {W : Type 0} (book : BookState) (v w : PassState) (s t : Station W) (made : List (ℕ × Event)) : Type 0 where
  pub together : Works book w t
  pub charges : ties t.charges ≡ ties s.charges
  pub batches : t.batches ≡ s.batches
  pub tells : Tells v w made
  pub fit : AllFit (version_of s) book.sides (IsDriven (ties s.charges)) made

-- the same, and the record has grown by these events
pub record Recorded {W : Type 0} (book : BookState) (v w : PassState) (s t : Station W) (old new : List (ℕ × Event)) : Type 0 where
  pub more : List (ℕ × Event)
  pub added : new ≡ old ++ more
  pub advances : Advances book v w s t more

-- the act of an event of this kind, with the packet that was handed in
abbrev pub act_told : Kind → Option OwnedPacket → Option Act
act_told (kind.Start word) packet = Some (act.Start word)
act_told (kind.Batch word) packet = Some (act.Batch word)
act_told kind.Resend packet = Some act.Resend
act_told (kind.Deliver word) (Some packet) = Some (act.Deliver packet word)
act_told (kind.Deliver word) None = None
act_told kind.Crash packet = Some act.Crash
act_told kind.Recover packet = Some act.Recover

-- the event of this act
abbrev pub done_at : ℕ → End → ℕ → ℕ → Option Act → List (ℕ × Event)
done_at pass side stream at None = []
done_at pass side stream at (Some a) = (at, event pass side stream a Done) ∷ []

-- the event of a turn
abbrev pub told_of : ℕ → Option OwnedPacket → Turned → List (ℕ × Event)
told_of pass packet (Did side stream k done) = done_at pass side stream done.position (act_told k packet)
told_of pass packet _ = []

-- a word is a number of 64 bits
abbrev pub HasWord : Kind → Type 0
HasWord (kind.Start word) = word < 2 ^ 64
HasWord (kind.Batch word) = word < 2 ^ 64
HasWord (kind.Deliver word) = word < 2 ^ 64
HasWord _ = Unit {0}

-- so is a position
abbrev pub IsSmall : Turned → Type 0
IsSmall (Did side stream k done) = (done.position < 2 ^ 64) × HasWord k
IsSmall _ = Unit {0}

-- what a turn made
abbrev pub made_in : Result Turn PumpFault → List (ℕ × Event)
made_in (Ok turn) = listed turn.event
made_in (Err fault) = []

-- a stream was sent again
abbrev pub has_resent : Turned → Bool
has_resent (Did side stream kind.Resend done) = true
has_resent _ = false

-- a turn without a datagram after which the clock moves on: it was no resend, or it lacked a word
abbrev pub EndsMoment : Result Turn PumpFault → Type 0
EndsMoment (Ok turn) = turn.resent ≡ false
EndsMoment (Err fault) = fault ≡ NoWord

-- no stream is due at this moment
abbrev pub NoneIsDue : {W : Type 0} → Station W → ℕ → Type 0
NoneIsDue s now = due now s.host.timers ≡ []

-- all of the bytes spell a packet for one of these streams of a host, and its message has a byte
abbrev pub BringsBytesTo : ℕ → End → List ℕ → List ℕ → Type 0
BringsBytesTo newest side streams bytes = (p : OwnedPacket) × Spells newest bytes p × (side_of p.body ≡ side) × Contains streams p.stream × ¬ (CarriesNoBytes p.body)
