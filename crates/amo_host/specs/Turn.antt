-- What a pump does in a turn.
use Rattle.std.specs.Prelude.{◌≡◌, ℕ, ◌+◌, Bool, true, false, List, Option, Some, None, slice_get, slice_set, Contains}
use Rattle.std.specs.Borrow.{Bor}
use Rattle.amo_object.specs.declared.step.End.{End}
use Rattle.amo_packet.specs.declared.packet.OwnedPacket.{OwnedPacket}
use Rattle.amo_packet.specs.declared.packet.OwnedBody.{OwnedBody}
use Rattle.amo_packet.specs.declared.packet.OwnedBody.TheVariants as packet
use Rattle.amo_packet.specs.Grammar.{Spells, CarriesNoBytes}
use Rattle.amo_packet.specs.Fault.{first_fault}
use Rattle.amo_core.specs.declared.act.Act.{Act}
use Rattle.amo_core.specs.declared.act.Act.TheVariants as act
use Rattle.amo_book.specs.Charge.{ChargeState}
use Rattle.amo_book.specs.Drive.{Driven}
use Rattle.amo_book.specs.Pass.{PassState}
use Rattle.amo_book.specs.declared.drive.Done.{Done}
use Rattle.amo_host.specs.declared.agenda.Task.{Task}
use Rattle.amo_host.specs.declared.agenda.Task.TheVariants as task
use Rattle.amo_host.specs.declared.fault.PumpFault.{PumpFault}
use Rattle.amo_host.specs.declared.fault.PumpFault.TheVariants.{Busy, NoWord}
use Rattle.amo_host.specs.declared.turned.Kind.{Kind}
use Rattle.amo_host.specs.declared.turned.Kind.TheVariants as kind
use Rattle.amo_host.specs.declared.turned.Turned.{Turned}
use Rattle.amo_host.specs.declared.turned.Turned.TheVariants.{Idle, Unread, Stranger, Did}
use Rattle.amo_host.specs.Charges.{stream_mode_of}
use Rattle.amo_host.specs.Host.{Host, IsNext, IsFor, Noted, streams_of}
use Rattle.amo_host.specs.Kind.{IsKindOf, is_resend}
use Rattle.amo_host.specs.Station.{Station, moved_past}

-- One event, at the charge in this place: the book's call did this act, the charge holds the mode that it answered, and the host
-- has noted it. The pump s becomes t, and the pass v becomes w.
pub record Happened {W : Type 0} (s t : Station W) (v w : PassState) (old new : List ℕ) (place now : ℕ) (a : Act) (resent : Bool) (side : End) (stream : ℕ) (done : Done) : Type 0 where
  pub charge : ChargeState
  pub at : slice_get s.charges place ≡ Some charge
  pub of_side : side ≡ charge.side
  pub of_stream : stream ≡ charge.stream
  pub driven : Driven v w charge (record charge { mode = done.mode }) a old new done
  pub charges : t.charges ≡ slice_set s.charges place (record charge { mode = done.mode })
  pub noted : Noted s.host t.host place (stream_mode_of charge) resent done.mode now
  pub batches : t.batches ≡ s.batches

-- no event: pump, pass and buffer are as they were
abbrev pub Nothing : {W : Type 0} → Station W → Station W → PassState → PassState → List ℕ → List ℕ → Type 0
Nothing s t v w old new = (t ≡ s) × (w ≡ v) × (new ≡ old)

-- the pump did this act at the charge in this place
abbrev pub Performed : {W : Type 0} → Station W → Station W → PassState → PassState → List ℕ → List ℕ → ℕ → ℕ → Act → Turned → Type 0
Performed s t v w old new place now a (Did side stream k done) =
    IsKindOf a k × Happened s t v w old new place now a (is_resend a) side stream done
Performed s t v w old new place now a _ = ⊥

-- a crash or a recovery: no charge is of this stream, or that charge's side went down, or came up again
abbrev pub GoesDownOrUp : {W : Type 0} → Act → Kind → ℕ → ℕ → Station W → Station W → PassState → PassState → Turned → Type 0
GoesDownOrUp a k stream now s t v w Stranger = ¬ (Contains (streams_of s.host.modes) stream) × (t ≡ s) × (w ≡ v)
GoesDownOrUp a k stream now s t v w (Did side named j done) =
    (place : ℕ) × (slice_get (streams_of s.host.modes) place ≡ Some stream) × (named ≡ stream) × (j ≡ k) × (done.length ≡ None) × (t.words ≡ s.words)
    × ((old new : List ℕ) × Happened s t v w old new place now a false side named done)
GoesDownOrUp a k stream now s t v w _ = ⊥

-- all of the bytes spell a packet for one of the charges, whose message has a byte
abbrev pub BringsBytes : ℕ → Host → Option (Bor (List ℕ)) → Type 0
BringsBytes newest h None = ⊥
BringsBytes newest h (Some bytes) = (p : OwnedPacket) × (place : ℕ) × Spells newest bytes.now p × IsFor h place p × ¬ (CarriesNoBytes p.body)

-- nothing changed but the words
abbrev pub WordsChanged : {W : Type 0} → Station W → Station W → Type 0
WordsChanged s t = t ≡ record s { words = t.words }

-- no event: pass, buffer and charges are as they were
pub record NoEvent {W : Type 0} (s t : Station W) (v w : PassState) (old new : List ℕ) : Type 0 where
  pub pass : w ≡ v
  pub buffer : new ≡ old
  pub charges : t.charges ≡ s.charges
  pub batches : t.batches ≡ s.batches

module _ {W : Type 0} (to_come : W → ℕ → Option ℕ) where
  -- the word at the next place was drawn, and each later place moved up by one
  pub record Drew (words rest : W) (word : ℕ) : Type 0 where
    pub drawn : to_come words 0 ≡ Some word
    pub later : (k : ℕ) → to_come rest k ≡ to_come words (k + 1)

  -- the word of a delivery: the next one for a needuid, 0 for any other packet
  abbrev pub DrewFor : OwnedBody → W → W → ℕ → Type 0
  DrewFor (packet.NeedUid jd) words rest word = Drew words rest word
  DrewFor _ words rest word = (rest ≡ words) × (word ≡ 0)

  -- the next quiet charge is started by this act, under the next word
  abbrev pub Starts : ℕ → Station W → Station W → PassState → PassState → List ℕ → List ℕ → ℕ → Act → End → ℕ → Done → Type 0
  Starts now s t v w old new word a side stream done =
      (place : ℕ) × IsNext s.host now (task.Start place) × Drew s.words t.words word
      × Happened (moved_past s place) t v w old new place now a false side stream done

  -- a turn without input: there is nothing to do, the first due stream is resent, or the next quiet charge is started, for one
  -- message or for a batch
  abbrev pub TurnsAlone : ℕ → Station W → Station W → PassState → PassState → List ℕ → List ℕ → Turned → Type 0
  TurnsAlone now s t v w old new Idle = IsNext s.host now task.Idle × Nothing s t v w old new
  TurnsAlone now s t v w old new (Did side stream kind.Resend done) =
      (place : ℕ) × IsNext s.host now (task.Resend place) × (t.words ≡ s.words)
      × Happened s t v w old new place now act.Resend true side stream done
  TurnsAlone now s t v w old new (Did side stream (kind.Start word) done) =
      (s.batches ≡ false) × Starts now s t v w old new word (act.Start word) side stream done
  TurnsAlone now s t v w old new (Did side stream (kind.Batch word) done) =
      (s.batches ≡ true) × Starts now s t v w old new word (act.Batch word) side stream done
  TurnsAlone now s t v w old new _ = ⊥

  -- a turn with these bytes: they spell no packet, one that is for no charge, or one that is delivered
  abbrev pub TurnsWith : ℕ → List ℕ → ℕ → Station W → Station W → PassState → PassState → List ℕ → List ℕ → Turned → Type 0
  TurnsWith newest bytes now s t v w old new (Unread fault) = (first_fault newest bytes ≡ Some fault) × Nothing s t v w old new
  TurnsWith newest bytes now s t v w old new Stranger =
      (p : OwnedPacket) × Spells newest bytes p × ((place : ℕ) → ¬ (IsFor s.host place p)) × Nothing s t v w old new
  TurnsWith newest bytes now s t v w old new (Did side stream (kind.Deliver word) done) =
      (p : OwnedPacket) × (place : ℕ) × Spells newest bytes p × IsFor s.host place p × DrewFor p.body s.words t.words word
      × Happened s t v w old new place now (act.Deliver p word) false side stream done
  TurnsWith newest bytes now s t v w old new _ = ⊥

  -- a turn
  abbrev pub Turns : ℕ → Option (Bor (List ℕ)) → ℕ → Station W → Station W → PassState → PassState → List ℕ → List ℕ → Turned → Type 0
  Turns newest None now s t v w old new turned = TurnsAlone now s t v w old new turned
  Turns newest (Some bytes) now s t v w old new turned = TurnsWith newest bytes.now now s t v w old new turned

  -- the words had none left; nothing else changed
  pub record Lacks (s t : Station W) : Type 0 where
    pub none : to_come s.words 0 ≡ None
    pub later : (k : ℕ) → to_come t.words k ≡ to_come s.words (k + 1)
    pub rest : WordsChanged s t

  -- What a task that failed leaves: a resend changes nothing; the word of a start is gone, and the rotation past its place. Without a
  -- word the rotation stays.
  abbrev pub TaskFails : Task → Station W → Station W → PumpFault → Type 0
  TaskFails (task.Resend place) s t Busy = t ≡ s
  TaskFails (task.Start place) s t Busy = ((word : ℕ) × Drew s.words t.words word) × WordsChanged (moved_past s place) t
  TaskFails (task.Start place) s t NoWord = Lacks s t
  TaskFails _ s t _ = ⊥

  -- What a delivery that failed leaves: its word is gone, if it has one. There may be none for a needuid alone.
  abbrev pub DeliveryFails : OwnedBody → Station W → Station W → PumpFault → Type 0
  DeliveryFails body s t NoWord = ((jd : ℕ) × (body ≡ packet.NeedUid jd)) × Lacks s t
  DeliveryFails body s t _ = ((word : ℕ) × DrewFor body s.words t.words word) × WordsChanged s t

  -- a turn without input failed at what was next
  abbrev pub FailsAlone : ℕ → Station W → Station W → PumpFault → Type 0
  FailsAlone now s t fault = (next : Task) × IsNext s.host now next × TaskFails next s t fault

  -- a turn with these bytes failed at the packet that they spell, which is for one of the charges
  abbrev pub FailsWith : ℕ → List ℕ → Station W → Station W → PumpFault → Type 0
  FailsWith newest bytes s t fault = (p : OwnedPacket) × (place : ℕ) × Spells newest bytes p × IsFor s.host place p × DeliveryFails p.body s t fault

  -- a turn failed
  abbrev pub Fails : ℕ → Option (Bor (List ℕ)) → ℕ → Station W → Station W → PumpFault → Type 0
  Fails newest None now s t fault = FailsAlone now s t fault
  Fails newest (Some bytes) now s t fault = FailsWith newest bytes.now s t fault
