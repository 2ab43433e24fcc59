-- What a call of a pump did at a stream.
use Rattle.std.proofs.Common.{◌≡◌, ℕ, Bool, true, false, List, Option, Some, None, Result, Ok, Err, IfNone, IfOk, IfErr, OnErr, inl, inr, slice_get, sym, ap, ◌∙◌, subst}
use Rattle.std.proofs.lemmas.Option.{same_Some}
use Rattle.amo_object.specs.declared.step.End.{End}
use Rattle.amo_object.specs.declared.step.End.TheVariants.{Sender, Receiver}
use Rattle.amo_packet.specs.declared.packet.OwnedPacket.{OwnedPacket}
use Rattle.amo_packet.specs.declared.packet.OwnedBody.{OwnedBody}
use Rattle.amo_packet.specs.declared.packet.OwnedBody.TheVariants as packet
use Rattle.amo_core.specs.declared.act.Act.{Act}
use Rattle.amo_core.specs.declared.act.Act.TheVariants as act
use Rattle.amo_book.specs.declared.drive.Done as drive
use Rattle.amo_book.specs.Pass.{PassState}
use Rattle.amo_book.specs.Charge.{ChargeState}
use Rattle.amo_host.specs.AtStream.{Delivers, HasMode, ResendsAt, StartsAt}
use Rattle.amo_host.specs.Host.{Host}
use Rattle.amo_host.specs.Charges.{IsOfSide}
use Rattle.amo_host.specs.Station.{IsStation, Station}
use Rattle.amo_host.specs.Turn.{Drew, DrewFor, GoesDownOrUp, Happened, NoEvent, Nothing}
use Rattle.amo_host.specs.declared.fault.PumpFault.{PumpFault}
use Rattle.amo_host.specs.declared.fault.PumpFault.TheVariants as pump_fault
use Rattle.amo_host.specs.declared.turned.Kind.{Kind}
use Rattle.amo_host.specs.declared.turned.Kind.TheVariants as kind
use Rattle.amo_host.specs.declared.turned.Turned.{Turned}
use Rattle.amo_host.specs.declared.turned.Turned.TheVariants as turned
use Rattle.amo_host.proofs.ChargeLemmas.{each_at}
use Rattle.amo_host.proofs.Drives.{silently_driven}
use Rattle.amo_host.proofs.StationLemmas.{for_charge, mode_at_place}
use Rattle.amo_journal.specs.declared.version.Version.{Version}
use Rattle.amo_journal.specs.Journal.{HasAct}
use Rattle.amo_live.specs.declared.given_word.GivenWord.{GivenWord}
use Rattle.amo_live.specs.Host.{Drives, MayNotBegin, done_of, given, word_for}

abbrev to_come : GivenWord → ℕ → Option ℕ
to_come words = given words.word

module _ (first s t : Station GivenWord) (v w : PassState) (old new : List ℕ) (stream now : ℕ) (is : IsStation s) (own : s.host ≡ first.host) where
  -- the mode of the charge in a place, as the first of them had it
  known_mode : (place : ℕ) (c : ChargeState) → slice_get s.charges place ≡ Some c → c.stream ≡ stream → HasMode first.host stream c.mode
  known_mode place c at of =
      subst (λ (n : ℕ). HasMode first.host n c.mode) of (subst (λ (h : Host). HasMode h c.stream c.mode) own (place, mode_at_place s is place c at))

  -- its side is that of the host
  known_side : (place : ℕ) (c : ChargeState) → slice_get s.charges place ≡ Some c → c.side ≡ first.host.side
  known_side place c at = each_at (IsOfSide s.host.side) s.charges place c is.sides at ∙ ap (λ (h : Host). h.side) own

  -- one event, at the charge of this stream
  happened_at : (place : ℕ) (a : Act) (resent : Bool) (side : End) (named : ℕ) (done : drive.Done) → named ≡ stream → Happened s t v w old new place now a resent side named done → Drives first v w old new stream a (Some done)
  happened_at place a resent side named done at h = (h.charge, known_side place h.charge h.at, sym h.of_stream ∙ at, h.driven, known_mode place h.charge h.at (sym h.of_stream ∙ at))

  -- the words were one
  word_drawn : (rest : GivenWord) (word drawn : ℕ) → s.words.word ≡ Some word → Drew to_come s.words rest drawn → drawn ≡ word
  word_drawn rest word drawn gave drew = same_Some drawn word (sym drew.drawn ∙ gave)

  -- a start, for one message or for those that travel together
  pub start_one : (word : ℕ) (r : Result Turned PumpFault) → s.batches ≡ false → s.words.word ≡ Some word → IfOk r (StartsAt to_come stream now s t v w old new) → OnErr r (NoEvent s t v w old new)
      → IfOk (done_of r) (Drives first v w old new stream (act.Start word))
  start_one word (Ok turned.Idle) plain gave (place, at, not, nothing) none = nothing.1
  start_one word (Ok turned.Stranger) plain gave (absent, nothing) none = nothing.1
  start_one word (Ok (turned.Unread fault)) plain gave starts none = absurd starts
  start_one word (Ok (turned.Did side named (kind.Start drawn) done)) plain gave (alone, (place, at, may, here, drew, h)) none =
      happened_at place (act.Start word) false side named done here (subst (λ (k : ℕ). Happened s t v w old new place now (act.Start k) false side named done) (word_drawn t.words word drawn gave drew) h)
  start_one word (Ok (turned.Did side named (kind.Batch drawn) done)) plain gave (together, more) none = cc
  start_one word (Ok (turned.Did side named kind.Resend done)) plain gave starts none = absurd starts
  start_one word (Ok (turned.Did side named (kind.Deliver drawn) done)) plain gave starts none = absurd starts
  start_one word (Ok (turned.Did side named kind.Crash done)) plain gave starts none = absurd starts
  start_one word (Ok (turned.Did side named kind.Recover done)) plain gave starts none = absurd starts
  start_one word (Err pump_fault.Busy) plain gave starts none = tt
  start_one word (Err pump_fault.NoMemory) plain gave starts none = tt
  start_one word (Err pump_fault.NoWord) plain gave starts none = tt

  pub start_together : (word : ℕ) (r : Result Turned PumpFault) → s.batches ≡ true → s.words.word ≡ Some word → IfOk r (StartsAt to_come stream now s t v w old new) → OnErr r (NoEvent s t v w old new)
      → IfOk (done_of r) (Drives first v w old new stream (act.Batch word))
  start_together word (Ok turned.Idle) plain gave (place, at, not, nothing) none = nothing.1
  start_together word (Ok turned.Stranger) plain gave (absent, nothing) none = nothing.1
  start_together word (Ok (turned.Unread fault)) plain gave starts none = absurd starts
  start_together word (Ok (turned.Did side named (kind.Batch drawn) done)) plain gave (alone, (place, at, may, here, drew, h)) none =
      happened_at place (act.Batch word) false side named done here (subst (λ (k : ℕ). Happened s t v w old new place now (act.Batch k) false side named done) (word_drawn t.words word drawn gave drew) h)
  start_together word (Ok (turned.Did side named (kind.Start drawn) done)) plain gave (alone, more) none = cc
  start_together word (Ok (turned.Did side named kind.Resend done)) plain gave starts none = absurd starts
  start_together word (Ok (turned.Did side named (kind.Deliver drawn) done)) plain gave starts none = absurd starts
  start_together word (Ok (turned.Did side named kind.Crash done)) plain gave starts none = absurd starts
  start_together word (Ok (turned.Did side named kind.Recover done)) plain gave starts none = absurd starts
  start_together word (Err pump_fault.Busy) plain gave starts none = tt
  start_together word (Err pump_fault.NoMemory) plain gave starts none = tt
  start_together word (Err pump_fault.NoWord) plain gave starts none = tt

  -- a start that begins nothing could not
  pub begins_none : (r : Result Turned PumpFault) → IfOk r (StartsAt to_come stream now s t v w old new) → IfOk (done_of r) (λ done. IfNone done (MayNotBegin first.host stream))
  begins_none (Ok turned.Idle) (place, at, not, nothing) = subst (λ (h : Host). MayNotBegin h stream) own (inr (place, at, not))
  begins_none (Ok turned.Stranger) (absent, nothing) = subst (λ (h : Host). MayNotBegin h stream) own (inl absent)
  begins_none (Ok (turned.Unread fault)) starts = absurd starts
  begins_none (Ok (turned.Did side named k done)) starts = tt
  begins_none (Err pump_fault.Busy) starts = tt
  begins_none (Err pump_fault.NoMemory) starts = tt
  begins_none (Err pump_fault.NoWord) starts = tt

  -- the packet of the mode again
  pub resend_again : (r : Result Turned PumpFault) → IfOk r (ResendsAt stream now s t v w old new) → IfErr r (λ fault. Nothing s t v w old new × (fault ≡ pump_fault.Busy)) → IfOk (done_of r) (Drives first v w old new stream act.Resend)
  resend_again (Ok turned.Idle) resends busy = absurd resends
  resend_again (Ok turned.Stranger) (absent, nothing) busy = nothing.1
  resend_again (Ok (turned.Unread fault)) resends busy = absurd resends
  resend_again (Ok (turned.Did side named (kind.Start drawn) done)) resends busy = absurd resends
  resend_again (Ok (turned.Did side named (kind.Batch drawn) done)) resends busy = absurd resends
  resend_again (Ok (turned.Did side named kind.Resend done)) (place, at, here, words, h) busy = happened_at place act.Resend true side named done here h
  resend_again (Ok (turned.Did side named (kind.Deliver drawn) done)) resends busy = absurd resends
  resend_again (Ok (turned.Did side named kind.Crash done)) resends busy = absurd resends
  resend_again (Ok (turned.Did side named kind.Recover done)) resends busy = absurd resends
  resend_again (Err pump_fault.Busy) resends busy = tt
  resend_again (Err pump_fault.NoMemory) resends busy = tt
  resend_again (Err pump_fault.NoWord) resends busy = tt

  -- a packet is delivered with the word that was given for it
  word_of : (body : OwnedBody) (rest : GivenWord) (word drawn : ℕ) → s.words.word ≡ Some word → word ≡ word_for body word → DrewFor to_come body s.words rest drawn → drawn ≡ word
  word_of (packet.NeedUid jd) rest word drawn gave own drew = word_drawn rest word drawn gave drew
  word_of (packet.Accept jd id) rest word drawn gave own drew = drew.1 ∙ sym own
  word_of (packet.Send id m) rest word drawn gave own drew = drew.1 ∙ sym own
  word_of (packet.Ack id got) rest word drawn gave own drew = drew.1 ∙ sym own
  word_of (packet.Cleanup id) rest word drawn gave own drew = drew.1 ∙ sym own
  word_of (packet.Batch id b) rest word drawn gave own drew = drew.1 ∙ sym own

  pub deliver_one : (p : OwnedPacket) (word : ℕ) (r : Result Turned PumpFault) → p.stream ≡ stream → s.words.word ≡ Some word → word ≡ word_for p.body word → IfOk r (Delivers to_come p now s t v w old new) → OnErr r (NoEvent s t v w old new)
      → IfOk (done_of r) (Drives first v w old new stream (act.Deliver p word))
  deliver_one p word (Ok turned.Idle) of gave own delivers none = absurd delivers
  deliver_one p word (Ok turned.Stranger) of gave own (absent, nothing) none = nothing.1
  deliver_one p word (Ok (turned.Unread fault)) of gave own delivers none = absurd delivers
  deliver_one p word (Ok (turned.Did side named (kind.Start drawn) done)) of gave own delivers none = absurd delivers
  deliver_one p word (Ok (turned.Did side named (kind.Batch drawn) done)) of gave own delivers none = absurd delivers
  deliver_one p word (Ok (turned.Did side named kind.Resend done)) of gave own delivers none = absurd delivers
  deliver_one p word (Ok (turned.Did side named (kind.Deliver drawn) done)) of gave own (place, is_for, drew, h) none =
      happened_at place (act.Deliver p word) false side named done (h.of_stream ∙ (sym (for_charge s is place p h.charge is_for h.at) ∙ of))
      (subst (λ (k : ℕ). Happened s t v w old new place now (act.Deliver p k) false side named done) (word_of p.body t.words word drawn gave own drew) h)
  deliver_one p word (Ok (turned.Did side named kind.Crash done)) of gave own delivers none = absurd delivers
  deliver_one p word (Ok (turned.Did side named kind.Recover done)) of gave own delivers none = absurd delivers
  deliver_one p word (Err pump_fault.Busy) of gave own delivers none = tt
  deliver_one p word (Err pump_fault.NoMemory) of gave own delivers none = tt
  deliver_one p word (Err pump_fault.NoWord) of gave own delivers none = tt

  -- a crash and a recovery
  silently_at : (place : ℕ) (a : Act) (side : End) (named : ℕ) (done : drive.Done) (before after buffer : List ℕ) → named ≡ stream → done.length ≡ None → Happened s t v w before after place now a false side named done
      → Drives first v w buffer buffer stream a (Some done)
  silently_at place a side named done before after buffer at silent h = (
    h.charge,
    known_side place h.charge h.at,
    sym h.of_stream ∙ at,
    silently_driven v w h.charge (record h.charge { mode = done.mode }) a done buffer (silent, (before, after, h.driven)),
    known_mode place h.charge h.at (sym h.of_stream ∙ at),
  )

  pub goes_down_or_up : (a : Act) (k : Kind) (buffer : List ℕ) (r : Result Turned PumpFault) → IfOk r (GoesDownOrUp a k stream now s t v w) → IfErr r (λ fault. (t ≡ s) × (w ≡ v) × (fault ≡ pump_fault.Busy)) → IfOk (done_of r) (Drives first v w buffer buffer stream a)
  goes_down_or_up a k buffer (Ok turned.Idle) goes busy = absurd goes
  goes_down_or_up a k buffer (Ok turned.Stranger) (absent, same, still) busy = still
  goes_down_or_up a k buffer (Ok (turned.Unread fault)) goes busy = absurd goes
  goes_down_or_up a k buffer (Ok (turned.Did side named j done)) (place, at, here, kind_is, silent, words, (before, after, h)) busy = silently_at place a side named done before after buffer here silent h
  goes_down_or_up a k buffer (Err pump_fault.Busy) goes busy = tt
  goes_down_or_up a k buffer (Err pump_fault.NoMemory) goes busy = tt
  goes_down_or_up a k buffer (Err pump_fault.NoWord) goes busy = tt

-- an act for a stream is a packet's of that stream
pub packet_stream : (version : Version) (side : End) (stream : ℕ) (p : OwnedPacket) (word : ℕ) → HasAct version side stream (act.Deliver p word) → p.stream ≡ stream
packet_stream version Sender stream p word has = has.0.stream
packet_stream version Receiver stream p word has = has.0.stream
