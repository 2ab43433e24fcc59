-- An ack that ends a handshake.
use Rattle.std.specs.Prelude.{◌==◌, ◌&&◌, if◌then◌else◌, Option, Some, None}
use Rattle.std.proofs.Common.{◌≡◌, ℕ, Bool, true, false, [], ◌∷◌, List, drop, length, refl, sym, ap, ◌∙◌, subst}
use Rattle.std.proofs.lemmas.Bool.{eq-eqb, eqb-true}
use Rattle.amo_object.specs.declared.step.End.{End}
use Rattle.amo_object.specs.declared.step.End.TheVariants.{Sender, Receiver}
use Rattle.amo_packet.specs.declared.packet.OwnedPacket.{OwnedPacket}
use Rattle.amo_packet.specs.declared.packet.OwnedBody.{OwnedBody}
use Rattle.amo_packet.specs.declared.packet.OwnedBody.TheVariants as packet
use Rattle.amo_core.specs.declared.act.Act.TheVariants as act
use Rattle.amo_core.specs.declared.mode.Mode.{Mode}
use Rattle.amo_core.specs.declared.mode.Mode.TheVariants as mode
use Rattle.amo_core.specs.declared.payload.Payload.{Payload}
use Rattle.amo_core.specs.declared.receiver.ReceiverMode.{ReceiverMode}
use Rattle.amo_core.specs.declared.receiver.ReceiverMode.TheVariants as receiver_mode
use Rattle.amo_core.specs.declared.reply.Reply.TheVariants.{Done}
use Rattle.amo_core.specs.declared.sender.SenderMode.{SenderMode}
use Rattle.amo_core.specs.declared.sender.SenderMode.TheVariants as sender_mode
use Rattle.amo_core.specs.Automaton.{mode_of}
use Rattle.amo_core.specs.Summary.{summary_of}
use Rattle.amo_core.specs.Receiver as receiver
use Rattle.amo_core.specs.Sender as sender
use Rattle.amo_world.specs.declared.event.Event.{Event}
use Rattle.amo_world.specs.History.{after_if, stream_after}
use Rattle.amo_world.specs.Stream.{Stream, after, automaton_of}
use Rattle.amo_book.specs.Pass.{GrownBy, PassState, automaton_after, event}
use Rattle.amo_host.specs.AtStream.{HasMode}
use Rattle.amo_live.specs.Host.{HostState, Happens, IsWhole}
use Rattle.amo_live.specs.Service.{begins_to_send}
use Rattle.amo_live.specs.Shown.{BeginsToSend, EndsHandshake, told_at, told_behind}

-- only a sender is quiet
receiver_mode_is : (m : ReceiverMode) → receiver.kind m ≡ mode.Quiet → ⊥
receiver_mode_is receiver_mode.Idle is = cc
receiver_mode_is (receiver_mode.Accept jd id) is = cc
receiver_mode_is (receiver_mode.Rcvd id b) is = cc
receiver_mode_is (receiver_mode.Ack id) is = cc
receiver_mode_is receiver_mode.Down is = cc

quiet_side : (side : End) (s : Stream) → mode_of (automaton_of s side) ≡ mode.Quiet → side ≡ Sender
quiet_side Sender s is = refl
quiet_side Receiver s is = absurd (receiver_mode_is s.receiver.state.mode is)

-- a sender that sends does so under an identifier
sends : (m : SenderMode) → sender.kind m ≡ mode.Send → (id : ℕ) × ((load : Payload) × (m ≡ sender_mode.Send id load))
sends (sender_mode.Quiet got) is = absurd (cc)
sends (sender_mode.NeedId jd load) is = absurd (cc)
sends (sender_mode.Send id load) is = (id, (load, refl))
sends sender_mode.Down is = absurd (cc)

-- and is not quiet
not_quiet : (s : sender.SenderState) (under : ℕ) (load : Payload) → s.mode ≡ sender_mode.Send under load → sender.kind s.mode ≡ mode.Quiet → ⊥
not_quiet s under load sent quiet = apart (sym (ap sender.kind sent) ∙ quiet)
  where
    apart : mode.Send ≡ mode.Quiet → ⊥
    apart is = cc

-- It is quiet after a packet only if that is an ack under its identifier.
abbrev AckUnder : ℕ → OwnedBody → Type 0
AckUnder id body = (got : Bool) × (body ≡ packet.Ack id got)

module _ (s : sender.SenderState) (under : ℕ) (load : Payload) (sent : s.mode ≡ sender_mode.Send under load) where
  by_accept : (b : Bool) (id : ℕ) → sender.kind (if b then sender.quietly s else sender.emitting s (packet.Cleanup id)).state.mode ≡ mode.Quiet → ⊥
  by_accept true id quiet = not_quiet s under load sent quiet
  by_accept false id quiet = not_quiet s under load sent quiet

  by_ack : (b got : Bool) (id : ℕ) → (under == id) ≡ b
      → sender.kind (if b then sender.cleaning_up (record s { mode = sender_mode.Quiet got }) id got else sender.cleaning_up s id got).state.mode ≡ mode.Quiet → AckUnder under (packet.Ack id got)
  by_ack true got id same quiet = (got, ap (λ (n : ℕ). packet.Ack n got) (sym (eqb-true under id same)))
  by_ack false true id same quiet = absurd (not_quiet s under load sent quiet)
  by_ack false false id same quiet = absurd (not_quiet s under load sent quiet)

  quiet_after : (body : OwnedBody) → sender.kind (sender.deliver s body).state.mode ≡ mode.Quiet → AckUnder under body
  quiet_after (packet.Accept jd id) quiet =
      absurd (by_accept (under == id) id (subst (λ (m : SenderMode). sender.kind (sender.accept s m jd id).state.mode ≡ mode.Quiet) sent quiet))
  quiet_after (packet.Ack id got) quiet = by_ack (under == id) got id refl (subst (λ (m : SenderMode). sender.kind (sender.ack s m id got).state.mode ≡ mode.Quiet) sent quiet)
  quiet_after (packet.NeedUid jd) quiet = absurd (not_quiet s under load sent quiet)
  quiet_after (packet.Send id m) quiet = absurd (not_quiet s under load sent quiet)
  quiet_after (packet.Cleanup id) quiet = absurd (not_quiet s under load sent quiet)
  quiet_after (packet.Batch id b) quiet = absurd (not_quiet s under load sent quiet)

-- the mode of a stream's side after an event of its own
mode_after : (past : List Event) (e : Event) → mode_of (automaton_after e.side e.stream (e ∷ past)) ≡ mode_of (automaton_of (after (stream_after e.stream past) e.side e.act) e.side)
mode_after past e = ap (λ (b : Bool). mode_of (automaton_of (after_if b (stream_after e.stream past) e) e.side)) (eq-eqb e.stream e.stream refl)

-- A delivery that found the sender sending and left it quiet was that of an ack under its identifier.
ended_by : (past : List Event) (number stream : ℕ) (p : OwnedPacket) (word messages : ℕ) → mode_of (automaton_after Sender stream past) ≡ mode.Send
    → mode_of (automaton_after Sender stream (event number Sender stream (act.Deliver p word) Done ∷ past)) ≡ mode.Quiet
    → messages ≡ told_at (summary_of (automaton_after Sender stream past))
    → EndsHandshake (event number Sender stream (act.Deliver p word) Done ∷ past) (event number Sender stream (act.Deliver p word) Done) p.body messages
ended_by past number stream p word messages found quiet told =
    let e = event number Sender stream (act.Deliver p word) Done in
    let state = (stream_after stream past).sender.state in
    let sent = sends state.mode found in
    let under = quiet_after state sent.0 sent.1.0 sent.1.1 p.body (sym (mode_after past e) ∙ quiet) in
    record {
      past = past;
      stands = ([], refl);
      id = sent.0;
      got = under.0;
      says = under.1;
      load = sent.1.0;
      sent = sent.1.1;
      tells = told ∙ ap (λ (m : SenderMode). told_behind (length (sender.held_by m)) (length state.waiting)) sent.1.1;
    }

-- where all that was seen before and after an event is known to be the pass's own, nothing happened between
between : (v w : PassState) (e : Event) (grown : GrownBy v w e) → IsWhole v → IsWhole w → grown.earlier ≡ v.seen
between v w e grown first second =
    ap (λ (l : List Event). drop 1 l) (sym grown.seen ∙ (second.own ∙ (grown.mine_grew ∙ ap (λ (l : List Event). e ∷ l) (sym first.own))))

-- what happened at a side, at that side under another name
at_side : {L S : Type 0} (h g : HostState L S) (side : End) (stream : ℕ) (p : OwnedPacket) (word messages : ℕ) (known : Mode) → side ≡ Sender → Happens h g side stream (act.Deliver p word) known
    → HasMode h.pump.host stream mode.Send → known ≡ mode.Quiet → IsWhole h.pass → IsWhole g.pass → messages ≡ told_at (summary_of (automaton_after side stream h.pass.seen))
    → EndsHandshake g.pass.seen (event h.pass.number side stream (act.Deliver p word) Done) p.body messages
at_side h g side stream p word messages known sends happens has quiet before now told =
    let here : Happens h g Sender stream (act.Deliver p word) known = subst (λ (s : End). Happens h g s stream (act.Deliver p word) known) sends happens in
    let e = event h.pass.number Sender stream (act.Deliver p word) Done in
    let after : mode_of (automaton_after Sender stream (e ∷ here.grown.earlier)) ≡ mode.Quiet =
    subst (λ (seen : List Event). mode_of (automaton_after Sender stream seen) ≡ mode.Quiet) here.grown.seen (sym here.mode_is ∙ quiet) in
    let counts : messages ≡ told_at (summary_of (automaton_after Sender stream here.grown.earlier)) =
    subst (λ (seen : List Event). messages ≡ told_at (summary_of (automaton_after Sender stream seen))) (sym (between h.pass g.pass e here.grown before now))
    (subst (λ (s : End). messages ≡ told_at (summary_of (automaton_after s stream h.pass.seen))) sends told) in
    subst (λ (s : End). EndsHandshake g.pass.seen (event h.pass.number s stream (act.Deliver p word) Done) p.body messages) (sym sends)
    (subst (λ (seen : List Event). EndsHandshake seen e p.body messages) (sym here.grown.seen)
    (ended_by here.grown.earlier h.pass.number stream p word messages (here.found mode.Send refl has) after counts))

-- so a delivery that left quiet what had been sending ended a handshake
pub ends_handshake : {L S : Type 0} (h g : HostState L S) (stream : ℕ) (p : OwnedPacket) (word messages : ℕ) (known : Mode) → Happens h g h.side stream (act.Deliver p word) known → HasMode h.pump.host stream mode.Send → known ≡ mode.Quiet
    → IsWhole h.pass → IsWhole g.pass → messages ≡ told_at (summary_of (automaton_after h.side stream h.pass.seen))
    → EndsHandshake g.pass.seen (event h.pass.number h.side stream (act.Deliver p word) Done) p.body messages
ends_handshake h g stream p word messages known happens has quiet before now told =
    at_side h g h.side stream p word messages known (quiet_side h.side (stream_after stream g.pass.seen) (sym happens.mode_is ∙ quiet)) happens has quiet before now told

-- only a sender sends
receiver_sends : (m : ReceiverMode) → receiver.kind m ≡ mode.Send → ⊥
receiver_sends receiver_mode.Idle is = cc
receiver_sends (receiver_mode.Accept jd id) is = cc
receiver_sends (receiver_mode.Rcvd id b) is = cc
receiver_sends (receiver_mode.Ack id) is = cc
receiver_sends receiver_mode.Down is = cc

sending_side : (side : End) (s : Stream) → mode_of (automaton_of s side) ≡ mode.Send → side ≡ Sender
sending_side Sender s is = refl
sending_side Receiver s is = absurd (receiver_sends s.receiver.state.mode is)

-- what happened at a side, at that side under another name
begun_at : {L S : Type 0} (h g : HostState L S) (side : End) (stream : ℕ) (p : OwnedPacket) (word : ℕ) (known : Mode) → side ≡ Sender → Happens h g side stream (act.Deliver p word) known
    → HasMode h.pump.host stream mode.NeedId → known ≡ mode.Send → BeginsToSend g.pass.seen (event h.pass.number side stream (act.Deliver p word) Done)
begun_at h g side stream p word known is happens has sending =
    let here : Happens h g Sender stream (act.Deliver p word) known = subst (λ (s : End). Happens h g s stream (act.Deliver p word) known) is happens in
    let e = event h.pass.number Sender stream (act.Deliver p word) Done in
    let earlier = here.grown.earlier in
    let after : mode_of (automaton_after Sender stream (e ∷ earlier)) ≡ mode.Send =
    subst (λ (seen : List Event). mode_of (automaton_after Sender stream seen) ≡ mode.Send) here.grown.seen (sym here.mode_is ∙ sending) in
    subst (λ (s : End). BeginsToSend g.pass.seen (event h.pass.number s stream (act.Deliver p word) Done)) (sym is)
    (subst (λ (seen : List Event). BeginsToSend seen e) (sym here.grown.seen) (record { past = earlier; stands = ([], refl); asked = here.found mode.NeedId refl has; sends = after }))

-- so a delivery that left sending what had asked for an identifier began to send
pub sending_begins : {L S : Type 0} (h g : HostState L S) (stream : ℕ) (p : OwnedPacket) (word : ℕ) (known : Mode) → Happens h g h.side stream (act.Deliver p word) known → HasMode h.pump.host stream mode.NeedId → known ≡ mode.Send
    → BeginsToSend g.pass.seen (event h.pass.number h.side stream (act.Deliver p word) Done)
sending_begins h g stream p word known happens has sending =
    begun_at h g h.side stream p word known (sending_side h.side (stream_after stream g.pass.seen) (sym happens.mode_is ∙ sending)) happens has sending

-- it did where it is said so
pub said_to_send : (doubted : Bool) (before : Option Mode) (after : Mode) → doubted && begins_to_send before after ≡ true → (before ≡ Some mode.NeedId) × (after ≡ mode.Send)
said_to_send false before after said = absurd (cc)
said_to_send true None after said = absurd (cc)
said_to_send true (Some mode.Quiet) after said = absurd (cc)
said_to_send true (Some mode.Send) after said = absurd (cc)
said_to_send true (Some mode.Idle) after said = absurd (cc)
said_to_send true (Some mode.Accept) after said = absurd (cc)
said_to_send true (Some mode.Rcvd) after said = absurd (cc)
said_to_send true (Some mode.Ack) after said = absurd (cc)
said_to_send true (Some mode.Down) after said = absurd (cc)
said_to_send true (Some mode.NeedId) mode.Quiet said = absurd (cc)
said_to_send true (Some mode.NeedId) mode.NeedId said = absurd (cc)
said_to_send true (Some mode.NeedId) mode.Send said = (refl, refl)
said_to_send true (Some mode.NeedId) mode.Idle said = absurd (cc)
said_to_send true (Some mode.NeedId) mode.Accept said = absurd (cc)
said_to_send true (Some mode.NeedId) mode.Rcvd said = absurd (cc)
said_to_send true (Some mode.NeedId) mode.Ack said = absurd (cc)
said_to_send true (Some mode.NeedId) mode.Down said = absurd (cc)
