-- A pump and its charges.
use Rattle.std.proofs.Common.{◌≡◌, ℕ, zero, suc, ◌<◌, Bool, List, [], ◌∷◌, Option, length, get_or, set, slice_get, Some, refl, sym, ap, subst, ◌∙◌, arith}
use Rattle.std.proofs.lemmas.List.{map-set, length-map}
use Rattle.std.proofs.lemmas.Option.{same_Some, slice_get-map, slice_get_within}
use Rattle.std.specs.Option.{option_map}
use Rattle.amo_core.specs.declared.mode.Mode.{Mode}
use Rattle.amo_packet.specs.declared.packet.OwnedPacket.{OwnedPacket}
use Rattle.amo_packet.specs.declared.packet.OwnedBody.{OwnedBody}
use Rattle.amo_packet.specs.declared.packet.OwnedBody.TheVariants as packet
use Rattle.amo_packet.specs.Grammar.{CarriesNoBytes}
use Rattle.amo_book.specs.Book.{Each}
use Rattle.amo_book.specs.Charge.{ChargeState}
use Rattle.amo_host.specs.declared.agenda.StreamMode.{StreamMode}
use Rattle.amo_host.specs.Charges.{IsOfSide, stream_mode_of}
use Rattle.amo_host.specs.Host.{Host, IsHost, IsAt, IsFor, Noted, streams_of}
use Rattle.amo_host.specs.Station.{Station, IsStation}
use Rattle.amo_host.proofs.ChargeLemmas.{each_at, each_set}
use Rattle.amo_core.specs.declared.act.Act.{Act}
use Rattle.amo_core.specs.declared.act.Act.TheVariants as act
use Rattle.amo_book.specs.Drive.{Suits}
use Rattle.amo_book.specs.Pass.{PassState}
use Rattle.amo_host.specs.declared.fault.PumpFault.TheVariants.{NoMemory}
use Rattle.amo_host.specs.declared.turned.Kind.{Kind}
use Rattle.amo_host.specs.declared.turned.Turned.{Turned}
use Rattle.amo_host.specs.declared.turned.Turned.TheVariants.{Idle, Unread, Stranger, Did}
use Rattle.amo_host.specs.Kind.{IsKindOf, IsHostAct, IsDownOrUp}
use Rattle.amo_host.specs.Modes.{MayOpen}
use Rattle.amo_host.specs.declared.turned.Kind.TheVariants as kind
use Rattle.amo_host.specs.declared.fault.PumpFault.{PumpFault}
use Rattle.amo_packet.specs.Grammar.{Spells}
use Rattle.amo_host.specs.AtStream.{Delivers, FailsToDeliver}
use Rattle.amo_host.specs.Turn.{DeliveryFails, TurnsWith, FailsWith}

-- what was read in a place stands there
pub read_at : {X : Type 0} (xs : List X) (i : ℕ) (x : X) → i < length xs → x ≡ get_or xs i x → slice_get xs i ≡ Some x
read_at [] i x within read = absurd (omega arith)
read_at (y ∷ xs) zero x within read = ap Some (sym read)
read_at (y ∷ xs) (suc i) x within read = read_at xs i x (omega arith) read

module _ {W : Type 0} (s : Station W) (is : IsStation s) (place : ℕ) (c : ChargeState) (at : slice_get s.charges place ≡ Some c) where
  -- the charge in a place, as the host knows it
  pub mode_at_place : IsAt s.host place (stream_mode_of c)
  mode_at_place = ap (λ (ms : List StreamMode). slice_get ms place) (sym is.modes) ∙ slice_get-map stream_mode_of s.charges place ∙ ap (option_map stream_mode_of) at

  -- the pump after the charge answered a mode
  pub station_after : (g : Host) (d : ChargeState) (resent : Bool) (mode : Mode) (now : ℕ) (w : W) (b : Bool) → d ≡ record c { mode = mode } → IsHost g → Noted s.host g place (stream_mode_of c) resent mode now
      → IsStation (record { host = g; charges = set s.charges place d; words = w; batches = b })
  station_after g d resent mode now w b new host noted = record {
    host = host;
    modes = map-set stream_mode_of s.charges place d ∙ ap (λ (ms : List StreamMode). set ms place (stream_mode_of d)) is.modes ∙ ap (λ (x : ChargeState). set s.host.modes place (stream_mode_of x)) new ∙ sym noted.modes;
    sides = subst (λ side. Each (IsOfSide side) (set s.charges place d)) (sym noted.side)
        (each_set (IsOfSide s.host.side) s.charges place d is.sides (ap (λ (x : ChargeState). x.side) new ∙ each_at (IsOfSide s.host.side) s.charges place c is.sides at));
  }

module _ {W : Type 0} (s : Station W) (is : IsStation s) (place : ℕ) where
  -- a place of the host is one of a charge
  pub is_place : place < length s.host.modes → place < length s.charges
  is_place within = omega (arith, length-map s.charges stream_mode_of, ap (λ (ms : List StreamMode). length ms) is.modes)

  -- the stream in the place of a charge
  pub stream_at_place : (c : ChargeState) → slice_get s.charges place ≡ Some c → slice_get (streams_of s.host.modes) place ≡ Some c.stream
  stream_at_place c at = slice_get-map (λ (m : StreamMode). m.stream) s.host.modes place ∙ ap (option_map (λ (m : StreamMode). m.stream)) (mode_at_place s is place c at)

  -- a packet for a charge bears its stream
  pub for_charge : (p : OwnedPacket) (c : ChargeState) → IsFor s.host place p → slice_get s.charges place ≡ Some c → p.stream ≡ c.stream
  for_charge p c fits at = same_Some p.stream c.stream (sym fits.stream ∙ stream_at_place c at)

  -- and is for a place of the host
  pub for_place : (p : OwnedPacket) → IsFor s.host place p → place < length s.charges
  for_place p fits = is_place (omega (arith, length-map s.host.modes (λ (m : StreamMode). m.stream), slice_get_within (streams_of s.host.modes) place p.stream fits.stream))

-- a crash or a recovery opens no handshake
pub opens_none : (a : Act) (was : Mode) → IsDownOrUp a → ¬ (MayOpen a was)
opens_none (act.Put m) was never opens = never
opens_none act.Get was never opens = never
opens_none act.Ack was never opens = never
opens_none (act.Start word) was never opens = never
opens_none (act.Batch word) was never opens = never
opens_none act.Resend was never opens = never
opens_none (act.Deliver p word) was never opens = never
opens_none act.Crash was down opens = opens
opens_none act.Recover was down opens = opens

-- what a charge is asked is an act of a host's
pub suits_host : (c : ChargeState) (a : Act) → Suits c a → IsHostAct a
suits_host c (act.Put m) never = never
suits_host c act.Get never = never
suits_host c act.Ack never = never
suits_host c (act.Start word) suits = tt
suits_host c (act.Batch word) suits = tt
suits_host c act.Resend suits = tt
suits_host c (act.Deliver p word) suits = tt
suits_host c act.Crash suits = tt
suits_host c act.Recover suits = tt

-- which has one kind
pub kind_is : (a : Act) (k l : Kind) → IsKindOf a k → IsKindOf a l → k ≡ l
kind_is (act.Put m) k l never same = absurd never
kind_is act.Get k l never same = absurd never
kind_is act.Ack k l never same = absurd never
kind_is (act.Start word) k l is same = is ∙ sym same
kind_is (act.Batch word) k l is same = is ∙ sym same
kind_is act.Resend k l is same = is ∙ sym same
kind_is (act.Deliver p word) k l is same = is ∙ sym same
kind_is act.Crash k l is same = is ∙ sym same
kind_is act.Recover k l is same = is ∙ sym same

-- only a message with a byte takes memory, and a packet with one needs no word
pub short_of_memory : {W : Type 0} (to_come : W → ℕ → Option ℕ) (body : OwnedBody) (s : Station W) → ¬ (CarriesNoBytes body) → DeliveryFails to_come body s s NoMemory
short_of_memory to_come (packet.NeedUid jd) s carries = absurd (carries tt)
short_of_memory to_come (packet.Accept jd id) s carries = absurd (carries tt)
short_of_memory to_come (packet.Send id m) s carries = ((0, (refl, refl)), refl)
short_of_memory to_come (packet.Ack id b) s carries = absurd (carries tt)
short_of_memory to_come (packet.Cleanup id) s carries = absurd (carries tt)
short_of_memory to_come (packet.Batch id b) s carries = ((0, (refl, refl)), refl)

module _ {W : Type 0} (to_come : W → ℕ → Option ℕ) (newest : ℕ) (bytes : List ℕ) (p : OwnedPacket) (spelt : Spells newest bytes p) (s t : Station W) where
  -- a turn with bytes that spell a packet is its delivery
  pub turns_by_delivery : (v w : PassState) (old new : List ℕ) (now : ℕ) (turned : Turned) → Delivers to_come p now s t v w old new turned → TurnsWith to_come newest bytes now s t v w old new turned
  turns_by_delivery v w old new now Idle never = absurd never
  turns_by_delivery v w old new now (Unread fault) never = absurd never
  turns_by_delivery v w old new now Stranger none = (p, spelt, none.0, none.1)
  turns_by_delivery v w old new now (Did side stream (kind.Deliver word) done) did = (p, did.0, spelt, did.1, did.2, did.3)
  turns_by_delivery v w old new now (Did side stream (kind.Start word) done) never = absurd never
  turns_by_delivery v w old new now (Did side stream (kind.Batch word) done) never = absurd never
  turns_by_delivery v w old new now (Did side stream kind.Resend done) never = absurd never
  turns_by_delivery v w old new now (Did side stream kind.Crash done) never = absurd never
  turns_by_delivery v w old new now (Did side stream kind.Recover done) never = absurd never

  pub fails_by_delivery : (fault : PumpFault) → FailsToDeliver to_come p s t fault → FailsWith to_come newest bytes s t fault
  fails_by_delivery fault fails = (p, fails.0, spelt, fails.1, fails.2)
