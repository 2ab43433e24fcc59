-- Where the puts of a stream are, as a sender's own events tell it.
use Rattle.std.specs.Prelude.{◌≡◌, ℕ, ◌-◌, ◌<◌, ◌≤◌, Option, None, Some, List, [], ◌∷◌, length, take, drop, min, Bool}
use Rattle.std.specs.List.{Contains, range_with_len}
use Rattle.std.specs.Ordering.{nat_cmp}
use Rattle.std.specs.BTreeMap.{get}
use Rattle.amo_packet.specs.declared.packet.OwnedBody.{OwnedBody}
use Rattle.amo_packet.specs.declared.packet.OwnedBody.TheVariants as packet
use Rattle.amo_core.specs.declared.act.Act.{Act}
use Rattle.amo_core.specs.declared.act.Act.TheVariants as act
use Rattle.amo_core.specs.declared.reply.Reply.{Reply}
use Rattle.amo_core.specs.declared.mode.Mode.{Mode}
use Rattle.amo_core.specs.declared.mode.Mode.TheVariants as mode
use Rattle.amo_core.specs.declared.payload.Payload.{Payload}
use Rattle.amo_core.specs.declared.sender.SenderMode.{SenderMode}
use Rattle.amo_core.specs.declared.sender.SenderMode.TheVariants as sending
use Rattle.amo_outcomes.specs.declared.marks.Mark.{Mark}
use Rattle.amo_outcomes.specs.declared.marks.Run.{Run}
use Rattle.amo_outcomes.specs.declared.sender_places.SenderPlaces.{SenderPlaces}
use Rattle.amo_outcomes.specs.Puts.{Handshake, Puts, sent_under, called}
use Rattle.amo_outcomes.specs.Places.{most_of}
use Rattle.amo_outcomes.specs.Follower.{AreAsked}
use Rattle.amo_outcomes.specs.Heard.{Heard, all_sent, heard_act}
use Rattle.amo_outcomes.specs.Marks.{AreMarked, puts_in}

-- these are the puts of the newest handshake that came to an identifier, and all that were sent before are settled
abbrev pub AreNewest : List Handshake → List ℕ → Heard → Type 0
AreNewest [] puts h = puts ≡ []
AreNewest (s ∷ earlier) puts h = (s.puts ≡ puts) × ((put : ℕ) → Contains (all_sent earlier) put → Contains h.settled put)

-- these puts travel under an identifier, if it is known; if it is not, all that do were got
abbrev pub Travels : Option Run → List ℕ → Heard → Type 0
Travels (Some run) puts h = puts ≡ puts_in run
Travels None puts h = (put : ℕ) → Contains puts put → Contains h.got put

-- the marks of the puts, the first one that waits, the run that is asked for, the one that was sent last, and the one that travels under
-- each identifier: by a sender's mode, the puts and what was heard
pub record KeepsAt (marks : List Mark) (first : ℕ) (asked newest : Run) (travelling : ℕ → Option Run) (mode : SenderMode) (p : Puts)
    (h : Heard) : Type 0 where
  pub marked : AreMarked marks p.count (all_sent p.sent) h
  pub within : first ≤ p.count
  pub waits : p.waiting ≡ range_with_len first (p.count - first)
  pub asks : AreAsked mode (puts_in asked) p.carried
  pub is_newest : AreNewest p.sent (puts_in newest) h
  pub travels : (id : ℕ) → Travels (travelling id) (sent_under p.sent id) h

abbrev pub Keeps : SenderPlaces → SenderMode → Puts → Heard → Type 0
Keeps k mode p h = KeepsAt k.marks.items k.waiting k.asked k.sent (get nat_cmp k.travelling) mode p h

-- an identifier is asked for the first ones
abbrev pub Begins : Act → SenderPlaces → SenderPlaces → Type 0
Begins a k l =
    (got : Bool) (word many : ℕ) (load : Payload) (p : Puts) (h : Heard) → many ≡ min (most_of a) (length p.waiting)
    → Keeps k (sending.Quiet got) p h
    → Keeps l (sending.NeedId word load) (record p { waiting = drop many p.waiting; carried = take many p.waiting }) h

-- the identifier that an act delivers for what was asked
abbrev pub accepted_by : OwnedBody → Option ℕ
accepted_by (packet.Accept jd id) = Some id
accepted_by _ = None

abbrev pub accepted_of : Act → Option ℕ
accepted_of (act.Deliver p word) = accepted_by p.body
accepted_of _ = None

-- what was asked for is sent under this identifier
abbrev pub SendsUnder : ℕ → SenderPlaces → SenderPlaces → Type 0
SendsUnder id k l =
    (jd : ℕ) (asked load : Payload) (p : Puts) (h : Heard)
    → ((put : ℕ) → Contains p.carried put → ¬ (Contains (all_sent p.sent) put)) → Keeps k (sending.NeedId jd asked) p h
    → Keeps l (sending.Send id load) (record p { sent = record { id = id; puts = p.carried } ∷ p.sent })
    (record h { settled = all_sent p.sent })

abbrev pub Sends : Act → SenderPlaces → SenderPlaces → Type 0
Sends a k l = (id : ℕ) → accepted_of a ≡ Some id → SendsUnder id k l

-- what waits is forgotten
abbrev pub Forgets : SenderPlaces → SenderPlaces → Type 0
Forgets k l = (before : SenderMode) (p : Puts) (h : Heard) → Keeps k before p h → Keeps l sending.Down (record p { waiting = [] }) h

-- a put was taken, or an ack came
abbrev pub Hears : Act → Reply → SenderPlaces → SenderPlaces → Type 0
Hears a r k l =
    (at : SenderMode) (p : Puts) (h : Heard) → ((put : ℕ) → Contains (all_sent p.sent) put → put < p.count) → Keeps k at p h
    → Keeps l at (called a (Some r) p) (heard_act a p.sent h)

-- an act at a sender, which was in one mode and is in another
abbrev pub Acts : Mode → Mode → Act → Reply → SenderPlaces → SenderPlaces → Type 0
Acts mode.Quiet mode.NeedId a r k l = Begins a k l
Acts mode.NeedId mode.Send a r k l = Sends a k l
Acts _ mode.Down a r k l = Forgets k l
Acts mode.Down _ a r k l = l ≡ k
Acts _ _ a r k l = Hears a r k l
