-- An event of pass 0, where what it has seen has no other events: the tables answer it after the world's own history.
use Rattle.std.proofs.Common.{◌≡◌, ℕ, List, [], ◌∷◌, length, Option, Some, None, slice_get, refl, sym, ap, ◌∙◌, subst, eq-eqb}
use Rattle.std.specs.Prelude.{unwrap_or}
use Rattle.std.specs.Option.{option_map}
use Rattle.amo_object.specs.declared.step.End.{End}
use Rattle.amo_object.specs.declared.step.End.TheVariants.{Sender, Receiver}
use Rattle.amo_object.specs.End.{other}
use Rattle.amo_packet.specs.Grammar.{spelling}
use Rattle.amo_core.specs.declared.act.Act.{Act}
use Rattle.amo_core.specs.declared.act.Act.TheVariants as act
use Rattle.amo_core.specs.declared.reply.Reply.{Reply}
use Rattle.amo_core.specs.declared.reply.Reply.TheVariants.{Done}
use Rattle.amo_core.specs.Automaton.{Writes}
use Rattle.amo_world.specs.declared.emission.Emission.{Emission}
use Rattle.amo_world.specs.declared.event.Event.{Event}
use Rattle.amo_world.specs.Stream.{emission_of}
use Rattle.amo_world.specs.History.{stream_before, emissions, events_of, event_if, HasRightReply, DeliversEmitted, IsRight}
use Rattle.amo_world.proofs.Extensions.{earlier_too}
use Rattle.amo_replay.specs.Transcript.{event_at, event_of, delivery, event_text, line_text, replied}
use Rattle.amo_schedule.specs.declared.line.ScheduleLine.TheVariants.{Deliver}
use Rattle.amo_replay.specs.Sides.{IsOwn, IsActOf, Adds, AddsWriting}
use Rattle.amo_replay.proofs.Applying.{spelt_emission}

-- of a history with no other events, pass 0 made them all
own_is_all : (history : List Event) → IsOwn history → events_of 0 history ≡ history
own_is_all [] own = refl
own_is_all (e ∷ past) own =
    ap (λ b. event_if b e (events_of 0 past)) (eq-eqb 0 e.pass (sym own.0)) ∙ ap (λ (l : List Event). e ∷ l) (own_is_all past own.1)

rest_of : List Event → List Event
rest_of [] = []
rest_of (e ∷ past) = past

-- what was seen before has no other events either
pub own_before : (seen seen' : List Event) (e : Event) → Adds seen seen' e → IsOwn seen' → IsOwn seen
own_before seen seen' e adds own =
    earlier_too (λ past x. x.pass ≡ 0) adds.earlier seen adds.extends (subst IsOwn adds.seen own).1

-- and it is the world's history
earlier_is : (history seen seen' : List Event) (e : Event) → events_of 0 seen ≡ history → (adds : Adds seen seen' e) → IsOwn seen' → adds.earlier ≡ history
unfolding rest_of
earlier_is history seen seen' e agree adds own =
    ap rest_of (sym adds.seen ∙ sym (own_is_all seen' own) ∙ adds.own_grew) ∙ agree

pub agree_after : (history seen seen' : List Event) (e : Event) → events_of 0 seen ≡ history → Adds seen seen' e → events_of 0 seen' ≡ e ∷ history
agree_after history seen seen' e agree adds = adds.own_grew ∙ ap (λ (l : List Event). e ∷ l) agree

-- the reply is right after the history
pub right_after : (history seen seen' : List Event) (e : Event) → events_of 0 seen ≡ history → Adds seen seen' e → IsOwn seen' → HasRightReply history e
right_after history seen seen' e agree adds own =
    subst (λ (l : List Event). HasRightReply l e) (earlier_is history seen seen' e agree adds own) (subst IsRight adds.seen adds.right).0

pub replied_right : (history : List Event) (side : End) (stream : ℕ) (a : Act) (reply : Reply) → HasRightReply history (event_at side stream a reply)
    → event_at side stream a reply ≡ replied history (event_at side stream a Done)
replied_right history side stream a reply right = sym (ap (λ (o : Option Reply). event_at side stream a (unwrap_or o Done)) right)

-- and so is what was emitted
pub writes_after : (history seen seen' : List Event) (e : Event) (old new : List ℕ) (emitted : Option ℕ) → events_of 0 seen ≡ history
    → (writing : AddsWriting seen seen' e old new emitted) → IsOwn seen' → Writes (emission_of (stream_before history e) e.side e.act) old new emitted
writes_after history seen seen' e old new emitted agree (adds, writes) own =
    subst (λ (l : List Event). Writes (emission_of (stream_before l e) e.side e.act) old new emitted) (earlier_is history seen seen' e agree adds own) writes

-- the line of an event
pub line_is : (history : List Event) (e : Event) (text : List ℕ)
    → text ≡ event_text (length history) e.reply (length (emissions history)) (option_map spelling (emission_of (stream_before history e) e.side e.act))
    → text ≡ line_text history e
line_is history e text is =
    is ∙ ap (λ (b : Option (List ℕ)). event_text (length history) e.reply (length (emissions history)) b)
    (sym (spelt_emission e.side (emission_of (stream_before history e) e.side e.act)))

-- what is no delivery delivers nothing unsent
pub nothing_unsent : (past : List Event) (side : End) (stream : ℕ) (a : Act) (reply : Reply) → IsActOf side a → DeliversEmitted past (event_at side stream a reply)
nothing_unsent past side stream (act.Put m) reply is = tt
nothing_unsent past side stream act.Get reply is = tt
nothing_unsent past side stream act.Ack reply is = tt
nothing_unsent past side stream (act.Start word) reply is = tt
nothing_unsent past side stream (act.Batch word) reply is = tt
nothing_unsent past side stream act.Resend reply is = tt
nothing_unsent past Sender stream (act.Deliver packet word) reply is = absurd is
nothing_unsent past Receiver stream (act.Deliver packet word) reply is = absurd is
nothing_unsent past side stream act.Crash reply is = tt
nothing_unsent past side stream act.Recover reply is = tt

-- the event of a line that delivers
pub delivered : (history : List Event) (number word : ℕ) (x : Emission) → slice_get (emissions history) number ≡ Some x
    → event_of history (Deliver number word) ≡ Some (event_at (other x.side) x.packet.stream (act.Deliver x.packet word) Done)
delivered history number word x found = ap (option_map (delivery word)) found

pub not_none : (history : List Event) (number : ℕ) (x : Emission) → slice_get (emissions history) number ≡ Some x → slice_get (emissions history) number ≡ None → ⊥
not_none history number x found none = differ (sym none ∙ found)
  where
    differ : ◌≡◌ {A = Option Emission} None (Some x) → ⊥
    differ h = cc
