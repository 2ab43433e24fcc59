-- Events picked out of a history: those of a pass, and those at a side of a stream.
use Rattle.std.proofs.Common.{◌≡◌, ◌≢◌, ℕ, Bool, true, false, ◌&&◌, eqb, List, [], ◌∷◌, ◌++◌, refl, sym, ◌∙◌, ap}
use Rattle.std.proofs.lemmas.Bool.{eq-eqb, ne_eqb}
use Rattle.amo_object.specs.declared.step.End.{End}
use Rattle.amo_object.specs.declared.step.End.TheVariants.{Sender, Receiver}
use Rattle.amo_core.specs.declared.act.Act.{Act}
use Rattle.amo_core.specs.declared.automaton.Automaton.{Automaton}
use Rattle.amo_world.specs.declared.event.Event.{Event}
use Rattle.amo_core.specs.Automaton.{row, used_word}
use Rattle.amo_world.specs.Stream.{Stream, Side, initial, after, automaton_of, reply_of, emission_of, word_of, side_of, acts}
use Rattle.amo_world.specs.History.{stream_after, after_if, Extends, event_if, events_of, is_same_side, events_at, side_after}

-- an event of a pass is picked first
pub own : (past : List Event) (e : Event) → events_of e.pass (e ∷ past) ≡ e ∷ events_of e.pass past
own past e = ap (λ (b : Bool). event_if b e (events_of e.pass past)) (eq-eqb e.pass e.pass refl)

-- and one of another pass is left out
pub others : (past : List Event) (e : Event) (pass : ℕ) → pass ≢ e.pass → events_of pass (e ∷ past) ≡ events_of pass past
others past e pass apart = ap (λ (b : Bool). event_if b e (events_of pass past)) (ne_eqb pass e.pass apart)

-- one event more in front
event_if-append : (b : Bool) (e : Event) (xs ys : List Event) → event_if b e (xs ++ ys) ≡ event_if b e xs ++ ys
event_if-append true e xs ys = refl
event_if-append false e xs ys = refl

-- of two histories joined those of each are picked
pub joined : (pass : ℕ) (newer past : List Event) → events_of pass (newer ++ past) ≡ events_of pass newer ++ events_of pass past
joined pass [] past = refl
joined pass (e ∷ newer) past =
    ap (λ (events : List Event). event_if (eqb pass e.pass) e events) (joined pass newer past)
    ∙ event_if-append (eqb pass e.pass) e (events_of pass newer) (events_of pass past)

-- those of a history that goes on go on from those before
pub picked_later : (pass : ℕ) (later earlier : List Event) → Extends later earlier → Extends (events_of pass later) (events_of pass earlier)
picked_later pass later earlier (newer, is) = (events_of pass newer, ap (events_of pass) is ∙ joined pass newer earlier)

-- an act at a side changes that side by its row, and not the other
acted_side : (s : Stream) (there side : End) (a : Act) (e : Event) (past : List Event) (start : Side Automaton) → e.act ≡ a
    → side_of s side ≡ side_after start past
    → side_of (after s there a) side ≡ side_after start (event_if (is_same_side side there) e past)
acted_side s Sender Sender a e past start same before =
    ap (λ (x : Side Automaton). acts x a) before ∙ ap (λ (x : Act). acts (side_after start past) x) (sym same)
acted_side s Receiver Receiver a e past start same before =
    ap (λ (x : Side Automaton). acts x a) before ∙ ap (λ (x : Act). acts (side_after start past) x) (sym same)
acted_side s Sender Receiver a e past start same before = before
acted_side s Receiver Sender a e past start same before = before

-- and so does an event, in its stream
event_at : (here : Bool) (s : Stream) (side : End) (e : Event) (past : List Event) (start : Side Automaton)
    → side_of s side ≡ side_after start past
    → side_of (after_if here s e) side ≡ side_after start (event_if (here && is_same_side side e.side) e past)
event_at true s side e past start before = acted_side s e.side side e.act e past start refl before
event_at false s side e past start before = before

-- each side is what its own events leave of it
pub by_itself : (number : ℕ) (side : End) (events : List Event)
    → side_of (stream_after number events) side ≡ side_after (side_of (initial number) side) (events_at number side events)
by_itself number side [] = refl
by_itself number side (e ∷ past) =
    event_at (eqb number e.stream) (stream_after number past) side e (events_at number side past) (side_of (initial number) side)
    (by_itself number side past)

-- what an act replies, emits and uses up is its side's alone
pub same_reply : (s : Stream) (side : End) (a : Act) → reply_of s side a ≡ (row (automaton_of s side) a).reply
same_reply s Sender a = refl
same_reply s Receiver a = refl

pub same_emission : (s : Stream) (side : End) (a : Act) → emission_of s side a ≡ (row (automaton_of s side) a).emitted
same_emission s Sender a = refl
same_emission s Receiver a = refl

pub same_word : (s : Stream) (side : End) (a : Act) → word_of s side a ≡ used_word (automaton_of s side) a
same_word s Sender a = refl
same_word s Receiver a = refl
