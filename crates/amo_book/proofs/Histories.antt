-- One event more: the events of a pass, and the automata of the sides.
use Rattle.std.proofs.Common.{◌≡◌, ◌≢◌, ℕ, ◌+◌, ◌%◌, ◌^◌, ◌<◌, Some, List, ◌∷◌, length, slice_get, refl, sym, ap, ◌∙◌, eq-eqb, ne_eqb, arith}
use Rattle.std.proofs.lemmas.Option.{slice_get-get_or, get_or_from_slice_get}
use mathlib.Core.Logic.{dite}
use native.Mathlib.Decide.{ℕ_discrete}
use Rattle.amo_object.specs.declared.step.End.{End}
use Rattle.amo_object.specs.declared.step.End.TheVariants.{Sender, Receiver}
use Rattle.amo_core.specs.declared.act.Act.{Act}
use Rattle.amo_core.specs.Automaton.{row}
use Rattle.amo_world.specs.declared.event.Event.{Event}
use Rattle.amo_world.specs.Stream.{Stream, after, automaton_of, reply_of, emission_of}
use Rattle.amo_world.specs.History.{stream_after, after_if, events_of, event_if}
use Rattle.amo_book.specs.Pass.{automaton_after}
use Rattle.amo_book.specs.Book.{Apart}
use Rattle.amo_book.specs.Rule.{side_at, state_at}

pub events_of-own : (p : ℕ) (past : List Event) (e : Event) → e.pass ≡ p → events_of p (e ∷ past) ≡ e ∷ events_of p past
events_of-own p past e is = ap (λ b. event_if b e (events_of p past)) (eq-eqb p e.pass (sym is))

pub events_of-other : (p : ℕ) (past : List Event) (e : Event) → e.pass ≢ p → events_of p (e ∷ past) ≡ events_of p past
events_of-other p past e apart = ap (λ b. event_if b e (events_of p past)) (ne_eqb p e.pass (λ z. apart (sym z)))

-- the count is the length, modulo 2^64, after one more too
pub next_count : (a : ℕ) (e : Event) (l : List Event) → a ≡ length l % 2 ^ 64 → (a + 1) % 2 ^ 64 ≡ length (e ∷ l) % 2 ^ 64
next_count a e l h = omega arith

pub reply-row : (s : Stream) (side : End) (act : Act) → (row (automaton_of s side) act).reply ≡ reply_of s side act
reply-row s Sender act = refl
reply-row s Receiver act = refl

pub emission-row : (s : Stream) (side : End) (act : Act) → (row (automaton_of s side) act).emitted ≡ emission_of s side act
emission-row s Sender act = refl
emission-row s Receiver act = refl

row-after : (s : Stream) (side : End) (act : Act) → automaton_of (after s side act) side ≡ (row (automaton_of s side) act).state
row-after s Sender act = refl
row-after s Receiver act = refl

other-after : (s : Stream) (side at : End) (act : Act) → at ≢ side → automaton_of (after s at act) side ≡ automaton_of s side
other-after s Sender Sender act apart = absurd (apart refl)
other-after s Sender Receiver act apart = refl
other-after s Receiver Sender act apart = refl
other-after s Receiver Receiver act apart = absurd (apart refl)

-- the event's own side is as its row leaves it
pub automaton-here : (past : List Event) (e : Event) → automaton_after e.side e.stream (e ∷ past) ≡ (row (automaton_after e.side e.stream past) e.act).state
automaton-here past e = ap (λ b. automaton_of (after_if b (stream_after e.stream past) e) e.side) (eq-eqb e.stream e.stream refl)
    ∙ row-after (stream_after e.stream past) e.side e.act

-- each other side stays
pub automaton-elsewhere : (side : End) (stream : ℕ) (past : List Event) (e : Event) → ((e.side ≡ side) → (e.stream ≡ stream) → ⊥)
    → automaton_after side stream (e ∷ past) ≡ automaton_after side stream past
automaton-elsewhere side stream past e apart = dite (ℕ_discrete stream e.stream)
    (λ is. ap (λ b. automaton_of (after_if b (stream_after stream past) e) side) (eq-eqb stream e.stream is)
    ∙ other-after (stream_after stream past) side e.side e.act (λ same. apart same (sym is)))
    (λ differs. ap (λ b. automaton_of (after_if b (stream_after stream past) e) side) (ne_eqb stream e.stream differs))

-- the side at a place
pub state_at-is : (sides : List (End × ℕ)) (k : ℕ) (side : End) (stream : ℕ) (log : List Event) → slice_get sides k ≡ Some (side, stream)
    → state_at sides k log ≡ automaton_after side stream log
state_at-is sides k side stream log is = ap (λ (t : End × ℕ). automaton_after t.0 t.1 log) (get_or_from_slice_get sides k (side, stream) (Sender, 0) is)

pub moved : (sides : List (End × ℕ)) (k : ℕ) (e : Event) → slice_get sides k ≡ Some (e.side, e.stream) → (log : List Event)
    → (row (state_at sides k log) e.act).state ≡ state_at sides k (e ∷ log)
moved sides k e is log = ap (λ x. (row x e.act).state) (state_at-is sides k e.side e.stream log is)
    ∙ (sym (automaton-here log e) ∙ sym (state_at-is sides k e.side e.stream (e ∷ log) is))

pair_of : (t : End × ℕ) (a : End) (b : ℕ) → a ≡ t.0 → b ≡ t.1 → t ≡ (a, b)
pair_of t a b p q = λ i. (sym p i, sym q i)

pub stayed : (sides : List (End × ℕ)) (k : ℕ) (e : Event) → Apart sides → slice_get sides k ≡ Some (e.side, e.stream) → (log : List Event) (j : ℕ)
    → j < length sides → j ≢ k → state_at sides j (e ∷ log) ≡ state_at sides j log
stayed sides k e apart is log j lt differs =
    let there : slice_get sides j ≡ Some (side_at sides j) = slice_get-get_or sides j (Sender, 0) lt in
    automaton-elsewhere (side_at sides j).0 (side_at sides j).1 log e
    (λ same streams. differs (apart j k (e.side, e.stream) (there ∙ ap Some (pair_of (side_at sides j) e.side e.stream same streams)) is))
