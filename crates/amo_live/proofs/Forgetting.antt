-- What was before a crash of a sender is of no account for what it leaves open.
use Rattle.std.proofs.Common.{◌≡◌, ℕ, Bool, true, false, eqb, List, [], ◌∷◌, ◌++◌, refl, sym, ap, ◌∙◌}
use Rattle.std.proofs.lemmas.Bool.{eq-eqb}
use Rattle.amo_object.specs.declared.step.End.{End}
use Rattle.amo_object.specs.declared.step.End.TheVariants.{Sender, Receiver}
use Rattle.amo_core.specs.declared.act.Act.{Act}
use Rattle.amo_core.specs.declared.sender.SenderMode.{SenderMode}
use Rattle.amo_core.specs.declared.sender.SenderMode.TheVariants as sending
use Rattle.amo_core.specs.Sender as sender
use Rattle.amo_world.specs.declared.event.Event.{Event}
use Rattle.amo_world.specs.Stream.{Stream, after}
use Rattle.amo_world.specs.History.{after_if, stream_after}
use Rattle.amo_outcomes.specs.OpenEvents.{open_events, opened_at, opened_by, opened_if}
use Rattle.amo_outcomes.specs.StandsFor.{IsCrashOf}
use Rattle.amo_outcomes.proofs.StandsFor.{of_number}

-- a sender that is down
down_state : ℕ → sender.SenderState
down_state number = record { stream = number; mode = sending.Down; waiting = [] }

-- a crash leaves it so, whatever was before
down_after : (number : ℕ) (crash : Event) (older : List Event) → IsCrashOf number crash → (stream_after number (crash ∷ older)).sender.state ≡ down_state number
unfolding down_state
down_after number crash older (own, at_sender, crashed) =
    let s = stream_after number older in
    ap (λ (b : Bool). (after_if b s crash).sender.state) (eq-eqb number crash.stream (sym own))
    ∙ (ap (λ (side : End). (after s side crash.act).sender.state) at_sender
    ∙ (ap (λ (a : Act). (sender.row s.sender.state a).state) crashed
    ∙ ap (λ (n : ℕ). down_state n) (of_number number older)))

none_open : (m m' : SenderMode) (e : Event) (events : List Event) → m' ≡ sending.Down → opened_by m m' e events ≡ []
none_open m m' e events is = ap (λ x. opened_by m x e events) is ∙ down m
  where
    down : (m : SenderMode) → opened_by m sending.Down e events ≡ []
    down (sending.Quiet got) = refl
    down (sending.NeedId word load) = refl
    down (sending.Send id load) = refl
    down sending.Down = refl

-- and nothing open
crash_opens : (number : ℕ) (crash : Event) (older : List Event) → IsCrashOf number crash → open_events number (crash ∷ older) ≡ []
crash_opens number crash older (own, at_sender, crashed) =
    let s = stream_after number older in
    let events = open_events number older in
    ap (λ (b : Bool). opened_if b s crash events) (eq-eqb number crash.stream (sym own))
    ∙ (ap (λ (side : End). opened_at side s crash events) at_sender
    ∙ none_open s.sender.state.mode (sender.row s.sender.state crash.act).state.mode crash events (ap (λ (a : Act). (sender.row s.sender.state a).state.mode) crashed))

-- what goes on alike stays alike
module _ (number : ℕ) (xs ys : List Event) (same : (stream_after number xs).sender.state ≡ (stream_after number ys).sender.state) (alike : open_events number xs ≡ open_events number ys) where
  state_on : (here : Bool) (side : End) (s t : Stream) (e : Event) → s.sender.state ≡ t.sender.state → (after_if here s (record e { side = side })).sender.state ≡ (after_if here t (record e { side = side })).sender.state
  state_on true Sender s t e is = ap (λ (x : sender.SenderState). (sender.row x e.act).state) is
  state_on true Receiver s t e is = is
  state_on false side s t e is = is

  open_on : (here : Bool) (side : End) (s t : Stream) (e : Event) (some others : List Event) → s.sender.state ≡ t.sender.state → some ≡ others
      → opened_if here s (record e { side = side }) some ≡ opened_if here t (record e { side = side }) others
  open_on true Sender s t e some others is equal =
      ap (λ (x : sender.SenderState). opened_by x.mode (sender.row x e.act).state.mode (record e { side = Sender }) some) is
      ∙ ap (λ l. opened_by t.sender.state.mode (sender.row t.sender.state e.act).state.mode (record e { side = Sender }) l) equal
  open_on true Receiver s t e some others is equal = equal
  open_on false side s t e some others is equal = equal

  states : (newer : List Event) → (stream_after number (newer ++ xs)).sender.state ≡ (stream_after number (newer ++ ys)).sender.state
  states [] = same
  states (e ∷ newer) = state_on (eqb number e.stream) e.side (stream_after number (newer ++ xs)) (stream_after number (newer ++ ys)) e (states newer)

  opens : (newer : List Event) → open_events number (newer ++ xs) ≡ open_events number (newer ++ ys)
  opens [] = alike
  opens (e ∷ newer) =
      open_on (eqb number e.stream) e.side (stream_after number (newer ++ xs)) (stream_after number (newer ++ ys)) e (open_events number (newer ++ xs)) (open_events number (newer ++ ys)) (states newer) (opens newer)

pub forgotten_before : (number : ℕ) (newer older others : List Event) (crash : Event) → IsCrashOf number crash → open_events number (newer ++ crash ∷ older) ≡ open_events number (newer ++ crash ∷ others)
forgotten_before number newer older others crash is =
    opens number (crash ∷ older) (crash ∷ others) (down_after number crash older is ∙ sym (down_after number crash others is)) (crash_opens number crash older is ∙ sym (crash_opens number crash others is)) newer
