-- The open lines are those of the events that tell of messages without an answer.
use Rattle.std.proofs.Common.{◌≡◌, ℕ, ◌-◌, Bool, true, false, eqb, if◌then◌else◌, List, [], ◌∷◌, ◌++◌, length, map, take, zero, suc, refl, sym, ap, ◌∙◌}
use Rattle.std.specs.List.{filter}
use Rattle.amo_object.specs.declared.step.End.{End}
use Rattle.amo_object.specs.declared.step.End.TheVariants.{Sender, Receiver}
use Rattle.amo_core.specs.declared.act.Act.{Act}
use Rattle.amo_core.specs.declared.act.Act.TheVariants as act
use Rattle.amo_core.specs.declared.reply.Reply.{Reply}
use Rattle.amo_core.specs.declared.reply.Reply.TheVariants as reply
use Rattle.amo_core.specs.declared.sender.SenderMode.{SenderMode}
use Rattle.amo_core.specs.declared.sender.SenderMode.TheVariants as sending
use Rattle.amo_core.specs.Sender as sender
use Rattle.amo_world.specs.declared.event.Event.{Event}
use Rattle.amo_world.specs.Stream.{Stream}
use Rattle.amo_world.specs.History.{Extends, stream_after}
use Rattle.amo_outcomes.specs.Places.{is_put}
use Rattle.amo_outcomes.specs.OpenEvents as outcomes
use Rattle.amo_journal.specs.declared.numbered.Numbered.{Numbered}
use Rattle.amo_live.specs.OpenLines.{AreAt, event_of, is_taken, later_puts, line_behind, open_lines, opened_at, opened_by, opened_if, takes}

-- both tell of a put alike that it was taken
same_put : (a : Act) (r : Reply) → takes a r ≡ is_put a r
same_put (act.Put m) reply.Ok = refl
same_put (act.Put m) reply.Full = refl
same_put (act.Put m) reply.Down = refl
same_put (act.Put m) (reply.Got b) = refl
same_put (act.Put m) reply.Nothing = refl
same_put (act.Put m) reply.Yes = refl
same_put (act.Put m) reply.No = refl
same_put (act.Put m) reply.NotYet = refl
same_put (act.Put m) reply.Done = refl
same_put act.Get r = refl
same_put act.Ack r = refl
same_put (act.Start word) r = refl
same_put (act.Batch word) r = refl
same_put act.Resend r = refl
same_put (act.Deliver p word) r = refl
same_put act.Crash r = refl
same_put act.Recover r = refl

-- the lines of some, by their events
puts_too : (lines : List Numbered) → map event_of (filter is_taken lines) ≡ filter outcomes.is_taken (map event_of lines)
puts_too [] = refl
puts_too (line ∷ lines) = one (is_taken line) (outcomes.is_taken line.event) (same_put line.event.act line.event.reply) (puts_too lines)
  where
    one : (b b' : Bool) → b ≡ b' → map event_of (filter is_taken lines) ≡ filter outcomes.is_taken (map event_of lines)
        → map event_of (if b then (line ∷ filter is_taken lines) else filter is_taken lines) ≡ (if b' then (line.event ∷ filter outcomes.is_taken (map event_of lines)) else filter outcomes.is_taken (map event_of lines))
    one true true same is = ap (λ l. line.event ∷ l) is
    one true false same is = absurd (cc)
    one false true same is = absurd (cc)
    one false false same is = is

take_map : {X Y : Type 0} (f : X → Y) (many : ℕ) (xs : List X) → map f (take many xs) ≡ take many (map f xs)
take_map f zero xs = refl
take_map f (suc many) [] = refl
take_map f (suc many) (x ∷ xs) = ap (λ l. f x ∷ l) (take_map f many xs)

map_long : {X Y : Type 0} (f : X → Y) (xs : List X) → length (map f xs) ≡ length xs
map_long f [] = refl
map_long f (x ∷ xs) = ap suc (map_long f xs)

later_too : (many : ℕ) (lines : List Numbered) (events : List Event) → map event_of lines ≡ events → map event_of (later_puts many lines) ≡ outcomes.later_puts many events
later_too many lines events is =
    let same : map event_of (filter is_taken lines) ≡ filter outcomes.is_taken events = puts_too lines ∙ ap (filter outcomes.is_taken) is in
    let long : length (filter is_taken lines) ≡ length (filter outcomes.is_taken events) = sym (map_long event_of (filter is_taken lines)) ∙ ap length same in
    take_map event_of (length (filter is_taken lines) - many) (filter is_taken lines)
    ∙ (ap (λ l. take (length (filter is_taken lines) - many) l) same ∙ ap (λ (n : ℕ). take (n - many) (filter outcomes.is_taken events)) long)

module _ (line : Numbered) (lines : List Numbered) (events : List Event) (is : map event_of lines ≡ events) where
  one_more : line.event ∷ map event_of lines ≡ line.event ∷ events
  one_more = ap (λ l. line.event ∷ l) is

  taken_more : (b b' : Bool) → b ≡ b' → map event_of (if b then (line ∷ lines) else lines) ≡ (if b' then (line.event ∷ events) else events)
  taken_more true true same = one_more
  taken_more true false same = absurd (cc)
  taken_more false true same = absurd (cc)
  taken_more false false same = is

  as_taken : map event_of (if is_taken line then (line ∷ lines) else lines) ≡ (if outcomes.is_taken line.event then (line.event ∷ events) else events)
  as_taken = taken_more (is_taken line) (outcomes.is_taken line.event) (same_put line.event.act line.event.reply)

  by_too : (m m' : SenderMode) → map event_of (opened_by m m' line lines) ≡ outcomes.opened_by m m' line.event events
  by_too (sending.Quiet got) (sending.Quiet got') = as_taken
  by_too (sending.Quiet got) (sending.NeedId word load) = one_more
  by_too (sending.Quiet got) (sending.Send id load) = as_taken
  by_too (sending.Quiet got) sending.Down = refl
  by_too (sending.NeedId word load) (sending.Quiet got) = as_taken
  by_too (sending.NeedId word load) (sending.NeedId word' load') = as_taken
  by_too (sending.NeedId word load) (sending.Send id sent) = one_more
  by_too (sending.NeedId word load) sending.Down = refl
  by_too (sending.Send id load) (sending.Quiet got) = later_too (length (sender.messages_in load)) lines events is
  by_too (sending.Send id load) (sending.NeedId word load') = as_taken
  by_too (sending.Send id load) (sending.Send id' load') = as_taken
  by_too (sending.Send id load) sending.Down = refl
  by_too sending.Down (sending.Quiet got) = as_taken
  by_too sending.Down (sending.NeedId word load) = as_taken
  by_too sending.Down (sending.Send id load) = as_taken
  by_too sending.Down sending.Down = refl

at_too : (side : End) (s : Stream) (line : Numbered) (lines : List Numbered) (events : List Event) → map event_of lines ≡ events → map event_of (opened_at side s line lines) ≡ outcomes.opened_at side s line.event events
at_too Sender s line lines events is = by_too line lines events is s.sender.state.mode (sender.row s.sender.state line.event.act).state.mode
at_too Receiver s line lines events is = is

if_too : (own : Bool) (s : Stream) (line : Numbered) (lines : List Numbered) (events : List Event) → map event_of lines ≡ events → map event_of (opened_if own s line lines) ≡ outcomes.opened_if own s line.event events
if_too true s line lines events is = at_too line.event.side s line lines events is
if_too false s line lines events is = is

pub open_lines_events : (first standing stream : ℕ) (history : List Event) → map event_of (open_lines first standing stream history) ≡ outcomes.open_events stream history
open_lines_events first standing stream [] = refl
open_lines_events first standing stream (e ∷ past) =
    if_too (eqb stream e.stream) (stream_after stream past) (line_behind first standing past e) (open_lines first standing stream past) (outcomes.open_events stream past) (open_lines_events first standing stream past)

-- ---- each line is that of an event in its place

module _ (first standing : ℕ) where
  -- so are fewer
  front_at : (history : List Event) (many : ℕ) (lines : List Numbered) → AreAt first standing history lines → AreAt first standing history (take many lines)
  front_at history zero lines are = tt
  front_at history (suc many) [] are = tt
  front_at history (suc many) (line ∷ lines) (past, before, is, are) = (past, before, is, front_at past many lines are)

  -- and behind more events
  behind_more : (history past : List Event) (lines : List Numbered) → Extends history past → AreAt first standing past lines → AreAt first standing history lines
  behind_more history past [] more are = tt
  behind_more history past (line ∷ lines) (newer, joined) (older, (between, before), is, are) =
      (older, (newer ++ between, joined ∙ (ap (λ l. newer ++ l) before ∙ sym (assoc newer between (line.event ∷ older)))), is, are)
    where
      assoc : (xs ys zs : List Event) → (xs ++ ys) ++ zs ≡ xs ++ (ys ++ zs)
      assoc [] ys zs = refl
      assoc (x ∷ xs) ys zs = ap (λ l. x ∷ l) (assoc xs ys zs)

  -- and so are the puts among them
  puts_at : (history : List Event) (lines : List Numbered) → AreAt first standing history lines → AreAt first standing history (filter is_taken lines)
  puts_at history [] are = tt
  puts_at history (line ∷ lines) (past, before, is, are) = one (is_taken line) (puts_at past lines are)
    where
      shift : (xs : List Event) → xs ++ line.event ∷ past ≡ (xs ++ line.event ∷ []) ++ past
      shift [] = refl
      shift (x ∷ xs) = ap (λ l. x ∷ l) (shift xs)

      one : (taken : Bool) → AreAt first standing past (filter is_taken lines) → AreAt first standing history (if taken then (line ∷ filter is_taken lines) else filter is_taken lines)
      one true puts = (past, before, is, puts)
      one false puts = behind_more history past (filter is_taken lines) (before.0 ++ line.event ∷ [], before.1 ∙ shift before.0) puts

  module _ (past : List Event) (e : Event) (lines : List Numbered) (are : AreAt first standing past lines) where
    line_here : AreAt first standing (e ∷ past) (line_behind first standing past e ∷ lines)
    line_here = (past, ([], refl), refl, are)

    lines_still : AreAt first standing (e ∷ past) lines
    lines_still = behind_more (e ∷ past) past lines (e ∷ [], refl) are

    either_at : (taken : Bool) → AreAt first standing (e ∷ past) (if taken then (line_behind first standing past e ∷ lines) else lines)
    either_at true = line_here
    either_at false = lines_still

    as_taken_at : AreAt first standing (e ∷ past) (if is_taken (line_behind first standing past e) then (line_behind first standing past e ∷ lines) else lines)
    as_taken_at = either_at (is_taken (line_behind first standing past e))

    by_at : (m m' : SenderMode) → AreAt first standing (e ∷ past) (opened_by m m' (line_behind first standing past e) lines)
    by_at (sending.Quiet got) (sending.Quiet got') = as_taken_at
    by_at (sending.Quiet got) (sending.NeedId word load) = line_here
    by_at (sending.Quiet got) (sending.Send id load) = as_taken_at
    by_at (sending.Quiet got) sending.Down = tt
    by_at (sending.NeedId word load) (sending.Quiet got) = as_taken_at
    by_at (sending.NeedId word load) (sending.NeedId word' load') = as_taken_at
    by_at (sending.NeedId word load) (sending.Send id sent) = line_here
    by_at (sending.NeedId word load) sending.Down = tt
    by_at (sending.Send id load) (sending.Quiet got) =
        front_at (e ∷ past) (length (filter is_taken lines) - length (sender.messages_in load)) (filter is_taken lines) (puts_at (e ∷ past) lines lines_still)
    by_at (sending.Send id load) (sending.NeedId word load') = as_taken_at
    by_at (sending.Send id load) (sending.Send id' load') = as_taken_at
    by_at (sending.Send id load) sending.Down = tt
    by_at sending.Down (sending.Quiet got) = as_taken_at
    by_at sending.Down (sending.NeedId word load) = as_taken_at
    by_at sending.Down (sending.Send id load) = as_taken_at
    by_at sending.Down sending.Down = tt

    side_at : (side : End) (s : Stream) → AreAt first standing (e ∷ past) (opened_at side s (line_behind first standing past e) lines)
    side_at Sender s = by_at s.sender.state.mode (sender.row s.sender.state e.act).state.mode
    side_at Receiver s = lines_still

    if_at : (own : Bool) (s : Stream) → AreAt first standing (e ∷ past) (opened_if own s (line_behind first standing past e) lines)
    if_at true s = side_at e.side s
    if_at false s = lines_still

  pub open_lines_at : (stream : ℕ) (history : List Event) → AreAt first standing history (open_lines first standing stream history)
  open_lines_at stream [] = tt
  open_lines_at stream (e ∷ past) = if_at past e (open_lines first standing stream past) (open_lines_at stream past) (eqb stream e.stream) (stream_after stream past)
