-- The lines of messages without an answer, after one event more.
use Rattle.std.proofs.Common.{◌≡◌, ℕ, zero, suc, ◌+◌, ◌-◌, ◌<◌, ◌≤◌, Bool, true, false, eqb, if◌then◌else◌, Some, List, [], ◌∷◌, ◌++◌, length, map, reverse, take, drop, get_or, slice_set, refl, sym, ap, subst, ◌∙◌, append-nil, inl, inr, arith}
use Rattle.std.specs.List.{filter, flat_map}
use Rattle.std.proofs.lemmas.Bool.{eq-eqb, eqb-true}
use Rattle.std.proofs.lemmas.Bool.Decides.{leb_tells}
use Rattle.std.proofs.lemmas.List.{drop-append-le, get_or-set_other, get_or-set_same, length-set, map-append, reverse-append, set-get_or, take_more}
use Rattle.std.proofs.lemmas.Grind.{flat_map-append}
use Rattle.std.proofs.lemmas.List.Elements.{filter-append}
use Rattle.amo_object.specs.declared.step.End.{End}
use Rattle.amo_object.specs.declared.step.End.TheVariants.{Sender, Receiver}
use Rattle.amo_core.specs.declared.payload.Payload.{Payload}
use Rattle.amo_core.specs.declared.reply.Reply.TheVariants as reply
use Rattle.amo_core.specs.declared.sender.SenderMode.{SenderMode}
use Rattle.amo_core.specs.declared.sender.SenderMode.TheVariants as sending
use Rattle.amo_core.specs.Row.{silent}
use Rattle.amo_core.specs.Sender as sender
use Rattle.amo_world.specs.declared.event.Event.{Event}
use Rattle.amo_world.specs.Stream.{Stream}
use Rattle.amo_world.specs.History.{after_if, stream_after}
use Rattle.amo_journal.specs.declared.numbered.Numbered.{Numbered}
use Rattle.amo_journal.specs.Journal.{line_text}
use Rattle.amo_live.specs.declared.stream_lines.Kind.TheVariants as kind
use Rattle.amo_live.specs.declared.unanswered.Step.{Step}
use Rattle.amo_live.specs.declared.unanswered.Step.TheVariants.{Keep, End as Ends, Forget, Nothing}
use Rattle.amo_live.specs.OpenLines.{KeepsOpen, in_order, is_taken, kept_as, kind_of, later_puts, line_behind, open_lines, open_text, opened_at, opened_by, opened_if, senders_of}
use Rattle.amo_live.specs.Unanswered.{Kept, KeptLines, is_put, keeping, left_by, step_of, stepped, tells_put, text_of, text_on}

-- ---- lists backwards

module _ {X : Type 0} where
  first_last : (x : X) (xs : List X) → reverse (x ∷ xs) ≡ reverse xs ++ x ∷ []
  first_last x xs = reverse-append (x ∷ []) xs

  drop_all : (many : ℕ) (xs : List X) → length xs ≤ many → drop many xs ≡ []
  drop_all zero [] few = refl
  drop_all zero (x ∷ xs) few = absurd (omega (arith, few))
  drop_all (suc many) [] few = refl
  drop_all (suc many) (x ∷ xs) few = drop_all many xs (omega (arith, few))

  reverse_length : (xs : List X) → length (reverse xs) ≡ length xs
  reverse_length [] = refl
  reverse_length (x ∷ xs) = ap length (first_last x xs) ∙ (length_more (reverse xs) x ∙ ap suc (reverse_length xs))
    where
      length_more : (ys : List X) (y : X) → length (ys ++ y ∷ []) ≡ suc (length ys)
      length_more [] y = refl
      length_more (z ∷ ys) y = ap suc (length_more ys y)

  -- without so many at the end, or without so many in front of the list backwards
  drop_reverse : (many : ℕ) (xs : List X) → drop many (reverse xs) ≡ reverse (take (length xs - many) xs)
  drop_reverse many [] =
      let none : 0 - many ≡ 0 = omega arith in
      drop_all many [] (omega arith) ∙ ap (λ (n : ℕ). reverse (take n [])) (sym none)
  drop_reverse many (x ∷ xs) = elim (leb_tells many (length xs)) [
    | inl few ↦
        let less = few.1 in
        let count = reverse_length xs in
        let more : suc (length xs) - many ≡ suc (length xs - many) = omega (arith, less) in
        ap (drop many) (first_last x xs)
        ∙ (drop-append-le many (reverse xs) (x ∷ []) (omega (arith, less, count))
        ∙ (ap (λ l. l ++ x ∷ []) (drop_reverse many xs)
        ∙ (sym (first_last x (take (length xs - many) xs))
        ∙ ap (λ (n : ℕ). reverse (take n (x ∷ xs))) (sym more))))
    | inr much ↦
        let beyond = much.1 in
        let count = reverse_length (x ∷ xs) in
        let none : suc (length xs) - many ≡ 0 = omega (arith, beyond) in
        drop_all many (reverse (x ∷ xs)) (omega (arith, beyond, count)) ∙ ap (λ (n : ℕ). reverse (take n (x ∷ xs))) (sym none)
  ]

  one_filtered : (b : Bool) (x : X) (xs : List X) → reverse xs ++ (if b then (x ∷ []) else []) ≡ reverse (if b then (x ∷ xs) else xs)
  one_filtered true x xs = sym (first_last x xs)
  one_filtered false x xs = append-nil (reverse xs)

  filter_reverse : (p : X → Bool) (xs : List X) → filter p (reverse xs) ≡ reverse (filter p xs)
  filter_reverse p [] = refl
  filter_reverse p (x ∷ xs) =
      ap (filter p) (first_last x xs)
      ∙ (filter-append p (reverse xs) (x ∷ [])
      ∙ (ap (λ l. l ++ (if p x then (x ∷ []) else [])) (filter_reverse p xs) ∙ one_filtered (p x) x (filter p xs)))

module _ {X Y : Type 0} (f : X → Y) where
  drop_map : (many : ℕ) (xs : List X) → drop many (map f xs) ≡ map f (drop many xs)
  drop_map zero xs = refl
  drop_map (suc many) [] = refl
  drop_map (suc many) (x ∷ xs) = drop_map many xs

-- ---- lines as they are kept

puts_of : (taken : Bool) → tells_put (kind_of taken) ≡ taken
puts_of true = refl
puts_of false = refl

puts_kept : (lines : List Numbered) → filter is_put (map kept_as lines) ≡ map kept_as (filter is_taken lines)
puts_kept [] = refl
puts_kept (line ∷ lines) = one (is_taken line) (puts_kept lines)
  where
    one : (taken : Bool) → filter is_put (map kept_as lines) ≡ map kept_as (filter is_taken lines)
        → (if tells_put (kind_of taken) then ((record { kind = kind_of (is_taken line); text = line_text line }) ∷ filter is_put (map kept_as lines)) else filter is_put (map kept_as lines))
        ≡ map kept_as (if taken then (line ∷ filter is_taken lines) else filter is_taken lines)
    one true is = ap (λ l. kept_as line ∷ l) is
    one false is = is

-- one line more
pub one_in_order : (line : Numbered) (lines : List Numbered) → in_order (line ∷ lines) ≡ in_order lines ++ kept_as line ∷ []
one_in_order line lines = ap (map kept_as) (first_last line lines) ∙ map-append kept_as (reverse lines) (line ∷ [])

-- those of the later puts
pub later_in_order : (many : ℕ) (lines : List Numbered) → in_order (later_puts many lines) ≡ left_by many (in_order lines)
later_in_order many lines =
    let puts = filter is_taken lines in
    ap (map kept_as) (sym (drop_reverse many puts))
    ∙ (sym (drop_map kept_as many (reverse puts))
    ∙ (ap (λ l. drop many (map kept_as l)) (sym (filter_reverse is_taken lines))
    ∙ ap (drop many) (sym (puts_kept (reverse lines)))))

-- ---- what an event leaves open

not_taken : (taken : Bool) (line : Numbered) (lines : List Numbered) → taken ≡ false → (if taken then (line ∷ lines) else lines) ≡ lines
not_taken taken line lines is = ap (λ (b : Bool). if b then (line ∷ lines) else lines) is

taken_too : (taken : Bool) (line : Numbered) (lines : List Numbered) → taken ≡ true → (if taken then (line ∷ lines) else lines) ≡ line ∷ lines
taken_too taken line lines is = ap (λ (b : Bool). if b then (line ∷ lines) else lines) is

-- where a sender is down nothing is open
down_by : (m m' : SenderMode) (line : Numbered) (lines : List Numbered) → m' ≡ sending.Down → opened_by m m' line lines ≡ []
down_by m m' line lines is = ap (λ x. opened_by m x line lines) is ∙ down m
  where
    down : (m : SenderMode) → opened_by m sending.Down line lines ≡ []
    down (sending.Quiet got) = refl
    down (sending.NeedId word load) = refl
    down (sending.Send id load) = refl
    down sending.Down = refl

down_own : (here : Bool) (side : End) (s : Stream) (e : Event) (number : ℕ) (lines : List Numbered) → (s.sender.state.mode ≡ sending.Down → lines ≡ [])
    → (after_if here s (record e { side = side })).sender.state.mode ≡ sending.Down → opened_if here s (record { number = number; event = record e { side = side } }) lines ≡ []
down_own false side s e number lines none is = none is
down_own true Sender s e number lines none is = down_by s.sender.state.mode _ (record { number = number; event = record e { side = Sender } }) lines is
down_own true Receiver s e number lines none is = none is

pub none_at_down : (first standing stream : ℕ) (history : List Event) → (stream_after stream history).sender.state.mode ≡ sending.Down → open_lines first standing stream history ≡ []
none_at_down first standing stream [] down = absurd (cc)
none_at_down first standing stream (e ∷ past) down =
    down_own (eqb stream e.stream) e.side (stream_after stream past) e (first + length past - standing) (open_lines first standing stream past) (none_at_down first standing stream past) down

-- a mode that stays keeps what is open, but for a put that is taken
pub stays_open : (m m' : SenderMode) (line : Numbered) (lines : List Numbered) → m' ≡ m → is_taken line ≡ false → (m ≡ sending.Down → lines ≡ []) → opened_by m m' line lines ≡ lines
stays_open m m' line lines same other none = ap (λ x. opened_by m x line lines) same ∙ stays m none
  where
    stays : (m : SenderMode) → (m ≡ sending.Down → lines ≡ []) → opened_by m m line lines ≡ lines
    stays (sending.Quiet got) none = not_taken (is_taken line) line lines other
    stays (sending.NeedId word load) none = not_taken (is_taken line) line lines other
    stays (sending.Send id load) none = not_taken (is_taken line) line lines other
    stays sending.Down none = sym (none refl)

pub opens_put : (m m' : SenderMode) (line : Numbered) (lines : List Numbered) → m' ≡ m → is_taken line ≡ true → (m ≡ sending.Down → ⊥) → opened_by m m' line lines ≡ line ∷ lines
opens_put m m' line lines same taken up = ap (λ x. opened_by m x line lines) same ∙ more m up
  where
    more : (m : SenderMode) → (m ≡ sending.Down → ⊥) → opened_by m m line lines ≡ line ∷ lines
    more (sending.Quiet got) up = taken_too (is_taken line) line lines taken
    more (sending.NeedId word load) up = taken_too (is_taken line) line lines taken
    more (sending.Send id load) up = taken_too (is_taken line) line lines taken
    more sending.Down up = absurd (up refl)

-- ---- rows that keep the mode

module _ (s : sender.SenderState) where
  either : (b : Bool) (m : List ℕ) → (if b then silent s reply.Full else silent (record s { waiting = s.waiting ++ m ∷ [] }) reply.Ok).state.mode ≡ s.mode
  either true m = refl
  either false m = refl

  pub put_keeps : (mode : SenderMode) (m : List ℕ) → (sender.put s mode m).state.mode ≡ s.mode
  put_keeps sending.Down m = refl
  put_keeps (sending.Quiet got) m = either (eqb (length s.waiting) 16) m
  put_keeps (sending.NeedId word load) m = either (eqb (length s.waiting) 16) m
  put_keeps (sending.Send id load) m = either (eqb (length s.waiting) 16) m

  pub ack_keeps : (mode : SenderMode) (waiting : List (List ℕ)) → (sender.get_ack s mode waiting).state.mode ≡ s.mode
  ack_keeps sending.Down waiting = refl
  ack_keeps (sending.Quiet true) [] = refl
  ack_keeps (sending.Quiet false) [] = refl
  ack_keeps (sending.Quiet true) (m ∷ rest) = refl
  ack_keeps (sending.Quiet false) (m ∷ rest) = refl
  ack_keeps (sending.NeedId word load) waiting = refl
  ack_keeps (sending.Send id load) waiting = refl

  -- a put is taken by a sender that is up
  pub taken_up : (mode : SenderMode) (m : List ℕ) → (sender.put s mode m).reply ≡ Some reply.Ok → mode ≡ sending.Down → ⊥
  taken_up mode m ok down = no (subst (λ x. (sender.put s x m).reply ≡ Some reply.Ok) down ok)
    where
      no : Some reply.Down ≡ Some reply.Ok → ⊥
      no is = cc

-- ---- what is kept of a stream

-- one stream's lines become others
abbrev pub changed : ℕ → (List Kept → List Kept) → KeptLines → KeptLines
changed zero f kept = kept
changed (suc place) f kept = slice_set kept place (f (get_or kept place []))

changed_length : (stream : ℕ) (f : List Kept → List Kept) (kept : KeptLines) → length (changed stream f kept) ≡ length kept
changed_length zero f kept = refl
changed_length (suc place) f kept = length-set kept place (f (get_or kept place []))

changed_other : (stream : ℕ) (f : List Kept → List Kept) (kept : KeptLines) (place : ℕ) → eqb (suc place) stream ≡ false → get_or (changed stream f kept) place [] ≡ get_or kept place []
changed_other zero f kept place other = refl
changed_other (suc at) f kept place other = get_or-set_other kept at place (f (get_or kept at [])) [] (λ is. apart (sym (eq-eqb (suc place) (suc at) (ap suc is)) ∙ other))
  where
    apart : true ≡ false → ⊥
    apart is = cc

changed_here : (stream : ℕ) (f : List Kept → List Kept) (kept : KeptLines) (place : ℕ) → eqb (suc place) stream ≡ true → place < length kept → get_or (changed stream f kept) place [] ≡ f (get_or kept place [])
changed_here stream f kept place here few =
    subst (λ (n : ℕ). get_or (changed n f kept) place [] ≡ f (get_or kept place [])) (eqb-true (suc place) stream here) (get_or-set_same kept place (f (get_or kept place [])) [] few)

-- one that is kept more
abbrev pub more_kept : Kept → List Kept → List Kept
more_kept line lines = lines ++ line ∷ []

pub keeping_changes : (stream : ℕ) (line : Kept) (kept : KeptLines) → keeping stream line kept ≡ changed stream (more_kept line) kept
keeping_changes zero line kept = refl
keeping_changes (suc place) line kept = refl

-- what a step leaves of one stream's lines
abbrev pub step_on : Step → ℕ → List ℕ → List Kept → List Kept
step_on Keep messages line lines = lines ++ (record { kind = kind.Handshake; text = line }) ∷ []
step_on Ends messages line lines = left_by messages lines
step_on Forget messages line lines = []
step_on Nothing messages line lines = lines

pub step_changes : (step : Step) (stream messages : ℕ) (line : List ℕ) (kept : KeptLines) → stepped step stream messages line kept ≡ changed stream (step_on step messages line) kept
step_changes Keep zero messages line kept = refl
step_changes Keep (suc place) messages line kept = refl
step_changes Ends zero messages line kept = refl
step_changes Ends (suc place) messages line kept = refl
step_changes Forget zero messages line kept = refl
step_changes Forget (suc place) messages line kept = refl
step_changes Nothing zero messages line kept = refl
step_changes Nothing (suc place) messages line kept = sym (set-get_or kept place [])

-- the step of two modes leaves the lines that the event does
module _ (line : Numbered) (lines : List Numbered) (kept : List Kept) (messages : ℕ) (text : List ℕ) (is : kept ≡ in_order lines) (other : is_taken line ≡ false) (spelt : text ≡ line_text line) where
  kept_more : kept ++ (record { kind = kind.Handshake; text = text }) ∷ [] ≡ in_order (line ∷ lines)
  kept_more =
      ap (λ l. l ++ (record { kind = kind.Handshake; text = text }) ∷ []) is
      ∙ (ap (λ (t : List ℕ). in_order lines ++ (record { kind = kind.Handshake; text = t }) ∷ []) spelt
      ∙ (ap (λ (b : Bool). in_order lines ++ (record { kind = kind_of b; text = line_text line }) ∷ []) (sym other) ∙ sym (one_in_order line lines)))

  still : kept ≡ in_order (if is_taken line then (line ∷ lines) else lines)
  still = is ∙ ap in_order (sym (not_taken (is_taken line) line lines other))

  pub steps_so : (m m' : SenderMode) → ((id : ℕ) (load : Payload) → m ≡ sending.Send id load → messages ≡ length (sender.messages_in load))
      → step_on (step_of (Some (sender.kind m)) (sender.kind m')) messages text kept ≡ in_order (opened_by m m' line lines)
  steps_so (sending.Quiet got) (sending.Quiet got') count = still
  steps_so (sending.Quiet got) (sending.NeedId word load) count = kept_more
  steps_so (sending.Quiet got) (sending.Send id load) count = still
  steps_so (sending.Quiet got) sending.Down count = refl
  steps_so (sending.NeedId word load) (sending.Quiet got) count = still
  steps_so (sending.NeedId word load) (sending.NeedId word' load') count = still
  steps_so (sending.NeedId word load) (sending.Send id sent) count = kept_more
  steps_so (sending.NeedId word load) sending.Down count = refl
  steps_so (sending.Send id load) (sending.Quiet got) count =
      ap (λ (n : ℕ). left_by n kept) (count id load refl) ∙ (ap (left_by (length (sender.messages_in load))) is ∙ sym (later_in_order (length (sender.messages_in load)) lines))
  steps_so (sending.Send id load) (sending.NeedId word load') count = still
  steps_so (sending.Send id load) (sending.Send id' load') count = still
  steps_so (sending.Send id load) sending.Down count = refl
  steps_so sending.Down (sending.Quiet got) count = still
  steps_so sending.Down (sending.NeedId word load) count = still
  steps_so sending.Down (sending.Send id load) count = still
  steps_so sending.Down sending.Down count = refl

-- ---- all streams, after one event more

module _ (side : End) (streams first standing : ℕ) (past : List Event) (e : Event) where
  abbrev pub line : Numbered
  line = line_behind first standing past e

  other_open : (stream : ℕ) → eqb stream e.stream ≡ false → open_lines first standing stream (e ∷ past) ≡ open_lines first standing stream past
  other_open stream other = ap (λ (b : Bool). opened_if b (stream_after stream past) line (open_lines first standing stream past)) other

  own_open : (stream : ℕ) → eqb stream e.stream ≡ true → open_lines first standing stream (e ∷ past) ≡ opened_at e.side (stream_after stream past) line (open_lines first standing stream past)
  own_open stream own = ap (λ (b : Bool). opened_if b (stream_after stream past) line (open_lines first standing stream past)) own

  keeps_at : (kept kept' : KeptLines) (place : ℕ) (here : Bool) → eqb (suc place) e.stream ≡ here → get_or kept place [] ≡ in_order (open_lines first standing (suc place) past)
      → (eqb (suc place) e.stream ≡ false → get_or kept' place [] ≡ get_or kept place [])
      → (eqb (suc place) e.stream ≡ true → get_or kept' place [] ≡ in_order (opened_at e.side (stream_after (suc place) past) line (open_lines first standing (suc place) past)))
      → get_or kept' place [] ≡ in_order (open_lines first standing (suc place) (e ∷ past))
  keeps_at kept kept' place true is was others own = own is ∙ ap in_order (sym (own_open (suc place) is))
  keeps_at kept kept' place false is was others own = others is ∙ (was ∙ ap in_order (sym (other_open (suc place) is)))

  -- what is kept of each other stream stays, and of its own is what the event leaves
  pub keeps_on : (kept kept' : KeptLines) → KeepsOpen side streams first standing past kept → length kept' ≡ length kept
      → ((place : ℕ) → place < length kept → eqb (suc place) e.stream ≡ false → get_or kept' place [] ≡ get_or kept place [])
      → ((place : ℕ) → place < length kept → eqb (suc place) e.stream ≡ true → get_or kept' place [] ≡ in_order (opened_at e.side (stream_after (suc place) past) line (open_lines first standing (suc place) past)))
      → KeepsOpen side streams first standing (e ∷ past) kept'
  keeps_on kept kept' keeps long others own = record {
    many = long ∙ keeps.many;
    lines = λ place within.
        let few : place < length kept = subst (λ (n : ℕ). place < n) long within in
        keeps_at kept kept' place (eqb (suc place) e.stream) refl (keeps.lines place few) (others place few) (own place few);
  }

  -- an event that leaves all open as it was
  pub still_open : (kept : KeptLines) → KeepsOpen side streams first standing past kept
      → ((stream : ℕ) → eqb stream e.stream ≡ true → opened_at e.side (stream_after stream past) line (open_lines first standing stream past) ≡ open_lines first standing stream past)
      → KeepsOpen side streams first standing (e ∷ past) kept
  still_open kept keeps leaves = keeps_on kept kept keeps refl (λ place few other. refl) (λ place few own. keeps.lines place few ∙ ap in_order (sym (leaves (suc place) own)))

  -- one that changes what is kept of its own stream
  pub changes_open : (kept : KeptLines) (f : List Kept → List Kept) → KeepsOpen side streams first standing past kept
      → ((place : ℕ) → eqb (suc place) e.stream ≡ true → get_or kept place [] ≡ in_order (open_lines first standing (suc place) past)
      → f (get_or kept place []) ≡ in_order (opened_at e.side (stream_after (suc place) past) line (open_lines first standing (suc place) past)))
      → KeepsOpen side streams first standing (e ∷ past) (changed e.stream f kept)
  changes_open kept f keeps does =
      keeps_on kept (changed e.stream f kept) keeps (changed_length e.stream f kept) (λ place few other. changed_other e.stream f kept place other)
      (λ place few own. changed_here e.stream f kept place own few ∙ does place own (keeps.lines place few))

-- ---- the text of what is kept

kept_text : (lines : List Numbered) → text_on (map kept_as lines) ≡ flat_map line_text lines
kept_text [] = refl
kept_text (line ∷ lines) = ap (λ (t : List ℕ). line_text line ++ t) (kept_text lines)

module _ (side : End) (streams first standing : ℕ) (history : List Event) (kept : KeptLines) (keeps : KeepsOpen side streams first standing history kept) where
  front_text : (many : ℕ) → many ≤ length kept → text_of (take many kept) ≡ open_text first standing history many
  front_text zero few = refl
  front_text (suc many) few =
      let within : many < length kept = omega (arith, few) in
      let lines = open_lines first standing (suc many) history in
      let one : take (suc many) kept ≡ take many kept ++ get_or kept many [] ∷ [] = ap (λ (n : ℕ). take n kept) (let is : suc many ≡ many + 1 = omega arith in is) ∙ take_more kept many [] within in
      ap text_of one
      ∙ (flat_map-append text_on (take many kept) (get_or kept many [] ∷ [])
      ∙ (ap (λ (t : List ℕ). t ++ (text_on (get_or kept many []) ++ [])) (front_text many (omega (arith, few)))
      ∙ ap (λ (t : List ℕ). open_text first standing history many ++ t) (append-nil (text_on (get_or kept many [])) ∙ (ap text_on (keeps.lines many within) ∙ kept_text (reverse lines)))))

  take_all : {X : Type 0} (xs : List X) → take (length xs) xs ≡ xs
  take_all [] = refl
  take_all (x ∷ xs) = ap (λ l. x ∷ l) (take_all xs)

  pub all_text : text_of kept ≡ open_text first standing history (senders_of side streams)
  all_text = ap text_of (sym (take_all kept)) ∙ (front_text (length kept) (omega arith) ∙ ap (λ (n : ℕ). open_text first standing history n) keeps.many)
