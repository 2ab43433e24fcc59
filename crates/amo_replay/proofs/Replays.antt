-- What a replay has written after some lines.
use Rattle.std.proofs.Common.{◌≡◌, ℕ, ◌+◌, Option, Result, Ok, Err, IfOk, List, [], ◌∷◌, ◌++◌, length, take, drop, refl, sym, ◌∙◌, ap, subst, append_assoc, suc}
use Rattle.std.proofs.lemmas.List.{append-nil, take-append-drop, take_at}
use Rattle.std.proofs.lemmas.Grind.{flat_map-append}
use Rattle.std.specs.List.{AllByRecursion, flat_map}
use Rattle.std.specs.Io.KnownBytes.{Appends}
use Rattle.amo_world.specs.declared.event.Event.{Event}
use Rattle.amo_world.specs.History.{IsRight, IsHonest, IsFresh}
use Rattle.amo_world.specs.Served.{IsServed}
use Rattle.amo_world.proofs.Serving.{serves}
use Rattle.amo_text.specs.Sink.{AppendsFront}
use Rattle.amo_text.proofs.Written.{Appends-append, Appends-nil}
use Rattle.amo_schedule.specs.Schedule.{InRange, spelling_of, SpellsSchedule, IsSchedule}
use Rattle.amo_schedule.proofs.Reading.{one_schedule}
use Rattle.amo_replay.specs.Transcript.{event_of, applied, either_way, IsReplayed, IsTranscript, line_text, transcript, transcript_from, ending_of, ending_from, history_of, history_from, flatten}
use Rattle.amo_schedule.specs.declared.line.ScheduleLine.{ScheduleLine}
use Rattle.amo_replay.specs.Stop.{IsWhole, StopsWriting, StopsReplay}
use Rattle.amo_replay.specs.declared.stop.Stop.{Stop}
use Rattle.amo_replay.specs.declared.stop.Stop.TheVariants.{Ended, Failed}
use Rattle.amo_replay.specs.declared.fault.ToolFault.{ToolFault}
use Rattle.amo_replay.specs.declared.fault.ToolFault.TheVariants.{NoMemory, Busy, Device}
use Rattle.amo_replay.specs.declared.endings.Ending.{Ending}
use Rattle.amo_replay.specs.declared.endings.Ending.TheVariants.{Done, Malformed, Unsent, Repeat}
use Rattle.amo_replay.proofs.Applying.{applied_soundly, never_malformed}

-- a line that is applied
transcript_applied : (past : List Event) (line : ScheduleLine) (lines : List ScheduleLine) (e : Event) → applied past line ≡ Ok e → transcript_from past (line ∷ lines) ≡ line_text past e ∷ transcript_from (e ∷ past) lines
transcript_applied past line lines e is = ap (λ (r : Result Event Ending). either_way r (λ x. line_text past x ∷ transcript_from (x ∷ past) lines) (λ ending. [])) is

ending_applied : (past : List Event) (line : ScheduleLine) (lines : List ScheduleLine) (e : Event) → applied past line ≡ Ok e → ending_from past (line ∷ lines) ≡ ending_from (e ∷ past) lines
ending_applied past line lines e is = ap (λ (r : Result Event Ending). either_way r (λ x. ending_from (x ∷ past) lines) (λ ending. ending)) is

history_applied : (past : List Event) (line : ScheduleLine) (lines : List ScheduleLine) (e : Event) → applied past line ≡ Ok e → history_from past (line ∷ lines) ≡ history_from (e ∷ past) lines
history_applied past line lines e is = ap (λ (r : Result Event Ending). either_way r (λ x. history_from (x ∷ past) lines) (λ ending. past)) is

-- a line that cannot be applied
transcript_stops : (past : List Event) (line : ScheduleLine) (lines : List ScheduleLine) (ending : Ending) → applied past line ≡ Err ending → transcript_from past (line ∷ lines) ≡ []
transcript_stops past line lines ending is = ap (λ (r : Result Event Ending). either_way r (λ x. line_text past x ∷ transcript_from (x ∷ past) lines) (λ y. [])) is

ending_stops : (past : List Event) (line : ScheduleLine) (lines : List ScheduleLine) (ending : Ending) → applied past line ≡ Err ending → ending_from past (line ∷ lines) ≡ ending
ending_stops past line lines ending is = ap (λ (r : Result Event Ending). either_way r (λ x. ending_from (x ∷ past) lines) (λ y. y)) is

-- every line is applied
abbrev pub Apply : List Event → List ScheduleLine → Type 0
Apply past [] = Unit {0}
Apply past (line ∷ lines) = (e : Event) × (applied past line ≡ Ok e) × Apply (e ∷ past) lines

pub history_from-append : (past : List Event) (xs ys : List ScheduleLine) → Apply past xs → history_from past (xs ++ ys) ≡ history_from (history_from past xs) ys
history_from-append past [] ys all = refl
history_from-append past (x ∷ xs) ys (e, is, all) =
    history_applied past x (xs ++ ys) e is ∙ history_from-append (e ∷ past) xs ys all ∙ ap (λ (p : List Event). history_from p ys) (sym (history_applied past x xs e is))

ending_from-append : (past : List Event) (xs ys : List ScheduleLine) → Apply past xs → ending_from past (xs ++ ys) ≡ ending_from (history_from past xs) ys
ending_from-append past [] ys all = refl
ending_from-append past (x ∷ xs) ys (e, is, all) =
    ending_applied past x (xs ++ ys) e is ∙ ending_from-append (e ∷ past) xs ys all ∙ ap (λ (p : List Event). ending_from p ys) (sym (history_applied past x xs e is))

pub transcript_from-append : (past : List Event) (xs ys : List ScheduleLine) → Apply past xs → transcript_from past (xs ++ ys) ≡ transcript_from past xs ++ transcript_from (history_from past xs) ys
transcript_from-append past [] ys all = refl
transcript_from-append past (x ∷ xs) ys (e, is, all) =
    transcript_applied past x (xs ++ ys) e is
    ∙ ap (λ (t : List (List ℕ)). line_text past e ∷ t) (transcript_from-append (e ∷ past) xs ys all)
    ∙ ap (λ (p : List Event). (line_text past e ∷ transcript_from (e ∷ past) xs) ++ transcript_from p ys) (sym (history_applied past x xs e is))
    ∙ ap (λ (t : List (List ℕ)). t ++ transcript_from (history_from past (x ∷ xs)) ys) (sym (transcript_applied past x xs e is))

length-transcript_from : (past : List Event) (xs : List ScheduleLine) → Apply past xs → length (transcript_from past xs) ≡ length xs
length-transcript_from past [] all = refl
length-transcript_from past (x ∷ xs) (e, is, all) = ap (λ (t : List (List ℕ)). length t) (transcript_applied past x xs e is) ∙ ap (λ n. suc n) (length-transcript_from (e ∷ past) xs all)

pub Apply-push : (past : List Event) (xs : List ScheduleLine) (y : ScheduleLine) (e : Event) → Apply past xs → applied (history_from past xs) y ≡ Ok e → Apply past (xs ++ y ∷ [])
Apply-push past [] y e all is = (e, is, tt)
Apply-push past (x ∷ xs) y e (f, now, all) is = (f, now, Apply-push (f ∷ past) xs y e all (subst (λ (p : List Event). applied p y ≡ Ok e) (history_applied past x xs f now) is))

pub all_done : (past : List Event) (xs : List ScheduleLine) → Apply past xs → ending_from past xs ≡ Done
all_done past [] all = refl
all_done past (x ∷ xs) (e, is, all) = ending_applied past x xs e is ∙ all_done (e ∷ past) xs all

-- the history after one more line
pub history_more : (ys : List ScheduleLine) (line : ScheduleLine) (e : Event) → Apply [] ys → applied (history_of ys) line ≡ Ok e → history_of (ys ++ line ∷ []) ≡ e ∷ history_of ys
history_more ys line e all is = history_from-append [] ys (line ∷ []) all ∙ history_applied (history_of ys) line [] e is

flatten-append : (ts us : List (List ℕ)) → flatten (ts ++ us) ≡ flatten ts ++ flatten us
flatten-append ts us = flat_map-append (λ (x : List ℕ). x) ts us

flatten-push : (ts : List (List ℕ)) (t : List ℕ) → flatten (ts ++ t ∷ []) ≡ flatten ts ++ t
flatten-push ts t = flatten-append ts (t ∷ []) ∙ ap (λ (x : List ℕ). flatten ts ++ x) (append-nil t)

-- what was written, after one more line
pub written_more : (ys : List ScheduleLine) (line : ScheduleLine) (e : Event) → Apply [] ys → applied (history_of ys) line ≡ Ok e → flatten (transcript (ys ++ line ∷ [])) ≡ flatten (transcript ys) ++ line_text (history_of ys) e
written_more ys line e all is =
    ap flatten (transcript_from-append [] ys (line ∷ []) all ∙ ap (λ (t : List (List ℕ)). transcript ys ++ t) (transcript_applied (history_of ys) line [] e is)) ∙ flatten-push (transcript ys) (line_text (history_of ys) e)

-- a history of lines is right, honest and fresh
pub right_all : (past : List Event) (xs : List ScheduleLine) → IsRight past → IsRight (history_from past xs)
right_all past [] right = right
right_all past (x ∷ xs) right = cases (λ e is. right_all (e ∷ past) xs ((applied_soundly past x e is).0, right)) (applied past x) refl
  where
    cases : ((e : Event) → applied past x ≡ Ok e → IsRight (history_from (e ∷ past) xs)) → (r : Result Event Ending) → applied past x ≡ r → IsRight (either_way r (λ e. history_from (e ∷ past) xs) (λ ending. past))
    cases next (Ok e) is = next e is
    cases next (Err ending) is = right

pub honest_all : (past : List Event) (xs : List ScheduleLine) → IsHonest past → IsHonest (history_from past xs)
honest_all past [] honest = honest
honest_all past (x ∷ xs) honest = cases (λ e is. honest_all (e ∷ past) xs ((applied_soundly past x e is).1, honest)) (applied past x) refl
  where
    cases : ((e : Event) → applied past x ≡ Ok e → IsHonest (history_from (e ∷ past) xs)) → (r : Result Event Ending) → applied past x ≡ r → IsHonest (either_way r (λ e. history_from (e ∷ past) xs) (λ ending. past))
    cases next (Ok e) is = next e is
    cases next (Err ending) is = honest

pub fresh_all : (past : List Event) (xs : List ScheduleLine) → IsFresh past → IsFresh (history_from past xs)
fresh_all past [] fresh = fresh
fresh_all past (x ∷ xs) fresh = cases (λ e is. fresh_all (e ∷ past) xs ((applied_soundly past x e is).2, fresh)) (applied past x) refl
  where
    cases : ((e : Event) → applied past x ≡ Ok e → IsFresh (history_from (e ∷ past) xs)) → (r : Result Event Ending) → applied past x ≡ r → IsFresh (either_way r (λ e. history_from (e ∷ past) xs) (λ ending. past))
    cases next (Ok e) is = next e is
    cases next (Err ending) is = fresh

-- every schedule is served
pub all_served : (xs : List ScheduleLine) (number : ℕ) → IsServed number (history_of xs)
all_served xs number = serves number (history_of xs) (right_all [] xs tt) (honest_all [] xs tt) (fresh_all [] xs tt)

-- where memory ran out, whole lines of the transcript were written
pub memory_written : (a b d : Option (List ℕ)) (ys rest lines : List ScheduleLine) → Apply [] ys → lines ≡ ys ++ rest → d ≡ b → Appends a b (flatten (transcript ys))
    → (k : ℕ) × Appends a d (flatten (take k (transcript lines)))
memory_written a b d ys rest lines apply e kept written =
    let parts : transcript lines ≡ transcript ys ++ transcript_from (history_of ys) rest = ap transcript e ∙ transcript_from-append [] ys rest apply in
    let whole : take (length ys) (transcript lines) ≡ transcript ys =
    ap (λ (t : List (List ℕ)). take (length ys) t) parts ∙ take_at _ _ (length ys) (length-transcript_from [] ys apply) in (
      length ys,
      subst (λ (t : List (List ℕ)). Appends a d (flatten t)) (sym whole)
          (subst (λ (x : Option (List ℕ)). Appends a x (flatten (transcript ys))) (sym kept) written),
    )

-- a beginning of what begins a text
front_appended : (a b : Option (List ℕ)) (front more whole : List ℕ) → whole ≡ front ++ more → Appends a b front → AppendsFront a b whole
front_appended a b front more whole e h =
    (length front, subst (λ (x : List ℕ). Appends a b x) (sym (ap (λ (t : List ℕ). take (length front) t) e ∙ take_at front more (length front) refl)) h)

cut_in : (f t more : List ℕ) (n : ℕ) → (f ++ t) ++ more ≡ (f ++ take n t) ++ (drop n t ++ more)
cut_in f t more n = ap (λ (x : List ℕ). (f ++ x) ++ more) (sym (take-append-drop n t)) ∙ simp append_assoc

one_by_one : (ys : List ScheduleLine) (line : ScheduleLine) (rest : List ScheduleLine) → ys ++ line ∷ rest ≡ (ys ++ line ∷ []) ++ rest
one_by_one ys line rest = sym (append_assoc ys (line ∷ []) rest)

-- where the device failed, a beginning of the transcript was written
pub device_written : (a b d : Option (List ℕ)) (ys rest lines : List ScheduleLine) (line : ScheduleLine) (x : Event) → Apply [] ys → lines ≡ ys ++ line ∷ rest
    → applied (history_of ys) line ≡ Ok x → Appends a b (flatten (transcript ys)) → AppendsFront b d (line_text (history_of ys) x)
    → AppendsFront a d (flatten (transcript lines))
device_written a b d ys rest lines line x apply e outcome written front =
    let pushed : Apply [] (ys ++ line ∷ []) = Apply-push [] ys line x apply outcome in
    let more : List ℕ = flatten (transcript_from (history_of (ys ++ line ∷ [])) rest) in
    let text : List ℕ = line_text (history_of ys) x in
    let whole : flatten (transcript lines) ≡ (flatten (transcript ys) ++ text) ++ more =
    ap (λ (t : List ScheduleLine). flatten (transcript t)) (e ∙ one_by_one ys line rest)
    ∙ ap flatten (transcript_from-append [] (ys ++ line ∷ []) rest pushed) ∙ flatten-append (transcript (ys ++ line ∷ [])) _
    ∙ ap (λ (t : List ℕ). t ++ more) (written_more ys line x apply outcome) in
    front_appended a d (flatten (transcript ys) ++ take front.0 text) (drop front.0 text ++ more) (flatten (transcript lines))
    (whole ∙ cut_in (flatten (transcript ys)) text more front.0) (Appends-append a b d _ _ written front.1)

-- where a line cannot be applied, the transcript ends before it
pub line_stops : (a b d : Option (List ℕ)) (ys rest lines : List ScheduleLine) (line : ScheduleLine) (ending : Ending) → Apply [] ys → lines ≡ ys ++ line ∷ rest
    → applied (history_of ys) line ≡ Err ending → d ≡ b → Appends a b (flatten (transcript ys)) → IsWhole lines ending a d
line_stops a b d ys rest lines line ending apply e stop kept written =
    let ends : ending_of lines ≡ ending =
    ap ending_of e ∙ ending_from-append [] ys (line ∷ rest) apply ∙ ending_stops (history_of ys) line rest ending stop in
    let all : transcript lines ≡ transcript ys =
    ap transcript e ∙ transcript_from-append [] ys (line ∷ rest) apply
    ∙ ap (λ (t : List (List ℕ)). transcript ys ++ t) (transcript_stops (history_of ys) line rest ending stop) ∙ append-nil (transcript ys) in (
      sym ends,
      subst (λ (t : List (List ℕ)). Appends a d (flatten t)) (sym all)
          (subst (λ (x : Option (List ℕ)). Appends a x (flatten (transcript ys))) (sym kept) written),
    )

-- where each line was applied, the transcript is whole
pub lines_done : (a d : Option (List ℕ)) (ys lines : List ScheduleLine) → Apply [] ys → lines ≡ ys → Appends a d (flatten (transcript ys)) → IsWhole lines Done a d
lines_done a d ys lines apply same written =
    (sym (ap ending_of same ∙ all_done [] ys apply), subst (λ (t : List ScheduleLine). Appends a d (flatten (transcript t))) (sym same) written)

-- no list of lines ends as malformed
never_malformed_from : (past : List Event) (lines : List ScheduleLine) (number : ℕ) → ending_from past lines ≡ Malformed number → ⊥
never_malformed_from past [] number e = differ e
  where
    differ : Done ≡ Malformed number → ⊥
    differ h = cc
never_malformed_from past (line ∷ lines) number e = cases (λ x. never_malformed_from (x ∷ past) lines number) (applied past line) refl e
  where
    cases : ((x : Event) → ending_from (x ∷ past) lines ≡ Malformed number → ⊥) → (r : Result Event Ending) → applied past line ≡ r
        → either_way r (λ x. ending_from (x ∷ past) lines) (λ y. y) ≡ Malformed number → ⊥
    cases later (Ok x) is same = later x same
    cases later (Err ending) is same = never_malformed past number (event_of past line) (is ∙ ap (λ (y : Ending). Err y) same)

-- what these lines are replayed to
replayed : (bytes : List ℕ) (lines : List ScheduleLine) (ending : Ending) → SpellsSchedule bytes lines → ending ≡ ending_of lines → IsReplayed bytes (transcript lines) ending
replayed bytes lines ending spelt ends = record {
  lines = lines;
  spelt = spelt;
  written = refl;
  ends = ends;
  right = right_all [] lines tt;
  honest = honest_all [] lines tt;
  fresh = fresh_all [] lines tt;
  served = all_served lines;
}

pub is_transcript : (bytes : List ℕ) (lines : List ScheduleLine) (ending : Ending) → SpellsSchedule bytes lines → ending ≡ ending_of lines
    → IsTranscript bytes (transcript lines) ending
is_transcript bytes lines Done spelt ends = replayed bytes lines Done spelt ends
is_transcript bytes lines (Unsent number) spelt ends = replayed bytes lines (Unsent number) spelt ends
is_transcript bytes lines (Repeat number) spelt ends = replayed bytes lines (Repeat number) spelt ends
is_transcript bytes lines (Malformed number) spelt ends = absurd (never_malformed_from [] lines number (sym ends))

-- these lines of a schedule were read, applied and written, and this is what is left of it
pub record IsReplayedTo (bytes left : List ℕ) (past : List Event) (old new : Option (List ℕ)) : Type 0 where
  pub before : List ScheduleLine
  pub known : AllByRecursion InRange before
  pub read : bytes ≡ flat_map spelling_of before ++ left
  pub apply : Apply [] before
  pub history : past ≡ history_of before
  pub written : Appends old new (flatten (transcript before))

all_append : (xs ys : List ScheduleLine) → AllByRecursion InRange xs → AllByRecursion InRange ys → AllByRecursion InRange (xs ++ ys)
all_append [] ys p q = q
all_append (x ∷ xs) ys p q = (p.0, all_append xs ys p.1 q)

-- the schedule's lines are these and those that are left
pub lines_left : (bytes left : List ℕ) (past : List Event) (old new : Option (List ℕ)) (to : IsReplayedTo bytes left past old new) (lines : List ScheduleLine)
    → SpellsSchedule bytes lines → IsSchedule left → (rest : List ScheduleLine) × (lines ≡ to.before ++ rest)
lines_left bytes left past old new to lines spelt (rest, known) = (
  rest,
  one_schedule bytes lines (to.before ++ rest) spelt (
    all_append to.before rest to.known known.0,
    to.read ∙ ap (λ (t : List ℕ). flat_map spelling_of to.before ++ t) known.1 ∙ sym (flat_map-append spelling_of to.before rest),
  ),
)

-- the same with the next line in front
pub next_left : (bytes left more : List ℕ) (past : List Event) (old new : Option (List ℕ)) (to : IsReplayedTo bytes left past old new) (lines : List ScheduleLine)
    (line : ScheduleLine) → SpellsSchedule bytes lines → InRange line → left ≡ spelling_of line ++ more → IsSchedule more
    → (rest : List ScheduleLine) × (lines ≡ to.before ++ line ∷ rest)
next_left bytes left more past old new to lines line spelt known here (rest, after) = (
  rest,
  one_schedule bytes lines (to.before ++ line ∷ rest) spelt (
    all_append to.before (line ∷ rest) to.known (known, after.0),
    to.read ∙ ap (λ (t : List ℕ). flat_map spelling_of to.before ++ t) (here ∙ ap (λ (t : List ℕ). spelling_of line ++ t) after.1)
        ∙ sym (flat_map-append spelling_of to.before (line ∷ rest)),
  ),
)

-- nothing was replayed yet
pub replayed_none : (bytes : List ℕ) (old : Option (List ℕ)) → IsReplayedTo bytes bytes [] old old
replayed_none bytes old = record { before = []; known = tt; read = refl; apply = tt; history = refl; written = Appends-nil old }

-- one line more was read, applied and written
pub replayed_more : (bytes left more : List ℕ) (past next : List Event) (old new newer : Option (List ℕ)) (line : ScheduleLine) (e : Event)
    → IsReplayedTo bytes left past old new → InRange line → left ≡ spelling_of line ++ more → applied past line ≡ Ok e → next ≡ e ∷ past
    → Appends new newer (line_text past e) → IsReplayedTo bytes more next old newer
replayed_more bytes left more past next old new newer line e to known here outcome grown written =
    let outcome' = subst (λ (p : List Event). applied p line ≡ Ok e) to.history outcome in
    let written' = subst (λ (p : List Event). Appends new newer (line_text p e)) to.history written in
    record {
      before = to.before ++ line ∷ [];
      known = all_append to.before (line ∷ []) to.known (known, tt);
      read = to.read ∙ ap (λ (t : List ℕ). flat_map spelling_of to.before ++ t) here ∙ sym (append_assoc (flat_map spelling_of to.before) (spelling_of line) more)
          ∙ ap (λ (t : List ℕ). t ++ more) (sym (flat_map-append spelling_of to.before (line ∷ []) ∙ ap (λ (t : List ℕ). flat_map spelling_of to.before ++ t) (append-nil (spelling_of line))));
      apply = Apply-push [] to.before line e to.apply outcome';
      history = grown ∙ ap (λ (p : List Event). e ∷ p) to.history ∙ sym (history_more to.before line e to.apply outcome');
      written = rw (written_more to.before line e to.apply outcome') (Appends-append _ _ _ _ _ to.written written');
    }

-- where a line was not written, this is what stands of the transcript
pub stopped_at_line : (bytes left more : List ℕ) (past : List Event) (old new newer : Option (List ℕ)) (line : ScheduleLine) (start calm failed : ℕ) (stop : Stop)
    → IsReplayedTo bytes left past old new → InRange line → left ≡ spelling_of line ++ more → IsSchedule more → calm ≡ start
    → StopsWriting past line new newer calm failed stop → (lines : List ScheduleLine) → SpellsSchedule bytes lines → StopsReplay lines old newer start failed stop
stopped_at_line bytes left more past old new newer line start calm failed (Ended ending) to known here after same stops lines spelt =
    let (rest, all) = next_left bytes left more past old new to lines line spelt known here after in (
      line_stops old new newer to.before rest lines line ending to.apply all (subst (λ (p : List Event). applied p line ≡ Err ending) to.history stops.0) stops.1 to.written,
      stops.2 ∙ same,
    )
stopped_at_line bytes left more past old new newer line start calm failed (Failed NoMemory) to known here after same stops lines spelt =
    let (rest, all) = next_left bytes left more past old new to lines line spelt known here after in
    (memory_written old new newer to.before (line ∷ rest) lines to.apply all stops.0 to.written, stops.1 ∙ same)
stopped_at_line bytes left more past old new newer line start calm failed (Failed Busy) to known here after same stops lines spelt =
    let (rest, all) = next_left bytes left more past old new to lines line spelt known here after in
    (memory_written old new newer to.before (line ∷ rest) lines to.apply all stops.0 to.written, stops.1 ∙ same)
stopped_at_line bytes left more past old new newer line start calm failed (Failed Device) to known here after same (e, outcome, front, count) lines spelt =
    let (rest, all) = next_left bytes left more past old new to lines line spelt known here after in (
      device_written old new newer to.before rest lines line e to.apply all (subst (λ (p : List Event). applied p line ≡ Ok e) to.history outcome) to.written
          (subst (λ (p : List Event). AppendsFront new newer (line_text p e)) to.history front),
      count ∙ ap (λ n. n + 1) same,
    )

-- where memory ran out between two lines
pub stopped_between : (bytes left : List ℕ) (past : List Event) (old new : Option (List ℕ)) → IsReplayedTo bytes left past old new → IsSchedule left
    → (lines : List ScheduleLine) → SpellsSchedule bytes lines → (k : ℕ) × Appends old new (flatten (take k (transcript lines)))
stopped_between bytes left past old new to after lines spelt =
    let (rest, all) = lines_left bytes left past old new to lines spelt after in
    memory_written old new new to.before rest lines to.apply all refl to.written

-- where nothing is left
pub done_at_end : (bytes left : List ℕ) (past : List Event) (old new : Option (List ℕ)) → IsReplayedTo bytes left past old new → left ≡ []
    → (lines : List ScheduleLine) → SpellsSchedule bytes lines → IsWhole lines Done old new
done_at_end bytes left past old new to end lines spelt =
    let all = one_schedule bytes lines to.before spelt (to.known, to.read ∙ ap (λ (t : List ℕ). flat_map spelling_of to.before ++ t) end ∙ append-nil _) in
    lines_done old new to.before lines to.apply all to.written

-- where lines stop a replay, what it answers is their ending
pub stopped_transcript : (bytes : List ℕ) (lines : List ScheduleLine) (answer : Result Ending ToolFault) (stop : Stop) (old new : Option (List ℕ)) (calm failed : ℕ)
    → SpellsSchedule bytes lines → IfOk answer (λ ending. stop ≡ Ended ending) → StopsReplay lines old new calm failed stop
    → IfOk answer (λ ending. (texts : List (List ℕ)) × IsTranscript bytes texts ending × Appends old new (flatten texts))
stopped_transcript bytes lines (Ok ending) stop old new calm failed spelt is stops =
    let whole = (subst (λ (s : Stop). StopsReplay lines old new calm failed s) is stops).0 in
    (transcript lines, is_transcript bytes lines ending spelt whole.0, whole.1)
stopped_transcript bytes lines (Err fault) stop old new calm failed spelt is stops = tt
