-- Where the line of an event stands in its journal.
use Rattle.std.proofs.Common.{◌≡◌, ℕ, zero, suc, ◌+◌, ◌-◌, ◌*◌, ◌≤◌, Option, None, Some, List, [], ◌∷◌, ◌++◌, length, reverse, refl, sym, ap, ◌∙◌, subst, append_assoc, append-nil, arith}
use Rattle.std.proofs.lemmas.List.{length-append, length-reverse}
use Rattle.amo_object.specs.declared.step.End.{End}
use Rattle.amo_world.specs.declared.event.Event.{Event}
use Rattle.amo_world.specs.History.{Extends, events_of}
use Rattle.amo_world.proofs.Picks.{own, picked_later}
use Rattle.amo_book.specs.Pass.{PassState, GrownBy, mine}
use Rattle.amo_core.specs.declared.act.Act.TheVariants as act
use Rattle.amo_disk.specs.Back.{done_at, returned}
use Rattle.amo_journal.specs.declared.version.Version.{Version}
use Rattle.amo_journal.specs.Journal.{line_text}
use Rattle.amo_live.specs.Callers.{IsSameLife}
use Rattle.amo_live.specs.Host.{HostState, Stays}
use Rattle.amo_live.specs.Noted.{HasLine, IsSameJournal, JournalState, line_behind, opening, text_since}
use Rattle.amo_live.specs.Standing.{BeganSo}
use Rattle.amo_live.proofs.Onwards.{same_itself, same_on, text_grows}

-- what is written of a history goes on where that does
text_further : {S : Type 0} (j : JournalState S) (newer past : List Event) → (behind : List ℕ) × (text_since j (newer ++ past) ≡ text_since j past ++ behind)
text_further j [] past = ([], sym (append-nil (text_since j past)))
text_further j (e ∷ newer) past =
    let (behind, before) = text_further j newer past in
    let line = line_behind (j.standing - length (newer ++ past)) (j.first + (length (newer ++ past) - j.standing)) e in
    let one : text_since j (e ∷ (newer ++ past)) ≡ text_since j (newer ++ past) ++ line =
    text_grows j.front j.first j.standing (j.standing - length (newer ++ past)) (j.first + (length (newer ++ past) - j.standing)) (newer ++ past) e refl refl in
    (behind ++ line, one ∙ (ap (λ (t : List ℕ). t ++ line) before ∙ append_assoc (text_since j past) behind line))

-- the line of an event stands behind what is written of those before it
line_stands : {S : Type 0} (j : JournalState S) (newer past : List Event) (e : Event) (line : ℕ) → line ≡ j.first + (length past - j.standing) → j.standing ≤ length past
    → (behind : List ℕ) × (text_since j (newer ++ e ∷ past) ≡ text_since j past ++ (line_text (record { number = line; event = e }) ++ behind))
line_stands j newer past e line is few =
    let (behind, after) = text_further j newer (e ∷ past) in
    let none : zero ≡ j.standing - length past = omega (arith, few) in
    let one : text_since j (e ∷ past) ≡ text_since j past ++ line_text (record { number = line; event = e }) = text_grows j.front j.first j.standing zero line past e is none in
    (behind, after ∙ (ap (λ (t : List ℕ). t ++ behind) one ∙ append_assoc (text_since j past) (line_text (record { number = line; event = e })) behind))

pub has_line : {S : Type 0} (j : JournalState S) (history past : List Event) (e : Event) (line : ℕ) → Extends history (e ∷ past) → line ≡ j.first + (length past - j.standing) → HasLine j history past e line
has_line j history past e line (newer, is) number = record {
  number = number;
  written = λ few. subst (λ (h : List Event). (behind : List ℕ) × (text_since j h ≡ text_since j past ++ (line_text (record { number = line; event = e }) ++ behind))) (sym is) (line_stands j newer past e line number few);
}

-- a number counts alike in a journal that was opened so
same_number : {S : Type 0} (j k : JournalState S) (many line : ℕ) → IsSameJournal j k → line ≡ j.first + (many - j.standing) → line ≡ k.first + (many - k.standing)
same_number j k many line same number = number ∙ (ap (λ (n : ℕ). n + (many - j.standing)) (sym same.first) ∙ ap (λ (n : ℕ). k.first + (many - n)) (sym same.standing))

-- it stands there also when more has happened
pub line_stays : {S : Type 0} (j k : JournalState S) (history later past : List Event) (e : Event) (line : ℕ) → IsSameJournal j k → Extends later (e ∷ past) → HasLine j history past e line → HasLine k later past e line
line_stays j k history later past e line same more at = has_line k later past e line more (same_number j k (length past) line same at.number)

-- an event of a pass, among all that it made
pub made_by : (pass : ℕ) (seen past : List Event) (e : Event) → pass ≡ e.pass → Extends seen (e ∷ past) → Extends (events_of pass seen) (e ∷ events_of pass past)
made_by pass seen past e by more =
    subst (λ (p : ℕ). Extends (events_of p seen) (e ∷ events_of p past)) (sym by)
    (subst (λ (l : List Event). Extends (events_of e.pass seen) l) (own past e) (picked_later e.pass seen (e ∷ past) more))

-- all but the newest
abbrev rest_of : List Event → List Event
rest_of [] = []
rest_of (e ∷ past) = past

-- what a pass had made before its next event
made_before : (v w : PassState) (e : Event) (g : GrownBy v w e) → v.number ≡ e.pass → events_of v.number g.earlier ≡ mine v
made_before v w e g by =
    let picked : events_of v.number (e ∷ g.earlier) ≡ e ∷ events_of v.number g.earlier = subst (λ (p : ℕ). events_of p (e ∷ g.earlier) ≡ e ∷ events_of p g.earlier) (sym by) (own g.earlier e) in
    let grew : events_of v.number (e ∷ g.earlier) ≡ e ∷ mine v = sym (ap (λ (l : List Event). events_of v.number l) g.seen) ∙ (sym (ap (λ (n : ℕ). events_of n w.seen) g.number) ∙ g.mine_grew) in
    ap rest_of (sym picked ∙ grew)

-- the line of the next event has the next number
pub next_line : {S : Type 0} (j k : JournalState S) (v w : PassState) (e : Event) (line : ℕ) (g : GrownBy v w e) → v.number ≡ e.pass → IsSameJournal j k → j.next ≡ j.first + (length (mine v) - j.standing) → line ≡ j.next
    → HasLine k (events_of v.number w.seen) (events_of v.number g.earlier) e line
next_line j k v w e line g by same next is =
    let stands : Extends w.seen (e ∷ g.earlier) = ([], g.seen) in
    has_line k (events_of v.number w.seen) (events_of v.number g.earlier) e line (made_by v.number w.seen g.earlier e by stands)
    (subst (λ (l : List Event). line ≡ k.first + (length l - k.standing)) (sym (made_before v w e g by)) (same_number j k (length (mine v)) line same (is ∙ next)))

-- a life goes on
pub life_on : {S : Type 0} (u v w : PassState) (i j k : JournalState S) → IsSameLife u v i j → IsSameLife v w j k → IsSameLife u w i k
life_on u v w i j k one two = record { number = two.number ∙ one.number; journal = same_on i j k one.journal two.journal }

pub life_itself : {S : Type 0} (v : PassState) (j : JournalState S) → IsSameLife v v j j
life_itself v j = record { number = refl; journal = same_itself j }

pub stays_alive : {L S : Type 0} (h g : HostState L S) → Stays h g → IsSameLife h.pass g.pass h.journal g.journal
stays_alive h g stays = record { number = stays.number; journal = stays.journal }

-- the same, of values that are known under other names
pub life_as : {S : Type 0} (v w v' w' : PassState) (j k j' k' : JournalState S) → v' ≡ v → w' ≡ w → j' ≡ j → k' ≡ k → IsSameLife v w j k → IsSameLife v' w' j' k'
life_as v w v' w' j k j' k' a b c d life =
    subst (λ (x : PassState). IsSameLife x w' j' k') (sym a) (subst (λ (x : PassState). IsSameLife v x j' k') (sym b)
    (subst (λ x. IsSameLife v w x k') (sym c) (subst (λ x. IsSameLife v w j x) (sym d) life)))

-- streams that come back do so by two events each
returned_length : (side : End) (n : ℕ) → length (returned side n) ≡ 2 * n
returned_length side zero = refl
returned_length side (suc n) =
    let one = length-append (returned side n) (done_at side (suc n) act.Crash ∷ done_at side (suc n) act.Recover ∷ []) in
    let before = returned_length side n in
    omega (arith, one, before)

-- of no more events the lines stand
most_stand : {S : Type 0} (version : Version) (known : Option Version) (lines standing : ℕ) (sink : S) → (opening version known lines standing sink).standing ≤ standing
most_stand version None lines standing sink = omega arith
most_stand version (Some known) lines standing sink = omega arith

-- so each event behind those has a line of its own
pub all_stood : {S : Type 0} (j : JournalState S) (version : Version) (known : Option Version) (lines n : ℕ) (sink : S) (side : End) (history : List Event) → IsSameJournal (opening version known lines (2 * n) sink) j
    → BeganSo (returned side n) history → j.standing ≤ length history
all_stood j version known lines n sink side history same (more, is) =
    let most = most_stand version known lines (2 * n) sink in
    let long = ap (λ (l : List Event). length l) is in
    let both = length-append more (reverse (returned side n)) in
    let turned = length-reverse (returned side n) in
    let two = returned_length side n in
    let standing = same.standing in
    omega (arith, most, long, both, turned, two, standing)
