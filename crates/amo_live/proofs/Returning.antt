-- A host comes back: side after side crashes and is up again.
use Rattle.std.proofs.Common.{◌≡◌, ℕ, zero, suc, ◌+◌, ◌-◌, List, [], ◌∷◌, ◌++◌, ◌<◌, ◌≤◌, Bool, true, false, nat_le, if◌then◌else◌, Some, length, reverse, slice_get, take, refl, sym, ap, subst, ◌∙◌, append_assoc, append-nil, arith}
use Rattle.std.proofs.lemmas.Bool.{leb-true}
use Rattle.std.proofs.lemmas.List.{reverse-append}
use Rattle.std.proofs.lemmas.Option.{same_Some}
use Rattle.amo_object.specs.declared.step.End.{End}
use Rattle.amo_core.specs.declared.act.Act.TheVariants as act
use Rattle.amo_world.specs.declared.event.Event.{Event}
use Rattle.amo_world.specs.History.{events_of}
use Rattle.amo_book.specs.Pass.{PassState, mine}
use Rattle.amo_disk.specs.Back.{returned}
use Rattle.amo_host.specs.Station.{BelongTogether, IsStation, Station}
use Rattle.amo_live.specs.declared.given_word.GivenWord.{GivenWord}
use Rattle.amo_live.specs.Emitted.{OutboxState, AreEmitted}
use Rattle.amo_live.specs.Host.{HostState, IsHost, IsOpened, Stays, comes_back, done, first_events, sides_from}
use Rattle.amo_live.specs.Noted.{JournalState}
use Rattle.amo_live.specs.Standing.{BeganSo, standing_behind}
use Rattle.amo_live.specs.Words.{words_in}
use Rattle.amo_live.proofs.Onwards.{same_on}

-- a host, one of whose streams was driven by its pump
pub host_after : {L S : Type 0} (h : HostState L S) (pump : Station GivenWord) (w : PassState) (more : OutboxState) (k : JournalState S) → IsHost h → IsStation pump × BelongTogether h.book w pump → pump.host.side ≡ h.pump.host.side → w.number ≡ h.pass.number
    → AreEmitted w more × (length more.recent ≡ length h.outbox.recent) → IsHost (record h { pass = w; pump = pump; outbox = more; journal = k })
host_after h pump w more k is (station, together) side number (emitted, places) =
    record {
      together = together;
      station = station;
      side = side ∙ is.side;
      few = is.few;
      sides = is.sides;
      places = places ∙ is.places;
      number = number ∙ is.number;
      silent = is.silent;
      emitted = emitted;
    }

-- the side in a place
side_in : (side : End) (k n j stream : ℕ) → j < n → stream ≡ k + j → slice_get (sides_from side k n) j ≡ Some (side, stream)
side_in side k zero j stream within is = absurd (omega arith)
side_in side k (suc n) zero stream within is = let here : k ≡ stream = omega arith in ap (λ (m : ℕ). Some (side, m)) here
side_in side k (suc n) (suc j) stream within is = side_in side (suc k) n j stream (omega arith) (omega arith)

take_one : {A : Type 0} (xs : List A) (k : ℕ) (x : A) → slice_get xs k ≡ Some x → take (suc k) xs ≡ take k xs ++ x ∷ []
take_one [] k x at = cc
take_one (y ∷ xs) zero x at = ap (λ z. z ∷ []) (same_Some y x at)
take_one (y ∷ xs) (suc k) x at = ap (λ l. y ∷ l) (take_one xs k x at)

last_back : (pass : ℕ) (sides : List (End × ℕ)) (side : End) (stream : ℕ) (past : List Event)
    → comes_back pass (sides ++ (side, stream) ∷ []) past ≡ done pass side stream act.Recover ∷ done pass side stream act.Crash ∷ comes_back pass sides past
last_back pass [] side stream past = refl
last_back pass ((s, n) ∷ sides) side stream past = last_back pass sides side stream (done pass s n act.Recover ∷ done pass s n act.Crash ∷ past)

-- one side more came back
pub back_one : (pass : ℕ) (sides : List (End × ℕ)) (k : ℕ) (side : End) (stream : ℕ) (past : List Event) → slice_get sides k ≡ Some (side, stream)
    → comes_back pass (take (suc k) sides) past ≡ done pass side stream act.Recover ∷ done pass side stream act.Crash ∷ comes_back pass (take k sides) past
back_one pass sides k side stream past at = ap (λ l. comes_back pass l past) (take_one sides k (side, stream) at) ∙ last_back pass (take k sides) side stream past

-- what stays, stays
pub still_stays : {L S : Type 0} (h g f : HostState L S) → Stays h g → Stays g f → Stays h f
still_stays h g f one two = record {
  side = two.side ∙ one.side;
  book = two.book ∙ one.book;
  number = two.number ∙ one.number;
  streams = two.streams ∙ one.streams;
  link = two.link ∙ one.link;
  journal = same_on h.journal g.journal f.journal one.journal two.journal;
}

-- one side more came back: it crashed, and is up again
pub one_back : {L S : Type 0} (h g m f : HostState L S) (k j stream n : ℕ) → j ≡ suc k → stream ≡ 1 + k → h.book.sides ≡ sides_from h.side 1 n → k < n
    → Stays h g → mine g.pass ≡ comes_back h.pass.number (take k h.book.sides) (mine h.pass)
    → Stays g m → mine m.pass ≡ done g.pass.number g.side stream act.Crash ∷ mine g.pass
    → mine f.pass ≡ done m.pass.number m.side stream act.Recover ∷ mine m.pass
    → mine f.pass ≡ comes_back h.pass.number (take j h.book.sides) (mine h.pass)
one_back h g m f k j stream n next is sides within so_far before stays crashed recovered =
    let far = still_stays h g m so_far stays in
    let p = h.pass.number in let side = h.side in
    let at : slice_get h.book.sides k ≡ Some (side, stream) = subst (λ l. slice_get l k ≡ Some (side, stream)) (sym sides) (side_in side 1 n k stream within is) in
    let up : done m.pass.number m.side stream act.Recover ≡ done p side stream act.Recover = ap (λ (x : ℕ). done x m.side stream act.Recover) far.number ∙ ap (λ (s : End). done p s stream act.Recover) far.side in
    let down : done g.pass.number g.side stream act.Crash ≡ done p side stream act.Crash = ap (λ (x : ℕ). done x g.side stream act.Crash) so_far.number ∙ ap (λ (s : End). done p s stream act.Crash) so_far.side in
    let crash : mine m.pass ≡ done p side stream act.Crash ∷ comes_back p (take k h.book.sides) (mine h.pass) = crashed ∙ (ap (λ x. x ∷ mine g.pass) down ∙ ap (λ l. done p side stream act.Crash ∷ l) before) in
    let recover : mine f.pass ≡ done p side stream act.Recover ∷ mine m.pass = recovered ∙ ap (λ x. x ∷ mine m.pass) up in
    recover ∙ (ap (λ l. done p side stream act.Recover ∷ l) crash ∙ (sym (back_one p h.book.sides k side stream (mine h.pass) at) ∙ ap (λ (i : ℕ). comes_back p (take i h.book.sides) (mine h.pass)) (sym next)))

pub sides_length : (side : End) (k n : ℕ) → length (sides_from side k n) ≡ n
sides_length side k zero = refl
sides_length side k (suc n) = ap suc (sides_length side (suc k) n)

-- all sides came back
pub all_back : (sides : List (End × ℕ)) (n : ℕ) → n ≡ length sides → take n sides ≡ sides
all_back [] zero is = refl
all_back [] (suc n) is = absurd (omega arith)
all_back (s ∷ sides) zero is = absurd (omega arith)
all_back (s ∷ sides) (suc n) is = ap (λ l. s ∷ l) (all_back sides n (omega arith))

any_back : (pass : ℕ) (sides : List (End × ℕ)) (lines : ℕ) → 0 < lines → first_events pass sides lines ≡ comes_back pass sides []
any_back pass sides zero some = absurd (omega arith)
any_back pass sides (suc n) some = refl

-- a host that opened made no event
pub none_made : {L S : Type 0} (h : HostState L S) (side : End) (streams : ℕ) (link : L) (journal : JournalState S) → IsOpened side streams link journal h → mine h.pass ≡ []
none_made h side streams link journal opened = ap (events_of h.pass.number) opened.seen

-- a host that opened came back
pub first_back : {L S : Type 0} (h g : HostState L S) (side : End) (streams : ℕ) (link : L) (journal : JournalState S) (lines : ℕ) → IsOpened side streams link journal h → Stays h g → 0 < lines
    → mine g.pass ≡ comes_back h.pass.number h.book.sides (mine h.pass) → mine g.pass ≡ first_events g.pass.number (sides_from side 1 streams) lines
first_back h g side streams link journal lines opened stays some back =
    let none = none_made h side streams link journal opened in
    back ∙ (ap (λ l. comes_back h.pass.number h.book.sides l) none ∙ (ap (λ l. comes_back h.pass.number l []) opened.sides ∙ (ap (λ (n : ℕ). comes_back n (sides_from side 1 streams) []) (sym stays.number) ∙ sym (any_back g.pass.number (sides_from side 1 streams) lines some))))

-- sides that come back do so behind whatever was before
over_past : (pass : ℕ) (sides : List (End × ℕ)) (past : List Event) → comes_back pass sides past ≡ comes_back pass sides [] ++ past
over_past pass [] past = refl
over_past pass ((side, stream) ∷ sides) past =
    let up = done pass side stream act.Recover in let down = done pass side stream act.Crash in
    over_past pass sides (up ∷ down ∷ past) ∙ (sym (append_assoc (comes_back pass sides []) (up ∷ down ∷ []) past) ∙ ap (λ l. l ++ past) (sym (over_past pass sides (up ∷ down ∷ []))))

-- first some sides come back, then others
in_two : (pass : ℕ) (xs ys : List (End × ℕ)) (past : List Event) → comes_back pass (xs ++ ys) past ≡ comes_back pass ys (comes_back pass xs past)
in_two pass [] ys past = refl
in_two pass ((side, stream) ∷ xs) ys past = in_two pass xs ys (done pass side stream act.Recover ∷ done pass side stream act.Crash ∷ past)

sides_parted : (side : End) (k n m : ℕ) → sides_from side k (n + m) ≡ sides_from side k n ++ sides_from side (k + n) m
sides_parted side k zero m = ap (λ (i : ℕ). sides_from side k i) (let is : 0 + m ≡ m = omega arith in is) ∙ ap (λ (i : ℕ). sides_from side i m) (let is : k ≡ k + 0 = omega arith in is)
sides_parted side k (suc n) m =
    ap (λ (i : ℕ). sides_from side k i) (let is : suc n + m ≡ suc (n + m) = omega arith in is)
    ∙ ap (λ l. (side, k) ∷ l) (sides_parted side (suc k) n m ∙ ap (λ (i : ℕ). sides_from side (suc k) n ++ sides_from side i m) (let is : suc k + n ≡ k + suc n = omega arith in is))

-- the events by which the first of the streams came back, oldest first
returned_reversed : (side : End) (n : ℕ) → comes_back 1 (sides_from side 1 n) [] ≡ reverse (returned side n)
returned_reversed side zero = refl
returned_reversed side (suc n) =
    let up = done 1 side (suc n) act.Recover in let down = done 1 side (suc n) act.Crash in
    let one_more : sides_from side 1 (suc n) ≡ sides_from side 1 n ++ (side, suc n) ∷ [] = ap (λ (i : ℕ). sides_from side 1 i) (let is : suc n ≡ n + 1 = omega arith in is) ∙ (sides_parted side 1 n 1 ∙ ap (λ (i : ℕ). sides_from side 1 n ++ (side, i) ∷ []) (let is : 1 + n ≡ suc n = omega arith in is)) in
    ap (λ l. comes_back 1 l []) one_more ∙ (last_back 1 (sides_from side 1 n) side (suc n) [] ∙ (ap (λ l. up ∷ down ∷ l) (returned_reversed side n) ∙ sym (reverse-append (returned side n) (down ∷ up ∷ []))))

-- of the streams that come back the first did so first
pub back_began : (side : End) (n streams : ℕ) → n ≤ streams → BeganSo (returned side n) (comes_back 1 (sides_from side 1 streams) [])
back_began side n streams few =
    let others = sides_from side (1 + n) (streams - n) in
    let parted : sides_from side 1 streams ≡ sides_from side 1 n ++ others = ap (λ (i : ℕ). sides_from side 1 i) (let is : streams ≡ n + (streams - n) = omega (arith, few) in is) ∙ sides_parted side 1 n (streams - n) in
    (comes_back 1 others [], ap (λ l. comes_back 1 l []) parted ∙ (in_two 1 (sides_from side 1 n) others [] ∙ (over_past 1 others (comes_back 1 (sides_from side 1 n) []) ∙ ap (λ l. comes_back 1 others [] ++ l) (returned_reversed side n))))

few_or_none : (a b : ℕ) (test : Bool) → (test ≡ true → a ≤ b) → (if test then a else 0) ≤ b
few_or_none a b true few = few refl
few_or_none a b false few = omega arith

-- a host that came back behind so many lines began with what stands
pub began_standing : (pass : ℕ) (side : End) (streams lines back : ℕ) (history : List Event) → pass ≡ 1 → history ≡ first_events pass (sides_from side 1 streams) lines → BeganSo (returned side (standing_behind lines back streams)) history
began_standing pass side streams zero back history one is = (history, sym (append-nil history))
began_standing pass side streams (suc lines) back history one is =
    let began = back_began side (if nat_le back streams then back else 0) streams (few_or_none back streams (nat_le back streams) (leb-true back streams)) in
    (began.0, is ∙ (ap (λ (p : ℕ). comes_back p (sides_from side 1 streams) []) one ∙ began.1))

-- events by which sides come back bear no word
back_bears_none : (pass : ℕ) (sides : List (End × ℕ)) (past : List Event) → words_in (comes_back pass sides past) ≡ words_in past
back_bears_none pass [] past = refl
back_bears_none pass ((side, stream) ∷ sides) past = back_bears_none pass sides (done pass side stream act.Recover ∷ done pass side stream act.Crash ∷ past)

pub first_bears_none : (pass : ℕ) (sides : List (End × ℕ)) (lines : ℕ) → words_in (first_events pass sides lines) ≡ []
first_bears_none pass sides zero = refl
first_bears_none pass sides (suc n) = back_bears_none pass sides []
