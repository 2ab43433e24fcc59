-- What each step tells: of the step, the seat before, the number found and the seat after.
use Rattle.std.specs.Prelude.{◌≡◌, ◌≢◌, ℕ, ◌+◌, ◌%◌, ◌^◌, List, [], ◌∷◌, ◌++◌, length, Option, Some, None}
use Rattle.atomic_table.specs.Table.{Me, Step}
use Rattle.amo_object.specs.declared.step.End.{End}
use Rattle.amo_object.specs.declared.step.End.TheVariants.{Sender}
use Rattle.amo_core.specs.declared.act.Act.TheVariants.{Ack}
use Rattle.amo_core.specs.declared.reply.Reply.TheVariants.{Yes}
use Rattle.amo_core.specs.declared.automaton.Automaton.{Automaton}
use Rattle.amo_core.specs.Automaton.{row}
use Rattle.amo_world.specs.declared.event.Event.{Event}
use Rattle.amo_world.specs.History.{IsRight, Extends, events_of}
use Rattle.amo_book.specs.declared.view.View.{View}
use Rattle.amo_book.specs.declared.view.Share.{Share}
use Rattle.amo_book.specs.Pass.{automaton_after, event}
use Rattle.amo_book.specs.Rule.{Slot, Has, AllBelow, share, gate_of, slot_of}

-- a seat: its view, and the slots that are out with it
abbrev pub Sat : Type 0
Sat = Me Slot View

-- what a seat has seen, what those that it met had seen, the shares that it has, and the side that it holds
abbrev pub view : List Event → List Event → List Share → Option (ℕ × Automaton) → View
view seen met shares held = record { seen = seen; met = met; shares = shares; held = held }

-- a seat that holds nothing, and has one pass's share
abbrev pub IsAtRest : Sat → Type 0
IsAtRest m = (m.1 ≡ []) × (m.0.held ≡ None) × ((p : ℕ) × (made : List Event) × (m.0.shares ≡ share p made ∷ []))

-- the history so far was seen, and r is its length
abbrev pub Looks : Sat → Sat → ℕ → Type 0
Looks m n r = (n ≡ (view n.0.seen m.0.met m.0.shares m.0.held, m.1)) × Extends n.0.seen m.0.seen × Extends n.0.seen m.0.met × IsRight n.0.seen
    × ((p : ℕ) (made : List Event) → Has m.0.shares p made → events_of p n.0.seen ≡ made) × (r ≡ length n.0.seen % 2 ^ 64)

-- the load of the count: each event that was seen bears the number of one of so many passes
abbrev pub looked : ℕ → Step Slot → Sat → ℕ → Sat → Type 0
looked passes st m r n = Looks m n r × AllBelow passes n.0.seen

-- The same of a seat that holds this side of the stream: it is as the history left it that was seen.
abbrev pub Sees : End → ℕ → Sat → Sat → ℕ → Type 0
Sees side stream m n r = Looks m n r × ((k : ℕ) (x : Automaton) → m.0.held ≡ Some (k, x) → x ≡ automaton_after side stream n.0.seen)

-- the load of the count by such a seat
abbrev pub saw : End → ℕ → Step Slot → Sat → ℕ → Sat → Type 0
saw side stream st m r n = Sees side stream m n r

-- the seat has taken the slot of the place k, in which x lies
abbrev pub taken : ℕ → Automaton → Sat → Sat
taken k x m = (view m.0.seen m.0.met m.0.shares (Some (k, x)), (slot_of k, Some x) ∷ [])

-- the slot of the place k is taken, with the automaton of this side of the stream after some history
abbrev pub Took : End → ℕ → ℕ → Sat → Sat → Type 0
Took side stream k m n = (x : Automaton) × ((log : List Event) × (x ≡ automaton_after side stream log)) × (n ≡ taken k x m)

-- the compare-exchange of a gate, which was free where it found 0
abbrev pub tried : End → ℕ → Step Slot → Sat → ℕ → Sat → Type 0
tried side stream st m r n = (r ≡ 0 → (k : ℕ) → st.word ≡ gate_of k → Took side stream k m n) × (r ≢ 0 → n ≡ m)

-- the store into a gate: nothing is held any more
abbrev pub freed : Step Slot → Sat → ℕ → Sat → Type 0
freed st m r n = n ≡ (view m.0.seen m.0.met m.0.shares None, [])

-- the event stands last in the history that was seen, and is one more of the pass's; what is held is as its row leaves it
abbrev pub Counts : Event → Sat → Sat → ℕ → Type 0
Counts e m n r = (k : ℕ) (x : Automaton) (p : ℕ) (made : List Event) → m.0.held ≡ Some (k, x) → m.0.shares ≡ share p made ∷ []
    → (n ≡ (view n.0.seen m.0.met (share p (e ∷ made) ∷ []) (Some (k, (row x e.act).state)), m.1))
    × ((earlier : List Event) × (n.0.seen ≡ e ∷ earlier) × Extends earlier m.0.seen × (x ≡ automaton_after e.side e.stream earlier))
    × IsRight n.0.seen × (events_of p n.0.seen ≡ e ∷ made) × ((r + 1) % 2 ^ 64 ≡ length n.0.seen % 2 ^ 64)

-- the fetch_add on the count
abbrev pub counted : Event → Step Slot → Sat → ℕ → Sat → Type 0
counted e st m r n = Counts e m n r

-- an event, which one does not matter
abbrev pub some_event : Event
some_event = event 0 Sender 0 Ack Yes

-- the first share alone, and the shares after it
abbrev pub first_of : List Share → List Share
first_of [] = []
first_of (x ∷ xs) = x ∷ []

abbrev pub rest_of : List Share → List Share
rest_of [] = []
rest_of (x ∷ xs) = xs

-- a view of nothing
abbrev pub bare : View
bare = view [] [] [] None

-- the view of a seat that gives nothing away
abbrev pub same_view : View → View
same_view v = v

-- the view of a witness: what was seen, and nothing else
abbrev pub witness : View → View
witness v = view v.seen [] [] None

-- the view of a new seat with the first share, and of the one that gave it away
abbrev pub first_share : View → View
first_share v = view [] [] (first_of v.shares) None

abbrev pub other_shares : View → View
other_shares v = view v.seen v.met (rest_of v.shares) v.held

-- the first has met the second, and has its shares
abbrev pub joined : View → View → View
joined v w = view v.seen w.seen (w.shares ++ v.shares) v.held
