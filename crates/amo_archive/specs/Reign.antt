-- Whose the lines of a host's journal are, and whose its puts.
use Rattle.std.specs.Prelude.{ℕ, zero, suc, ◌+◌, ◌==◌, ◌&&◌, ◌||◌, not, nat_lt, Bool, true, false, if◌then◌else◌, Option, Some, None, List, [], ◌∷◌, ◌++◌, drop, slice_get}
use Rattle.std.specs.List.{list_any}
use Rattle.amo_core.specs.declared.act.Act.{Act}
use Rattle.amo_core.specs.declared.act.Act.TheVariants as act
use Rattle.amo_core.specs.declared.reply.Reply.{Reply}
use Rattle.amo_core.specs.declared.reply.Reply.TheVariants as reply
use Rattle.amo_journal.specs.declared.numbered.Numbered.{Numbered}
use Rattle.amo_lives.specs.declared.doubt.Span.{Span}
use Rattle.amo_lives.specs.declared.life.Life.{Life}
use Rattle.amo_lives.specs.Life.{goes_on}
use Rattle.amo_archive.specs.declared.lane.Owner.{Owner}
use Rattle.amo_archive.specs.declared.past.Reign.{Reign}

-- by this act a side goes down, or is up again
abbrev pub comes_back : Act → Bool
comes_back act.Crash = true
comes_back act.Recover = true
comes_back _ = false

-- a host that comes back ends others' work: it is not known yet whose life it is
abbrev pub without_work : Bool → Reign → Reign
without_work back reign = if back && reign.is_at_work then record reign { life = None; is_at_work = false } else reign

-- whether the second of two lives goes on under other words, where both are there
abbrev pub follows : Option Life → Option Life → Bool
follows (Some life) (Some next) = goes_on life next
follows _ _ = false

-- whether the life at this place goes on where the words of the one before it were used up
abbrev pub goes_on_at : List Life → ℕ → Bool
goes_on_at lives zero = false
goes_on_at lives (suc place) = follows (slice_get lives place) (slice_get lives (suc place))

-- the next life begins: it reigns, unless somebody is at work, or it goes on for another
abbrev pub with_next : List Life → Reign → Reign
with_next lives reign = record reign { life = if reign.is_at_work || goes_on_at lives reign.upcoming then reign.life else Some reign.upcoming; upcoming = reign.upcoming + 1 }

-- of these lives, the last of all, those begin that have their first line here, or before it
abbrev pub begun : List Life → ℕ → List Life → Reign → Reign
begun lives number [] reign = reign
begun lives number (life ∷ more) reign = if nat_lt number life.first_line then reign else begun lives number more (with_next lives reign)

abbrev pub working : Bool → Reign → Reign
working back reign = record reign { is_at_work = reign.is_at_work || not back }

-- whose line this is, behind others
abbrev pub seen : List Life → Numbered → Reign → Reign
seen lives line reign =
    let back = comes_back line.event.act in
    let free = without_work back reign in
    working back (begun lives line.number (drop free.upcoming lives) free)

-- whose the newest of these lines is, which is the first of the list
abbrev pub reign_after : List Life → List Numbered → Reign
reign_after lives [] = record { life = None; is_at_work = false; upcoming = 0 }
reign_after lives (line ∷ past) = seen lives line (reign_after lives past)

-- a put was taken
abbrev pub is_taken : Act → Reply → Bool
is_taken (act.Put m) reply.Ok = true
is_taken _ _ = false

-- whether the line of this number is one of these
abbrev pub holds : ℕ → Span → Bool
holds number span = not (nat_lt number span.first) && nat_lt number span.end

-- the owner of the put of a stream that a line says was taken, if it says so
abbrev pub owner_by : List Span → ℕ → Reign → Numbered → List Owner
owner_by doubts stream reign line =
    if (line.event.stream == stream) && is_taken line.event.act line.event.reply
    then (record { life = reign.life; is_doubtful = list_any (holds line.number) doubts } ∷ []) else []

-- the owners of all puts that a stream took, by these lines, the oldest first
abbrev pub owners_of : List Life → List Span → ℕ → List Numbered → List Owner
owners_of lives doubts stream [] = []
owners_of lives doubts stream (line ∷ past) = owners_of lives doubts stream past ++ owner_by doubts stream (reign_after lives (line ∷ past)) line
