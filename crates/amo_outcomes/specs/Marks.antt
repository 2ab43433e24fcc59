-- What is known of each put of a sender.
use Rattle.std.specs.Prelude.{◌≡◌, ℕ, ◌-◌, ◌<◌, ◌≤◌, Some, List, length, slice_get}
use Rattle.std.specs.List.{Contains, range_with_len}
use Rattle.amo_outcomes.specs.declared.marks.Mark.{Mark}
use Rattle.amo_outcomes.specs.declared.marks.Mark.TheVariants.{Unsent, Sent, Settled, Got}
use Rattle.amo_outcomes.specs.declared.marks.Run.{Run}
use Rattle.amo_outcomes.specs.Heard.{Heard}

-- the mark that says more
abbrev pub raised : Mark → Mark → Mark
raised Got other = Got
raised one Got = Got
raised Settled other = Settled
raised one Settled = Settled
raised Sent other = Sent
raised one Sent = Sent
raised Unsent Unsent = Unsent

-- a put is one of the run
abbrev pub IsIn : Run → ℕ → Type 0
IsIn run put = (run.first ≤ put) × (put < run.end)

-- the puts of the run, in order
abbrev pub puts_in : Run → List ℕ
puts_in run = range_with_len run.first (run.end - run.first)

-- each put of the run has this mark, unless more was known of it
pub record AreRaised (mark : Mark) (run : Run) (old new : List Mark) : Type 0 where
  pub count : length new ≡ length old
  pub inside : (put : ℕ) (m : Mark) → IsIn run put → slice_get old put ≡ Some m → slice_get new put ≡ Some (raised mark m)
  pub outside : (put : ℕ) → (¬ (IsIn run put)) → slice_get new put ≡ slice_get old put

-- what a mark says of a put, where these were sent and this was heard
abbrev pub Says : Mark → List ℕ → Heard → ℕ → Type 0
Says Unsent sent h put = ¬ (Contains sent put)
Says Sent sent h put = Contains sent put × (¬ (Contains h.settled put)) × (¬ (Contains h.got put))
Says Settled sent h put = Contains h.settled put × (¬ (Contains h.got put))
Says Got sent h put = Contains h.got put

-- each of so many puts has its mark; and what is settled or got was sent
pub record AreMarked (marks : List Mark) (count : ℕ) (sent : List ℕ) (h : Heard) : Type 0 where
  pub each : length marks ≡ count
  pub says : (put : ℕ) (m : Mark) → slice_get marks put ≡ Some m → Says m sent h put
  pub settled_was_sent : (put : ℕ) → Contains h.settled put → Contains sent put
  pub got_was_sent : (put : ℕ) → Contains h.got put → Contains sent put
