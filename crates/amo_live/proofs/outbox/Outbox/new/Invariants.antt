use Rattle.std.specs.Prelude.{◌≡◌, length}
use Rattle.amo_book.specs.Book.{Each}
use Rattle.amo_live.specs.Emitted.{nothing_recent}
use Rattle.amo_live.proofs.outbox.Outbox.new.Given as goal

-- so far there is one for each place, of which nothing is known
abbrev pub invariant-places : goal.invariant-places
invariant-places l = (length l.recent.items ≡ l._place) × Each (λ r. r ≡ nothing_recent) l.recent.items
