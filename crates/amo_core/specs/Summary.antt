-- How a side of a stream stands.
use Rattle.std.specs.Prelude.{Bool, Option, None, Some, List, [], length, ℕ}
use Rattle.amo_core.specs.declared.automaton.Automaton.{Automaton}
use Rattle.amo_core.specs.declared.automaton.Automaton.TheVariants.{Sender, Receiver}
use Rattle.amo_core.specs.declared.sender.SenderMode.{SenderMode}
use Rattle.amo_core.specs.declared.sender.SenderMode.TheVariants.{Quiet}
use Rattle.amo_core.specs.declared.summary.Summary.{Summary}
use Rattle.amo_core.specs.Automaton.{mode_of}
use Rattle.amo_core.specs.Sender as sender
use Rattle.amo_core.specs.Receiver as receiver

-- the messages that wait for their handshake
abbrev pub waiting_at : Automaton → List (List ℕ)
waiting_at (Sender s) = s.waiting
waiting_at (Receiver s) = []

-- the messages of the handshake that is open: those that travel in it, or that came in it and were not got
abbrev pub held_at : Automaton → List (List ℕ)
held_at (Sender s) = sender.held_by s.mode
held_at (Receiver s) = receiver.held_by s.mode

-- whether the last message put was got, where a sender is at rest and none waits
abbrev pub known_of : SenderMode → List (List ℕ) → Option Bool
known_of (Quiet got) [] = Some got
known_of _ _ = None

abbrev pub known_at : Automaton → Option Bool
known_at (Sender s) = known_of s.mode s.waiting
known_at (Receiver s) = None

-- what is told of an automaton
abbrev pub summary_of : Automaton → Summary
summary_of x = record { mode = mode_of x; waiting = length (waiting_at x); held = length (held_at x); known = known_at x }
