use Rattle.std.proofs.Common.{◌≡◌, ◌≤◌, ◌+◌, ◌++◌, length, vec_capacity}
use Rattle.amo_host.specs.Room.{Suit, joined}
use Rattle.amo_host.proofs.room.assemble.Given as goal

-- the pumps passed stand there, and there is room for the rest
abbrev pub invariant-loop-agenda : goal.invariant-loop-agenda
invariant-loop-agenda g l = record {
  can_next : (goal.iterator-loop-agenda g).can_next l.agenda-iterator;
  is_finite : (goal.iterator-loop-agenda g).is_finite l.agenda-iterator;
  agendas : l.agenda-iterator.a.a.rest.len ≡ length l.agenda-iterator.a.a.rest.items;
  parts : l.agenda-iterator.a.b.rest.len ≡ length l.agenda-iterator.a.b.rest.items;
  words : l.agenda-iterator.b.rest.len ≡ length l.agenda-iterator.b.rest.items;
  suit : Suit l.agenda-iterator.a.a.rest.items l.agenda-iterator.a.b.rest.items;
  pumps : l.pumps.items ++ joined l.agenda-iterator.a.a.rest.items l.agenda-iterator.a.b.rest.items l.agenda-iterator.b.rest.items ≡ joined l.fn.agendas.items l.fn.parts.items l.fn.words.items;
  room : length l.pumps.items + length l.agenda-iterator.b.rest.items ≤ vec_capacity l.pumps;
}
