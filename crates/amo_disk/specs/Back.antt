-- The events by which a host came back, at the end of others.
use Rattle.std.specs.Prelude.{◌≡◌, ℕ, zero, suc, ◌-◌, ◌≤◌, ◌==◌, true, false, not, ◌&&◌, if◌then◌else◌, List, [], ◌∷◌, ◌++◌}
use Rattle.amo_object.specs.declared.step.End.{End}
use Rattle.amo_core.specs.declared.act.Act.{Act}
use Rattle.amo_core.specs.declared.act.Act.TheVariants as act
use Rattle.amo_core.specs.declared.reply.Reply.TheVariants as reply
use Rattle.amo_world.specs.declared.event.Event.{Event}
use Rattle.amo_disk.specs.declared.returns.Returns.{Returns}

-- this side of this stream crashed, or is up again, by an act of a live host
abbrev pub done_at : End → ℕ → Act → Event
done_at side stream a = record { pass = 1; side = side; stream = stream; act = a; reply = reply.Done }

-- each of the streams from 1 to this one crashed and is up again, in their order
abbrev pub returned : End → ℕ → List Event
returned side zero = []
returned side (suc n) = returned side n ++ done_at side (suc n) act.Crash ∷ done_at side (suc n) act.Recover ∷ []

-- so end these events
abbrev pub EndsBack : End → List Event → ℕ → Type 0
EndsBack side events n = (earlier : List Event) × (events ≡ earlier ++ returned side n)

-- this is the greatest number of streams of which the last events tell that they came back
pub record IsBack (side : End) (events : List Event) (n : ℕ) : Type 0 where
  pub ends : EndsBack side events n
  pub greatest : (m : ℕ) → EndsBack side events m → m ≤ n

-- the last events are none of those
abbrev pub no_returns : Returns
no_returns = record { streams = 0; has_crash = false }

-- what is so behind one act more at a stream
abbrev pub returns_at : Returns → ℕ → Act → Returns
returns_at r stream act.Crash = if stream == 1 then record { streams = 0; has_crash = true } else if (stream - 1 == r.streams) && not r.has_crash then record { streams = r.streams; has_crash = true } else no_returns
returns_at r stream act.Recover = if (stream - 1 == r.streams) && r.has_crash then record { streams = stream; has_crash = false } else no_returns
returns_at r stream _ = no_returns

-- and behind one event more
abbrev pub returns_after : Returns → Event → Returns
returns_after r e = if e.pass == 1 then returns_at r e.stream e.act else no_returns

-- and behind several
abbrev pub returns_behind : Returns → List Event → Returns
returns_behind r [] = r
returns_behind r (e ∷ events) = returns_behind (returns_after r e) events

-- how many streams came back by the last events
abbrev pub back_of : Returns → ℕ
back_of r = if r.has_crash then 0 else r.streams
