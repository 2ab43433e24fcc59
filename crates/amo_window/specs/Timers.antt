-- Timers: when each stream is to be sent again.
use Rattle.std.specs.Prelude.{ℕ, ◌+◌, ◌-◌, ◌*◌, ◌^◌, ◌≤◌, ◌==◌, nat_le, min, Bool, false, if◌then◌else◌, List, map, filter, length, Option, None, Some, is_some}
use Rattle.std.specs.List.Sorted.{IsStrictlyIncreasing}
use Rattle.amo_window.specs.declared.timers.Timer.{Timer}
use Rattle.amo_window.specs.declared.pace.Pace.{Pace}

-- the streams of timers
abbrev pub streams_of : List Timer → List ℕ
streams_of timers = map (λ t. t.stream) timers

-- the greatest number of streams that have timers together
abbrev pub most_timers : ℕ
most_timers = 256

-- streams that timers can be made for: they are not too many, and they rise
pub record CanBeTimed (streams : List ℕ) : Type 0 where
  pub few : length streams ≤ most_timers
  pub rising : IsStrictlyIncreasing streams

-- the pace that counts in ticks: 1, then 2, 4, and so on up to 64
abbrev pub in_ticks : Pace
in_ticks = record { first = 1; most = 64 }

-- at this pace, no time is set, and the first interval comes next
abbrev pub resting : Pace → ℕ → Timer
resting pace stream = record { stream = stream; next = None; interval = pace.first; pace = pace }

-- the same in ticks
abbrev pub unset : ℕ → Timer
unset stream = resting in_ticks stream

-- a packet was sent at this time: the next one is due an interval later, and the interval after that is twice as
-- long. The time is at most the greatest u64, the interval at most the longest of the pace.
abbrev pub sent : ℕ → Timer → Timer
sent time t = record t { next = Some (min (time + t.interval) (2 ^ 64 - 1)); interval = min (2 * t.interval) t.pace.most }

-- no time is set any more, and the first interval comes next
abbrev pub stopped : Timer → Timer
stopped t = resting t.pace t.stream

-- where a time is set, it begins anew, as if a packet was sent at this time for the first time
abbrev pub hastened : ℕ → Timer → Timer
hastened time t = if is_some t.next then sent time (stopped t) else t

-- the timers, with that of this stream changed
abbrev pub changed : (Timer → Timer) → ℕ → List Timer → List Timer
changed change stream timers = map (λ t. if t.stream == stream then change t else t) timers

-- a time is set and has come
abbrev pub has_come : ℕ → Option ℕ → Bool
has_come time None = false
has_come time (Some next) = nat_le next time

-- the streams that are due, in their order
abbrev pub due : ℕ → List Timer → List ℕ
due time timers = streams_of (filter (λ t. has_come time t.next) timers)
