-- How a host with a door comes to its end.
use Rattle.std.specs.Prelude.{ℕ, ◌+◌, ◌-◌, ◌^◌, ◌&&◌, ◌||◌, min, nat_lt, not, Bool, if◌then◌else◌, Option, None, Some, is_some, unwrap_or}
use Rattle.amo_live.specs.declared.limits.Ended.{Ended}
use Rattle.amo_live.specs.declared.limits.Ended.TheVariants.{AtRest, OnItsWay}
use Rattle.amo_serve.specs.declared.ending.Farewell.{Farewell}

-- how many microseconds it waits for what is on its way, behind the first time that it was asked to end: as it was told; else a receiver waits for a second
abbrev pub wait_of : Option ℕ → Bool → Option ℕ
wait_of (Some wait) lingers = Some wait
wait_of None lingers = if lingers then Some 1000000 else None

-- so much later, as far as there are such times
abbrev pub later : ℕ → Option ℕ → Option ℕ
later since None = None
later since (Some wait) = Some (min (since + wait) (2 ^ 64 - 1))

abbrev pub end_since : Option ℕ → Option ℕ → Option ℕ
end_since None wait = None
end_since (Some since) wait = later since wait

-- when it ends at the latest, where it was asked to and does not wait without end
abbrev pub end_of : Farewell → Option ℕ
end_of farewell = end_since farewell.since (wait_of farewell.limits.wait farewell.limits.lingers)

-- it was asked to end, now or before
abbrev pub begun : Farewell → ℕ → Farewell
begun farewell now = record farewell { since = Some (unwrap_or farewell.since now) }

-- how it ends at its time: a receiver that was not told how long to wait and holds nothing has nothing more to wait for
abbrev pub ended_in_time : Option ℕ → Bool → Ended
ended_in_time wait holds = if holds || is_some wait then OnItsWay else AtRest

abbrev pub ended_by : Option ℕ → Ended → ℕ → Option Ended
ended_by None how now = None
ended_by (Some end) how now = if nat_lt now end then None else Some how

-- how it ends now, if it does: where it was asked to and nothing is open, or at its time
abbrev pub ended_of : Farewell → Bool → Bool → ℕ → Option Ended
ended_of farewell rests holds now =
    if is_some farewell.since && rests && not holds then Some AtRest
    else ended_by (end_of farewell) (ended_in_time farewell.limits.wait holds) now

-- the earlier of two times, of those that there are
abbrev pub earlier : Option ℕ → Option ℕ → Option ℕ
earlier (Some a) (Some b) = Some (min a b)
earlier (Some a) None = Some a
earlier None b = b
