-- What a host in a process of its own does, by what it was told.
use Rattle.std.specs.Prelude.{ℕ, ◌*◌, Option, None, option_map, unwrap_or, true, false}
use Rattle.amo_object.specs.declared.step.End.TheVariants.{Sender, Receiver}
use Rattle.amo_disk.specs.declared.opening.Wanted.{Wanted}
use Rattle.amo_window.specs.declared.pace.Pace.{Pace}
use Rattle.amo_live.specs.Service.{new_version}
use Rattle.amo_live.specs.declared.plan.Plan.{Plan}
use Rattle.amo_settings.specs.declared.settings.ReceiveSettings.{ReceiveSettings}
use Rattle.amo_settings.specs.declared.settings.SendSettings.{SendSettings}

abbrev pub microseconds : Option ℕ → Option ℕ
microseconds seconds = option_map (λ s. s * 1000000) seconds

-- the intervals of a host whose tick has so many microseconds: the first is one; the longest is 64, where it was not told
abbrev pub pace_of : ℕ → Option ℕ → Pace
pace_of tick most = record { first = tick; most = unwrap_or most (tick * 64) }

-- it puts messages until no more come, and waits for all that is on its way
abbrev pub sends : SendSettings → Plan
sends s = record {
  setup = record { side = Sender; streams = s.host.streams; pace = pace_of s.host.tick s.host.tick_most; each = s.each; batch = s.batch; most = 18446744073709551615; spelling = record { hex = s.hex; json = s.host.json } };
  limits = record { count = None; wait = microseconds s.host.wait; lingers = false; sync = s.host.sync; stats = microseconds s.host.stats };
  piece = unwrap_or s.host.piece 67108864;
}

-- it gets messages, no more than it was told, and waits a moment at its end
abbrev pub receives : ReceiveSettings → Plan
receives r = record {
  setup = record { side = Receiver; streams = r.host.streams; pace = pace_of r.host.tick r.host.tick_most; each = false; batch = false; most = unwrap_or r.count 18446744073709551615; spelling = record { hex = false; json = r.host.json } };
  limits = record { count = r.count; wait = microseconds r.host.wait; lingers = true; sync = r.host.sync; stats = microseconds r.host.stats };
  piece = unwrap_or r.host.piece 67108864;
}

-- what its host wants of its journal
abbrev pub wanted : Plan → Wanted
wanted p = record { side = p.setup.side; version = new_version p.setup; batch = p.setup.batch; sync = p.limits.sync; piece = p.piece }
