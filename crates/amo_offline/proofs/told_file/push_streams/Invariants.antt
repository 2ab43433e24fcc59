use Rattle.std.specs.Prelude.{◌≡◌, ◌++◌, take}
use Rattle.std.specs.List.{flat_map}
use Rattle.amo_offline.specs.ToldFile.{stream_field}
use Rattle.amo_offline.proofs.told_file.push_streams.Given as goal

-- those of the streams so far were appended
abbrev pub invariant-streams : goal.invariant-streams
invariant-streams l = l.text.items ≡ l.fn.text.items ++ flat_map stream_field (take l.stream-index l.streams)
