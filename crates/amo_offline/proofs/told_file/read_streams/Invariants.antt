use Rattle.std.specs.Prelude.{◌≡◌, ◌++◌}
use Rattle.std.specs.List.{flat_map}
use Rattle.amo_offline.specs.ToldFile.{fields_in, stream_field}
use Rattle.amo_offline.proofs.told_file.read_streams.Given as goal

-- the streams that were read, and what is left
abbrev pub invariant-fields : goal.invariant-fields
invariant-fields l = fields_in l.text ≡ flat_map stream_field l.streams.items ++ fields_in l.rest
