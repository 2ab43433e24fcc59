-- The version of journals that tells of a run.
use Rattle.std.specs.Prelude.{Bool, true, false}
use Rattle.amo_host.specs.Station.{Station}
use Rattle.amo_journal.specs.declared.version.Version.{Version}
use Rattle.amo_journal.specs.declared.version.Version.TheVariants.{One, Two}

-- where messages travel together it is the second
abbrev pub version_for : Bool → Version
version_for false = One
version_for true = Two

-- a pump whose starts are of batches, or of single messages
abbrev pub starting : {W : Type 0} → Bool → Station W → Station W
starting batch s = record s { batches = batch }

-- the version that has a line for each event of a pump
abbrev pub version_of : {W : Type 0} → Station W → Version
version_of s = version_for s.batches
