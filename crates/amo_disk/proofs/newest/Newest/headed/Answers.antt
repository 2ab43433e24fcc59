use Rattle.std.proofs.Common.{ap, length, refl}
use Rattle.amo_disk.proofs.Parts.{heading_whole}
use Rattle.amo_disk.proofs.newest.Newest.headed.Goals as goal

pub returns : goal.returns
returns c = record { length_is = ap length c.heading.ensures; whole = (λ _. heading_whole c.args.version, λ _. refl) }
