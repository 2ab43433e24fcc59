use Rattle.std.proofs.Common.{refl}
use Rattle.amo_call.specs.declared.kept.Progress.TheVariants as progress
use Rattle.amo_call.specs.Naming.{NamesNext}
use Rattle.amo_call.proofs.taking.take_next.Goals as goal

pub name-requires : goal.name-requires
name-requires g c =
    let claim = c.args.claim in
    let line = c.args.line in
    NamesNext (record { claim = claim; progress = progress.Done line }) claim.stream line c.requires (record { stream_is = refl; done = refl })
    (cc (c.saturating_add.ensures))
