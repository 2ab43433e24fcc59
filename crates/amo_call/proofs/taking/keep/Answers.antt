use Rattle.std.proofs.Common.{refl}
use Rattle.amo_call.specs.Naming.{NotesTaken}
use Rattle.amo_call.proofs.taking.keep.Goals as goal

pub note-requires : goal.note-requires
note-requires g c =
    let claim = c.args.claim in
    NotesTaken claim.stream c.args.line c.args.message c.requires (record { stream_is = refl; taken = refl })
