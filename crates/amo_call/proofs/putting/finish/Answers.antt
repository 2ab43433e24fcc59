use Rattle.std.proofs.Common.{◌≡◌, inr, refl, ap, rules}
use Rattle.amo_call.specs.declared.kept.Progress.TheVariants as progress
use Rattle.amo_call.specs.Naming.{NotesPut}
use Rattle.amo_call.proofs.putting.finish.Goals as goal

pub note-requires : goal.note-requires
note-requires g c =
    let order = c.args.order.now in
    let line = c.args.line in
    let same : c.in_ok-message.message ≡ order.message = search rules in
    NotesPut order line (record {
      call = c.args.turn.kept;
      is_reached = c.requires.saved;
      claim_is = refl;
      by = inr (c.requires.putting, c.requires.put);
    }) (record { stream = c.requires.putting.stream; message = ap (progress.Put line) same })
