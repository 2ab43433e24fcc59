use Rattle.std.proofs.Common.{◌∙◌, sym}
use Rattle.amo_call.specs.Naming.{NotesDone}
use Rattle.amo_call.proofs.taking.note_done.Goals as goal

pub note-requires : goal.note-requires
note-requires g c = NotesDone c.args.kept c.requires (sym c.done.ensures ∙ c.in-Some.is)
