use Rattle.std.proofs.Common.{◌∙◌, arith}
use Rattle.std.proofs.lemmas.List.{length-set}
use Rattle.amo_audit.proofs.Places.{marks_more}
use Rattle.amo_audit.proofs.marking.SideSet.add.Goals as goal

pub returns : goal.returns
returns c = λ past (long, marks). (
  length-set _ _ _ ∙ long,
  marks_more c.args.self.now.has past c.args.event.now c.place.result (omega (arith, long, c.place.ensures.small)) c.place.ensures.value marks,
)
