use Rattle.std.proofs.Common.{◌-◌, refl}
use Rattle.amo_resolve.specs.declared.plan.Note.{Note}
use Rattle.amo_resolve.proofs.Planning.{noted_told, noted_least}
use Rattle.amo_resolve.proofs.plan.Ahead.note.Goals as goal

pub returns-then-self-clause-noted : goal.returns-then-self-clause-noted
returns-then-self-clause-noted c = λ calls notes plan known.
    let note : Note = record { is_down = c.args.is_down; wanted = c.args.self.got; is_told_yes = c.args.self.is_told_yes; is_told_no = c.args.self.is_told_no } in
    noted_told calls notes note plan known.yes c.if-self.true known.got known.no

pub returns-else-self-clause-noted : goal.returns-else-self-clause-noted
returns-else-self-clause-noted c = λ calls notes plan known.
    let note : Note = record { is_down = c.args.is_down; wanted = c.args.self.most - c.args.self.spared; is_told_yes = c.args.self.is_told_yes; is_told_no = c.args.self.is_told_no } in
    noted_least calls notes note c.args.self known known.yes c.if-self.false refl known.no
