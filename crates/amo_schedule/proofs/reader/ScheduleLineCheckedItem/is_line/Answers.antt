use Rattle.std.proofs.Common.{sym}
use Rattle.amo_schedule.proofs.Reading.{told_by}
use Rattle.amo_schedule.proofs.reader.ScheduleLineCheckedItem.is_line.Goals as goal

pub returns : goal.returns
returns c = let told = told_by c.args.text.now c.parse.result c.parse.ensures in rw (sym c.is_some.ensures) at told
