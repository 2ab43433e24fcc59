use Rattle.amo_schedule.proofs.Reading.{IsLine-fields_of}
use Rattle.amo_schedule.proofs.reader.ScheduleLineLineItem.fields_are_a_line.Goals as goal

pub returns : goal.returns
returns c = IsLine-fields_of
