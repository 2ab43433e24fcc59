use Rattle.amo_door.proofs.Told.{all_tell}
use Rattle.amo_door.proofs.laws.what_is_told_was_made.Goals as goal

pub returns-clause-made : goal.returns-clause-made
returns-clause-made c = λ life turns claim brings answer made right has h. (all_tell life turns claim brings answer made right has h).1

pub returns-clause-for_it : goal.returns-clause-for_it
returns-clause-for_it c = λ life turns claim brings answer made right has h. (all_tell life turns claim brings answer made right has h).0
