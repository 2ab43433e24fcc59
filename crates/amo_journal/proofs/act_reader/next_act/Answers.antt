use Rattle.amo_journal.proofs.InFront.{other_act}
use Rattle.amo_journal.proofs.act_reader.next_act.Goals as goal

pub returns-in_default-read_act_name-clause-none : goal.returns-in_default-read_act_name-clause-none
returns-in_default-read_act_name-clause-none c = λ a rest known.
    let cut = c.in-Some.ensures.found in
    other_act c.args.text.now _ _ cut.0 cut.1 c.in_default-read_act_name.ensures.none a rest
