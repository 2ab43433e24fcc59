use Rattle.amo_door.proofs.Told.{told_one}
use Rattle.amo_door.proofs.laws.no_two_callers_are_told.Goals as goal

pub returns-clause-same : goal.returns-clause-same
returns-clause-same c = λ life turns claim other brings brought answer given made again right has had h t stream number.
    (told_one life turns claim other brings brought answer given made again right has had h t stream number).0

pub returns-clause-one_caller : goal.returns-clause-one_caller
returns-clause-one_caller c = λ life turns claim other brings brought answer given made again right has had h t stream number.
    (told_one life turns claim other brings brought answer given made again right has had h t stream number).1
