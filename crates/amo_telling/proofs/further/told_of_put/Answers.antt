use Rattle.amo_telling.proofs.further.told_of_put.Goals as goal

pub returns-in-Some : goal.returns-in-Some
returns-in-Some c = λ past follows less. (c.in-Some.alone, c.in-Some.ensures.some past follows, c.further.ensures)
