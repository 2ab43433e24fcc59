use Rattle.amo_offline.proofs.pair.Reading.begin_next.Goals as goal

pub returns-in-None : goal.returns-in-None
returns-in-None g c = λ _ pieces pieces' have. (pieces, (pieces', c.end.ensures pieces pieces' have))
