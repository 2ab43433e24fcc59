use Rattle.amo_live.proofs.outbox.give_back_all.Given as goal

abbrev pub decreases-parcels : goal.decreases-parcels
decreases-parcels l = goal.left-parcels l
