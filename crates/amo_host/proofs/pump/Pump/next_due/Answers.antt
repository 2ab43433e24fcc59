use Rattle.amo_host.proofs.pump.Pump.next_due.Goals as goal

pub returns : goal.returns
returns g c = rw (← c.self.view_is) c.next_due.ensures
