use Rattle.amo_host.proofs.AtStreamLemmas.{quiet_there, there_quiet}
use Rattle.amo_host.proofs.agenda.Agenda.may_begin.Goals as goal

pub returns : goal.returns
returns c =
    let h = c.args.self.now in (
      λ yes. record {
        may = rw (← c.self.view_is) (record { sender = c.is_sender.ensures.0 c.if-not-is_sender.false; free = c.is_free.ensures.free.0 c.if-not-is_free.false });
        quiet = quiet_there h c.args.place c.mode_in.result c.mode_in.ensures c.requires (c.is_quiet.ensures.0 yes);
      },
      λ may. c.is_quiet.ensures.1 (there_quiet h c.args.place c.mode_in.result c.mode_in.ensures may.quiet),
    )
