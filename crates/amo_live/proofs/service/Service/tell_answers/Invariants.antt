use Rattle.std.specs.Prelude.{◌≡◌}
use Rattle.amo_live.specs.Service.{shown_by, spelling_of}
use Rattle.amo_live.specs.Shown.{told_answers}
use Rattle.amo_live.proofs.service.Service.tell_answers.Given as goal

-- the answers so far were told
abbrev pub invariant-messages : goal.invariant-messages
invariant-messages g l = record {
  told : shown_by l.self ≡ told_answers (spelling_of l.fn.self) l.stream l.word l._message (shown_by l.fn.self);
  same : l.self ≡ record l.fn.self { shown = l.self.shown; ids = l.self.ids };
}
