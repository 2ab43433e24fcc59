use Rattle.std.proofs.Common.{◌≡◌, ◌∙◌, ap, add-one, rules}
use Rattle.amo_live.specs.Service.{shown_by, spelling_of}
use Rattle.amo_live.specs.Shown.{told_answer}
use Rattle.amo_live.proofs.service.Service.tell_answers.Goals as goal

pub messages-preserved : goal.messages-preserved
messages-preserved g c =
    let spelt : spelling_of c.messages.self ≡ spelling_of c.args.self.now = ap (λ s. spelling_of s) c.messages.invariant.same in
    record {
      told = rw add-one (c.in_ok-tell_answer.ensures.told ∙ (ap (λ s. told_answer s c.args.stream c.args.word (shown_by c.messages.self)) spelt ∙ ap (told_answer (spelling_of c.args.self.now) c.args.stream c.args.word) c.messages.invariant.told));
      same = search rules;
    }
