use Rattle.amo_audit.proofs.Lone.{is_new, taken}
use Rattle.amo_audit.proofs.lone_side.LoneSide.take.Goals as goal

pub returns-clause-taken : goal.returns-clause-taken
returns-clause-taken c = λ automaton words keeps.
    taken c.args.self.now c.make.new.self c.args.act.now c.args.reply.now c.used_word-word.result automaton words keeps (c.replies.ensures.0 c.if-not-replies.false) c.used_word-word.ensures
    (is_new c.used_word-word.result words c.has_used.result c.if-has_used.false (c.has_used.ensures automaton words keeps)) (c.in_ok-make.ensures automaton words keeps)
