use Rattle.std.proofs.Common.{◌≡◌, ◌∙◌, ap}
use Rattle.amo_core.specs.declared.act.Act.{Act}
use Rattle.amo_core.specs.Automaton.{row}
use Rattle.amo_audit.proofs.Lone.{moved}
use Rattle.amo_audit.proofs.lone_side.LoneSide.make.Goals as goal

pub returns : goal.returns
returns c = λ automaton words keeps.
    let now : c.advance.new.self ≡ (row c.note.new.self.automaton c.args.act.now).state =
    c.advance.ensures.state ∙ ap (λ (a : Act). (row c.note.new.self.automaton a).state) c.in_ok-copy.ensures in
    moved c.note.new.self c.advance.new.self c.args.act.now automaton _ now (c.in_ok-note.ensures.known automaton words keeps)
