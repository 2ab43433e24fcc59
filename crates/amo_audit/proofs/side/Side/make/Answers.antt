use Rattle.std.proofs.Common.{refl}
use Rattle.amo_audit.proofs.Kept.{stepped}
use Rattle.amo_audit.proofs.side.Side.make.Goals as goal

pub returns : goal.returns
returns c = λ automaton emitted keeps.
    stepped c.args.self.now c.note.new.self (record c.note.new.self { automaton = c.advance.new.self }) c.args.act automaton emitted c.in_ok-emitted.emitted
    c.advance.ensures.state refl c.in_ok-note.ensures.state c.in_ok-emitted.ensures keeps (c.in_ok-note.ensures.known automaton emitted keeps)
