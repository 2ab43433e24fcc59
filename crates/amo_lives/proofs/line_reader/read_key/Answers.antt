use Rattle.amo_lives.proofs.Parts.{other_count}
use Rattle.amo_lives.proofs.line_reader.read_key.Goals as goal

pub returns-else-count-eq16-clause-none : goal.returns-else-count-eq16-clause-none
returns-else-count-eq16-clause-none c = λ key known.
    let read = c.in_ok-count.ensures in
    other_count c.args.field.now c.read_hex.new.room key c.in_ok-count.count 16 read.found read.bytes read.within c.if-count-eq16.false known.1 known.0
