use Rattle.std.proofs.Common.{refl, arith}
use Rattle.std.specs.Int.{to_be_bytes, w32}
use Rattle.amo_lives.proofs.Fields.{tag_bytes}
use Rattle.amo_lives.proofs.Parts.{other_count}
use Rattle.amo_archive.proofs.past.tag_of.Goals as goal

pub returns-in_err-count-clause-none : goal.returns-in_err-count-clause-none
returns-in_err-count-clause-none c = rw c.from_residual.ensures (λ tag small. c.in_err-count.ensures.none (to_be_bytes w32 tag) (tag_bytes tag) (omega arith))

pub returns-else-count-eq4-clause-none : goal.returns-else-count-eq4-clause-none
returns-else-count-eq4-clause-none c = λ tag small.
    let read = c.in_ok-count.ensures in
    other_count c.args.text.now c.read_hex.new.room (to_be_bytes w32 tag) c.in_ok-count.count 4 read.found read.bytes read.within c.if-count-eq4.false (tag_bytes tag) refl
