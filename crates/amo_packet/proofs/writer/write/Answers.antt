use Rattle.std.proofs.Common.{arith}
use Rattle.amo_packet.specs.Grammar.{spelling}
use Rattle.amo_packet.proofs.Lending.{written_short}
use Rattle.amo_packet.proofs.writer.write.Goals as goal

pub overflow_add-length : goal.overflow_add-length
overflow_add-length c = omega (arith, written_short c.args.packet.now.body c.requires, c.fields_length-length.ensures)

pub returns-then-buffer-length-clause-bounded : goal.returns-then-buffer-length-clause-bounded
unfolding spelling
returns-then-buffer-length-clause-bounded c = omega (arith, written_short c.args.packet.now.body c.requires)

pub returns-clause-bounded : goal.returns-clause-bounded
unfolding spelling
returns-clause-bounded c = omega (arith, written_short c.args.packet.now.body c.requires)
