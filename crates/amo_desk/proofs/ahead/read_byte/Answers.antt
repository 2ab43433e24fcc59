use Rattle.std.proofs.Common.{◌∙◌, sym, take}
use Rattle.amo_desk.proofs.Readers.{all_handed}
use Rattle.amo_desk.proofs.ahead.read_byte.Goals as goal

pub returns-then-is_empty : goal.returns-then-is_empty
returns-then-is_empty g c =
    let brought = c.in_ok-fill.ensures.filled in (
      brought.0,
      all_handed (g.I.Read.remaining c.args.reader.now) (g.I.Read.remaining c.read.new.self) (take c.in_ok-count.count c.read.new.buf) brought.0 c.fill.new.reader.now c.in_ok-count.ensures.bytes.0 brought.1
          (sym c.is_empty.ensures ∙ c.if-is_empty.true),
      brought.2,
    )
