use Rattle.std.proofs.Common.{drop, sym, ◌∙◌}
use Rattle.amo_text.proofs.Readings.{is_empty}
use Rattle.amo_audit.proofs.Reader.{all_told}
use Rattle.amo_audit.proofs.event_reader.EventReader.is_all_read.Goals as goal

pub returns : goal.returns
returns c = λ all text events has.
    all_told c.args.self.now.version (drop c.args.self.now.read c.args.self.now.text.items) text events (sym c.rest.ensures ∙ is_empty c.rest.result.now (sym all ∙ c.is_empty.ensures)) has.read
