use Rattle.std.proofs.Common.{◌∙◌, sym, ap, drop, arith}
use Rattle.amo_live.specs.Unanswered.{left_by}
use Rattle.amo_live.proofs.Keeping.{only_puts, same_puts}
use Rattle.amo_live.proofs.stream_lines.StreamLines.end.Goals as goal

pub returns : goal.returns
returns c =
    let lines = c.self.inside.written.items in
    let dropped = c.drop_puts-of_handshakes.new.lines.items in
    let counted = c.drop_puts-of_handshakes.ensures.others c.self.invariant.0 in
    only_puts c.drop_puts-of_handshakes.result dropped (omega (arith, counted))
    ∙ (c.drop_puts-of_handshakes.ensures.puts ∙ (ap (drop c.args.messages) (sym (same_puts c.self.inside.left_out lines)) ∙ ap (left_by c.args.messages) c.self.view_is))
