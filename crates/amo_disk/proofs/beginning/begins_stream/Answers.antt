use Rattle.std.proofs.Common.{sym, ◌∙◌}
use Rattle.std.proofs.lemmas.Bool.{true≢false}
use Rattle.amo_disk.proofs.Beginnings.{alone, and_act, stream_and_act, was_read}
use Rattle.amo_disk.proofs.beginning.begins_stream.Goals as goal

pub returns-then-is_some : goal.returns-then-is_some
returns-then-is_some c =
    let reads = was_read c.in-Some.stream.now c.read_stream.result c.read_stream.ensures.found c.read_stream.ensures.none in
    and_act c.args.side c.args.text.now c.in-Some.stream.now c.in-Some.act.now c.begins_act.result c.in-Some.ensures.found.0 c.in-Some.ensures.found.1 (reads.0 (sym c.is_some.ensures ∙ c.if-is_some.true))
    c.begins_act.ensures

pub returns-else-is_some : goal.returns-else-is_some
returns-else-is_some c =
    let reads = was_read c.in-Some.stream.now c.read_stream.result c.read_stream.ensures.found c.read_stream.ensures.none in
    let cut = c.in-Some.ensures.found in
    (λ yes. absurd (true≢false (sym yes ∙ c.if-is_some.false)), λ begins. c.is_some.ensures ∙ reads.1 (stream_and_act c.args.side c.args.text.now c.in-Some.stream.now c.in-Some.act.now cut.0 cut.1 begins).0)

pub returns-else-is_empty : goal.returns-else-is_empty
returns-else-is_empty c =
    let text = c.args.text.now in let is = c.is_some-else-is_empty.ensures in
    let reads = was_read text c.read_stream-else-is_empty.result c.read_stream-else-is_empty.ensures.found c.read_stream-else-is_empty.ensures.none in
    alone c.args.side text c.is_some-else-is_empty.result c.in-None.ensures.none (sym c.is_empty.ensures ∙ c.if-is_empty.false) (λ yes. reads.0 (sym is ∙ yes), λ names. is ∙ reads.1 names)
