use Rattle.std.proofs.Common.{◌≡◌, ◌∙◌, ◌++◌, ap, rules}
use Rattle.amo_live.specs.Unanswered.{text_on}
use Rattle.amo_live.proofs.Keeping.{both_parts}
use Rattle.amo_live.proofs.stream_lines.StreamLines.push_to.Goals as goal

pub returns : goal.returns
returns c =
    let lines = c.self.inside.written.items in
    let front = c.as_slices.result.0.now in
    let behind = c.as_slices.result.1.now in
    let are : front ++ behind ≡ lines = search rules in
    both_parts c.self.inside.left_out c.in_ok-left_out.left_out front behind lines c.args.text.now.items c.push_texts.new.text.items c.push_texts-2.new.text.items are c.in_ok-left_out.ensures.left c.in_ok-left_out.ensures.text c.in_ok-push_texts.ensures.text
    ∙ ap (λ l. c.args.text.now.items ++ text_on l) c.self.view_is
