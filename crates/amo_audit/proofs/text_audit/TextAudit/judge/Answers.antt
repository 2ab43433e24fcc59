use Rattle.std.proofs.Common.{◌∙◌, ap, arith, length, length-append}
use Rattle.amo_audit.proofs.Parts.{end_kept, end_of_lines, now_judged}
use Rattle.amo_audit.proofs.text_audit.TextAudit.judge.Goals as goal

pub keep_last-requires : goal.keep_last-requires
keep_last-requires c =
    let (front, is) = c.in_ok-rest.ensures.rest in
    let (whole, cut) = end_of_lines c.args.self.now.version c.args.self.now.rest.items front c.in_ok-rest.rest.text.now c.lines_in-lines.result (rw c.as_slice.ensures.value at c.lines_in-lines.ensures) is in
    let long = ap length cut ∙ length-append whole c.in_ok-rest.rest.text.now in
    omega (arith, long)

pub returns-clause-judged : goal.returns-clause-judged
returns-clause-judged c = λ text first may.
    let (front, is) = c.in_ok-rest.ensures.rest in
    let lines = rw c.as_slice.ensures.value at c.lines_in-lines.ensures in
    let (whole, cut) = end_of_lines c.args.self.now.version c.args.self.now.rest.items front c.in_ok-rest.rest.text.now c.lines_in-lines.result lines is in
    let kept = c.keep_last.ensures ∙ end_kept c.args.self.now.rest.items whole c.in_ok-rest.rest.text.now cut in
    now_judged c.args.self.now.judged c.read_on.new.self c.args.self.now.version c.args.self.now.rest.items text c.keep_last.new.bytes.items c.in_ok-rest.rest.text.now c.lines_in-lines.result
    first may lines c.in_ok-rest.ensures.judged kept
