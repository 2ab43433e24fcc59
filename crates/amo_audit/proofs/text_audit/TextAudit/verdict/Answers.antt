use Rattle.std.proofs.Common.{◌∙◌, ℕ, ap, arith}
use Rattle.amo_journal.proofs.Further.{one_before}
use Rattle.amo_audit.specs.Audit.{further}
use Rattle.amo_audit.specs.Parts.{lines_of}
use Rattle.amo_audit.proofs.Parts.{stands}
use Rattle.amo_audit.proofs.text_audit.TextAudit.verdict.Goals as goal

pub verdict-requires : goal.verdict-requires
verdict-requires c =
    let (text, come) = c.requires in
    let (body, opens, to) = stands c.args.self.now.judged c.args.self.now.version c.args.self.now.rest.items text c.lines_in-lines.result come.opened (rw c.as_slice.ensures.value at c.lines_in-lines.ensures) in
    (c.lines_in-lines.result.version, body, to)

pub further-requires : goal.further-requires
further-requires c = omega (arith, c.verdict.ensures.few, c.lines_before.ensures, one_before c.lines_in-lines.result.version)

pub returns : goal.returns
returns c = λ text come.
    let (body, opens, to) = stands c.args.self.now.judged c.args.self.now.version c.args.self.now.rest.items text c.lines_in-lines.result come.opened (rw c.as_slice.ensures.value at c.lines_in-lines.ensures) in
    record {
      lines = lines_of c.lines_in-lines.result.version body;
      opens = opens;
      found = c.verdict.result;
      judged = c.verdict.ensures.judged c.lines_in-lines.result.version body to;
      is = c.further.ensures ∙ ap (λ (n : ℕ). further n c.verdict.result) c.lines_before.ensures;
    }
