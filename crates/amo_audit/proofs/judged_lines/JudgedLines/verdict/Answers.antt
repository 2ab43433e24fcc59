use Rattle.std.proofs.Common.{Bool, subst}
use Rattle.amo_text.proofs.Readings.{is_empty, not_empty}
use Rattle.amo_audit.specs.Parts.{IsJudgedTo}
use Rattle.amo_audit.proofs.Parts.{body_gap, endless, few_to_fault, few_to_gap, stuck_malformed}
use Rattle.amo_audit.proofs.judged_lines.JudgedLines.verdict.Goals as goal

pub returns-then-self-clause-judged : goal.returns-then-self-clause-judged
returns-then-self-clause-judged c = λ version body to.
    stuck_malformed version body c.args.self.now.lines (subst (λ (b : Bool). IsJudgedTo c.args.self.now b version body c.args.rest.now) c.if-self.true to)

pub returns-then-not-is_empty-clause-judged : goal.returns-then-not-is_empty-clause-judged
returns-then-not-is_empty-clause-judged c = λ version body to.
    let so_far = subst (λ (b : Bool). IsJudgedTo c.args.self.now b version body c.args.rest.now) c.if-self.false to in
    endless c.args.self.now version body c.args.rest.now so_far.0 (not_empty c.args.rest.now c.if-not-is_empty.ensures) so_far.1

pub returns-in-Some-clause-judged : goal.returns-in-Some-clause-judged
returns-in-Some-clause-judged c = λ version body to.
    let so_far = subst (λ (b : Bool). IsJudgedTo c.args.self.now b version body c.args.rest.now) c.if-self.false to in
    body_gap c.args.self.now version body c.args.rest.now so_far.0 c.in-Some.line (is_empty c.args.rest.now c.if-not-is_empty.ensures) c.in-Some.is

pub returns-in-Some-clause-few : goal.returns-in-Some-clause-few
returns-in-Some-clause-few c =
    let (version, body, to) = c.requires in
    let so_far = subst (λ (b : Bool). IsJudgedTo c.args.self.now b version body c.args.rest.now) c.if-self.false to in
    few_to_gap c.args.self.now version body c.args.rest.now so_far.0 c.in-Some.line c.in-Some.is

pub returns-in-None-clause-few : goal.returns-in-None-clause-few
returns-in-None-clause-few c =
    let (version, body, to) = c.requires in
    let so_far = subst (λ (b : Bool). IsJudgedTo c.args.self.now b version body c.args.rest.now) c.if-self.false to in
    few_to_fault c.args.self.now version body c.args.rest.now so_far.0 c.verdict.result c.in-None.is c.verdict.ensures
