use Rattle.std.proofs.Common.{◌≡◌, ◌∙◌, ℕ, ◌+◌, ◌-◌, ◌<◌, ◌++◌, Option, ap, arith, get_or, length, set}
use Rattle.std.proofs.lemmas.Result.{IfOk-weaker}
use Rattle.amo_telling.specs.declared.put_outcome.PutOutcome.{PutOutcome}
use Rattle.amo_telling.specs.Told.{listed_line}
use Rattle.amo_telling.proofs.PutLines.{few_counted, nothing_put, one_put}
use Rattle.amo_telling.specs.Outcomes.{by}
use Rattle.amo_telling.proofs.puts.tell_event.Goals as goal

pub returns-in_default : goal.returns-in_default
returns-in_default c = λ past long told. nothing_put (by c.args.report.choice c.args.report.doubts.now) _ c.args.counts.now c.args.text.now.items past told c.args.event.now c.in_default.ensures.none

pub returns : goal.returns
returns c =
    let e = c.args.event.now in
    let counts = c.args.counts.now in
    let text = c.args.text.now.items in
    let place = e.stream - 1 in
    let m = c.in-Some.message.now in
    IfOk-weaker c.push_listed.result _ _ (λ _ pushed past long told.
    let is : place + 1 ≡ e.stream = omega (arith, c.requires.stream.0) in
    let small : place < 256 = omega (arith, c.requires.stream.0, c.requires.stream.1) in
    let few = few_counted (by c.args.report.choice c.args.report.doubts.now) _ counts text past told e place is small in
    let next : c.saturating_add.result ≡ get_or counts place 0 + 1 = omega (arith, c.saturating_add.ensures, few, long, c.requires.few) in
    one_put (by c.args.report.choice c.args.report.doubts.now) _ counts text past told e m place is small c.in-Some.ensures.some.0 c.in-Some.ensures.some.1 _ _
    (pushed ∙ ap (λ (n : ℕ). text ++ listed_line (by c.args.report.choice c.args.report.doubts.now) n e.stream m c.told_at-outcome.result) long
    ∙ ap (λ (o : Option PutOutcome). text ++ listed_line (by c.args.report.choice c.args.report.doubts.now) (length past) e.stream m o) c.told_at-outcome.ensures)
    (ap (λ (n : ℕ). set counts place n) next)) c.push_listed.ensures
