use Rattle.std.proofs.Common.{◌≡◌, ◌≢◌, rules, subst}
use Rattle.std.proofs.lemmas.Result.{err_from_is_err_and}
use Rattle.amo_object.specs.declared.step.End.{End}
use Rattle.amo_text.specs.Line.{text_of}
use Rattle.amo_lives.specs.Life.{heading_fields}
use Rattle.amo_lives.specs.Kept.{StopsAt, TakesAll}
use Rattle.amo_lives.specs.Lives.{LivesState}
use Rattle.amo_lives.proofs.Files.{one_file}
use Rattle.amo_lives.proofs.Told.{foreign, of_other, stopped, told}
use Rattle.amo_lives.proofs.lives.Lives.read.Goals as goal

pub returns-in_default-read_heading-clause-fault : goal.returns-in_default-read_heading-clause-fault
returns-in_default-read_heading-clause-fault c =
    let cut = c.in-Some.ensures.found in
    foreign c.args.side c.args.bytes.now c.in-Some.text.now c.in-Some.body.now cut.0 cut.1 c.in_default-read_heading.ensures.none

pub returns-then-ne-clause-fault : goal.returns-then-ne-clause-fault
returns-then-ne-clause-fault c =
    let heading = c.in-Some-read_heading.heading in
    let read = c.in-Some-read_heading.ensures.found in
    let other : heading.side ≢ c.args.side = search rules in
    of_other heading.side heading.key c.args.bytes.now c.in-Some.text.now c.in-Some.body.now read.0 c.in-Some.ensures.found.0 read.1 c.args.side other

pub returns-in_err-torn-clause-fault : goal.returns-in_err-torn-clause-fault
returns-in_err-torn-clause-fault c =
    let p = err_from_is_err_and c.from_residual.result c.from_residual.ensures.1 in
    let heading = c.in-Some-read_heading.heading in
    let read = c.in-Some-read_heading.ensures.found in
    let same : heading.side ≡ c.args.side = search rules in
    let text = subst (λ (s : End). c.in-Some.text.now ≡ text_of (heading_fields s heading.key)) same read.1 in
    let stops = subst (λ (s : LivesState). StopsAt s c.in-Some.body.now c.in_err-torn.field-0.0) c.new-lives.ensures c.in_err-torn.ensures.fault in
    rw (p.1, p.2) (stopped c.args.side heading.key c.args.bytes.now c.in-Some.text.now c.in-Some.body.now read.0 c.in-Some.ensures.found.0 text c.in_err-torn.field-0.0 stops)

pub returns-clause-told : goal.returns-clause-told
returns-clause-told c =
    let heading = c.in-Some-read_heading.heading in
    let read = c.in-Some-read_heading.ensures.found in
    let same : heading.side ≡ c.args.side = search rules in
    let text = subst (λ (s : End). c.in-Some.text.now ≡ text_of (heading_fields s heading.key)) same read.1 in
    let all = subst (λ (s : LivesState). TakesAll s c.read_lines.new.self c.in-Some.body.now c.in_ok-torn.torn) c.new-lives.ensures c.in_ok-torn.ensures.taken in
    told c.args.side heading.key c.args.bytes.now c.in-Some.text.now c.in-Some.body.now read.0 c.in-Some.ensures.found.0 text c.read_lines.new.self c.in_ok-torn.torn all

pub returns-clause-only : goal.returns-clause-only
returns-clause-only c = λ others tells.
    let heading = c.in-Some-read_heading.heading in
    let read = c.in-Some-read_heading.ensures.found in
    let same : heading.side ≡ c.args.side = search rules in
    let text = subst (λ (s : End). c.in-Some.text.now ≡ text_of (heading_fields s heading.key)) same read.1 in
    let all = subst (λ (s : LivesState). TakesAll s c.read_lines.new.self c.in-Some.body.now c.in_ok-torn.torn) c.new-lives.ensures c.in_ok-torn.ensures.taken in
    one_file c.args.bytes.now others c.read_lines.new.self tells (told c.args.side heading.key c.args.bytes.now c.in-Some.text.now c.in-Some.body.now read.0 c.in-Some.ensures.found.0 text c.read_lines.new.self c.in_ok-torn.torn all)
