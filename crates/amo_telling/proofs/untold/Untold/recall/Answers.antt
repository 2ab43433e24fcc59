use Rattle.std.proofs.Common.{◌∙◌, ◌++◌, reverse, refl, subst, sym}
use Rattle.amo_text.specs.Line.{Lacks}
use Rattle.amo_telling.specs.declared.unanswered.Progress.TheVariants.{Gap, Whole}
use Rattle.amo_telling.specs.Untold.{IsNotBefore}
use Rattle.amo_telling.proofs.LineByLine.{empty_is}
use Rattle.amo_telling.proofs.Untolds.{one_recalled, recalled_to, refused, stops_anyhow}
use Rattle.amo_telling.proofs.untold.Untold.recall.Goals as goal

pub returns-in_default-clause-read : goal.returns-in_default-clause-read
returns-in_default-clause-read c = λ next past have.
    let none = rw c.loop-rest.invariant.version at (rw c.in_default.is at c.in_ok-line.ensures.none) in
    let so_far = c.loop-rest.invariant.read next past have in
    recalled_to next past c.args.lines c.loop-rest.rest.text.now c.loop-rest.self so_far c.stopped-progress.result
    (stops_anyhow c.args.lines.version (IsNotBefore next (reverse so_far.recalled ++ past)) c.loop-rest.rest.text.now c.stopped-progress.result (c.stopped-progress.ensures c.args.lines.version none))

pub returns-then-not-is_before-clause-read : goal.returns-then-not-is_before-clause-read
returns-then-not-is_before-clause-read c = λ next past have.
    let here = rw c.in-Some.is at c.in_ok-line.ensures.some in
    let so_far = c.loop-rest.invariant.read next past have in
    let known = rw c.loop-rest.invariant.version at here.0 in
    recalled_to next past c.args.lines c.loop-rest.rest.text.now c.loop-rest.self so_far Gap (
      c.in-Some.line,
      c.in-Some.more.text.now,
      known,
      here.1,
      refused next past c.args.lines c.loop-rest.rest.text.now c.loop-rest.self so_far c.in-Some.line known.1.stream (c.if-not-is_before.ensures.no refl),
    )

pub loop-rest-preserved-in_ok-take : goal.loop-rest-preserved-in_ok-take
loop-rest-preserved-in_ok-take c =
    let so_far = c.loop-rest.invariant in
    let here = rw c.in-Some.is at c.in_ok-line.ensures.some in record {
      version = here.2 ∙ so_far.version;
      read = λ next past have.
          one_recalled next past c.args.lines c.loop-rest.rest.text.now c.loop-rest.self (so_far.read next past have) c.in-Some.line c.in-Some.more.text.now c.take.new.self
          (rw so_far.version at here.0) here.1 (c.if-not-is_before.ensures.yes refl) c.in_ok-take.ensures.taken c.in_ok-take.ensures.next;
    }

pub loop-rest-preserved-in_ok-take-2 : goal.loop-rest-preserved-in_ok-take-2
loop-rest-preserved-in_ok-take-2 c =
    let so_far = c.loop-rest.invariant in
    let here = rw c.in-Some.is at c.in_ok-line.ensures.some in record {
      version = here.2 ∙ so_far.version;
      read = λ next past have.
          one_recalled next past c.args.lines c.loop-rest.rest.text.now c.loop-rest.self (so_far.read next past have) c.in-Some.line c.in-Some.more.text.now c.take.new.self
          (rw so_far.version at here.0) here.1 (c.if-not-is_before.ensures.yes refl) c.in_ok-take.ensures.taken c.in_ok-take.ensures.next;
    }

pub loop-rest-preserved : goal.loop-rest-preserved
loop-rest-preserved c =
    let so_far = c.loop-rest.invariant in
    let here = rw c.in-Some.is at c.in_ok-line.ensures.some in record {
      version = here.2 ∙ so_far.version;
      read = λ next past have.
          one_recalled next past c.args.lines c.loop-rest.rest.text.now c.loop-rest.self (so_far.read next past have) c.in-Some.line c.in-Some.more.text.now c.take.new.self
          (rw so_far.version at here.0) here.1 (c.if-not-is_before.ensures.yes refl) c.in_ok-take.ensures.taken c.in_ok-take.ensures.next;
    }

pub returns-clause-read : goal.returns-clause-read
returns-clause-read c = λ next past have.
    let lacks = subst (Lacks 10) (sym (empty_is c.loop-rest.rest.text.now (sym c.loop-rest-test.ensures))) tt in
    recalled_to next past c.args.lines c.loop-rest.rest.text.now c.loop-rest.self (c.loop-rest.invariant.read next past have) Whole lacks
