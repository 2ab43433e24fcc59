use Rattle.std.proofs.Common.{◌∙◌, ◌+◌, ap, refl, subst, sym}
use Rattle.amo_text.specs.Line.{Lacks}
use Rattle.amo_telling.specs.declared.unanswered.Progress.TheVariants.{Gap, Whole}
use Rattle.amo_telling.specs.Untold.{IsNotNext}
use Rattle.amo_telling.proofs.LineByLine.{empty_is}
use Rattle.amo_telling.proofs.Untolds.{one_further, stopped_at, stops_anyhow}
use Rattle.amo_telling.proofs.untold.Untold.read_on.Goals as goal

pub returns-in_default-clause-read : goal.returns-in_default-clause-read
returns-in_default-clause-read c = λ next past have.
    let none = rw c.loop-rest.invariant.version at (rw c.in_default.is at c.in_ok-line.ensures.none) in
    stopped_at next past c.args.lines c.loop-rest.rest.text.now c.loop-rest.self (c.loop-rest.invariant.read next past have) c.stopped-progress.result
    (stops_anyhow c.args.lines.version (IsNotNext c.loop-rest.self.next) c.loop-rest.rest.text.now c.stopped-progress.result (c.stopped-progress.ensures c.args.lines.version none))

pub returns-then-not-goes_on-clause-read : goal.returns-then-not-goes_on-clause-read
returns-then-not-goes_on-clause-read c = λ next past have.
    let here = rw c.in-Some.is at c.in_ok-line.ensures.some in
    stopped_at next past c.args.lines c.loop-rest.rest.text.now c.loop-rest.self (c.loop-rest.invariant.read next past have) Gap
    (c.in-Some.line, c.in-Some.more.text.now, rw c.loop-rest.invariant.version at here.0, here.1, c.if-not-goes_on.ensures.no refl)

pub loop-rest-preserved-in_ok-take : goal.loop-rest-preserved-in_ok-take
loop-rest-preserved-in_ok-take c =
    let so_far = c.loop-rest.invariant in
    let here = rw c.in-Some.is at c.in_ok-line.ensures.some in record {
      version = here.2 ∙ so_far.version;
      read = λ next past have.
          one_further next past c.args.lines c.loop-rest.rest.text.now c.loop-rest.self (so_far.read next past have) c.in-Some.line c.in-Some.more.text.now c.take.new.self _
          (rw so_far.version at here.0) here.1 (c.if-not-goes_on.ensures.yes refl).0 (c.if-not-goes_on.ensures.yes refl).1 c.in_ok-take.ensures.taken refl refl refl refl (ap (λ n. n + 1) c.in_ok-take.ensures.next);
    }

pub loop-rest-preserved-in_ok-take-2 : goal.loop-rest-preserved-in_ok-take-2
loop-rest-preserved-in_ok-take-2 c =
    let so_far = c.loop-rest.invariant in
    let here = rw c.in-Some.is at c.in_ok-line.ensures.some in record {
      version = here.2 ∙ so_far.version;
      read = λ next past have.
          one_further next past c.args.lines c.loop-rest.rest.text.now c.loop-rest.self (so_far.read next past have) c.in-Some.line c.in-Some.more.text.now c.take.new.self _
          (rw so_far.version at here.0) here.1 (c.if-not-goes_on.ensures.yes refl).0 (c.if-not-goes_on.ensures.yes refl).1 c.in_ok-take.ensures.taken refl refl refl refl (ap (λ n. n + 1) c.in_ok-take.ensures.next);
    }

pub loop-rest-preserved : goal.loop-rest-preserved
loop-rest-preserved c =
    let so_far = c.loop-rest.invariant in
    let here = rw c.in-Some.is at c.in_ok-line.ensures.some in record {
      version = here.2 ∙ so_far.version;
      read = λ next past have.
          one_further next past c.args.lines c.loop-rest.rest.text.now c.loop-rest.self (so_far.read next past have) c.in-Some.line c.in-Some.more.text.now c.take.new.self _
          (rw so_far.version at here.0) here.1 (c.if-not-goes_on.ensures.yes refl).0 (c.if-not-goes_on.ensures.yes refl).1 c.in_ok-take.ensures.taken refl refl refl refl (ap (λ n. n + 1) c.in_ok-take.ensures.next);
    }

pub returns-clause-read : goal.returns-clause-read
returns-clause-read c = λ next past have.
    let lacks = subst (Lacks 10) (sym (empty_is c.loop-rest.rest.text.now (sym c.loop-rest-test.ensures))) tt in
    stopped_at next past c.args.lines c.loop-rest.rest.text.now c.loop-rest.self (c.loop-rest.invariant.read next past have) Whole lacks
