use Rattle.std.proofs.Common.{◌∙◌, ◌+◌, ap, arith, subst, sym}
use Rattle.amo_text.specs.Line.{Lacks}
use Rattle.amo_telling.specs.declared.reading.Reading.TheVariants.{Gap, TooLong}
use Rattle.amo_telling.proofs.LineByLine.{empty_is}
use Rattle.amo_telling.proofs.SoFar.{at_end, one_further, stopped_at}
use Rattle.amo_telling.proofs.gets.Gets.read_on.Goals as goal

pub returns-then-self-ge-MOST-clause-told : goal.returns-then-self-ge-MOST-clause-told
returns-then-self-ge-MOST-clause-told c = λ after json past have.
    stopped_at after json past c.args.lines c.args.text.now.items c.loop-alloc.rest.text.now c.loop-alloc.text.items c.loop-alloc.self (c.loop-alloc.invariant.read after json past have) TooLong
    (λ events have'. omega (arith, c.if-self-ge-MOST.true, have'.lines))

pub returns-in_default-clause-told : goal.returns-in_default-clause-told
returns-in_default-clause-told c = λ after json past have.
    let none = rw c.loop-alloc.invariant.version at (rw c.in_default.is at c.in_ok-line.ensures.none) in
    stopped_at after json past c.args.lines c.args.text.now.items c.loop-alloc.rest.text.now c.loop-alloc.text.items c.loop-alloc.self (c.loop-alloc.invariant.read after json past have) c.stopped-reading.result
    (λ events have'. c.stopped-reading.ensures c.args.lines.version after json events have' none)

pub returns-then-line-self-clause-told : goal.returns-then-line-self-clause-told
returns-then-line-self-clause-told c = λ after json past have.
    let here = rw c.in-Some.is at c.in_ok-line.ensures.some in
    stopped_at after json past c.args.lines c.args.text.now.items c.loop-alloc.rest.text.now c.loop-alloc.text.items c.loop-alloc.self (c.loop-alloc.invariant.read after json past have) (Gap (c.loop-alloc.self.lines + 1))
    (λ events have'. (c.in-Some.line, c.in-Some.more.text.now, rw c.loop-alloc.invariant.version at here.0, here.1, (λ e. c.if-line-self.true (e ∙ sym have'.lines)), ap (λ n. n + 1) have'.lines))

pub loop-alloc-preserved-in_ok-take : goal.loop-alloc-preserved-in_ok-take
loop-alloc-preserved-in_ok-take c =
    let so_far = c.loop-alloc.invariant in
    let here = rw c.in-Some.is at c.in_ok-line.ensures.some in record {
      version = here.2 ∙ so_far.version;
      read = λ after json past have.
          one_further after json past c.args.lines c.args.text.now.items c.loop-alloc.rest.text.now c.loop-alloc.text.items c.loop-alloc.self (so_far.read after json past have)
          c.in-Some.line c.in-Some.more.text.now c.take.new.text.items c.take.new.self (rw so_far.version at here.0) here.1 c.if-line-self.false c.in_ok-take.ensures.taken;
    }

pub loop-alloc-preserved-in_ok-take-2 : goal.loop-alloc-preserved-in_ok-take-2
loop-alloc-preserved-in_ok-take-2 c =
    let so_far = c.loop-alloc.invariant in
    let here = rw c.in-Some.is at c.in_ok-line.ensures.some in record {
      version = here.2 ∙ so_far.version;
      read = λ after json past have.
          one_further after json past c.args.lines c.args.text.now.items c.loop-alloc.rest.text.now c.loop-alloc.text.items c.loop-alloc.self (so_far.read after json past have)
          c.in-Some.line c.in-Some.more.text.now c.take.new.text.items c.take.new.self (rw so_far.version at here.0) here.1 c.if-line-self.false c.in_ok-take.ensures.taken;
    }

pub loop-alloc-preserved : goal.loop-alloc-preserved
loop-alloc-preserved c =
    let so_far = c.loop-alloc.invariant in
    let here = rw c.in-Some.is at c.in_ok-line.ensures.some in record {
      version = here.2 ∙ so_far.version;
      read = λ after json past have.
          one_further after json past c.args.lines c.args.text.now.items c.loop-alloc.rest.text.now c.loop-alloc.text.items c.loop-alloc.self (so_far.read after json past have)
          c.in-Some.line c.in-Some.more.text.now c.take.new.text.items c.take.new.self (rw so_far.version at here.0) here.1 c.if-line-self.false c.in_ok-take.ensures.taken;
    }

pub returns-clause-told : goal.returns-clause-told
returns-clause-told c = λ after json past have.
    let lacks = subst (Lacks 10) (sym (empty_is c.loop-alloc.rest.text.now (sym c.loop-alloc-test.ensures))) tt in
    stopped_at after json past c.args.lines c.args.text.now.items c.loop-alloc.rest.text.now c.loop-alloc.text.items c.loop-alloc.self (c.loop-alloc.invariant.read after json past have) c.whole-reading.result
    (at_end after json c.args.lines.version c.loop-alloc.self c.loop-alloc.rest.text.now c.whole-reading.result lacks c.whole-reading.ensures)
