use Rattle.std.proofs.lemmas.Result.{err_from_is_err_and}
use Rattle.amo_lives.proofs.Going.{line_more}
use Rattle.amo_lives.proofs.lives.Lives.read_lines.Goals as goal

pub returns-in_err-take_line-clause-fault : goal.returns-in_err-take_line-clause-fault
returns-in_err-take_line-clause-fault c =
    let p = err_from_is_err_and c.from_residual.result c.from_residual.ensures.1 in
    let cut = c.in-Some.ensures.found in
    rw (p.1, p.2) (record {
      so_far = c.loop-text.self;
      rest = c.loop-text.rest.now;
      goes_on = c.loop-text.invariant;
      wrong = rw cut.0 (c.in_err-take_line.ensures.fault c.in-Some.more.now);
    })

pub loop-text-preserved : goal.loop-text-preserved
loop-text-preserved c =
    line_more c.args.self.now c.loop-text.self c.take_line.new.self c.args.body.now c.loop-text.rest.now c.in-Some.text.now c.in-Some.more.now c.loop-text.invariant c.in-Some.ensures.found.0 c.in_ok-take_line.ensures.taken
