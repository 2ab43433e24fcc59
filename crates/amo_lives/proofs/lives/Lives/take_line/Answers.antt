use Rattle.std.proofs.Common.{◌+◌, List, length, ap, sym, ◌∙◌}
use Rattle.amo_lives.specs.declared.life.Life.{Life}
use Rattle.amo_lives.proofs.Files.{ends, line_here, no_life}
use Rattle.amo_lives.proofs.lives.Lives.take_line.Goals as goal

pub returns-in_default-clause-fault : goal.returns-in_default-clause-fault
returns-in_default-clause-fault c = λ more.
    let none = rw c.in_default.is at c.read_life.ensures in
    (record { ended = ends c.args.text.now more; other = no_life c.args.text.now more c.requires none }, c.line_of-line.ensures ∙ ap (λ (ls : List Life). length ls + 2) c.lives.ensures.lives)

pub returns-then-has_tag-clause-fault : goal.returns-then-has_tag-clause-fault
returns-then-has_tag-clause-fault c = λ more.
    let life = c.in-Some.life in let read = c.in-Some.ensures in (
      record { life = life; more = more; known = read.0; parts = line_here life c.args.text.now more read.1; again = sym c.if-has_tag.ensures },
      c.line_of-line.ensures ∙ ap (λ (ls : List Life). length ls + 2) c.lives.ensures.lives,
    )

pub returns-then-life-reach-clause-fault : goal.returns-then-life-reach-clause-fault
returns-then-life-reach-clause-fault c = λ more.
    let life = c.in-Some.life in let read = c.in-Some.ensures in (
      record { life = life; more = more; known = read.0; parts = line_here life c.args.text.now more read.1; new = sym c.if-has_tag.ensures; falls = rw c.reach.ensures at c.if-life-reach.true },
      c.line_of-line.ensures ∙ ap (λ (ls : List Life). length ls + 2) c.lives.ensures.lives,
    )
