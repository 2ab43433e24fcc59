use Rattle.std.proofs.Common.{Bool, false, if◌then◌else◌, nat_eq, sym, ap}
use Rattle.amo_resolve.specs.Plan.{is_told_no}
use Rattle.amo_resolve.proofs.Planning.{asks_noted, is_zero, not_zero, never}
use Rattle.amo_resolve.proofs.plan.Ahead.after.Goals as goal

pub returns-then-note-2-clause-after : goal.returns-then-note-2-clause-after
returns-then-note-2-clause-after c = λ calls notes known noted. record {
  asks = asks_noted (nat_eq c.args.note.wanted 0) calls notes c.args.note c.if-note.true noted
      (λ is. (c.if-note-2.true, is_zero c.args.note.wanted is)) (λ is told none. not_zero c.args.note.wanted is none);
  got = known.got;
  yes = known.yes;
  no = ap (λ (down : Bool). if down then false else is_told_no calls notes) (sym c.if-note.true);
}

pub returns-else-note-2-clause-after : goal.returns-else-note-2-clause-after
returns-else-note-2-clause-after c = λ calls notes known noted. record {
  asks = asks_noted c.args.note.is_told_yes calls notes c.args.note c.if-note.true noted
      (λ is. absurd (never c.args.note.is_told_yes c.if-note-2.false is)) (λ is told. absurd (never c.args.note.is_told_yes c.if-note-2.false told));
  got = known.got;
  yes = known.yes;
  no = ap (λ (down : Bool). if down then false else is_told_no calls notes) (sym c.if-note.true);
}
