use Rattle.std.proofs.Common.{◌≡◌, ◌+◌, ◌∙◌, length, ap, subst, arith}
use Rattle.amo_book.specs.Pass.{mine}
use Rattle.amo_live.specs.Host.{HostState, comes_back, sides_from}
use Rattle.amo_live.proofs.Returning.{all_back, one_back, sides_length, still_stays}
use Rattle.amo_live.proofs.host.Host.come_back.Goals as goal

pub streams-preserved : goal.streams-preserved
streams-preserved g c =
    let h = c.args.self.now in
    let count = ap (λ (t : HostState g.row.L.Denot g.row.S.Denot). t.streams) c.self.view_is in
    let far = still_stays h c.streams.self c.manage.new.self c.streams.invariant.1 c.in_ok-manage.ensures.stays in
    let sides : h.book.sides ≡ sides_from h.side 1 h.streams = subst (λ (t : HostState g.row.L.Denot g.row.S.Denot). t.book.sides ≡ sides_from t.side 1 t.streams) c.self.view_is c.self.invariant.sides in (
      c.in_ok-manage-2.ensures.noted,
      still_stays h c.manage.new.self c.manage-in-streams.new.self far c.in_ok-manage-2.ensures.stays,
      one_back h c.streams.self c.manage.new.self c.manage-in-streams.new.self c.streams.place (c.streams.place + 1) (c.streams.place + 1) h.streams (omega arith) (omega arith) sides (omega (arith, c.streams-test.true, count)) c.streams.invariant.1 c.streams.invariant.2
          c.in_ok-manage.ensures.stays c.in_ok-manage.ensures.did c.in_ok-manage-2.ensures.did,
    )

pub returns-clause-back : goal.returns-clause-back
returns-clause-back g c =
    let h = c.args.self.now in
    let count = ap (λ (t : HostState g.row.L.Denot g.row.S.Denot). t.streams) c.self.view_is in
    let sides : h.book.sides ≡ sides_from h.side 1 h.streams = subst (λ (t : HostState g.row.L.Denot g.row.S.Denot). t.book.sides ≡ sides_from t.side 1 t.streams) c.self.view_is c.self.invariant.sides in
    let long = ap (λ l. length l) sides in let many = sides_length h.side 1 h.streams in
    let all : c.streams.place ≡ length h.book.sides = omega (arith, count, long, many, c.streams-test.false, c.streams.auto.place-end) in
    c.streams.invariant.2 ∙ ap (λ l. comes_back h.pass.number l (mine h.pass)) (all_back h.book.sides c.streams.place all)
