use Rattle.std.proofs.Common.{◌∙◌, sym, arith}
use Rattle.std.proofs.lemmas.Option.{slice_get_within}
use Rattle.amo_book.specs.Pass.{automaton_after}
use Rattle.amo_book.proofs.Histories.{state_at-is}
use Rattle.amo_book.proofs.Gates.{tries}
use Rattle.amo_book.proofs.board.Board.try_gate.Goals as goal

pub compare_exchange-requires : goal.compare_exchange-requires
compare_exchange-requires g c = let key = c.args.self.now.keyed in let size = c.args.self.now.sized in
    let lt = slice_get_within _ _ _ c.requires.place in let e = c.requires.side in (
      c.requires.own,
      omega arith,
      rw (key, c.gate_of.ensures) (tries _ _ _ _ _ c.args.site.place _ _ _ lt c.requires.rests
          (λ log. state_at-is c.args.self.now.setup.sides.items c.args.site.place _ _ log c.requires.place ∙ (λ i. automaton_after (sym e.0 i) (sym e.1 i) log))),
    )
