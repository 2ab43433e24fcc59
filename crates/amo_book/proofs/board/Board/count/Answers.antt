use Rattle.std.proofs.Common.{◌≡◌, ℕ, Option, Some, sym, ap, ◌∙◌, subst, arith}
use Rattle.amo_object.specs.declared.step.End.{End}
use Rattle.amo_core.specs.Automaton.{row}
use Rattle.amo_world.specs.declared.event.Event.{Event}
use Rattle.amo_book.proofs.Counting.{counts, fits}
use Rattle.amo_book.proofs.board.Board.count.Goals as goal

abbrev side_of : Event → Option (End × ℕ)
side_of e = Some (e.side, e.stream)

pub fetch_add-requires : goal.fetch_add-requires
fetch_add-requires g c = let key = c.args.self.now.keyed in let size = c.args.self.now.sized in let t = c.requires.held in let e = c.requires.event in (
  c.requires.own,
  omega arith,
  rw key (counts _ _ _ _ _ c.args.site.place c.args.pass t.0 t.1 _ _ t.2 t.3 (ap (λ (z : Event). z.pass) e)
      (fits _ _ _ c.args.self.now.apart (c.requires.place ∙ ap side_of (sym e)))
      (subst (λ (z : Event). (row t.0 z.act).reply ≡ Some z.reply) (sym e) t.4)),
)
