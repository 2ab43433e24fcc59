use Rattle.std.proofs.Common.{sym, ap, ◌∙◌}
use Rattle.std.proofs.lemmas.Option.{slice_get_within}
use Rattle.amo_world.specs.History.{events_of}
use Rattle.amo_book.specs.Plays.{Sat}
use Rattle.amo_book.proofs.Seats.{held_at}
use Rattle.amo_book.proofs.Runs.{counted_once}
use Rattle.amo_book.proofs.board.Board.settle.Goals as goal

pub count-position-requires-clause-held : goal.count-position-requires-clause-held
count-position-requires-clause-held c = let t = c.requires.held in
    (t.0, events_of c.args.pass t.1.0.seen, ap (λ (m : Sat). m.0.held) t.3, ap (λ (m : Sat). m.0.shares) t.3 ∙ t.2.own, t.5)

pub put_back-requires-clause-place : goal.put_back-requires-clause-place
put_back-requires-clause-place c = slice_get_within _ _ _ c.requires.place

pub put_back-requires-clause-held : goal.put_back-requires-clause-held
put_back-requires-clause-held c = let t = c.requires.held in
    let k = counted_once c.args.pass c.args.site.place t.0 _ _ t.1 _ _ t.2 t.3 c.count-position.ensures.counts in
    (k.0, k.1 ∙ ap (held_at c.args.site.place) (sym t.4))

pub returns-clause-rests : goal.returns-clause-rests
returns-clause-rests c = let t = c.requires.held in
    ((counted_once c.args.pass c.args.site.place t.0 _ _ t.1 _ _ t.2 t.3 c.count-position.ensures.counts).2 _ c.put_back.ensures.released).0

pub returns-clause-made : goal.returns-clause-made
returns-clause-made c = λ x m pass is.
    ((counted_once c.args.pass c.args.site.place x _ _ m _ _ pass is c.count-position.ensures.counts).2 _ c.put_back.ensures.released).1
