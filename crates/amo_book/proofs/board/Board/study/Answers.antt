use Rattle.std.proofs.Common.{ap}
use Rattle.amo_book.specs.Plays.{Sat}
use Rattle.amo_book.proofs.Runs.{studied}
use Rattle.amo_book.proofs.board.Board.study.Goals as goal

pub see-requires-clause-held : goal.see-requires-clause-held
see-requires-clause-held c = let t = c.requires.held in (t.0, ap (λ (m : Sat). m.0.held) t.3)

pub returns-clause-studied : goal.returns-clause-studied
returns-clause-studied c = λ x m pass held. studied c.args.pass c.see.result c.args.site.side c.args.site.stream c.args.site.place x m c.args.seat.now.me c.see.new.seat.me pass held c.see.ensures.sees
