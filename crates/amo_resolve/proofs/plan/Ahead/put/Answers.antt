use Rattle.std.proofs.Common.{◌∷◌, ◌++◌, [], List, ℕ, sym, subst, arith}
use Rattle.amo_object.specs.Delivery.{messages_got}
use Rattle.amo_resolve.specs.Plan.{GoesAfter, Asks}
use Rattle.amo_resolve.proofs.Asking.{put_settled, put_wanted, put_other, put_free}
use Rattle.amo_resolve.proofs.Planning.{never}
use Rattle.amo_resolve.proofs.plan.Ahead.put.Goals as goal

pub returns-then-self-clause-asks : goal.returns-then-self-clause-asks
returns-then-self-clause-asks c = λ calls notes note from known.
    subst (λ (n : ℕ). Asks c.args.self.here n c.args.self.spared c.args.self.is_settled (λ (xs : List (List ℕ)). GoesAfter calls notes note (xs ++ c.args.message.now ∷ [])) (messages_got calls)) (sym c.saturating_sub.ensures)
    (put_settled c.args.message.now c.args.self.here c.args.self.most c.args.self.spared c.args.self.is_settled (GoesAfter calls notes note) (messages_got calls) c.if-self.true known.asks)

pub returns-then-is_same-clause-asks : goal.returns-then-is_same-clause-asks
returns-then-is_same-clause-asks c = λ calls notes note from known.
    put_wanted c.args.message.now c.args.self.here c.args.self.most c.args.self.spared c.args.self.is_settled (GoesAfter calls notes note) c.args.got.now (messages_got calls) c.args.first c.at-last.result.now
    c.if-self.false from c.requires.counts.2 (omega (arith, c.if-here-most.true)) c.at-last.ensures (c.is_same.ensures.0 c.if-is_same.true) known.asks

pub returns-then-here-most-clause-asks : goal.returns-then-here-most-clause-asks
returns-then-here-most-clause-asks c = λ calls notes note from known.
    put_other c.args.message.now c.args.self.here c.args.self.most c.args.self.spared c.args.self.is_settled (GoesAfter calls notes note) c.args.got.now (messages_got calls) c.args.first c.at-last.result.now
    c.if-self.false from c.requires.counts.2 (omega (arith, c.if-here-most.true)) c.at-last.ensures (λ same. never c.is_same.result c.if-is_same.false (c.is_same.ensures.1 same)) known.asks

pub returns-clause-asks : goal.returns-clause-asks
returns-clause-asks c = λ calls notes note from known.
    put_free c.args.message.now c.args.self.here c.args.self.most c.args.self.spared c.longer-spared.result c.args.self.is_settled (GoesAfter calls notes note) c.args.got.now (messages_got calls) c.args.first
    c.if-self.false from (omega (arith, c.if-here-most.false)) c.requires.counts.0 c.longer-spared.ensures known.asks
