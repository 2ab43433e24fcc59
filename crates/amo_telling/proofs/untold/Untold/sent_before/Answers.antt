use Rattle.std.proofs.Common.{ℕ, List, refl, sym, subst, ap, ◌∙◌}
use Rattle.std.specs.List.{Contains}
use Rattle.amo_telling.proofs.Untolds.{one_more_sent}
use Rattle.amo_telling.proofs.untold.Untold.sent_before.Goals.{then-is_sent+in_ok-push, else-is_sent}
use Rattle.amo_telling.proofs.untold.Untold.sent_before.Goals as goal

pub loop-number-preserved : goal.loop-number-preserved
loop-number-preserved c = elim c.if-is_sent.branch [
  | then-is_sent+in_ok-push w ↦ one_more_sent c.args.self.now c.args.event.now.act c.loop-number.sent.items _ _ (ap (λ v. v.items) w.sent-is ∙ w.in_ok-push.ensures.items) (sym c.if-not-is_ack.ensures) (w.if-is_sent.ensures refl) c.loop-number.invariant
  | else-is_sent w ↦ λ number here. c.loop-number.invariant number (subst (λ (l : List ℕ). Contains l number) (ap (λ v. v.items) w.sent-is) here)
]
