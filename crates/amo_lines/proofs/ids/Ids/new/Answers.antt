use Rattle.std.proofs.Common.{◌≡◌, ℕ, [], get_or, map, ap, sym, subst}
use Rattle.amo_lines.proofs.Backlogs.{all_empty, empty_more}
use Rattle.amo_lines.proofs.ids.Ids.new.Goals as goal

pub streams-init : goal.streams-init
streams-init c = λ at. ap (λ qs. get_or (map (λ q. q.items) qs) at []) c.new-queues.ensures.items

pub streams-preserved : goal.streams-preserved
streams-preserved c = subst (λ qs. (at : ℕ) → get_or (map (λ q. q.items) qs) at [] ≡ []) (sym c.in_ok-push.ensures.items) (empty_more (λ q. q.items) c.streams.queues.items c.new.result c.new.ensures.items c.streams.invariant)

pub returns : goal.returns
returns c = all_empty (λ q. q.items) c.streams.queues.items c.streams.invariant
