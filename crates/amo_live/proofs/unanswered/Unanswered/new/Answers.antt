use Rattle.std.proofs.Common.{◌≡◌, ◌∙◌, ◌∷◌, ℕ, [], get_or, length, length-append, ap, sym, subst, arith}
use Rattle.amo_live.proofs.Keeping.{none_kept, none_kept_more}
use Rattle.amo_live.proofs.unanswered.Unanswered.new.Goals as goal

pub streams-init : goal.streams-init
streams-init c = (λ at. ap (λ lines. get_or lines at []) c.new-lines.ensures.items, ap length c.new-lines.ensures.items)

pub streams-preserved : goal.streams-preserved
streams-preserved c =
    let more = ap length c.in_ok-push.ensures.items ∙ length-append c.streams.lines.items (c.new.result ∷ []) in
    let before = c.streams.invariant.1 in (
      subst (λ lines. (at : ℕ) → get_or lines at [] ≡ []) (sym c.in_ok-push.ensures.items) (none_kept_more c.streams.lines.items c.new.result c.new.ensures c.streams.invariant.0),
      omega (arith, more, before),
    )

pub returns-clause-none : goal.returns-clause-none
returns-clause-none c = none_kept c.streams.lines.items c.streams.invariant.0

pub returns-clause-many : goal.returns-clause-many
returns-clause-many c = let count = c.streams.invariant.1 in omega (arith, count, c.streams-test.false, c.streams.auto._stream-end)
