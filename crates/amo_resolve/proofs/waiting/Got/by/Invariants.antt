use Rattle.std.proofs.Common.{◌≡◌, map, take}
use Rattle.amo_object.specs.Delivery.{messages_got}
use Rattle.amo_resolve.proofs.waiting.Got.by.Given as goal

-- those of the calls so far
abbrev pub invariant-loop-call : goal.invariant-loop-call
invariant-loop-call l = map (λ m. m.now) l.messages.items ≡ messages_got (take l.call-index l.calls)
