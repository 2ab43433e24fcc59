use Rattle.std.proofs.Common.{◌++◌, ◌∷◌, [], Option, None, List, ap, ◌∙◌}
use Rattle.std.proofs.lemmas.List.{replicate-append-replicate}
use Rattle.amo_door.specs.declared.claim.Made.{Made}
use Rattle.amo_door.proofs.numbers.Numbers.new.Goals as goal

pub loop-stream-preserved : goal.loop-stream-preserved
loop-stream-preserved c =
    (c.in_ok-push.ensures.items ∙ ap (λ (all : List (Option Made)). all ++ None ∷ []) c.loop-stream.invariant)
    ∙ replicate-append-replicate c.loop-stream._stream 1 None
