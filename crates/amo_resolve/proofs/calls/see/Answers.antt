use Rattle.amo_resolve.proofs.Seeing.{seen_more}
use Rattle.amo_resolve.proofs.calls.see.Goals as goal

pub returns : goal.returns
returns c =
    seen_more c.args.streams.now.items c.args.event.now c.index_mut-seen.result.now c.see.new.self c.requires.stream c.index_mut-seen.ensures.value
    c.in_ok-see.ensures.named c.in_ok-see.ensures.calls
