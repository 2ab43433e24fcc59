use Rattle.std.proofs.Common.{ap}
use Rattle.amo_core.specs.declared.automaton.Automaton.TheVariants as automaton
use Rattle.amo_core.specs.Sender as sender
use Rattle.amo_core.specs.Receiver as receiver
use Rattle.amo_world.proofs.Worlds.{nothing_yet}
use Rattle.amo_world.proofs.kept_stream.KeptStream.new.Goals as goal

pub returns : goal.returns
returns c = nothing_yet _ c.args.number _ _ (ap (λ (s : sender.SenderState). automaton.Sender s) c.new.ensures) (ap (λ (s : receiver.ReceiverState). automaton.Receiver s) c.new-3.ensures) c.new-2.ensures c.new-4.ensures
