-- What is untaken stays so, unless a message is sent or got.
use Rattle.std.proofs.Common.{◌≡◌, ℕ, List, refl}
use Rattle.amo_core.specs.declared.act.Act.{Act}
use Rattle.amo_core.specs.declared.act.Act.TheVariants as act
use Rattle.amo_core.specs.declared.sender.SenderMode.{SenderMode}
use Rattle.amo_core.specs.declared.sender.SenderMode.TheVariants as sending
use Rattle.amo_core.specs.declared.receiver.ReceiverMode.{ReceiverMode}
use Rattle.amo_core.specs.declared.receiver.ReceiverMode.TheVariants as receiving
use Rattle.amo_world.specs.Stream.{untaken_once_sent, untaken_once_got}

-- a sender that stays in its mode begins to send nothing
pub untaken_unless_sent : (mode : SenderMode) (untaken : List (List ℕ)) → untaken_once_sent mode mode untaken ≡ untaken
untaken_unless_sent (sending.Quiet got) untaken = refl
untaken_unless_sent (sending.NeedId jd m) untaken = refl
untaken_unless_sent (sending.Send id m) untaken = refl
untaken_unless_sent sending.Down untaken = refl

-- the act takes no message: it is no get, or the receiver holds none
abbrev pub TakesNothing : Act → ReceiverMode → Type 0
TakesNothing act.Get (receiving.Rcvd under held) = ⊥
TakesNothing _ _ = Unit {0}

-- what is untaken stays so by an act that takes no message
pub untaken_unless_got : (mode : SenderMode) (at : ReceiverMode) (a : Act) (untaken : List (List ℕ)) → TakesNothing a at
    → untaken_once_got a mode at untaken ≡ untaken
untaken_unless_got (sending.Send id m) (receiving.Rcvd under held) act.Get untaken nothing = absurd nothing
untaken_unless_got (sending.Send id m) (receiving.Accept jd accepted) act.Get untaken nothing = refl
untaken_unless_got (sending.Send id m) (receiving.Ack under) act.Get untaken nothing = refl
untaken_unless_got (sending.Send id m) receiving.Idle act.Get untaken nothing = refl
untaken_unless_got (sending.Send id m) receiving.Down act.Get untaken nothing = refl
untaken_unless_got (sending.Quiet got) at act.Get untaken nothing = refl
untaken_unless_got (sending.NeedId jd m) at act.Get untaken nothing = refl
untaken_unless_got sending.Down at act.Get untaken nothing = refl
untaken_unless_got mode at (act.Put m) untaken nothing = refl
untaken_unless_got mode at act.Ack untaken nothing = refl
untaken_unless_got mode at (act.Start word) untaken nothing = refl
untaken_unless_got mode at (act.Batch word) untaken nothing = refl
untaken_unless_got mode at act.Resend untaken nothing = refl
untaken_unless_got mode at (act.Deliver p word) untaken nothing = refl
untaken_unless_got mode at act.Crash untaken nothing = refl
untaken_unless_got mode at act.Recover untaken nothing = refl
