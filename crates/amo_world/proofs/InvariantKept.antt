-- The invariant holds at the start, and after each act that is honest and fresh.
use Rattle.std.proofs.Common.{ℕ}
use Rattle.amo_object.specs.declared.step.End.{End}
use Rattle.amo_object.specs.declared.step.End.TheVariants.{Sender, Receiver}
use Rattle.amo_core.specs.declared.act.Act.{Act}
use Rattle.amo_world.specs.Stream.{Stream, initial, after}
use Rattle.amo_world.specs.History.{WasEmitted, IsNewWord}
use Rattle.amo_world.proofs.Invariant.{Invariant}
use Rattle.amo_world.proofs.SenderInvariant.{sender_keeps}
use Rattle.amo_world.proofs.ReceiverInvariant.{receiver_keeps}

-- the facts hold of a stream in which nothing happened yet
pub facts_initial : (number : ℕ) → Invariant (initial number)
facts_initial number = record {
  packets = record {
    asked = λ jd id none. absurd none;
    one_needuid = λ jd other id none more. absurd none;
    accepted_first = λ id none. absurd none;
    accepted_before = λ id none. absurd none;
    one_message = λ id m n none more. absurd none;
  };
  sender = tt;
  receiver = tt;
  needuid_words = λ jd none. absurd none;
  accept_words = λ id none. absurd none;
}

-- the facts hold after an act at either side
pub facts_after : (s : Stream) (side : End) (act : Act) → Invariant s → WasEmitted s side act → IsNewWord s side act
    → Invariant (after s side act)
facts_after s Sender act f emitted new = sender_keeps s act f emitted new
facts_after s Receiver act f emitted new = receiver_keeps s act f emitted new
