-- How the messages of a batch lie elsewhere.
use Rattle.std.specs.Prelude.{ℕ, zero, suc, List, [], ◌∷◌, take, drop, Option, None}
use Rattle.byteorder.specs.Endian.{big_number}
use Rattle.amo_packet.specs.declared.fault.ReadFault.{ReadFault}
use Rattle.amo_packet.specs.declared.parts.Lent.{Lent}
use Rattle.amo_packet.specs.declared.parts.Lent.TheVariants.{Held, Spelt}
use Rattle.amo_packet.specs.Fault.{first_of, message_faults}

-- as many messages, each behind its length
abbrev pub split : ℕ → List ℕ → List (List ℕ)
split zero bytes = []
split (suc n) bytes = take (big_number 2 bytes) (drop 2 bytes) ∷ split n (drop (big_number 2 bytes) (drop 2 bytes))

-- the messages that are held, or that are spelt
abbrev pub lent_messages : Lent → List (List ℕ)
lent_messages (Held messages) = messages.now
lent_messages (Spelt count bytes) = split count bytes.now

-- what is wrong with how they are spelt
abbrev pub lent_fault : Lent → Option ReadFault
lent_fault (Held messages) = None
lent_fault (Spelt count bytes) = first_of (message_faults count bytes.now)
