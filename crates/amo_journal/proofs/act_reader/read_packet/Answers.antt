use Rattle.std.proofs.Common.{◌≢◌, ◌≤◌, ◌*◌, ℕ, length, List, arith}
use Rattle.std.specs.Prelude.{Option, None, Some, IfNone}
use Rattle.std.proofs.lemmas.Result.{IfOk-weaker}
use Rattle.amo_packet.specs.declared.packet.OwnedPacket.{OwnedPacket}
use Rattle.amo_packet.specs.Grammar.{spelling}
use Rattle.amo_packet.proofs.Spellings.{spelling_short}
use Rattle.amo_text.specs.Hexadecimal.{hex}
use Rattle.amo_text.proofs.HexDigits.{few_bytes}
use Rattle.amo_journal.specs.Fields.{IsPacket}
use Rattle.amo_journal.proofs.act_reader.read_packet.Goals as goal

-- a field of few digits spells no packet that fits into no room of half as many bytes
no_packet : (field : List ℕ) (room : ℕ) → length field ≤ 2 * room → (found : Option OwnedPacket)
    → IfNone found ((p : OwnedPacket) → IsPacket p → length (spelling p) ≤ room → field ≢ hex (spelling p))
    → IfNone found ((p : OwnedPacket) → IsPacket p → field ≢ hex (spelling p))
no_packet field room short None none = λ p fits e. none p fits (few_bytes field (spelling p) room e short) e
no_packet field room short (Some p) none = tt

-- nor is a packet longer than the longest
no_longest : (field : List ℕ) (found : Option OwnedPacket)
    → IfNone found ((p : OwnedPacket) → IsPacket p → length (spelling p) ≤ 4121 → field ≢ hex (spelling p))
    → IfNone found ((p : OwnedPacket) → IsPacket p → field ≢ hex (spelling p))
no_longest field None none = λ p fits e. none p fits (let short = spelling_short p fits.0 in omega arith) e
no_longest field (Some p) none = tt

pub returns-then-field-clause-none : goal.returns-then-field-clause-none
returns-then-field-clause-none c = IfOk-weaker c.packet_in.result _ _ (no_packet c.args.field.now 64 c.if-field.true) c.packet_in.ensures.none

pub returns-then-field-2-clause-none : goal.returns-then-field-2-clause-none
returns-then-field-2-clause-none c = IfOk-weaker c.packet_in-then-field-2.result _ _ (no_packet c.args.field.now 1042 c.if-field-2.true) c.packet_in-then-field-2.ensures.none

pub returns-clause-none : goal.returns-clause-none
returns-clause-none c = IfOk-weaker c.packet_in-2.result _ _ (no_longest c.args.field.now) c.packet_in-2.ensures.none
