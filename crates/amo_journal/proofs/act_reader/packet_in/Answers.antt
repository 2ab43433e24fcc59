use Rattle.std.proofs.Common.{◌≡◌, ◌≢◌, ◌≤◌, List, ℕ, length, sym, ◌∙◌}
use Rattle.std.specs.Prelude.{Option, None, Some, IfNone}
use Rattle.std.proofs.lemmas.Result.{IfOk-weaker}
use Rattle.hex.specs.Hex.{IsBytes}
use Rattle.amo_packet.specs.declared.packet.OwnedPacket.{OwnedPacket}
use Rattle.amo_packet.specs.Grammar.{spelling}
use Rattle.amo_text.specs.Hexadecimal.{hex}
use Rattle.amo_text.proofs.HexDigits.{hex-injective}
use Rattle.amo_journal.specs.Fields.{IsPacket}
use Rattle.amo_journal.proofs.Fields.{bytes_of_spelling}
use Rattle.amo_journal.proofs.act_reader.packet_in.Goals as goal

-- a field spells no packet where the bytes that it spells do not
no_packet : (field bytes : List ℕ) (room : ℕ) → IsBytes bytes → field ≡ hex bytes → (found : Option OwnedPacket) → IfNone found ((p : OwnedPacket) → IsPacket p → bytes ≢ spelling p)
    → IfNone found ((p : OwnedPacket) → IsPacket p → length (spelling p) ≤ room → field ≢ hex (spelling p))
no_packet field bytes room known here None none = λ p fits short e. none p fits (hex-injective bytes (spelling p) known (bytes_of_spelling p fits.1) (sym here ∙ e))
no_packet field bytes room known here (Some p) none = tt

pub returns-in_default-clause-none : goal.returns-in_default-clause-none
returns-in_default-clause-none c = λ p known short. c.in_default.ensures.none (spelling p) (bytes_of_spelling p known.1) short

pub returns-clause-none : goal.returns-clause-none
returns-clause-none c = IfOk-weaker c.owned_packet.result _ _ (no_packet c.args.field.now _ _ c.in-Some.ensures.bytes c.in-Some.ensures.found) c.owned_packet.ensures.none
