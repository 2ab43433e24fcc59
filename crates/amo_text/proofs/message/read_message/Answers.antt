use Rattle.std.proofs.Common.{◌≢◌, ◌≤◌, ℕ, List, length}
use Rattle.std.specs.Prelude.{Option, None, Some, IfNone}
use Rattle.std.proofs.lemmas.Result.{IfOk-weaker}
use Rattle.amo_text.specs.Hexadecimal.{hex}
use Rattle.amo_text.specs.Message.{IsMessage}
use Rattle.amo_text.proofs.HexDigits.{few_bytes}
use Rattle.amo_text.proofs.message.read_message.Goals as goal

-- a short field spells no long message
no_message : {A : Type 0} (field : List ℕ) → length field ≤ 128 → (found : Option A)
    → IfNone found ((m : List ℕ) → IsMessage m → length m ≤ 64 → field ≢ hex m) → IfNone found ((m : List ℕ) → IsMessage m → field ≢ hex m)
no_message field short None none = λ m known e. none m known (few_bytes field m 64 e short) e
no_message field short (Some a) none = tt

pub returns-then-field-clause-none : goal.returns-then-field-clause-none
returns-then-field-clause-none c = IfOk-weaker c.message_in.result _ _ (no_message c.args.field.now c.if-field.true) c.message_in.ensures.none
