use Rattle.amo_text.proofs.Cuts.{IsField-decimal, IsField-hex, Lacks-decimal, Lacks-hex}
use Rattle.amo_text.proofs.laws.spellings_are_fields.Goals as goal

pub returns-clause-decimal : goal.returns-clause-decimal
returns-clause-decimal c = IsField-decimal

pub returns-clause-hex : goal.returns-clause-hex
returns-clause-hex c = IsField-hex

pub returns-clause-decimal_digits : goal.returns-clause-decimal_digits
returns-clause-decimal_digits c = Lacks-decimal

pub returns-clause-hex_digits : goal.returns-clause-hex_digits
returns-clause-hex_digits c = Lacks-hex
