use Rattle.std.proofs.Common.{◌≡◌, take}
use Rattle.std.specs.List.{list_all}
use Rattle.amo_text.specs.Hexadecimal.{is_hex_digit}
use Rattle.amo_text.proofs.hexadecimal.are_digits.Given as goal

-- whether each byte so far is a digit
abbrev pub invariant-loop-digit : goal.invariant-loop-digit
invariant-loop-digit l = l.all ≡ list_all is_hex_digit (take l.digit-index l.text)
