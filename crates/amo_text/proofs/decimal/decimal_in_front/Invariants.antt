use Rattle.std.proofs.Common.{◌≡◌, ℕ, ◌<◌, ◌^◌, take, get_or}
use Rattle.std.specs.Char.{IsAsciiDigit}
use Rattle.std.specs.Str.Parse.{digits_value}
use Rattle.amo_text.proofs.decimal.decimal_in_front.Given as goal

-- the digits so far, and their value
abbrev pub invariant-loop-place : goal.invariant-loop-place
invariant-loop-place l = record {
  digits : (i : ℕ) → i < l.place → IsAsciiDigit (get_or l.text i 0);
  value : l.number ≡ digits_value 10 (take l.place l.text);
  small : l.number < 2 ^ 64;
}
