use Rattle.std.proofs.Common.{◌≡◌, ◌+◌, ◌*◌, ◌^◌}
use Rattle.amo_word.specs.Distinct.{round_function}
use Rattle.amo_word.specs.Feistel.{halves_of, rounds}
use Rattle.amo_word.proofs.feistel.shuffle.Given as goal

-- so many rounds were made
abbrev pub invariant-loop-round : goal.invariant-loop-round
invariant-loop-round l = (l.left, l.right) ≡ rounds (round_function l.key) l.round (halves_of (l.upper * 2 ^ 32 + l.lower))
