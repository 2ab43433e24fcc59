-- The letters of the sides.
use Rattle.std.specs.Prelude.{ℕ, List, codes}
use Rattle.amo_object.specs.declared.step.End.{End}
use Rattle.amo_object.specs.declared.step.End.TheVariants.{Sender, Receiver}

-- the letter of a side
abbrev pub letter_of : End → List ℕ
letter_of Sender = codes "s"
letter_of Receiver = codes "r"
