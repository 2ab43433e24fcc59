-- The lines that tell what was found.
use Rattle.std.specs.Prelude.{ℕ, List, [], ◌∷◌, ◌++◌, codes}
use Rattle.std.specs.Fmt.{decimal}
use Rattle.amo_audit.specs.declared.verdict.Verdict.{Verdict}
use Rattle.amo_audit.specs.declared.verdict.Verdict.TheVariants.{Yes, Malformed, Gap, WrongReply, Unsent, Repeat, NoMemory}
use Rattle.amo_audit.specs.declared.judgement.Judgement.{Judgement}
use Rattle.amo_audit.specs.declared.judgement.Judgement.TheVariants.{Whole, First, Second, Shared, Stuck}

-- what was found, and at which line
abbrev pub found_line : List ℕ → ℕ → List ℕ
found_line what line = what ++ codes " at line " ++ decimal line ++ 10 ∷ []

-- the line that tells a verdict; none for want of memory
abbrev pub verdict_line : Verdict → List ℕ
verdict_line Yes = codes "yes" ++ 10 ∷ []
verdict_line (Malformed line) = found_line (codes "malformed") line
verdict_line (Gap line) = found_line (codes "gap") line
verdict_line (WrongReply line) = found_line (codes "wrong reply") line
verdict_line (Unsent line) = found_line (codes "unsent") line
verdict_line (Repeat line) = found_line (codes "repeat") line
verdict_line NoMemory = []

-- the line that tells what is found of one file, or of two
abbrev pub judgement_line : Judgement → List ℕ
judgement_line (Whole verdict) = verdict_line verdict
judgement_line (First verdict) = codes "file 1: " ++ verdict_line verdict
judgement_line (Second verdict) = codes "file 2: " ++ verdict_line verdict
judgement_line Shared = codes "shared" ++ 10 ∷ []
judgement_line Stuck = codes "stuck" ++ 10 ∷ []
