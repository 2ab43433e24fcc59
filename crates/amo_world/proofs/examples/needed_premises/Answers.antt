use Rattle.std.proofs.Common.{◌≡◌, ℕ, List, [], ◌∷◌, ◌++◌, refl}
use Rattle.amo_object.specs.declared.step.End.TheVariants.{Sender}
use Rattle.amo_object.specs.declared.step.Step.TheVariants.{Put, Get, Crash, Recover}
use Rattle.amo_object.specs.Queue.{start}
use Rattle.amo_object.specs.Delivery.{IsSubsequence, keep, leave_out}
use Rattle.amo_object.proofs.Acknowledgements.{messages_got-acknowledged}
use Rattle.amo_world.specs.Example.{letter_a, letter_b, forged_journal, message_invented, message_got_twice, old_message_acknowledged, history_of}
use Rattle.amo_world.specs.Served.{IsServed}
use Rattle.amo_world.proofs.Consequences.{IsSubsequence-served}
use Rattle.amo_world.proofs.examples.needed_premises.Goals as goal

-- nothing put, nothing got
none-got : (a : List ℕ) → ¬ (IsSubsequence (a ∷ []) [])
none-got a sub = elim sub [ ]

-- one message put, not two got
one-got : (a b c : List ℕ) → ¬ (IsSubsequence (a ∷ b ∷ []) (c ∷ []))
one-got a b c (keep sub) = elim sub [ ]
one-got a b c (leave_out sub) = elim sub [ ]

-- no message is the last one of none
nothing-last : (m : List ℕ) (earlier : List (List ℕ)) → ¬ ([] ≡ earlier ++ m ∷ [])
nothing-last m [] e = absurd cc
nothing-last m (x ∷ earlier) e = absurd cc

-- the answer yes would tell that the new message was got
old-unserved : ¬ (IsServed 1 (history_of old_message_acknowledged))
old-unserved served =
    let before = Put letter_a ∷ Get letter_a ∷ Crash Sender ∷ Recover Sender ∷ [] in
    let found = messages_got-acknowledged start served.0 before letter_b [] served.1 served.2 refl in
    nothing-last letter_b found.0 found.1

pub returns-clause-unserved : goal.returns-clause-unserved
returns-clause-unserved c = (
  λ served. one-got letter_a letter_a letter_a (IsSubsequence-served 1 (history_of forged_journal) served),
  λ served. none-got letter_a (IsSubsequence-served 1 (history_of message_invented) served),
  λ served. one-got letter_a letter_a letter_a (IsSubsequence-served 1 (history_of message_got_twice) served),
  old-unserved,
)
