-- What a list of steps puts into the queue and gets out of it.
use Rattle.std.specs.Prelude.{ℕ, Option, Some, None, List, [], ◌∷◌}
use Rattle.std.specs.List.{filter_map}
use Rattle.amo_object.specs.declared.step.Step.{Step}
use Rattle.amo_object.specs.declared.step.Step.TheVariants.{Put, Get}

-- the message that a step puts, if it puts one
abbrev pub message_put : Step → Option (List ℕ)
message_put (Put m) = Some m
message_put _ = None

-- the message that a step gets, if it gets one
abbrev pub message_got : Step → Option (List ℕ)
message_got (Get m) = Some m
message_got _ = None

-- the messages put, in the order put
abbrev pub messages_put : List Step → List (List ℕ)
messages_put steps = filter_map message_put steps

-- the messages got, in the order got
abbrev pub messages_got : List Step → List (List ℕ)
messages_got steps = filter_map message_got steps

-- the first list is the second with some of its elements left out: none comes twice, and none out of order
pub data IsSubsequence {X : Type 0} : List X → List X → Type 0 where
  empty : IsSubsequence [] []
  keep : {x : X} {xs ys : List X} → IsSubsequence xs ys → IsSubsequence (x ∷ xs) (x ∷ ys)
  leave_out : {y : X} {xs ys : List X} → IsSubsequence xs ys → IsSubsequence xs (y ∷ ys)
