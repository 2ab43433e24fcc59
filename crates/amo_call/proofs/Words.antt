-- The words for refusals are words, and their statuses those of doors.
use Rattle.std.proofs.Common.{◌≡◌, ℕ, true, leb, List, length, codes, refl}
use Rattle.std.specs.List.{list_all}
use Rattle.std.proofs.lemmas.Bool.{leb-true}
use Rattle.amo_door.specs.declared.refusal.Refusal.{Refusal}
use Rattle.amo_door.specs.declared.refusal.Refusal.TheVariants.{Unreadable, Unknown, Repeated, Missing, Wrong, Stray, Token, Origin, NoPlace, NoStream, NoNumber, OtherSide, Method, Slow, Conflict, OtherLife, UnknownLife, UnknownLine, TooLong, LongTarget, Host, LongHead, Journal, Coding, Full, NotNow, Ending, Crowded}
use Rattle.amo_door.specs.Refusal.{status_of, word_of}
use Rattle.amo_door.specs.Word.{IsWord, is_word_character}
use Rattle.amo_call.specs.Answer.{is_door_status}

-- what computes to a word
word : (text : List ℕ) → leb 1 (length text) ≡ true → leb (length text) 32 ≡ true → list_all is_word_character text ≡ true → IsWord text
word text some short characters = record { some = leb-true 1 (length text) some; short = leb-true (length text) 32 short; characters = characters }

pub IsWord-word_of : (reason : Refusal) → IsWord (word_of reason)
IsWord-word_of Unreadable = word (codes "unreadable") refl refl refl
IsWord-word_of Unknown = word (codes "unknown_parameter") refl refl refl
IsWord-word_of (Repeated p) = word (codes "repeated_parameter") refl refl refl
IsWord-word_of (Missing p) = word (codes "missing_parameter") refl refl refl
IsWord-word_of (Wrong p) = word (codes "wrong_parameter") refl refl refl
IsWord-word_of (Stray p) = word (codes "stray_parameter") refl refl refl
IsWord-word_of Token = word (codes "token") refl refl refl
IsWord-word_of Origin = word (codes "origin") refl refl refl
IsWord-word_of NoPlace = word (codes "no_place") refl refl refl
IsWord-word_of NoStream = word (codes "no_stream") refl refl refl
IsWord-word_of NoNumber = word (codes "no_number") refl refl refl
IsWord-word_of OtherSide = word (codes "other_side") refl refl refl
IsWord-word_of (Method p) = word (codes "method") refl refl refl
IsWord-word_of Slow = word (codes "slow") refl refl refl
IsWord-word_of Conflict = word (codes "conflict") refl refl refl
IsWord-word_of OtherLife = word (codes "other_life") refl refl refl
IsWord-word_of UnknownLife = word (codes "unknown_life") refl refl refl
IsWord-word_of UnknownLine = word (codes "unknown_line") refl refl refl
IsWord-word_of TooLong = word (codes "too_long") refl refl refl
IsWord-word_of LongTarget = word (codes "long_target") refl refl refl
IsWord-word_of Host = word (codes "host") refl refl refl
IsWord-word_of LongHead = word (codes "long_head") refl refl refl
IsWord-word_of Journal = word (codes "journal") refl refl refl
IsWord-word_of Coding = word (codes "coding") refl refl refl
IsWord-word_of Full = word (codes "full") refl refl refl
IsWord-word_of NotNow = word (codes "not_now") refl refl refl
IsWord-word_of Ending = word (codes "ending") refl refl refl
IsWord-word_of Crowded = word (codes "crowded") refl refl refl

-- a door's refusals have statuses of a door
pub of_door : (reason : Refusal) → is_door_status (status_of reason) ≡ true
of_door Unreadable = refl
of_door Unknown = refl
of_door (Repeated p) = refl
of_door (Missing p) = refl
of_door (Wrong p) = refl
of_door (Stray p) = refl
of_door Token = refl
of_door Origin = refl
of_door NoPlace = refl
of_door NoStream = refl
of_door NoNumber = refl
of_door OtherSide = refl
of_door (Method p) = refl
of_door Slow = refl
of_door Conflict = refl
of_door OtherLife = refl
of_door UnknownLife = refl
of_door UnknownLine = refl
of_door TooLong = refl
of_door LongTarget = refl
of_door Host = refl
of_door LongHead = refl
of_door Journal = refl
of_door Coding = refl
of_door Full = refl
of_door NotNow = refl
of_door Ending = refl
of_door Crowded = refl
