-- Why requests are refused, and what that is answered.
use Rattle.std.specs.Prelude.{ℕ, Option, None, Some, List, codes}
use Rattle.amo_door.specs.declared.query.QueryFault.{QueryFault}
use Rattle.amo_door.specs.declared.query.QueryFault.TheVariants as query
use Rattle.amo_door.specs.declared.refusal.Refusal.{Refusal}
use Rattle.amo_door.specs.declared.refusal.Refusal.TheVariants.{Unreadable, Unknown, Repeated, Missing, Wrong, Stray, Token, Origin, NoPlace, NoStream, NoNumber, OtherSide, Method, Slow, Conflict, OtherLife, UnknownLife, UnknownLine, TooLong, LongTarget, Host, LongHead, Journal, Coding, Full, NotNow, Ending, Crowded}
use Rattle.amo_door.specs.Place.{methods_of}

-- the status of a refusal (RFC 9110, section 15; RFC 6585 for 431)
abbrev pub status_of : Refusal → ℕ
status_of Unreadable = 400
status_of Unknown = 400
status_of (Repeated _) = 400
status_of (Missing _) = 400
status_of (Wrong _) = 400
status_of (Stray _) = 400
status_of Token = 401
status_of Origin = 403
status_of NoPlace = 404
status_of NoStream = 404
status_of NoNumber = 404
status_of OtherSide = 404
status_of (Method _) = 405
status_of Slow = 408
status_of Conflict = 409
status_of OtherLife = 410
status_of UnknownLife = 410
status_of UnknownLine = 410
status_of TooLong = 413
status_of LongTarget = 414
status_of Host = 421
status_of LongHead = 431
status_of Journal = 500
status_of Coding = 501
status_of Full = 503
status_of NotNow = 503
status_of Ending = 503
status_of Crowded = 503

-- the word that tells a refusal from others
abbrev pub word_of : Refusal → List ℕ
word_of Unreadable = codes "unreadable"
word_of Unknown = codes "unknown_parameter"
word_of (Repeated _) = codes "repeated_parameter"
word_of (Missing _) = codes "missing_parameter"
word_of (Wrong _) = codes "wrong_parameter"
word_of (Stray _) = codes "stray_parameter"
word_of Token = codes "token"
word_of Origin = codes "origin"
word_of NoPlace = codes "no_place"
word_of NoStream = codes "no_stream"
word_of NoNumber = codes "no_number"
word_of OtherSide = codes "other_side"
word_of (Method _) = codes "method"
word_of Slow = codes "slow"
word_of Conflict = codes "conflict"
word_of OtherLife = codes "other_life"
word_of UnknownLife = codes "unknown_life"
word_of UnknownLine = codes "unknown_line"
word_of TooLong = codes "too_long"
word_of LongTarget = codes "long_target"
word_of Host = codes "host"
word_of LongHead = codes "long_head"
word_of Journal = codes "journal"
word_of Coding = codes "coding"
word_of Full = codes "full"
word_of NotNow = codes "not_now"
word_of Ending = codes "ending"
word_of Crowded = codes "crowded"

-- the methods of a place that was asked by another one
abbrev pub allow_of : Refusal → Option (List ℕ)
allow_of (Method place) = Some (methods_of place)
allow_of _ = None

-- in how many seconds it may be asked again
abbrev pub retry_of : Refusal → Option ℕ
retry_of Full = Some 1
retry_of NotNow = Some 1
retry_of Crowded = Some 1
retry_of _ = None

-- what is wrong with a query is why its request is refused
abbrev pub of_query : QueryFault → Refusal
of_query query.Unknown = Unknown
of_query (query.Repeated parameter) = Repeated parameter
