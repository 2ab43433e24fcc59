-- What is told of a put or a take, also where it is asked for again: where the event stands that was made for it.
use Rattle.std.proofs.Common.{◌≡◌, ℕ, Bool, true, false, eqb, List, [], ◌∷◌, ◌++◌, Option, Some, None, ◌⊎◌, ◌≤◌, inl, inr, refl, sym, subst, ◌∙◌, append-nil, arith}
use Rattle.std.specs.Prelude.{if◌then◌else◌}
use Rattle.std.specs.List.{AllByRecursion}
use Rattle.std.proofs.lemmas.Bool.{eqb-true}
use Rattle.std.proofs.lemmas.List.{append_cancel_right}
use Rattle.std.proofs.lemmas.Option.{same_Some}
use Rattle.amo_object.specs.declared.step.End.{End}
use Rattle.amo_object.specs.declared.step.End.TheVariants.{Receiver, Sender}
use Rattle.amo_core.specs.declared.act.Act.TheVariants as act
use Rattle.amo_core.specs.declared.reply.Reply.TheVariants as event_reply
use Rattle.amo_book.specs.Pass.{PassState, mine}
use Rattle.amo_live.specs.Callers.{GetsNone, gets_in}
use Rattle.amo_live.specs.Host.{puts_in}
use Rattle.amo_live.specs.Noted.{JournalState}
use Rattle.amo_live.specs.Service.{PutsNone}
use Rattle.amo_live.proofs.Getting.{happens_since, happens_until}
use Rattle.amo_door.specs.declared.answer.Answer.{Answer as DoorAnswer}
use Rattle.amo_door.specs.declared.answer.When.{When}
use Rattle.amo_door.specs.declared.answer.When.TheVariants.{Now, Before}
use Rattle.amo_door.specs.declared.claim.Claim.{Claim}
use Rattle.amo_door.specs.declared.claim.Decision.{Decision}
use Rattle.amo_door.specs.declared.claim.Decision.TheVariants.{Next, Again, Conflict, OtherLife}
use Rattle.amo_door.specs.declared.claim.Made.{Made}
use Rattle.amo_door.specs.declared.refusal.Refusal.TheVariants as refusal
use Rattle.amo_door.specs.Answer.{put_body, status_of_put}
use Rattle.amo_door.specs.Numbers.{Table, decision}
use Rattle.amo_door.specs.Refusal.{status_of}
use Rattle.amo_door.specs.Turns.{Answer, Answers, Claimed, Fresh, Gone, Keeps, NotNow, Repeated, Stands, Turn, Unclaimed, all_made, fresh, in_front, last_made, newest}
use Rattle.amo_serve.specs.Serving.{AnswersPut, AnswersTake, AnswersUnclaimed, Happened, HasServed, IsFull, IsPut, IsTurn, SpellsPut, SpellsTaken, Takes, TellsPut, TellsTake, WasGot, WasPut, got_by_turn, got_by_turns, put_by_turn, put_by_turns}
use Rattle.amo_serve.specs.declared.responder.taking.Taken.{Taken}
use Rattle.amo_serve.specs.declared.responder.taking.Taken.TheVariants as taken

-- what was made last was made by the newest turn, or before
made_last : (b : Bool) (now : Option Made) (all : List Made) (made : Made) → newest (in_front (if b then now else None) all) ≡ Some made → ((b ≡ true) × (now ≡ Some made)) ⊎ (newest all ≡ Some made)
made_last true (Some m) all made is = inl (refl, is)
made_last true None all made is = inr is
made_last false now all made is = inr is

-- What was made on a stream by a turn, or before, is so.
now_or_before : (P : ℕ → Made → Type 0) (of stream : ℕ) (now : Option Made) (all : List Made) (made : Made) → (now ≡ Some made → P of made) → (newest all ≡ Some made → P stream made) → ((eqb of stream ≡ true) × (now ≡ Some made)) ⊎ (newest all ≡ Some made)
    → P stream made
now_or_before P of stream now all made one older (inl (there, is)) = subst (λ (s : ℕ). P s made) (eqb-true of stream there) (one is)
now_or_before P of stream now all made one older (inr is) = older is

-- So is what turns made last on a stream, where that holds of what each of them made.
last_so : (P : ℕ → Made → Type 0) (Q : Turn → Type 0) → ((claim : Claim) (brings : Option (List ℕ)) (answer : Answer) (made : Made) → Q (Claimed claim brings answer) → fresh answer ≡ Some made → P claim.stream made)
    → ((of : ℕ) (made : Made) → Q (Unclaimed of made) → P of made) → (turns : List Turn) (stream : ℕ) (made : Made) → AllByRecursion Q turns → last_made stream turns ≡ Some made → P stream made
last_so P Q claimed unclaimed [] stream made all is = absurd (no is)
  where
    no : newest [] ≡ Some made → ⊥
    no e = cc
last_so P Q claimed unclaimed (Claimed claim brings answer ∷ past) stream made all is =
    now_or_before P claim.stream stream (fresh answer) (all_made stream past) made (λ fresh_is. claimed claim brings answer made all.0 fresh_is) (λ older. last_so P Q claimed unclaimed past stream made all.1 older)
    (made_last (eqb claim.stream stream) (fresh answer) (all_made stream past) made is)
last_so P Q claimed unclaimed (Unclaimed of m ∷ past) stream made all is =
    now_or_before P of stream (Some m) (all_made stream past) made (λ same. subst (P of) (same_Some m made same) (unclaimed of m all.0)) (λ older. last_so P Q claimed unclaimed past stream made all.1 older)
    (made_last (eqb of stream) (Some m) (all_made stream past) made is)

-- So is what a claim was answered to be made now, where that holds of each such answer.
fresh_so : (Q : Answer → Type 0) (P : Made → Type 0) (answer : Answer) (made : Made) → ((m : Made) → Q (Fresh m) → P m) → Q answer → fresh answer ≡ Some made → P made
fresh_so Q P (Fresh m) made so here is = subst P (same_Some m made is) (so m here)
fresh_so Q P (Repeated m) made so here is = cc
fresh_so Q P (Stands number) made so here is = cc
fresh_so Q P Gone made so here is = cc
fresh_so Q P NotNow made so here is = cc

-- a message that a turn of a claim made was put where it says, if the turn got nothing, and got there if it put nothing
module _ {S : Type 0} (u v : PassState) (j : JournalState S) (claim : Claim) where
  put_now : (brings : Option (List ℕ)) (m : Made) → Happened u v j (Claimed claim brings (Fresh m)) × (got_by_turn (Claimed claim brings (Fresh m)) ≡ []) → WasPut u v j claim.stream m
  put_now (Some brought) m (at, none) = at
  put_now None m (at, none) = cc

  got_now : (brings : Option (List ℕ)) (m : Made) → Happened u v j (Claimed claim brings (Fresh m)) × (put_by_turn (Claimed claim brings (Fresh m)) ≡ []) → WasGot u v j claim.stream m
  got_now (Some brought) m (at, none) = cc
  got_now None m (at, none) = at

  claimed_put : (brings : Option (List ℕ)) (answer : Answer) (made : Made) → Happened u v j (Claimed claim brings answer) × (got_by_turn (Claimed claim brings answer) ≡ []) → fresh answer ≡ Some made → WasPut u v j claim.stream made
  claimed_put brings answer made so is =
      fresh_so (λ (a : Answer). Happened u v j (Claimed claim brings a) × (got_by_turn (Claimed claim brings a) ≡ [])) (WasPut u v j claim.stream) answer made (put_now brings) so is

  claimed_got : (brings : Option (List ℕ)) (answer : Answer) (made : Made) → Happened u v j (Claimed claim brings answer) × (put_by_turn (Claimed claim brings answer) ≡ []) → fresh answer ≡ Some made → WasGot u v j claim.stream made
  claimed_got brings answer made so is =
      fresh_so (λ (a : Answer). Happened u v j (Claimed claim brings a) × (put_by_turn (Claimed claim brings a) ≡ [])) (WasGot u v j claim.stream) answer made (got_now brings) so is

-- what is put without a number is no get
unclaimed_got : {S : Type 0} (u v : PassState) (j : JournalState S) (of : ℕ) (made : Made) → Happened u v j (Unclaimed of made) × (put_by_turn (Unclaimed of made) ≡ []) → WasGot u v j of made
unclaimed_got u v j of made (at, none) = cc

-- turns that got nothing together got nothing each, and so with puts
none_before : {A : Type 0} (one more : List A) → one ++ more ≡ [] → (one ≡ []) × (more ≡ [])
none_before [] more none = (refl, none)
none_before (x ∷ one) more none = cc

none_got : {S : Type 0} (u v : PassState) (j : JournalState S) (turns : List Turn) → AllByRecursion (Happened u v j) turns → got_by_turns turns ≡ [] → AllByRecursion (λ (turn : Turn). Happened u v j turn × (got_by_turn turn ≡ [])) turns
none_got u v j [] all none = tt
none_got u v j (turn ∷ past) all none = let each = none_before (got_by_turn turn) (got_by_turns past) none in ((all.0, each.0), none_got u v j past all.1 each.1)

none_put : {S : Type 0} (u v : PassState) (j : JournalState S) (turns : List Turn) → AllByRecursion (Happened u v j) turns → put_by_turns turns ≡ [] → AllByRecursion (λ (turn : Turn). Happened u v j turn × (put_by_turn turn ≡ [])) turns
none_put u v j [] all none = tt
none_put u v j (turn ∷ past) all none = let each = none_before (put_by_turn turn) (put_by_turns past) none in ((all.0, each.0), none_put u v j past all.1 each.1)

-- what a claim is answered again was made last
again_last : (d : Decision) (last : Option Made) (claim : Claim) (brings : Option (List ℕ)) (made : Made) → Answers d last claim brings (Repeated made) → last ≡ Some made
again_last Next last claim brings made none = absurd none
again_last Again last claim brings made is = is
again_last Conflict last claim brings made none = absurd none
again_last OtherLife last claim brings made none = absurd none

-- so what turns made last on its stream is what it is answered again
module _ {S : Type 0} (side : End) (u v : PassState) (j : JournalState S) (s t : Table) (claim : Claim) (brings : Option (List ℕ)) (made : Made) (served : HasServed side u v j s) (keeps : (past : List Turn) → Keeps past s → Keeps (Claimed claim brings (Repeated made) ∷ past) t) where
  repeated_last : last_made claim.stream served.serves.turns ≡ Some made
  repeated_last =
      let turns = served.serves.turns in
      let kept : Keeps turns s = subst (λ (l : List Turn). Keeps l s) (append-nil turns) (served.serves.keeps [] served.none) in
      let right = (keeps turns kept).right in
      again_last (decision t.life (last_made claim.stream turns) claim brings) (last_made claim.stream turns) claim brings made right.0

  -- it was put, where nothing was got
  repeated_put : GetsNone u v → WasPut u v j claim.stream made
  repeated_put none =
      let turns = served.serves.turns in
      last_so (WasPut u v j) (λ (turn : Turn). Happened u v j turn × (got_by_turn turn ≡ [])) (claimed_put u v j) (λ of m so. so.0) turns claim.stream made
      (none_got u v j turns served.serves.happened (append_cancel_right (got_by_turns turns) [] (gets_in (mine u)) (sym served.serves.gets ∙ none))) repeated_last

  -- and got, where nothing was put
  repeated_got : PutsNone u v → WasGot u v j claim.stream made
  repeated_got none =
      let turns = served.serves.turns in
      last_so (WasGot u v j) (λ (turn : Turn). Happened u v j turn × (put_by_turn turn ≡ [])) (claimed_got u v j) (unclaimed_got u v j) turns claim.stream made
      (none_put u v j turns served.serves.happened (append_cancel_right (put_by_turns turns) [] (puts_in (mine u)) (sym served.serves.puts ∙ none))) repeated_last

-- an answer that refuses says of nothing that it was put
not_put : (refused status : ℕ) (when : When) → status ≡ refused → 400 ≤ refused → status ≡ status_of_put when → ⊥
not_put refused status Now is far put = let told : status ≡ 201 = put in omega (arith, is, far, told)
not_put refused status Before is far put = let told : status ≡ 200 = put in omega (arith, is, far, told)

put_told : {S : Type 0} (s t : Table) (u v w : PassState) (j k : JournalState S) (claim : Claim) (message : List ℕ) (answer : DoorAnswer) (told : Answer) → HasServed Sender u v j s → IsTurn s t v w j k (Claimed claim (Some message) told) → SpellsPut s.life claim.stream told answer
    → TellsPut u w k s.life claim.stream answer
put_told s t u v w j k claim message answer (Fresh made) served turn spelt = λ when status.
    (made, spelt.1, happens_since u v w k Sender claim.stream (act.Put made.message) event_reply.Ok made.place.position made.place.line served.serves.extends turn.happened)
put_told s t u v w j k claim message answer (Repeated made) served turn spelt = λ when status. (
  made,
  spelt.1,
  happens_until u v w j k Sender claim.stream (act.Put made.message) event_reply.Ok made.place.position made.place.line turn.extends turn.goes_on
      (repeated_put Sender u v j s t claim (Some message) made served turn.keeps served.alone),
)
put_told s t u v w j k claim message answer (Stands number) served turn spelt = λ when status. absurd (not_put 409 answer.status when spelt (omega arith) status)
put_told s t u v w j k claim message answer Gone served turn spelt = λ when status. absurd (not_put 410 answer.status when spelt (omega arith) status)
put_told s t u v w j k claim message answer NotNow served turn spelt = λ when status. absurd (not_put 503 answer.status when spelt (omega arith) status)

-- what an answer to a claim to put says was put stands where it says
pub tells_put : {S : Type 0} (s t : Table) (u v w : PassState) (j k : JournalState S) (claim : Claim) (message : List ℕ) (answer : DoorAnswer) → HasServed Sender u v j s → AnswersPut s t v w j k claim message answer → TellsPut u w k s.life claim.stream answer
tells_put s t u v w j k claim message answer served answers = put_told s t u v w j k claim message answer answers.told served answers.turn answers.spelt

-- so does one to what is put without a number
pub tells_unclaimed : {S : Type 0} (s t : Table) (u v w : PassState) (j k : JournalState S) (stream : ℕ) (message : List ℕ) (answer : DoorAnswer) → HasServed Sender u v j s → AnswersUnclaimed s t v w j k stream message answer → TellsPut u w k s.life stream answer
tells_unclaimed s t u v w j k stream message answer served (IsPut made turn bears status body) = λ when again.
    (made, body, happens_since u v w k Sender stream (act.Put made.message) event_reply.Ok made.place.position made.place.line served.serves.extends turn.happened)
tells_unclaimed s t u v w j k stream message answer served (IsFull same none full) = λ when status. absurd (not_put 503 answer.status when full (omega arith) status)

not_taken : (other status : ℕ) → status ≡ other → 201 ≤ other → status ≡ 200 → ⊥
not_taken other status is far took = omega (arith, is, far, took)

take_told : {S : Type 0} (s t : Table) (u v w : PassState) (j k : JournalState S) (claim : Claim) (answer : DoorAnswer) (told : Answer) → HasServed Receiver u v j s → IsTurn s t v w j k (Claimed claim None told) → SpellsTaken claim.stream told answer
    → TellsTake u w k claim.stream (taken.Answer answer)
take_told s t u v w j k claim answer (Fresh made) served turn spelt = λ status.
    (made, spelt, happens_since u v w k Receiver claim.stream act.Get (event_reply.Got made.message) made.place.position made.place.line served.serves.extends turn.happened)
take_told s t u v w j k claim answer (Repeated made) served turn spelt = λ status. (
  made,
  spelt,
  happens_until u v w j k Receiver claim.stream act.Get (event_reply.Got made.message) made.place.position made.place.line turn.extends turn.goes_on
      (repeated_got Receiver u v j s t claim None made served turn.keeps served.alone),
)
take_told s t u v w j k claim answer (Stands number) served turn spelt = λ status. absurd (not_taken 409 answer.status spelt (omega arith) status)
take_told s t u v w j k claim answer Gone served turn spelt = λ status. absurd (not_taken 410 answer.status spelt (omega arith) status)
take_told s t u v w j k claim answer NotNow served turn spelt = λ status. absurd (not_taken 204 answer.status spelt (omega arith) status)

-- and so does an answer to a claim to take
pub tells_take : {S : Type 0} (s t : Table) (u v w : PassState) (j k : JournalState S) (claim : Claim) (took : Taken) → HasServed Receiver u v j s → Takes s t v w j k claim took → TellsTake u w k claim.stream took
tells_take s t u v w j k claim (taken.Answer answer) served answers = take_told s t u v w j k claim answer answers.told served answers.turn answers.spelt
tells_take s t u v w j k claim (taken.NotYet back) served waits = tt
