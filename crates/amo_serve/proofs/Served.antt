-- What a host does for those who ask, step by step.
use Rattle.std.proofs.Common.{◌≡◌, ℕ, Bool, true, false, cond, not, eqb, List, [], ◌∷◌, ◌++◌, Option, Some, None, Ok, Err, refl, sym, ap, ◌∙◌, subst, append_assoc, append-nil}
use Rattle.std.specs.Prelude.{IfSome, OnOk, Result, bytes_eq, if◌then◌else◌}
use Rattle.std.specs.List.{AllByRecursion}
use Rattle.amo_object.specs.declared.step.End.TheVariants.{Receiver, Sender}
use Rattle.amo_core.specs.declared.act.Act.TheVariants as act
use Rattle.amo_core.specs.declared.reply.Reply.TheVariants as event_reply
use Rattle.amo_world.specs.History.{Extends}
use Rattle.amo_world.proofs.Extensions.{further, itself}
use Rattle.amo_book.specs.Pass.{PassState, mine}
use Rattle.amo_live.specs.Callers.{GetsNone, HappensAt, IsSameLife, gets_in}
use Rattle.amo_live.specs.Host.{puts_in}
use Rattle.amo_live.specs.Noted.{JournalState}
use Rattle.amo_live.proofs.Getting.{happens_extends, happens_since, happens_until}
use Rattle.amo_live.proofs.Lined.{life_itself, life_on}
use Rattle.amo_door.specs.declared.answer.Answer.{Answer as DoorAnswer}
use Rattle.amo_door.specs.declared.claim.Claim.{Claim}
use Rattle.amo_door.specs.declared.answer.When.TheVariants.{Now, Before}
use Rattle.amo_door.specs.declared.claim.Decision.{Decision}
use Rattle.amo_door.specs.declared.claim.Decision.TheVariants.{Next, Again, Conflict, OtherLife}
use Rattle.amo_door.specs.declared.claim.EventPlace.{EventPlace}
use Rattle.amo_door.specs.declared.claim.Made.{Made}
use Rattle.amo_door.specs.declared.refusal.Refusal.TheVariants as refusal
use Rattle.amo_door.specs.Answer.{put_body, status_of_put}
use Rattle.amo_door.specs.Numbers.{HasStream, Table, decision, last_of, made_for, number_of}
use Rattle.amo_door.specs.Refusal.{status_of}
use Rattle.amo_door.specs.Turns.{Answer, Answers, Claimed, Fresh, Gone, Keeps, NotNow, Repeated, Stands, Turn, Unclaimed, all_made, fresh, in_front, newest}
use Rattle.amo_serve.specs.Serving.{AnswersPut, AnswersTake, AnswersUnclaimed, CarriesMade, Happened, IsFull, IsPut, IsStill, IsTurn, Serves, SpellsPut, SpellsTaken, Takes, got_by_turn, got_by_turns, put_by_turn, put_by_turns}
use Rattle.amo_live.specs.Service.{words_of}
use Rattle.amo_live.specs.Words.{BearsNew, words_in}
use Rattle.amo_live.specs.declared.service.Service.{Service}
use Rattle.amo_live.proofs.Fresh.{bears_none}
use Rattle.amo_serve.specs.States.{HasLooked}
use Rattle.amo_serve.specs.declared.responder.Responder.{Responder}
use Rattle.amo_serve.specs.declared.responder.taking.Taken.{Taken}
use Rattle.amo_serve.specs.declared.responder.taking.Taken.TheVariants as taken

-- no turn came, and nothing was put or got
pub serves_none : {S : Type 0} (s t : Table) (v w : PassState) (j k : JournalState S) → t ≡ s → IsStill v w j k → Serves s t v w j k
serves_none s t v w j k same none =
    record { turns = []; keeps = λ past keeps. subst (Keeps past) (sym same) keeps; puts = none.0.0; gets = none.0.1; extends = none.1; goes_on = none.2; happened = tt }

-- nothing happened, where the pass and the journal are the same
pub still : {S : Type 0} (v w : PassState) (j k : JournalState S) → w ≡ v → k ≡ j → IsStill v w j k
still {S = S} v w j k same journal = subst (λ (x : PassState). IsStill v x j k) (sym same) (subst (λ (x : JournalState S). IsStill v v j x) (sym journal) ((refl, refl), itself v.seen, life_itself v j))

-- also where the journal was written down
pub still_in : {S : Type 0} (v w : PassState) (j k : JournalState S) → w ≡ v → IsSameLife v w j k → IsStill v w j k
still_in v w j k same life = let none = still v w j j same refl in (none.0, none.1, life)

-- and no turn came, whatever is answered
pub serves_still : {S : Type 0} (s : Table) (v : PassState) (j : JournalState S) → Serves s s v v j j
serves_still s v j = serves_none s s v v j j refl (still v v j j refl refl)

pub each_serves : {S T E : Type 0} (result : Result T E) (s : Table) (v : PassState) (j : JournalState S) → OnOk result (Serves s s v v j j)
each_serves (Ok value) s v j = serves_still s v j
each_serves (Err fault) s v j = tt

-- nor did one where it looked how a stream stands
pub looked_serves : {L S W : Type 0} (r s : Responder L S W) → HasLooked r s → Serves r.numbers s.numbers r.service.host.pass s.service.host.pass r.service.host.journal s.service.host.journal
looked_serves {L = L} {S = S} {W = W} r s looked =
    serves_none r.numbers s.numbers r.service.host.pass s.service.host.pass r.service.host.journal s.service.host.journal (ap (λ (x : Responder L S W). x.numbers) looked.0)
    (still r.service.host.pass s.service.host.pass r.service.host.journal s.service.host.journal (ap (λ (x : Service L S W). x.host.pass) looked.1) (ap (λ (x : Service L S W). x.host.journal) looked.1))

pub looked_bears : {L S W : Type 0} {drawn : W → ℕ → Type 0} (r s : Responder L S W) → HasLooked r s → BearsNew drawn (words_of r.service) (words_of s.service) r.service.host.pass s.service.host.pass
looked_bears {L = L} {S = S} {W = W} r s looked =
    bears_none (words_of r.service) (words_of s.service) r.service.host.pass s.service.host.pass (ap (λ (x : Service L S W). words_of x) looked.1)
    (ap (λ (x : Service L S W). words_in (mine x.host.pass)) looked.1)

-- nor behind that
pub still_to : {S : Type 0} (v u w : PassState) (i j k : JournalState S) → w ≡ u → k ≡ j → IsStill v u i j → IsStill v w i k
still_to {S = S} v u w i j k same journal none = subst (λ (x : PassState). IsStill v x i k) (sym same) (subst (λ (x : JournalState S). IsStill v u i x) (sym journal) none)

-- what a turn made happened also behind what was seen before, and in front of what is seen later
pub happened_since : {S : Type 0} (u v w : PassState) (j : JournalState S) (turn : Turn) → Extends v.seen u.seen → Happened v w j turn → Happened u w j turn
happened_since u v w j (Claimed claim (Some brought) (Fresh made)) more at = happens_since u v w j Sender claim.stream (act.Put made.message) event_reply.Ok made.place.position made.place.line more at
happened_since u v w j (Claimed claim (Some brought) (Repeated made)) more at = tt
happened_since u v w j (Claimed claim (Some brought) (Stands number)) more at = tt
happened_since u v w j (Claimed claim (Some brought) Gone) more at = tt
happened_since u v w j (Claimed claim (Some brought) NotNow) more at = tt
happened_since u v w j (Claimed claim None (Fresh made)) more at = happens_since u v w j Receiver claim.stream act.Get (event_reply.Got made.message) made.place.position made.place.line more at
happened_since u v w j (Claimed claim None (Repeated made)) more at = tt
happened_since u v w j (Claimed claim None (Stands number)) more at = tt
happened_since u v w j (Claimed claim None Gone) more at = tt
happened_since u v w j (Claimed claim None NotNow) more at = tt
happened_since u v w j (Unclaimed stream made) more at = happens_since u v w j Sender stream (act.Put made.message) event_reply.Ok made.place.position made.place.line more at

pub happened_until : {S : Type 0} (v w x : PassState) (j k : JournalState S) (turn : Turn) → Extends x.seen w.seen → IsSameLife w x j k → Happened v w j turn → Happened v x k turn
happened_until v w x j k (Claimed claim (Some brought) (Fresh made)) more life at = happens_until v w x j k Sender claim.stream (act.Put made.message) event_reply.Ok made.place.position made.place.line more life at
happened_until v w x j k (Claimed claim (Some brought) (Repeated made)) more life at = tt
happened_until v w x j k (Claimed claim (Some brought) (Stands number)) more life at = tt
happened_until v w x j k (Claimed claim (Some brought) Gone) more life at = tt
happened_until v w x j k (Claimed claim (Some brought) NotNow) more life at = tt
happened_until v w x j k (Claimed claim None (Fresh made)) more life at = happens_until v w x j k Receiver claim.stream act.Get (event_reply.Got made.message) made.place.position made.place.line more life at
happened_until v w x j k (Claimed claim None (Repeated made)) more life at = tt
happened_until v w x j k (Claimed claim None (Stands number)) more life at = tt
happened_until v w x j k (Claimed claim None Gone) more life at = tt
happened_until v w x j k (Claimed claim None NotNow) more life at = tt
happened_until v w x j k (Unclaimed stream made) more life at = happens_until v w x j k Sender stream (act.Put made.message) event_reply.Ok made.place.position made.place.line more life at

-- and so it did by each of two rows of turns
both_happened : {S : Type 0} (v w x : PassState) (j k : JournalState S) (later earlier : List Turn) → Extends x.seen w.seen → IsSameLife w x j k → Extends w.seen v.seen → AllByRecursion (Happened w x k) later → AllByRecursion (Happened v w j) earlier
    → AllByRecursion (Happened v x k) (later ++ earlier)
both_happened v w x j k [] [] after life before later earlier = tt
both_happened v w x j k [] (turn ∷ past) after life before later earlier = (happened_until v w x j k turn after life earlier.0, both_happened v w x j k [] past after life before tt earlier.1)
both_happened v w x j k (turn ∷ more) past after life before later earlier = (happened_since v w x k turn before later.0, both_happened v w x j k more past after life before later.1 earlier)

-- one turn came
pub serves_turn : {S : Type 0} (s t : Table) (v w : PassState) (j k : JournalState S) (turn : Turn) → IsTurn s t v w j k turn → Serves s t v w j k
serves_turn s t v w j k turn is = record {
  turns = turn ∷ [];
  keeps = is.keeps;
  puts = is.puts ∙ ap (λ (l : List (ℕ × List ℕ)). l ++ puts_in (mine v)) (sym (append-nil (put_by_turn turn)));
  gets = is.gets ∙ ap (λ (l : List (ℕ × List ℕ)). l ++ gets_in (mine v)) (sym (append-nil (got_by_turn turn)));
  extends = is.extends;
  goes_on = is.goes_on;
  happened = (is.happened, tt);
}

-- what more turns put stands in front, and so does what they got
puts_append : (more past : List Turn) → put_by_turns (more ++ past) ≡ put_by_turns more ++ put_by_turns past
puts_append [] past = refl
puts_append (turn ∷ more) past = ap (λ (l : List (ℕ × List ℕ)). put_by_turn turn ++ l) (puts_append more past) ∙ sym (append_assoc (put_by_turn turn) (put_by_turns more) (put_by_turns past))

gets_append : (more past : List Turn) → got_by_turns (more ++ past) ≡ got_by_turns more ++ got_by_turns past
gets_append [] past = refl
gets_append (turn ∷ more) past = ap (λ (l : List (ℕ × List ℕ)). got_by_turn turn ++ l) (gets_append more past) ∙ sym (append_assoc (got_by_turn turn) (got_by_turns more) (got_by_turns past))

-- messages in front of others, and more in front of all
in_front_of : (two one new first last both : List (ℕ × List ℕ)) → last ≡ two ++ new → new ≡ one ++ first → both ≡ two ++ one → last ≡ both ++ first
in_front_of two one new first last both later earlier are = later ∙ (ap (λ (l : List (ℕ × List ℕ)). two ++ l) earlier ∙ (sym (append_assoc two one first) ∙ ap (λ (l : List (ℕ × List ℕ)). l ++ first) (sym are)))

-- one after the other
pub serves_on : {S : Type 0} (s t u : Table) (v w x : PassState) (i j k : JournalState S) → Serves s t v w i j → Serves t u w x j k → Serves s u v x i k
serves_on s t u v w x i j k one two = record {
  turns = two.turns ++ one.turns;
  keeps = λ past keeps. subst (λ (l : List Turn). Keeps l u) (sym (append_assoc two.turns one.turns past)) (two.keeps (one.turns ++ past) (one.keeps past keeps));
  puts = in_front_of (put_by_turns two.turns) (put_by_turns one.turns) (puts_in (mine w)) (puts_in (mine v)) (puts_in (mine x)) (put_by_turns (two.turns ++ one.turns)) two.puts one.puts (puts_append two.turns one.turns);
  gets = in_front_of (got_by_turns two.turns) (got_by_turns one.turns) (gets_in (mine w)) (gets_in (mine v)) (gets_in (mine x)) (got_by_turns (two.turns ++ one.turns)) two.gets one.gets (gets_append two.turns one.turns);
  extends = further x.seen w.seen v.seen two.extends one.extends;
  goes_on = life_on v w x i j k one.goes_on two.goes_on;
  happened = both_happened v w x j k two.turns one.turns two.extends two.goes_on one.extends two.happened one.happened;
}

-- the same, of values that are known under other names
pub serves_as : {S : Type 0} (s t s' t' : Table) (v w v' w' : PassState) (j k j' k' : JournalState S) → s' ≡ s → t' ≡ t → v' ≡ v → w' ≡ w → j' ≡ j → k' ≡ k → Serves s t v w j k → Serves s' t' v' w' j' k'
serves_as {S = S} s t s' t' v w v' w' j k j' k' a b c d e f serves =
    subst (λ (x : Table). Serves x t' v' w' j' k') (sym a) (subst (λ (x : Table). Serves s x v' w' j' k') (sym b)
    (subst (λ (x : PassState). Serves s t x w' j' k') (sym c) (subst (λ (x : PassState). Serves s t v x j' k') (sym d)
    (subst (λ (x : JournalState S). Serves s t v w x k') (sym e) (subst (λ (x : JournalState S). Serves s t v w j x) (sym f) serves)))))

-- a claim to put that was answered is a turn
pub put_serves : {S : Type 0} (s t : Table) (v w : PassState) (j k : JournalState S) (claim : Claim) (message : List ℕ) (answer : DoorAnswer) → AnswersPut s t v w j k claim message answer → Serves s t v w j k
put_serves s t v w j k claim message answer answers = serves_turn s t v w j k (Claimed claim (Some message) answers.told) answers.turn

pub unclaimed_serves : {S : Type 0} (s t : Table) (v w : PassState) (j k : JournalState S) (stream : ℕ) (message : List ℕ) (answer : DoorAnswer) → AnswersUnclaimed s t v w j k stream message answer → Serves s t v w j k
unclaimed_serves s t v w j k stream message answer (IsPut made turn bears status body) = serves_turn s t v w j k _ turn
unclaimed_serves s t v w j k stream message answer (IsFull same none status) = serves_none s t v w j k same none

-- so is a claim to take; one that waits is none
pub take_serves : {S : Type 0} (s t : Table) (v w : PassState) (j k : JournalState S) (claim : Claim) (took : Taken) → Takes s t v w j k claim took → Serves s t v w j k
take_serves s t v w j k claim (taken.Answer answer) answers = serves_turn s t v w j k (Claimed claim None answers.told) answers.turn
take_serves s t v w j k claim (taken.NotYet back) (same, kept, none) = serves_none s t v w j k kept none

-- what was made last stays where a turn made nothing
nothing_made : (b : Bool) (made : Option Made) (all : List Made) → made ≡ None → newest (in_front (if b then made else None) all) ≡ newest all
nothing_made true made all none = ap (λ (m : Option Made). newest (in_front m all)) none
nothing_made false made all none = refl

-- a turn that made nothing is right behind those that are kept, and keeps them
still_kept : (s : Table) (claim : Claim) (brings : Option (List ℕ)) (told : Answer) → HasStream s claim.stream
    → Answers (decision s.life (last_of s claim.stream) claim brings) (last_of s claim.stream) claim brings told → fresh told ≡ None → (past : List Turn) → Keeps past s → Keeps (Claimed claim brings told ∷ past) s
still_kept s claim brings told has answers none past keeps = record {
  right = (subst (λ (last : Option Made). Answers (decision s.life last claim brings) last claim brings told) (keeps.lasts claim.stream has) answers, keeps.right);
  lasts = λ stream there. keeps.lasts stream there ∙ sym (nothing_made (eqb claim.stream stream) (fresh told) (all_made stream past) none);
}

nothing_put : (claim : Claim) (brings : Option (List ℕ)) (told : Answer) → fresh told ≡ None → put_by_turn (Claimed claim brings told) ≡ []
nothing_put claim None told none = refl
nothing_put claim (Some message) (Fresh made) none = cc
nothing_put claim (Some message) (Repeated made) none = refl
nothing_put claim (Some message) (Stands number) none = refl
nothing_put claim (Some message) Gone none = refl
nothing_put claim (Some message) NotNow none = refl

nothing_got : (claim : Claim) (brings : Option (List ℕ)) (told : Answer) → fresh told ≡ None → got_by_turn (Claimed claim brings told) ≡ []
nothing_got claim (Some message) told none = refl
nothing_got claim None (Fresh made) none = cc
nothing_got claim None (Repeated made) none = refl
nothing_got claim None (Stands number) none = refl
nothing_got claim None Gone none = refl
nothing_got claim None NotNow none = refl

nothing_happened : {S : Type 0} (v w : PassState) (j : JournalState S) (claim : Claim) (brings : Option (List ℕ)) (told : Answer) → fresh told ≡ None → Happened v w j (Claimed claim brings told)
nothing_happened v w j claim None (Fresh made) none = cc
nothing_happened v w j claim None (Repeated made) none = tt
nothing_happened v w j claim None (Stands number) none = tt
nothing_happened v w j claim None Gone none = tt
nothing_happened v w j claim None NotNow none = tt
nothing_happened v w j claim (Some message) (Fresh made) none = cc
nothing_happened v w j claim (Some message) (Repeated made) none = tt
nothing_happened v w j claim (Some message) (Stands number) none = tt
nothing_happened v w j claim (Some message) Gone none = tt
nothing_happened v w j claim (Some message) NotNow none = tt

-- the turn of a claim that made nothing
still_turn : {S : Type 0} (s t : Table) (v w : PassState) (j k : JournalState S) (claim : Claim) (brings : Option (List ℕ)) (told : Answer) → HasStream s claim.stream
    → Answers (decision s.life (last_of s claim.stream) claim brings) (last_of s claim.stream) claim brings told → fresh told ≡ None → t ≡ s
    → IsStill v w j k → IsTurn s t v w j k (Claimed claim brings told)
still_turn s t v w j k claim brings told has answers none same ((puts, gets), more, life) = record {
  keeps = λ past keeps. subst (Keeps (Claimed claim brings told ∷ past)) (sym same) (still_kept s claim brings told has answers none past keeps);
  puts = puts ∙ ap (λ (l : List (ℕ × List ℕ)). l ++ puts_in (mine v)) (sym (nothing_put claim brings told none));
  gets = gets ∙ ap (λ (l : List (ℕ × List ℕ)). l ++ gets_in (mine v)) (sym (nothing_got claim brings told none));
  extends = more;
  goes_on = life;
  happened = nothing_happened v w k claim brings told none;
}

module _ {S : Type 0} (s t : Table) (v w : PassState) (j k : JournalState S) (claim : Claim) (message : List ℕ) where
  -- a claim to put for which nothing was put
  pub not_put : (told : Answer) (answer : DoorAnswer) → HasStream s claim.stream → Answers (decision s.life (last_of s claim.stream) claim (Some message)) (last_of s claim.stream) claim (Some message) told → fresh told ≡ None
      → t ≡ s → IsStill v w j k → SpellsPut s.life claim.stream told answer → AnswersPut s t v w j k claim message answer
  not_put told answer has answers none same kept spelt = record {
    told = told;
    turn = still_turn s t v w j k claim (Some message) told has answers none same kept;
    spelt = spelt;
  }

  -- there was no room
  pub full_put : (answer : DoorAnswer) → HasStream s claim.stream → decision s.life (last_of s claim.stream) claim (Some message) ≡ Next → t ≡ s → IsStill v w j k
      → answer.status ≡ status_of refusal.Full → AnswersPut s t v w j k claim message answer
  full_put answer has next same kept status = not_put NotNow answer has (subst (λ (d : Decision). Answers d (last_of s claim.stream) claim (Some message) NotNow) (sym next) tt) refl same kept status

  -- another number is next
  pub conflicting_put : (answer : DoorAnswer) → HasStream s claim.stream → decision s.life (last_of s claim.stream) claim (Some message) ≡ Conflict → t ≡ s → IsStill v w j k
      → answer.status ≡ status_of refusal.Conflict → AnswersPut s t v w j k claim message answer
  conflicting_put answer has conflict same kept status =
      not_put (Stands (number_of (last_of s claim.stream))) answer has (subst (λ (d : Decision). Answers d (last_of s claim.stream) claim (Some message) (Stands (number_of (last_of s claim.stream)))) (sym conflict) refl) refl same kept status

  -- it was put before
  pub put_before : (made : Made) (answer : DoorAnswer) → HasStream s claim.stream → decision s.life (last_of s claim.stream) claim (Some message) ≡ Again → last_of s claim.stream ≡ Some made → t ≡ s → IsStill v w j k
      → (answer.status ≡ status_of_put Before) × (answer.body.items ≡ put_body s.life claim.stream made) → AnswersPut s t v w j k claim message answer
  put_before made answer has again last same kept told =
      not_put (Repeated made) answer has (subst (λ (d : Decision). Answers d (last_of s claim.stream) claim (Some message) (Repeated made)) (sym again) last) refl same kept told

  -- it was put now
  pub put_now : (place : EventPlace) (answer : DoorAnswer) → IsSameLife v w j k → HappensAt v w k Sender claim.stream (act.Put message) event_reply.Ok place.position place.line → ((past : List Turn) → Keeps past s → Keeps (Claimed claim (Some message) (Fresh (made_for claim message place)) ∷ past) t)
      → puts_in (mine w) ≡ (claim.stream, message) ∷ puts_in (mine v) → GetsNone v w → (answer.status ≡ status_of_put Now) × (answer.body.items ≡ put_body s.life claim.stream (made_for claim message place)) → AnswersPut s t v w j k claim message answer
  put_now place answer life at keeps puts gets told = record {
    told = Fresh (made_for claim message place);
    turn = record { keeps = keeps; puts = puts; gets = gets; extends = happens_extends v w k Sender claim.stream (act.Put message) event_reply.Ok place.position place.line at; goes_on = life; happened = at };
    spelt = told;
  }

module _ {S : Type 0} (s t : Table) (v w : PassState) (j k : JournalState S) (claim : Claim) where
  -- a claim to take for which nothing was got
  pub not_taken : (told : Answer) (answer : DoorAnswer) → HasStream s claim.stream → Answers (decision s.life (last_of s claim.stream) claim None) (last_of s claim.stream) claim None told → fresh told ≡ None
      → t ≡ s → IsStill v w j k → SpellsTaken claim.stream told answer → AnswersTake s t v w j k claim answer
  not_taken told answer has answers none same kept spelt = record {
    told = told;
    turn = still_turn s t v w j k claim None told has answers none same kept;
    spelt = spelt;
  }

  -- another number is next
  pub conflicting_take : (answer : DoorAnswer) → HasStream s claim.stream → decision s.life (last_of s claim.stream) claim None ≡ Conflict → t ≡ s → IsStill v w j k
      → answer.status ≡ status_of refusal.Conflict → AnswersTake s t v w j k claim answer
  conflicting_take answer has conflict same kept status =
      not_taken (Stands (number_of (last_of s claim.stream))) answer has (subst (λ (d : Decision). Answers d (last_of s claim.stream) claim None (Stands (number_of (last_of s claim.stream)))) (sym conflict) refl) refl same kept status

  -- it was taken before
  pub taken_before : (made : Made) (answer : DoorAnswer) → HasStream s claim.stream → decision s.life (last_of s claim.stream) claim None ≡ Again → last_of s claim.stream ≡ Some made → t ≡ s → IsStill v w j k
      → CarriesMade claim.stream made answer → AnswersTake s t v w j k claim answer
  taken_before made answer has again last same kept told =
      not_taken (Repeated made) answer has (subst (λ (d : Decision). Answers d (last_of s claim.stream) claim None (Repeated made)) (sym again) last) refl same kept told

  -- it was taken now
  pub taken_now : (message : List ℕ) (place : EventPlace) (answer : DoorAnswer) → IsSameLife v w j k → HappensAt v w k Receiver claim.stream act.Get (event_reply.Got message) place.position place.line → ((past : List Turn) → Keeps past s → Keeps (Claimed claim None (Fresh (made_for claim message place)) ∷ past) t)
      → puts_in (mine w) ≡ puts_in (mine v) → gets_in (mine w) ≡ (claim.stream, message) ∷ gets_in (mine v) → CarriesMade claim.stream (made_for claim message place) answer → AnswersTake s t v w j k claim answer
  taken_now message place answer life at keeps puts gets told = record {
    told = Fresh (made_for claim message place);
    turn = record { keeps = keeps; puts = puts; gets = gets; extends = happens_extends v w k Receiver claim.stream act.Get (event_reply.Got message) place.position place.line at; goes_on = life; happened = at };
    spelt = told;
  }

-- where it is decided that a claim comes again, something was made before
pub made_before : (life : List ℕ) (claim : Claim) (brings : Option (List ℕ)) (last : Option Made) → decision life last claim brings ≡ Again → (made : Made) × (last ≡ Some made)
made_before life claim brings None again = absurd (never (not (bytes_eq life claim.life)) (eqb claim.number 1) again)
  where
    never : (other is_next : Bool) → cond other OtherLife (cond is_next Next Conflict) ≡ Again → ⊥
    never true is_next e = cc
    never false true e = cc
    never false false e = cc
made_before life claim brings (Some made) again = (made, refl)

-- what is said of what was made last, where that is known
pub said_of : (P : Made → Type 0) (last : Option Made) (made : Made) → last ≡ Some made → IfSome last P → P made
said_of P last made is said = subst (λ (l : Option Made). IfSome l P) is said
