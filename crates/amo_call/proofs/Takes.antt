-- What follows of takes under way.
use Rattle.std.proofs.Common.{◌≡◌, ◌≢◌, ℕ, Bool, true, false, not, List, ◌⊎◌, inl, inr, refl, sym, subst}
use Rattle.std.specs.Prelude.{IfOk, Option, None, Some, Result, Ok, Err}
use Rattle.amo_door.specs.declared.claim.Claim.{Claim}
use Rattle.amo_call.specs.declared.answer.Response.{Response}
use Rattle.amo_call.specs.declared.caller.CallFault.{CallFault}
use Rattle.amo_call.specs.declared.kept.Kept.{Kept}
use Rattle.amo_call.specs.declared.kept.Progress.{Progress}
use Rattle.amo_call.specs.declared.kept.Progress.TheVariants as progress
use Rattle.amo_call.specs.declared.taking.AfterTake.{AfterTake}
use Rattle.amo_call.specs.declared.taking.AfterTake.TheVariants as after
use Rattle.amo_call.specs.declared.taking.TakeTold.{TakeTold}
use Rattle.amo_call.specs.declared.taking.TakeTold.TheVariants as told
use Rattle.amo_call.specs.Heard.{Heard, ToCall}
use Rattle.amo_call.specs.Kept.{kept_text}
use Rattle.amo_call.specs.Pages.{number_behind}
use Rattle.amo_call.specs.Takes.{BeginsBehind, ComesToTake, IsFirstTake, IsFound, Begins, Follows, GoesOn, IsToldTake, IsKept, IsAnswered, IsGot, IsToldNothing, IsEmpty, IsBehind, IsToldLoss, IsConflict, IsForgotten, IsToldNo, OfCall, OfCounts, OfState, OfPage, IsTaking, IsNextTake, NothingTaken, TakesBy, TakesNothing, TellsTakenFor, ToldTake, WasGot, after_by, after_of, take_behind}

-- what a call comes to that a take came to, the take comes to
pub goes_further : (heard : Heard → Type 0) (stream : ℕ) (by : List ℕ) (found : Option Kept) (before call : Kept) → TakesBy heard stream by found before
    → TakesBy heard stream by (Some before) call → TakesBy heard stream by found call
goes_further heard stream by found before call p (IsFound same e) = let is : before ≡ same = cc in subst (λ (k : Kept). TakesBy heard stream by found k) is p
goes_further heard stream by found before call p (Begins next none new) = absurd (let never : ⊥ = cc in never)
goes_further heard stream by found before call p (Follows middle next line q done same) =
    Follows middle next line (goes_further heard stream by found before middle p q) done same
goes_further heard stream by found before call p (GoesOn middle next behind q nothing new) =
    GoesOn middle next behind (goes_further heard stream by found before middle p q) nothing new

-- what is told of some calls is told of more
take_of_more : (heard : Heard → Type 0) (stream : ℕ) (few more : Kept → Type 0) (claim : Claim) (line : ℕ) (message : List ℕ) → ((k : Kept) → few k → more k)
    → IsToldTake heard stream few claim line message → IsToldTake heard stream more claim line message
take_of_more heard stream few more claim line message f (IsKept call is same taken) = IsKept call (f call is) same taken
take_of_more heard stream few more claim line message f (IsAnswered call from is same taking was) = IsAnswered call from (f call is) same taking was
take_of_more heard stream few more claim line message f (IsGot call is same was) = IsGot call (f call is) same was

nothing_of_more : (heard : Heard → Type 0) (stream : ℕ) (few more : Kept → Type 0) → ((k : Kept) → few k → more k) → IsToldNothing heard stream few → IsToldNothing heard stream more
nothing_of_more heard stream few more f (IsEmpty call from is taking response answered status) = IsEmpty call from (f call is) taking response answered status
nothing_of_more heard stream few more f (IsBehind call behind is nothing) = IsBehind call behind (f call is) nothing

loss_of_more : (heard : Heard → Type 0) (stream : ℕ) (few more : Kept → Type 0) → ((k : Kept) → few k → more k) → IsToldLoss heard stream few → IsToldLoss heard stream more
loss_of_more heard stream few more f (IsConflict call from is taking response answered status) = IsConflict call from (f call is) taking response answered status
loss_of_more heard stream few more f (IsForgotten call from line is taking over read page response answered told behind) =
    IsForgotten call from line (f call is) taking over read page response answered told behind

no_of_more : (heard : Heard → Type 0) (stream : ℕ) (few more : Kept → Type 0) (response : Response) → ((k : Kept) → few k → more k)
    → IsToldNo heard stream few response → IsToldNo heard stream more response
no_of_more heard stream few more response f (OfCall call from is taking answered none) = OfCall call from (f call is) taking answered none
no_of_more heard stream few more response f (OfCounts answered none) = OfCounts answered none
no_of_more heard stream few more response f (OfState answered none) = OfState answered none
no_of_more heard stream few more response f (OfPage call from line is taking over read answered) = OfPage call from line (f call is) taking over read answered

told_of_more : (heard : Heard → Type 0) (stream : ℕ) (few more : Kept → Type 0) (silent : Type 0) (saved : List ℕ) (told : TakeTold) → ((k : Kept) → few k → more k)
    → ToldTake heard stream few silent saved told → ToldTake heard stream more silent saved told
told_of_more heard stream few more silent saved (told.Taken claim line message) f t = take_of_more heard stream few more claim line message f t
told_of_more heard stream few more silent saved told.Nothing f t = nothing_of_more heard stream few more f t
told_of_more heard stream few more silent saved told.Doubtful f t = loss_of_more heard stream few more f t
told_of_more heard stream few more silent saved told.NoAnswer f t = t
told_of_more heard stream few more silent saved told.OtherCall f t = record { call = t.call; is_reached = f t.call t.is_reached; nothing = t.nothing; same = t.same }
told_of_more heard stream few more silent saved (told.Refused response) f t = no_of_more heard stream few more response f t

pub of_more : (heard : Heard → Type 0) (stream : ℕ) (few more : Kept → Type 0) (silent : Type 0) (saved : List ℕ) (after : AfterTake) → ((k : Kept) → few k → more k)
    → ComesToTake heard stream few silent saved after → ComesToTake heard stream more silent saved after
of_more heard stream few more silent saved (after.Told told) f t = told_of_more heard stream few more silent saved told f t
of_more heard stream few more silent saved (after.Turn call) f t = record { is_reached = f call t.is_reached; from = t.from; taking = t.taking }

of_more_ok : (heard : Heard → Type 0) (stream : ℕ) (few more : Kept → Type 0) (silent : Type 0) (saved : List ℕ) (r : Result AfterTake CallFault) → ((k : Kept) → few k → more k)
    → IfOk r (ComesToTake heard stream few silent saved) → IfOk r (ComesToTake heard stream more silent saved)
of_more_ok heard stream few more silent saved (Ok after) f t = of_more heard stream few more silent saved after f t
of_more_ok heard stream few more silent saved (Err fault) f t = tt

-- a first call begins a take
pub begins_ok : (heard : Heard → Type 0) (stream : ℕ) (by : List ℕ) (silent : Type 0) (saved : List ℕ) (r : Result AfterTake CallFault)
    → IfOk r (ComesToTake heard stream (IsFirstTake heard stream by) silent saved) → IfOk r (ComesToTake heard stream (TakesBy heard stream by None) silent saved)
begins_ok heard stream by silent saved r t =
    of_more_ok heard stream (IsFirstTake heard stream by) (TakesBy heard stream by None) silent saved r (λ k new. Begins k refl new) t

-- the first call takes from the next line of the journal on
pub is_first_ok : (heard : Heard → Type 0) (stream : ℕ) (by : List ℕ) (from : ℕ) (silent : Type 0) (saved : List ℕ) (r : Result AfterTake CallFault)
    → ((k : Kept) → IsNextTake heard stream by from k → IsFirstTake heard stream by k)
    → IfOk r (ComesToTake heard stream (IsNextTake heard stream by from) silent saved) → IfOk r (ComesToTake heard stream (IsFirstTake heard stream by) silent saved)
is_first_ok heard stream by from silent saved r f t =
    of_more_ok heard stream (IsNextTake heard stream by from) (IsFirstTake heard stream by) silent saved r f t

-- behind a call that took nothing comes another one
pub goes_on_ok : (heard : Heard → Type 0) (stream : ℕ) (by : List ℕ) (behind : ℕ) (silent : Type 0) (saved : List ℕ) (r : Result AfterTake CallFault) (before : Kept)
    → NothingTaken heard stream before behind → IfOk r (ComesToTake heard stream (IsNextTake heard stream by behind) silent saved)
    → IfOk r (ComesToTake heard stream (TakesBy heard stream by (Some before)) silent saved)
goes_on_ok heard stream by behind silent saved r before nothing t =
    of_more_ok heard stream (IsNextTake heard stream by behind) (TakesBy heard stream by (Some before)) silent saved r
    (λ k new. GoesOn before k behind (IsFound before refl) nothing new) t

-- behind a call that took nothing comes another one, or it is told that nothing came
pub goes_on_behind : (heard : Heard → Type 0) (stream : ℕ) (by : List ℕ) (behind : ℕ) (silent : Type 0) (saved : List ℕ) (r : Result AfterTake CallFault) (before : Kept)
    → NothingTaken heard stream before behind → IfOk r (BeginsBehind heard stream by behind silent saved)
    → IfOk r (ComesToTake heard stream (TakesBy heard stream by (Some before)) silent saved)
goes_on_behind heard stream by behind silent saved (Ok after) before nothing (inl e) =
    subst (λ (a : AfterTake). ComesToTake heard stream (TakesBy heard stream by (Some before)) silent saved a) (sym e) (IsBehind before behind (IsFound before refl) nothing)
goes_on_behind heard stream by behind silent saved (Ok after) before nothing (inr t) = goes_on_ok heard stream by behind silent saved (Ok after) before nothing t
goes_on_behind heard stream by behind silent saved (Err fault) before nothing t = tt

pub begins_behind_ok : (heard : Heard → Type 0) (stream : ℕ) (by : List ℕ) (from : ℕ) (silent : Type 0) (saved : List ℕ) (r : Result AfterTake CallFault)
    → IfOk r (ComesToTake heard stream (IsNextTake heard stream by from) silent saved) → IfOk r (BeginsBehind heard stream by from silent saved)
begins_behind_ok heard stream by from silent saved (Ok after) t = inr t
begins_behind_ok heard stream by from silent saved (Err fault) t = tt

-- what a turn comes to, the take comes to
pub turns_on : (heard : Heard → Type 0) (stream : ℕ) (by : List ℕ) (found : Option Kept) (silent : Type 0) (saved : List ℕ) (after : AfterTake) (before : Kept)
    → TakesBy heard stream by found before → ComesToTake heard stream (TakesBy heard stream by (Some before)) silent saved after
    → ComesToTake heard stream (TakesBy heard stream by found) silent saved after
turns_on heard stream by found silent saved after before is t =
    of_more heard stream (TakesBy heard stream by (Some before)) (TakesBy heard stream by found) silent saved after (λ k q. goes_further heard stream by found before k is q) t

-- a call is made again, or this is told
pub goes_again : (heard : Heard → Type 0) (by : List ℕ) (silent : Type 0) (saved : List ℕ) (result : AfterTake) (call : Kept) (told : TakeTold)
    → ((from : ℕ) × IsTaking call.claim.stream from call) → ToldTake heard call.claim.stream (TakesBy heard call.claim.stream by (Some call)) silent saved told
    → (result ≡ after.Turn call) ⊎ (result ≡ after.Told told)
    → ComesToTake heard call.claim.stream (TakesBy heard call.claim.stream by (Some call)) silent saved result
goes_again heard by silent saved result call told (from, taking) why (inl e) =
    subst (λ (a : AfterTake). ComesToTake heard call.claim.stream (TakesBy heard call.claim.stream by (Some call)) silent saved a) (sym e)
    (record { is_reached = IsFound call refl; from = from; taking = taking })
goes_again heard by silent saved result call told taking why (inr e) =
    subst (λ (a : AfterTake). ComesToTake heard call.claim.stream (TakesBy heard call.claim.stream by (Some call)) silent saved a) (sym e) why

-- a message is told that an answer to a call tells
pub is_answered : (heard : Heard → Type 0) (by : List ℕ) (silent : Type 0) (saved : List ℕ) (after : AfterTake) (call : Kept) (response : Response)
    → ((from : ℕ) × IsTaking call.claim.stream from call) → heard (ToCall call response) → TellsTakenFor call.claim response after
    → ComesToTake heard call.claim.stream (TakesBy heard call.claim.stream by (Some call)) silent saved after
is_answered heard by silent saved (after.Told (told.Taken claim line message)) call response (from, taking) answered (same, tells) =
    IsAnswered call from (IsFound call refl) same taking (record { response = response; answered = answered; told = tells })
is_answered heard by silent saved (after.Told told.Nothing) call response taking answered never = absurd never
is_answered heard by silent saved (after.Told told.Doubtful) call response taking answered never = absurd never
is_answered heard by silent saved (after.Told told.NoAnswer) call response taking answered never = absurd never
is_answered heard by silent saved (after.Told told.OtherCall) call response taking answered never = absurd never
is_answered heard by silent saved (after.Told (told.Refused other)) call response taking answered never = absurd never
is_answered heard by silent saved (after.Turn next) call response taking answered never = absurd never

pub is_answered_ok : (heard : Heard → Type 0) (by : List ℕ) (silent : Type 0) (saved : List ℕ) (r : Result AfterTake CallFault) (call : Kept) (response : Response)
    → ((from : ℕ) × IsTaking call.claim.stream from call) → heard (ToCall call response) → IfOk r (TellsTakenFor call.claim response)
    → IfOk r (ComesToTake heard call.claim.stream (TakesBy heard call.claim.stream by (Some call)) silent saved)
is_answered_ok heard by silent saved (Ok after) call response taking answered tells = is_answered heard by silent saved after call response taking answered tells
is_answered_ok heard by silent saved (Err fault) call response taking answered tells = tt

-- a call of another stream is one of something else
pub of_another_stream : (stream : ℕ) (call : Kept) → call.claim.stream ≢ stream → TakesNothing stream call
of_another_stream stream call other = record {
  not_taking = λ from taking. other taking.stream_is;
  not_taken = λ line message taken. other taken.stream_is;
  not_done = λ line done. other done.stream_is;
}

-- behind a message that is done comes the next one
pub follows_ok : (heard : Heard → Type 0) (stream : ℕ) (by : List ℕ) (silent : Type 0) (saved : List ℕ) (r : Result AfterTake CallFault) (call : Kept) (line : ℕ)
    → call.claim.stream ≡ stream → call.progress ≡ progress.Done line → IfOk r (λ a. a ≡ after.Turn (take_behind call.claim line))
    → IfOk r (ComesToTake heard stream (TakesBy heard stream by (Some call)) silent saved)
follows_ok heard stream by silent saved (Ok a) call line same done e =
    subst (λ (a : AfterTake). ComesToTake heard stream (TakesBy heard stream by (Some call)) silent saved a) (sym e) (record {
      is_reached = Follows call (take_behind call.claim line) line (IsFound call refl) (record { stream_is = same; done = done }) refl;
      from = number_behind line;
      taking = record { stream_is = same; from_is = refl };
    })
follows_ok heard stream by silent saved (Err fault) call line same done e = tt

-- what is known of a call that was found and is not done
resumed_by : (heard : Heard → Type 0) (stream : ℕ) (by : List ℕ) (silent : Type 0) (saved : List ℕ) (claim : Claim) (p : Progress) → claim.stream ≡ stream
    → ((line : ℕ) → p ≢ progress.Done line) → saved ≡ kept_text (record { claim = claim; progress = p })
    → ComesToTake heard stream (TakesBy heard stream by (Some (record { claim = claim; progress = p }))) silent saved (after_by claim p)
resumed_by heard stream by silent saved claim (progress.Taken line message) same not_done is =
    let call : Kept = record { claim = claim; progress = progress.Taken line message } in
    IsKept call (IsFound call refl) refl (record { stream_is = same; taken = refl })
resumed_by heard stream by silent saved claim (progress.Taking from) same not_done is =
    let call : Kept = record { claim = claim; progress = progress.Taking from } in
    record { is_reached = IsFound call refl; from = from; taking = record { stream_is = same; from_is = refl } }
resumed_by heard stream by silent saved claim (progress.Putting message) same not_done is =
    let call : Kept = record { claim = claim; progress = progress.Putting message } in
    record {
      call = call;
      is_reached = IsFound call refl;
      nothing = record {
        not_taking = λ from taking. let e : progress.Putting message ≡ progress.Taking from = taking.from_is in let never : ⊥ = cc in never;
        not_taken = λ line bytes taken. let e : progress.Putting message ≡ progress.Taken line bytes = taken.taken in let never : ⊥ = cc in never;
        not_done = λ line done. let e : progress.Putting message ≡ progress.Done line = done.done in let never : ⊥ = cc in never;
      };
      same = is;
    }
resumed_by heard stream by silent saved claim (progress.Put line message) same not_done is =
    let call : Kept = record { claim = claim; progress = progress.Put line message } in
    record {
      call = call;
      is_reached = IsFound call refl;
      nothing = record {
        not_taking = λ from taking. let e : progress.Put line message ≡ progress.Taking from = taking.from_is in let never : ⊥ = cc in never;
        not_taken = λ at bytes taken. let e : progress.Put line message ≡ progress.Taken at bytes = taken.taken in let never : ⊥ = cc in never;
        not_done = λ at done. let e : progress.Put line message ≡ progress.Done at = done.done in let never : ⊥ = cc in never;
      };
      same = is;
    }
resumed_by heard stream by silent saved claim (progress.Done line) same not_done is = absurd (not_done line refl)

pub is_resumed : (heard : Heard → Type 0) (stream : ℕ) (by : List ℕ) (silent : Type 0) (saved : List ℕ) (result : AfterTake) (call : Kept) → call.claim.stream ≡ stream
    → ((line : ℕ) → call.progress ≢ progress.Done line) → saved ≡ kept_text call → result ≡ after_of call
    → ComesToTake heard stream (TakesBy heard stream by (Some call)) silent saved result
is_resumed heard stream by silent saved result call same not_done is e =
    subst (λ (a : AfterTake). ComesToTake heard stream (TakesBy heard stream by (Some call)) silent saved a) (sym e)
    (resumed_by heard stream by silent saved call.claim call.progress same not_done is)

-- a message is told that the journal tells of a call whose life is over
pub is_got_ok : (heard : Heard → Type 0) (stream : ℕ) (by : List ℕ) (silent : Type 0) (saved : List ℕ) (r : Result AfterTake CallFault) (call : Kept) (line : ℕ) (message : List ℕ)
    → WasGot heard stream call line message → IfOk r (λ a. a ≡ after.Told (told.Taken call.claim line message))
    → IfOk r (ComesToTake heard stream (TakesBy heard stream by (Some call)) silent saved)
is_got_ok heard stream by silent saved (Ok a) call line message was e =
    subst (λ (a : AfterTake). ComesToTake heard stream (TakesBy heard stream by (Some call)) silent saved a) (sym e) (IsGot call (IsFound call refl) refl was)
is_got_ok heard stream by silent saved (Err fault) call line message was e = tt

pub is_last : (more : Bool) → not more ≡ true → more ≡ false
is_last true e = absurd (let never : ⊥ = cc in never)
is_last false e = refl
