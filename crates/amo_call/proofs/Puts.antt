-- What follows of puts under way.
use Rattle.std.proofs.Common.{◌≡◌, ℕ, false, List, ◌⊎◌, inl, inr, refl, sym, ◌∙◌, ap, subst}
use Rattle.std.specs.Prelude.{IfOk, IfSome, OnOk, Option, None, Some, Result, Ok, Err}
use Rattle.amo_door.specs.declared.claim.Claim.{Claim}
use Rattle.amo_door.specs.declared.claim.EventPlace.{EventPlace}
use Rattle.amo_call.specs.declared.answer.Response.{Response}
use Rattle.amo_call.specs.declared.caller.CallFault.{CallFault}
use Rattle.amo_call.specs.declared.kept.Kept.{Kept}
use Rattle.amo_call.specs.declared.kept.Progress.{Progress}
use Rattle.amo_call.specs.declared.kept.Progress.TheVariants as progress
use Rattle.amo_call.specs.declared.putting.AfterPut.{AfterPut}
use Rattle.amo_call.specs.declared.putting.AfterPut.TheVariants as after
use Rattle.amo_call.specs.declared.putting.Order.{Order}
use Rattle.amo_call.specs.declared.putting.PutTold.{PutTold}
use Rattle.amo_call.specs.declared.putting.PutTold.TheVariants as told
use Rattle.amo_call.specs.declared.putting.PutTurn.{PutTurn}
use Rattle.amo_call.specs.Answer.{TellsPut}
use Rattle.amo_call.specs.Heard.{Heard, ToCall, ToFirst}
use Rattle.amo_call.specs.Kept.{kept_text}
use Rattle.amo_call.specs.Puts.{BeginsAgain, ComesTo, IsFound, Begins, GoesOn, HasPut, IsNextPut, IsPutting, IsAnswered, IsToldLater, IsLater, IsFirst, IsOutrun, IsToldRefusal, OfFirst, OfState, IsToldUntold, OfCall, OfFate, NothingPut, Resumes, TellsDelay, TellsNoPut, TellsOnce, TellsOutrun, TellsRefused, ToldPut}

-- the text of a call whose parts are known
pub text_of_parts : (call : Kept) (claim : Claim) (p : Progress) → call.claim ≡ claim → call.progress ≡ p → kept_text call ≡ kept_text (record { claim = claim; progress = p })
text_of_parts call claim p e f =
    ap (λ (c : Claim). kept_text (record { claim = c; progress = call.progress })) e ∙ ap (λ (q : Progress). kept_text (record { claim = claim; progress = q })) f

-- what a call comes to that a put came to, the put comes to
pub goes_further : (heard : Heard → Type 0) (order : Order) (found : Option Kept) (before call : Kept) → ComesTo heard order found before
    → ComesTo heard order (Some before) call → ComesTo heard order found call
goes_further heard order found before call p (IsFound same e) = let is : before ≡ same = cc in subst (λ (k : Kept). ComesTo heard order found k) is p
goes_further heard order found before call p (Begins next none new) = absurd (let never : ⊥ = cc in never)
goes_further heard order found before call p (GoesOn middle next q nothing new) =
    GoesOn middle next (goes_further heard order found before middle p q) nothing new

-- what is told of some calls is told of more
later_of_more : (heard : Heard → Type 0) (order : Order) (few more : Kept → Type 0) (saved : List ℕ) (response : Response) → ((k : Kept) → few k → more k)
    → IsToldLater heard order few saved response → IsToldLater heard order more saved response
later_of_more heard order few more saved response f (IsLater call is putting answered tells) = IsLater call (f call is) putting answered tells
later_of_more heard order few more saved response f (IsFirst call is putting answered status) = IsFirst call (f call is) putting answered status
later_of_more heard order few more saved response f (IsOutrun call is putting answered tells none) = IsOutrun call (f call is) putting answered tells none

refusal_of_more : (heard : Heard → Type 0) (order : Order) (few more : Kept → Type 0) (saved : List ℕ) (response : Response) → ((k : Kept) → few k → more k)
    → IsToldRefusal heard order few saved response → IsToldRefusal heard order more saved response
refusal_of_more heard order few more saved response f (OfFirst call is putting answered none) = OfFirst call (f call is) putting answered none
refusal_of_more heard order few more saved response f (OfState may answered none) = OfState may answered none

untold_of_more : (heard : Heard → Type 0) (order : Order) (few more : Kept → Type 0) (response : Response) → ((k : Kept) → few k → more k)
    → IsToldUntold heard order few response → IsToldUntold heard order more response
untold_of_more heard order few more response f (OfCall call is putting answered none) = OfCall call (f call is) putting answered none
untold_of_more heard order few more response f (OfFate call is putting answered none) = OfFate call (f call is) putting answered none

told_of_more : (heard : Heard → Type 0) (order : Order) (few more : Kept → Type 0) (silent : Type 0) (saved : List ℕ) (told : PutTold) → ((k : Kept) → few k → more k)
    → ToldPut heard order few silent saved told → ToldPut heard order more silent saved told
told_of_more heard order few more silent saved (told.Put claim line) f t = (t.0, record { call = t.1.call; is_reached = f t.1.call t.1.is_reached; claim_is = t.1.claim_is; by = t.1.by })
told_of_more heard order few more silent saved (told.Became what) f t = record {
  call = t.call;
  is_reached = f t.call t.is_reached;
  putting = t.putting;
  response = t.response;
  answered = t.answered;
  told = t.told;
  ever = t.ever;
}
told_of_more heard order few more silent saved told.Doubtful f t = record {
  call = t.call;
  is_reached = f t.call t.is_reached;
  putting = t.putting;
  response = t.response;
  answered = t.answered;
  last = t.last;
  told = t.told;
  other = t.other;
}
told_of_more heard order few more silent saved (told.Later response) f t = later_of_more heard order few more saved response f t
told_of_more heard order few more silent saved told.NoNumber f t = t
told_of_more heard order few more silent saved told.NoAnswer f (inl nothing) = inl nothing
told_of_more heard order few more silent saved told.NoAnswer f (inr t) = inr (record {
  call = t.call;
  is_reached = f t.call t.is_reached;
  putting = t.putting;
  response = t.response;
  answered = t.answered;
  status = t.status;
  untold = t.untold;
})
told_of_more heard order few more silent saved told.OtherCall f t = record { call = t.call; is_reached = f t.call t.is_reached; other = t.other; same = t.same }
told_of_more heard order few more silent saved (told.Refused response) f t = refusal_of_more heard order few more saved response f t
told_of_more heard order few more silent saved (told.Untold response) f t = untold_of_more heard order few more response f t

pub of_more : (heard : Heard → Type 0) (order : Order) (few more : Kept → Type 0) (fresh silent : Type 0) (saved : List ℕ) (after : AfterPut) → ((k : Kept) → few k → more k)
    → HasPut heard order few fresh silent saved after → HasPut heard order more fresh silent saved after
of_more heard order few more fresh silent saved (after.Told told) f t = told_of_more heard order few more silent saved told f t
of_more heard order few more fresh silent saved (after.Turn turn) f t = record { is_saved = t.is_saved; is_reached = f turn.kept t.is_reached; putting = t.putting; first = t.first }

-- a first call begins a put
pub begins : (heard : Heard → Type 0) (order : Order) (fresh silent : Type 0) (saved : List ℕ) (after : AfterPut)
    → HasPut heard order (IsNextPut heard order) fresh silent saved after → HasPut heard order (ComesTo heard order None) fresh silent saved after
begins heard order fresh silent saved after t =
    of_more heard order (IsNextPut heard order) (ComesTo heard order None) fresh silent saved after (λ k new. Begins k refl new) t

-- behind a call that put nothing comes another one
pub goes_on : (heard : Heard → Type 0) (order : Order) (fresh silent : Type 0) (saved : List ℕ) (after : AfterPut) (before : Kept) → NothingPut heard before
    → HasPut heard order (IsNextPut heard order) fresh silent saved after → HasPut heard order (ComesTo heard order (Some before)) fresh silent saved after
goes_on heard order fresh silent saved after before nothing t =
    of_more heard order (IsNextPut heard order) (ComesTo heard order (Some before)) fresh silent saved after (λ k new. GoesOn before k (IsFound before refl) nothing new) t

-- what a turn comes to, the put comes to
pub turns_on : (heard : Heard → Type 0) (order : Order) (found : Option Kept) (fresh silent : Type 0) (saved : List ℕ) (after : AfterPut) (before : Kept)
    → ComesTo heard order found before → HasPut heard order (ComesTo heard order (Some before)) fresh silent saved after
    → HasPut heard order (ComesTo heard order found) fresh silent saved after
turns_on heard order found fresh silent saved after before is t =
    of_more heard order (ComesTo heard order (Some before)) (ComesTo heard order found) fresh silent saved after (λ k q. goes_further heard order found before k is q) t

-- a call is made again, or this is told
pub goes_again : (heard : Heard → Type 0) (order : Order) (fresh silent : Type 0) (saved : List ℕ) (result : AfterPut) (turn : PutTurn) (told : PutTold)
    → saved ≡ kept_text turn.kept → IsPutting order turn.kept → ToldPut heard order (ComesTo heard order (Some turn.kept)) silent saved told
    → (result ≡ after.Turn (record { kept = turn.kept; is_first = false })) ⊎ (result ≡ after.Told told)
    → HasPut heard order (ComesTo heard order (Some turn.kept)) fresh silent saved result
goes_again heard order fresh silent saved result turn told is putting why (inl e) =
    subst (λ (a : AfterPut). HasPut heard order (ComesTo heard order (Some turn.kept)) fresh silent saved a) (sym e) (record {
      is_saved = is;
      is_reached = IsFound turn.kept refl;
      putting = putting;
      first = λ bad. absurd (let never : ⊥ = cc in never);
    })
goes_again heard order fresh silent saved result turn told is putting why (inr e) =
    subst (λ (a : AfterPut). HasPut heard order (ComesTo heard order (Some turn.kept)) fresh silent saved a) (sym e) why

-- the message of a call was put
pub is_finished : (heard : Heard → Type 0) (order : Order) (fresh silent : Type 0) (saved : List ℕ) (result : AfterPut) (call : Kept) (place : EventPlace) (response : Response)
    → IsPutting order call → heard (ToCall call response) → TellsPut call.claim place response → result ≡ after.Told (told.Put call.claim place.line)
    → saved ≡ kept_text (record { claim = call.claim; progress = progress.Put place.line order.message })
    → HasPut heard order (ComesTo heard order (Some call)) fresh silent saved result
is_finished heard order fresh silent saved result call place response putting answered tells e is =
    subst (λ (a : AfterPut). HasPut heard order (ComesTo heard order (Some call)) fresh silent saved a) (sym e) (
      is,
      record {
        call = call;
        is_reached = IsFound call refl;
        claim_is = refl;
        by = inr (putting, record { response = response; answered = answered; place = place; told = tells; line_is = refl });
      },
    )

-- what is known of a call that was found
pub is_resumed : (heard : Heard → Type 0) (order : Order) (fresh silent : Type 0) (saved : List ℕ) (result : AfterPut) (call : Kept) → saved ≡ kept_text call
    → Resumes order call result → HasPut heard order (ComesTo heard order (Some call)) fresh silent saved result
is_resumed heard order fresh silent saved (after.Turn turn) call is (same, putting, again) = record {
  is_saved = is ∙ ap kept_text (sym same);
  is_reached = IsFound turn.kept (ap Some (sym same));
  putting = putting;
  first = λ e. absurd (again e);
}
is_resumed heard order fresh silent saved (after.Told (told.Put claim line)) call is (same, put) = (
  is ∙ text_of_parts call claim (progress.Put line order.message) same put.message,
  record {
    call = call;
    is_reached = IsFound call refl;
    claim_is = same;
    by = inl put;
  },
)
is_resumed heard order fresh silent saved (after.Told told.OtherCall) call is other = record { call = call; is_reached = IsFound call refl; other = other; same = is }
is_resumed heard order fresh silent saved (after.Told (told.Became what)) call is never = absurd never
is_resumed heard order fresh silent saved (after.Told told.Doubtful) call is never = absurd never
is_resumed heard order fresh silent saved (after.Told (told.Later response)) call is never = absurd never
is_resumed heard order fresh silent saved (after.Told told.NoNumber) call is never = absurd never
is_resumed heard order fresh silent saved (after.Told told.NoAnswer) call is never = absurd never
is_resumed heard order fresh silent saved (after.Told (told.Refused response)) call is never = absurd never
is_resumed heard order fresh silent saved (after.Told (told.Untold response)) call is never = absurd never

-- the same of what may have failed
pub begins_ok : (heard : Heard → Type 0) (order : Order) (fresh silent : Type 0) (saved : List ℕ) (r : Result AfterPut CallFault)
    → IfOk r (HasPut heard order (IsNextPut heard order) fresh silent saved) → IfOk r (HasPut heard order (ComesTo heard order None) fresh silent saved)
begins_ok heard order fresh silent saved (Ok after) t = begins heard order fresh silent saved after t
begins_ok heard order fresh silent saved (Err fault) t = tt

pub begins_again_ok : (heard : Heard → Type 0) (order : Order) (fresh silent : Type 0) (saved : List ℕ) (r : Result AfterPut CallFault) (once : Option Response)
    → IfOk r (HasPut heard order (IsNextPut heard order) fresh silent saved) → IfOk r (BeginsAgain heard order once fresh silent saved)
begins_again_ok heard order fresh silent saved (Ok after) once t = inr t
begins_again_ok heard order fresh silent saved (Err fault) once t = tt

-- what was answered to a call that was made once and put nothing is told of the put
outrun_is_told : (heard : Heard → Type 0) (order : Order) (fresh silent : Type 0) (saved : List ℕ) (result : AfterPut) (before : Kept) (response : Response)
    → IsPutting order before → heard (ToFirst before response) → TellsOutrun before.claim response → TellsOnce (Some response) saved result
    → HasPut heard order (ComesTo heard order (Some before)) fresh silent saved result
outrun_is_told heard order fresh silent saved result before response putting answered tells (other, same, e, none) =
    let is : response ≡ other = cc in
    subst (λ (a : AfterPut). HasPut heard order (ComesTo heard order (Some before)) fresh silent saved a) (sym e)
    (subst (λ (r : Response). IsToldLater heard order (ComesTo heard order (Some before)) saved r) is (IsOutrun before (IsFound before refl) putting answered tells none))

-- behind a call that was made once and put nothing comes another one, or what the door answered it is told
pub goes_on_again : (heard : Heard → Type 0) (order : Order) (fresh silent : Type 0) (saved : List ℕ) (r : Result AfterPut CallFault) (before : Kept) (response : Response)
    → IsPutting order before → heard (ToFirst before response) → TellsOutrun before.claim response → NothingPut heard before
    → IfOk r (BeginsAgain heard order (Some response) fresh silent saved) → IfOk r (HasPut heard order (ComesTo heard order (Some before)) fresh silent saved)
goes_on_again heard order fresh silent saved (Ok after) before response putting answered tells nothing (inl once) =
    outrun_is_told heard order fresh silent saved after before response putting answered tells once
goes_on_again heard order fresh silent saved (Ok after) before response putting answered tells nothing (inr t) = goes_on heard order fresh silent saved after before nothing t
goes_on_again heard order fresh silent saved (Err fault) before response putting answered tells nothing t = tt

-- behind one that may have been made before, and put nothing, comes another one in any case
pub goes_on_behind : (heard : Heard → Type 0) (order : Order) (fresh silent : Type 0) (saved : List ℕ) (r : Result AfterPut CallFault) (before : Kept) → NothingPut heard before
    → IfOk r (BeginsAgain heard order None fresh silent saved) → IfOk r (HasPut heard order (ComesTo heard order (Some before)) fresh silent saved)
goes_on_behind heard order fresh silent saved (Ok after) before nothing (inl (other, never, e, none)) = absurd (let bad : ⊥ = cc in bad)
goes_on_behind heard order fresh silent saved (Ok after) before nothing (inr t) = goes_on heard order fresh silent saved after before nothing t
goes_on_behind heard order fresh silent saved (Err fault) before nothing t = tt

pub is_finished_ok : (heard : Heard → Type 0) (order : Order) (fresh silent : Type 0) (saved : List ℕ) (r : Result AfterPut CallFault) (call : Kept) (place : EventPlace) (response : Response)
    → IsPutting order call → heard (ToCall call response) → TellsPut call.claim place response → IfOk r (λ a. a ≡ after.Told (told.Put call.claim place.line))
    → OnOk r (saved ≡ kept_text (record { claim = call.claim; progress = progress.Put place.line order.message }))
    → IfOk r (HasPut heard order (ComesTo heard order (Some call)) fresh silent saved)
is_finished_ok heard order fresh silent saved (Ok a) call place response putting answered tells e is =
    is_finished heard order fresh silent saved a call place response putting answered tells e is
is_finished_ok heard order fresh silent saved (Err fault) call place response putting answered tells e is = tt

-- what a value has, at what it is
pub at_some : {A : Type 0} (r : Option A) (P : A → Type 0) (x : A) → r ≡ Some x → IfSome r P → P x
at_some {A} r P x e some = subst (λ (o : Option A). IfSome o P) e some

-- what is told of a call that is put off
pub told_as_delayed : (heard : Heard → Type 0) (order : Order) (silent : Type 0) (saved : List ℕ) (turn : PutTurn) (response : Response) (told : PutTold) → IsPutting order turn.kept
    → IsAnswered heard turn response → (response.status ≡ 408) ⊎ (response.status ≡ 503) → TellsDelay turn response told
    → ToldPut heard order (ComesTo heard order (Some turn.kept)) silent saved told
told_as_delayed heard order silent saved turn response (told.Later other) putting answered status (same, inl first) =
    subst (λ (r : Response). IsToldLater heard order (ComesTo heard order (Some turn.kept)) saved r) (sym same)
    (IsFirst turn.kept (IsFound turn.kept refl) putting (answered.first first) status)
told_as_delayed heard order silent saved turn response (told.Later other) putting answered status (same, inr tells) =
    subst (λ (r : Response). IsToldLater heard order (ComesTo heard order (Some turn.kept)) saved r) (sym same)
    (IsLater turn.kept (IsFound turn.kept refl) putting answered.call tells)
told_as_delayed heard order silent saved turn response told.NoNumber putting answered status tells = absurd tells
told_as_delayed heard order silent saved turn response told.NoAnswer putting answered status tells = inr (record {
  call = turn.kept;
  is_reached = IsFound turn.kept refl;
  putting = putting;
  response = response;
  answered = answered.call;
  status = status;
  untold = tells;
})
told_as_delayed heard order silent saved turn response (told.Put claim line) putting answered status tells = absurd tells
told_as_delayed heard order silent saved turn response (told.Became what) putting answered status tells = absurd tells
told_as_delayed heard order silent saved turn response told.Doubtful putting answered status tells = absurd tells
told_as_delayed heard order silent saved turn response told.OtherCall putting answered status tells = absurd tells
told_as_delayed heard order silent saved turn response (told.Refused other) putting answered status tells = absurd tells
told_as_delayed heard order silent saved turn response (told.Untold other) putting answered status tells = absurd tells

-- what is told of a call that is refused
pub told_as_refused : (heard : Heard → Type 0) (order : Order) (silent : Type 0) (saved : List ℕ) (turn : PutTurn) (response : Response) (told : PutTold) → IsPutting order turn.kept
    → IsAnswered heard turn response → TellsNoPut turn.kept.claim response → TellsRefused turn response told
    → ToldPut heard order (ComesTo heard order (Some turn.kept)) silent saved told
told_as_refused heard order silent saved turn response (told.Refused other) putting answered none (same, first) =
    subst (λ (r : Response). IsToldRefusal heard order (ComesTo heard order (Some turn.kept)) saved r) (sym same)
    (OfFirst turn.kept (IsFound turn.kept refl) putting (answered.first first) none)
told_as_refused heard order silent saved turn response (told.Untold other) putting answered none (same, again) =
    subst (λ (r : Response). IsToldUntold heard order (ComesTo heard order (Some turn.kept)) r) (sym same)
    (OfCall turn.kept (IsFound turn.kept refl) putting answered.call none)
told_as_refused heard order silent saved turn response (told.Put claim line) putting answered none tells = absurd tells
told_as_refused heard order silent saved turn response (told.Became what) putting answered none tells = absurd tells
told_as_refused heard order silent saved turn response told.Doubtful putting answered none tells = absurd tells
told_as_refused heard order silent saved turn response (told.Later other) putting answered none tells = absurd tells
told_as_refused heard order silent saved turn response told.NoNumber putting answered none tells = absurd tells
told_as_refused heard order silent saved turn response told.NoAnswer putting answered none tells = absurd tells
told_as_refused heard order silent saved turn response told.OtherCall putting answered none tells = absurd tells
