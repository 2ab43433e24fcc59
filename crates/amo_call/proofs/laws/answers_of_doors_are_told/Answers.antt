use Rattle.std.proofs.Common.{◌≡◌, ℕ, List, ◌++◌, ◌⊎◌, true, false, codes, inl, inr, ◌∙◌, ap}
use Rattle.std.specs.Fmt.{decimal}
use Rattle.amo_door.specs.Answer.{IsRefusal, last_value, place_members, put_body, receiver_members, refusal_members, sender_members, status_of_put, stream_members, truth}
use Rattle.amo_door.specs.declared.answer.ReceiverState.{ReceiverState}
use Rattle.amo_door.specs.declared.answer.SenderState.{SenderState}
use Rattle.amo_door.specs.declared.answer.When.{When}
use Rattle.amo_door.specs.declared.answer.When.TheVariants as when
use Rattle.amo_door.specs.declared.claim.Made.{Made}
use Rattle.amo_door.specs.declared.refusal.Refusal.{Refusal}
use Rattle.amo_door.specs.Json.{quoted}
use Rattle.amo_door.specs.Refusal.{word_of}
use Rattle.amo_call.specs.declared.answer.Response.{Response}
use Rattle.amo_call.specs.Answer.{event_members, is_door_status, state_members, TellsRefusal}
use Rattle.amo_call.proofs.Steps.{put_regroup, receiver_regroup, refusal_regroup, sender_regroup}
use Rattle.amo_call.proofs.Words.{IsWord-word_of, of_door}
use Rattle.amo_call.proofs.laws.answers_of_doors_are_told.Goals as goal

which : (w : When) (status : ℕ) → status ≡ status_of_put w → (status ≡ 200) ⊎ (status ≡ 201)
which when.Now status e = inr e
which when.Before status e = inl e

-- what stands behind the last number
abbrev waiting : SenderState → List ℕ
waiting state = codes "\"waiting\":" ++ decimal state.waiting ++ codes ",\"last\":" ++ last_value state.last ++ codes "}"

abbrev ready : ReceiverState → List ℕ
ready state = codes "\"ready\":" ++ truth state.ready ++ codes "}"

sender_parts : (life : List ℕ) (stream : ℕ) (state : SenderState) → codes "{" ++ sender_members life stream state ++ codes "}" ≡ codes "{" ++ state_members life stream true state.put ++ waiting state
sender_parts life stream state = sender_regroup (codes "{") (stream_members life stream) (codes ",\"put\":") (decimal state.put) (codes ",") (codes "\"waiting\":") (decimal state.waiting) (codes ",\"last\":") (last_value state.last) (codes "}")

receiver_parts : (life : List ℕ) (stream : ℕ) (state : ReceiverState) → codes "{" ++ receiver_members life stream state ++ codes "}" ≡ codes "{" ++ state_members life stream false state.taken ++ ready state
receiver_parts life stream state = receiver_regroup (codes "{") (stream_members life stream) (codes ",\"taken\":") (decimal state.taken) (codes ",") (codes "\"ready\":") (truth state.ready) (codes "}")

refusal_parts : (reason : Refusal) (sentence more : List ℕ) → refusal_members reason sentence ++ more ++ codes "}"
    ≡ codes "{\"error\":\"" ++ word_of reason ++ codes "\"" ++ (codes ",\"text\":" ++ quoted sentence ++ more ++ codes "}")
refusal_parts reason sentence more = refusal_regroup (codes "{\"error\":\"") (word_of reason) (codes "\"") (codes ",\"text\":") (quoted sentence) more (codes "}")

put_parts : (life : List ℕ) (stream : ℕ) (made : Made) → put_body life stream made ≡ place_members life stream made.number ++ event_members made.place
put_parts life stream made = put_regroup (place_members life stream made.number) (codes ",\"position\":") (decimal made.place.position) (codes ",\"line\":") (decimal made.place.line) (codes "}")

pub returns-clause-put : goal.returns-clause-put
returns-clause-put c = λ claim made when response fits same status body. record {
  status = which when response.status status;
  fits = fits;
  body = body ∙ put_parts claim.life claim.stream made ∙ ap (λ (n : ℕ). place_members claim.life claim.stream n ++ event_members made.place) same;
}

pub returns-clause-sender : goal.returns-clause-sender
returns-clause-sender c = λ life stream state response is_word fits status body. record {
  status = status;
  life = is_word;
  fits = fits;
  rest = waiting state;
  body = body ∙ sender_parts life stream state;
}

pub returns-clause-receiver : goal.returns-clause-receiver
returns-clause-receiver c = λ life stream state response is_word fits status body. record {
  status = status;
  life = is_word;
  fits = fits;
  rest = ready state;
  body = body ∙ receiver_parts life stream state;
}

tells : (reason : Refusal) (more : List ℕ) (response : Response) → IsRefusal reason more response.body.items → TellsRefusal (word_of reason) response
tells reason more response is = record {
  is_word = IsWord-word_of reason;
  rest = codes ",\"text\":" ++ quoted is.sentence ++ more ++ codes "}";
  body = is.body_is ∙ refusal_parts reason is.sentence more;
}

pub returns-clause-refusal : goal.returns-clause-refusal
returns-clause-refusal c = tells

pub returns-clause-door : goal.returns-clause-door
returns-clause-door c = λ reason more response status is. (ap is_door_status status ∙ of_door reason, inr (word_of reason, tells reason more response is))
