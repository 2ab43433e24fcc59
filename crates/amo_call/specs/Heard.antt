-- What a door answers to who makes calls.
use Rattle.std.specs.Prelude.{◌≡◌, ℕ, List}
use Rattle.amo_door.specs.declared.place.Method.TheVariants as method
use Rattle.amo_call.specs.declared.answer.Response.{Response}
use Rattle.amo_call.specs.declared.kept.Kept.{Kept}
use Rattle.amo_call.specs.declared.request.Request.{Request}

-- a response, and what it answers: a call that a file has, the first attempt of such a call, or a question
pub data Heard : Type 0 where
  ToCall : Kept → Response → Heard
  ToFirst : Kept → Response → Heard
  ToQuestion : Request → Response → Heard

-- a request asks for what is there under this target
pub record AsksFor (target : List ℕ) (request : Request) : Type 0 where
  pub method_is : request.method ≡ method.Get
  pub target_is : request.target.items ≡ target

-- the door answered a question so
pub record Answered (heard : Heard → Type 0) (target : List ℕ) (response : Response) : Type 0 where
  pub request : Request
  pub asked : AsksFor target request
  pub answered : heard (ToQuestion request response)
