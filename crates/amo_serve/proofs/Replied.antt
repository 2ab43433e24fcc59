-- What a call to put or to take is told, step by step.
use Rattle.std.proofs.Common.{ℕ, List}
use Rattle.amo_door.specs.declared.claim.Claim.{Claim}
use Rattle.amo_serve.specs.Calls.{RepliesToNext, RepliesToPut, RepliesToTake}
use Rattle.amo_serve.specs.declared.counts.Counts.{Counts}
use Rattle.amo_serve.specs.declared.responder.Reply.{Reply}
use Rattle.amo_serve.specs.declared.responder.Reply.TheVariants as reply
use Rattle.amo_serve.specs.declared.responder.Responder.{Responder}

-- how many requests were counted has no part in what is replied
module _ {L S W : Type 0} (r after : Responder L S W) (counts : Counts) where
  pub recounted_put : (claim : Claim) (message : List ℕ) (told : Reply) → RepliesToPut (record r { counts = counts }) after claim message told → RepliesToPut r after claim message told
  recounted_put claim message (reply.Answer answer) is = is
  recounted_put claim message (reply.State stream wait) is = is
  recounted_put claim message (reply.Take waiting wait) is = is
  recounted_put claim message (reply.Got stream line) is = is
  recounted_put claim message (reply.Fate stream number life) is = is
  recounted_put claim message (reply.Follow line) is = is

  pub recounted_next : (stream : ℕ) (message : List ℕ) (told : Reply) → RepliesToNext (record r { counts = counts }) after stream message told → RepliesToNext r after stream message told
  recounted_next stream message (reply.Answer answer) is = is
  recounted_next stream message (reply.State other wait) is = is
  recounted_next stream message (reply.Take waiting wait) is = is
  recounted_next stream message (reply.Got other line) is = is
  recounted_next stream message (reply.Fate other number life) is = is
  recounted_next stream message (reply.Follow line) is = is

  pub recounted_take : (claim : Claim) (wait : ℕ) (told : Reply) → RepliesToTake (record r { counts = counts }) after claim wait told → RepliesToTake r after claim wait told
  recounted_take claim wait (reply.Answer answer) is = is
  recounted_take claim wait (reply.State stream seconds) is = is
  recounted_take claim wait (reply.Take waiting seconds) is = is
  recounted_take claim wait (reply.Got stream line) is = is
  recounted_take claim wait (reply.Fate stream number life) is = is
  recounted_take claim wait (reply.Follow line) is = is
