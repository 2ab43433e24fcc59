-- A stream is served where its calls are a run of the at-most-once queue.
use Rattle.std.specs.Prelude.{◌≡◌, ℕ, ◌==◌, Bool, true, false, Option, None, Some, List, [], ◌∷◌, ◌++◌}
use Rattle.std.specs.Option.{option_to_list}
use Rattle.amo_object.specs.declared.step.End.{End}
use Rattle.amo_object.specs.declared.step.Step.{Step}
use Rattle.amo_object.specs.declared.step.Step.TheVariants as step
use Rattle.amo_object.specs.Run.{IsRun, without_losses}
use Rattle.amo_core.specs.declared.act.Act.{Act}
use Rattle.amo_core.specs.declared.act.Act.TheVariants as act
use Rattle.amo_core.specs.declared.reply.Reply.{Reply}
use Rattle.amo_core.specs.declared.reply.Reply.TheVariants as reply
use Rattle.amo_world.specs.declared.event.Event.{Event}

-- the visible step of an event: a client's call, a crash or a recovery; a call with the reply Full, Nothing or NotYet is none
abbrev pub call_of : End → Act → Reply → Option Step
call_of side (act.Put m) reply.Ok = Some (step.Put m)
call_of side (act.Put m) reply.Down = Some (step.DownReply side)
call_of side act.Get (reply.Got m) = Some (step.Get m)
call_of side act.Get reply.Down = Some (step.DownReply side)
call_of side act.Ack reply.Yes = Some (step.Ack true)
call_of side act.Ack reply.No = Some (step.Ack false)
call_of side act.Ack reply.Down = Some (step.DownReply side)
call_of side act.Crash reply = Some (step.Crash side)
call_of side act.Recover reply = Some (step.Recover side)
call_of side _ _ = None

-- calls of a stream, and one event more
abbrev pub calls_and : Bool → List Step → Event → List Step
calls_and true calls e = calls ++ option_to_list (call_of e.side e.act e.reply)
calls_and false calls e = calls

-- the calls of a stream that a client sees, the oldest first, as in a run
abbrev pub calls : ℕ → List Event → List Step
calls number [] = []
calls number (e ∷ past) = calls_and (number == e.stream) (calls number past) e

-- some run of the queue has, with its losses left out, exactly the stream's calls
abbrev pub IsServed : ℕ → List Event → Type 0
IsServed number events = (run : List Step) × IsRun run × (without_losses run ≡ calls number events)
