use Rattle.std.proofs.Common.{List, ℕ}
use Rattle.std.proofs.lemmas.Result.{IfOk-weaker}
use Rattle.amo_door.specs.declared.call.Call.{Call}
use Rattle.amo_door.specs.declared.call.Served.{Served}
use Rattle.amo_door.specs.declared.place.Method.{Method}
use Rattle.amo_door.specs.declared.place.Place.TheVariants.{Events, Got, Stream, Take}
use Rattle.amo_door.specs.Call.{Says}
use Rattle.amo_door.specs.Query.{given_of}
use Rattle.amo_door.proofs.call.read_found.Goals as goal

pub returns-in-Events-clause-ok : goal.returns-in-Events-clause-ok
returns-in-Events-clause-ok c =
    rw c.in-Events.is
    (IfOk-weaker c.read_events.result (λ (call : Call). (served : Served) (method : Method) (stream number : List ℕ) → Says served method Events stream number (given_of c.args.query.now) call)
    (Says c.args.served c.args.method Events c.args.found.now.stream.now c.args.found.now.number.now (given_of c.args.query.now)) (λ call h. h c.args.served c.args.method c.args.found.now.stream.now c.args.found.now.number.now) c.read_events.ensures.ok)

pub returns-in-Stream-clause-ok : goal.returns-in-Stream-clause-ok
returns-in-Stream-clause-ok c =
    rw c.in-Stream.is
    (IfOk-weaker c.read_state.result (λ (call : Call). (method : Method) (number : List ℕ) → Says c.args.served method Stream c.args.found.now.stream.now number (given_of c.args.query.now) call)
    (Says c.args.served c.args.method Stream c.args.found.now.stream.now c.args.found.now.number.now (given_of c.args.query.now)) (λ call h. h c.args.method c.args.found.now.number.now) c.read_state.ensures.ok)

pub returns-in-Take-clause-ok : goal.returns-in-Take-clause-ok
returns-in-Take-clause-ok c =
    rw c.in-Take.is
    (IfOk-weaker c.read_take.result (λ (call : Call). (method : Method) (number : List ℕ) → Says c.args.served method Take c.args.found.now.stream.now number (given_of c.args.query.now) call)
    (Says c.args.served c.args.method Take c.args.found.now.stream.now c.args.found.now.number.now (given_of c.args.query.now)) (λ call h. h c.args.method c.args.found.now.number.now) c.read_take.ensures.ok)

pub returns-in-Got-clause-ok : goal.returns-in-Got-clause-ok
returns-in-Got-clause-ok c =
    rw c.in-Got.is
    (IfOk-weaker c.read_got.result (λ (call : Call). (method : Method) (number : List ℕ) → Says c.args.served method Got c.args.found.now.stream.now number (given_of c.args.query.now) call)
    (Says c.args.served c.args.method Got c.args.found.now.stream.now c.args.found.now.number.now (given_of c.args.query.now)) (λ call h. h c.args.method c.args.found.now.number.now) c.read_got.ensures.ok)
