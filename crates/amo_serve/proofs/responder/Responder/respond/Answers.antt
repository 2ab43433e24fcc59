use Rattle.std.proofs.Common.{◌≡◌, Ok, Err, refl, rules, subst, sym}
use Rattle.std.specs.Prelude.{IfOk, OnOk, Result}
use Rattle.std.proofs.lemmas.Result.{IfOk-weaker}
use Rattle.amo_object.specs.declared.step.End.TheVariants.{Receiver, Sender}
use Rattle.amo_door.specs.declared.call.Call.{Call}
use Rattle.amo_serve.specs.Calls.{AnswersCall, IsFor, RepliesToNext, RepliesToPut, RepliesToTake}
use Rattle.amo_serve.specs.States.{TellsCall}
use Rattle.amo_serve.specs.declared.responder.Responder.{Responder}
use Rattle.amo_serve.proofs.Replied.{recounted_next, recounted_put, recounted_take}
use Rattle.amo_serve.proofs.Served.{looked_bears, looked_serves, still}
use Rattle.amo_serve.proofs.Sides.{astray_answered, astray_told, gets_none_at, puts_none_at}
use Rattle.amo_serve.proofs.responder.Responder.respond.Goals as goal

-- what holds whatever the result is
each_way : {T E P : Type 0} (result : Result T E) → P → OnOk result P
each_way (Ok value) p = p
each_way (Err fault) p = tt

-- nothing happens where it is told what became of a message
pub returns-in-Outcome-clause-serves : goal.returns-in-Outcome-clause-serves
returns-in-Outcome-clause-serves g c =
    let counted : Responder g.row.L.Denot g.row.S.Denot g.row.W.Denot = record c.args.self.now { counts = record c.args.self.now.counts { requests = c.saturating_add-self.result } } in
    each_way c.respond_to_outcome.result (looked_serves counted c.respond_to_outcome.new.self c.respond_to_outcome.ensures.looked)

pub returns-in-Outcome-clause-words : goal.returns-in-Outcome-clause-words
returns-in-Outcome-clause-words g c =
    let counted : Responder g.row.L.Denot g.row.S.Denot g.row.W.Denot = record c.args.self.now { counts = record c.args.self.now.counts { requests = c.saturating_add-self.result } } in
    each_way c.respond_to_outcome.result (looked_bears counted c.respond_to_outcome.new.self c.respond_to_outcome.ensures.looked)

-- it is told one of two things, by what the question is
told_either : {A T E : Type 0} (P Q : T → Type 0) (result : Result T E) → (A → IfOk result P) → (¬ A → IfOk result Q) → IfOk result (λ told. (A → P told) × (¬ A → Q told))
told_either P Q (Ok told) one other = (one, other)
told_either P Q (Err fault) one other = tt

told_of_life : {A B C T E : Type 0} (P Q R : T → Type 0) (result : Result T E) → (A → B → IfOk result P) → (A → C → IfOk result Q) → (¬ A → IfOk result R) → IfOk result (λ told. (A → B → P told) × (A → C → Q told) × (¬ A → R told))
told_of_life P Q R (Ok told) present earlier nowhere = (present, earlier, nowhere)
told_of_life P Q R (Err fault) present earlier nowhere = tt

pub returns-in-State-clause-told : goal.returns-in-State-clause-told
returns-in-State-clause-told g c =
    subst (λ (call : Call). IfOk c.respond_to_state.result (TellsCall c.args.self.now call)) (sym c.in-State.is)
    (told_either _ _ c.respond_to_state.result c.respond_to_state.ensures.told c.respond_to_state.ensures.no_stream)

pub returns-in-Got-clause-told : goal.returns-in-Got-clause-told
returns-in-Got-clause-told g c =
    subst (λ (call : Call). IfOk c.respond_to_got.result (TellsCall c.args.self.now call)) (sym c.in-Got.is)
    (told_either _ _ c.respond_to_got.result c.respond_to_got.ensures.known c.respond_to_got.ensures.unknown)

pub returns-in-Outcome-clause-told : goal.returns-in-Outcome-clause-told
returns-in-Outcome-clause-told g c =
    subst (λ (call : Call). IfOk c.respond_to_outcome.result (TellsCall c.args.self.now call)) (sym c.in-Outcome.is)
    (told_of_life _ _ _ c.respond_to_outcome.result c.respond_to_outcome.ensures.present c.respond_to_outcome.ensures.earlier c.respond_to_outcome.ensures.no_stream)

-- a call for hosts of the other side is refused, and nothing happens for it
pub returns-then-not-does-clause-told : goal.returns-then-not-does-clause-told
returns-then-not-does-clause-told g c =
    let first = c.args.self.now in
    let other : ¬ (IsFor first.side c.args.call) = search rules in
    IfOk-weaker c.refuse.result _ _ (λ told refused. astray_told first first c.args.message told c.args.call other) c.refuse.ensures.refused

pub returns-then-not-does-clause-answered : goal.returns-then-not-does-clause-answered
returns-then-not-does-clause-answered g c =
    let first : Responder g.row.L.Denot g.row.S.Denot g.row.W.Denot = c.args.self.now in
    let counted : Responder g.row.L.Denot g.row.S.Denot g.row.W.Denot = record first { counts = record first.counts { requests = c.saturating_add-self.result } } in
    let v = first.service.host.pass in let j = first.service.host.journal in
    let other : ¬ (IsFor first.side c.args.call) = search rules in
    IfOk-weaker c.refuse.result _ _ (λ told refused. astray_answered first counted c.args.message told c.args.call other (refused, (refl, still v v j j refl refl))) c.refuse.ensures.refused

-- a call to put or to take is answered as the function for it says, since it is for hosts of this side
pub returns-in-Put-clause-answered : goal.returns-in-Put-clause-answered
returns-in-Put-clause-answered g c =
    let first = c.args.self.now in let last = c.respond_to_put.new.self in
    let counts = record first.counts { requests = c.saturating_add-self.result } in
    let here : IsFor first.side c.args.call = search rules in
    let own : first.side ≡ Sender = subst (λ (call : Call). IsFor first.side call) c.in-Put.is here in
    subst (λ (call : Call). IfOk c.respond_to_put.result (AnswersCall first last call c.args.message)) (sym c.in-Put.is)
    (told_either _ _ c.respond_to_put.result (λ same.
    told_either (RepliesToPut first last c.in-Put.claim c.args.message) _ c.respond_to_put.result
    (λ has. IfOk-weaker c.respond_to_put.result _ _ (recounted_put first last counts c.in-Put.claim c.args.message) (c.respond_to_put.ensures.replies has)) c.respond_to_put.ensures.no_stream) (λ other. absurd (other own)))

pub returns-in-PutNext-clause-answered : goal.returns-in-PutNext-clause-answered
returns-in-PutNext-clause-answered g c =
    let first = c.args.self.now in let last = c.respond_to_next.new.self in
    let counts = record first.counts { requests = c.saturating_add-self.result } in
    let here : IsFor first.side c.args.call = search rules in
    let own : first.side ≡ Sender = subst (λ (call : Call). IsFor first.side call) c.in-PutNext.is here in
    subst (λ (call : Call). IfOk c.respond_to_next.result (AnswersCall first last call c.args.message)) (sym c.in-PutNext.is)
    (told_either _ _ c.respond_to_next.result (λ same.
    told_of_life (RepliesToNext first last c.in-PutNext.stream c.args.message) _ _ c.respond_to_next.result
    (λ has next. IfOk-weaker c.respond_to_next.result _ _ (recounted_next first last counts c.in-PutNext.stream c.args.message) (c.respond_to_next.ensures.replies has next)) c.respond_to_next.ensures.used_up c.respond_to_next.ensures.no_stream) (λ other. absurd (other own)))

pub returns-in-Take-clause-answered : goal.returns-in-Take-clause-answered
returns-in-Take-clause-answered g c =
    let first = c.args.self.now in let last = c.respond_to_take.new.self in
    let counts = record first.counts { requests = c.saturating_add-self.result } in
    let here : IsFor first.side c.args.call = search rules in
    let own : first.side ≡ Receiver = subst (λ (call : Call). IsFor first.side call) c.in-Take.is here in
    subst (λ (call : Call). IfOk c.respond_to_take.result (AnswersCall first last call c.args.message)) (sym c.in-Take.is)
    (told_either _ _ c.respond_to_take.result (λ same.
    told_either (RepliesToTake first last c.in-Take.claim c.in-Take.wait) _ c.respond_to_take.result
    (λ has. IfOk-weaker c.respond_to_take.result _ _ (recounted_take first last counts c.in-Take.claim c.in-Take.wait) (c.respond_to_take.ensures.replies has)) c.respond_to_take.ensures.no_stream) (λ other. absurd (other own)))

-- and at a sender's host it gets nothing, at a receiver's it puts nothing
pub returns-in-Put-clause-alone : goal.returns-in-Put-clause-alone
returns-in-Put-clause-alone g c =
    let first = c.args.self.now in let last = c.respond_to_put.new.self in
    let here : IsFor first.side c.args.call = search rules in
    let own : first.side ≡ Sender = subst (λ (call : Call). IsFor first.side call) c.in-Put.is here in
    gets_none_at c.respond_to_put.result first.side first.service.host.pass last.service.host.pass own c.respond_to_put.ensures.none_got

pub returns-in-PutNext-clause-alone : goal.returns-in-PutNext-clause-alone
returns-in-PutNext-clause-alone g c =
    let first = c.args.self.now in let last = c.respond_to_next.new.self in
    let here : IsFor first.side c.args.call = search rules in
    let own : first.side ≡ Sender = subst (λ (call : Call). IsFor first.side call) c.in-PutNext.is here in
    gets_none_at c.respond_to_next.result first.side first.service.host.pass last.service.host.pass own c.respond_to_next.ensures.none_got

pub returns-in-Take-clause-alone : goal.returns-in-Take-clause-alone
returns-in-Take-clause-alone g c =
    let first = c.args.self.now in let last = c.respond_to_take.new.self in
    let here : IsFor first.side c.args.call = search rules in
    let own : first.side ≡ Receiver = subst (λ (call : Call). IsFor first.side call) c.in-Take.is here in
    puts_none_at c.respond_to_take.result first.side first.service.host.pass last.service.host.pass own c.respond_to_take.ensures.none_put
