use Rattle.std.proofs.Common.{◌≡◌, ℕ, List, [], ◌∷◌, ◌++◌, codes, ◌∙◌, ap}
use Rattle.amo_door.specs.declared.answer.GotMessage.{GotMessage}
use Rattle.amo_door.specs.Answer.{got_front, got_message}
use Rattle.amo_call.proofs.Measures.{front_of_one, popped}
use Rattle.amo_call.proofs.pages.as_told.Goals as goal

pub returns-in-Some-behind : goal.returns-in-Some-behind
returns-in-Some-behind c =
    let first = c.args.first in
    let stream = c.args.stream in
    let one : c.push.new.messages.items ≡ first ∷ [] = c.in_ok-push.ensures ∙ ap (λ (t : List GotMessage). t ++ first ∷ []) c.new-messages.ensures.items in
    let front = front_of_one stream c.push.new.messages.items first c.as_slice.result.now c.in-Some.front.now (codes "],\"from\":null,\"next\":null,\"more\":false}") one
    (c.as_slice.ensures.value ∙ c.in_ok-told.ensures.body) c.in-Some.ensures.found in
    popped first c.push.new.messages.items c.pop.new.self.items c.pop.result (λ (got : GotMessage). (x : List ℕ) × (c.args.body.now ≡ got_front stream ++ got_message got ++ x)) one c.pop.ensures.items
    (c.in-Some-behind._rest.now, c.in-Some-behind.ensures.found ∙ ap (λ (t : List ℕ). t ++ c.in-Some-behind._rest.now) front)
