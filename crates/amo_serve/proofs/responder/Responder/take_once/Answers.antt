use Rattle.std.proofs.Common.{◌≡◌, None, refl, rules}
use Rattle.amo_door.specs.declared.claim.Decision.TheVariants as decided
use Rattle.amo_door.specs.declared.claim.Made.{Made}
use Rattle.amo_door.specs.Numbers.{decision, last_of}
use Rattle.amo_serve.specs.Serving.{CarriesMade}
use Rattle.amo_serve.proofs.Served.{conflicting_take, made_before, said_of, still, taken_before}
use Rattle.amo_serve.proofs.responder.Responder.take_once.Goals as goal

pub returns-in_ok-tell_taken-in-Again-clause-taken : goal.returns-in_ok-tell_taken-in-Again-clause-taken
returns-in_ok-tell_taken-in-Again-clause-taken g c =
    let s = c.args.self.now.numbers in
    let v = c.args.self.now.service.host.pass in
    let last = last_of s c.args.claim.stream in
    let again : decision s.life last c.args.claim None ≡ decided.Again = search rules in
    let (made, is) = made_before s.life c.args.claim None last again in
    let answer = c.in_ok-tell_taken-in-Again.field-0 in
    let j = c.args.self.now.service.host.journal in
    taken_before s s v v j j c.args.claim made answer c.requires.stream again is refl (still v v j j refl refl)
    (said_of (λ (m : Made). CarriesMade c.args.claim.stream m answer) last made is c.in_ok-tell_taken-in-Again.ensures)

pub returns-in_ok-tell_taken_conflict-in-Conflict-clause-taken : goal.returns-in_ok-tell_taken_conflict-in-Conflict-clause-taken
returns-in_ok-tell_taken_conflict-in-Conflict-clause-taken g c =
    let s = c.args.self.now.numbers in
    let t = c.tell_taken_conflict.new.self.numbers in
    let v = c.args.self.now.service.host.pass in
    let w = c.tell_taken_conflict.new.self.service.host.pass in
    let conflict : decision s.life (last_of s c.args.claim.stream) c.args.claim None ≡ decided.Conflict = search rules in
    let same : t ≡ s = search rules in
    let j = c.args.self.now.service.host.journal in
    let k = c.tell_taken_conflict.new.self.service.host.journal in
    let pass : w ≡ v = search rules in
    let journal : k ≡ j = search rules in
    conflicting_take s t v w j k c.args.claim c.in_ok-tell_taken_conflict-in-Conflict.field-0 c.requires.stream conflict same (still v w j k pass journal)
    c.in_ok-tell_taken_conflict-in-Conflict.ensures.status
