use Rattle.std.proofs.Common.{◌≡◌, ◌⊎◌, ap, false, inr, refl, rules, subst, sym}
use Rattle.amo_door.specs.Connection.{ConnectionState, SpellsAnswer, counted, over}
use Rattle.amo_door.specs.declared.connection.Stage.TheVariants as stage
use Rattle.amo_door.specs.Requests.{HasRead}
use Rattle.amo_door.proofs.Incoming.{answered_on, ends_closed, front_of, read_at_end}
use Rattle.amo_door.proofs.Settled.{spells_closed}
use Rattle.amo_door.proofs.connection.Connection.answer.Goals as goal

-- the answer was written, and then no more is read where HTTP/1 ends
pub returns-then-is_closed-clause-spelt : goal.returns-then-is_closed-clause-spelt
returns-then-is_closed-clause-spelt c =
    let told = subst (λ (s : ConnectionState). SpellsAnswer c.args.answer.now false s c.write.new.self) c.self.view_is c.in_ok-write.ensures.spelt in
    λ _. spells_closed _ _ _ _ c.write.new.self c.close.new.self told c.close.ensures

pub returns-else-is_closed-clause-spelt : goal.returns-else-is_closed-clause-spelt
returns-else-is_closed-clause-spelt c =
    λ _. subst (λ (s : ConnectionState). SpellsAnswer c.args.answer.now false s c.write.new.self) c.self.view_is c.in_ok-write.ensures.spelt

-- none waited for it
pub returns-then-ne-clause-read : goal.returns-then-ne-clause-read
returns-then-ne-clause-read c =
    λ reader came past has.
    let old = c.args.self.now in
    subst (λ (s : ConnectionState). HasRead reader came past (over s)) (sym c.self.view_is) (read_at_end reader came past (over old) (inr refl) (front_of reader came past old has))

-- memory was refused
pub returns-in_err-write-clause-read : goal.returns-in_err-write-clause-read
returns-in_err-write-clause-read c =
    λ reader came past has. read_at_end reader came past c.write.new.self (inr (ap (λ (s : ConnectionState). s.stage) c.in_err-write.ensures.err)) (front_of reader came past c.args.self.now has)

pub returns-then-is_closed-clause-read : goal.returns-then-is_closed-clause-read
returns-then-is_closed-clause-read c =
    λ reader came past has. read_at_end reader came past c.close.new.self (ends_closed _ c.close.new.self (ap (λ (s : ConnectionState). s.stage) c.close.ensures)) (front_of reader came past c.args.self.now has)

-- the next request is read
pub returns-else-is_closed-clause-read : goal.returns-else-is_closed-clause-read
returns-else-is_closed-clause-read c =
    λ reader came past has.
    let old = c.args.self.now in let new = c.write.new.self in
    let was : old.stage ≡ stage.Asked = search rules in
    let spelt = subst (λ (s : ConnectionState). SpellsAnswer c.args.answer.now false s new) c.self.view_is c.in_ok-write.ensures.spelt in
    let counts = subst (λ (s : ConnectionState). (new ≡ counted (record s { stage = stage.Reading }) new.output new.server) ⊎ (new ≡ over (counted (record s { stage = stage.Reading }) new.output new.server))) c.self.view_is c.in_ok-write.ensures.ok in
    answered_on reader came past old new c.args.answer.now was has spelt counts
