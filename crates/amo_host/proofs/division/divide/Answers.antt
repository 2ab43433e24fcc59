use Rattle.std.proofs.Common.{◌≡◌, length, arith, subst, refl}
use Rattle.amo_host.specs.Room.{AreDealt}
use Rattle.amo_host.proofs.DivisionLemmas.{suit_each, divides, shares_window}
use Rattle.amo_host.proofs.division.divide.Goals as goal

pub assemble-requires-clause-suit : goal.assemble-requires-clause-suit
assemble-requires-clause-suit g c =
    let cs = c.args.charges.items in
    let room = rw c.deref-2.ensures.value at c.in-Ok.ensures.agendas in
    let dealt = subst (λ n. AreDealt cs n c.deal.result.items) c.in-Ok.ensures.parts.count c.deal.ensures in
    suit_each {W = g.row.W.Denot} cs c.args.window c.args.pumps c.args.words.items c.in-Ok.room.agendas.items c.deal.result.items room.0 room.1 room.2 dealt

pub returns-clause-divided : goal.returns-clause-divided
returns-clause-divided g c =
    let cs = c.args.charges.items in
    let room = rw c.deref-2.ensures.value at c.in-Ok.ensures.agendas in
    let dealt = subst (λ n. AreDealt cs n c.deal.result.items) c.in-Ok.ensures.parts.count c.deal.ensures in
    let count : c.len.result ≡ length c.args.words.items = omega arith in
    let lawful = rw (c.deref.ensures.value, count) at c.if-not-can_be_divided.ensures.0 refl in
    rw c.assemble.ensures (divides cs c.args.window c.args.pumps c.args.words.items c.in-Ok.room.agendas.items c.deal.result.items room.0 room.1 room.2 dealt lawful)

pub returns-clause-window : goal.returns-clause-window
returns-clause-window g c =
    let lawful = c.if-not-can_be_divided.ensures.0 refl in
    shares_window c.args.charges.items c.args.window c.args.pumps c.args.words.items c.assemble.result.items lawful.some (returns-clause-divided g c)
