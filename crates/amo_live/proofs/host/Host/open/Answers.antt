use Rattle.std.proofs.Common.{◌≡◌, refl, sym, ap, subst, ◌∙◌, arith}
use Rattle.amo_book.specs.Book.{Each, first_pass}
use Rattle.amo_book.specs.Charge.{IsChargeOf}
use Rattle.amo_book.specs.Pass.{PassState, mine}
use Rattle.amo_host.specs.Host.{Host}
use Rattle.amo_live.specs.Emitted.{WasEmitted}
use Rattle.amo_live.specs.Noted.{Holds}
use Rattle.amo_live.specs.OpenLines.{KeepsOpen}
use Rattle.amo_live.proofs.Following.{none_open}
use Rattle.amo_live.proofs.Emissions.{nothing_emitted}
use Rattle.amo_live.proofs.Opens.{charges_driven, charges_many, charges_rest, first_of_two, last_of_two, side_of_pump}
use Rattle.amo_live.proofs.host.Host.open.Goals as goal

pub paced-requires : goal.paced-requires
paced-requires g c =
    let id = c.in-Ok.book.id in let sides = c.in_ok-sides.sides.items in let charges = c.in-Ok.charges.items in let is = c.in_ok-sides.ensures in
    let opens = c.in-Ok.ensures.opened.1 in
    charges_rest id c.args.side c.args.streams sides charges is opens.charges_are

pub unreachable-requires-in-Err-Limits-paced : goal.unreachable-requires-in-Err-Limits-paced
unreachable-requires-in-Err-Limits-paced g c =
    let id = c.in-Ok.book.id in let sides = c.in_ok-sides.sides.items in let charges = c.in-Ok.charges.items in let is = c.in_ok-sides.ensures in
    let opens = c.in-Ok.ensures.opened.1 in
    let refused = rw c.in-Err-Limits-paced.field-0-is at c.in-Err-Limits-paced.ensures.refused in
    refused.2 (charges_driven id c.args.side c.args.streams sides charges is opens.charges_are c.window_of.result c.requires.streams.0 c.window_of.ensures.within.0 c.window_of.ensures.within.1)

pub invariant_of-result : goal.invariant_of-result
invariant_of-result g c =
    let id = c.in-Ok.book.id in let sides = c.in_ok-sides.sides.items in let charges = c.in-Ok.charges.items in let is = c.in_ok-sides.ensures in
    let opens = c.in-Ok.ensures.opened.1 in
    let last : c.in-Some.pass ≡ first_pass id 1 = last_of_two (first_pass id) c.in-Ok.passes.items c.pop.new.self.items c.in-Some.pass opens.numbered_are c.in-Some.ensures.items in
    let begins = c.in-Ok-paced.ensures.begins in
    let number = ap (λ (p : PassState). p.number) last in
    record {
      together = (ap (λ (p : PassState). p.book) last, subst (Each (IsChargeOf id c.in-Ok.book.sides)) (sym begins.charges_are) opens.charges_belong);
      station = begins.station;
      side = side_of_pump id c.args.side c.args.streams sides charges is opens.charges_are c.in-Ok-paced.pump c.requires.streams.0 begins.charges_are begins.station;
      few = c.requires.streams.1;
      sides = opens.sides_are ∙ is;
      places = let count = c.in_ok-outbox-in-Ok.ensures.places in let many = c.len.ensures in let all = charges_many id c.args.side c.args.streams sides charges is opens.charges_are in omega (arith, count, many, all, c.in-Ok.charges.ok.0);
      number = number;
      silent = let front : c.in-Some-pop.other ≡ first_pass id 0 = first_of_two (first_pass id) c.in-Ok.passes.items c.pop.new.self.items c.pop-in-Ok.new.self.items c.in-Some.pass c.in-Some-pop.other opens.numbered_are c.in-Some.ensures.items c.in-Some-pop.ensures.items in
          record { two = opens.passes_are; book_is = ap (λ (p : PassState). p.book) front; number = ap (λ (p : PassState). p.number) front; silent = ap mine front };
      emitted = record { leaving = subst (Each (WasEmitted c.in-Some.pass)) (sym c.in_ok-outbox-in-Ok.ensures.leaving) tt; recent = nothing_emitted c.in-Some.pass c.in_ok-outbox-in-Ok.outbox.recent c.in_ok-outbox-in-Ok.ensures.nothing };
    }

pub returns-in-Ok-paced-clause-opened : goal.returns-in-Ok-paced-clause-opened
returns-in-Ok-paced-clause-opened g c =
    let id = c.in-Ok.book.id in let sides = c.in_ok-sides.sides.items in let charges = c.in-Ok.charges.items in let is = c.in_ok-sides.ensures in
    let opens = c.in-Ok.ensures.opened.1 in
    let last : c.in-Some.pass ≡ first_pass id 1 = last_of_two (first_pass id) c.in-Ok.passes.items c.pop.new.self.items c.in-Some.pass opens.numbered_are c.in-Some.ensures.items in
    record {
      side_is = refl;
      streams_are = refl;
      limit = ap (λ (h : Host). h.limit) c.in-Ok-paced.ensures.begins.host ∙ c.window_of.ensures.result;
      sides = opens.sides_are ∙ is;
      seen = ap (λ (p : PassState). p.seen) last;
      number = ap (λ (p : PassState). p.number) last;
      link_is = refl;
      outbox = c.in_ok-outbox-in-Ok.ensures.leaving;
      journal_is = refl;
    }

pub returns-in-Ok-paced-clause-noted : goal.returns-in-Ok-paced-clause-noted
returns-in-Ok-paced-clause-noted g c =
    let id = c.in-Ok.book.id in let sides = c.in_ok-sides.sides.items in let charges = c.in-Ok.charges.items in let is = c.in_ok-sides.ensures in
    let opens = c.in-Ok.ensures.opened.1 in
    let last : c.in-Some.pass ≡ first_pass id 1 = last_of_two (first_pass id) c.in-Ok.passes.items c.pop.new.self.items c.in-Some.pass opens.numbered_are c.in-Some.ensures.items in
    let kept = c.in_ok-unanswered-in-Ok.ensures in (
      subst (λ (p : PassState). Holds g.S.Sink.written c.args.journal (mine p)) (sym last) c.requires.unwritten,
      subst (λ (p : PassState). KeepsOpen c.args.side c.args.streams c.args.journal.first c.args.journal.standing (mine p) c.in_ok-unanswered-in-Ok.unanswered) (sym last)
          (none_open c.args.side c.args.streams c.args.journal.first c.args.journal.standing c.in_ok-unanswered-in-Ok.unanswered (kept.many ∙ c.senders_of.ensures) kept.none),
    )
