use Rattle.std.proofs.Common.{arith, ◌≡◌, ◌⊎◌, length, List, refl, sym, ap, ◌∙◌, inl, inr, append_assoc, append-nil, length-append}
use Rattle.std.specs.Global.{Vec}
use Rattle.amo_book.specs.Charge.{ChargeState}
use Rattle.amo_host.specs.Host.{Host}
use Rattle.amo_host.proofs.DivisionLemmas.{joined_none, Suit-first, Suit-rest}
use Rattle.amo_host.proofs.room.assemble.Goals as goal

pub loop-agenda-init : goal.loop-agenda-init
loop-agenda-init g c =
    let it = c.into_iter-agenda-iterator.result in
    let hosts : it.a.a.rest.items ≡ c.args.agendas.items = cc in
    let parts : it.a.b.rest.items ≡ c.args.parts.items = cc in
    let words : it.b.rest.items ≡ c.args.words.items = cc in
    let host_count : it.a.a.rest.len ≡ c.args.agendas.len = cc in
    let part_count : it.a.b.rest.len ≡ c.args.parts.len = cc in
    let word_count : it.b.rest.len ≡ c.args.words.len = cc in
    record {
      can_next = ((tt, tt), tt);
      is_finite = tt;
      agendas = omega (arith, ap (λ (xs : List Host). length xs) hosts);
      parts = omega (arith, ap (λ (xs : List (Vec ChargeState)). length xs) parts);
      words = omega (arith, ap (λ (xs : List g.row.W.Denot). length xs) words);
      suit = rw (hosts, parts) c.requires.suit;
      pumps = rw (hosts, parts, words, c.requires.room.0) refl;
      room = rw (words, c.requires.room.0) (omega (arith, c.requires.room.1));
    }

pub invariant_of-push_reserved : goal.invariant_of-push_reserved
invariant_of-push_reserved g c =
    let steps = c.in-Some.ensures.steps in
    let suit = rw (steps.0.0.0, steps.0.1.0) at c.loop-agenda.invariant.suit in
    Suit-first c.in-Some.agenda c.next.new.self.a.a.rest.items c.in-Some.charges c.next.new.self.a.b.rest.items suit c.in-Some.words

pub push_reserved-requires : goal.push_reserved-requires
push_reserved-requires g c =
    let steps = c.in-Some.ensures.steps in
    let left = ap (λ (xs : List g.row.W.Denot). length xs) steps.1.0 in
    omega (arith, left, c.loop-agenda.invariant.room)

pub loop-agenda-preserved : goal.loop-agenda-preserved
loop-agenda-preserved g c =
    let steps = c.in-Some.ensures.steps in
    let i = c.loop-agenda.invariant in
    let suit = rw (steps.0.0.0, steps.0.1.0) at i.suit in
    let pumps = rw (steps.0.0.0, steps.0.1.0, steps.1.0) at i.pumps in
    record {
      can_next = ((tt, tt), tt);
      is_finite = tt;
      agendas = omega (arith, steps.0.0.1, ap (λ (xs : List Host). length xs) steps.0.0.0, i.agendas);
      parts = omega (arith, steps.0.1.1, ap (λ (xs : List (Vec ChargeState)). length xs) steps.0.1.0, i.parts);
      words = omega (arith, steps.1.1, ap (λ (xs : List g.row.W.Denot). length xs) steps.1.0, i.words);
      suit = Suit-rest c.in-Some.agenda c.next.new.self.a.a.rest.items c.in-Some.charges c.next.new.self.a.b.rest.items suit;
      pumps = rw c.push_reserved.ensures.items (rw append_assoc pumps);
      room = rw c.push_reserved.ensures.items (simp length-append (omega (arith, c.push_reserved.ensures.capacity, ap (λ (xs : List g.row.W.Denot). length xs) steps.1.0, i.room)));
    }

pub returns : goal.returns
returns g c =
    let it = c.loop-agenda.agenda-iterator in
    let i = c.loop-agenda.invariant in
    let used : ((length it.a.a.rest.items ≡ 0) ⊎ (length it.a.b.rest.items ≡ 0)) ⊎ (length it.b.rest.items ≡ 0) = elim c.in-None.ensures.steps [
      | inl first ↦ elim first.1 [
        | inl hosts ↦ inl (inl (omega (arith, i.agendas, hosts.1.0)))
        | inr parts ↦ inl (inr (omega (arith, i.parts, parts.1.0)))
      ]
      | inr words ↦ inr (omega (arith, i.words, words.1.0))
    ] in
    let none = joined_none it.a.a.rest.items it.a.b.rest.items it.b.rest.items used in
    let all = rw none at i.pumps in
    sym (append-nil c.loop-agenda.pumps.items) ∙ all
