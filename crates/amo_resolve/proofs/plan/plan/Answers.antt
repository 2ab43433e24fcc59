use Rattle.std.proofs.Common.{◌≡◌, ◌<◌, ◌≤◌, ◌+◌, ◌-◌, ℕ, Bool, [], ◌∷◌, drop, take, length, get_or, sym, ◌∙◌, ap, subst, arith, rules}
use Rattle.std.proofs.lemmas.List.{take_all, length-drop}
use Rattle.amo_object.specs.Delivery.{messages_got}
use Rattle.amo_resolve.specs.Plan.{IsNoted, AreBorders}
use Rattle.amo_resolve.proofs.Bordering.{borders_none}
use Rattle.amo_resolve.proofs.Planning.{planned_none, planned_more, planned_all, got_so_far, got_there, got_in_all, got_small, got_length}
use Rattle.amo_resolve.proofs.plan.plan.Goals as goal

pub loop-place-init : goal.loop-place-init
loop-place-init c =
    let calls = c.args.calls.now in
    let first : c.len-first.result ≡ length (messages_got (take (length calls) calls)) =
    c.len-first.ensures.length ∙ ap length (c.requires ∙ ap messages_got (sym (take_all (length calls) calls (omega arith)))) in
    record {
      within = omega arith;
      planned = planned_none calls c.in_ok-marks.marks.items c.new-kept.result.items c.nothing-ahead.result (length calls)
          (omega arith) (omega (arith, c.in_ok-marks.ensures.count)) (search rules) (c.nothing-ahead.ensures.ahead []);
      got = got_there calls c.args.got.now (length calls) c.len-first.result c.requires first;
      first = first;
      borders = borders_none c.args.got.now (c.len-first.result + c.nothing-ahead.result.here) c.in_ok-borders.borders.lengths.items (ap length c.in_ok-borders.ensures);
      counted = ap length c.in_ok-borders.ensures ∙ ap (λ (n : ℕ). n + 1) (sym c.nothing-ahead.ensures.here);
    }

pub before-requires-clause-first : goal.before-requires-clause-first
before-requires-clause-first c =
    let within : c.loop-place.place - 1 < length c.args.calls.now = omega (arith, c.loop-place.invariant.within, c.loop-place-test.true) in
    let next : c.loop-place.place ≡ c.loop-place.place - 1 + 1 = omega (arith, c.loop-place-test.true) in
    let so_far = got_so_far c.args.calls.now (c.loop-place.place - 1) c.loop-place.place c.index-calls-place.result next within c.index-calls-place.is in
    omega (arith, so_far, c.loop-place.invariant.first)

pub before-requires-clause-counts : goal.before-requires-clause-counts
before-requires-clause-counts c =
    let p = c.loop-place.invariant.planned in
    let asks = p.ahead.asks in
    let all = got_in_all c.args.calls.now c.args.got.now c.loop-place.place c.loop-place.first c.requires c.loop-place.invariant.first in
    let noted = c.note-note.ensures.noted (drop c.loop-place.place c.args.calls.now) p.notes p.plan p.ahead in
    (asks.spared_here, omega (arith, asks.enough, all), omega (arith, asks.enough_most, all), omega (arith, noted.4, all))

pub before-requires-clause-numbers : goal.before-requires-clause-numbers
before-requires-clause-numbers c =
    let calls = c.args.calls.now in
    let p = c.loop-place.invariant.planned in
    let asks = p.ahead.asks in
    let noted = c.note-note.ensures.noted (drop c.loop-place.place calls) p.notes p.plan p.ahead in
    let short : length (messages_got (drop c.loop-place.place calls)) + c.loop-place.place ≤ length calls =
    omega (arith, got_length (drop c.loop-place.place calls), length-drop c.loop-place.place calls, c.loop-place.invariant.within) in
    let wanted : c.note-note.result.wanted + c.loop-place.place ≤ length calls = omega (arith, noted.4, short) in
    let here : c.loop-place.ahead.here + c.loop-place.place ≤ length calls = omega (arith, asks.enough, short) in
    let most : c.loop-place.ahead.most + c.loop-place.place ≤ length calls = omega (arith, asks.enough_most, short) in
    let got : c.loop-place.ahead.got + c.loop-place.place ≤ length calls =
    omega (arith, p.ahead.got, got_small (drop c.loop-place.place calls), length-drop c.loop-place.place calls, c.loop-place.invariant.within) in
    search rules

pub note-note-requires : goal.note-note-requires
note-note-requires c = c.loop-place.invariant.planned.ahead.asks.spared_most

pub got_before-first-requires : goal.got_before-first-requires
got_before-first-requires c =
    let within : c.loop-place.place - 1 < length c.args.calls.now = omega (arith, c.loop-place.invariant.within, c.loop-place-test.true) in
    let next : c.loop-place.place ≡ c.loop-place.place - 1 + 1 = omega (arith, c.loop-place-test.true) in
    let so_far = got_so_far c.args.calls.now (c.loop-place.place - 1) c.loop-place.place c.index-calls-place.result next within c.index-calls-place.is in
    omega (arith, so_far, c.loop-place.invariant.first)

pub loop-place-preserved : goal.loop-place-preserved
loop-place-preserved c =
    let calls = c.args.calls.now in
    let marks = c.in_ok-marks.marks.items in
    let place = c.loop-place.place - 1 in
    let note = c.note-note.result in
    let call = c.index-calls-place.result in
    let p = c.loop-place.invariant.planned in
    let later = drop c.loop-place.place calls in
    let within : place < length calls = omega (arith, c.loop-place.invariant.within, c.loop-place-test.true) in
    let next : c.loop-place.place ≡ place + 1 = omega (arith, c.loop-place-test.true) in
    let noted : IsNoted later p.notes note = c.note-note.ensures.noted later p.notes p.plan p.ahead in
    let so_far = got_so_far calls place c.loop-place.place call next within c.index-calls-place.is in
    let before : c.got_before-first.result ≡ c.loop-place.first - length (messages_got (call ∷ [])) = omega (arith, c.got_before-first.ensures) in
    let first : c.got_before-first.result ≡ length (messages_got (take place calls)) = omega (arith, so_far, c.loop-place.invariant.first, c.got_before-first.ensures) in
    let down = c.note-note.ensures.down ∙ c.index.ensures ∙ ap (λ (b : Bool). get_or marks place b) (sym c.note-note.ensures.down) in
    record {
      within = omega (arith, within);
      planned = planned_more calls marks c.loop-place.kept.items c.keep.new.kept.items c.loop-place.ahead c.in_ok-ahead.ahead place c.loop-place.place call note
          next within (omega (arith, within, c.in_ok-marks.ensures.count)) c.index-calls-place.is down p noted
          (c.in_ok-ahead.ensures.ahead later p.notes c.loop-place.invariant.got p.ahead noted) (c.in_ok-keep.ensures p.notes p.kept);
      got = got_there calls c.args.got.now place c.got_before-first.result c.requires first;
      first = first;
      borders = subst (λ (n : ℕ). AreBorders c.args.got.now (n + c.in_ok-ahead.ahead.here) c.before-in-loop-place.new.borders.lengths.items) (sym before) c.in_ok-ahead.ensures.borders.0;
      counted = c.in_ok-ahead.ensures.borders.1;
    }

pub returns : goal.returns
returns c = planned_all c.args.calls.now c.in_ok-marks.marks.items c.loop-place.kept.items c.loop-place.ahead c.loop-place.place
    (omega (arith, c.loop-place-test.false)) c.in_ok-marks.ensures.downs c.loop-place.invariant.planned
