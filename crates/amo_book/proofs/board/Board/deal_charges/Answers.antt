use Rattle.std.proofs.Common.{◌≡◌, ℕ, ◌+◌, ◌<◌, List, [], ◌∷◌, length, slice_get, Some, sym, ap, ◌∙◌, subst, arith, length-append}
use Rattle.std.proofs.lemmas.Option.{slice_get_within}
use Rattle.amo_object.specs.declared.step.End.{End}
use Rattle.amo_book.specs.Book.{first_charge}
use Rattle.amo_book.specs.Charge.{ChargeState}
use Rattle.amo_book.proofs.Fills.{charges-more}
use Rattle.amo_book.proofs.board.Board.deal_charges.Goals as goal

pub loop-place-preserved : goal.loop-place-preserved
loop-place-preserved c =
    let i = c.loop-place.invariant in
    let id = c.args.self.now.table.shared.table_id in
    let sides : List (End × ℕ) = c.args.self.now.setup.sides.items in
    let place : ℕ = c.loop-place.place in
    let site = c.site_at-site.result in
    let same = c.witness-seat.ensures.same.0 in
    let pushed = c.push_reserved.ensures in
    let there = c.site_at-site.ensures.1 in
    let here : slice_get sides place ≡ Some (site.side, site.stream) =
    ap (λ (l : List (End × ℕ)). slice_get l place) (sym c.as_slice.ensures.value) ∙ (ap (slice_get c.as_slice.result.now) (sym there) ∙ c.site_at-site.ensures.0) in
    let book = c.witness-seat.ensures.witness.0 ∙ (i.same.0 ∙ c.requires.own) in
    let made : ChargeState = record { book = c.witness-seat.result.table_id; place = site.place; side = site.side; stream = site.stream; mode = c.first_mode.result } in
    let is : made ≡ first_charge id place site.side site.stream =
    λ j. record { book = book j; place = there j; side = site.side; stream = site.stream; mode = c.first_mode.ensures j } in
    record {
      same = (same.0 ∙ i.same.0, same.1 ∙ i.same.1);
      long = ap (λ (l : List ChargeState). length l) pushed.items ∙ (length-append c.loop-place.charges.items (made ∷ []) ∙ ap (λ (n : ℕ). n + 1) i.long);
      dealt = subst (λ (l : List ChargeState). (k : ℕ) (side : End) (stream : ℕ) → k < place + 1 → slice_get sides k ≡ Some (side, stream)
          → slice_get l k ≡ Some (first_charge id k side stream)) (sym pushed.items)
          (charges-more id sides place c.loop-place.charges.items made site.side site.stream here is i.long i.dealt);
      room = let kept = pushed.capacity in let room = i.room in omega arith;
    }

pub returns-clause-dealt : goal.returns-clause-dealt
returns-clause-dealt c =
    let i = c.loop-place.invariant in
    let sides : List (End × ℕ) = c.args.self.now.setup.sides.items in
    let all : c.loop-place.place ≡ length sides = omega arith in
    (i.long ∙ all, λ k side stream e. i.dealt k side stream (let within = slice_get_within sides k (side, stream) e in omega arith) e)
