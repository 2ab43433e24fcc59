use Rattle.std.proofs.Common.{◌≡◌, ◌∙◌, ◌<◌, ◌≤◌, ◌++◌, ℕ, List, [], true, false, refl, sym, take, drop, length, unwrap_or, arith, inl, subst}
use Rattle.std.proofs.lemmas.List.{take_rest}
use Rattle.std.proofs.lemmas.Result.{on_ok_weaker}
use Rattle.amo_pieces.specs.Text.{torn}
use Rattle.amo_audit.specs.Parts.{HasCome}
use Rattle.amo_audit.proofs.Come.{all_given, all_taken, at_end, has_begun, joins, joins_all, joins_other, left_known, stands_at}
use Rattle.amo_audit.proofs.pieces_audit.PiecesAudit.add.Goals as goal

pub returns-then-not-is_whole : goal.returns-then-not-is_whole
returns-then-not-is_whole g c =
    let left = g.R.Read.remaining c.args.reader.now in (
      unwrap_or left [],
      left_known left,
      λ pieces (text, is, come). (
        text,
        (text, 0, is, torn (λ whole. let no : true ≡ false = sym ((c.is_whole.ensures text come).1 whole) ∙ c.if-not-is_whole.true in cc) refl refl),
        come,
      ),
    )

pub returns-then-len-lt-HEADING : goal.returns-then-len-lt-HEADING
returns-then-len-lt-HEADING g c =
    let text = c.args.self.now.text in
    let begun = c.in_ok-begun.begun.items in
    let short : length begun < 6 = omega (arith, c.if-len-lt-HEADING.true, c.len.ensures, c.in_ok-begun.begun.ok.0) in
    let leaves = rw c.version.ensures at (rw c.as_slice.ensures.value at c.in-Some.ensures.leaves) in (
      begun,
      all_taken (g.R.Read.remaining c.args.reader.now) (g.R.Read.remaining c.beginning.new.reader) begun c.in_ok-begun.ensures.bytes (c.in_ok-begun.ensures.end short),
      λ pieces (front, is, come).
          let whole = (c.is_whole.ensures front come).0 c.if-not-is_whole.false in
          let joined = joins_all text.version front begun c.in-Some.count (stands_at text.judged text.version text.rest.items front come.opened whole) whole leaves in
          (front ++ drop c.in-Some.count begun, (front, joined.0, is, joined.1), subst (λ (t : List ℕ). HasCome c.push.new.self (front ++ t)) (take_rest begun c.in-Some.count) (rw c.as_slice-in-Some.ensures.value at (c.in_ok-push-in-Some.ensures front come))),
    )

pub returns-in-Some : goal.returns-in-Some
returns-in-Some g c =
    let text = c.args.self.now.text in
    let begun = c.in_ok-begun.begun.items in
    let long : 6 ≤ length begun = omega (arith, c.if-len-lt-HEADING.false, c.len.ensures, c.in_ok-begun.begun.ok.0) in
    let leaves = rw c.version.ensures at (rw c.as_slice.ensures.value at c.in-Some.ensures.leaves) in
    on_ok_weaker c.take_rest.result (λ (more, known, comes). (
      begun ++ more,
      all_given (g.R.Read.remaining c.args.reader.now) (g.R.Read.remaining c.beginning.new.reader) begun more c.in_ok-begun.ensures.bytes known,
      λ pieces (front, is, come).
          let whole = (c.is_whole.ensures front come).0 c.if-not-is_whole.false in
          let joined = joins text.version front begun more c.in-Some.count (stands_at text.judged text.version text.rest.items front come.opened whole) whole leaves (inl long) in (
            front ++ drop c.in-Some.count begun ++ more,
            (front, joined.0, is, joined.1),
            comes (front ++ drop c.in-Some.count begun) (subst (λ (t : List ℕ). HasCome c.push.new.self (front ++ t)) (take_rest begun c.in-Some.count) (rw c.as_slice-in-Some.ensures.value at (c.in_ok-push-in-Some.ensures front come))),
          ),
    )) c.take_rest.ensures

pub returns : goal.returns
returns g c =
    let text = c.args.self.now.text in
    let begun = c.in_ok-begun.begun.items in
    let left = g.R.Read.remaining c.beginning.new.reader in
    let more = unwrap_or left [] in
    let leaves = rw c.version.ensures at (rw c.as_slice.ensures.value at c.in-None.ensures.leaves) in (
      begun ++ more,
      all_given (g.R.Read.remaining c.args.reader.now) left begun more c.in_ok-begun.ensures.bytes (left_known left),
      λ pieces (front, is, come).
          let whole = (c.is_whole.ensures front come).0 c.if-not-is_whole.false in
          let joined = joins_other text.version front begun more (stands_at text.judged text.version text.rest.items front come.opened whole) whole leaves (has_begun begun more left c.in_ok-begun.ensures.end (at_end left)) in
          (front ++ take 1 begun, (front, 0, is, joined), rw c.as_slice-in-None.ensures.value at (c.in_ok-push-in-None.ensures front come)),
    )
