use Rattle.std.proofs.Common.{◌≡◌, ℕ, List, ◌++◌, None, Some, drop, length, sym, ◌∙◌, ap, subst, arith}
use Rattle.std.proofs.lemmas.Bool.{leb-true}
use Rattle.std.proofs.lemmas.Bool.Decides.{Decides-eqb}
use Rattle.std.proofs.lemmas.Slice.Eq.{starts_is, strip_prefix_is}
use Rattle.amo_lives.specs.Fault.{BeginsHeading, title}
use Rattle.amo_lives.proofs.Begun.{digits_begin, digits_only, title_begins, title_only}
use Rattle.amo_lives.proofs.line_reader.begins_heading.Goals as goal

pub returns-then-digits-le32 : goal.returns-then-digits-le32
returns-then-digits-le32 c =
    let side = c.args.side in let digits = c.in-Some.digits in
    let front = strip_prefix_is Decides-eqb c.args.text.now c.title_of-title.result.now (Some digits) c.in-Some.ensures.cases in
    let whole : c.args.text.now ≡ title side ++ digits.now = front ∙ ap (λ (t : List ℕ). t ++ digits.now) c.title_of-title.ensures in (
      λ yes. subst (BeginsHeading side) (sym whole) (digits_begin side digits.now c.if-digits-le32.true (sym c.are_digits.ensures ∙ yes)),
      λ begun. c.are_digits.ensures ∙ (digits_only side digits.now (subst (BeginsHeading side) whole begun)).1,
    )

pub returns-else-digits-le32 : goal.returns-else-digits-le32
returns-else-digits-le32 c =
    let side = c.args.side in let digits = c.in-Some.digits in
    let front = strip_prefix_is Decides-eqb c.args.text.now c.title_of-title.result.now (Some digits) c.in-Some.ensures.cases in
    let whole : c.args.text.now ≡ title side ++ digits.now = front ∙ ap (λ (t : List ℕ). t ++ digits.now) c.title_of-title.ensures in (
      λ yes. absurd (omega (arith, leb-true (length digits.now) 32 yes, c.if-digits-le32.false)),
      λ begun. absurd (omega (arith, (digits_only side digits.now (subst (BeginsHeading side) whole begun)).0, c.if-digits-le32.false)),
    )

pub returns-in-None : goal.returns-in-None
returns-in-None c =
    let side = c.args.side in let text = c.args.text.now in let front = c.title_of-title.result.now in
    let none = strip_prefix_is Decides-eqb text front None c.in-None.ensures.cases in
    let is = starts_is Decides-eqb front text c.starts_with.result c.starts_with.ensures.value in (
      λ yes. title_begins side text (drop (length text) front) (sym c.title_of-title.ensures ∙ is.0 yes),
      λ begun.
          let only = title_only side text (λ rest e. none rest (e ∙ ap (λ (t : List ℕ). t ++ rest) (sym c.title_of-title.ensures))) begun in
          is.1 only.0 (c.title_of-title.ensures ∙ only.1),
    )
