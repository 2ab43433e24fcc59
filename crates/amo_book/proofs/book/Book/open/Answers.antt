use Rattle.std.proofs.Common.{◌≡◌, ℕ, ◌≤◌, List, ap, subst, arith, refl}
use Rattle.atomic_table.specs.Seated.{TableId}
use Rattle.amo_object.specs.declared.step.End.{End}
use Rattle.amo_book.specs.declared.view.Setup.{Setup}
use Rattle.amo_book.specs.Book.{AreLawful, IsLawful, Lists, AreFirstCharges, first_pass}
use Rattle.amo_book.proofs.Fills.{lists-each}
use Rattle.amo_book.proofs.Gathers.{first_belong}
use Rattle.amo_book.proofs.book.Book.open.Goals as goal

lawful : (sides seen : List (End × ℕ)) (passes : ℕ) → seen ≡ sides → AreLawful seen → 2 ≤ passes → passes ≤ 64 → IsLawful sides passes
lawful sides seen passes same are two many = record { sides_are = subst AreLawful same are; two = two; many = many }

pub returns-clause-opened : goal.returns-clause-opened
returns-clause-opened c =
    let id : TableId = c.in-Ok-open.board.table.shared.table_id in
    let e = c.in-Ok-open.ensures.0 in
    let sides : c.in-Ok-open.board.setup.sides.items ≡ c.args.sides.items = ap (λ (s : Setup). s.sides.items) e in
    let passes : c.in-Ok-open.board.setup.passes ≡ c.args.passes = ap (λ (s : Setup). s.passes) e in
    let low = c.if-passes-lt-MIN_PASSES.false in
    let high = c.if-passes-gt-MAX_PASSES.false in
    let numbered : Lists (first_pass id) c.args.passes c.deal_passes.new.passes.items =
    subst (λ (n : ℕ). Lists (first_pass id) n c.deal_passes.new.passes.items) passes c.deal_passes.ensures.dealt in (
      lawful c.args.sides.items _ c.args.passes c.as_slice.ensures.value c.in-Some.ensures.some.1 (omega arith) (omega arith),
      record {
        sides_are = sides;
        passes_are = passes;
        numbered_are = numbered;
        charges_are = subst (λ (l : List (End × ℕ)). AreFirstCharges id l c.deal_charges.new.charges.items) sides c.deal_charges.ensures.dealt;
        passes_belong = lists-each (λ p. p.book ≡ id) (first_pass id) c.args.passes c.deal_passes.new.passes.items (λ k. refl) numbered;
        charges_belong = first_belong id c.in-Ok-open.board.setup.sides.items c.deal_charges.new.charges.items c.deal_charges.ensures.dealt;
      },
    )

pub returns-clause-limits : goal.returns-clause-limits
returns-clause-limits c = (λ e. cc, λ never. absurd (never (returns-clause-opened c).0))

-- where memory is missing, the limits were met
pub returns-in_default-with_capacity-clause-limits : goal.returns-in_default-with_capacity-clause-limits
returns-in_default-with_capacity-clause-limits c = let low = c.if-passes-lt-MIN_PASSES.false in let high = c.if-passes-gt-MAX_PASSES.false in
    (λ e. cc, λ never. absurd (never (lawful c.args.sides.items _ c.args.passes c.as_slice.ensures.value c.in-Some.ensures.some.1 (omega arith) (omega arith))))

pub returns-in_default-with_capacity-2-clause-limits : goal.returns-in_default-with_capacity-2-clause-limits
returns-in_default-with_capacity-2-clause-limits c = let low = c.if-passes-lt-MIN_PASSES.false in let high = c.if-passes-gt-MAX_PASSES.false in
    (λ e. cc, λ never. absurd (never (lawful c.args.sides.items _ c.args.passes c.as_slice.ensures.value c.in-Some.ensures.some.1 (omega arith) (omega arith))))

pub returns-in_default-with_capacity-3-clause-limits : goal.returns-in_default-with_capacity-3-clause-limits
returns-in_default-with_capacity-3-clause-limits c = let low = c.if-passes-lt-MIN_PASSES.false in let high = c.if-passes-gt-MAX_PASSES.false in
    (λ e. cc, λ never. absurd (never (lawful c.args.sides.items _ c.args.passes c.as_slice.ensures.value c.in-Some.ensures.some.1 (omega arith) (omega arith))))

pub returns-in_default-open-clause-limits : goal.returns-in_default-open-clause-limits
returns-in_default-open-clause-limits c = let low = c.if-passes-lt-MIN_PASSES.false in let high = c.if-passes-gt-MAX_PASSES.false in
    (λ e. cc, λ never. absurd (never (lawful c.args.sides.items _ c.args.passes c.as_slice.ensures.value c.in-Some.ensures.some.1 (omega arith) (omega arith))))
