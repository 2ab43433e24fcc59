use Rattle.std.proofs.Common.{◌≡◌, ◌+◌, ◌∷◌, ℕ, None, false, suc, sym, ◌∙◌, ap, arith, rules, drop, get_or, length, ◌<◌, slice_index_or, List}
use Rattle.std.proofs.Math.Seq.{drop-cons}
use Rattle.amo_archive.specs.declared.lane.Section.{Section}
use Rattle.amo_archive.specs.Lane.{owners_in}
use Rattle.amo_archive.proofs.Lanes.{goes_past, is_here}
use Rattle.amo_archive.proofs.lane.Lane.find.Goals as goal

pub returns-then-stands_in : goal.returns-then-stands_in
returns-then-stands_in c = λ few.
    let sections = c.args.self.now.sections.items in
    let i = c.loop-section.section-index in
    let same : c.as_slice-section-items.result.now ≡ sections = search rules in
    let section = slice_index_or c.as_slice-section-items.result.now i (record { owner = record { life = None; is_doubtful = false }; count = 0 }) in
    let (found, counted) = c.loop-section.invariant few in
    let next : suc i ≡ i + 1 = omega arith in
    let within : i < length sections = omega (arith, c.loop-section-test.true, c.as_slice-section-items.ensures.len) in
    let split : drop i sections ≡ section ∷ drop (i + 1) sections = drop-cons sections i (record { owner = record { life = None; is_doubtful = false }; count = 0 }) within
    ∙ (ap (λ (n : ℕ). get_or sections i (record { owner = record { life = None; is_doubtful = false }; count = 0 }) ∷ drop n sections) next
    ∙ ap (λ (l : List Section). get_or l i (record { owner = record { life = None; is_doubtful = false }; count = 0 }) ∷ drop (i + 1) sections) (sym same)) in
    is_here c.args.life c.args.number c.loop-section.left c.loop-section.put (drop i sections) (drop (i + 1) sections) section (owners_in c.args.self.now) split few found counted
    c.saturating_add.result c.saturating_sub.result (sym c.stands_in.ensures ∙ c.if-stands_in.true) c.saturating_sub.ensures c.saturating_add.ensures

pub loop-section-preserved : goal.loop-section-preserved
loop-section-preserved c = λ few.
    let sections = c.args.self.now.sections.items in
    let i = c.loop-section.section-index in
    let same : c.as_slice-section-items.result.now ≡ sections = search rules in
    let section = slice_index_or c.as_slice-section-items.result.now i (record { owner = record { life = None; is_doubtful = false }; count = 0 }) in
    let (found, counted) = c.loop-section.invariant few in
    let next : suc i ≡ i + 1 = omega arith in
    let within : i < length sections = omega (arith, c.loop-section-test.true, c.as_slice-section-items.ensures.len) in
    let split : drop i sections ≡ section ∷ drop (i + 1) sections = drop-cons sections i (record { owner = record { life = None; is_doubtful = false }; count = 0 }) within
    ∙ (ap (λ (n : ℕ). get_or sections i (record { owner = record { life = None; is_doubtful = false }; count = 0 }) ∷ drop n sections) next
    ∙ ap (λ (l : List Section). get_or l i (record { owner = record { life = None; is_doubtful = false }; count = 0 }) ∷ drop (i + 1) sections) (sym same)) in
    goes_past c.args.life c.args.number c.loop-section.left c.loop-section.put (drop i sections) (drop (i + 1) sections) section (owners_in c.args.self.now) split few found counted
    c.saturating_add-put.result c.left_behind-left.result (sym c.stands_in.ensures ∙ c.if-stands_in.false) c.left_behind-left.ensures c.saturating_add-put.ensures
