use Rattle.std.proofs.Common.{◌≡◌, ◌+◌, ◌-◌, List, ℕ, [], length, refl, sym, ◌∙◌, ap, subst, arith}
use Rattle.amo_object.specs.declared.status.Status.TheVariants.{No}
use Rattle.amo_object.specs.Queue.{settled}
use Rattle.amo_resolve.specs.declared.replica.Replica.{Replica}
use Rattle.amo_resolve.specs.Telling.{Looked, part, known_of, state_before}
use Rattle.amo_resolve.proofs.Lists.{any_default}
use Rattle.amo_resolve.proofs.Planning.{never}
use Rattle.amo_resolve.proofs.Replicas.{looked_stays, looked_lost}
use Rattle.amo_resolve.proofs.tell.Told.look.Goals as goal

pub returns-then-stays-clause-looked : goal.returns-then-stays-clause-looked
returns-then-stays-clause-looked c =
    let old = c.args.self.now.queue in
    let place = c.len-place.result - 1 in
    let count : length old.others ≡ place + 1 = omega (arith, c.len-place.ensures.length, c.requires.some) in
    let both = c.ends_with-stays.ensures.0 c.if-stays.true in
    looked_stays c.args.got.now old (record old { others = c.remove.new.self }) c.args.left (c.args.left - 1) c.args.end place c.args.self.now.draft count
    c.requires.within.3 c.requires.within.2 both.0 refl
    (both.1 ∙ c.at.ensures ∙ any_default old.others place c.at.result.now [] (omega (arith, count)))
    (ap (λ (xs : List (List ℕ)). record old { others = xs }) c.remove.ensures)

pub returns-then-left-end-clause-looked : goal.returns-then-left-end-clause-looked
returns-then-left-end-clause-looked c =
    let got = c.args.got.now in
    let old = c.args.self.now.queue in
    let left = c.args.left in
    let end = c.args.end in
    let place = c.len-place.result - 1 in
    let count : length old.others ≡ place + 1 = omega (arith, c.len-place.ensures.length, c.requires.some) in
    subst (λ (r : Replica). Looked got old.first left left (length (known_of got old) + length r.others) c.args.self.now.draft (state_before got old (part got left end)) c.add_loss.new.self
    (state_before got r (part got left end))) (sym c.settle.ensures)
    (looked_lost got old (record old { others = c.remove.new.self; status = settled old.status No }) left left end place c.between-before.result c.args.self.now.draft c.add_loss.new.self count
    c.requires.within.0 c.requires.within.3 c.requires.within.1 c.requires.within.2 refl
    (λ some equal. never c.ends_with-stays.result c.if-stays.false
    (c.ends_with-stays.ensures.1 (some, equal ∙ any_default old.others place [] c.at.result.now (omega (arith, count)) ∙ sym c.at.ensures)))
    c.requires.down c.between-before.ensures.length (record { marks = c.in_ok-add_loss.ensures.marks; since = c.in_ok-add_loss.ensures.since }) refl refl c.remove.ensures refl refl
    (λ same. refl) (λ apart. absurd (apart c.if-left-end.true)))

pub returns-else-left-end-clause-looked : goal.returns-else-left-end-clause-looked
returns-else-left-end-clause-looked c =
    let got = c.args.got.now in
    let old = c.args.self.now.queue in
    let left = c.args.left in
    let end = c.args.end in
    let place = c.len-place.result - 1 in
    let count : length old.others ≡ place + 1 = omega (arith, c.len-place.ensures.length, c.requires.some) in
    looked_lost got old (record old { others = c.remove.new.self }) left left end place c.between-before.result c.args.self.now.draft c.add_loss.new.self count
    c.requires.within.0 c.requires.within.3 c.requires.within.1 c.requires.within.2 refl
    (λ some equal. never c.ends_with-stays.result c.if-stays.false
    (c.ends_with-stays.ensures.1 (some, equal ∙ any_default old.others place [] c.at.result.now (omega (arith, count)) ∙ sym c.at.ensures)))
    c.requires.down c.between-before.ensures.length (record { marks = c.in_ok-add_loss.ensures.marks; since = c.in_ok-add_loss.ensures.since }) refl refl c.remove.ensures refl refl
    (λ same. absurd (c.if-left-end.false same)) (λ apart. refl)
