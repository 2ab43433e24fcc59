use Rattle.std.proofs.Common.{◌≡◌, ap, subst, sym}
use Rattle.amo_object.specs.declared.status.Status.{Status}
use Rattle.amo_object.specs.declared.status.Status.TheVariants.{Yes}
use Rattle.amo_object.specs.Queue.{settled, without}
use Rattle.amo_resolve.specs.declared.replica.Replica.{Replica}
use Rattle.amo_resolve.specs.Telling.{state_of}
use Rattle.amo_resolve.proofs.Planning.{never}
use Rattle.amo_resolve.proofs.Replicas.{first_left, some_others}
use Rattle.amo_resolve.proofs.replica.Replica.leave.Goals as goal

pub pass-requires : goal.pass-requires
pass-requires c = some_others c.args.got.now c.args.self.now c.requires.some

pub returns-then-is_empty-clause-left : goal.returns-then-is_empty-clause-left
returns-then-is_empty-clause-left c =
    let got = c.args.got.now in
    let old = c.args.self.now in
    let passed = c.pass.new.self in
    let e = c.pass.ensures in
    let both = c.is_empty.ensures.0 c.if-is_empty.true in
    subst (λ (r : Replica). state_of got r ≡ without (state_of got old) 0 Yes) (sym c.settle.ensures)
    (first_left got old (record passed { status = settled passed.status Yes }) c.requires.within c.requires.some e.known e.next e.past e.others e.removed e.sides.0 e.sides.1
    (λ none empty. ap (λ (s : Status). settled s Yes) e.status) (λ not. absurd (not both.0 both.1)))

pub returns-else-is_empty-clause-left : goal.returns-else-is_empty-clause-left
returns-else-is_empty-clause-left c =
    let e = c.pass.ensures in
    first_left c.args.got.now c.args.self.now c.pass.new.self c.requires.within c.requires.some e.known e.next e.past e.others e.removed e.sides.0 e.sides.1
    (λ none empty. absurd (never c.is_empty.result c.if-is_empty.false (c.is_empty.ensures.1 (none, empty)))) (λ not. e.status)
