use Rattle.std.proofs.Common.{Bool, ◌≡◌, ◌+◌, length, take, drop, refl, sym, ◌∙◌, subst, arith}
use Rattle.std.proofs.lemmas.List.{nil_from_length}
use Rattle.amo_object.specs.declared.step.Step.TheVariants.{LoseAck}
use Rattle.amo_object.specs.Queue.{QueueState, after}
use Rattle.amo_resolve.specs.Telling.{Settles, part, known_of, state_of, state_before}
use Rattle.amo_resolve.specs.Weaving.{LeadsTo}
use Rattle.amo_resolve.proofs.Losing.{looking, looked_on, all_behind, settles_all, denied_settled, denied_already, is_no, losing_refused, losing_down}
use Rattle.amo_resolve.proofs.Runs.{lost_on, lost_then}
use Rattle.amo_resolve.proofs.tell.Told.lose_to.Goals as goal
use Rattle.amo_resolve.proofs.tell.Told.lose_to.Goals.{else-is_told_no-via-then-is_told_no+else-ne, else-is_told_no-via-else-is_told_no}

pub loop-self-init : goal.loop-self-init
loop-self-init c =
    let both = looking c.args.got.now c.args.self.now.queue c.part_end-end.result c.args.self.now.draft c.part_end-end.ensures.within.0 in
    record { first = refl; known = refl; lost = both.0; losing = both.1 }

pub loop-self-preserved : goal.loop-self-preserved
loop-self-preserved c =
    let i = c.loop-self.invariant in
    let e = c.in_ok-left.ensures in
    let both = looked_on c.args.got.now c.args.self.now.queue c.loop-self.self.queue c.look.new.self.queue c.part_end-end.result c.loop-self.left c.in_ok-left.left
    c.args.self.now.draft c.loop-self.self.draft c.look.new.self.draft c.part_end-end.ensures.within.1 i.first i.known e.fewer i.lost i.losing e.looked in
    record { first = e.same.0 ∙ i.first; known = e.same.1 ∙ i.known; lost = both.0; losing = both.1 }

pub returns-then-left-max-clause-refused : goal.returns-then-left-max-clause-refused
returns-then-left-max-clause-refused c = λ no mode leaves needed.
    let i = c.loop-self.invariant in
    let none : length c.loop-self.self.queue.others ≡ 0 = omega (arith, c.loop-self-test.false, c.len.ensures.length) in
    losing_refused c.args.got.now (take c.args.count (drop c.args.self.now.queue.first c.args.got.now)) c.args.self.now.queue c.loop-self.self.queue c.part_end-end.result c.loop-self.left
    (length (known_of c.args.got.now c.args.self.now.queue) + length c.loop-self.self.queue.others) mode
    c.part_end-end.ensures.within.1 c.requires.within i.losing i.first i.known (nil_from_length c.loop-self.self.queue.others none) (omega (arith, none))
    (λ same. c.if-left-max.true (omega (arith, same, c.max.ensures, i.known, i.losing.from))) c.part_end-end.ensures.whole leaves needed

pub returns-in_ok-add_loss-clause-lost : goal.returns-in_ok-add_loss-clause-lost
returns-in_ok-add_loss-clause-lost c = λ yes.
    let i = c.loop-self.invariant in
    let got = c.args.got.now in
    let old = c.args.self.now.queue in
    let r = c.loop-self.self.queue in
    let end = c.part_end-end.result in
    let left = c.loop-self.left in
    let none = nil_from_length r.others (omega (arith, c.loop-self-test.false, c.len.ensures.length)) in
    let same = all_behind got r left end none (omega (arith, i.first, i.losing.from)) i.losing.most (omega (arith, c.if-left-max.false, c.max.ensures, i.first, i.known, i.losing.from)) in
    let here : QueueState = state_of got (record r { known = end }) in
    lost_then c.args.self.now.draft c.loop-self.self.draft c.add_loss.new.self (state_of got old) here (after here LoseAck)
    (λ calls leads. subst (λ (x : QueueState). LeadsTo c.loop-self.self.draft calls x) same (i.lost calls leads))
    (lost_on c.loop-self.self.draft c.add_loss.new.self here (after here LoseAck) LoseAck refl
    (record { allowed = losing_down (state_of got old) (state_before got r (part got left end)) got old.first end left _ i.losing c.requires.down; reached = refl; told = record { marks = c.in_ok-add_loss.ensures.marks; since = c.in_ok-add_loss.ensures.since } }))

pub returns-else-is_told_no-clause-lost : goal.returns-else-is_told_no-clause-lost
returns-else-is_told_no-clause-lost c = λ yes calls leads.
    let i = c.loop-self.invariant in
    let r = c.loop-self.self.queue in
    let none = nil_from_length r.others (omega (arith, c.loop-self-test.false, c.len.ensures.length)) in
    subst (λ (x : QueueState). LeadsTo c.loop-self.self.draft calls x)
    (all_behind c.args.got.now r c.loop-self.left c.part_end-end.result none (omega (arith, i.first, i.losing.from)) i.losing.most
    (omega (arith, c.if-left-max.false, c.max.ensures, i.first, i.known, i.losing.from))) (i.lost calls leads)

pub returns-in_ok-add_loss-clause-settled : goal.returns-in_ok-add_loss-clause-settled
returns-in_ok-add_loss-clause-settled c = λ yes.
    let i = c.loop-self.invariant in
    let got = c.args.got.now in
    let old = c.args.self.now.queue in
    let r = c.loop-self.self.queue in
    let end = c.part_end-end.result in
    let wanted = take c.args.count (drop old.first got) in
    let none = nil_from_length r.others (omega (arith, c.loop-self-test.false, c.len.ensures.length)) in
    let here : QueueState = state_of got (record r { known = end }) in
    let s = settles_all got wanted old r end c.loop-self.left _ i.losing i.first none (omega (arith, c.if-left-max.false, c.max.ensures, i.first, i.known, i.losing.from)) c.part_end-end.ensures.whole in
    subst (λ (told : Bool). Settles (state_of got old) (after here LoseAck) wanted told) (sym c.if-is_told_no.true) (denied_settled (state_of got old) here (after here LoseAck) wanted s refl)

pub returns-else-is_told_no-clause-settled : goal.returns-else-is_told_no-clause-settled
returns-else-is_told_no-clause-settled c = λ yes.
    let i = c.loop-self.invariant in
    let got = c.args.got.now in
    let old = c.args.self.now.queue in
    let r = c.loop-self.self.queue in
    let end = c.part_end-end.result in
    let wanted = take c.args.count (drop old.first got) in
    let none = nil_from_length r.others (omega (arith, c.loop-self-test.false, c.len.ensures.length)) in
    let s = settles_all got wanted old r end c.loop-self.left _ i.losing i.first none (omega (arith, c.if-left-max.false, c.max.ensures, i.first, i.known, i.losing.from)) c.part_end-end.ensures.whole in
    let here : QueueState = state_of got (record r { known = end }) in
    elim c.else-is_told_no.branch [
      | else-is_told_no-via-then-is_told_no+else-ne w ↦
          subst (λ (told : Bool). Settles (state_of got old) here wanted told) (sym w.if-is_told_no.true) (denied_already (state_of got old) here wanted s (is_no r.status w.ne.result w.ne.ensures w.if-ne.false))
      | else-is_told_no-via-else-is_told_no w ↦
          subst (λ (told : Bool). Settles (state_of got old) here wanted told) (sym w.if-is_told_no.false) s
    ]
