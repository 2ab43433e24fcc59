use Rattle.std.proofs.Common.{subst, arith}
use Rattle.std.proofs.lemmas.List.{take_rest}
use Rattle.amo_journal.specs.Version.{Opens}
use Rattle.amo_pieces.proofs.Openings.{joins_other, joins_next, versions_same, versions_apart}
use Rattle.amo_pieces.proofs.joining.join.Goals as goal

pub returns-then-ne : goal.returns-then-ne
returns-then-ne c =
    let all = c.args.text.now.items in
    let some = c.if-before-len.false in
    let first = rw c.as_slice.ensures.value at c.open.ensures in
    let second = rw c.as_slice-2.ensures.value at c.open-2.ensures in
    joins_other all c.truncate.new.self.items c.args.before c.open.result.version c.open-2.result.version c.open.result.text.now c.open-2.result.text.now c.if-before-eq0.false (λ e. some (omega (arith, e, c.len.ensures))) c.requires.within c.requires.whole
    first (subst (λ t. Opens c.open-2.result.version c.open-2.result.text.now t) (take_rest all c.args.before) second) (versions_apart c.open-2.result.version c.open.result.version c.ne.result c.ne.ensures c.if-ne.true) c.truncate.ensures.items

pub returns : goal.returns
returns c =
    let all = c.args.text.now.items in
    let first = rw c.as_slice.ensures.value at c.open.ensures in
    let second = rw c.as_slice-2.ensures.value at c.open-2.ensures in
    joins_next all c.cut_out.new.text.items c.args.before c.lines_before.result c.open.result.version c.open-2.result.version c.open.result.text.now c.open-2.result.text.now c.if-before-eq0.false c.requires.within c.requires.whole
    first (subst (λ t. Opens c.open-2.result.version c.open-2.result.text.now t) (take_rest all c.args.before) second) (versions_same c.open-2.result.version c.open.result.version c.ne.result c.ne.ensures c.if-ne.false) (rw c.heading.ensures at c.cut_out.ensures) c.lines_before.ensures
