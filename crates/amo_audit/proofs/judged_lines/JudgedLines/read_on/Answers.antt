use Rattle.std.proofs.Common.{◌∙◌, ◌+◌, ◌<◌, ◌^◌, ◌++◌, Bool, List, ℕ, [], arith, refl, subst, sym, append_assoc, ap}
use Rattle.amo_text.specs.Line.{Lacks}
use Rattle.amo_text.proofs.Readings.{is_empty}
use Rattle.amo_journal.specs.Journal.{line_text}
use Rattle.amo_audit.specs.Parts.{IsJudgedTo}
use Rattle.amo_audit.proofs.Parts.{one_judged, stops}
use Rattle.amo_audit.proofs.judged_lines.JudgedLines.read_on.Goals as goal

pub loop-alloc-init : goal.loop-alloc-init
loop-alloc-init c = record { version = refl; good = c.requires; front = ([], refl); judged = λ body has. has }

pub loop-alloc-preserved : goal.loop-alloc-preserved
loop-alloc-preserved c =
    let so_far = c.loop-alloc.invariant in
    let here = rw c.in-Some.is at c.in_ok-line.ensures.some in
    let (front, is) = so_far.front in
    let few : c.loop-alloc.self.lines + 3 < 2 ^ 64 = omega (arith, c.if-self-ge-MOST.false) in record {
      version = here.2 ∙ so_far.version;
      good = c.in_ok-take.ensures.well ∙ so_far.good;
      front = (front ++ line_text c.in-Some.line, is ∙ ap (λ (t : List ℕ). front ++ t) here.1 ∙ sym (append_assoc front (line_text c.in-Some.line) c.in-Some.more.text.now));
      judged = λ body has.
          one_judged c.loop-alloc.self c.args.lines.version body c.loop-alloc.rest.text.now (so_far.judged body has) c.take.new.self c.in-Some.line c.in-Some.more.text.now
          (rw so_far.version at here.0) here.1 c.in_ok-take.ensures.counted few c.in_ok-take.ensures.gathers;
    }

pub returns-in_default-clause-judged : goal.returns-in_default-clause-judged
returns-in_default-clause-judged c = λ body has.
    let so_far = c.loop-alloc.invariant in
    let none = rw so_far.version at (rw c.in_default.is at c.in_ok-line.ensures.none) in
    stops c.loop-alloc.self c.args.lines.version body c.loop-alloc.rest.text.now (so_far.judged body has) _ c.has_end-self.result none c.has_end-self.ensures.some c.has_end-self.ensures.none refl refl refl

pub returns-clause-judged : goal.returns-clause-judged
returns-clause-judged c = λ body has.
    let so_far = c.loop-alloc.invariant in
    let lacks = subst (Lacks 10) (sym (is_empty c.loop-alloc.rest.text.now c.loop-alloc-test.ensures)) tt in
    subst (λ (b : Bool). IsJudgedTo c.loop-alloc.self b c.args.lines.version body c.loop-alloc.rest.text.now) (sym so_far.good) (so_far.judged body has, lacks)
