use Rattle.std.proofs.Common.{◌∙◌, ◌++◌, ℕ, Bool, List, ap, sym, subst}
use Rattle.std.specs.Prelude.{◌↔◌, IsTrue}
use Rattle.std.proofs.lemmas.List.{append-nil}
use Rattle.amo_text.proofs.Readings.{is_empty, not_empty}
use Rattle.amo_pieces.specs.Journal.{IsWhole}
use Rattle.amo_audit.specs.Parts.{HasCome, IsOpened, MayBeJudged}
use Rattle.amo_audit.proofs.Parts.{first_of, may_be, stays_stuck, waits, whole_come}
use Rattle.amo_audit.proofs.text_audit.TextAudit.push.Goals as goal

pub returns-then-is_empty : goal.returns-then-is_empty
returns-then-is_empty c = λ text come.
    let empty = is_empty c.args.bytes.now c.if-is_empty.ensures in
    subst (HasCome c.args.self.now) (sym (ap (λ (t : List ℕ). text ++ t) empty ∙ append-nil text)) come

pub returns-then-is_malformed : goal.returns-then-is_malformed
returns-then-is_malformed c = λ text come. record {
  opened = stays_stuck c.args.self.now.judged c.args.self.now.version c.args.self.now.rest.items text c.args.bytes.now (sym c.is_malformed.ensures ∙ c.if-is_malformed.true) come.opened;
  whole = whole_come c.is_whole-self.result text c.args.bytes.now (not_empty c.args.bytes.now c.if-is_empty.ensures) c.is_whole-self.ensures;
}

pub returns-in_ok-judge-in-Some : goal.returns-in_ok-judge-in-Some
returns-in_ok-judge-in-Some c = λ text come.
    let some = not_empty c.args.bytes.now c.if-is_empty.ensures in
    let good = sym c.is_malformed.ensures ∙ c.if-is_malformed.false in
    let first = first_of c.args.self.now.judged c.args.self.now.version c.args.self.now.rest.items text c.args.bytes.now _ _ come.opened c.in-Some.ensures.found.0 c.in-Some.ensures.found.1 in
    let may = may_be c.args.self.now.judged c.args.self.now.version c.args.self.now.rest.items text c.args.bytes.now good come.opened in record {
      opened = c.in_ok-judge-in-Some.ensures.judged (text ++ c.args.bytes.now) first
          (subst (λ (r : List ℕ). MayBeJudged c.args.self.now.judged c.args.self.now.version r (text ++ c.args.bytes.now)) (sym c.in_ok-extend_from_slice.ensures.items) may);
      whole = subst (λ (b : Bool). IsTrue b ↔ IsWhole (text ++ c.args.bytes.now)) (sym c.in_ok-judge-in-Some.ensures.same) (whole_come c.is_whole-self.result text c.args.bytes.now some c.is_whole-self.ensures);
    }

pub returns-in-None : goal.returns-in-None
returns-in-None c = λ text come.
    let some = not_empty c.args.bytes.now c.if-is_empty.ensures in
    let good = sym c.is_malformed.ensures ∙ c.if-is_malformed.false in record {
      opened = subst (λ (r : List ℕ). IsOpened c.args.self.now.judged c.args.self.now.version r (text ++ c.args.bytes.now)) (sym c.in_ok-extend_from_slice.ensures.items)
          (waits c.args.self.now.judged c.args.self.now.version c.args.self.now.rest.items text c.args.bytes.now good c.in-None.ensures.none come.opened);
      whole = whole_come c.is_whole-self.result text c.args.bytes.now some c.is_whole-self.ensures;
    }
