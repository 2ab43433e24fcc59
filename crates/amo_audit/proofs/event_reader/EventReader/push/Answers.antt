use Rattle.std.proofs.Common.{◌≡◌, ◌∙◌, ◌++◌, ℕ, Bool, List, None, Some, Option, drop, ap, sym, subst}
use Rattle.std.specs.Prelude.{◌↔◌, IsTrue}
use Rattle.amo_text.proofs.Readings.{not_empty}
use Rattle.amo_journal.specs.declared.version.Version.{Version}
use Rattle.amo_journal.specs.Version.{Opens}
use Rattle.amo_pieces.specs.Journal.{IsWhole}
use Rattle.amo_audit.specs.Reader.{IsReadTo}
use Rattle.amo_audit.proofs.Parts.{whole_come}
use Rattle.amo_audit.proofs.Reader.{heading_comes, more_comes, rest_kept}
use Rattle.amo_audit.proofs.event_reader.EventReader.push.Goals as goal

pub returns-else-has_end : goal.returns-else-has_end
returns-else-has_end c = λ text events has.
    let old = c.args.self.now in let bytes = c.args.bytes.now in let rest = drop old.read old.text.items in
    let kept : c.extend_from_slice.new.self.items ≡ rest ++ bytes =
    c.in_ok-extend_from_slice.ensures.items ∙ ap (λ (t : List ℕ). t ++ bytes) (c.keep_last.ensures ∙ rest_kept old.text.items c.rest-left.result.now old.read c.rest-left.ensures ∙ c.rest-left.ensures) in record {
      read = subst (λ (r : List ℕ). IsReadTo old.version r (text ++ bytes) events) (sym kept) (more_comes old.version rest text bytes events (λ _. c.has_end.ensures.none c.if-has_end.false) has.read);
      count = has.count;
      whole = whole_come c.is_whole-self.result text bytes (not_empty bytes c.if-is_empty.ensures) c.is_whole-self.ensures;
    }

pub returns-in-Some : goal.returns-in-Some
returns-in-Some c = λ text events has.
    let old = c.args.self.now in let bytes = c.args.bytes.now in let rest = drop old.read old.text.items in
    let kept : c.extend_from_slice.new.self.items ≡ rest ++ bytes =
    c.in_ok-extend_from_slice.ensures.items ∙ ap (λ (t : List ℕ). t ++ bytes) (c.keep_last.ensures ∙ rest_kept old.text.items c.rest-left.result.now old.read c.rest-left.ensures ∙ c.rest-left.ensures) in record {
      read = subst (λ (r : List ℕ). IsReadTo old.version r (text ++ bytes) events) (sym kept)
          (more_comes old.version rest text bytes events (λ none. let no : None ≡ Some c.in-Some.field-0 = sym none ∙ c.in-Some.is in absurd (differ _ no)) has.read);
      count = has.count;
      whole = whole_come c.is_whole-self.result text bytes (not_empty bytes c.if-is_empty.ensures) c.is_whole-self.ensures;
    }
  where
    differ : (v : Version) → None ≡ Some v → ⊥
    differ v e = cc

pub returns-in-None : goal.returns-in-None
returns-in-None c = λ text events has.
    let old = c.args.self.now in let bytes = c.args.bytes.now in let rest = drop old.read old.text.items in
    let kept : c.extend_from_slice.new.self.items ≡ rest ++ bytes =
    c.in_ok-extend_from_slice.ensures.items ∙ ap (λ (t : List ℕ). t ++ bytes) (c.keep_last.ensures ∙ rest_kept old.text.items c.rest-left.result.now old.read c.rest-left.ensures ∙ c.rest-left.ensures) in
    let (line, behind, cut, one) = c.has_end.ensures.some c.if-has_end.true in
    let heading = c.read_heading.ensures in
    let now = c.read_heading.new.self in
    let was = subst (λ (v : Option Version). IsReadTo v rest text events) c.in-None.is has.read in record {
      read = subst (λ (v : Option Version). IsReadTo v (drop now.read now.text.items) (text ++ bytes) events) (sym heading.is)
          (subst (λ (r : List ℕ). IsReadTo (Some heading.version) r (text ++ bytes) events) (sym heading.left)
          (heading_comes heading.version rest text bytes line behind heading.body events was cut one (subst (Opens heading.version heading.body) kept heading.opens)));
      count = heading.events ∙ has.count;
      whole = subst (λ (b : Bool). IsTrue b ↔ IsWhole (text ++ bytes)) (sym heading.whole) (whole_come c.is_whole-self.result text bytes (not_empty bytes c.if-is_empty.ensures) c.is_whole-self.ensures);
    }
