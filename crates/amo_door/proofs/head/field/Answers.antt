use Rattle.std.proofs.Common.{◌≡◌, ◌<◌, ◌+◌, ℕ, suc, Bool, false, cond, Some, List, drop, get_or, length, map, ◌∙◌, ap, sym, subst, add-one}
use Rattle.std.proofs.Math.Seq.{drop-cons}
use Rattle.std.specs.Str.{str_eq_ignore_ascii_case}
use Rattle.httparse.specs.Spans.{header_bytes, span_bytes}
use Rattle.httparse.specs.declared.spans.HeaderSpan.{HeaderSpan}
use Rattle.amo_door.specs.Head.{field_of}
use Rattle.amo_door.proofs.head.field.Goals as goal

-- a field of another name is passed over
passed : (name input : List ℕ) (fields : List HeaderSpan) (i : ℕ) (none : HeaderSpan) → i < length fields → str_eq_ignore_ascii_case (span_bytes input (get_or fields i none).name) name ≡ false
    → field_of name (map (header_bytes input) (drop i fields)) ≡ field_of name (map (header_bytes input) (drop (i + 1) fields))
passed name input fields i none within other =
    let rest = field_of name (map (header_bytes input) (drop (suc i) fields)) in
    ap (λ (l : List HeaderSpan). field_of name (map (header_bytes input) l)) (drop-cons fields i none within)
    ∙ (ap (λ (b : Bool). cond b (Some (span_bytes input (get_or fields i none).value)) rest) other ∙ ap (λ (n : ℕ). field_of name (map (header_bytes input) (drop n fields))) (sym (add-one i)))

pub loop-field-preserved : goal.loop-field-preserved
loop-field-preserved c =
    let name = c.args.name.now in
    let other = subst (λ (text : List ℕ). str_eq_ignore_ascii_case text name ≡ false) c.of.ensures (sym c.is_same_name.ensures ∙ c.if-is_same_name.false) in
    c.loop-field.invariant ∙ passed name c.args.input.now c.args.fields.now c.loop-field.field-index _ c.loop-field-test.true other
