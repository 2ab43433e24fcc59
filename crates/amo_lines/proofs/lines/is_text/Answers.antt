use Rattle.std.proofs.Common.{◌≡◌, List, ℕ, Bool, true, false, not, ◌&&◌, refl, sym, ap, ◌∙◌}
use Rattle.std.specs.List.{list_any}
use Rattle.std.specs.Str.{IsUtf8, chars, is_utf8}
use Rattle.std.proofs.lemmas.Str.{IsUtf8-from_is_utf8, is_utf8-from_IsUtf8}
use Rattle.amo_lines.specs.Spelt.{is_hidden}
use Rattle.amo_lines.proofs.lines.is_text.Goals as goal

no_utf8 : (bytes : List ℕ) (test : Bool) → is_utf8 bytes ≡ test → ¬ (IsUtf8 bytes) → is_utf8 bytes ≡ false
no_utf8 bytes true is refuted = absurd (refuted (IsUtf8-from_is_utf8 bytes is))
no_utf8 bytes false is refuted = is

pub returns-in-Ok : goal.returns-in-Ok
returns-in-Ok c =
    let bytes = c.args.bytes.now in let hides = is_hidden c.args.json in
    let shown : c.has_hidden.result ≡ list_any hides (chars bytes) = c.has_hidden.ensures ∙ ap (λ (text : List ℕ). list_any hides (chars text)) c.in-Ok.ensures.cases.0 in
    ap not shown ∙ sym (ap (λ (test : Bool). test && not (list_any hides (chars bytes))) (is_utf8-from_IsUtf8 bytes c.in-Ok.ensures.cases.1))

pub returns-in-Err : goal.returns-in-Err
returns-in-Err c =
    let bytes = c.args.bytes.now in
    sym (ap (λ (test : Bool). test && not (list_any (is_hidden c.args.json) (chars bytes))) (no_utf8 bytes (is_utf8 bytes) refl c.in-Err.ensures.cases.0))
