use Rattle.std.proofs.Common.{◌≡◌, ℕ, ◌-◌, Bool, false, ◌∷◌, ◌++◌, Err, None, drop, length, if◌then◌else◌, refl, sym, ap, ◌∙◌, subst, arith}
use Rattle.amo_lines.specs.Input.{InputState}
use Rattle.amo_lines.specs.Line.{id_by, read_of}
use Rattle.amo_lines.specs.declared.lines.LineFault.TheVariants.{TooLongLine}
use Rattle.amo_lines.proofs.Clients.{behind_taken, line_named, next_taken}
use Rattle.amo_lines.proofs.input.Input.next.Goals as goal

pub returns-clause-takes : goal.returns-clause-takes
returns-clause-takes c =
    let i = c.args.self.now in let inside = c.self.inside in let more = c.in-Some.rest.now in
    let here : i.rest ≡ c.in-Some.text.now ++ 10 ∷ more = sym c.rest.ensures ∙ c.in-Some.ensures.found.0 in
    let skips : inside.skips ≡ i.skips = ap (λ (s : InputState). s.skips) c.self.view_is in
    let line : read_of c.line_of-line.result ≡ (if i.skips then Err TooLongLine else c.in_ok-read_line.field-0.0) = subst (λ (b : Bool). read_of c.line_of-line.result ≡ (if b then Err TooLongLine else c.in_ok-read_line.field-0.0)) skips c.line_of-line.ensures.read in
    let count : c.saturating_sub-self-inside.result ≡ length inside.bytes.items - length more = omega (arith, inside.bytes.ok.0) in
    let bytes : drop inside.taken inside.bytes.items ≡ c.in-Some.text.now ++ 10 ∷ more = ap (λ (s : InputState). s.rest) c.self.view_is ∙ here in
    let behind : drop c.saturating_sub-self-inside.result inside.bytes.items ≡ more = ap (λ (k : ℕ). drop k inside.bytes.items) count ∙ behind_taken inside.bytes.items inside.taken c.in-Some.text.now more bytes in
    next_taken c.args.spelling i (record { rest = drop c.saturating_sub-self-inside.result inside.bytes.items; skips = false; taken = c.saturating_add-self-inside.result; is_open = inside.is_open })
    c.in-Some.text.now more c.in_ok-read_line.field-0.0 c.line_of-line.result here c.in-Some.ensures.found.1 c.in_ok-read_line.ensures.read line behind refl

pub returns-clause-named : goal.returns-clause-named
returns-clause-named c =
    let i = c.args.self.now in let inside = c.self.inside in
    let here : i.rest ≡ c.in-Some.text.now ++ 10 ∷ c.in-Some.rest.now = sym c.rest.ensures ∙ c.in-Some.ensures.found.0 in
    let skips : inside.skips ≡ i.skips = ap (λ (s : InputState). s.skips) c.self.view_is in
    let line : read_of c.line_of-line.result ≡ (if i.skips then Err TooLongLine else c.in_ok-read_line.field-0.0) = subst (λ (b : Bool). read_of c.line_of-line.result ≡ (if b then Err TooLongLine else c.in_ok-read_line.field-0.0)) skips c.line_of-line.ensures.read in
    let id : id_by c.line_of-line.result ≡ (if i.skips then None else c.in_ok-read_line.field-0.1) = subst (λ (b : Bool). id_by c.line_of-line.result ≡ (if b then None else c.in_ok-read_line.field-0.1)) skips c.line_of-line.ensures.id in
    line_named c.args.spelling i c.in-Some.text.now c.in-Some.rest.now c.in_ok-read_line.field-0.0 c.in_ok-read_line.field-0.1 c.line_of-line.result here c.in-Some.ensures.found.1 c.in_ok-read_line.ensures.id line id
