use Rattle.std.proofs.Common.{◌≡◌, ◌≤◌, ◌∙◌, ◌+◌, ◌++◌, ◌∷◌, [], ap, rules, arith, if◌then◌else◌, length}
use Rattle.amo_live.specs.Unanswered.{Kept, is_put, kept_of, others}
use Rattle.amo_live.proofs.Keeping.{one_kept, others_few, others_more}
use Rattle.amo_live.proofs.stream_lines.StreamLines.keep.Goals as goal

pub invariant_of-self-2 : goal.invariant_of-self-2
invariant_of-self-2 c =
    let lines = c.self.inside.written.items in
    let line : Kept = record { kind = c.args.kind; text = c.in_ok-text.text.items } in
    let more : c.push_back.new.self.items ≡ lines ++ line ∷ [] = c.in_ok-push_back.ensures.items in
    let tells : others c.push_back.new.self.items ≡ others lines + (if is_put line then 0 else 1) = ap others more ∙ others_more lines line in
    let one : c.from-more.result ≡ (if is_put line then 0 else 1) = search rules in
    let fits : length c.push_back.new.self.items ≤ 18446744073709551615 = search rules in
    let sum : c.saturating_add-self-inside.result ≡ others c.push_back.new.self.items = omega (arith, c.saturating_add-self-inside.ensures, c.self.invariant.0, one, tells, others_few c.push_back.new.self.items, fits) in
    (sum, omega (arith, sum, c.self.invariant.0, c.self.invariant.1, tells))

pub returns : goal.returns
returns c =
    let lines = c.self.inside.written.items in
    let line : Kept = record { kind = c.args.kind; text = c.in_ok-text.text.items } in
    let few : c.self.inside.left_out ≤ others lines = omega (arith, c.self.invariant.0, c.self.invariant.1) in
    ap (kept_of c.self.inside.left_out) c.in_ok-push_back.ensures.items ∙ (one_kept c.self.inside.left_out lines line few ∙ (ap (λ l. l ++ line ∷ []) c.self.view_is ∙ ap (λ t. c.args.self.now ++ record { kind = c.args.kind; text = t } ∷ []) c.in_ok-text.ensures))
