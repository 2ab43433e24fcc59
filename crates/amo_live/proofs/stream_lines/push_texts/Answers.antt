use Rattle.std.proofs.Common.{◌≡◌, ◌∙◌, ◌+◌, ◌++◌, ◌∷◌, [], ap, take, rules, arith, false, true}
use Rattle.std.proofs.lemmas.List.{take_more}
use Rattle.amo_live.specs.Unanswered.{is_put}
use Rattle.amo_live.proofs.Keeping.{appends_later, appends_put, leaves_out}
use Rattle.amo_live.proofs.stream_lines.push_texts.Goals as goal
use Rattle.amo_live.proofs.stream_lines.push_texts.Goals.{then-left-gt0+then-not-is_put, else-left-gt0+in_ok-extend_from_slice, else-left-gt0-via-then-left-gt0+else-not-is_put, else-left-gt0-via-else-left-gt0}

pub lines-preserved : goal.lines-preserved
lines-preserved c =
    let so_far = c.lines.invariant in
    let lines = c.args.lines.now in
    let index = c.lines.line-index in
    let line = c.line-item.result in
    let first = c.args.text.now.items in
    let before = c.lines.text.items in
    let longer : take (index + 1) lines ≡ take index lines ++ line ∷ [] = search (rules, take_more) in
    elim c.if-left-gt0.branch [
      | then-left-gt0+then-not-is_put w ↦
          let other : is_put line ≡ false = search rules in
          let kept = leaves_out c.args.left_out c.lines.left (take index lines) (take (index + 1) lines) line first before longer so_far.text so_far.left c.if-left-gt0.left other w.if-left-gt0.true w.left-is in
          record { text = ap (λ t. t.items) w.text-is ∙ kept.0; left = kept.1 }
      | else-left-gt0+in_ok-extend_from_slice w ↦
          let more : c.if-left-gt0.text.items ≡ before ++ line.text = search rules in
          elim w.else-left-gt0.branch [
            | else-left-gt0-via-then-left-gt0+else-not-is_put v ↦
                let put : is_put line ≡ true = search rules in
                let kept = appends_put c.args.left_out c.lines.left (take index lines) (take (index + 1) lines) line first before longer so_far.text so_far.left c.if-left-gt0.text.items put more in
                record { text = kept.0; left = w.left-is ∙ kept.1 }
            | else-left-gt0-via-else-left-gt0 v ↦
                let none : c.lines.left ≡ 0 = omega (arith, v.if-left-gt0.false) in
                let kept = appends_later c.args.left_out c.lines.left (take index lines) (take (index + 1) lines) line first before longer so_far.text so_far.left c.if-left-gt0.text.items none more in
                record { text = kept.0; left = w.left-is ∙ kept.1 }
          ]
    ]
