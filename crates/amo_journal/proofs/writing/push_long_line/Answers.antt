use Rattle.std.proofs.Common.{ℕ, List, [], ◌∷◌, ◌++◌, ◌∙◌, sym, ap}
use Rattle.amo_journal.specs.declared.numbered.Numbered.{Numbered}
use Rattle.amo_journal.proofs.Fields.{pushed_line, text_of_line}
use Rattle.amo_journal.proofs.writing.push_long_line.Goals as goal

pub returns : goal.returns
returns c =
    let line : Numbered = record { number = c.args.number; event = c.args.event.now } in
    pushed_line c.args.text.now.items _ _ _ _ _ _ _ _ _ _ _ _ _ _ _ _ _ _
    c.in_ok-push_decimal.ensures.ok c.in_ok-push.ensures.items c.in_ok-push_decimal-2.ensures.ok c.in_ok-push-2.ensures.items c.in_ok-push_side.ensures c.in_ok-push-3.ensures.items
    c.in_ok-push_decimal-3.ensures.ok c.in_ok-push-4.ensures.items c.in_ok-push_act.ensures c.in_ok-push-5.ensures.items c.in_ok-push_reply.ensures.ok c.in_ok-push-6.ensures.items
    ∙ ap (λ (t : List ℕ). c.args.text.now.items ++ (t ++ 10 ∷ [])) (sym (text_of_line line))
