use Rattle.std.proofs.Common.{◌≡◌, ◌∙◌, ◌++◌, OnOk, ap, rules}
use Rattle.std.proofs.lemmas.Result.{on_ok_weaker}
use Rattle.amo_book.specs.Pass.{mine}
use Rattle.amo_live.specs.Unanswered.{text_of}
use Rattle.amo_live.proofs.OpenLines.{all_text}
use Rattle.amo_live.proofs.service.Service.unanswered_lines.Goals as goal

pub returns-clause-lines : goal.returns-clause-lines
returns-clause-lines g c =
    let h = c.args.self.now.host in
    let told : OnOk c.push_lines.result (c.push_lines.new.text.items ≡ c.args.text.now.items ++ text_of h.unanswered) = search rules in
    on_ok_weaker c.push_lines.result
    (λ is noted. is ∙ ap (λ l. c.args.text.now.items ++ l) (all_text h.side h.streams h.journal.first h.journal.standing (mine h.pass) h.unanswered noted.1)) told
