use Rattle.std.proofs.Common.{◌≡◌, ◌+◌, ◌-◌, ◌^◌, min, List, [], ◌∷◌, ◌++◌, refl, sym, ◌∙◌, ap, subst, rules}
use Rattle.std.proofs.lemmas.Result.{on_ok_weaker}
use Rattle.amo_archive.specs.declared.handshakes.Run.{Run}
use Rattle.amo_archive.specs.Handshakes.{Keeps, last_number}
use Rattle.amo_archive.proofs.Endings.{keeps_longer, keeps_more, last_more}
use Rattle.amo_archive.proofs.handshakes.Ended.end.Goals as goal

pub returns-then-run-was_got : goal.returns-then-run-was_got
returns-then-run-was_got c =
    let m = c.args.messages in let got = c.args.was_got in let front = c.pop.new.self.items in let run = c.in-Some.run' in
    let new : Run = record { last = c.saturating_add-last.result; was_got = got } in
    let popped : c.args.self.now.runs.items ≡ front ++ run ∷ [] = search rules in
    let same : run.was_got ≡ got = search rules in
    on_ok_weaker c.push-then-run-was_got.result
    (λ pushed past keeps. subst (λ (runs : List Run). Keeps runs ((m, got) ∷ past)) (sym pushed)
    (keeps_longer front run new past m got (subst (λ (runs : List Run). Keeps runs past) popped keeps) c.saturating_add-last.ensures same refl)) c.push-then-run-was_got.ensures

pub returns : goal.returns
returns c =
    let m = c.args.messages in let got = c.args.was_got in let front = c.pop.new.self.items in let run = c.in-Some.run' in
    let new : Run = record { last = c.saturating_add-last.result; was_got = got } in
    let runs = c.args.self.now.runs.items in
    let popped : runs ≡ front ++ run ∷ [] = search rules in
    let back : c.push-2.new.list.items ≡ runs = search rules in
    let last : run.last ≡ last_number runs = sym (ap last_number popped ∙ last_more front run) in
    let added : new.last ≡ min (last_number runs + m) (2 ^ 64 - 1) = c.saturating_add-last.ensures ∙ ap (λ n. min (n + m) (2 ^ 64 - 1)) last in
    on_ok_weaker c.push-3.result
    (λ pushed past keeps. subst (λ (rs : List Run). Keeps rs ((m, got) ∷ past)) (sym (pushed ∙ ap (λ (l : List Run). l ++ new ∷ []) back))
    (keeps_more runs new past m got keeps added refl)) c.push-3.ensures
