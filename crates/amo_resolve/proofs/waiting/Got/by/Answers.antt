use Rattle.std.proofs.Common.{◌≡◌, ◌<◌, ℕ, List, Bor, Some, None, [], ◌∷◌, ◌++◌, length, map, sym, ◌∙◌, ap, arith, rules}
use Rattle.std.proofs.lemmas.List.{append-nil, map_push}
use Rattle.amo_resolve.proofs.Lists.{got_pushed}
use Rattle.amo_resolve.proofs.waiting.Got.by.Goals as goal
use Rattle.amo_resolve.proofs.waiting.Got.by.Goals.{in-Some+in_ok-push-in-Some, in-None}

pub loop-call-preserved : goal.loop-call-preserved
loop-call-preserved c =
    let within : c.loop-call.call-index < length c.args.calls.now = omega arith in
    elim c.match-got_by.branch [
      | in-Some+in_ok-push-in-Some w ↦ (
          let items : c.match-got_by.messages.items ≡ c.loop-call.messages.items ++ w.in-Some.message ∷ [] = search rules in
          ap (λ (ms : List (Bor (List ℕ))). map (λ (m : Bor (List ℕ)). m.now) ms) items
          ∙ map_push (λ (m : Bor (List ℕ)). m.now) c.loop-call.messages.items w.in-Some.message
          ∙ got_pushed c.args.calls.now c.loop-call.call-index c.call-item.result (Some w.in-Some.message.now) _ within c.call-item.is (sym w.in-Some.ensures) c.loop-call.invariant)
      | in-None w ↦ (
          let items : c.match-got_by.messages.items ≡ c.loop-call.messages.items = search rules in
          ap (λ (ms : List (Bor (List ℕ))). map (λ (m : Bor (List ℕ)). m.now) ms) items
          ∙ sym (append-nil (map (λ (m : Bor (List ℕ)). m.now) c.loop-call.messages.items))
          ∙ got_pushed c.args.calls.now c.loop-call.call-index c.call-item.result None _ within c.call-item.is (sym w.in-None.ensures) c.loop-call.invariant)
    ]
