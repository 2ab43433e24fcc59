use Rattle.std.proofs.Common.{◌≡◌, ℕ, ◌<◌, ◌+◌, ◌∷◌, ◌++◌, [], take, drop, length, ap, refl, sym, ◌∙◌, arith}
use Rattle.std.proofs.lemmas.List.{length-take-le, take_more}
use Rattle.amo_lives.specs.declared.life.Life.{Life}
use Rattle.amo_lives.specs.Lives.{LivesState, reach}
use Rattle.amo_lives.proofs.Keeping.{parted, reach-append, within_reach}
use Rattle.amo_lives.proofs.lives.Lives.check_journal.Goals as goal

pub returns-then-first_line-lines-clause-ok : goal.returns-then-first_line-lines-clause-ok
returns-then-first_line-lines-clause-ok c =
    let inside = c.self.inside in
    let lives : inside.lives.items ≡ c.args.self.now.lives = ap (λ (s : LivesState). s.lives) c.self.view_is in
    let within : c.loop-place.place < length inside.lives.items = omega (arith, c.len-place-end.ensures) in
    let reached = within_reach inside.lives.items c.loop-place.place c.index.result.now within c.index.ensures in
    let same = ap reach lives in
    ((λ e. cc), λ within. absurd (omega (arith, reached, same, c.if-first_line-lines.true)))

pub returns-then-first_line-lines-clause-beyond : goal.returns-then-first_line-lines-clause-beyond
returns-then-first_line-lines-clause-beyond c =
    let inside = c.self.inside in let place = c.loop-place.place in
    let lives : inside.lives.items ≡ c.args.self.now.lives = ap (λ (s : LivesState). s.lives) c.self.view_is in
    let here : place < length inside.lives.items = omega (arith, c.len-place-end.ensures) in
    let whole = parted inside.lives.items place c.index.result.now here c.index.ensures in
    let long : length (take place inside.lives.items) ≡ place = length-take-le place inside.lives.items (omega arith) in record {
      before = take place inside.lives.items;
      life = c.index.result.now;
      after = drop (place + 1) inside.lives.items;
      parts = sym lives ∙ whole;
      within = c.loop-place.invariant;
      past = c.if-first_line-lines.true;
      line = c.line_of.ensures ∙ ap (λ (n : ℕ). n + 2) (sym long);
      first_line = refl;
    }

pub loop-place-preserved : goal.loop-place-preserved
loop-place-preserved c =
    let items = c.self.inside.lives.items in let place = c.loop-place.place in let life = c.index.result.now in
    let here : place < length items = omega (arith, c.len-place-end.ensures) in
    let more : take (place + 1) items ≡ take place items ++ life ∷ [] = take_more items place life here ∙ ap (λ (l : Life). take place items ++ l ∷ []) (sym c.index.ensures) in
    let whole = ap reach more ∙ reach-append (take place items) (life ∷ []) in
    omega (arith, whole, c.loop-place.invariant, c.if-first_line-lines.false)
