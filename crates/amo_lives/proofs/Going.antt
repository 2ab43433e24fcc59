-- Lives go on, line by line.
use Rattle.std.proofs.Common.{◌≡◌, ℕ, List, [], ◌∷◌, ◌++◌, sym, ◌∙◌, ap, subst, append_assoc}
use Rattle.std.specs.List.{flat_map}
use Rattle.std.proofs.lemmas.List.{append-nil}
use Rattle.std.proofs.lemmas.Grind.{flat_map-append}
use Rattle.amo_lives.specs.declared.life.Life.{Life}
use Rattle.amo_lives.specs.Kept.{GoesOn, TakesLine}
use Rattle.amo_lives.specs.Life.{InRange, line_text}
use Rattle.amo_lives.specs.Lives.{LivesState, MayFollow}
use Rattle.amo_lives.proofs.Files.{all_join, follow_join, line_here, same_lives}

-- one line more
pub line_more : (old mid new : LivesState) (body rest text more : List ℕ) → GoesOn old mid body rest → rest ≡ text ++ 10 ∷ more → TakesLine mid new text → GoesOn old new body more
line_more old mid new body rest text more on cut takes =
    let lives : mid.lives ≡ old.lives ++ on.more = ap (λ (s : LivesState). s.lives) on.grown in
    let side : mid.side ≡ old.side = ap (λ (s : LivesState). s.side) on.grown in
    let key : mid.key ≡ old.key = ap (λ (s : LivesState). s.key) on.grown in
    let longer : mid.lives ++ takes.life ∷ [] ≡ old.lives ++ (on.more ++ takes.life ∷ []) = ap (λ (ls : List Life). ls ++ takes.life ∷ []) lives ∙ append_assoc old.lives on.more (takes.life ∷ []) in
    let follows : MayFollow (old.lives ++ on.more) takes.life = subst (λ (ls : List Life). MayFollow ls takes.life) lives takes.follows in
    let lines : flat_map line_text (on.more ++ takes.life ∷ []) ≡ flat_map line_text on.more ++ line_text takes.life =
    flat_map-append line_text on.more (takes.life ∷ []) ∙ ap (λ (t : List ℕ). flat_map line_text on.more ++ t) (append-nil (line_text takes.life)) in
    record {
      more = on.more ++ takes.life ∷ [];
      grown = takes.grown ∙ same_lives mid.side old.side mid.key old.key _ _ side key longer;
      in_range = all_join InRange on.more (takes.life ∷ []) on.in_range (takes.known, tt);
      in_order = follow_join old.lives on.more (takes.life ∷ []) on.in_order (follows, tt);
      parts = on.parts ∙ ap (λ (t : List ℕ). flat_map line_text on.more ++ t) (cut ∙ line_here takes.life text more takes.text_is)
          ∙ sym (append_assoc (flat_map line_text on.more) (line_text takes.life) more) ∙ ap (λ (t : List ℕ). t ++ more) (sym lines);
    }
