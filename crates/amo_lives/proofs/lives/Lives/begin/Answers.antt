use Rattle.std.proofs.Common.{◌≡◌, ℕ, List, ap, subst, ◌∙◌}
use Rattle.std.specs.List.{AllByRecursion}
use Rattle.amo_word.specs.Distinct.{distinct_word}
use Rattle.amo_lives.specs.Life.{InRange}
use Rattle.amo_lives.specs.Lives.{LivesState}
use Rattle.amo_lives.proofs.Apart.{distinct, all_apart}
use Rattle.amo_lives.proofs.lives.Lives.begin.Goals as goal

pub returns-clause-distinct : goal.returns-clause-distinct
returns-clause-distinct g c = distinct c.self.inside.key c.args.life.tag _ c.has_line.ensures.tag c.new-words.ensures

pub returns-clause-apart : goal.returns-clause-apart
returns-clause-apart g c =
    let lives : c.self.inside.lives.items ≡ c.args.self.now.lives = ap (λ (s : LivesState). s.lives) c.self.view_is in
    let key : c.self.inside.key ≡ c.args.self.now.key = ap (λ (s : LivesState). s.key) c.self.view_is in
    let known = subst (AllByRecursion InRange) lives c.self.invariant.lives_are.in_range in
    all_apart c.args.self.now.key c.args.life.tag _ c.has_line.ensures.tag (λ k. c.new-words.ensures k ∙ ap (λ (key : List ℕ). distinct_word key c.args.life.tag k) key) c.args.self.now.lives known c.requires.tag
