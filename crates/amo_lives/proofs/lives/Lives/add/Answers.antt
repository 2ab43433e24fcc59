use Rattle.std.proofs.Common.{◌≡◌, List, ◌∷◌, ◌++◌, [], ap, subst, sym, ◌∙◌}
use Rattle.amo_lives.specs.declared.life.Life.{Life}
use Rattle.amo_lives.specs.Kept.{IsKept}
use Rattle.amo_lives.specs.Lives.{LivesState}
use Rattle.amo_lives.proofs.Keeping.{keeps}
use Rattle.amo_lives.proofs.lives.Lives.add.Goals as goal

pub invariant_of-self-2 : goal.invariant_of-self-2
invariant_of-self-2 c =
    let life = c.args.life.now in let inside = c.self.inside in
    let lives : inside.lives.items ≡ c.args.self.now.lives = ap (λ (s : LivesState). s.lives) c.self.view_is in
    let follows = rw (← lives) at c.requires.follows in
    let grown : c.push_within.new.lives.items ≡ inside.lives.items ++ life ∷ [] = c.push_within.ensures ∙ ap (λ (ls : List Life). ls ++ life ∷ []) c.reserve.ensures.items in
    subst (λ (ls : List Life). IsKept inside.key ls c.insert.new.self.keys life.first_line) (sym grown)
    (keeps inside.key inside.lives.items inside.tags.keys c.insert.new.self.keys inside.reach life c.self.invariant c.requires.known follows c.in_ok-insert.ensures.updates.0)
