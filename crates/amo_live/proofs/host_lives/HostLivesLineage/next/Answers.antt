use Rattle.std.proofs.Common.{◌≡◌, Some, IfSome, rules, subst}
use Rattle.amo_live.specs.HostLives.{HostLivesState, IsDrawn}
use Rattle.amo_live.specs.Words.{IsNew, StaysDrawn}
use Rattle.amo_live.proofs.OwnWords.{next_may_be_new, next_may_stay}
use Rattle.amo_live.proofs.host_lives.HostLivesLineage.next.Goals as goal

pub returns-clause-new : goal.returns-clause-new
returns-clause-new g c =
    let p = c.in_ok-as_mut.field-0.now in let q = c.next_nonzero.new.words in let lives = c.self.inside.lives in
    let is : c.self.inside.words ≡ Some p = search rules in
    subst (λ (h : HostLivesState g.row.S.Denot). IfSome c.next_nonzero.result (IsNew (IsDrawn h.lives h.words) (IsDrawn lives (Some q)))) c.self.view_is
    (next_may_be_new lives c.self.inside.words p q c.next_nonzero.result is c.self.invariant c.next_nonzero.ensures.drawn)

pub returns-clause-stays : goal.returns-clause-stays
returns-clause-stays g c =
    let p = c.in_ok-as_mut.field-0.now in let q = c.next_nonzero.new.words in let lives = c.self.inside.lives in
    let is : c.self.inside.words ≡ Some p = search rules in
    subst (λ (h : HostLivesState g.row.S.Denot). StaysDrawn (IsDrawn h.lives h.words) (IsDrawn lives (Some q))) c.self.view_is
    (next_may_stay lives c.self.inside.words p q is c.next_nonzero.ensures.behind)
