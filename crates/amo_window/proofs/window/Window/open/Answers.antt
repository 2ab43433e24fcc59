use Rattle.std.proofs.Common.{refl, sym, ◌∙◌, arith}
use Rattle.amo_window.proofs.Permits.{get_of, len_of, opened-updates, StayOut-updates}
use Rattle.amo_window.proofs.window.Window.open.Goals as goal

pub returns-then-len-self-clause-full : goal.returns-then-len-self-clause-full
returns-then-len-self-clause-full c =
    rw (← c.self.view_is) (λ _. len_of c.self.inside.permits ∙ sym c.len.ensures ∙ c.if-len-self.true, λ _. refl)

pub returns-clause-full : goal.returns-clause-full
returns-clause-full c =
    rw (← c.self.view_is) (
      λ none. absurd (cc),
      λ full. absurd (c.if-len-self.false (c.len.ensures ∙ sym (len_of c.self.inside.permits) ∙ full)),
    )

-- the key was vacant in the slab
pub returns-clause-fresh : goal.returns-clause-fresh
returns-clause-fresh c =
    rw (← c.self.view_is) (get_of c.self.inside.permits c.insert_reserved-key.result ∙ c.insert_reserved-key.ensures.was_vacant)

pub returns-clause-opened : goal.returns-clause-opened
returns-clause-opened c =
    rw (← c.self.view_is) (opened-updates c.self.inside.limit _ _ (record { key = c.insert_reserved-key.result; stream = c.args.stream }) c.insert_reserved-key.ensures.updates)

pub returns-clause-held : goal.returns-clause-held
returns-clause-held c = get_of c.insert_reserved-key.new.self c.insert_reserved-key.result ∙ c.insert_reserved-key.ensures.updates.changed

pub returns-clause-others : goal.returns-clause-others
returns-clause-others c =
    let step = c.insert_reserved-key in
    rw (← c.self.view_is) (StayOut-updates c.self.inside.limit _ _ (record { key = step.result; stream = c.args.stream }) step.ensures.was_vacant step.ensures.updates)

pub returns-clause-count : goal.returns-clause-count
returns-clause-count c =
    rw (← c.self.view_is, len_of c.insert_reserved-key.new.self, len_of c.self.inside.permits) c.insert_reserved-key.ensures.len

pub returns-then-len-self-clause-bounded : goal.returns-then-len-self-clause-bounded
returns-then-len-self-clause-bounded c =
    rw (← c.self.view_is, len_of c.self.inside.permits) c.self.invariant.within

pub returns-clause-bounded : goal.returns-clause-bounded
returns-clause-bounded c =
    let step = c.insert_reserved-key in
    omega (arith, len_of step.new.self, step.ensures.len, c.self.invariant.within, c.len.ensures, c.if-len-self.false)
