use Rattle.std.proofs.Common.{◌∙◌, ◌⊎◌, ◌+◌, ◌++◌, List, ℕ, ap, inl, inr, subst, sym}
use Rattle.std.specs.List.{flat_map}
use Rattle.amo_telling.specs.Unanswered.{settled_line}
use Rattle.amo_telling.specs.Untold.{AreThose, IsAnswered, IsKnownAs, IsKnownByAll, TellsPuts, WasSentOn, events_of}
use Rattle.amo_world.specs.declared.event.Event.{Event}
use Rattle.amo_outcomes.specs.StandsFor.{more_puts}
use Rattle.amo_outcomes.specs.RightPuts.{ArePutsRight}
use Rattle.amo_outcomes.specs.SenderFollowers.{HaveFollowedSenders}
use Rattle.amo_telling.proofs.Resumed.{answered_by_all, known_by_all, right_puts}
use Rattle.amo_telling.proofs.Settling.{told_so}
use Rattle.amo_telling.proofs.untold.Untold.tell.Goals as goal

pub returns-clause-told : goal.returns-clause-told
returns-clause-told c = λ next past have right.
    let (streams, those, is) = c.in_ok-tell_settled.ensures in
    let (by_now, those_now, is_now) = c.in_ok-tell_settled_by_now.ensures in
    let followed = have.taken.followed right in
    let lines = flat_map (settled_line c.args.json) streams in
    let first = is ∙ ap (λ (l : List ℕ). l ++ lines) c.new-text.ensures.items in (
      streams,
      those next past have right,
      (
        c.tell_puts.new.text.items,
        subst (λ (l : List ℕ). TellsPuts (IsKnownAs (events_of past)) c.args.doubts.now c.args.json c.args.self.now.puts.entries l c.tell_puts.new.text.items) first (c.in_ok-tell_puts.ensures (events_of past) followed),
        (by_now, those_now (events_of past) followed, is_now),
      ),
    )

pub returns-clause-all : goal.returns-clause-all
returns-clause-all c = λ next past newer listed earlier have is resumes.
    let part = newer ++ listed in
    let right = right_puts newer listed earlier resumes in
    let followed = subst (λ (es : List Event). HaveFollowedSenders c.args.self.now.followers es) is (have.taken.followed (subst ArePutsRight (sym is) right)) in
    let (streams, those, lines_is) = c.in_ok-tell_settled.ensures in
    let (by_now, those_now, is_now) = c.in_ok-tell_settled_by_now.ensures in
    let lines = flat_map (settled_line c.args.json) streams in
    let first = lines_is ∙ ap (λ (l : List ℕ). l ++ lines) c.new-text.ensures.items in (
      streams,
      subst (λ (es : List Event). AreThose (WasSentOn es) c.args.in_doubt.now streams) is (those next past have (subst ArePutsRight (sym is) right)),
      (
        c.tell_puts.new.text.items,
        told_so (IsKnownAs part) (IsKnownByAll part (newer ++ earlier)) (known_by_all newer listed earlier resumes) c.args.doubts.now c.args.json c.args.self.now.puts.entries lines c.tell_puts.new.text.items
            (subst (λ (l : List ℕ). TellsPuts (IsKnownAs part) c.args.doubts.now c.args.json c.args.self.now.puts.entries l c.tell_puts.new.text.items) first (c.in_ok-tell_puts.ensures part followed)),
        (by_now, those_now part followed, is_now),
      ),
    )

pub returns-clause-kept : goal.returns-clause-kept
returns-clause-kept c = λ next past newer listed earlier have is resumes number stream place m at.
    let right = subst ArePutsRight (sym is) (right_puts newer listed earlier resumes) in
    let all = subst (λ (es : List Event). IsAnswered stream es place → IsAnswered stream (newer ++ earlier) (more_puts stream (newer ++ listed) (newer ++ earlier) + place)) (sym is) (answered_by_all newer listed earlier resumes stream place) in
    elim (have.taken.all number stream place m at) [
      | inl kept ↦ inl kept
      | inr answered ↦ inr (all (answered.1 right))
    ]
