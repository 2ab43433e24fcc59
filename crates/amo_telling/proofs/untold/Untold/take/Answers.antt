use Rattle.std.proofs.Common.{◌∙◌, List, ℕ, refl, subst}
use Rattle.std.specs.List.{Contains}
use Rattle.std.specs.BTreeMap.{get}
use Rattle.std.specs.Ordering.{nat_cmp}
use Rattle.std.proofs.lemmas.Result.{on_ok_weaker}
use Rattle.amo_telling.proofs.Untolds.{read_either}
use Rattle.amo_telling.proofs.untold.Untold.take.Goals as goal

pub returns-clause-taken : goal.returns-clause-taken
returns-clause-taken c =
    let dropped = c.in_ok-drop_answered.ensures in
    let noted = c.note.ensures in
    on_ok_weaker c.note.result (λ kept past have free few.
    read_either c.args.self.now c.follow.new.self past c.args.line.now c.as_slice.result.now have
    (λ number here. c.in_ok-sent.ensures number (subst (λ (l : List ℕ). Contains l number) c.as_slice.ensures.value here))
    c.in_ok-follow.ensures (get nat_cmp c.drop_answered.new.self.puts) dropped.dropped.0
    c.drop_answered.new.self.answered dropped.dropped.1 dropped.dropped.2 dropped.dropped.3
    _ (noted.same.0 ∙ dropped.same.0) noted.same.1
    c.drop_answered.new.self (λ number. refl) dropped.same.1 c.requires free few noted.none kept) noted.kept
