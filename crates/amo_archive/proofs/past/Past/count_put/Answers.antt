use Rattle.std.proofs.Common.{◌≡◌, Bool, ◌∷◌, ◌++◌, ◌∙◌, [], sym, List, ap, rules}
use Rattle.std.proofs.lemmas.Result.{on_ok_weaker}
use Rattle.std.specs.List.{list_any}
use Rattle.amo_archive.specs.declared.lane.Owner.{Owner}
use Rattle.amo_archive.specs.Lane.{owners_in}
use Rattle.amo_archive.specs.Reign.{holds}
use Rattle.amo_archive.proofs.Pasts.{none_counted, one_counted}
use Rattle.amo_archive.proofs.past.Past.count_put.Goals as goal

pub returns-then-not-is_taken-clause-counted : goal.returns-then-not-is_taken-clause-counted
returns-then-not-is_taken-clause-counted c =
    none_counted c.args.self.now.doubts.items c.args.self.now.reign c.args.line.now c.args.self.now.lanes.items (sym c.is_taken.ensures ∙ c.if-not-is_taken.true)

pub returns-clause-counted : goal.returns-clause-counted
returns-clause-counted c = on_ok_weaker c.add.result
    (λ added. one_counted c.args.self.now.doubts.items c.args.self.now.reign c.args.line.now c.args.self.now.lanes.items c.index_mut.result.now c.add.new.self c.requires c.args.self.now.all c.index_mut.ensures.value (sym c.is_taken.ensures ∙ c.if-not-is_taken.false)
    (added ∙ ap (λ (doubtful : Bool). owners_in c.index_mut.result.now ++ record { life = c.args.self.now.reign.life; is_doubtful = doubtful } ∷ []) doubted))
    c.add.ensures
  where
    doubted : c.is_line_in.result ≡ list_any (holds c.args.line.now.number) c.args.self.now.doubts.items
    doubted = search rules
