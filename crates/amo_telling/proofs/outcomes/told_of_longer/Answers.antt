use Rattle.std.proofs.Common.{List, Vec, Global, map}
use Rattle.std.proofs.lemmas.Result.{IfOk-weaker}
use Rattle.amo_outcomes.specs.declared.outcome.Outcome.{Outcome}
use Rattle.amo_telling.specs.declared.put_outcome.PutOutcome.{PutOutcome}
use Rattle.amo_telling.specs.declared.listing.Listing.TheVariants.{Known}
use Rattle.amo_telling.proofs.GoingOn.{listed_further}
use Rattle.amo_telling.proofs.outcomes.told_of_longer.Goals as goal

-- the lists that vectors are
abbrev outcomes_of : Vec Outcome Global → List Outcome
outcomes_of told = told.items

abbrev told_by : Vec PutOutcome Global → List PutOutcome
told_by told = told.items

pub returns : goal.returns
returns c =
    let own = c.in_ok-own.ensures in
    IfOk-weaker c.told_of.result _ _ (λ text h. (
      h.0,
      Known c.as_slice.result,
      h.1,
      listed_further c.args.lines own.0 h.0 (map outcomes_of c.args.all.now) (map told_by c.as_slice.result.now) c.in_ok-own.own own.1 h.1 own.2
          (rw c.as_slice.ensures.value c.in_ok-listed.ensures),
      h.2,
    )) c.told_of.ensures
