use Rattle.form_urlencoded.specs.Form.{raw_pairs}
use Rattle.form_urlencoded.specs.Parse.{raw_pairs_left}
use Rattle.amo_door.specs.Query.{given_of}
use Rattle.amo_door.proofs.Pairs.{GoesOn}
use Rattle.amo_door.proofs.query.Query.read.Given as goal

-- the pairs so far give what was read
abbrev pub invariant-loop-name : goal.invariant-loop-name
invariant-loop-name l = record {
  can : (goal.iterator-loop-name).can_next l.pairs;
  finite : (goal.iterator-loop-name).is_finite l.pairs;
  so_far : GoesOn (raw_pairs l.text) (raw_pairs_left l.pairs) (given_of l.query);
}
