use Rattle.std.proofs.Common.{◌≡◌, ℕ, false, Option, None, List, rules, sym, subst}
use Rattle.std.specs.Prelude.{is_some}
use Rattle.form_urlencoded.specs.Form.{raw_pairs}
use Rattle.form_urlencoded.specs.Parse.{raw_pairs_left}
use Rattle.amo_door.specs.Query.{Given, given_of, parameter_of, value_of}
use Rattle.amo_door.proofs.Pairs.{GoesOn, goes_on, repeated, unknown}
use Rattle.amo_door.proofs.query.Query.read.Goals as goal

pub returns-in_default-read-clause-fault : goal.returns-in_default-read-clause-fault
returns-in_default-read-clause-fault c =
    let name = c.in-Some.name.now in let value = c.in-Some.value.now in
    let none : parameter_of name ≡ None = search rules in
    unknown (raw_pairs c.args.text.now) (raw_pairs_left c.loop-name.pairs) (raw_pairs_left c.next.new.self) (given_of c.loop-name.query) name value c.loop-name.invariant.so_far c.in-Some.ensures.steps none

pub returns-then-has-clause-fault : goal.returns-then-has-clause-fault
returns-then-has-clause-fault c =
    let name = c.in-Some.name.now in let value = c.in-Some.value.now in
    repeated (raw_pairs c.args.text.now) (raw_pairs_left c.loop-name.pairs) (raw_pairs_left c.next.new.self) (given_of c.loop-name.query) name value c.in-Some-read.parameter
    c.loop-name.invariant.so_far c.in-Some.ensures.steps (sym c.in-Some-read.ensures) (sym c.if-has.ensures)

pub loop-name-preserved : goal.loop-name-preserved
loop-name-preserved c =
    let name = c.in-Some.name.now in let value = c.in-Some.value.now in
    let none : value_of (given_of c.loop-name.query) c.in-Some-read.parameter ≡ None = not_some (value_of (given_of c.loop-name.query) c.in-Some-read.parameter) (sym c.if-has.ensures) in
    record {
      can = tt;
      finite = tt;
      so_far = subst (λ (given : Given). GoesOn (raw_pairs c.args.text.now) (raw_pairs_left c.next.new.self) given) (sym c.with-query.ensures)
          (goes_on (raw_pairs c.args.text.now) (raw_pairs_left c.loop-name.pairs) (raw_pairs_left c.next.new.self) (given_of c.loop-name.query) name value c.in-Some-read.parameter
          c.loop-name.invariant.so_far c.in-Some.ensures.steps (sym c.in-Some-read.ensures) none);
    }
  where
    not_some : (o : Option (List ℕ)) → is_some o ≡ false → o ≡ None
    not_some o e = search rules
