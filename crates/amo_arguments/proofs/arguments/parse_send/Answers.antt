use Rattle.std.proofs.Common.{refl, rules}
use Rattle.clap.specs.Words.{found_of, rows_of}
use Rattle.amo_arguments.proofs.Refused.{handed_on}
use Rattle.amo_arguments.proofs.Unfit.{send_apart}
use Rattle.amo_arguments.proofs.arguments.parse_send.Goals as goal

pub returns-clause-chosen : goal.returns-clause-chosen
returns-clause-chosen c = (
  _,
  refl,
  record {
    host = c.in_ok-host.ensures;
    each = c.in_ok-each.each;
    each_is = c.in_ok-each.ensures;
    many = c.in_ok-many.many;
    many_is = c.in_ok-many.ensures;
    batch = c.in_ok-batch.ensures;
    hex = c.in_ok-hex.ensures;
    waits = search rules;
    apart = search rules;
  },
  tt,
)

pub returns-in_err-check_each-clause-refused : goal.returns-in_err-check_each-clause-refused
returns-in_err-check_each-clause-refused c =
    handed_on _ c.from_residual-in_err-check_each.result c.in_err-check_each.field-0.0 c.from_residual-in_err-check_each.ensures
    (send_apart (rows_of (found_of c.args.matches.now)) c.in_ok-each.each c.in_ok-many.many c.in_ok-batch.batch _ c.in_ok-each.ensures c.in_ok-many.ensures c.in_ok-batch.ensures c.in_err-check_each.ensures.refused)
