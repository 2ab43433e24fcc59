use Rattle.std.proofs.Common.{codes, rules}
use Rattle.clap.specs.Words.{found_of, rows_of}
use Rattle.amo_arguments.proofs.Refused.{finds_handed_on, refuses}
use Rattle.amo_arguments.proofs.Unfit.{no_call}
use Rattle.amo_arguments.proofs.arguments.door_call_of.Goals as goal

pub returns-in_err-stream-in-put : goal.returns-in_err-stream-in-put
returns-in_err-stream-in-put c =
    finds_handed_on _ c.from_residual.result c.in_err-stream-in-put.field-0.0 c.from_residual.ensures
    (refuses c.in_err-stream-in-put.field-0.0 (λ none call h. no_call (rows_of (found_of c.args.matches.now)) c.args.call.now (codes "put") (search rules) (λ v. none v.0 v.1) call h) c.in_err-stream-in-put.ensures.refused)

pub returns-in_err-stream-in-get : goal.returns-in_err-stream-in-get
returns-in_err-stream-in-get c =
    finds_handed_on _ c.from_residual-in_err-stream-in-get.result c.in_err-stream-in-get.field-0.0 c.from_residual-in_err-stream-in-get.ensures
    (refuses c.in_err-stream-in-get.field-0.0 (λ none call h. no_call (rows_of (found_of c.args.matches.now)) c.args.call.now (codes "get") (search rules) (λ v. none v.0 v.1) call h) c.in_err-stream-in-get.ensures.refused)

pub returns-in_err-stream-in-done : goal.returns-in_err-stream-in-done
returns-in_err-stream-in-done c =
    finds_handed_on _ c.from_residual-in_err-stream-in-done.result c.in_err-stream-in-done.field-0.0 c.from_residual-in_err-stream-in-done.ensures
    (refuses c.in_err-stream-in-done.field-0.0 (λ none call h. no_call (rows_of (found_of c.args.matches.now)) c.args.call.now (codes "done") (search rules) (λ v. none v.0 v.1) call h) c.in_err-stream-in-done.ensures.refused)
