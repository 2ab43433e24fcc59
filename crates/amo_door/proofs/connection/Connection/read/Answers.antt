use Rattle.std.proofs.Common.{◌≡◌, ◌≤◌, ℕ, List, ap, length, rules, subst}
use Rattle.std.proofs.lemmas.Result.{IfOk-weaker}
use Rattle.http1.specs.declared.conn.Event.TheVariants as event
use Rattle.amo_door.specs.Connection.{ConnectionState, GoesOn}
use Rattle.amo_door.proofs.Incoming.{data_on, end_on, ends_closed, head_on, needs_on, read_so, reads_none, reads_none_at_end}
use Rattle.amo_door.proofs.Onward.{begins_on, closes_on, closes_where, comes_so, failing, fails_so, goes_on_twice, reads_on}
use Rattle.amo_door.proofs.connection.Connection.read.Goals as goal

pub returns-in_err-go_on-in-Head-clause-err : goal.returns-in_err-go_on-in-Head-clause-err
returns-in_err-go_on-in-Head-clause-err c =
    let begun : GoesOn c.args.self.now c.begin.new.self =
    reads_on c.args.self.now _ c.begin.new.self _ c.self.view_is (begins_on _ c.begin.new.self c.begin.ensures.begun) in
    failing c.from_residual-in_err-go_on-in-Head.result c.args.self.now c.go_on.new.self
    (goes_on_twice c.args.self.now c.drop_front.new.self c.go_on.new.self
    (goes_on_twice c.args.self.now c.begin.new.self c.drop_front.new.self begun c.drop_front.ensures.goes_on) c.go_on.ensures.goes_on)

pub returns-in_ok-go_on-in-Head-clause-ok : goal.returns-in_ok-go_on-in-Head-clause-ok
returns-in_ok-go_on-in-Head-clause-ok c =
    let begun : GoesOn c.args.self.now c.begin.new.self =
    reads_on c.args.self.now _ c.begin.new.self _ c.self.view_is (begins_on _ c.begin.new.self c.begin.ensures.begun) in
    goes_on_twice c.args.self.now c.drop_front.new.self c.go_on.new.self
    (goes_on_twice c.args.self.now c.begin.new.self c.drop_front.new.self begun c.drop_front.ensures.goes_on) c.go_on.ensures.goes_on

pub returns-in_ok-keep-in-Data-clause-ok : goal.returns-in_ok-keep-in-Data-clause-ok
returns-in_ok-keep-in-Data-clause-ok c =
    goes_on_twice c.args.self.now c.keep.new.self c.drop_front-in-Data.new.self
    (reads_on c.args.self.now _ c.keep.new.self _ c.self.view_is c.keep.ensures.goes_on) c.drop_front-in-Data.ensures.goes_on

pub returns-in-End-clause-ok : goal.returns-in-End-clause-ok
returns-in-End-clause-ok c =
    comes_so c.args.self.now c.drop_front-in-End.new.self c.finish.new.self c.finish.result
    (reads_on c.args.self.now _ c.drop_front-in-End.new.self _ c.self.view_is c.drop_front-in-End.ensures.goes_on) (c.finish.ensures.ok (search rules))

pub returns-in-End-clause-err : goal.returns-in-End-clause-err
returns-in-End-clause-err c =
    fails_so c.args.self.now c.drop_front-in-End.new.self c.finish.new.self c.finish.result
    (reads_on c.args.self.now _ c.drop_front-in-End.new.self _ c.self.view_is c.drop_front-in-End.ensures.goes_on) c.finish.ensures.err

pub returns-in-NeedMore-clause-ok : goal.returns-in-NeedMore-clause-ok
returns-in-NeedMore-clause-ok c =
    goes_on_twice c.args.self.now c.drop_front-in-NeedMore.new.self c.need_more.new.self
    (reads_on c.args.self.now _ c.drop_front-in-NeedMore.new.self _ c.self.view_is c.drop_front-in-NeedMore.ensures.goes_on)
    (closes_where c.drop_front-in-NeedMore.new.self.has_ended c.drop_front-in-NeedMore.new.self c.need_more.new.self c.need_more.ensures)

pub returns-in_default-clause-ok : goal.returns-in_default-clause-ok
returns-in_default-clause-ok c = reads_on c.args.self.now _ c.close.new.self _ c.self.view_is (closes_on _ c.close.new.self c.close.ensures)

pub returns-then-has_much_to_send-clause-read : goal.returns-then-has_much_to_send-clause-read
returns-then-has_much_to_send-clause-read c = λ came past has. reads_none c.args.reader.now came past c.args.self.now has

-- what waits is no request
pub returns-in-Err-clause-read : goal.returns-in-Err-clause-read
returns-in-Err-clause-read c =
    λ came past has. reads_none_at_end c.args.reader.now came past c.args.self.now c.refuse.new.self (ends_closed _ c.refuse.new.self (ap (λ (s : ConnectionState). s.stage) c.in_ok-refuse-in-Err.ensures.refused.2)) has

pub returns-in_ok-go_on-in-Head-clause-read : goal.returns-in_ok-go_on-in-Head-clause-read
returns-in_ok-go_on-in-Head-clause-read c =
    λ came past has.
    let old = c.args.self.now in
    let server : c.self.inside.server ≡ old.server = ap (λ (s : ConnectionState). s.server) c.self.view_is in
    let input : c.as_slice.result.now ≡ old.input = search rules in
    let reads = read_so old c.self.inside.server c.read.new.self c.as_slice.result.now c.read.new.headers c.in-Ok.read (event.Head c.in-Head.head) server input c.in-Head.is c.in-Ok.ensures.ok in
    let fits = subst (λ (i : List ℕ). c.in-Ok.read.consumed ≤ length i) input c.in-Ok.ensures.consumed in
    head_on c.args.reader.now came past old _ c.begin.new.self c.drop_front.new.self c.go_on.new.self c.read.new.self c.read.new.headers c.in-Ok.read.consumed c.in-Head.head c.self.view_is c.requires has reads fits c.begin.ensures.begun c.begin.ensures.asks
    c.drop_front.ensures.dropped c.in_ok-go_on-in-Head.ensures.reads

pub returns-in_ok-keep-in-Data-clause-read : goal.returns-in_ok-keep-in-Data-clause-read
returns-in_ok-keep-in-Data-clause-read c =
    λ came past has.
    let old = c.args.self.now in
    let server : c.self.inside.server ≡ old.server = ap (λ (s : ConnectionState). s.server) c.self.view_is in
    let input : c.as_slice.result.now ≡ old.input = search rules in
    let reads = read_so old c.self.inside.server c.read.new.self c.as_slice.result.now c.read.new.headers c.in-Ok.read (event.Data c.in-Data.piece) server input c.in-Data.is c.in-Ok.ensures.ok in
    let fits = subst (λ (i : List ℕ). c.in-Ok.read.consumed ≤ length i) input c.in-Ok.ensures.consumed in
    data_on c.args.reader.now came past old _ c.keep.new.self c.drop_front-in-Data.new.self c.read.new.self c.read.new.headers c.in-Ok.read.consumed c.in-Data.piece c.self.view_is c.requires has reads fits c.in_ok-keep-in-Data.ensures.kept
    c.drop_front-in-Data.ensures.dropped

pub returns-in-End-clause-read : goal.returns-in-End-clause-read
returns-in-End-clause-read c =
    λ came past has.
    let old = c.args.self.now in
    let server : c.self.inside.server ≡ old.server = ap (λ (s : ConnectionState). s.server) c.self.view_is in
    let input : c.as_slice.result.now ≡ old.input = search rules in
    let reads = read_so old c.self.inside.server c.read.new.self c.as_slice.result.now c.read.new.headers c.in-Ok.read (event.End c.in-End.field-0) server input c.in-End.is c.in-Ok.ensures.ok in
    let fits = subst (λ (i : List ℕ). c.in-Ok.read.consumed ≤ length i) input c.in-Ok.ensures.consumed in
    IfOk-weaker c.finish.result _ _
    (λ result finishes. end_on c.args.reader.now came past old _ c.drop_front-in-End.new.self c.finish.new.self c.read.new.self c.read.new.headers c.in-Ok.read.consumed c.in-End.field-0 result c.self.view_is c.requires has reads fits
    c.drop_front-in-End.ensures.dropped finishes) c.finish.ensures.finished

pub returns-in-NeedMore-clause-read : goal.returns-in-NeedMore-clause-read
returns-in-NeedMore-clause-read c =
    λ came past has.
    let old = c.args.self.now in
    let server : c.self.inside.server ≡ old.server = ap (λ (s : ConnectionState). s.server) c.self.view_is in
    let input : c.as_slice.result.now ≡ old.input = search rules in
    let reads = read_so old c.self.inside.server c.read.new.self c.as_slice.result.now c.read.new.headers c.in-Ok.read event.NeedMore server input c.in-NeedMore.is c.in-Ok.ensures.ok in
    let fits = subst (λ (i : List ℕ). c.in-Ok.read.consumed ≤ length i) input c.in-Ok.ensures.consumed in
    needs_on c.args.reader.now came past old _ c.drop_front-in-NeedMore.new.self c.need_more.new.self c.read.new.self c.read.new.headers c.in-Ok.read.consumed c.self.view_is c.requires has reads fits
    c.drop_front-in-NeedMore.ensures.dropped c.drop_front-in-NeedMore.new.self.has_ended c.need_more.ensures

pub returns-in_default-clause-read : goal.returns-in_default-clause-read
returns-in_default-clause-read c = λ came past has. reads_none_at_end c.args.reader.now came past c.args.self.now c.close.new.self (ends_closed _ c.close.new.self (ap (λ (s : ConnectionState). s.stage) c.close.ensures)) has
