use Rattle.std.proofs.Common.{◌∙◌, refl}
use Rattle.amo_core.specs.declared.act.Act.TheVariants as act
use Rattle.amo_live.specs.Service.{shown_by, spelling_of}
use Rattle.amo_live.proofs.Dues.{again_known, again_unknown}
use Rattle.amo_live.proofs.Getting.{look_gets, resend_gets}
use Rattle.amo_live.proofs.Showing.{look_shows, resend_shows, shows_on}
use Rattle.amo_live.proofs.service.Service.send_again.Goals as goal

pub returns-in-Some-clause-shown : goal.returns-in-Some-clause-shown
returns-in-Some-clause-shown g c =
    let spelling = spelling_of c.args.self.now in let old = shown_by c.args.self.now in
    shows_on spelling c.args.self.now.host.pass c.repeat.new.self.pass c.resend.new.self.pass old old old
    (look_shows c.args.self.now.host c.repeat.new.self spelling c.args.stream act.Resend c.in_ok-repeat.field-0 old old c.in_ok-repeat.ensures.looks refl)
    (resend_shows c.repeat.new.self c.resend.new.self spelling c.args.stream c.in_ok-resend.field-0 old old c.in_ok-resend.ensures.did refl)

pub returns-then-branch-clause-again : goal.returns-then-branch-clause-again
returns-then-branch-clause-again g c = λ contains.
    again_known c.args.now c.args.self.now.host c.repeat.new.self c.args.stream c.in_ok-repeat.field-0 c.if-branch.true c.repeat.ensures.stays.side (c.in_ok-repeat.ensures.timed contains) c.in_ok-repeat.ensures.looks

pub returns-in-Some-clause-again : goal.returns-in-Some-clause-again
returns-in-Some-clause-again g c = λ contains.
    again_unknown c.args.now c.args.self.now.host c.repeat.new.self c.resend.new.self c.args.stream c.in_ok-repeat.field-0 c.in_ok-resend.field-0 _ c.if-branch.false c.in-Some.is c.repeat.ensures.stays.side c.resend.ensures.stays.side
    (c.in_ok-repeat.ensures.timed contains) c.in_ok-repeat.ensures.looks c.in_ok-resend.ensures.did c.in_ok-resend.ensures.resent

pub returns-then-branch-clause-none_got : goal.returns-then-branch-clause-none_got
returns-then-branch-clause-none_got g c = look_gets c.args.self.now.host c.repeat.new.self c.args.stream act.Resend c.in_ok-repeat.field-0 c.in_ok-repeat.ensures.looks

pub returns-in-Some-clause-none_got : goal.returns-in-Some-clause-none_got
returns-in-Some-clause-none_got g c =
    resend_gets c.repeat.new.self c.resend.new.self c.args.stream c.in_ok-resend.field-0 c.in_ok-resend.ensures.did
    ∙ look_gets c.args.self.now.host c.repeat.new.self c.args.stream act.Resend c.in_ok-repeat.field-0 c.in_ok-repeat.ensures.looks
