use Rattle.std.proofs.Common.{sym, ◌∙◌}
use Rattle.amo_text.specs.Reply.{reply_text}
use Rattle.amo_journal.specs.declared.version.Version.TheVariants.{Two}
use Rattle.amo_journal.proofs.InFront.{behind_place, behind_act, act_fits, reply_fits, one_reply_text, spelt_again}
use Rattle.amo_journal.proofs.line_reader.read_event.Goals as goal

pub returns-in_default-2 : goal.returns-in_default-2
returns-in_default-2 c = λ e known same.
    let place = c.in-Some.ensures.found in
    let behind = behind_place Two c.args.text.now _ _ _ _ e place.0 place.1 place.2 known same in
    (rw c.in_default-2.is at c.in_ok-act.ensures.none) e.act (reply_text e.reply) (act_fits Two e.side e.stream e.act known.act) behind.3

pub returns-in_default-3 : goal.returns-in_default-3
returns-in_default-3 c = λ e known same.
    let place = c.in-Some.ensures.found in
    let act = rw c.in-Some-2.is at c.in_ok-act.ensures.found in
    let behind = behind_place Two c.args.text.now _ _ _ _ e place.0 place.1 place.2 known same in
    let reply = behind_act Two _ _ _ e act.0 act.1 known behind.3 in
    (rw c.in_default-3.is at c.in_ok-reply.ensures.none) e.reply (reply_fits e.act e.reply known.reply) reply.1

pub returns-then-not-has_line : goal.returns-then-not-has_line
returns-then-not-has_line c = λ e known same.
    let place = c.in-Some.ensures.found in
    let act = rw c.in-Some-2.is at c.in_ok-act.ensures.found in
    let read = rw c.in-Some-3.is at c.in_ok-reply.ensures.found in
    let behind = behind_place Two c.args.text.now _ _ _ _ e place.0 place.1 place.2 known same in
    let reply = behind_act Two _ _ _ e act.0 act.1 known behind.3 in
    let replied = one_reply_text _ e.reply read.0 (reply_fits e.act e.reply known.reply) (sym read.1 ∙ reply.1) in
    let told = c.if-not-has_line.ensures.1 (spelt_again Two e _ _ _ _ _ behind.0 behind.1 behind.2 reply.0 replied known) in
    cc
