use Rattle.std.proofs.Common.{◌≡◌, List, [], refl, ap, subst, sym, rules}
use Rattle.amo_book.specs.Pass.{mine}
use Rattle.amo_lines.specs.Backlog.{Addressed}
use Rattle.amo_desk.specs.Serving.{Moves, message_of}
use Rattle.amo_live.specs.Host.{puts_in}
use Rattle.amo_live.specs.Service.{shown_by, spelling_of, streams_of}
use Rattle.amo_desk.proofs.Conserving.{none_moved}
use Rattle.amo_live.proofs.Showing.{shows_refusing}
use Rattle.amo_desk.proofs.putting.put_line.Goals as goal

pub returns-in_ok-refuse-in-Put-2-clause-shown : goal.returns-in_ok-refuse-in-Put-2-clause-shown
returns-in_ok-refuse-in-Put-2-clause-shown g c =
    let old = c.args.service.now in let new = c.refuse.new.service in
    shows_refusing (spelling_of old) old.host.pass new.host.pass (shown_by old) (shown_by new) (ap (λ h. h.pass) c.in_ok-refuse-in-Put-2.ensures.host) c.in_ok-refuse-in-Put-2.ensures.told

pub returns-in_ok-refuse-in-Unread-clause-shown : goal.returns-in_ok-refuse-in-Unread-clause-shown
returns-in_ok-refuse-in-Unread-clause-shown g c =
    let old = c.args.service.now in let new = c.refuse-in-Unread.new.service in
    shows_refusing (spelling_of old) old.host.pass new.host.pass (shown_by old) (shown_by new) (ap (λ h. h.pass) c.in_ok-refuse-in-Unread.ensures.host) c.in_ok-refuse-in-Unread.ensures.told

pub returns-in_ok-refuse-in-Put-2-clause-moves : goal.returns-in_ok-refuse-in-Put-2-clause-moves
returns-in_ok-refuse-in-Put-2-clause-moves g c =
    let kept = c.args.desk.now.kept in let first = c.args.service.now.host.pass in let last = c.refuse.new.service.host.pass in
    let none : message_of c.args.desk.now.puts (streams_of c.args.service.now) c.args.line ≡ [] = search rules in
    subst (λ (l : List Addressed). Moves l kept kept first last) (sym none) (none_moved kept kept first last refl (ap (λ h. puts_in (mine h.pass)) c.in_ok-refuse-in-Put-2.ensures.host))

pub returns-in_ok-refuse-in-Unread-clause-moves : goal.returns-in_ok-refuse-in-Unread-clause-moves
returns-in_ok-refuse-in-Unread-clause-moves g c =
    let kept = c.args.desk.now.kept in let first = c.args.service.now.host.pass in let last = c.refuse-in-Unread.new.service.host.pass in
    let none : message_of c.args.desk.now.puts (streams_of c.args.service.now) c.args.line ≡ [] = search rules in
    subst (λ (l : List Addressed). Moves l kept kept first last) (sym none) (none_moved kept kept first last refl (ap (λ h. puts_in (mine h.pass)) c.in_ok-refuse-in-Unread.ensures.host))
