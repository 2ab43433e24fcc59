-- Which messages were got, and where their gets stand.
use Rattle.std.proofs.Common.{◌≡◌, ℕ, ◌+◌, ◌-◌, ◌%◌, ◌^◌, Bool, List, [], ◌∷◌, Option, Some, None, length, refl, ap, sym, subst, ◌∙◌}
use Rattle.amo_object.specs.declared.step.End.{End}
use Rattle.amo_object.specs.declared.step.End.TheVariants.{Receiver, Sender}
use Rattle.amo_core.specs.declared.act.Act.{Act}
use Rattle.amo_core.specs.declared.act.Act.TheVariants as act
use Rattle.amo_core.specs.declared.mode.Mode.{Mode}
use Rattle.amo_core.specs.declared.reply.Reply.{Reply}
use Rattle.amo_core.specs.declared.reply.Reply.TheVariants as reply
use Rattle.amo_world.specs.declared.event.Event.{Event}
use Rattle.amo_world.specs.History.{Extends, events_of}
use Rattle.amo_world.proofs.Extensions.{further, itself}
use Rattle.amo_book.specs.Pass.{PassState, Answer, Answered, Grown, GrownBy, HasPosition, event, mine}
use Rattle.amo_live.specs.Callers.{Gets, HappensAt, IsSameLife, gets_in}
use Rattle.amo_live.specs.Host.{HostState, Did, Looks, got_at, got_in, puts_in}
use Rattle.amo_live.specs.Noted.{IsSameJournal, JournalState}
use Rattle.amo_live.specs.declared.service.door.EventAt.{EventAt}
use Rattle.amo_live.proofs.Emissions.{grown_extends}
use Rattle.amo_live.proofs.Lined.{line_stays, made_by, next_line}
use Rattle.amo_live.proofs.Repeating.{looks_still}

-- the event of a call stands at the position that the call answered, and in the next line
pub happens_at : {S : Type 0} (v w : PassState) (j k : JournalState S) (side : End) (stream : ℕ) (a : Act) (r : Reply) (position line : ℕ) → GrownBy v w (event v.number side stream a r) → HasPosition w position
    → IsSameJournal j k → j.next ≡ j.first + (length (mine v) - j.standing) → line ≡ j.next → HappensAt v w k side stream a r position line
happens_at v w j k side stream a r position line grown place same next is = record {
  pass = v.number;
  own = grown.number;
  past = grown.earlier;
  since = grown.extends;
  stands = subst (λ (seen : List Event). Extends seen (event v.number side stream a r ∷ grown.earlier)) (sym grown.seen) (itself (event v.number side stream a r ∷ grown.earlier));
  place = place ∙ ap (λ (seen : List Event). length seen % 2 ^ 64) grown.seen;
  in_journal = next_line j k v w (event v.number side stream a r) line grown refl same next is;
}

-- also behind what happened before, and in front of what happens later
pub happens_since : {S : Type 0} (u v w : PassState) (j : JournalState S) (side : End) (stream : ℕ) (a : Act) (r : Reply) (position line : ℕ) → Extends v.seen u.seen → HappensAt v w j side stream a r position line
    → HappensAt u w j side stream a r position line
happens_since u v w j side stream a r position line more at =
    record { pass = at.pass; own = at.own; past = at.past; since = further at.past v.seen u.seen at.since more; stands = at.stands; place = at.place; in_journal = at.in_journal }

pub happens_until : {S : Type 0} (v w x : PassState) (j k : JournalState S) (side : End) (stream : ℕ) (a : Act) (r : Reply) (position line : ℕ) → Extends x.seen w.seen → IsSameLife w x j k
    → HappensAt v w j side stream a r position line → HappensAt v x k side stream a r position line
happens_until v w x j k side stream a r position line more life at =
    let e = event at.pass side stream a r in
    let stands = further x.seen w.seen (e ∷ at.past) more at.stands in
    record {
      pass = at.pass;
      own = life.number ∙ at.own;
      past = at.past;
      since = at.since;
      stands = stands;
      place = at.place;
      in_journal = line_stays j k (events_of at.pass w.seen) (events_of at.pass x.seen) (events_of at.pass at.past) e line life.journal (made_by at.pass x.seen at.past e refl stands) at.in_journal;
    }

-- so what was seen before goes on
pub happens_extends : {S : Type 0} (v w : PassState) (j : JournalState S) (side : End) (stream : ℕ) (a : Act) (r : Reply) (position line : ℕ) → HappensAt v w j side stream a r position line → Extends w.seen v.seen
happens_extends v w j side stream a r position line at =
    let e = event at.pass side stream a r in
    let older = at.since in
    further w.seen (e ∷ at.past) v.seen at.stands (e ∷ older.0, ap (λ (l : List Event). e ∷ l) older.1)

-- a call goes on from what was seen before
pub call_extends : (v w : PassState) (side : End) (stream : ℕ) (a : Act) (answer : Answer) → Grown v w side stream a answer → Extends w.seen v.seen
call_extends v w side stream a None grown = subst (λ (p : PassState). Extends p.seen v.seen) (sym grown) (itself v.seen)
call_extends v w side stream a (Some (r, position)) grown = grown_extends v w (event v.number side stream a r) grown

-- and so does a resend
pub resend_extends : {L S : Type 0} (h g : HostState L S) (stream : ℕ) (mode : Option Mode) → Did h g stream act.Resend mode → Extends g.pass.seen h.pass.seen
resend_extends h g stream None did = subst (λ (p : PassState). Extends p.seen h.pass.seen) (sym did.0) (itself h.pass.seen)
resend_extends h g stream (Some mode) did = grown_extends h.pass g.pass _ did.grown

-- what a get answered is one message at one position
message_of : Option (List ℕ × ℕ) → List ℕ
message_of None = []
message_of (Some (m, position)) = m

position_of : Option (List ℕ × ℕ) → ℕ
position_of None = 0
position_of (Some (m, position)) = position

pub same_message : (m n : List ℕ) (at position : ℕ) → got_at m at ≡ got_at n position → m ≡ n
unfolding message_of
same_message m n at position is = ap message_of is

same_position : (m n : List ℕ) (at position : ℕ) → got_at m at ≡ got_at n position → at ≡ position
unfolding position_of
same_position m n at position is = ap position_of is

-- a get that was answered with a message got it, at that position
pub was_got : {S : Type 0} (v w : PassState) (j k : JournalState S) (stream : ℕ) (m : List ℕ) (at : EventAt) (answer : Answer) → got_at m at.position ≡ got_in answer → Grown v w Receiver stream act.Get answer → Answered w answer
    → IsSameJournal j k → j.next ≡ j.first + (length (mine v) - j.standing) → at.line ≡ j.next → Gets v w k stream (Some (m, at))
was_got v w j k stream m at None is grown answered same next line = absurd (no is)
  where
    no : got_at m at.position ≡ None → ⊥
    no e = cc
was_got v w j k stream m at (Some (reply.Got n, position)) is grown answered same next line =
    let message = same_message m n at.position position is in
    let place = same_position m n at.position position is in
    let one : gets_in (mine w) ≡ (stream, n) ∷ gets_in (mine v) = ap gets_in grown.mine_grew in
    subst (λ (l : List ℕ). Gets v w k stream (Some (l, at))) (sym message)
    (one, subst (λ (p : ℕ). HappensAt v w k Receiver stream act.Get (reply.Got n) p at.line) (sym place) (happens_at v w j k Receiver stream act.Get (reply.Got n) position at.line grown answered same next line))
was_got v w j k stream m at (Some (reply.Ok, position)) is grown answered same next line = cc
was_got v w j k stream m at (Some (reply.Full, position)) is grown answered same next line = cc
was_got v w j k stream m at (Some (reply.Down, position)) is grown answered same next line = cc
was_got v w j k stream m at (Some (reply.Nothing, position)) is grown answered same next line = cc
was_got v w j k stream m at (Some (reply.Yes, position)) is grown answered same next line = cc
was_got v w j k stream m at (Some (reply.No, position)) is grown answered same next line = cc
was_got v w j k stream m at (Some (reply.NotYet, position)) is grown answered same next line = cc
was_got v w j k stream m at (Some (reply.Done, position)) is grown answered same next line = cc

-- one that was answered with none got none
none_got : (v w : PassState) (stream : ℕ) (answer : Answer) → None ≡ got_in answer → Grown v w Receiver stream act.Get answer → gets_in (mine w) ≡ gets_in (mine v)
none_got v w stream None is grown = ap (λ (p : PassState). gets_in (mine p)) grown
none_got v w stream (Some (reply.Got n, position)) is grown = cc
none_got v w stream (Some (reply.Ok, position)) is grown = ap gets_in grown.mine_grew
none_got v w stream (Some (reply.Full, position)) is grown = ap gets_in grown.mine_grew
none_got v w stream (Some (reply.Down, position)) is grown = ap gets_in grown.mine_grew
none_got v w stream (Some (reply.Nothing, position)) is grown = ap gets_in grown.mine_grew
none_got v w stream (Some (reply.Yes, position)) is grown = ap gets_in grown.mine_grew
none_got v w stream (Some (reply.No, position)) is grown = ap gets_in grown.mine_grew
none_got v w stream (Some (reply.NotYet, position)) is grown = ap gets_in grown.mine_grew
none_got v w stream (Some (reply.Done, position)) is grown = ap gets_in grown.mine_grew

pub got_none : {S : Type 0} (v w : PassState) (j : JournalState S) (stream : ℕ) (answer : Answer) → None ≡ got_in answer → Grown v w Receiver stream act.Get answer → Gets v w j stream None
got_none v w j stream answer is grown = (none_got v w stream answer is grown, call_extends v w Receiver stream act.Get answer grown)

-- where no event happened none was got either
pub got_none_still : {S : Type 0} (v : PassState) (j : JournalState S) (stream : ℕ) → Gets v v j stream None
got_none_still v j stream = (refl, itself v.seen)

-- a get and the resend behind it
pub got_on : {S : Type 0} (v w x : PassState) (j k : JournalState S) (stream : ℕ) (m : List ℕ) (at : EventAt) → gets_in (mine x) ≡ gets_in (mine w) → Extends x.seen w.seen → IsSameLife w x j k → Gets v w j stream (Some (m, at))
    → Gets v x k stream (Some (m, at))
got_on v w x j k stream m at none more life (one, stands) = (none ∙ one, happens_until v w x j k Receiver stream act.Get (reply.Got m) at.position at.line more life stands)

-- a get puts nothing
pub get_puts : (v w : PassState) (stream : ℕ) (answer : Answer) → Grown v w Receiver stream act.Get answer → puts_in (mine w) ≡ puts_in (mine v)
get_puts v w stream None grown = ap (λ (p : PassState). puts_in (mine p)) grown
get_puts v w stream (Some (r, position)) grown = ap puts_in grown.mine_grew

-- a put gets nothing
pub put_gets : (v w : PassState) (stream : ℕ) (m : List ℕ) (answer : Answer) → Grown v w Sender stream (act.Put m) answer → gets_in (mine w) ≡ gets_in (mine v)
put_gets v w stream m None grown = ap (λ (p : PassState). gets_in (mine p)) grown
put_gets v w stream m (Some (r, position)) grown = ap gets_in grown.mine_grew

-- a resend gets nothing, and puts nothing
pub resend_gets : {L S : Type 0} (h g : HostState L S) (stream : ℕ) (mode : Option Mode) → Did h g stream act.Resend mode → gets_in (mine g.pass) ≡ gets_in (mine h.pass)
resend_gets h g stream None did = ap (λ (p : PassState). gets_in (mine p)) did.0
resend_gets h g stream (Some mode) did = ap gets_in did.grown.mine_grew

pub resend_puts : {L S : Type 0} (h g : HostState L S) (stream : ℕ) (mode : Option Mode) → Did h g stream act.Resend mode → puts_in (mine g.pass) ≡ puts_in (mine h.pass)
resend_puts h g stream None did = ap (λ (p : PassState). puts_in (mine p)) did.0
resend_puts h g stream (Some mode) did = ap puts_in did.grown.mine_grew

-- nor does a look at an act get anything
pub look_gets : {L S : Type 0} (h g : HostState L S) (stream : ℕ) (a : Act) (known : Bool) → Looks h g stream a known → gets_in (mine g.pass) ≡ gets_in (mine h.pass)
look_gets h g stream a known looks = ap gets_in (looks_still h g stream a known looks)
