-- What is shown, call by call.
use Rattle.std.proofs.Common.{◌≡◌, ◌≢◌, inl, inr, ℕ, Bool, true, false, List, [], ◌∷◌, ◌++◌, zero, suc, Option, Some, None, Ok, Err, refl, sym, ap, ◌∙◌, subst, append_assoc, append-nil}
use Rattle.std.specs.Prelude.{OnOk, Result}
use Rattle.std.specs.List.{flat_map}
use Rattle.std.specs.Io.KnownBytes.{Appends}
use Rattle.amo_text.proofs.Written.{Appends-append, Appends-nil}
use Rattle.std.proofs.lemmas.Result.{on_ok_weaker}
use Rattle.amo_object.specs.declared.step.End.TheVariants.{Sender, Receiver}
use Rattle.amo_packet.specs.Grammar.{Spells}
use Rattle.amo_packet.specs.Packet.{body_of}
use Rattle.amo_packet.specs.declared.packet.Body.{Body}
use Rattle.amo_packet.specs.declared.packet.Body.TheVariants.{NeedUid, Accept, Send, Ack, Cleanup, Batch}
use Rattle.amo_packet.specs.declared.packet.OwnedBody.{OwnedBody}
use Rattle.amo_packet.specs.declared.packet.OwnedBody.TheVariants as owned
use Rattle.amo_packet.specs.declared.packet.OwnedPacket.{OwnedPacket}
use Rattle.amo_packet.proofs.Spellings.{Spells-unique}
use Rattle.amo_core.specs.declared.act.Act.{Act}
use Rattle.amo_core.specs.declared.act.Act.TheVariants as act
use Rattle.amo_core.specs.declared.mode.Mode.{Mode}
use Rattle.amo_core.specs.declared.mode.Mode.TheVariants as kind_of
use Rattle.amo_core.specs.declared.reply.Reply.TheVariants as reply
use Rattle.amo_core.specs.Summary.{summary_of}
use Rattle.amo_world.specs.declared.event.Event.{Event}
use Rattle.amo_book.specs.declared.fault.PutFault.{PutFault}
use Rattle.amo_book.specs.declared.fault.PutFault.TheVariants as put_fault
use Rattle.amo_book.specs.declared.fault.AckFault.{AckFault}
use Rattle.amo_book.specs.declared.fault.AckFault.TheVariants as ack_fault
use Rattle.amo_book.specs.Calls.{put_answer, ack_answer}
use Rattle.amo_world.specs.History.{Extends}
use Rattle.amo_world.proofs.Extensions.{further}
use Rattle.amo_book.specs.Pass.{PassState, Answer, Grown, GrownBy, automaton_after, event, mine}
use Rattle.amo_host.specs.AtStream.{HasMode}
use Rattle.amo_journal.specs.declared.version.Version.{Version}
use Rattle.amo_journal.specs.declared.version.Version.TheVariants.{One, Two}
use Rattle.amo_journal.specs.Version.{newest}
use Rattle.amo_live.specs.declared.fault.LiveFault.{LiveFault}
use Rattle.amo_lines.specs.declared.lines.Spelling.{Spelling}
use Rattle.amo_lines.specs.declared.lines.Word.{Word}
use Rattle.amo_live.specs.Host.{HostState, Did, Delivered, IsWhole, Looks, got_at, got_in, word_for}
use Rattle.amo_live.specs.Service.{start_of}
use Rattle.amo_live.proofs.Emissions.{grown_extends}
use Rattle.amo_live.proofs.Getting.{same_message}
use Rattle.amo_live.proofs.Ending.{ends_handshake, sending_begins}
use Rattle.amo_live.proofs.Repeating.{looks_extend, looks_still, none_extends, none_still}
use Rattle.amo_lines.specs.Object.{Name}
use Rattle.amo_lines.specs.Owed.{answered, first_id}
use Rattle.amo_lines.specs.Spelt.{Refused, message_line, ok_line, refused_line, settled_line, word_line, word_of}
use Rattle.amo_live.specs.Shown.{BeginsWithPut, IsRefusing, IsShown, says_nothing, says_message, says_answer, says_put, Said, Says, Shows, ShowsMore, Tells, Told, behind, said_of, told_ack, told_answer, told_at, told_answers, told_line, told_put, told_settled}

-- what a pass has seen is what it had seen, and more
itself : (events : List Event) → Extends events events
itself events = ([], refl)

-- lines that are shown, one behind the other
line_none : (told : Told) → told_line [] told ≡ told
line_none told = ap (λ (l : List ℕ). record told { text = l }) (append-nil told.text)

line_on : (some more : List ℕ) (told : Told) → told_line more (told_line some told) ≡ told_line (some ++ more) told
line_on some more told = ap (λ (l : List ℕ). record told { text = l }) (append_assoc told.text some more)

refused_append : (some more : List Refused) → flat_map refused_line (some ++ more) ≡ flat_map refused_line some ++ flat_map refused_line more
refused_append [] more = refl
refused_append (one ∷ some) more = ap (λ (l : List ℕ). refused_line one ++ l) (refused_append some more) ∙ sym (append_assoc (refused_line one) (flat_map refused_line some) (flat_map refused_line more))

-- no line was refused, one was, or more were
pub refusing_none : (old new : Told) → new ≡ old → IsRefusing old new
refusing_none old new same = ([], same ∙ sym (line_none old))

pub refusing_one : (refused : Refused) (old new : Told) → new ≡ told_line (refused_line refused) old → IsRefusing old new
refusing_one refused old new told = (refused ∷ [], told ∙ ap (λ (l : List ℕ). told_line l old) (sym (append-nil (refused_line refused))))

refusing_on : (first second third : Told) → IsRefusing first second → IsRefusing second third → IsRefusing first third
refusing_on first second third (some, one) (more, two) = (
  some ++ more,
  two ∙ (ap (told_line (flat_map refused_line more)) one ∙ (line_on (flat_map refused_line some) (flat_map refused_line more) first ∙ ap (λ (l : List ℕ). told_line l first) (sym (refused_append some more)))),
)

-- no event, or one that shows nothing, or one that shows a line
pub shows_none : (spelling : Spelling) (v w : PassState) (old new : Told) → Extends w.seen v.seen → mine w ≡ mine v → new ≡ old → ShowsMore spelling v w old new
shows_none spelling v w old new more p q = record { events = []; mine_is = p; extends = more; shows = refusing_none old new q }

-- nothing happened
pub shows_idle : (spelling : Spelling) (v w : PassState) (old new : Told) → w ≡ v → new ≡ old → ShowsMore spelling v w old new
shows_idle spelling v w old new same q = shows_none spelling v w old new (subst (λ (p : PassState). Extends p.seen v.seen) (sym same) (itself v.seen)) (ap mine same) q

-- nothing happened, and lines were refused
pub shows_refusing : (spelling : Spelling) (v w : PassState) (old new : Told) → w ≡ v → IsRefusing old new → ShowsMore spelling v w old new
shows_refusing spelling v w old new same refusing =
    record { events = []; mine_is = ap mine same; extends = subst (λ (p : PassState). Extends p.seen v.seen) (sym same) (itself v.seen); shows = refusing }

shows_line : (spelling : Spelling) (v w : PassState) (old new : Told) (e : Event) → GrownBy v w e → Tells w.seen spelling e old new → ShowsMore spelling v w old new
shows_line spelling v w old new e grown tells =
    record { events = e ∷ []; mine_is = grown.mine_grew; extends = grown_extends v w e grown; shows = (old, new, refusing_none old old refl, tells, refusing_none new new refl) }

-- an event that shows what its reply tells
shows_reply : (spelling : Spelling) (v w : PassState) (old new : Told) (e : Event) → GrownBy v w e → Says spelling e.stream (said_of e.act e.reply) old new → ShowsMore spelling v w old new
shows_reply spelling v w old new e grown tells = shows_line spelling v w old new e grown (inl tells)

-- what events show stays so when more was seen
tells_still : (seen later : List Event) (spelling : Spelling) (e : Event) (old new : Told) → Extends later seen → Tells seen spelling e old new → Tells later spelling e old new
tells_still seen later spelling e old new more (inl tells) = inl tells
tells_still seen later spelling e old new more (inr tells) = inr (record {
  packet = tells.packet;
  word = tells.word;
  delivered = tells.delivered;
  settles = tells.settles;
  messages = tells.messages;
  lines = tells.lines;
  begins = λ some.
      let begun = tells.begins some in
      record { past = begun.past; stands = further later seen (e ∷ begun.past) more begun.stands; asked = begun.asked; sends = begun.sends };
  ends = λ some.
      let ended = tells.ends some in
      record { past = ended.past; stands = further later seen (e ∷ ended.past) more ended.stands; id = ended.id; got = ended.got; says = ended.says; load = ended.load; sent = ended.sent; tells = ended.tells };
})

shows_still : (seen later : List Event) (spelling : Spelling) (events : List Event) (old new : Told) → Extends later seen → Shows seen spelling events old new → Shows later spelling events old new
shows_still seen later spelling [] old new more shows = shows
shows_still seen later spelling (e ∷ past) old new more (before, after, rest, tells, refusing) =
    (before, after, shows_still seen later spelling past old before more rest, tells_still seen later spelling e before after more tells, refusing)

-- lines that were refused behind them
shows_refused : (seen : List Event) (spelling : Spelling) (events : List Event) (old middle new : Told) → Shows seen spelling events old middle → IsRefusing middle new → Shows seen spelling events old new
shows_refused seen spelling [] old middle new shows more = refusing_on old middle new shows more
shows_refused seen spelling (e ∷ past) old middle new (before, after, rest, tells, refusing) more = (before, after, rest, tells, refusing_on after middle new refusing more)

-- more events
shows_append : (seen : List Event) (spelling : Spelling) (more past : List Event) (old middle new : Told) → Shows seen spelling more middle new → Shows seen spelling past old middle → Shows seen spelling (more ++ past) old new
shows_append seen spelling [] past old middle new refusing shows = shows_refused seen spelling past old middle new shows refusing
shows_append seen spelling (e ∷ more) past old middle new (before, after, rest, tells, refusing) shows = (before, after, shows_append seen spelling more past old middle before rest shows, tells, refusing)

pub shows_on : (spelling : Spelling) (u v w : PassState) (first second third : Told) → ShowsMore spelling u v first second → ShowsMore spelling v w second third → ShowsMore spelling u w first third
shows_on spelling u v w first second third one two = record {
  events = two.events ++ one.events;
  mine_is = two.mine_is ∙ (ap (λ (l : List Event). two.events ++ l) one.mine_is ∙ sym (append_assoc two.events one.events (mine u)));
  extends = further w.seen v.seen u.seen two.extends one.extends;
  shows = shows_append w.seen spelling two.events one.events first second third two.shows (shows_still v.seen w.seen spelling one.events first second two.extends one.shows);
}

-- the same, of values that are known under other names
pub shows_as : (spelling other : Spelling) (v w x y : PassState) (old new some more : Told) → other ≡ spelling → x ≡ v → y ≡ w → some ≡ old → more ≡ new → ShowsMore spelling v w old new → ShowsMore other x y some more
shows_as spelling other v w x y old new some more a b c d e shows =
    subst (λ (o : Spelling). ShowsMore o x y some more) (sym a)
    (subst (λ (p : PassState). ShowsMore spelling p y some more) (sym b)
    (subst (λ (p : PassState). ShowsMore spelling v p some more) (sym c)
    (subst (λ (l : Told). ShowsMore spelling v w l more) (sym d)
    (subst (λ (l : Told). ShowsMore spelling v w old l) (sym e) shows))))

-- a host's act shows nothing
did_shows : {L S : Type 0} (h g : HostState L S) (spelling : Spelling) (stream : ℕ) (a : Act) (mode : Option Mode) (old new : Told)
    → said_of a reply.Done ≡ says_nothing → Did h g stream a mode → new ≡ old → ShowsMore spelling h.pass g.pass old new
did_shows h g spelling stream a None old new quiet did same = shows_idle spelling h.pass g.pass old new did.0 same
did_shows h g spelling stream a (Some mode) old new quiet happens same =
    shows_reply spelling h.pass g.pass old new (event h.pass.number h.side stream a reply.Done) happens.grown (subst (λ (s : Said). Says spelling stream s old new) (sym quiet) same)

pub start_shows : {L S : Type 0} (h g : HostState L S) (spelling : Spelling) (stream word : ℕ) (batch : Bool) (version : Version) (mode : Option Mode) (old new : Told)
    → Did h g stream (start_of batch version word) mode → new ≡ old → ShowsMore spelling h.pass g.pass old new
start_shows h g spelling stream word batch One mode old new = did_shows h g spelling stream (act.Start word) mode old new refl
start_shows h g spelling stream word false Two mode old new = did_shows h g spelling stream (act.Start word) mode old new refl
start_shows h g spelling stream word true Two mode old new = did_shows h g spelling stream (act.Batch word) mode old new refl

pub resend_shows : {L S : Type 0} (h g : HostState L S) (spelling : Spelling) (stream : ℕ) (mode : Option Mode) (old new : Told) → Did h g stream act.Resend mode → new ≡ old → ShowsMore spelling h.pass g.pass old new
resend_shows h g spelling stream mode old new = did_shows h g spelling stream act.Resend mode old new refl

-- a look at an act shows nothing
pub look_shows : {L S : Type 0} (h g : HostState L S) (spelling : Spelling) (stream : ℕ) (a : Act) (known : Bool) (old new : Told) → Looks h g stream a known → new ≡ old → ShowsMore spelling h.pass g.pass old new
look_shows h g spelling stream a known old new looks same = shows_none spelling h.pass g.pass old new (looks_extend h g stream a known looks) (looks_still h g stream a known looks) same

-- nor does a packet whose delivery was no event
pub undelivered_shows : {L S : Type 0} (h g : HostState L S) (spelling : Spelling) (bytes : List ℕ) (word : ℕ) (old new : Told) → Delivered h g bytes word None → new ≡ old → ShowsMore spelling h.pass g.pass old new
undelivered_shows h g spelling bytes word old new none same = shows_none spelling h.pass g.pass old new (none_extends h g bytes word none) (none_still h g bytes word none) same

-- It is known that all was the pass's own that was seen before and after, and of how many messages an ack tells that ends the handshake of this stream.
abbrev pub Counts : {L S : Type 0} → HostState L S → HostState L S → ℕ → ℕ → Type 0
Counts h g stream messages = IsWhole h.pass × IsWhole g.pass × (messages ≡ told_at (summary_of (automaton_after h.side stream h.pass.seen)))

-- a delivery shows what it settles, and what its packet tells
pub delivery_shows : {L S : Type 0} (h g : HostState L S) (spelling : Spelling) (bytes : List ℕ) (p : OwnedPacket) (word stream : ℕ) (mode : Mode) (settles : Bool) (messages : ℕ) (old new : Told) → Spells (newest h.journal.version) bytes p
    → Delivered h g bytes word (Some (stream, mode)) → (settles ≡ true → HasMode h.pump.host p.stream kind_of.NeedId × (mode ≡ kind_of.Send)) → (messages ≢ 0 → HasMode h.pump.host p.stream kind_of.Send × (mode ≡ kind_of.Quiet) × Counts h g p.stream messages)
    → new ≡ told_ack spelling p.stream p.body messages (told_settled settles spelling stream old) → ShowsMore spelling h.pass g.pass old new
delivery_shows h g spelling bytes p word stream mode settles messages old new spelt (q, spells, is, happens) begun ended told =
    let one : q ≡ p = Spells-unique (newest h.journal.version) (newest h.journal.version) bytes q p spells spelt in
    let here : p.stream ≡ stream = ap (λ (r : OwnedPacket). r.stream) (sym one) ∙ is in
    shows_line spelling h.pass g.pass old new (event h.pass.number h.side stream (act.Deliver q (word_for q.body word)) reply.Done) happens.grown
    (inr (record {
      packet = q;
      word = word_for q.body word;
      delivered = refl;
      settles = settles;
      messages = messages;
      lines = let first = told_settled settles spelling stream old in
          told ∙ (ap (λ (n : ℕ). told_ack spelling n p.body messages first) here ∙ ap (λ (r : OwnedPacket). told_ack spelling stream r.body messages first) (sym one));
      begins = λ some. let known = begun some in sending_begins h g stream q (word_for q.body word) mode happens (subst (λ (n : ℕ). HasMode h.pump.host n kind_of.NeedId) here known.0) known.1;
      ends = λ some.
          let known = ended some in
          let counts = subst (λ (n : ℕ). Counts h g n messages) here known.2 in
          ends_handshake h g stream q (word_for q.body word) messages mode happens (subst (λ (n : ℕ). HasMode h.pump.host n kind_of.Send) here known.0) known.1 counts.0 counts.1 counts.2;
    }))

-- what an ack tells, as its answers were told
pub ack_told : (spelling other : Spelling) (stream : ℕ) (body : Body) (id : ℕ) (got : Bool) (w : Word) (messages : ℕ) (old first new : Told) → body ≡ Ack id got → w ≡ word_of got → other ≡ spelling → first ≡ old
    → new ≡ told_answers other stream w messages first → new ≡ told_ack spelling stream (body_of body) messages old
ack_told spelling other stream body id got w messages old first new is says spelt same told =
    let spelled = ap (λ (s : Spelling). told_answers s stream w messages first) spelt in
    let said = ap (λ (v : Word). told_answers spelling stream v messages first) says in
    let from = ap (λ (t : Told). told_answers spelling stream (word_of got) messages t) same in
    let by_body = ap (λ (b : Body). told_ack spelling stream (body_of b) messages old) (sym is) in
    told ∙ (spelled ∙ (said ∙ (from ∙ by_body)))

-- a packet that is no ack tells nothing
pub other_tells : (spelling : Spelling) (stream : ℕ) (body : Body) (messages : ℕ) (told : Told) → ((id : ℕ) (got : Bool) → body ≢ Ack id got) → told_ack spelling stream (body_of body) messages told ≡ told
other_tells spelling stream (NeedUid jd) messages told other = refl
other_tells spelling stream (Accept jd id) messages told other = refl
other_tells spelling stream (Send id bytes) messages told other = refl
other_tells spelling stream (Ack id got) messages told other = absurd (other id got refl)
other_tells spelling stream (Cleanup id) messages told other = refl
other_tells spelling stream (Batch id parts) messages told other = refl

-- a put shows that the message was put, or nothing
pub put_shows : (spelling : Spelling) (v w : PassState) (stream : ℕ) (m : List ℕ) (position : ℕ) (id : Name) (line : ℕ) (old new : Told) → Grown v w Sender stream (act.Put m) (put_answer (Ok position)) → new ≡ told_put spelling stream id line old
    → ShowsMore spelling v w old new
put_shows spelling v w stream m position id line old new grown is = shows_reply spelling v w old new (event v.number Sender stream (act.Put m) reply.Ok) grown (id, line, is)

pub refused_shows : (spelling : Spelling) (v w : PassState) (stream : ℕ) (m : List ℕ) (fault : PutFault) (old new : Told) → Grown v w Sender stream (act.Put m) (put_answer (Err fault)) → new ≡ old → ShowsMore spelling v w old new
refused_shows spelling v w stream m (put_fault.Full position back) old new grown is = shows_reply spelling v w old new (event v.number Sender stream (act.Put m) reply.Full) grown is
refused_shows spelling v w stream m (put_fault.Down position back) old new grown is = shows_reply spelling v w old new (event v.number Sender stream (act.Put m) reply.Down) grown is
refused_shows spelling v w stream m (put_fault.Busy back) old new grown is = shows_idle spelling v w old new grown is
refused_shows spelling v w stream m (put_fault.NoStream back) old new grown is = shows_idle spelling v w old new grown is

-- a get shows its message, or nothing
module _ (spelling : Spelling) (v w : PassState) (stream : ℕ) (old new : Told) where
  pub get_shows : (answer : Answer) (line : ℕ) (m : List ℕ) (at : ℕ) → got_at m at ≡ got_in answer → Grown v w Receiver stream act.Get answer → new ≡ told_line (message_line spelling stream line m) old → ShowsMore spelling v w old new
  get_shows None line m at got grown is = absurd (no got)
    where
      no : got_at m at ≡ None → ⊥
      no e = cc
  get_shows (Some (reply.Got n, position)) line m at got grown is =
      shows_reply spelling v w old new (event v.number Receiver stream act.Get (reply.Got n)) grown (line, is ∙ ap (λ (k : List ℕ). told_line (message_line spelling stream line k) old) (same_message m n at position got))
  get_shows (Some (reply.Ok, position)) line m at got grown is = cc
  get_shows (Some (reply.Full, position)) line m at got grown is = cc
  get_shows (Some (reply.Down, position)) line m at got grown is = cc
  get_shows (Some (reply.Nothing, position)) line m at got grown is = cc
  get_shows (Some (reply.Yes, position)) line m at got grown is = cc
  get_shows (Some (reply.No, position)) line m at got grown is = cc
  get_shows (Some (reply.NotYet, position)) line m at got grown is = cc
  get_shows (Some (reply.Done, position)) line m at got grown is = cc

  pub nothing_shows : (answer : Answer) → None ≡ got_in answer → Grown v w Receiver stream act.Get answer → new ≡ old → ShowsMore spelling v w old new
  nothing_shows None got grown is = shows_idle spelling v w old new grown is
  nothing_shows (Some (reply.Got n, position)) got grown is = cc
  nothing_shows (Some (reply.Ok, position)) got grown is = shows_reply spelling v w old new (event v.number Receiver stream act.Get reply.Ok) grown is
  nothing_shows (Some (reply.Full, position)) got grown is = shows_reply spelling v w old new (event v.number Receiver stream act.Get reply.Full) grown is
  nothing_shows (Some (reply.Down, position)) got grown is = shows_reply spelling v w old new (event v.number Receiver stream act.Get reply.Down) grown is
  nothing_shows (Some (reply.Nothing, position)) got grown is = shows_reply spelling v w old new (event v.number Receiver stream act.Get reply.Nothing) grown is
  nothing_shows (Some (reply.Yes, position)) got grown is = shows_reply spelling v w old new (event v.number Receiver stream act.Get reply.Yes) grown is
  nothing_shows (Some (reply.No, position)) got grown is = shows_reply spelling v w old new (event v.number Receiver stream act.Get reply.No) grown is
  nothing_shows (Some (reply.NotYet, position)) got grown is = shows_reply spelling v w old new (event v.number Receiver stream act.Get reply.NotYet) grown is
  nothing_shows (Some (reply.Done, position)) got grown is = shows_reply spelling v w old new (event v.number Receiver stream act.Get reply.Done) grown is

  -- an ack shows its word, or nothing
  pub ack_shows : (was_got : Bool) (position : ℕ) → Grown v w Sender stream act.Ack (ack_answer (Ok (was_got, position))) → new ≡ told_answer spelling stream (word_of was_got) old → ShowsMore spelling v w old new
  ack_shows true position grown is = shows_reply spelling v w old new (event v.number Sender stream act.Ack reply.Yes) grown is
  ack_shows false position grown is = shows_reply spelling v w old new (event v.number Sender stream act.Ack reply.No) grown is

  pub unknown_shows : (fault : AckFault) → Grown v w Sender stream act.Ack (ack_answer (Err fault)) → new ≡ old → ShowsMore spelling v w old new
  unknown_shows (ack_fault.NotYet position) grown is = shows_reply spelling v w old new (event v.number Sender stream act.Ack reply.NotYet) grown is
  unknown_shows (ack_fault.Down position) grown is = shows_reply spelling v w old new (event v.number Sender stream act.Ack reply.Down) grown is
  unknown_shows ack_fault.Busy grown is = shows_idle spelling v w old new grown is
  unknown_shows ack_fault.NoStream grown is = shows_idle spelling v w old new grown is

-- a delivery with what it shows, and then what follows it
pub delivered_then : {L S : Type 0} (h g : HostState L S) (r : Result (Unit {0}) LiveFault) (spelling other : Spelling) (bytes : List ℕ) (p : OwnedPacket) (word stream : ℕ) (mode : Mode) (settles : Bool) (messages : ℕ) (w x : PassState) (old new more : Told)
    → Spells (newest h.journal.version) bytes p → Delivered h g bytes word (Some (stream, mode)) → (settles ≡ true → HasMode h.pump.host p.stream kind_of.NeedId × (mode ≡ kind_of.Send)) → (messages ≢ 0 → HasMode h.pump.host p.stream kind_of.Send × (mode ≡ kind_of.Quiet) × Counts h g p.stream messages)
    → w ≡ g.pass → new ≡ told_ack spelling p.stream p.body messages (told_settled settles spelling stream old) → other ≡ spelling → OnOk r (ShowsMore other w x new more)
    → OnOk r (ShowsMore spelling h.pass x old more)
delivered_then h g r spelling other bytes p word stream mode settles messages w x old new more spelt delivered begun ended pass told same then =
    let first = delivery_shows h g spelling bytes p word stream mode settles messages old new spelt delivered begun ended told in
    let entered = shows_as spelling spelling h.pass g.pass h.pass w old new old new refl refl pass refl refl first in
    on_ok_weaker r (λ shows. shows_on spelling h.pass w x old new more entered (shows_as other spelling w x w x new more new more (sym same) refl refl refl refl shows)) then

-- more calls, under the spelling of the first
pub shows_after : (spelling other : Spelling) (u v w : PassState) (first second third : Told) → other ≡ spelling → ShowsMore spelling u v first second → ShowsMore other v w second third → ShowsMore spelling u w first third
shows_after spelling other u v w first second third spelt one two =
    shows_on spelling u v w first second third one (shows_as other spelling v w v w second third second third (sym spelt) refl refl refl refl two)

-- nothing happened, and nothing was shown
pub shown_none : (spelling : Spelling) (v : PassState) (old : Told) (known : Option (List ℕ)) → IsShown spelling v v old old known known
shown_none spelling v old known = record { written = []; appends = Appends-nil known; shows = shows_idle spelling v v old old refl refl }

-- of what was to be shown the front was shown
pub shown_part : (spelling : Spelling) (v w x : PassState) (old told new : Told) (before after : Option (List ℕ)) (written : List ℕ) → x ≡ w → ShowsMore spelling v w old told → Appends before after written → told ≡ behind written new → IsShown spelling v x old new before after
shown_part spelling v w x old told new before after written pass shows appends rest = record {
  written = written;
  appends = appends;
  shows = shows_as spelling spelling v w v x old told old (behind written new) refl refl pass refl (sym rest) shows;
}

-- behind what was shown before
module _ (front : List ℕ) where
  behind_line : (line : List ℕ) (told : Told) → behind front (told_line line told) ≡ told_line line (behind front told)
  behind_line line told = ap (λ (l : List ℕ). record told { text = l }) (sym (append_assoc front told.text line))

  behind_answer : (spelling : Spelling) (stream : ℕ) (w : Word) (told : Told) → behind front (told_answer spelling stream w told) ≡ told_answer spelling stream w (behind front told)
  behind_answer spelling stream w told = ap (λ (l : List ℕ). let t : Told = record { text = l; owed = answered stream told.owed } in t) (sym (append_assoc front told.text (word_line spelling stream (first_id stream told.owed) w)))

  behind_answers : (spelling : Spelling) (stream : ℕ) (w : Word) (n : ℕ) (told : Told) → behind front (told_answers spelling stream w n told) ≡ told_answers spelling stream w n (behind front told)
  behind_answers spelling stream w zero told = refl
  behind_answers spelling stream w (suc n) told = behind_answer spelling stream w (told_answers spelling stream w n told) ∙ ap (told_answer spelling stream w) (behind_answers spelling stream w n told)

  behind_settled : (settles : Bool) (spelling : Spelling) (stream : ℕ) (told : Told) → behind front (told_settled settles spelling stream told) ≡ told_settled settles spelling stream (behind front told)
  behind_settled true spelling stream told = behind_line (settled_line spelling stream) told
  behind_settled false spelling stream told = refl

  behind_ack : (spelling : Spelling) (stream : ℕ) (body : OwnedBody) (n : ℕ) (told : Told) → behind front (told_ack spelling stream body n told) ≡ told_ack spelling stream body n (behind front told)
  behind_ack spelling stream (owned.NeedUid jd) n told = refl
  behind_ack spelling stream (owned.Accept jd id) n told = refl
  behind_ack spelling stream (owned.Send id bytes) n told = refl
  behind_ack spelling stream (owned.Ack id got) n told = behind_answers spelling stream (word_of got) n told
  behind_ack spelling stream (owned.Cleanup id) n told = refl
  behind_ack spelling stream (owned.Batch id parts) n told = refl

  refusing_behind : (old new : Told) → IsRefusing old new → IsRefusing (behind front old) (behind front new)
  refusing_behind old new (refused, told) = (refused, ap (behind front) told ∙ behind_line (flat_map refused_line refused) old)

  says_behind : (spelling : Spelling) (stream : ℕ) (said : Said) (old new : Told) → Says spelling stream said old new → Says spelling stream said (behind front old) (behind front new)
  says_behind spelling stream says_nothing old new told = ap (behind front) told
  says_behind spelling stream says_put old new (id, line, told) = (id, line, ap (behind front) told ∙ ap (λ (l : List ℕ). let t : Told = record { text = l; owed = (told_put spelling stream id line old).owed } in t) (sym (append_assoc front old.text (ok_line spelling stream id line))))
  says_behind spelling stream (says_message m) old new (line, told) = (line, ap (behind front) told ∙ behind_line (message_line spelling stream line m) old)
  says_behind spelling stream (says_answer w) old new told = ap (behind front) told ∙ behind_answer spelling stream w old

  tells_behind : (seen : List Event) (spelling : Spelling) (e : Event) (old new : Told) → Tells seen spelling e old new → Tells seen spelling e (behind front old) (behind front new)
  tells_behind seen spelling e old new (inl tells) = inl (says_behind spelling e.stream (said_of e.act e.reply) old new tells)
  tells_behind seen spelling e old new (inr tells) = inr (record {
    packet = tells.packet;
    word = tells.word;
    delivered = tells.delivered;
    settles = tells.settles;
    messages = tells.messages;
    lines = ap (behind front) tells.lines ∙ (behind_ack spelling e.stream tells.packet.body tells.messages (told_settled tells.settles spelling e.stream old)
        ∙ ap (told_ack spelling e.stream tells.packet.body tells.messages) (behind_settled tells.settles spelling e.stream old));
    begins = tells.begins;
    ends = tells.ends;
  })

  shows_so : (seen : List Event) (spelling : Spelling) (events : List Event) (old new : Told) → Shows seen spelling events old new → Shows seen spelling events (behind front old) (behind front new)
  shows_so seen spelling [] old new refusing = refusing_behind old new refusing
  shows_so seen spelling (e ∷ past) old new (before, after, rest, tells, refusing) =
      (behind front before, behind front after, shows_so seen spelling past old before rest, tells_behind seen spelling e before after tells, refusing_behind after new refusing)

  shows_behind : (spelling : Spelling) (v w : PassState) (old new : Told) → ShowsMore spelling v w old new → ShowsMore spelling v w (behind front old) (behind front new)
  shows_behind spelling v w old new m = record { events = m.events; mine_is = m.mine_is; extends = m.extends; shows = shows_so w.seen spelling m.events old new m.shows }

pub shown_after : (spelling other : Spelling) (u v w : PassState) (first second third : Told) (a b c : Option (List ℕ)) → other ≡ spelling → IsShown spelling u v first second a b → IsShown other v w second third b c → IsShown spelling u w first third a c
shown_after spelling other u v w first second third a b c spelt one two = record {
  written = one.written ++ two.written;
  appends = Appends-append a b c one.written two.written one.appends two.appends;
  shows = shows_as spelling spelling u w u w first (behind one.written (behind two.written third)) first (behind (one.written ++ two.written) third) refl refl refl refl
      (ap (λ (l : List ℕ). record third { text = l }) (append_assoc one.written two.written third.text))
      (shows_after spelling other u v w first (behind one.written second) (behind one.written (behind two.written third)) spelt one.shows (shows_behind one.written other v w second (behind two.written third) two.shows));
}

-- what is told stays in front
grows_refused : (old new : Told) → IsRefusing old new → (more : List ℕ) × (new.text ≡ old.text ++ more)
grows_refused old new (refused, told) = (flat_map refused_line refused, ap (λ (t : Told). t.text) told)

grows_on : (first second third : Told) → (more : List ℕ) × (second.text ≡ first.text ++ more) → (more : List ℕ) × (third.text ≡ second.text ++ more) → (more : List ℕ) × (third.text ≡ first.text ++ more)
grows_on first second third (some, one) (more, two) = (some ++ more, two ∙ (ap (λ (l : List ℕ). l ++ more) one ∙ append_assoc first.text some more))

grows_answers : (spelling : Spelling) (stream : ℕ) (w : Word) (n : ℕ) (told : Told) → (more : List ℕ) × ((told_answers spelling stream w n told).text ≡ told.text ++ more)
grows_answers spelling stream w zero told = ([], sym (append-nil told.text))
grows_answers spelling stream w (suc n) told = let middle = told_answers spelling stream w n told in grows_on told middle (told_answer spelling stream w middle) (grows_answers spelling stream w n told) (word_line spelling stream (first_id stream middle.owed) w, refl)

grows_ack : (spelling : Spelling) (stream : ℕ) (body : OwnedBody) (n : ℕ) (told : Told) → (more : List ℕ) × ((told_ack spelling stream body n told).text ≡ told.text ++ more)
grows_ack spelling stream (owned.NeedUid jd) n told = ([], sym (append-nil told.text))
grows_ack spelling stream (owned.Accept jd id) n told = ([], sym (append-nil told.text))
grows_ack spelling stream (owned.Send id bytes) n told = ([], sym (append-nil told.text))
grows_ack spelling stream (owned.Ack id got) n told = grows_answers spelling stream (word_of got) n told
grows_ack spelling stream (owned.Cleanup id) n told = ([], sym (append-nil told.text))
grows_ack spelling stream (owned.Batch id parts) n told = ([], sym (append-nil told.text))

grows_settled : (settles : Bool) (spelling : Spelling) (stream : ℕ) (told : Told) → (more : List ℕ) × ((told_settled settles spelling stream told).text ≡ told.text ++ more)
grows_settled true spelling stream told = (settled_line spelling stream, refl)
grows_settled false spelling stream told = ([], sym (append-nil told.text))

grows_said : (spelling : Spelling) (stream : ℕ) (said : Said) (old new : Told) → Says spelling stream said old new → (more : List ℕ) × (new.text ≡ old.text ++ more)
grows_said spelling stream says_nothing old new told = ([], ap (λ (t : Told). t.text) told ∙ sym (append-nil old.text))
grows_said spelling stream says_put old new (id, line, told) = (ok_line spelling stream id line, ap (λ (t : Told). t.text) told)
grows_said spelling stream (says_message m) old new (line, told) = (message_line spelling stream line m, ap (λ (t : Told). t.text) told)
grows_said spelling stream (says_answer w) old new told = (word_line spelling stream (first_id stream old.owed) w, ap (λ (t : Told). t.text) told)

grows_told : (seen : List Event) (spelling : Spelling) (e : Event) (old new : Told) → Tells seen spelling e old new → (more : List ℕ) × (new.text ≡ old.text ++ more)
grows_told seen spelling e old new (inl tells) = grows_said spelling e.stream (said_of e.act e.reply) old new tells
grows_told seen spelling e old new (inr tells) =
    let first = told_settled tells.settles spelling e.stream old in
    let grows = grows_on old first (told_ack spelling e.stream tells.packet.body tells.messages first) (grows_settled tells.settles spelling e.stream old) (grows_ack spelling e.stream tells.packet.body tells.messages first) in
    (grows.0, ap (λ (t : Told). t.text) tells.lines ∙ grows.1)

grows_by : (seen : List Event) (spelling : Spelling) (events : List Event) (old new : Told) → Shows seen spelling events old new → (more : List ℕ) × (new.text ≡ old.text ++ more)
grows_by seen spelling [] old new refusing = grows_refused old new refusing
grows_by seen spelling (e ∷ past) old new (before, after, rest, tells, refusing) =
    grows_on old before new (grows_by seen spelling past old before rest) (grows_on before after new (grows_told seen spelling e before after tells) (grows_refused after new refusing))

-- behind a put whatever is told
pub begins_with : (spelling other : Spelling) (stream : ℕ) (id : Name) (line : ℕ) (v w : PassState) (old middle new : Told) → middle ≡ told_put spelling stream id line old → ShowsMore other v w middle new → BeginsWithPut spelling stream id line old new
begins_with spelling other stream id line v w old middle new put m =
    let grows = grows_by w.seen other m.events middle new m.shows in
    (grows.0, grows.1 ∙ (ap (λ (t : Told). t.text ++ grows.0) put ∙ append_assoc old.text (ok_line spelling stream id line) grows.0))
