-- What a pump's calls do to its pass and its charges.
use Rattle.std.proofs.Common.{◌≡◌, ℕ, Bool, true, false, zero, suc, ◌<◌, ◌≤◌, ◌^◌, List, [], ◌∷◌, ◌++◌, Contains, Option, Some, None, slice_get, slice_set, refl, sym, ap, ap₂, ◌∙◌, subst, append_assoc, append-nil}
use Rattle.atomic_table.specs.Seated.{TableId}
use Rattle.amo_object.specs.declared.step.End.{End}
use Rattle.amo_object.specs.declared.step.End.TheVariants as end
use Rattle.amo_packet.specs.declared.packet.OwnedPacket.{OwnedPacket}
use Rattle.amo_packet.specs.Grammar.{CarriesNoBytes, Spells, version_of as spelt_under}
use Rattle.amo_core.specs.declared.act.Act.{Act}
use Rattle.amo_core.specs.declared.act.Act.TheVariants as act
use Rattle.amo_core.specs.declared.reply.Reply.TheVariants as reply
use Rattle.amo_world.specs.declared.event.Event.{Event}
use Rattle.amo_book.specs.Book.{BookState}
use Rattle.amo_book.specs.Charge.{ChargeState}
use Rattle.amo_book.specs.Pass.{PassState, event}
use Rattle.amo_book.specs.declared.drive.Done.{Done}
use Rattle.amo_host.specs.Station.{Station, IsStation, moved_past}
use Rattle.amo_host.specs.Turn.{Happened, Nothing, Starts, TurnsAlone, TurnsWith, GoesDownOrUp, FailsAlone, NoEvent}
use Rattle.amo_host.specs.declared.fault.PumpFault.{PumpFault}
use Rattle.amo_host.specs.declared.fault.PumpFault.TheVariants.{Busy, NoMemory, NoWord}
use Rattle.amo_host.specs.declared.turned.Kind.{Kind}
use Rattle.amo_host.specs.declared.turned.Kind.TheVariants as kind
use Rattle.amo_host.specs.declared.turned.Turned.{Turned}
use Rattle.amo_host.specs.declared.turned.Turned.TheVariants.{Idle, Unread, Stranger, Did}
use Rattle.std.specs.Option.{option_map}
use Rattle.std.proofs.lemmas.Option.{slice_get-map}
use Rattle.amo_host.specs.Charges.{stream_mode_of}
use Rattle.amo_host.specs.Host.{IsFor, side_of, streams_of}
use Rattle.amo_host.specs.declared.agenda.StreamMode.{StreamMode}
use Rattle.amo_host.specs.declared.agenda.Task.TheVariants as task
use Rattle.std.proofs.lemmas.List.Elements.{All-nil, All-cons, All-append}
use Rattle.hex.specs.Hex.{IsBytes}
use Rattle.amo_world.specs.History.{IsRight, stream_before}
use Rattle.amo_world.specs.Stream.{Stream, reply_of}
use Rattle.amo_book.specs.Charge.{IsChargeOf}
use Rattle.amo_journal.specs.declared.version.Version.{Version}
use Rattle.amo_journal.specs.Journal.{HasAct, HasReply, IsPacketOf}
use Rattle.amo_journal.specs.Version.{newest, HasBatches}
use Rattle.amo_journal.proofs.Packets.{packet_spelt}
use Rattle.amo_run.specs.Fits.{Fits, AllFit}
use Rattle.amo_run.specs.Roster.{is_call}
use Rattle.amo_run.specs.Told.{Tells}
use Rattle.amo_run.specs.Engine.{IsDriven, tie, ties, Works, Advances, BringsBytesTo, NoneIsDue, Recorded, IsSmall, act_told, done_at, told_of, has_resent}
use Rattle.amo_run.specs.Versions.{version_for, version_of}
use Rattle.amo_run.proofs.Hosts.{each_at}
use Rattle.amo_run.proofs.Tellings.{tells_none, tells_one, tells_more}

-- a charge with the tie of the one that stood there
pub ties_set : (cs : List ChargeState) (k : ℕ) (c d : ChargeState) → slice_get cs k ≡ Some c → tie d ≡ tie c → ties (slice_set cs k d) ≡ ties cs
ties_set [] k c d at same = refl
ties_set (x ∷ xs) zero c d at same = let is : x ≡ c = cc in ap (λ t. t ∷ ties xs) (same ∙ sym (ap tie is))
ties_set (x ∷ xs) (suc k) c d at same = ap (λ l. tie x ∷ l) (ties_set xs k c d at same)

pub fit_none : (version : Version) (sides : List (End × ℕ)) (may_be : Event → Type 0) → AllFit version sides may_be []
fit_none version sides may_be = All-nil (λ (one : ℕ × Event). Fits version sides may_be one.1)

pub fit_one : (version : Version) (sides : List (End × ℕ)) (may_be : Event → Type 0) (n : ℕ) (e : Event) → Fits version sides may_be e → AllFit version sides may_be ((n, e) ∷ [])
fit_one version sides may_be n e f = All-cons (λ (one : ℕ × Event). Fits version sides may_be one.1) (n, e) [] f (fit_none version sides may_be)

resends : (version : Version) (side : End) (stream : ℕ) → HasAct version side stream act.Resend
resends version end.Sender stream = tt
resends version end.Receiver stream = tt

crashes : (version : Version) (side : End) (stream : ℕ) → HasAct version side stream act.Crash
crashes version end.Sender stream = tt
crashes version end.Receiver stream = tt

recovers : (version : Version) (side : End) (stream : ℕ) → HasAct version side stream act.Recover
recovers version end.Sender stream = tt
recovers version end.Receiver stream = tt

delivers : (version : Version) (side : End) (stream : ℕ) (p : OwnedPacket) (word : ℕ) → IsPacketOf version stream p → word < 2 ^ 64 → HasAct version side stream (act.Deliver p word)
delivers version end.Sender stream p word h small = (h, small)
delivers version end.Receiver stream p word h small = (h, small)

-- a packet for the charge in a place is one of its stream
for_stream : {W : Type 0} (s : Station W) (place : ℕ) (p : OwnedPacket) (c : ChargeState) → IsStation s → IsFor s.host place p → slice_get s.charges place ≡ Some c → p.stream ≡ c.stream
for_stream s place p c h f at =
    let modes : slice_get s.host.modes place ≡ Some (stream_mode_of c) = ap (λ l. slice_get l place) (sym h.modes) ∙ (slice_get-map stream_mode_of s.charges place ∙ ap (option_map stream_mode_of) at) in
    let streams : slice_get (streams_of s.host.modes) place ≡ Some c.stream = slice_get-map (λ (m : StreamMode). m.stream) s.host.modes place ∙ ap (option_map (λ (m : StreamMode). m.stream)) modes in
    let both : Some p.stream ≡ Some c.stream = sym f.stream ∙ streams in cc

-- only a sender starts
starts : (version : Version) (s : Stream) (side : End) (stream word : ℕ) → reply_of s side (act.Start word) ≡ Some reply.Done → word < 2 ^ 64 → HasAct version side stream (act.Start word)
starts version s end.Sender stream word is small = small
starts version s end.Receiver stream word is small = cc

starts_batch : (version : Version) (s : Stream) (side : End) (stream word : ℕ) → HasBatches version → reply_of s side (act.Batch word) ≡ Some reply.Done → word < 2 ^ 64 → HasAct version side stream (act.Batch word)
starts_batch version s end.Sender stream word has is small = (has, small)
starts_batch version s end.Receiver stream word has is small = cc

-- a pump whose messages travel together has the version with lines for that
batches_told : (together : Bool) → together ≡ true → HasBatches (version_for together)
batches_told true is = tt
batches_told false is = cc

module _ {W : Type 0} (book : BookState) (s t : Station W) (v w : PassState) where
  pub same_advances : Works book w t → t.batches ≡ s.batches → t.charges ≡ s.charges → w ≡ v → Advances book v w s t []
  same_advances b plain c h = record { together = b; charges = ap ties c; batches = plain; tells = tells_none v w h; fit = fit_none (version_of s) book.sides (IsDriven (ties s.charges)) }

  nothing : (old new : List ℕ) → Works book w t → Nothing s t v w old new → Advances book v w s t []
  nothing old new b h = same_advances b (ap (λ (x : Station W). x.batches) h.0) (ap (λ (x : Station W). x.charges) h.0) h.1

  -- an event at a charge of the book
  happened : (r : Station W) (old new : List ℕ) (place now : ℕ) (a : Act) (resent : Bool) (side : End) (stream : ℕ) (done : Done) → r.charges ≡ s.charges → r.batches ≡ s.batches → Works book v s → Works book w t
      → Happened r t v w old new place now a resent side stream done → done.position < 2 ^ 64 → HasAct (version_of s) side stream a → HasReply a reply.Done → is_call a ≡ false
      → Advances book v w s t ((done.position, event v.number side stream a reply.Done) ∷ [])
  happened r old new place now a resent side stream done same plain was b h small acts replies turn =
      let e : Event = event v.number h.charge.side h.charge.stream a reply.Done in
      let one : Tells v w ((done.position, e) ∷ []) = tells_one v w e done.position h.driven.grown h.driven.answered refl small in
      let at : slice_get s.charges place ≡ Some h.charge = sym (ap (λ l. slice_get l place) same) ∙ h.at in
      let ours : IsChargeOf book.id book.sides h.charge = each_at (IsChargeOf book.id book.sides) s.charges place h.charge was.0.1 at in
      let there : ◌≡◌ {A = End × ℕ} (side, stream) (h.charge.side, h.charge.stream) = ap₂ (λ (p : End) (q : ℕ). (p, q)) h.of_side h.of_stream in
      let tied : slice_get (ties s.charges) place ≡ Some (tie h.charge) = slice_get-map tie s.charges place ∙ ap (option_map tie) at in
      let driven : slice_get (ties s.charges) place ≡ Some (h.charge.book, (h.charge.place, (side, stream))) = subst (λ (x : End × ℕ). slice_get (ties s.charges) place ≡ Some (h.charge.book, (h.charge.place, x))) (sym there) tied in
      record {
        together = b;
        charges = ap ties h.charges ∙ (ties_set r.charges place h.charge (record h.charge { mode = done.mode }) h.at refl ∙ ap ties same);
        batches = h.batches ∙ plain;
        tells = subst (λ (x : End × ℕ). Tells v w ((done.position, event v.number x.0 x.1 a reply.Done) ∷ [])) (sym there) one;
        fit = fit_one (version_of s) book.sides (IsDriven (ties s.charges)) done.position (event v.number side stream a reply.Done) (record { place = h.charge.place; at = ours.1 ∙ sym (ap Some there); act = acts; reply = replies; made = (turn, (place, h.charge.book, h.charge.place, driven)) });
      }

  fate : (a : Act) (k : Kind) (stream now : ℕ) (turned : Turned) → act_told k None ≡ Some a → ((side : End) (named : ℕ) → HasAct (version_of s) side named a) → HasReply a reply.Done → is_call a ≡ false → Works book v s → Works book w t
      → GoesDownOrUp a k stream now s t v w turned → IsSmall turned → Advances book v w s t (told_of v.number None turned)
  fate a k stream now Idle is acts replies turn was b h small = absurd h
  fate a k stream now (Unread f) is acts replies turn was b h small = absurd h
  fate a k stream now Stranger is acts replies turn was b h small = same_advances b (ap (λ (x : Station W). x.batches) h.1) (ap (λ (x : Station W). x.charges) h.1) h.2
  fate a k stream now (Did side named j done) is acts replies turn was b (place, at, same, of, none, words, rest) small =
      subst (λ (o : Option Act). Advances book v w s t (done_at v.number side named done.position o)) (sym (ap (λ x. act_told x None) of ∙ is)) (happened s rest.0 rest.1 place now a false side named done refl refl was b rest.2 small.0 (acts side named) replies turn)

  pub crash_advances : (stream now : ℕ) (turned : Turned) → Works book v s → Works book w t → GoesDownOrUp act.Crash kind.Crash stream now s t v w turned → IsSmall turned
      → Advances book v w s t (told_of v.number None turned)
  crash_advances stream now turned was b h small = fate act.Crash kind.Crash stream now turned refl (crashes (version_of s)) tt refl was b h small

  pub recover_advances : (stream now : ℕ) (turned : Turned) → Works book v s → Works book w t → GoesDownOrUp act.Recover kind.Recover stream now s t v w turned → IsSmall turned
      → Advances book v w s t (told_of v.number None turned)
  recover_advances stream now turned was b h small = fate act.Recover kind.Recover stream now turned refl (recovers (version_of s)) tt refl was b h small

  pub failed_advances : (old new : List ℕ) → Works book w t → NoEvent s t v w old new → Advances book v w s t []
  failed_advances old new b h = same_advances b h.batches h.charges h.pass

  -- a start, of one message or of a batch
  started_advances : (to_come : W → ℕ → Option ℕ) (now : ℕ) (old new : List ℕ) (word : ℕ) (a : Act) (side : End) (stream : ℕ) (done : Done) → Works book v s → Works book w t → IsRight w.seen
      → Starts to_come now s t v w old new word a side stream done → done.position < 2 ^ 64 → ((before : Stream) → reply_of before side a ≡ Some reply.Done → HasAct (version_of s) side stream a) → HasReply a reply.Done → is_call a ≡ false
      → Advances book v w s t ((done.position, event v.number side stream a reply.Done) ∷ [])
  started_advances to_come now old new word a side stream done was b right (place, next, drew, h) small acts replies turn =
      let e : Event = event v.number h.charge.side h.charge.stream a reply.Done in
      let before : Stream = stream_before h.driven.grown.earlier e in
      let last : IsRight (e ∷ h.driven.grown.earlier) = subst IsRight h.driven.grown.seen right in
      let replied : reply_of before side a ≡ Some reply.Done = ap (λ (x : End). reply_of before x a) h.of_side ∙ last.0 in
      happened (moved_past s place) old new place now a false side stream done refl refl was b h small (acts before replied) replies turn

  pub alone_advances : (to_come : W → ℕ → Option ℕ) (now : ℕ) (old new : List ℕ) (turned : Turned) → Works book v s → Works book w t → IsRight w.seen → TurnsAlone to_come now s t v w old new turned → IsSmall turned
      → Advances book v w s t (told_of v.number None turned)
  alone_advances to_come now old new Idle was b right h small = nothing old new b h.1
  alone_advances to_come now old new (Unread f) was b right h small = absurd h
  alone_advances to_come now old new Stranger was b right h small = absurd h
  alone_advances to_come now old new (Did side stream kind.Resend done) was b right (place, next, words, h) small = happened s old new place now act.Resend true side stream done refl refl was b h small.0 (resends (version_of s) side stream) tt refl
  alone_advances to_come now old new (Did side stream (kind.Start word) done) was b right (plain, started) small =
      started_advances to_come now old new word (act.Start word) side stream done was b right started small.0 (λ before replied. starts (version_of s) before side stream word replied small.1) tt refl
  alone_advances to_come now old new (Did side stream (kind.Batch word) done) was b right (together, started) small =
      started_advances to_come now old new word (act.Batch word) side stream done was b right started small.0 (λ before replied. starts_batch (version_of s) before side stream word (batches_told s.batches together) replied small.1) tt refl
  alone_advances to_come now old new (Did side stream (kind.Deliver word) done) was b right h small = absurd h
  alone_advances to_come now old new (Did side stream kind.Crash done) was b right h small = absurd h
  alone_advances to_come now old new (Did side stream kind.Recover done) was b right h small = absurd h

  -- after a turn that was no resend nothing is due
  pub alone_ends : (to_come : W → ℕ → Option ℕ) (now : ℕ) (old new : List ℕ) (turned : Turned) → TurnsAlone to_come now s t v w old new turned → has_resent turned ≡ false → NoneIsDue s now
  alone_ends to_come now old new Idle h is = h.0.0
  alone_ends to_come now old new (Unread f) h is = absurd h
  alone_ends to_come now old new Stranger h is = absurd h
  alone_ends to_come now old new (Did side stream kind.Resend done) h is = cc
  alone_ends to_come now old new (Did side stream (kind.Start word) done) (plain, started) is = started.1.0
  alone_ends to_come now old new (Did side stream (kind.Batch word) done) (together, started) is = started.1.0
  alone_ends to_come now old new (Did side stream (kind.Deliver word) done) h is = absurd h
  alone_ends to_come now old new (Did side stream kind.Crash done) h is = absurd h
  alone_ends to_come now old new (Did side stream kind.Recover done) h is = absurd h

  -- nor after one that lacked a word: it was a start
  pub lacking_ends : (to_come : W → ℕ → Option ℕ) (now : ℕ) (fault : PumpFault) → FailsAlone to_come now s t fault → fault ≡ NoWord → NoneIsDue s now
  lacking_ends to_come now Busy h is = cc
  lacking_ends to_come now NoMemory h is = cc
  lacking_ends to_come now NoWord (task.Idle, next, fails) is = absurd fails
  lacking_ends to_come now NoWord (task.Resend place, next, fails) is = absurd fails
  lacking_ends to_come now NoWord (task.Start place, next, fails) is = next.0

  pub with_advances : (to_come : W → ℕ → Option ℕ) (known now : ℕ) (bytes old new : List ℕ) (p : OwnedPacket) (turned : Turned) → Works book v s → Works book w t → IsBytes bytes
      → Spells (newest (version_of s)) bytes p → ((q : OwnedPacket) → Spells known bytes q → p ≡ q) → TurnsWith to_come known bytes now s t v w old new turned → IsSmall turned
      → Advances book v w s t (told_of v.number (Some p) turned)
  with_advances to_come known now bytes old new p Idle was b are first one h small = absurd h
  with_advances to_come known now bytes old new p (Unread f) was b are first one h small = nothing old new b h.1
  with_advances to_come known now bytes old new p Stranger was b are first one (q, spelt, strange, h) small = nothing old new b h
  with_advances to_come known now bytes old new p (Did side stream kind.Resend done) was b are first one h small = absurd h
  with_advances to_come known now bytes old new p (Did side stream (kind.Start word) done) was b are first one h small = absurd h
  with_advances to_come known now bytes old new p (Did side stream (kind.Batch word) done) was b are first one h small = absurd h
  with_advances to_come known now bytes old new p (Did side stream (kind.Deliver word) done) was b are first one (q, place, spelt, meant, drew, h) small =
      let whole = packet_spelt (newest (version_of s)) bytes p q are first (sym (one q spelt)) in
      let told : spelt_under q.body ≤ newest (version_of s) = subst (λ (x : OwnedPacket). spelt_under x.body ≤ newest (version_of s)) (one q spelt) first.version in
      let same : q.stream ≡ stream = for_stream s place q h.charge was.1 meant h.at ∙ sym h.of_stream in
      let packet : IsPacketOf (version_of s) stream q = record { version_is = told; spellable = whole.0.0; bytes = whole.0.1; stream = same } in
      subst (λ (x : OwnedPacket). Advances book v w s t ((done.position, event v.number side stream (act.Deliver x word) reply.Done) ∷ [])) (sym (one q spelt))
      (happened s old new place now (act.Deliver q word) false side stream done refl refl was b h small.0 (delivers (version_of s) side stream q word packet small.1) tt refl)
  with_advances to_come known now bytes old new p (Did side stream kind.Crash done) was b are first one h small = absurd h
  with_advances to_come known now bytes old new p (Did side stream kind.Recover done) was b are first one h small = absurd h

  pub recorded_turn : (old new more : List (ℕ × Event)) → Advances book v w s t more → new ≡ old ++ more → Recorded book v w s t old new
  recorded_turn old new more a added = record { more = more; added = added; advances = a }

  pub recorded_none : (old new : List (ℕ × Event)) → Works book w t → t.batches ≡ s.batches → t.charges ≡ s.charges → w ≡ v → new ≡ old → Recorded book v w s t old new
  recorded_none old new b plain c h same = record { more = []; added = same ∙ sym (append-nil old); advances = same_advances b plain c h }

  -- its version is what it was
  pub same_version : (version : Version) (old new : List (ℕ × Event)) → version ≡ version_of s → Recorded book v w s t old new → version ≡ version_of t
  same_version version old new is r = is ∙ ap version_for (sym r.advances.batches)

pub recorded_more : {W : Type 0} (book : BookState) (r s t : Station W) (u v w : PassState) (a b c : List (ℕ × Event)) → Recorded book u v r s a b → Recorded book v w s t b c → Recorded book u w r t a c
recorded_more book r s t u v w a b c x y =
    let driven : AllFit (version_of s) book.sides (IsDriven (ties r.charges)) y.more = subst (λ (tied : List (TableId × (ℕ × (End × ℕ)))). AllFit (version_of s) book.sides (IsDriven tied) y.more) x.advances.charges y.advances.fit in
    let later : AllFit (version_of r) book.sides (IsDriven (ties r.charges)) y.more = subst (λ (together : Bool). AllFit (version_for together) book.sides (IsDriven (ties r.charges)) y.more) x.advances.batches driven in
    record {
      more = x.more ++ y.more;
      added = y.added ∙ (ap (λ l. l ++ y.more) x.added ∙ append_assoc a x.more y.more);
      advances = record {
        together = y.advances.together;
        charges = y.advances.charges ∙ x.advances.charges;
        batches = y.advances.batches ∙ x.advances.batches;
        tells = tells_more u v w x.more y.more x.advances.tells y.advances.tells;
        fit = All-append (λ (one : ℕ × Event). Fits (version_of r) book.sides (IsDriven (ties r.charges)) one.1) x.more y.more x.advances.fit later;
      };
    }

-- a packet with bytes for these streams of a host, which another reader found
pub brings_to : (version : ℕ) (side : End) (streams bytes : List ℕ) (p q : OwnedPacket) → Spells version bytes p → p ≡ q → ¬ (CarriesNoBytes q.body) → side_of p.body ≡ side → Contains streams p.stream
    → BringsBytesTo version side streams bytes
brings_to version side streams bytes p q spelt is some host ours = (p, spelt, host, ours, subst (λ (x : OwnedPacket). ¬ (CarriesNoBytes x.body)) (sym is) some)
