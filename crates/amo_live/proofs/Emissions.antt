-- What leaves was emitted.
use Rattle.std.proofs.Common.{◌≡◌, ℕ, ◌<◌, Bool, true, false, inl, inr, Option, Some, None, IfSome, List, [], ◌∷◌, ◌++◌, take, drop, length, slice_get, refl, sym, ap, ◌∙◌, subst, append-nil}
use Rattle.std.proofs.Math.Seq.{take-append_seam}
use Rattle.std.proofs.lemmas.List.{length-set}
use Rattle.amo_object.specs.declared.step.End.{End}
use Rattle.amo_packet.specs.declared.packet.OwnedPacket.{OwnedPacket}
use Rattle.amo_packet.specs.Grammar.{spelling}
use Rattle.amo_core.specs.declared.act.Act.{Act}
use Rattle.amo_core.specs.declared.reply.Reply.TheVariants.{Done}
use Rattle.amo_core.specs.Automaton.{Writes}
use Rattle.amo_world.specs.declared.event.Event.{Event}
use Rattle.amo_world.specs.Stream.{emission_of}
use Rattle.amo_world.specs.History.{Extends, stream_after}
use Rattle.amo_world.proofs.Extensions.{further}
use Rattle.amo_book.specs.declared.drive.Done as drive
use Rattle.amo_book.specs.declared.foresee.Foreseen.TheVariants.{Keeps}
use Rattle.amo_book.specs.Book.{Each}
use Rattle.amo_book.specs.Charge.{ChargeState, IsChargeOf}
use Rattle.amo_book.specs.Drive.{Driven}
use Rattle.amo_book.specs.Foresee.{Foresees}
use Rattle.amo_book.specs.Pass.{PassState, Answer, Grown, GrownBy, IsSamePass, event}
use Rattle.amo_host.proofs.ChargeLemmas.{each_at, each_set}
use Rattle.amo_live.specs.Emitted.{AreEmitted, IsRecent, IsRepetition, Learns, OutboxState, RecentState, WasEmitted, WereEmitted, keeping, nothing_recent, packet_in, spelt_by}
use Rattle.amo_host.specs.Station.{IsStation, Station}
use Rattle.amo_live.specs.declared.given_word.GivenWord.{GivenWord}
use Rattle.amo_live.specs.Host.{HostState, IsHost, Looks, Repeats}
use Rattle.amo_live.specs.Noted.{JournalState}
use Rattle.amo_live.proofs.Suiting.{stands}

each_weaker : {X : Type 0} (P Q : X → Type 0) (xs : List X) → ((x : X) → P x → Q x) → Each P xs → Each Q xs
each_weaker P Q [] f all = tt
each_weaker P Q (x ∷ xs) f all = (f x all.0, each_weaker P Q xs f all.1)

pub each_joined : {X : Type 0} (P : X → Type 0) (xs ys : List X) → Each P xs → Each P ys → Each P (xs ++ ys)
each_joined P [] ys all more = more
each_joined P (x ∷ xs) ys all more = (all.0, each_joined P xs ys all.1 more)

if_weaker : {X : Type 0} (P Q : X → Type 0) (o : Option X) → ((x : X) → P x → Q x) → IfSome o P → IfSome o Q
if_weaker P Q None f some = tt
if_weaker P Q (Some x) f some = f x some

-- what was emitted still was when the pass has seen more
emitted_still : (v w : PassState) → Extends w.seen v.seen → w.number ≡ v.number → (bytes : List ℕ) → WasEmitted v bytes → WasEmitted w bytes
emitted_still v w more number bytes e = record {
  event = e.event;
  past = e.past;
  stands = further w.seen v.seen (e.event ∷ e.past) more e.stands;
  own = e.own ∙ sym number;
  packet = e.packet;
  emitted = e.emitted;
  spelt = e.spelt;
}

pub all_still : (v w : PassState) (o : OutboxState) → Extends w.seen v.seen → w.number ≡ v.number → AreEmitted v o → AreEmitted w o
all_still v w o more number all = record {
  leaving = each_weaker (WasEmitted v) (WasEmitted w) o.leaving (emitted_still v w more number) all.leaving;
  recent = each_weaker (WereEmitted v) (WereEmitted w) o.recent
      (λ r were. (if_weaker (WasEmitted v) (WasEmitted w) r.of_mode (emitted_still v w more number) were.0, if_weaker (WasEmitted v) (WasEmitted w) r.answer (emitted_still v w more number) were.1)) all.recent;
}

-- the pass grew by an event of its own
pub grown_extends : (v w : PassState) (e : Event) → GrownBy v w e → Extends w.seen v.seen
grown_extends v w e g = let older = g.extends in (e ∷ older.0, g.seen ∙ ap (λ l. e ∷ l) older.1)

-- the event that was seen last emitted what stands at the front of the buffer
front_emitted : (w : PassState) (e : Event) (past : List Event) (packet : Option OwnedPacket) (old new : List ℕ) (length : Option ℕ) → Writes packet old new length
    → emission_of (stream_after e.stream past) e.side e.act ≡ packet → w.seen ≡ e ∷ past → e.pass ≡ w.number → Each (WasEmitted w) (packet_in new length)
front_emitted w e past None old new length (same, none) emits seen own = subst (λ (n : Option ℕ). Each (WasEmitted w) (packet_in new n)) (sym none) tt
front_emitted w e past (Some p) old new written (spellable, front, some) emits seen own =
    let n = length (spelling p) in
    let spelt : take n new ≡ spelling p = ap (take n) front ∙ take-append_seam (spelling p) (drop n old) in
    subst (λ (n : Option ℕ). Each (WasEmitted w) (packet_in new n)) (sym some)
    (record { event = e; past = past; stands = ([], seen); own = own; packet = p; emitted = emits; spelt = spelt }, tt)

pub act_emitted : (v w : PassState) (c d : ChargeState) (a : Act) (old new : List ℕ) (done : drive.Done) → Driven v w c d a old new done → Each (WasEmitted w) (packet_in new done.length)
act_emitted v w c d a old new done driven =
    let grown = driven.grown in
    front_emitted w (event v.number c.side c.stream a Done) grown.earlier (emission_of (stream_after c.stream grown.earlier) c.side a) old new done.length driven.emitted refl grown.seen (sym grown.number)

keeping_emitted : (w : PassState) (is_answer : Bool) (packet : List ℕ) (r : RecentState) → WasEmitted w packet → WereEmitted w r → WereEmitted w (keeping is_answer packet r)
keeping_emitted w true packet r was were = (were.0, was)
keeping_emitted w false packet r was were = (was, were.1)

-- what was kept of emitted packets was emitted
learnt : (w : PassState) (place : ℕ) (is_answer : Bool) (old new : List RecentState) (packets : List (List ℕ)) → place < length old → Each (WasEmitted w) packets → Learns place is_answer old new packets
    → Each (WereEmitted w) old → Each (WereEmitted w) new × (length new ≡ length old)
learnt w place is_answer old new [] within emitted same all = (subst (Each (WereEmitted w)) (sym same) all, ap length same)
learnt w place is_answer old new (packet ∷ packets) within emitted learns all =
    let there = stands old place within in let r = there.0 in
    let is = learns r there.1 in
    let kept = keeping is_answer packet r in (
      subst (Each (WereEmitted w)) (sym is) (each_set (WereEmitted w) old place kept all (keeping_emitted w is_answer packet r emitted.0 (each_at (WereEmitted w) old place r all there.1))),
      ap length is ∙ length-set old place kept,
    )

-- what an act emitted is to leave, and was kept
pub all_learnt : (w : PassState) (place : ℕ) (is_answer : Bool) (o m : OutboxState) (packets : List (List ℕ)) → place < length o.recent → AreEmitted w o → Each (WasEmitted w) packets
    → m.leaving ≡ o.leaving ++ packets → Learns place is_answer o.recent m.recent packets → AreEmitted w m × (length m.recent ≡ length o.recent)
all_learnt w place is_answer o m packets within all emitted leaving learns =
    let kept = learnt w place is_answer o.recent m.recent packets within emitted learns all.recent in
    (record { leaving = subst (Each (WasEmitted w)) (sym leaving) (each_joined (WasEmitted w) o.leaving packets all.leaving emitted); recent = kept.0 }, kept.1)

-- a packet that is known of late was emitted
recent_emitted : (w : PassState) (r : RecentState) (bytes : List ℕ) → WereEmitted w r → IsRecent r bytes → WasEmitted w bytes
recent_emitted w r bytes were (inl is) = subst (λ (o : Option (List ℕ)). IfSome o (WasEmitted w)) is were.0
recent_emitted w r bytes were (inr is) = subst (λ (o : Option (List ℕ)). IfSome o (WasEmitted w)) is were.1

pub known_emitted : (w : PassState) (recent : List RecentState) (place : ℕ) (bytes : List ℕ) → place < length recent → Each (WereEmitted w) recent
    → ((r : RecentState) → slice_get recent place ≡ Some r → IsRecent r bytes) → WasEmitted w bytes
known_emitted w recent place bytes within all known =
    let there = stands recent place within in
    recent_emitted w there.0 bytes (each_at (WereEmitted w) recent place there.0 all there.1) (known there.0 there.1)

-- nothing was emitted of late at first
pub nothing_emitted : (w : PassState) (recent : List RecentState) → Each (λ r. r ≡ nothing_recent) recent → Each (WereEmitted w) recent
nothing_emitted w recent none = each_weaker (λ (r : RecentState). r ≡ nothing_recent) (WereEmitted w) recent (λ r is. subst (WereEmitted w) (sym is) (tt, tt)) none

-- what was written is the packet that was emitted, if there is one
pub nothing_spelt : (packet : Option OwnedPacket) (old new : List ℕ) → Writes packet old new None → [] ≡ spelt_by packet
nothing_spelt None old new writes = refl
nothing_spelt (Some p) old new (spellable, front, some) = cc

pub front_spelt : (packet : Option OwnedPacket) (old new : List ℕ) (n : ℕ) → Writes packet old new (Some n) → take n new ∷ [] ≡ spelt_by packet
front_spelt None old new n (same, none) = cc
front_spelt (Some p) old new n (spellable, front, some) =
    let count : n ≡ length (spelling p) = cc in
    ap (λ (l : List ℕ). l ∷ []) (ap (λ (k : ℕ). take k new) count ∙ (ap (take (length (spelling p))) front ∙ take-append_seam (spelling p) (drop (length (spelling p)) old)))

-- an act that keeps the state and emits nothing
pub repeats_none : (v w : PassState) (c : ChargeState) (a : Act) (old new : List ℕ) → Foresees v w c a old new (Keeps None) → IsRepetition w c.side c.stream a []
repeats_none v w c a old new f = record { keeps = f.tells.0; emits = nothing_spelt _ old new f.tells.1; emitted = tt }

-- and one that emits what was emitted before
pub repeats_one : (v w : PassState) (c : ChargeState) (a : Act) (old new : List ℕ) (n : ℕ) → Foresees v w c a old new (Keeps (Some n)) → WasEmitted w (take n new) → IsRepetition w c.side c.stream a (take n new ∷ [])
repeats_one v w c a old new n f was = record { keeps = f.tells.0; emits = front_spelt _ old new n f.tells.1; emitted = (was, tt) }

-- a host after a client's call
pub host_called : {L S : Type 0} (h : HostState L S) (k : JournalState S) (w : PassState) (side : End) (stream : ℕ) (a : Act) (answer : Answer) → IsHost h → Grown h.pass w side stream a answer → IsHost (record h { pass = w; journal = k })
host_called h k w side stream a None is same = record {
  together = (ap (λ (p : PassState). p.book) same ∙ is.together.0, is.together.1);
  station = is.station;
  side = is.side;
  few = is.few;
  sides = is.sides;
  places = is.places;
  number = ap (λ (p : PassState). p.number) same ∙ is.number;
  silent = is.silent;
  emitted = subst (λ (p : PassState). AreEmitted p h.outbox) (sym same) is.emitted;
}
host_called h k w side stream a (Some (reply, position)) is grown = record {
  together = (grown.book ∙ is.together.0, is.together.1);
  station = is.station;
  side = is.side;
  few = is.few;
  sides = is.sides;
  places = is.places;
  number = grown.number ∙ is.number;
  silent = is.silent;
  emitted = all_still h.pass w h.outbox (grown_extends h.pass w (event h.pass.number side stream a reply) grown) grown.number is.emitted;
}

-- and after a look
pub host_seen : {L S : Type 0} (h : HostState L S) (w : PassState) → IsHost h → IsSamePass h.pass w → Extends w.seen h.pass.seen → IsHost (record h { pass = w })
host_seen h w is same more = record {
  together = (same.book ∙ is.together.0, is.together.1);
  station = is.station;
  side = is.side;
  few = is.few;
  sides = is.sides;
  places = is.places;
  number = same.number ∙ is.number;
  silent = is.silent;
  emitted = all_still h.pass w h.outbox more same.number is.emitted;
}

-- and with a pump that has other times
pub host_timed : {L S : Type 0} (h : HostState L S) (pump : Station GivenWord) → IsHost h → pump.charges ≡ h.pump.charges → pump.host.side ≡ h.pump.host.side → IsStation pump → IsHost (record h { pump = pump })
host_timed h pump is charges side station = record {
  together = (is.together.0, subst (Each (IsChargeOf h.book.id h.book.sides)) (sym charges) is.together.1);
  station = station;
  side = side ∙ is.side;
  few = is.few;
  sides = is.sides;
  places = is.places;
  number = is.number;
  silent = is.silent;
  emitted = is.emitted;
}

-- what was emitted may leave again
again_emitted : (w : PassState) (o m : OutboxState) (place : ℕ) (bytes : List ℕ) (known : Bool) → AreEmitted w o → place < length o.recent
    → (known ≡ true → m.leaving ≡ o.leaving ++ bytes ∷ []) → (known ≡ true → (r : RecentState) → slice_get o.recent place ≡ Some r → IsRecent r bytes) → (known ≡ false → m.leaving ≡ o.leaving) → m.recent ≡ o.recent → AreEmitted w m
again_emitted w o m place bytes true all within again known other recent = record {
  leaving = subst (Each (WasEmitted w)) (sym (again refl)) (each_joined (WasEmitted w) o.leaving (bytes ∷ []) all.leaving (known_emitted w o.recent place bytes within all.recent (known refl), tt));
  recent = subst (Each (WereEmitted w)) (sym recent) all.recent;
}
again_emitted w o m place bytes false all within again known other recent = record {
  leaving = subst (Each (WasEmitted w)) (sym (other refl)) all.leaving;
  recent = subst (Each (WereEmitted w)) (sym recent) all.recent;
}

pub host_repeated : {L S : Type 0} (h : HostState L S) (m : OutboxState) (w : PassState) (place : ℕ) (bytes : List ℕ) (known : Bool) → IsHost h → IsSamePass h.pass w → Extends w.seen h.pass.seen → place < length h.outbox.recent
    → (known ≡ true → m.leaving ≡ h.outbox.leaving ++ bytes ∷ []) → (known ≡ true → (r : RecentState) → slice_get h.outbox.recent place ≡ Some r → IsRecent r bytes) → (known ≡ false → m.leaving ≡ h.outbox.leaving) → m.recent ≡ h.outbox.recent
    → IsHost (record h { pass = w; outbox = m })
host_repeated h m w place bytes known is same more within again are other recent =
    let seen = host_seen h w is same more in record {
      together = seen.together;
      station = seen.station;
      side = seen.side;
      few = seen.few;
      sides = seen.sides;
      places = ap length recent ∙ seen.places;
      number = seen.number;
      silent = seen.silent;
      emitted = again_emitted w h.outbox m place bytes known seen.emitted within again are other recent;
    }

-- what came of a look at an act: it keeps the state, and emits nothing
looks_none_at : {L S : Type 0} (h g : HostState L S) (c : ChargeState) (a : Act) (old new : List ℕ) → Foresees h.pass g.pass c a old new (Keeps None) → g.outbox ≡ h.outbox → Repeats h g c.side c.stream a
looks_none_at h g c a old new f same = record {
  sees = record { same = f.same; extends = f.extends };
  again = [];
  repetition = repeats_none h.pass g.pass c a old new f;
  leaving = ap (λ (o : OutboxState). o.leaving) same ∙ sym (append-nil h.outbox.leaving);
  recent = ap (λ (o : OutboxState). o.recent) same;
}

same_outbox : (o m : OutboxState) → m.leaving ≡ o.leaving → m.recent ≡ o.recent → m ≡ o
same_outbox o m leaving recent =
    let one : m ≡ record { leaving = o.leaving; recent = m.recent } = ap (λ (l : List (List ℕ)). let x : OutboxState = record { leaving = l; recent = m.recent } in x) leaving in
    one ∙ ap (λ (r : List RecentState). let x : OutboxState = record { leaving = o.leaving; recent = r } in x) recent

-- the same, at the host's side of a stream
pub looks_none : {L S : Type 0} (h g : HostState L S) (stream : ℕ) (c : ChargeState) (a : Act) (old new : List ℕ) → c.side ≡ h.side → c.stream ≡ stream → Foresees h.pass g.pass c a old new (Keeps None) → g.outbox ≡ h.outbox → Looks h g stream a true
looks_none h g stream c a old new of at f same = subst (λ (s : End). Repeats h g s stream a) of (subst (λ (n : ℕ). Repeats h g c.side n a) at (looks_none_at h g c a old new f same))

-- or a packet that it emitted of late, or did not
pub looks_some : {L S : Type 0} (h g : HostState L S) (stream : ℕ) (c : ChargeState) (a : Act) (old new : List ℕ) (n place : ℕ) (known : Bool) → c.side ≡ h.side → c.stream ≡ stream → Foresees h.pass g.pass c a old new (Keeps (Some n))
    → AreEmitted h.pass h.outbox → place < length h.outbox.recent
    → (known ≡ true → g.outbox.leaving ≡ h.outbox.leaving ++ take n new ∷ []) → (known ≡ true → (r : RecentState) → slice_get h.outbox.recent place ≡ Some r → IsRecent r (take n new))
    → (known ≡ false → g.outbox.leaving ≡ h.outbox.leaving) → g.outbox.recent ≡ h.outbox.recent → Looks h g stream a known
looks_some h g stream c a old new n place true of at f all within again known other recent =
    let still = all_still h.pass g.pass h.outbox f.extends f.same.number all in
    let here : Repeats h g c.side c.stream a = record {
      sees = record { same = f.same; extends = f.extends };
      again = take n new ∷ [];
      repetition = repeats_one h.pass g.pass c a old new n f (known_emitted g.pass h.outbox.recent place (take n new) within still.recent (known refl));
      leaving = again refl;
      recent = recent;
    } in
    subst (λ (s : End). Repeats h g s stream a) of (subst (λ (k : ℕ). Repeats h g c.side k a) at here)
looks_some h g stream c a old new n place false of at f all within again known other recent = (record { same = f.same; extends = f.extends }, same_outbox h.outbox g.outbox (other refl) recent)
