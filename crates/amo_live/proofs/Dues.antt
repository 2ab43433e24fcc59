-- What is due is sent again.
use Rattle.std.proofs.Common.{◌≡◌, ◌≢◌, ℕ, zero, suc, ◌+◌, ◌-◌, ◌^◌, ◌<◌, ◌≤◌, ◌==◌, min, Bool, true, false, IsTrue, leb, ◌↔◌, if◌then◌else◌, inl, inr, Option, Some, None, Result, Ok, Err, IfOk, IfSome, List, [], ◌∷◌, ◌++◌, map, slice_get, Contains, refl, sym, ap, ◌∙◌, subst, append_assoc, append-nil, arith}
use Rattle.std.specs.Prelude.{slice_set}
use Rattle.std.specs.Option.{option_map}
use Rattle.std.proofs.lemmas.Bool.{cases_lt, eq-eqb, le-leb, leb-true, ne_eqb, true≢false}
use Rattle.std.proofs.lemmas.Option.{same_Some, slice_get-map}
use Rattle.amo_object.specs.declared.step.End.{End}
use Rattle.amo_object.specs.declared.step.End.TheVariants.{Sender, Receiver}
use Rattle.amo_packet.specs.declared.packet.OwnedPacket.{OwnedPacket}
use Rattle.amo_core.specs.declared.act.Act.{Act}
use Rattle.amo_core.specs.declared.act.Act.TheVariants as act
use Rattle.amo_core.specs.declared.mode.Mode.{Mode}
use Rattle.amo_core.specs.declared.reply.Reply.TheVariants.{Done}
use Rattle.amo_core.specs.Automaton.{Writes, row}
use Rattle.amo_world.specs.declared.event.Event.{Event}
use Rattle.amo_world.specs.Stream.{Stream, automaton_of, emission_of}
use Rattle.amo_world.specs.History.{Extends, stream_after}
use Rattle.amo_world.proofs.Extensions.{further, itself}
use Rattle.amo_book.specs.Book.{Each}
use Rattle.amo_book.specs.Charge.{IsChargeOf}
use Rattle.amo_book.specs.Pass.{event, mine}
use Rattle.amo_window.specs.declared.timers.Timer.{Timer}
use Rattle.amo_window.specs.Timers.{changed, sent, stopped}
use Rattle.amo_window.specs.Timers as timers
use Rattle.amo_window.proofs.Rising.{at_place}
use Rattle.amo_host.specs.declared.agenda.StreamMode.{StreamMode}
use Rattle.amo_host.specs.declared.fault.PumpFault.{PumpFault}
use Rattle.amo_host.specs.declared.fault.PumpFault.TheVariants as pump_fault
use Rattle.amo_host.specs.declared.turned.Kind.TheVariants as kind
use Rattle.amo_host.specs.declared.turned.Turned.{Turned}
use Rattle.amo_host.specs.declared.turned.Turned.TheVariants as turned
use Rattle.amo_host.specs.AtStream.{IsDue, IsNextDue, ResendsAt, repeated}
use Rattle.amo_host.specs.Charges.{stream_mode_of}
use Rattle.amo_host.specs.Host.{Host, retimed, streams_of}
use Rattle.amo_host.specs.Modes.{is_timed}
use Rattle.amo_host.specs.Station.{IsStation, Station}
use Rattle.amo_host.proofs.ChargeLemmas.{each_at}
use Rattle.amo_host.proofs.StationLemmas.{mode_at_place}
use Rattle.amo_book.specs.Pass.{PassState}
use Rattle.amo_live.specs.declared.given_word.GivenWord.{GivenWord}
use Rattle.amo_live.specs.Due.{CountsAnew, HasDue, HasIntervals, IsSameAt, LeavesAgain, NoneDue, Resent, SendsAgain, SendsDue, repeated_if}
use Rattle.amo_live.specs.Emitted.{OutboxState, packet_in, spelt_by}
use Rattle.amo_live.specs.Host.{HostState, Did, Happens, IsHost, Looked, Looks, Repeats, done_of, sides_from}
use Rattle.amo_live.proofs.Emissions.{each_joined, front_spelt, nothing_spelt}

-- what stands in a list that was made of another one
found_in : {A B : Type 0} (f : A → B) (xs : List A) (i : ℕ) (y : B) → slice_get (map f xs) i ≡ Some y → (x : A) × (slice_get xs i ≡ Some x) × (f x ≡ y)
found_in f [] i y at = absurd (cc)
found_in f (x ∷ xs) zero y at = (x, refl, same_Some (f x) y at)
found_in f (x ∷ xs) (suc i) y at = found_in f xs i y at

stands_in : {A B : Type 0} (f : A → B) (xs : List A) (i : ℕ) (x : A) → slice_get xs i ≡ Some x → slice_get (map f xs) i ≡ Some (f x)
stands_in f xs i x at = slice_get-map f xs i ∙ ap (option_map f) at

-- what stands where one element was set
set_other : {A : Type 0} (xs : List A) (i j : ℕ) (x : A) → j ≢ i → slice_get (slice_set xs i x) j ≡ slice_get xs j
set_other [] i j x apart = refl
set_other (y ∷ xs) zero zero x apart = absurd (apart refl)
set_other (y ∷ xs) zero (suc j) x apart = refl
set_other (y ∷ xs) (suc i) zero x apart = refl
set_other (y ∷ xs) (suc i) (suc j) x apart = set_other xs i j x (λ same. apart (ap suc same))

-- a stream stays where its mode becomes another
streams_set : (ms : List StreamMode) (i : ℕ) (m : StreamMode) (mode : Mode) → slice_get ms i ≡ Some m → streams_of (slice_set ms i (record m { mode = mode })) ≡ streams_of ms
streams_set [] i m mode at = refl
streams_set (n ∷ ms) zero m mode at = ap (λ (x : StreamMode). x.stream ∷ streams_of ms) (sym (same_Some n m at))
streams_set (n ∷ ms) (suc i) m mode at = ap (λ l. n.stream ∷ l) (streams_set ms i m mode at)

-- a changed timer, and those of other streams
module _ (change : Timer → Timer) (stream : ℕ) (ts : List Timer) (place : ℕ) (t : Timer) (at : slice_get ts place ≡ Some t) where
  changed_here : t.stream ≡ stream → slice_get (changed change stream ts) place ≡ Some (change t)
  changed_here same = stands_in (λ (u : Timer). if u.stream == stream then change u else u) ts place t at ∙ ap (λ (b : Bool). Some (if b then change t else t)) (eq-eqb t.stream stream same)

  changed_elsewhere : t.stream ≢ stream → slice_get (changed change stream ts) place ≡ Some t
  changed_elsewhere apart = stands_in (λ (u : Timer). if u.stream == stream then change u else u) ts place t at ∙ ap (λ (b : Bool). Some (if b then change t else t)) (ne_eqb t.stream stream apart)

-- two changes of one stream
twice_at : (f g : Timer → Timer) (stream : ℕ) (t : Timer) (b : Bool) → (t.stream == stream) ≡ b → (g t).stream ≡ t.stream
    → (if (if b then g t else t).stream == stream then f (if b then g t else t) else (if b then g t else t)) ≡ (if b then f (g t) else t)
twice_at f g stream t true is keeps = ap (λ (b : Bool). if b then f (g t) else g t) (ap (λ (n : ℕ). n == stream) keeps ∙ is)
twice_at f g stream t false is keeps = ap (λ (b : Bool). if b then f t else t) is

changed_twice : (f g : Timer → Timer) (stream : ℕ) → ((t : Timer) → (g t).stream ≡ t.stream) → (ts : List Timer) → changed f stream (changed g stream ts) ≡ changed (λ t. f (g t)) stream ts
changed_twice f g stream keeps [] = refl
changed_twice f g stream keeps (t ∷ ts) =
    ap (λ (u : Timer). u ∷ changed f stream (changed g stream ts)) (twice_at f g stream t (t.stream == stream) refl (keeps t))
    ∙ ap (λ (l : List Timer). (if t.stream == stream then f (g t) else t) ∷ l) (changed_twice f g stream keeps ts)

-- a resend lets the time of its stream count anew
retimed_anew : (kept : Bool) (mode : Mode) (stream now : ℕ) (ts : List Timer) → (change : Timer → Timer) × ((t : Timer) → CountsAnew now t (change t)) × (retimed kept true mode stream now ts ≡ changed change stream ts)
retimed_anew true mode stream now ts = (sent now, λ t. inl refl, refl)
retimed_anew false mode stream now ts = elim (is_timed mode) as (λ (b : Bool). (change : Timer → Timer) × ((t : Timer) → CountsAnew now t (change t)) × ((if b then changed (sent now) stream (changed stopped stream ts) else changed stopped stream ts) ≡ changed change stream ts)) [
  | true ↦ (λ t. sent now (stopped t), λ t. inr (inl refl), changed_twice (sent now) stopped stream (λ t. refl) ts)
  | false ↦ (stopped, λ t. inr (inr refl), refl)
]

anew_stream : (now : ℕ) (t u : Timer) → CountsAnew now t u → u.stream ≡ t.stream
anew_stream now t u (inl is) = ap (λ (x : Timer). x.stream) is
anew_stream now t u (inr (inl is)) = ap (λ (x : Timer). x.stream) is
anew_stream now t u (inr (inr is)) = ap (λ (x : Timer). x.stream) is

-- what is due where nothing changed of a stream
module _ (h m : Host) (stream now : ℕ) (timed : timers.streams_of h.timers ≡ streams_of h.modes) (streams : streams_of m.modes ≡ streams_of h.modes)
    (same : (place : ℕ) (t : Timer) → slice_get h.timers place ≡ Some t → t.stream ≡ stream → IsSameAt h m place) where
  due_still : IsDue h stream now → IsDue m stream now
  due_still d =
      let there = stands_in (λ (x : Timer). x.stream) h.timers d.place d.set.timer d.set.timed in
      let still = same d.place d.set.timer d.set.timed (same_Some _ _ (sym there ∙ (ap (λ l. slice_get l d.place) timed ∙ d.at))) in
      record {
        place = d.place;
        at = ap (λ l. slice_get l d.place) streams ∙ d.at;
        time = d.time;
        set = record { m = d.set.m; at = still.0 ∙ d.set.at; waiting = d.set.waiting; timer = d.set.timer; timed = still.1 ∙ d.set.timed; next = d.set.next };
        come = d.come;
      }

  due_before : IsDue m stream now → IsDue h stream now
  due_before d =
      let found = found_in (λ (x : Timer). x.stream) h.timers d.place stream (ap (λ l. slice_get l d.place) (timed ∙ sym streams) ∙ d.at) in
      let still = same d.place found.0 found.1 found.2 in
      record {
        place = d.place;
        at = sym (ap (λ l. slice_get l d.place) streams) ∙ d.at;
        time = d.time;
        set = record { m = d.set.m; at = sym still.0 ∙ d.set.at; waiting = d.set.waiting; timer = d.set.timer; timed = sym still.1 ∙ d.set.timed; next = d.set.next };
        come = d.come;
      }

-- a packet that leaves again, seen over a longer time
leaves_later : {L S : Type 0} (h m g : HostState L S) (stream : ℕ) → LeavesAgain h m stream → Extends g.pass.seen m.pass.seen → (more : List (List ℕ)) × (g.outbox.leaving ≡ m.outbox.leaving ++ more) → LeavesAgain h g stream
leaves_later h m g stream l extends (more, grew) = record {
  past = l.past;
  since = l.since;
  until = further g.pass.seen m.pass.seen l.past extends l.until;
  before = l.before;
  behind = l.behind ++ more;
  leaving = grew ∙ (ap (λ (x : List (List ℕ)). x ++ more) l.leaving ∙ simp append_assoc);
}

leaves_since : {L S : Type 0} (h m g : HostState L S) (stream : ℕ) → m.side ≡ h.side → Extends m.pass.seen h.pass.seen → (more : List (List ℕ)) × (m.outbox.leaving ≡ h.outbox.leaving ++ more) → LeavesAgain m g stream → LeavesAgain h g stream
leaves_since h m g stream side extends (more, grew) l = record {
  past = l.past;
  since = further l.past m.pass.seen h.pass.seen l.since extends;
  until = l.until;
  before = more ++ l.before;
  behind = l.behind;
  leaving =
      let packets = λ (s : End). spelt_by (emission_of (stream_after stream l.past) s act.Resend) in
      l.leaving ∙ (ap (λ (x : List (List ℕ)). x ++ (l.before ++ (packets m.side ++ l.behind))) grew
      ∙ (ap (λ (s : End). (h.outbox.leaving ++ more) ++ (l.before ++ (packets s ++ l.behind))) side ∙ simp append_assoc));
}

-- the streams of a host are its own
sides_within : (side : End) (k n j : ℕ) (of : End) (stream : ℕ) → slice_get (sides_from side k n) j ≡ Some (of, stream) → (k ≤ stream) × (stream < k + n)
sides_within side k zero j of stream at = absurd (cc)
sides_within side k (suc n) zero of stream at = let same : k ≡ stream = ap (λ (x : End × ℕ). x.1) (same_Some (side, k) (of, stream) at) in (omega arith, omega arith)
sides_within side k (suc n) (suc j) of stream at = let rest = sides_within side (suc k) n j of stream at in (omega (arith, rest.0), omega (arith, rest.1))

stream_within : {L S : Type 0} (h : HostState L S) → IsHost h → (place : ℕ) (t : Timer) → slice_get h.pump.host.timers place ≡ Some t → (1 ≤ t.stream) × (t.stream ≤ h.streams)
stream_within h is place t at =
    let timed = stands_in (λ (x : Timer). x.stream) h.pump.host.timers place t at in
    let known = found_in (λ (x : StreamMode). x.stream) h.pump.host.modes place t.stream (ap (λ l. slice_get l place) (sym is.station.host.timers) ∙ timed) in
    let charge = found_in stream_mode_of h.pump.charges place known.0 (ap (λ l. slice_get l place) is.station.modes ∙ known.1) in
    let of : charge.0.stream ≡ t.stream = ap (λ (x : StreamMode). x.stream) charge.2 ∙ known.2 in
    let own = each_at (IsChargeOf h.book.id h.book.sides) h.pump.charges place charge.0 is.together.1 charge.1 in
    let within = sides_within h.side 1 h.streams charge.0.place charge.0.side charge.0.stream (ap (λ l. slice_get l charge.0.place) (sym is.sides) ∙ own.1) in
    (omega (arith, within.0, of), omega (arith, within.1, of))

-- What became so far of what was due, of the streams up to the kth.
pub record SendsUpTo {L S : Type 0} (k now : ℕ) (h g : HostState L S) : Type 0 where
  pub again : (place : ℕ) (t : Timer) → slice_get h.pump.host.timers place ≡ Some t → t.stream ≤ k → IsDue h.pump.host t.stream now
      → LeavesAgain h g t.stream × ((u : Timer) × (slice_get g.pump.host.timers place ≡ Some u) × CountsAnew now t u)
  pub other : (place : ℕ) (t : Timer) → slice_get h.pump.host.timers place ≡ Some t → (t.stream ≤ k → ¬ (IsDue h.pump.host t.stream now)) → IsSameAt h.pump.host g.pump.host place
  pub side : g.side ≡ h.side
  pub streams : streams_of g.pump.host.modes ≡ streams_of h.pump.host.modes
  pub extends : Extends g.pass.seen h.pass.seen
  pub more : List (List ℕ)
  pub grew : g.outbox.leaving ≡ h.outbox.leaving ++ more
  pub events : List Event
  pub made : mine g.pass ≡ events ++ mine h.pass
  pub resends : Each (λ e. (e.act ≡ act.Resend) × IsDue h.pump.host e.stream now) events

-- at first
pub sends_none : {L S : Type 0} (now : ℕ) (h : HostState L S) → IsHost h → SendsUpTo 0 now h h
sends_none now h is = record {
  again = λ place t at few. let within = stream_within h is place t at in absurd (omega (arith, within.0, few));
  other = λ place t at none. (refl, refl);
  side = refl;
  streams = refl;
  extends = itself h.pass.seen;
  more = [];
  grew = sym (append-nil h.outbox.leaving);
  events = [];
  made = refl;
  resends = tt;
}

each_due : (P Q : Event → Type 0) (events : List Event) → ((e : Event) → P e → Q e) → Each P events → Each Q events
each_due P Q [] f all = tt
each_due P Q (e ∷ events) f all = (f e all.0, each_due P Q events f all.1)

-- one stream more
module _ {L S : Type 0} (k now : ℕ) (h m g : HostState L S) (is : IsHost h) (stream : ℕ) (next : stream ≡ k + 1) (so_far : SendsUpTo k now h m) where
  same_next : (place : ℕ) (t : Timer) → slice_get h.pump.host.timers place ≡ Some t → t.stream ≡ stream → IsSameAt h.pump.host m.pump.host place
  same_next place t at of = so_far.other place t at (λ few. absurd (omega (arith, next, of, few)))

  was_due : IsDue m.pump.host stream now → IsDue h.pump.host stream now
  was_due = due_before h.pump.host m.pump.host stream now is.station.host.timers so_far.streams same_next

  still_due : IsDue h.pump.host stream now → IsDue m.pump.host stream now
  still_due = due_still h.pump.host m.pump.host stream now is.station.host.timers so_far.streams same_next

  -- that was due
  pub sends_next : IsDue m.pump.host stream now → SendsAgain now m g stream → SendsUpTo (k + 1) now h g
  sends_next d s =
      let extends = further g.pass.seen s.leaves.past m.pass.seen s.leaves.until s.leaves.since in
      let packets = s.leaves.before ++ (spelt_by (emission_of (stream_after stream s.leaves.past) m.side act.Resend) ++ s.leaves.behind) in
      record {
        again = λ place t at few due. elim (cases_lt t.stream stream) [
          | inl less ↦
              let before = so_far.again place t at (omega (arith, less, next)) due in
              let same = anew_stream now t before.1.0 before.1.2 in (
                leaves_later h m g t.stream before.0 extends (packets, s.leaves.leaving),
                (
                  before.1.0,
                  ap (λ l. slice_get l place) s.timers ∙ changed_elsewhere s.change stream m.pump.host.timers place before.1.0 before.1.1 (λ e. absurd (omega (arith, less, same, e))),
                  before.1.2,
                ),
              )
          | inr most ↦
              let of : t.stream ≡ stream = omega (arith, few, next, most) in
              let still = same_next place t at of in (
                subst (λ (n : ℕ). LeavesAgain h g n) (sym of) (leaves_since h m g stream so_far.side so_far.extends (so_far.more, so_far.grew) s.leaves),
                (s.change t, ap (λ l. slice_get l place) s.timers ∙ changed_here s.change stream m.pump.host.timers place t (still.1 ∙ at) of, s.anew t),
              )
        ];
        other = λ place t at none.
            let apart : t.stream ≢ stream = λ of. none (omega (arith, of, next)) (subst (λ (n : ℕ). IsDue h.pump.host n now) (sym of) (was_due d)) in
            let still = so_far.other place t at (λ few. none (omega (arith, few))) in
            let there = stands_in (λ (x : Timer). x.stream) h.pump.host.timers place t at in
            let stands = ap (λ l. slice_get l place) (so_far.streams ∙ sym is.station.host.timers) ∙ there in (
              s.modes place t.stream stands apart ∙ still.0,
              ap (λ l. slice_get l place) s.timers ∙ (changed_elsewhere s.change stream m.pump.host.timers place t (still.1 ∙ at) apart ∙ sym at),
            );
        side = s.side ∙ so_far.side;
        streams = s.streams ∙ so_far.streams;
        extends = further g.pass.seen m.pass.seen h.pass.seen extends so_far.extends;
        more = so_far.more ++ packets;
        grew = s.leaves.leaving ∙ (ap (λ (x : List (List ℕ)). x ++ packets) so_far.grew ∙ append_assoc h.outbox.leaving so_far.more packets);
        events = s.events ++ so_far.events;
        made = s.made ∙ (ap (λ (x : List Event). s.events ++ x) so_far.made ∙ sym (append_assoc s.events so_far.events (mine h.pass)));
        resends = each_joined (λ e. (e.act ≡ act.Resend) × IsDue h.pump.host e.stream now) s.events so_far.events
            (each_due (λ e. (e.act ≡ act.Resend) × (e.stream ≡ stream)) (λ e. (e.act ≡ act.Resend) × IsDue h.pump.host e.stream now) s.events (λ e r. (r.0, subst (λ (n : ℕ). IsDue h.pump.host n now) (sym r.1) (was_due d))) s.resends)
            so_far.resends;
      }

  -- that was not
  pub skips_next : ¬ (IsDue m.pump.host stream now) → SendsUpTo (k + 1) now h m
  skips_next not = record {
    again = λ place t at few due. elim (cases_lt t.stream stream) [
      | inl less ↦ so_far.again place t at (omega (arith, less, next)) due
      | inr most ↦ absurd (not (still_due (subst (λ (n : ℕ). IsDue h.pump.host n now) (let of : t.stream ≡ stream = omega (arith, few, next, most) in of) due)))
    ];
    other = λ place t at none. so_far.other place t at (λ few. none (omega (arith, few)));
    side = so_far.side;
    streams = so_far.streams;
    extends = so_far.extends;
    more = so_far.more;
    grew = so_far.grew;
    events = so_far.events;
    made = so_far.made;
    resends = so_far.resends;
  }

-- all of them
pub sends_all : {L S : Type 0} (k now : ℕ) (h g : HostState L S) → IsHost h → h.streams ≤ k → SendsUpTo k now h g → SendsDue now h g
sends_all k now h g is all s = record {
  again = λ place t at due. let within = stream_within h is place t at in s.again place t at (omega (arith, within.1, all)) due;
  other = λ place t at none. s.other place t at (λ few. none);
  events = s.events;
  made = s.made;
  resends = s.resends;
}

-- a time that counts anew has not come
not_yet : (now interval time : ℕ) → now < 2 ^ 64 - 1 → 0 < interval → Some (min (now + interval) (2 ^ 64 - 1)) ≡ Some time → time ≤ now → ⊥
not_yet now interval time early some at come =
    let is : min (now + interval) (2 ^ 64 - 1) ≡ time = same_Some _ _ at in
    grind arith

anew_not_come : (now : ℕ) (t u : Timer) (time : ℕ) → now < 2 ^ 64 - 1 → HasIntervals t → CountsAnew now t u → u.next ≡ Some time → time ≤ now → ⊥
anew_not_come now t u time early has (inl is) next come = not_yet now t.interval time early has.0 (sym (ap (λ (x : Timer). x.next) is) ∙ next) come
anew_not_come now t u time early has (inr (inl is)) next come = not_yet now t.pace.first time early has.1 (sym (ap (λ (x : Timer). x.next) is) ∙ next) come
anew_not_come now t u time early has (inr (inr is)) next come = let none : None ≡ Some time = sym (ap (λ (x : Timer). x.next) is) ∙ next in absurd (cc)

pub none_due_in : {L S : Type 0} (k now : ℕ) (h g : HostState L S) → IsHost h → h.streams ≤ k → SendsUpTo k now h g → NoneDue now h g
none_due_in k now h g is all s = λ early has stream d.
    let found = found_in (λ (x : Timer). x.stream) h.pump.host.timers d.place stream (ap (λ l. slice_get l d.place) (is.station.host.timers ∙ sym s.streams) ∙ d.at) in
    let t = found.0 in
    let sends = sends_all k now h g is all s in
    let not : ¬ (IsDue h.pump.host t.stream now) = λ due.
    let anew = (sends.again d.place t found.1 due).1 in
    let same : d.set.timer ≡ anew.0 = same_Some _ _ (sym d.set.timed ∙ anew.1) in
    anew_not_come now t anew.0 d.time early (each_at HasIntervals h.pump.host.timers d.place t has found.1) anew.2 (ap (λ (x : Timer). x.next) (sym same) ∙ d.set.next) d.come in
    let still = sends.other d.place t found.1 not in
    not (record {
      place = d.place;
      at = ap (λ l. slice_get l d.place) (sym is.station.host.timers) ∙ stands_in (λ (x : Timer). x.stream) h.pump.host.timers d.place t found.1;
      time = d.time;
      set = record { m = d.set.m; at = sym still.0 ∙ d.set.at; waiting = d.set.waiting; timer = d.set.timer; timed = sym still.1 ∙ d.set.timed; next = d.set.next };
      come = d.come;
    })

-- what a pump's resend left of the stream's mode and time
module _ (s t : Station GivenWord) (v w : PassState) (old new : List ℕ) (stream now : ℕ) (is : IsStation s) where
  pub resent_by : (r : Result Turned PumpFault) → IfOk r (ResendsAt stream now s t v w old new) → IfOk (done_of r) (λ done. IfSome done (λ d. Resent now s t stream d.mode))
  resent_by (Ok turned.Idle) resends = absurd resends
  resent_by (Ok turned.Stranger) resends = tt
  resent_by (Ok (turned.Unread fault)) resends = absurd resends
  resent_by (Ok (turned.Did side named (kind.Start drawn) done)) resends = absurd resends
  resent_by (Ok (turned.Did side named (kind.Batch drawn) done)) resends = absurd resends
  resent_by (Ok (turned.Did side named kind.Resend done)) (place, at, here, words, h) =
      record { place = place; m = stream_mode_of h.charge; at = mode_at_place s is place h.charge h.at; of = sym h.of_stream ∙ here; noted = h.noted }
  resent_by (Ok (turned.Did side named (kind.Deliver drawn) done)) resends = absurd resends
  resent_by (Ok (turned.Did side named kind.Crash done)) resends = absurd resends
  resent_by (Ok (turned.Did side named kind.Recover done)) resends = absurd resends
  resent_by (Err pump_fault.Busy) resends = tt
  resent_by (Err pump_fault.NoMemory) resends = tt
  resent_by (Err pump_fault.NoWord) resends = tt

-- a stream stands in its place
pub contains_at : (streams : List ℕ) (place stream : ℕ) → slice_get streams place ≡ Some stream → Contains streams stream
contains_at streams place stream at = let there = at_place streams place stream stream at in (place, there.0, there.1)

-- what a row emits is the side's emission
row_emits : (s : Stream) (side : End) (a : Act) → (row (automaton_of s side) a).emitted ≡ emission_of s side a
row_emits s Sender a = refl
row_emits s Receiver a = refl

written_spelt : (packet : Option OwnedPacket) (old new : List ℕ) (length : Option ℕ) → Writes packet old new length → packet_in new length ≡ spelt_by packet
written_spelt packet old new None writes = nothing_spelt packet old new writes
written_spelt packet old new (Some n) writes = front_spelt packet old new n writes

-- a stream was sent again without an event
pub again_repeated : {L S : Type 0} (now : ℕ) (h g : HostState L S) (stream : ℕ) → g.side ≡ h.side → g.pump ≡ repeated stream now h.pump → Repeats h g h.side stream act.Resend → SendsAgain now h g stream
again_repeated now h g stream side pump r = record {
  leaves = record {
    past = g.pass.seen;
    since = r.sees.extends;
    until = itself g.pass.seen;
    before = [];
    behind = [];
    leaving = r.leaving ∙ ap (λ x. h.outbox.leaving ++ x)
        (r.repetition.emits ∙ (ap spelt_by (row_emits (stream_after stream g.pass.seen) h.side act.Resend) ∙ sym (append-nil (spelt_by (emission_of (stream_after stream g.pass.seen) h.side act.Resend)))));
  };
  side = side;
  change = sent now;
  anew = λ t. inl refl;
  timers = ap (λ (p : Station GivenWord). p.host.timers) pump;
  streams = ap (λ (p : Station GivenWord). streams_of p.host.modes) pump;
  modes = λ place other at apart. ap (λ (p : Station GivenWord). slice_get p.host.modes place) pump;
  events = [];
  made = r.sees.same.mine_stays;
  resends = tt;
}

-- or by a resend, after a look
pub again_resent : {L S : Type 0} (now : ℕ) (h m g : HostState L S) (stream : ℕ) (mode : Mode) → m.side ≡ h.side → g.side ≡ m.side → m.pump ≡ h.pump → Looked h m → Happens m g m.side stream act.Resend mode → Resent now m.pump g.pump stream mode
    → SendsAgain now h g stream
again_resent now h m g stream mode side still pump (sees, same) happens r =
    let e = event m.pass.number m.side stream act.Resend Done in
    let here : LeavesAgain m g stream = record {
      past = happens.grown.earlier;
      since = happens.grown.extends;
      until = (e ∷ [], happens.grown.seen);
      before = [];
      behind = [];
      leaving = happens.leaving ∙ ap (λ x. m.outbox.leaving ++ x)
          (written_spelt (emission_of (stream_after stream happens.grown.earlier) m.side act.Resend) happens.before happens.buffer happens.length happens.emitted
          ∙ sym (append-nil (spelt_by (emission_of (stream_after stream happens.grown.earlier) m.side act.Resend))));
    } in
    let anew = retimed_anew r.noted.kept mode r.m.stream now m.pump.host.timers in
    record {
      leaves = leaves_since h m g stream side sees.extends ([], ap (λ (o : OutboxState). o.leaving) same ∙ sym (append-nil h.outbox.leaving)) here;
      side = still ∙ side;
      change = anew.0;
      anew = anew.1;
      timers = r.noted.timers ∙ (anew.2 ∙ (ap (λ (n : ℕ). changed anew.0 n m.pump.host.timers) r.of ∙ ap (λ (p : Station GivenWord). changed anew.0 stream p.host.timers) pump));
      streams = ap (λ l. streams_of l) r.noted.modes ∙ (streams_set m.pump.host.modes r.place r.m mode r.at ∙ ap (λ (p : Station GivenWord). streams_of p.host.modes) pump);
      modes = λ place other at apart.
          let away : place ≢ r.place = λ here.
          let stands = stands_in (λ (x : StreamMode). x.stream) m.pump.host.modes r.place r.m r.at in
          let found = ap (λ (p : Station GivenWord). slice_get (streams_of p.host.modes) place) pump ∙ at in
          apart (same_Some _ _ (sym found ∙ (ap (λ (i : ℕ). slice_get (streams_of m.pump.host.modes) i) here ∙ stands)) ∙ r.of) in
          ap (λ l. slice_get l place) r.noted.modes ∙ (set_other m.pump.host.modes r.place place (record r.m { mode = mode }) away ∙ ap (λ (p : Station GivenWord). slice_get p.host.modes place) pump);
      events = e ∷ [];
      made = happens.grown.mine_grew ∙ ap (λ l. e ∷ l) sees.same.mine_stays;
      resends = ((refl, refl), tt);
    }

-- the same, of what the two calls answered
pub again_known : {L S : Type 0} (now : ℕ) (h g : HostState L S) (stream : ℕ) (known : Bool) → known ≡ true → g.side ≡ h.side → g.pump ≡ repeated_if known stream now h.pump → Looks h g stream act.Resend known → SendsAgain now h g stream
again_known now h g stream true is side pump looks = again_repeated now h g stream side pump looks
again_known now h g stream false is side pump looks = absurd (true≢false (sym is))

pub again_unknown : {L S : Type 0} (now : ℕ) (h m g : HostState L S) (stream : ℕ) (known : Bool) (mode : Option Mode) (some : Mode) → known ≡ false → mode ≡ Some some → m.side ≡ h.side → g.side ≡ m.side → m.pump ≡ repeated_if known stream now h.pump
    → Looks h m stream act.Resend known → Did m g stream act.Resend mode → IfSome mode (Resent now m.pump g.pump stream) → SendsAgain now h g stream
again_unknown now h m g stream true mode some is there side still pump looked did resent = absurd (true≢false is)
again_unknown now h m g stream false None some is there side still pump looked did resent = absurd (cc)
again_unknown now h m g stream false (Some mode) some is there side still pump looked did resent = again_resent now h m g stream mode side still pump looked did resent

-- a stream is due exactly where the first time has come
pub due_at_next : (h : Host) (now time : ℕ) → IsNextDue h (Some time) → time ≤ now → (stream : ℕ) × IsDue h stream now
due_at_next h now time is come =
    let set = is.0.1 in
    (set.m.stream, record { place = is.0.0; at = stands_in (λ (x : StreamMode). x.stream) h.modes is.0.0 set.m set.at; time = time; set = set; come = come })

pub due_if_come : (h : Host) (now time : ℕ) → IsNextDue h (Some time) → IsTrue (leb time now) ↔ HasDue h now
due_if_come h now time is = (
  λ come. due_at_next h now time is (leb-true time now come),
  λ has. let least = is.1 has.1.place has.1.time has.1.set in le-leb time now (omega (arith, least, has.1.come)),
)

pub none_if_none : (h : Host) (now : ℕ) → IsNextDue h None → IsTrue false ↔ HasDue h now
none_if_none h now none = (λ no. absurd (true≢false (sym no)), λ has. absurd (none has.1.place has.1.time has.1.set))
