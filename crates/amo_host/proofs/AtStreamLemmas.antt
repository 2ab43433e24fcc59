-- What a pump knows of one stream.
use Rattle.std.proofs.Common.{◌≡◌, ℕ, zero, suc, ◌+◌, ◌<◌, ◌≤◌, min, Bool, true, false, Option, Some, None, IfSome, IfNone, List, [], ◌∷◌, slice_get, get_or, length, refl, sym, ap, subst, ◌∙◌, inl, inr, arith}
use Rattle.std.proofs.Math.Nat.{min-eq_left, min-eq_right, min-le_left, min-le_right}
use Rattle.std.proofs.lemmas.Bool.{cases_lt}
use Rattle.std.proofs.lemmas.List.{length-map}
use Rattle.std.proofs.lemmas.Option.{same_Some, slice_get_within}
use Rattle.amo_window.specs.declared.timers.Timer.{Timer}
use Rattle.amo_window.specs.Timers as timers
use Rattle.amo_core.specs.declared.mode.Mode.{Mode}
use Rattle.amo_host.specs.declared.agenda.StreamMode.{StreamMode}
use Rattle.amo_host.specs.AtStream.{HasMode, IsDue, IsNextDue, IsSet, MayBegin, ResendsAt, StartsAt, earlier, with_timers}
use Rattle.amo_core.specs.declared.mode.Mode.TheVariants.{Quiet}
use Rattle.amo_host.specs.Modes.{waits}
use Rattle.amo_host.specs.Host.{Host, IsAt, IsHost, IsQuiet, streams_of}
use Rattle.amo_host.specs.Station.{Station, IsStation}
use Rattle.amo_core.specs.declared.act.Act.{Act}
use Rattle.amo_core.specs.declared.act.Act.TheVariants as act
use Rattle.amo_book.specs.Charge.{ChargeState}
use Rattle.amo_book.specs.Pass.{PassState}
use Rattle.amo_host.specs.declared.turned.Turned.{Turned}
use Rattle.amo_host.specs.declared.turned.Turned.TheVariants.{Idle, Unread, Stranger, Did}
use Rattle.amo_host.specs.Kind.{start_under}
use Rattle.amo_host.specs.Turn.{Drew, Performed}
use Rattle.amo_window.proofs.TimersLemmas.{streams_of-changed}
use Rattle.amo_window.proofs.Rising.{at_place, rises_far}
use Rattle.amo_host.proofs.HostLemmas.{retimed_host}
use Rattle.amo_host.proofs.StationLemmas.{read_at, stream_at_place}

-- of the places below this one no time is set, or this is the earliest
abbrev pub IsEarliest : Host → ℕ → Option ℕ → Type 0
IsEarliest h n None = (place time : ℕ) → place < n → ¬ (IsSet h place time)
IsEarliest h n (Some time) = ((place : ℕ) × (place < n) × IsSet h place time) × ((place other : ℕ) → place < n → IsSet h place other → time ≤ other)

-- one place has one time
pub one_time : (h : Host) (place one other : ℕ) → IsSet h place one → IsSet h place other → one ≡ other
one_time h place one other first second =
    let same : first.timer ≡ second.timer = same_Some first.timer second.timer (sym first.timed ∙ second.timed) in
    same_Some one other (sym first.next ∙ ap (λ (t : Timer). t.next) same ∙ second.next)

-- what holds below a place and in it holds below the next one
module _ (h : Host) (n : ℕ) where
  below_next : (P : ℕ → Type 0) → ((place : ℕ) → place < n → P place) → P n → (place : ℕ) → place < n + 1 → P place
  below_next P below here place within = elim (cases_lt place n) [
    | inl before ↦ below place before
    | inr after ↦ subst P (sym (let same : place ≡ n = omega (arith, within, after) in same)) here
  ]

  pub earliest-next : (least found : Option ℕ) → IsEarliest h n least → IfSome found (IsSet h n) → IfNone found ((time : ℕ) → ¬ (IsSet h n time)) → IsEarliest h (n + 1) (earlier least found)
  earliest-next None None none some absent = λ place time within set.
      below_next (λ p. ¬ (IsSet h p time)) (λ p before. none p time before) (absent time) place within set
  earliest-next None (Some time) none some absent = (
    (n, omega arith, some),
    λ place other within set. below_next (λ p. IsSet h p other → time ≤ other) (λ p before at. absurd (none p other before at)) (λ at. omega (arith, one_time h n time other some at)) place within set,
  )
  earliest-next (Some time) None least some absent = (
    (least.0.0, omega (arith, least.0.1), least.0.2),
    λ place other within set. below_next (λ p. IsSet h p other → time ≤ other) (λ p before at. least.1 p other before at) (λ at. absurd (absent other at)) place within set,
  )
  earliest-next (Some one) (Some other) least some absent = (
    elim (cases_lt one other) [
      | inl less ↦ (least.0.0, omega (arith, least.0.1), subst (IsSet h least.0.0) (sym (min-eq_left (omega (arith, less)))) least.0.2)
      | inr more ↦ (n, omega arith, subst (IsSet h n) (sym (min-eq_right (omega (arith, more)))) some)
    ],
    λ place time within set. below_next (λ p. IsSet h p time → min one other ≤ time)
        (λ p before at. omega (arith, least.1 p time before at, min-le_left one other)) (λ at. omega (arith, one_time h n other time some at, min-le_right one other)) place within set,
  )

-- the earliest of all places is the next one
pub earliest_is_next : (h : Host) (least : Option ℕ) (n : ℕ) → length h.modes ≤ n → IsEarliest h n least → IsNextDue h least
earliest_is_next h None n all none = λ place time set. none place time (omega (arith, all, slice_get_within h.modes place set.m set.at)) set
earliest_is_next h (Some time) n all least =
    ((least.0.0, least.0.2), λ place other set. least.1 place other (omega (arith, all, slice_get_within h.modes place set.m set.at)) set)

-- the charge of a stream, as the host knows it
pub found_mode : (ls : List StreamMode) (i s : ℕ) → slice_get (streams_of ls) i ≡ Some s → (m : StreamMode) × (slice_get ls i ≡ Some m) × (m.stream ≡ s)
found_mode [] i s at = absurd (cc)
found_mode (l ∷ ls) zero s at = (l, refl, same_Some l.stream s at)
found_mode (l ∷ ls) (suc i) s at = found_mode ls i s at

-- which is in its mode
pub has_mode : (h : Host) (place stream : ℕ) (mode : Mode) → slice_get (streams_of h.modes) place ≡ Some stream → ((m : StreamMode) → IsAt h place m → mode ≡ m.mode) → HasMode h stream mode
has_mode h place stream mode at is =
    let found = found_mode h.modes place stream at in
    (place, found.1 ∙ ap Some (ap (λ s. record { stream = s; mode = found.0.mode }) found.2 ∙ ap (λ m. record { stream = stream; mode = m }) (sym (is found.0 found.1))))

-- a pump with other timers of its streams
pub station_retimed : {W : Type 0} (s : Station W) (ts : List Timer) → IsStation s → timers.streams_of ts ≡ timers.streams_of s.host.timers → IsStation (with_timers s ts)
station_retimed s ts is same = record { host = retimed_host s.host ts is.host same; modes = is.modes; sides = is.sides }

-- what stands in a place
pub mode_there : (ls : List StreamMode) (i : ℕ) → i < length ls → (m : StreamMode) × (slice_get ls i ≡ Some m)
mode_there [] i within = absurd (omega arith)
mode_there (l ∷ ls) zero within = (l, refl)
mode_there (l ∷ ls) (suc i) within = mode_there ls i (omega (arith, within))

timer_there : (ls : List Timer) (i : ℕ) → i < length ls → (t : Timer) × (slice_get ls i ≡ Some t)
timer_there [] i within = absurd (omega arith)
timer_there (l ∷ ls) zero within = (l, refl)
timer_there (l ∷ ls) (suc i) within = timer_there ls i (omega (arith, within))

-- what a look at one place tells of its time
module _ (h : Host) (place : ℕ) (mode : Mode) (is : (m : StreamMode) → IsAt h place m → mode ≡ m.mode) where
  pub time_known : (r : Option ℕ) → waits mode ≡ true → IsHost h → place < length h.modes → ((t : Timer) → slice_get h.timers place ≡ Some t → r ≡ t.next) → IfSome r (IsSet h place) × IfNone r ((time : ℕ) → ¬ (IsSet h place time))
  time_known None waiting host within read = (tt, λ time set. absurd (cc (read set.timer set.timed, set.next)))
  time_known (Some time) waiting host within read =
      let m = mode_there h.modes place within in
      let t = timer_there h.timers place (omega (arith, within, length-map h.timers (λ (x : Timer). x.stream), length-map h.modes (λ (x : StreamMode). x.stream), ap (λ (l : List ℕ). length l) host.timers)) in
      (record { m = m.0; at = m.1; waiting = ap waits (sym (is m.0 m.1)) ∙ waiting; timer = t.0; timed = t.1; next = sym (read t.0 t.1) }, tt)

  -- and whether its charge is at rest
  pub quiet_there : place < length h.modes → mode ≡ Quiet → IsQuiet h place
  quiet_there within quiet =
      let m = mode_there h.modes place within in
      (m.0.stream, m.1 ∙ ap (λ k. Some (record { stream = m.0.stream; mode = k })) (sym (is m.0 m.1) ∙ quiet))

  pub there_quiet : IsQuiet h place → mode ≡ Quiet
  there_quiet quiet = is (record { stream = quiet.0; mode = Quiet }) quiet.1

-- the charge of a stream, as it was read
pub charge_there : {W : Type 0} (s : Station W) → IsStation s → (place stream : ℕ) (c : ChargeState) → place < length s.charges → c ≡ get_or s.charges place c
    → slice_get (streams_of s.host.modes) place ≡ Some stream → (slice_get s.charges place ≡ Some c) × (c.stream ≡ stream)
charge_there s is place stream c within read at =
    let here = read_at s.charges place c within read in
    (here, same_Some c.stream stream (sym (stream_at_place s is place c here) ∙ at))

-- a stream has one place
pub one_place : (h : Host) → IsHost h → (stream one other : ℕ) → slice_get (streams_of h.modes) one ≡ Some stream → slice_get (streams_of h.modes) other ≡ Some stream → one ≡ other
one_place h host stream one other first second =
    let here = at_place (streams_of h.modes) one stream 0 first in
    let there = at_place (streams_of h.modes) other stream 0 second in
    let up : one < other → ⊥ = λ less. omega (arith, rises_far (streams_of h.modes) host.streams.rising one other less there.0, here.1, there.1) in
    let down : other < one → ⊥ = λ less. omega (arith, rises_far (streams_of h.modes) host.streams.rising other one less here.0, here.1, there.1) in
    elim (cases_lt one other) [ inl less ↦ absurd (up less) | inr more ↦ elim (cases_lt other one) [ inl less ↦ absurd (down less) | inr same ↦ omega (arith, more, same) ] ]

-- so what is due is set there
pub due_there : (h : Host) → IsHost h → (place stream now : ℕ) → slice_get (streams_of h.modes) place ≡ Some stream → (d : IsDue h stream now) → IsSet h place d.time
due_there h host place stream now at d = subst (λ p. IsSet h p d.time) (one_place h host stream d.place place d.at at) d.set

-- the packet of a mode, emitted again at the charge of this stream
pub resends : {W : Type 0} (s t : Station W) (v w : PassState) (old new : List ℕ) (place now stream : ℕ) (turned : Turned) → IsStation s
    → slice_get (streams_of s.host.modes) place ≡ Some stream → t.words ≡ s.words → Performed s t v w old new place now act.Resend turned → ResendsAt stream now s t v w old new turned
resends s t v w old new place now stream (Did side named k d) is at words done =
    let h = done.1 in
    subst (λ j. ResendsAt stream now s t v w old new (Did side named j d)) (sym done.0)
    (place, at, h.of_stream ∙ same_Some h.charge.stream stream (sym (stream_at_place s is place h.charge h.at) ∙ at), words, h)
resends s t v w old new place now stream Idle is at words done = absurd done
resends s t v w old new place now stream (Unread fault) is at words done = absurd done
resends s t v w old new place now stream Stranger is at words done = absurd done

-- a stream that was sent again
module _ {W : Type 0} (s : Station W) (h : Host) (place stream now : ℕ) where
  pub now_repeated : slice_get (streams_of s.host.modes) place ≡ Some stream → ((m : StreamMode) → IsAt s.host place m → h ≡ record s.host { timers = timers.changed (timers.sent now) m.stream s.host.timers })
      → h ≡ record s.host { timers = timers.changed (timers.sent now) stream s.host.timers }
  now_repeated at made =
      let found = found_mode s.host.modes place stream at in
      made found.0 found.1 ∙ ap (λ (n : ℕ). record s.host { timers = timers.changed (timers.sent now) n s.host.timers }) found.2

  pub station_repeated : IsStation s → slice_get (streams_of s.host.modes) place ≡ Some stream → ((m : StreamMode) → IsAt s.host place m → h ≡ record s.host { timers = timers.changed (timers.sent now) m.stream s.host.timers })
      → IsStation (record s { host = h })
  station_repeated is at made = subst (λ (g : Host). IsStation (record s { host = g })) (sym (now_repeated at made))
      (station_retimed s (timers.changed (timers.sent now) stream s.host.timers) is (streams_of-changed (timers.sent now) stream (λ t. refl) s.host.timers))

-- a handshake that is begun at the charge of this stream
module _ {W : Type 0} (to_come : W → ℕ → Option ℕ) (s m t : Station W) (v w : PassState) (old new : List ℕ) (place now stream word : ℕ) where
  begun : (b : Bool) → s.batches ≡ b → (turned : Turned) → IsStation s → slice_get (streams_of s.host.modes) place ≡ Some stream → MayBegin s.host place → Drew to_come s.words t.words word
      → Performed (record s { words = m.words }) t v w old new place now (start_under b word) turned → StartsAt to_come stream now s t v w old new turned
  begun true together (Did side named k d) is at may drew done =
      let h = done.1 in
      subst (λ j. StartsAt to_come stream now s t v w old new (Did side named j d)) (sym done.0) (
        together,
        (
          place,
          at,
          may,
          h.of_stream ∙ same_Some h.charge.stream stream (sym (stream_at_place s is place h.charge h.at) ∙ at),
          drew,
          record { charge = h.charge; at = h.at; of_side = h.of_side; of_stream = h.of_stream; driven = h.driven; charges = h.charges; noted = h.noted; batches = h.batches },
        ),
      )
  begun false alone (Did side named k d) is at may drew done =
      let h = done.1 in
      subst (λ j. StartsAt to_come stream now s t v w old new (Did side named j d)) (sym done.0) (
        alone,
        (
          place,
          at,
          may,
          h.of_stream ∙ same_Some h.charge.stream stream (sym (stream_at_place s is place h.charge h.at) ∙ at),
          drew,
          record { charge = h.charge; at = h.at; of_side = h.of_side; of_stream = h.of_stream; driven = h.driven; charges = h.charges; noted = h.noted; batches = h.batches },
        ),
      )
  begun b set Idle is at may drew done = absurd done
  begun b set (Unread fault) is at may drew done = absurd done
  begun b set Stranger is at may drew done = absurd done

  pub starts : (a : Act) (turned : Turned) → IsStation s → slice_get (streams_of s.host.modes) place ≡ Some stream → MayBegin s.host place → Drew to_come s.words m.words word
      → m ≡ record s { words = m.words } → t.words ≡ m.words → a ≡ start_under m.batches word → Performed m t v w old new place now a turned → StartsAt to_come stream now s t v w old new turned
  starts a turned is at may drew rest words acts done =
      begun s.batches refl turned is at may (subst (λ (ws : W). Drew to_come s.words ws word) (sym words) drew)
      (subst (λ (b : Act). Performed (record s { words = m.words }) t v w old new place now b turned) (acts ∙ ap (λ (x : Station W). start_under x.batches word) rest)
      (subst (λ (x : Station W). Performed x t v w old new place now a turned) rest done))
