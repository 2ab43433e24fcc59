-- What a host knows of its charges.
use Rattle.std.proofs.Common.{◌≡◌, ℕ, zero, suc, ◌+◌, ◌-◌, ◌<◌, ◌≤◌, Bool, true, false, List, [], ◌∷◌, replicate, length, get_or, set, map, filter, slice_get, cond, is_some, Option, Some, None, Contains, refl, sym, ap, subst, ◌∙◌, inl, inr, arith}
use Rattle.std.proofs.lemmas.List.{length-set, map-set}
use Rattle.amo_window.specs.declared.timers.Timer.{Timer}
use Rattle.amo_window.specs.Timers.{CanBeTimed, has_come, due}
use Rattle.amo_window.specs.Timers as timers
use Rattle.amo_window.specs.declared.pace.Pace.{Pace}
use Rattle.amo_window.proofs.TimersLemmas.{streams_of-resting}
use Rattle.std.proofs.lemmas.List.Sums.{sum_by-cons}
use Rattle.amo_object.specs.declared.step.End.{End}
use Rattle.amo_host.specs.declared.agenda.StreamMode.{StreamMode}
use Rattle.std.proofs.lemmas.Bool.{cases_lt}
use Rattle.std.proofs.lemmas.Bool.Decides.{nat_tests}
use Rattle.std.proofs.lemmas.Option.{same_Some, slice_get_within}
use Rattle.amo_core.specs.declared.mode.Mode.TheVariants.{Quiet}
use Rattle.amo_host.specs.Modes.{is_open}
use Rattle.amo_host.specs.Host.{Host, paced, IsHost, IsAt, streams_of, permit_of, IsQuiet, in_rotation}
use Rattle.amo_host.specs.Handshakes.{open_count}
use Rattle.amo_core.specs.declared.mode.Mode.{Mode}

-- the first stream that is due has a timer
pub due_first : (now : ℕ) (ts : List Timer) (s : ℕ) (rest : List ℕ) → due now ts ≡ s ∷ rest → Contains (timers.streams_of ts) s
due_first now [] s rest is = absurd (cc)
due_first now (t ∷ ts) s rest is =
    elim (has_come now t.next) as (λ b. cond b (t.stream ∷ due now ts) (due now ts) ≡ s ∷ rest → Contains (t.stream ∷ timers.streams_of ts) s) [
      | true ↦ λ same. (0, omega arith, cc)
      | false ↦ λ same. let found = due_first now ts s rest same in (suc found.0, omega (arith, found.1), found.2)
    ] (sym (picked (has_come now t.next)) ∙ is)
  where
    picked : (b : Bool) → timers.streams_of (cond b (t ∷ filter (λ u. has_come now u.next) ts) (filter (λ u. has_come now u.next) ts)) ≡ cond b (t.stream ∷ due now ts) (due now ts)
    picked true = refl
    picked false = refl

-- the line in a place
pub line_at : (ls : List StreamMode) (i : ℕ) (d : StreamMode) → i < length ls → slice_get ls i ≡ Some (get_or ls i d)
line_at [] i d within = absurd (omega arith)
line_at (l ∷ ls) zero d within = refl
line_at (l ∷ ls) (suc i) d within = line_at ls i d (omega arith)

-- a change of mode keeps the streams
pub streams_of-set : (ls : List StreamMode) (i : ℕ) (l m : StreamMode) → slice_get ls i ≡ Some l → m.stream ≡ l.stream → streams_of (set ls i m) ≡ streams_of ls
streams_of-set [] i l m at same = refl
streams_of-set (x ∷ ls) zero l m at same = let is : x ≡ l = cc in ap (λ s. s ∷ streams_of ls) (same ∙ ap (λ (y : StreamMode). y.stream) (sym is))
streams_of-set (x ∷ ls) (suc i) l m at same = ap (λ rest. x.stream ∷ rest) (streams_of-set ls i l m at same)

-- what a place in a list tells of its length
pub inside : (ls : List StreamMode) (i s : ℕ) → slice_get (streams_of ls) i ≡ Some s → i < length ls
inside [] i s at = absurd (cc)
inside (l ∷ ls) zero s at = omega arith
inside (l ∷ ls) (suc i) s at = omega (arith, inside ls i s at)

module _ (h : Host) (i : ℕ) (l : StreamMode) (within : i < length h.modes) (read : l ≡ get_or h.modes i l) where
  -- what was read in a place stands there
  pub at_read : slice_get h.modes i ≡ Some l
  at_read = line_at h.modes i l within ∙ ap Some (sym read)

  -- a charge at rest, by what was read
  pub quiet_read : l.mode ≡ Quiet → IsQuiet h i
  quiet_read quiet = (l.stream, at_read ∙ ap (λ m. Some (record l { mode = m })) quiet)

  pub read_quiet : IsQuiet h i → l.mode ≡ Quiet
  read_quiet q = ap (λ (x : StreamMode). x.mode) (same_Some l (record { stream = q.0; mode = Quiet }) (sym at_read ∙ q.1))

-- the rotation comes to each place
comes : (h : Host) → h.rotation < length h.modes → (place : ℕ) → place < length h.modes → (k : ℕ) × (k < length h.modes) × (in_rotation h k ≡ place)
comes h begins place within = elim (cases_lt place h.rotation) [
  | inl before ↦ (place + length h.modes - h.rotation, omega arith, grind (arith, nat_tests))
  | inr after ↦ (place - h.rotation, omega arith, grind (arith, nat_tests))
]

-- so a charge at rest is met
pub none_quiet : (h : Host) → h.rotation < length h.modes → ((k : ℕ) → k < length h.modes → ¬ (IsQuiet h (in_rotation h k))) → (place : ℕ) → ¬ (IsQuiet h place)
none_quiet h begins none place quiet =
    let met = comes h begins place (slice_get_within h.modes place _ quiet.1) in
    none met.0 met.1 (subst (IsQuiet h) (sym met.2) quiet)

-- a host of which a charge answered a mode
pub noted_host : (h : Host) (place limit : ℕ) (l : StreamMode) (mode : Mode) (permits : List (Option ℕ)) (ts : List Timer) → IsHost h → IsAt h place l
    → permits ≡ set h.permits place (permit_of (record l { mode = mode })) → open_count permits ≤ limit → timers.streams_of ts ≡ timers.streams_of h.timers
    → IsHost (record h { modes = set h.modes place (record l { mode = mode }); limit = limit; permits = permits; timers = ts })
noted_host h place limit l mode permits ts host at is few same =
    let new : StreamMode = record l { mode = mode } in
    let streams = streams_of-set h.modes place l new at refl in
    record {
      permits = is ∙ ap (λ (ps : List (Option ℕ)). set ps place (permit_of new)) host.permits ∙ sym (map-set permit_of h.modes place new);
      window = few;
      timers = same ∙ host.timers ∙ sym streams;
      streams = subst CanBeTimed (sym streams) host.streams;
      rotation = omega (arith, length-set h.modes place new, host.rotation);
    }

-- the permit of the charge in a place
pub permit_at : (h : Host) (place : ℕ) (l : StreamMode) → IsHost h → IsAt h place l → get_or h.permits place None ≡ permit_of l
permit_at h place l host at = ap (λ (ps : List (Option ℕ)). get_or ps place None) host.permits ∙ stands h.modes place l at
  where
    stands : (ls : List StreamMode) (i : ℕ) (x : StreamMode) → slice_get ls i ≡ Some x → get_or (map permit_of ls) i None ≡ permit_of x
    stands [] i x found = absurd (cc)
    stands (y ∷ ls) zero x found = ap permit_of (same_Some y x found)
    stands (y ∷ ls) (suc i) x found = stands ls i x found

-- no permit is out of a host without open handshakes
pub all_shut : (ls : List StreamMode) → ((i : ℕ) (l : StreamMode) → slice_get ls i ≡ Some l → is_open l.mode ≡ false) → replicate (length ls) None ≡ map permit_of ls
all_shut [] shut = refl
all_shut (l ∷ ls) shut =
    ap (λ (b : Bool). (cond b (Some l.stream) None) ∷ replicate (length ls) None) (sym (shut 0 l refl))
    ∙ ap (λ (rest : List (Option ℕ)). permit_of l ∷ rest) (all_shut ls (λ i x at. shut (suc i) x at))

count_none : (n : ℕ) → open_count (replicate n None) ≡ 0
count_none zero = refl
count_none (suc n) = omega (arith, count_none n, sum_by-cons (λ (o : Option ℕ). cond (is_some o) 1 0) None (replicate n None))

pub paced_host : (pace : Pace) (side : End) (ls : List StreamMode) (window : ℕ) → 0 < length ls → ((i : ℕ) (l : StreamMode) → slice_get ls i ≡ Some l → is_open l.mode ≡ false) → CanBeTimed (streams_of ls) → IsHost (paced pace side ls window)
paced_host pace side ls window some shut timed = record {
  permits = all_shut ls shut;
  window = omega (arith, count_none (length ls));
  timers = streams_of-resting pace (streams_of ls);
  streams = timed;
  rotation = some;
}

pub same_host : (h g : Host) → h ≡ g → IsHost g → IsHost h
same_host h g same is = subst IsHost (sym same) is

-- a host with other timers of its streams
pub retimed_host : (h : Host) (ts : List Timer) → IsHost h → timers.streams_of ts ≡ timers.streams_of h.timers → IsHost (record h { timers = ts })
retimed_host h ts host same = record { permits = host.permits; window = host.window; timers = same ∙ host.timers; streams = host.streams; rotation = host.rotation }
