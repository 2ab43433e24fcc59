-- The events by which a host came back, at the end of others.
use Rattle.std.proofs.Common.{◌≡◌, ℕ, zero, suc, ◌-◌, ◌≤◌, ◌==◌, Bool, true, false, not, ◌&&◌, if◌then◌else◌, List, [], ◌∷◌, ◌++◌, refl, sym, ap, ◌∙◌, subst, append_assoc, arith}
use Rattle.std.proofs.lemmas.Bool.{and_from, and_parts, cond-false, cond-true, eq-eqb, eqb-true, ne_eqb, not-true, true≢false}
use Rattle.std.proofs.lemmas.List.{append-nil}
use Rattle.std.specs.List.{AllByRecursion}
use Rattle.amo_object.specs.declared.step.End.{End}
use Rattle.amo_core.specs.declared.act.Act.{Act}
use Rattle.amo_core.specs.declared.act.Act.TheVariants as act
use Rattle.amo_core.specs.declared.reply.Reply.{Reply}
use Rattle.amo_core.specs.declared.reply.Reply.TheVariants as reply
use Rattle.amo_world.specs.declared.event.Event.{Event}
use Rattle.amo_journal.specs.Journal.{HasReply}
use Rattle.amo_disk.specs.declared.returns.Returns.{Returns}
use Rattle.amo_disk.specs.Back.{EndsBack, IsBack, back_of, done_at, no_returns, returned, returns_after, returns_at, returns_behind}

-- of events one behind the other
pub returns_behind-append : (r : Returns) (xs ys : List Event) → returns_behind r (xs ++ ys) ≡ returns_behind (returns_behind r xs) ys
returns_behind-append r [] ys = refl
returns_behind-append r (x ∷ xs) ys = returns_behind-append (returns_after r x) xs ys

next_is : (n : ℕ) → (suc (suc n) - 1 == suc n) ≡ true
next_is n = eq-eqb (suc (suc n) - 1) (suc n) (omega arith)

not_first : (n : ℕ) → (suc (suc n) == 1) ≡ false
not_first n = ne_eqb (suc (suc n)) 1 (λ e. let no : ⊥ = omega (arith, e) in no)

-- the next stream came back, too
crash_next : (n : ℕ) → returns_at (record { streams = suc n; has_crash = false }) (suc (suc n)) act.Crash ≡ record { streams = suc n; has_crash = true }
crash_next n =
    cond-false (suc (suc n) == 1) (record { streams = 0; has_crash = true }) (if (suc (suc n) - 1 == suc n) && true then record { streams = suc n; has_crash = true } else no_returns) (not_first n)
    ∙ cond-true ((suc (suc n) - 1 == suc n) && true) (record { streams = suc n; has_crash = true }) no_returns (and_from (suc (suc n) - 1 == suc n) true (next_is n) refl)

recover_next : (n : ℕ) → returns_at (record { streams = suc n; has_crash = true }) (suc (suc n)) act.Recover ≡ record { streams = suc (suc n); has_crash = false }
recover_next n = cond-true ((suc (suc n) - 1 == suc n) && true) (record { streams = suc (suc n); has_crash = false }) no_returns (and_from (suc (suc n) - 1 == suc n) true (next_is n) refl)

one_more : (side : End) (n : ℕ) → returns_behind (record { streams = suc n; has_crash = false }) (done_at side (suc (suc n)) act.Crash ∷ done_at side (suc (suc n)) act.Recover ∷ []) ≡ record { streams = suc (suc n); has_crash = false }
one_more side n = ap (λ (r : Returns). returns_at r (suc (suc n)) act.Recover) (crash_next n) ∙ recover_next n

-- whatever was before, they are counted behind the last of them
counted : (side : End) (r : Returns) (n : ℕ) → returns_behind r (returned side (suc n)) ≡ record { streams = suc n; has_crash = false }
counted side r zero = refl
counted side r (suc n) =
    let last = done_at side (suc (suc n)) act.Crash ∷ done_at side (suc (suc n)) act.Recover ∷ [] in
    returns_behind-append r (returned side (suc n)) last ∙ (ap (λ (q : Returns). returns_behind q last) (counted side r n) ∙ one_more side n)

ends_counted : (side : End) (events : List Event) (n : ℕ) → EndsBack side events (suc n) → back_of (returns_behind no_returns events) ≡ suc n
ends_counted side events n (earlier, is) =
    ap (λ (es : List Event). back_of (returns_behind no_returns es)) is
    ∙ (ap back_of (returns_behind-append no_returns earlier (returned side (suc n))) ∙ ap back_of (counted side (returns_behind no_returns earlier) n))

-- what the last events are, where it is told so of them
pub record Sound (side : End) (r : Returns) (events : List Event) : Type 0 where
  pub whole : r.has_crash ≡ false → EndsBack side events r.streams
  pub crashed : r.has_crash ≡ true → (earlier : List Event) × (events ≡ earlier ++ (returned side r.streams ++ done_at side (suc r.streams) act.Crash ∷ []))

nothing_sound : (side : End) (events : List Event) → Sound side no_returns events
nothing_sound side events = record { whole = λ _. (events, sym (append-nil events)); crashed = λ no. absurd (true≢false (sym no)) }

-- what is known of an event that has a line in a journal of this side
pub record Fits (side : End) (e : Event) : Type 0 where
  pub side_is : e.side ≡ side
  pub stream : 1 ≤ e.stream
  pub reply : HasReply e.act e.reply

crash_reply : (q : Reply) → HasReply act.Crash q → q ≡ reply.Done
crash_reply reply.Done has = refl
crash_reply reply.Ok has = absurd has
crash_reply reply.Full has = absurd has
crash_reply reply.Down has = absurd has
crash_reply (reply.Got m) has = absurd has
crash_reply reply.Nothing has = absurd has
crash_reply reply.Yes has = absurd has
crash_reply reply.No has = absurd has
crash_reply reply.NotYet has = absurd has

recover_reply : (q : Reply) → HasReply act.Recover q → q ≡ reply.Done
recover_reply reply.Done has = refl
recover_reply reply.Ok has = absurd has
recover_reply reply.Full has = absurd has
recover_reply reply.Down has = absurd has
recover_reply (reply.Got m) has = absurd has
recover_reply reply.Nothing has = absurd has
recover_reply reply.Yes has = absurd has
recover_reply reply.No has = absurd has
recover_reply reply.NotYet has = absurd has

next_stream : (stream streams : ℕ) → 1 ≤ stream → (stream - 1 == streams) ≡ true → stream ≡ suc streams
next_stream stream streams some test = let same = eqb-true (stream - 1) streams test in omega (arith, same, some)

-- behind a crash
module _ (side : End) (r : Returns) (events : List Event) (stream : ℕ) (some : 1 ≤ stream) (h : Sound side r events) where
  crash_is : (b c : Bool) → (stream == 1) ≡ b → ((stream - 1 == r.streams) && not r.has_crash) ≡ c
      → Sound side (if b then record { streams = 0; has_crash = true } else if c then record { streams = r.streams; has_crash = true } else no_returns) (events ++ done_at side stream act.Crash ∷ [])
  crash_is true c first next = record {
    whole = λ no. absurd (true≢false no);
    crashed = λ _. (events, ap (λ (n : ℕ). events ++ done_at side n act.Crash ∷ []) (eqb-true stream 1 first));
  }
  crash_is false true first next =
      let both = and_parts (stream - 1 == r.streams) (not r.has_crash) next in
      let was = h.whole (not-true r.has_crash both.1) in record {
        whole = λ no. absurd (true≢false no);
        crashed = λ _. (
          was.0,
          ap (λ (es : List Event). es ++ done_at side stream act.Crash ∷ []) was.1
              ∙ (append_assoc was.0 (returned side r.streams) (done_at side stream act.Crash ∷ [])
              ∙ ap (λ (n : ℕ). was.0 ++ (returned side r.streams ++ done_at side n act.Crash ∷ [])) (next_stream stream r.streams some both.0)),
        );
      }
  crash_is false false first next = nothing_sound side (events ++ done_at side stream act.Crash ∷ [])

  up_again : (earlier : List Event) → events ≡ earlier ++ (returned side r.streams ++ done_at side (suc r.streams) act.Crash ∷ []) → EndsBack side (events ++ done_at side (suc r.streams) act.Recover ∷ []) (suc r.streams)
  up_again earlier is = (
    earlier,
    ap (λ (es : List Event). es ++ done_at side (suc r.streams) act.Recover ∷ []) is
        ∙ (append_assoc earlier (returned side r.streams ++ done_at side (suc r.streams) act.Crash ∷ []) (done_at side (suc r.streams) act.Recover ∷ [])
        ∙ ap (λ (es : List Event). earlier ++ es) (append_assoc (returned side r.streams) (done_at side (suc r.streams) act.Crash ∷ []) (done_at side (suc r.streams) act.Recover ∷ []))),
  )

  recovery_is : (c : Bool) → ((stream - 1 == r.streams) && r.has_crash) ≡ c → Sound side (if c then record { streams = stream; has_crash = false } else no_returns) (events ++ done_at side stream act.Recover ∷ [])
  recovery_is true next =
      let both = and_parts (stream - 1 == r.streams) r.has_crash next in
      let was = h.crashed both.1 in record {
        whole = λ _. subst (λ (n : ℕ). EndsBack side (events ++ done_at side n act.Recover ∷ []) n) (sym (next_stream stream r.streams some both.0)) (up_again was.0 was.1);
        crashed = λ no. absurd (true≢false (sym no));
      }
  recovery_is false next = nothing_sound side (events ++ done_at side stream act.Recover ∷ [])

  act_is : (a : Act) (q : Reply) → HasReply a q → Sound side (returns_at r stream a) (events ++ record { pass = 1; side = side; stream = stream; act = a; reply = q } ∷ [])
  act_is act.Crash q has =
      subst (λ (w : Reply). Sound side (returns_at r stream act.Crash) (events ++ record { pass = 1; side = side; stream = stream; act = act.Crash; reply = w } ∷ [])) (sym (crash_reply q has))
      (crash_is (stream == 1) ((stream - 1 == r.streams) && not r.has_crash) refl refl)
  act_is act.Recover q has =
      subst (λ (w : Reply). Sound side (returns_at r stream act.Recover) (events ++ record { pass = 1; side = side; stream = stream; act = act.Recover; reply = w } ∷ [])) (sym (recover_reply q has))
      (recovery_is ((stream - 1 == r.streams) && r.has_crash) refl)
  act_is (act.Put m) q has = nothing_sound side _
  act_is act.Ack q has = nothing_sound side _
  act_is act.Get q has = nothing_sound side _
  act_is (act.Start word) q has = nothing_sound side _
  act_is (act.Batch word) q has = nothing_sound side _
  act_is act.Resend q has = nothing_sound side _
  act_is (act.Deliver packet word) q has = nothing_sound side _

  pass_is : (b : Bool) (pass : ℕ) (a : Act) (q : Reply) → (pass == 1) ≡ b → HasReply a q
      → Sound side (if b then returns_at r stream a else no_returns) (events ++ record { pass = pass; side = side; stream = stream; act = a; reply = q } ∷ [])
  pass_is true pass a q one has =
      subst (λ (p : ℕ). Sound side (returns_at r stream a) (events ++ record { pass = p; side = side; stream = stream; act = a; reply = q } ∷ [])) (sym (eqb-true pass 1 one)) (act_is a q has)
  pass_is false pass a q other has = nothing_sound side _

-- behind one event more
sound_after : (side : End) (r : Returns) (events : List Event) (e : Event) → Fits side e → Sound side r events → Sound side (returns_after r e) (events ++ e ∷ [])
sound_after side r events e fits h =
    subst (λ (of : End). Sound side (returns_after r e) (events ++ record { pass = e.pass; side = of; stream = e.stream; act = e.act; reply = e.reply } ∷ [])) (sym fits.side_is)
    (pass_is side r events e.stream fits.stream h (e.pass == 1) e.pass e.act e.reply refl fits.reply)

sound_behind : (side : End) (r : Returns) (before events : List Event) → AllByRecursion (Fits side) events → Sound side r before → Sound side (returns_behind r events) (before ++ events)
sound_behind side r before [] fit h = subst (Sound side r) (sym (append-nil before)) h
sound_behind side r before (e ∷ events) fit h =
    subst (Sound side (returns_behind (returns_after r e) events)) (append_assoc before (e ∷ []) events) (sound_behind side (returns_after r e) (before ++ e ∷ []) events fit.1 (sound_after side r before e fit.0 h))

ends_at : (side : End) (r : Returns) (events : List Event) (crash : Bool) → r.has_crash ≡ crash → Sound side r events → EndsBack side events (back_of r)
ends_at side r events true is h = rw is (events, sym (append-nil events))
ends_at side r events false is h = rw is (h.whole is)

most : (side : End) (events : List Event) (m : ℕ) → EndsBack side events m → m ≤ back_of (returns_behind no_returns events)
most side events zero ends = omega arith
most side events (suc m) ends = let same = ends_counted side events m ends in omega (arith, same)

-- what was counted is how many streams came back by the last events
pub back_is : (side : End) (events : List Event) → AllByRecursion (Fits side) events → IsBack side events (back_of (returns_behind no_returns events))
back_is side events fit = record {
  ends = ends_at side (returns_behind no_returns events) events (returns_behind no_returns events).has_crash refl (sound_behind side no_returns [] events fit (nothing_sound side []));
  greatest = most side events;
}
