-- What is seen of streams, event by event.
use Rattle.std.proofs.Common.{◌≡◌, ◌↔◌, ℕ, suc, ◌+◌, ◌-◌, ◌<◌, ◌==◌, Bool, true, false, inl, inr, ◌⊎◌, Some, List, [], ◌∷◌, ◌++◌, length, take, reverse, set, get_or, slice_get, refl, sym, ◌∙◌, ap, subst, arith}
use Rattle.std.specs.Option.{option_to_list}
use Rattle.std.proofs.lemmas.Bool.{eq-eqb, eqb-true}
use Rattle.std.proofs.lemmas.List.{take_more, reverse-append, length-set, length-append}
use Rattle.std.proofs.lemmas.List.Elements.{Contains-append_left, Contains-append_right, Contains-append_cases}
use Rattle.std.proofs.lemmas.Option.{slice_get_read}
use Rattle.amo_object.specs.declared.step.Step.{Step}
use Rattle.amo_world.specs.declared.event.Event.{Event}
use Rattle.amo_world.specs.Stream.{IsStream}
use Rattle.amo_world.specs.Served.{call_of, calls, calls_and}
use Rattle.amo_world.proofs.Lists.{set_cases, push_cases}
use Rattle.amo_resolve.specs.declared.calls.Seen.{Seen}
use Rattle.amo_resolve.specs.Resolved.{IsNamed}
use Rattle.amo_resolve.specs.Seen.{IsSeen, AreSeen}
use Rattle.amo_resolve.proofs.Gathering.{only}

-- as many streams, of each of which nothing is seen
pub record NothingSeen (streams : List Seen) (number : ℕ) : Type 0 where
  pub count : length streams ≡ number
  pub each : (place : ℕ) (seen : Seen) → slice_get streams place ≡ Some seen → IsSeen seen (place + 1) []

pub no_stream : NothingSeen [] 0
no_stream = record { count = refl; each = λ place seen is. absurd cc }

pub one_stream_more : (streams : List Seen) (count : ℕ) (seen : Seen) → NothingSeen streams count → seen.is_named ≡ false
    → seen.calls.items ≡ [] → NothingSeen (streams ++ seen ∷ []) (count + 1)
one_stream_more streams count seen nothing unnamed none = record {
  count = length-append streams (seen ∷ []) ∙ omega (arith, nothing.count);
  each = λ place other is. by place other (push_cases streams seen place other is);
}
  where
    fresh : (number : ℕ) → IsSeen seen number []
    fresh number = record {
      named = (λ is. absurd (let both = sym is ∙ unnamed in cc), λ named. absurd (omega (arith, named.1.1)));
      calls = none;
    }

    by : (place : ℕ) (other : Seen) → ((length streams ≡ place) × (seen ≡ other)) ⊎ (slice_get streams place ≡ Some other) → IsSeen other (place + 1) []
    by place other (inl (here, same)) = subst (λ (s : Seen). IsSeen s (place + 1) []) same (fresh (place + 1))
    by place other (inr there) = nothing.each place other there

pub nothing_at_all : (streams : List Seen) (count : ℕ) → NothingSeen streams count → count ≡ 256 → AreSeen streams []
nothing_at_all streams count nothing all = record { count = nothing.count ∙ all; each = nothing.each }

-- which streams are named by one event more
named_more : (events : List Event) (e : Event) (number : ℕ) → IsNamed number (events ++ e ∷ []) ↔ ((e.stream ≡ number) ⊎ IsNamed number events)
named_more events e number = (forward, backward)
  where
    forward : IsNamed number (events ++ e ∷ []) → (e.stream ≡ number) ⊎ IsNamed number events
    forward (x, has, is) = elim (Contains-append_cases events (e ∷ []) x has) [
      | inl before ↦ inr (x, before, is)
      | inr here ↦ inl (ap (λ (y : Event). y.stream) (only e x here) ∙ is)
    ]

    backward : (e.stream ≡ number) ⊎ IsNamed number events → IsNamed number (events ++ e ∷ [])
    backward (inl is) = (e, Contains-append_right events (e ∷ []) e (0, omega arith, refl), is)
    backward (inr (x, has, is)) = (x, Contains-append_left events (e ∷ []) x has, is)

-- the calls of a stream after one event more
calls_more : (events : List Event) (e : Event) (number : ℕ)
    → calls number (reverse (events ++ e ∷ [])) ≡ calls_and (number == e.stream) (calls number (reverse events)) e
calls_more events e number = ap (calls number) (reverse-append events (e ∷ []))

of_stream : (b : Bool) (cs : List Step) (e : Event) → b ≡ true → calls_and b cs e ≡ cs ++ option_to_list (call_of e.side e.act e.reply)
of_stream true cs e is = refl
of_stream false cs e is = absurd cc

of_other : (b : Bool) (cs : List Step) (e : Event) → b ≡ false → calls_and b cs e ≡ cs
of_other true cs e is = absurd cc
of_other false cs e is = refl

-- the stream of the event
here_more : (old new : Seen) (events : List Event) (e : Event) (number : ℕ) → IsSeen old number events → e.stream ≡ number → new.is_named ≡ true
    → new.calls.items ≡ old.calls.items ++ option_to_list (call_of e.side e.act e.reply) → IsSeen new number (events ++ e ∷ [])
here_more old new events e number seen is named more = record {
  named = (λ _. (named_more events e number).1 (inl is), λ _. named);
  calls = more ∙ ap (λ (cs : List Step). cs ++ option_to_list (call_of e.side e.act e.reply)) seen.calls
      ∙ sym (of_stream (number == e.stream) (calls number (reverse events)) e (eq-eqb number e.stream (sym is))) ∙ sym (calls_more events e number);
}

-- another stream
there_more : (seen : Seen) (events : List Event) (e : Event) (number : ℕ) → IsSeen seen number events → (e.stream ≡ number → ⊥)
    → IsSeen seen number (events ++ e ∷ [])
there_more seen events e number known other = record {
  named = (λ named. (named_more events e number).1 (inr (known.named.0 named)), λ named. known.named.1 (before ((named_more events e number).0 named)));
  calls = known.calls ∙ sym (of_other (number == e.stream) (calls number (reverse events)) e (differ (number == e.stream) refl)) ∙ sym (calls_more events e number);
}
  where
    before : (e.stream ≡ number) ⊎ IsNamed number events → IsNamed number events
    before (inl is) = absurd (other is)
    before (inr named) = named

    differ : (b : Bool) → (number == e.stream) ≡ b → b ≡ false
    differ true is = absurd (other (sym (eqb-true number e.stream is)))
    differ false is = refl

-- all streams after one event more
pub seen_more : (streams : List Seen) (e : Event) (old new : Seen) → IsStream e.stream → old ≡ get_or streams (e.stream - 1) old → new.is_named ≡ true
    → new.calls.items ≡ old.calls.items ++ option_to_list (call_of e.side e.act e.reply)
    → (events : List Event) → AreSeen streams events → AreSeen (set streams (e.stream - 1) new) (events ++ e ∷ [])
seen_more streams e old new ranged at named more events seen = record {
  count = length-set streams (e.stream - 1) new ∙ seen.count;
  each = λ place kept has. by place kept (set_cases streams (e.stream - 1) new place kept has);
}
  where
    by : (place : ℕ) (kept : Seen)
        → ((e.stream - 1 ≡ place) × (new ≡ kept)) ⊎ ((e.stream - 1 ≡ place → ⊥) × (slice_get streams place ≡ Some kept))
        → IsSeen kept (place + 1) (events ++ e ∷ [])
    by place kept (inl (here, same)) =
        let stands = slice_get_read streams 256 (e.stream - 1) old (sym seen.count) (omega (arith, ranged.0, ranged.1)) at in
        let known : IsSeen old (place + 1) events = seen.each place old (subst (λ (k : ℕ). slice_get streams k ≡ Some old) here stands) in
        subst (λ (s : Seen). IsSeen s (place + 1) (events ++ e ∷ [])) same
        (here_more old new events e (place + 1) known (omega (arith, here, ranged.0)) named more)
    by place kept (inr (apart, there)) = there_more kept events e (place + 1) (seen.each place kept there) (λ of. apart (omega (arith, of)))

-- the past at the next place
pub past_next : (events : List Event) (place : ℕ) (e : Event) → place < length events → e ≡ get_or events place e
    → reverse (take (place + 1) events) ≡ e ∷ reverse (take place events)
past_next events place e within is =
    ap reverse (take_more events place e within ∙ ap (λ (x : Event). take place events ++ x ∷ []) (sym is)) ∙ reverse-append (take place events) (e ∷ [])

-- the events up to a place and the one at it
pub seen_next : (streams : List Seen) (events : List Event) (place : ℕ) (e : Event) → place < length events → e ≡ get_or events place e
    → AreSeen streams (take place events ++ e ∷ []) → AreSeen streams (take (place + 1) events)
seen_next streams events place e within is seen =
    subst (λ (es : List Event). AreSeen streams es) (sym (take_more events place e within ∙ ap (λ (x : Event). take place events ++ x ∷ []) (sym is))) seen

-- what is seen of the stream at a place
pub seen_at : (streams : List Seen) (events : List Event) (place : ℕ) (seen : Seen) → AreSeen streams events → place < 256
    → seen ≡ get_or streams place seen → IsSeen seen (place + 1) events
seen_at streams events place seen known within at = known.each place seen (slice_get_read streams 256 place seen (sym known.count) within at)

-- what is seen of the streams from a place on, and of no others
pub record AreLeft (rest : List Seen) (place : ℕ) (events : List Event) : Type 0 where
  pub count : place + length rest ≡ 256
  pub each : (k : ℕ) (seen : Seen) → slice_get rest k ≡ Some seen → IsSeen seen (place + k + 1) events

pub all_left : (streams : List Seen) (events : List Event) → AreSeen streams events → AreLeft streams 0 events
all_left streams events seen = record {
  count = omega (arith, seen.count);
  each = λ k s is. subst (λ (n : ℕ). IsSeen s n events) {x = k + 1} {y = 0 + k + 1} (omega arith) (seen.each k s is);
}

pub next_left : (seen : Seen) (rest : List Seen) (place : ℕ) (events : List Event) → AreLeft (seen ∷ rest) place events
    → IsSeen seen (place + 1) events × AreLeft rest (place + 1) events
next_left seen rest place events left = (
  subst (λ (n : ℕ). IsSeen seen n events) {x = place + 0 + 1} {y = place + 1} (omega arith) (left.each 0 seen refl),
  record {
    count = omega (arith, left.count);
    each = λ k s is. subst (λ (n : ℕ). IsSeen s n events) {x = place + suc k + 1} {y = place + 1 + k + 1} (omega arith) (left.each (suc k) s is);
  },
)
