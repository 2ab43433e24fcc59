-- What is told of puts, stream by stream and event by event.
use Rattle.std.proofs.Common.{◌≡◌, ℕ, ◌+◌, ◌-◌, ◌<◌, Bool, true, false, eqb, if◌then◌else◌, Some, List, [], ◌∷◌, ◌++◌, length, take, drop, reverse, set, get_or, slice_get, refl, sym, ◌∙◌, ap, subst, inl, inr, ◌⊎◌, arith}
use Rattle.std.specs.List.{Contains}
use Rattle.std.proofs.lemmas.Bool.{eqb-true}
use Rattle.std.proofs.lemmas.List.{take_more, reverse-append, length-set, length-append, take-append-drop}
use Rattle.std.proofs.lemmas.List.Elements.{Contains-append_left, Contains-append_right, Contains-append_cases}
use Rattle.std.proofs.lemmas.Option.{slice_get_read}
use Rattle.amo_core.specs.Sender as sender
use Rattle.amo_core.specs.Automaton.{mode_of}
use Rattle.amo_core.specs.declared.automaton.Automaton.{Automaton}
use Rattle.amo_core.specs.declared.sender.SenderMode.{SenderMode}
use Rattle.amo_core.specs.declared.sender.SenderMode.TheVariants as sending
use Rattle.amo_world.specs.declared.event.Event.{Event}
use Rattle.amo_world.specs.Stream.{Stream, IsStream}
use Rattle.amo_world.specs.History.{stream_after, after_if, Along, IsRight, IsHonest, IsFresh, Extends}
use Rattle.amo_world.proofs.Lists.{some_injective, set_cases, push_cases}
use Rattle.amo_world.proofs.Extensions.{earlier_too}
use Rattle.amo_outcomes.specs.declared.follower.Follower.{Follower}
use Rattle.amo_outcomes.specs.Puts.{Puts, acted_if, puts_after}
use Rattle.amo_outcomes.specs.Outcome.{arriving, asking, open_in, HasOutcome}
use Rattle.amo_outcomes.specs.Places.{asks, open_of}
use Rattle.amo_outcomes.specs.Follower.{AreAsked, Follows, IsFollowed}
use Rattle.amo_outcomes.specs.Told.{AreOutcomes, AreFollowed, StreamsTold}
use Rattle.amo_outcomes.specs.declared.outcome.Outcome.{Outcome}
use Rattle.amo_outcomes.specs.declared.outcome.Outcome.TheVariants.{Got, Gone, Open}
use Rattle.amo_outcomes.proofs.Final.{stands_or_not}

-- the puts for which the sender asks, as they are kept
asked_kept : (mode : SenderMode) (asked carried : List ℕ) → AreAsked mode asked carried
    → (if asks (sender.kind mode) then asked else []) ≡ asking mode carried
asked_kept (sending.Quiet got) asked carried are = refl
asked_kept (sending.NeedId jd load) asked carried are = are
asked_kept (sending.Send id load) asked carried are = refl
asked_kept sending.Down asked carried are = refl

-- those that are open, as they are kept
pub open_kept : (f : Follower) (s : Stream) (p : Puts) → Follows f s p → open_of (asks (mode_of f.sender)) f.places ≡ open_in s p
open_kept f s p follows =
    ap (λ (x : Automaton). open_of (asks (mode_of x)) f.places) follows.sender
    ∙ ap (λ (ns : List ℕ). ns ++ ((if asks
    (sender.kind s.sender.state.mode) then f.places.asked else []) ++ f.places.waiting)) follows.arriving
    ∙ ap (λ (ns : List ℕ). arriving s.receiver.state.mode p.sent p.held ++ (ns ++ f.places.waiting))
    (asked_kept s.sender.state.mode f.places.asked p.carried follows.asked)
    ∙ ap (λ (ns : List ℕ). arriving s.receiver.state.mode p.sent p.held ++
    (asking s.sender.state.mode p.carried ++ ns)) follows.waiting

-- a put whose flag is set was got, and one whose flag is not was not
pub got_kept : (f : Follower) (s : Stream) (p : Puts) (put : ℕ) → Follows f s p → put < length f.places.got
    → slice_get f.places.got put ≡ Some true → Contains p.got put
got_kept f s p put follows within is = by (stands_or_not p.got put)
  where
    by : Contains p.got put ⊎ (¬ (Contains p.got put)) → Contains p.got put
    by (inl got) = got
    by (inr none) =
        let no = follows.got.no put (omega (arith, within, follows.got.each)) none in
        absurd (differ (some_injective true false (sym is ∙ no)))
      where
        differ : true ≡ false → ⊥
        differ e = cc

pub not_got_kept : (f : Follower) (s : Stream) (p : Puts) (put : ℕ) → Follows f s p → slice_get f.places.got put ≡ Some false
    → ¬ (Contains p.got put)
not_got_kept f s p put follows is got = differ (some_injective true false (sym (follows.got.yes put got) ∙ is))
  where
    differ : true ≡ false → ⊥
    differ e = cc

-- what is told of a put, by where it is kept
module _ (f : Follower) (number : ℕ) (past : List Event) (follows : IsFollowed f number past) (put : ℕ) where
  abbrev asked : List ℕ
  asked = if asks (mode_of f.sender) then f.places.asked else []

  abbrev kept : List ℕ
  kept = f.places.arriving ++ (asked ++ f.places.waiting)

  may : Contains kept put → HasOutcome number past put Open
  may c =
      subst (λ (ns : List ℕ). Contains ns put) (open_kept f (stream_after number past) (puts_after number past) follows) c

  pub got_told : put < length f.places.got → slice_get f.places.got put ≡ Some true → HasOutcome number past put Got
  got_told within is = got_kept f (stream_after number past) (puts_after number past) put follows within is

  pub arriving_told : Contains f.places.arriving put → HasOutcome number past put Open
  arriving_told c = may (Contains-append_left f.places.arriving (asked ++ f.places.waiting) put c)

  pub asked_told : Contains asked put → HasOutcome number past put Open
  asked_told c =
      may (Contains-append_right f.places.arriving (asked ++ f.places.waiting) put
      (Contains-append_left asked f.places.waiting put c))

  pub waiting_told : Contains f.places.waiting put → HasOutcome number past put Open
  waiting_told c =
      may (Contains-append_right f.places.arriving (asked ++ f.places.waiting) put
      (Contains-append_right asked f.places.waiting put c))

  pub gone_told : put < length f.places.got → slice_get f.places.got put ≡ Some false → ¬ (Contains f.places.arriving put)
      → ¬ (Contains f.places.waiting put) → ¬ (Contains asked put) → HasOutcome number past put Gone
  gone_told within is not_arriving not_waiting not_asked = (
    omega (arith, within, follows.got.each),
    not_got_kept f (stream_after number past) (puts_after number past) put follows is,
    λ c. nowhere (subst (λ (ns : List ℕ). Contains ns put) (sym (open_kept f (stream_after number past)
        (puts_after number past) follows)) c),
  )
    where
      nowhere : Contains kept put → ⊥
      nowhere c = elim (Contains-append_cases f.places.arriving (asked ++ f.places.waiting) put c) [
        | inl first ↦ not_arriving first
        | inr others ↦ elim (Contains-append_cases asked f.places.waiting put others) [
          | inl first ↦ not_asked first
          | inr last ↦ not_waiting last
        ]
      ]

-- an event of another stream changes nothing
elsewhere : (f : Follower) (number : ℕ) (past : List Event) (e : Event) → (e.stream ≡ number → ⊥) → IsFollowed f number past
    → IsFollowed f number (e ∷ past)
elsewhere f number past e other follows = by (eqb number e.stream) refl
  where
    by : (b : Bool) → eqb number e.stream ≡ b → IsFollowed f number (e ∷ past)
    by true is = absurd (other (sym (eqb-true number e.stream is)))
    by false is =
        subst (λ (b : Bool). Follows f (after_if b (stream_after number past) e) (acted_if b (stream_after number past) e
        (puts_after number past)))
        (sym is) follows

-- all streams after one event more
pub followed_more : (followers : List Follower) (e : Event) (old new : Follower) → IsStream e.stream → old
    ≡ get_or followers (e.stream - 1) old
    → (past : List Event) → (IsFollowed old e.stream past → IsFollowed new e.stream (e ∷ past))
    → AreFollowed followers past → AreFollowed (set followers (e.stream - 1) new) (e ∷ past)
followed_more followers e old new ranged at past one all = record {
  count = length-set followers (e.stream - 1) new ∙ all.count;
  each = λ place kept has. by place kept (set_cases followers (e.stream - 1) new place kept has);
}
  where
    stands : slice_get followers (e.stream - 1) ≡ Some old
    stands = slice_get_read followers 256 (e.stream - 1) old (sym all.count) (omega (arith, ranged.0, ranged.1)) at

    by : (place : ℕ) (kept : Follower)
        → ((e.stream - 1 ≡ place) × (new ≡ kept)) ⊎ ((e.stream - 1 ≡ place → ⊥) × (slice_get followers place ≡ Some kept))
        → IsFollowed kept (place + 1) (e ∷ past)
    by place kept (inl (here, same)) =
        let number : place + 1 ≡ e.stream = omega (arith, here, ranged.0) in
        subst (λ (f : Follower). IsFollowed f (place + 1) (e ∷ past)) same
        (subst (λ (n : ℕ). IsFollowed new n (e ∷ past)) (sym number)
        (one (subst (λ (n : ℕ). IsFollowed old n past) number (all.each place old (subst (λ (k : ℕ). slice_get followers k
        ≡ Some old) here stands)))))
    by place kept (inr (apart, there)) = elsewhere kept (place + 1) past e (λ of. apart (omega (arith, of)))
        (all.each place kept there)

-- the follower at a place
pub followed_at : (followers : List Follower) (past : List Event) (place : ℕ) (f : Follower) → AreFollowed followers past
    → place < 256
    → f ≡ get_or followers place f → IsFollowed f (place + 1) past
followed_at followers past place f all within at = all.each place f (slice_get_read followers 256 place f
    (sym all.count) within at)

-- so many followers, of streams in which nothing happened
pub record NothingFollowed (followers : List Follower) (number : ℕ) : Type 0 where
  pub count : length followers ≡ number
  pub each : (place : ℕ) (f : Follower) → slice_get followers place ≡ Some f → IsFollowed f (place + 1) []

pub no_follower : NothingFollowed [] 0
no_follower = record { count = refl; each = λ place f is. absurd cc }

pub one_follower_more : (followers : List Follower) (count : ℕ) (f : Follower) → NothingFollowed followers count
    → IsFollowed f (count + 1) []
    → NothingFollowed (followers ++ f ∷ []) (count + 1)
one_follower_more followers count f nothing follows = record {
  count = length-append followers (f ∷ []) ∙ omega (arith, nothing.count);
  each = λ place other is. by place other (push_cases followers f place other is);
}
  where
    by : (place : ℕ) (other : Follower) → ((length followers ≡ place) × (f ≡ other)) ⊎ (slice_get followers place ≡ Some other)
        → IsFollowed other (place + 1) []
    by place other (inl (here, same)) =
        subst (λ (g : Follower). IsFollowed g (place + 1) []) same
        (subst (λ (k : ℕ). IsFollowed f (k + 1) []) (sym nothing.count ∙ here) follows)
    by place other (inr there) = nothing.each place other there

pub all_followers : (followers : List Follower) (count : ℕ) → NothingFollowed followers count → count ≡ 256
    → AreFollowed followers []
all_followers followers count nothing all = record { count = nothing.count ∙ all; each = nothing.each }

-- the past at the next place
pub past_next : (events : List Event) (place : ℕ) (e : Event) → place < length events → e ≡ get_or events place e
    → reverse (take (place + 1) events) ≡ e ∷ reverse (take place events)
past_next events place e within is =
    ap reverse (take_more events place e within ∙ ap (λ (x : Event). take place events ++ x ∷ []) (sym is))
    ∙ reverse-append (take place events) (e ∷ [])

-- a beginning, in the order of time, is what a whole history goes on from
begins : (events : List Event) (place : ℕ) → Extends (reverse events) (reverse (take place events))
begins events place = (
  reverse (drop place events),
  sym (ap reverse (take-append-drop place events)) ∙ reverse-append (take place events)
      (drop place events),
)

pub beginning : (Holds : List Event → Event → Type 0) (events : List Event) (place : ℕ) → Along Holds (reverse events)
    → Along Holds (reverse (take place events))
beginning Holds events place all = earlier_too Holds (reverse events) (reverse (take place events)) (begins events place) all

-- what is told of the first puts
pub record AreTold (f : Follower) (many : ℕ) (told : List Outcome) : Type 0 where
  pub count : length told ≡ many
  pub each : (number : ℕ) (past : List Event) → IsRight past → IsHonest past → IsFresh past → IsFollowed f number past
      → (put : ℕ) (outcome : Outcome) → slice_get told put ≡ Some outcome → HasOutcome number past put outcome

pub nothing_told : (f : Follower) → AreTold f 0 []
nothing_told f = record { count = refl; each = λ number past right honest fresh follows put outcome is. absurd cc }

pub one_told_more : (f : Follower) (count : ℕ) (told : List Outcome) (outcome : Outcome) → AreTold f count told
    → ((number : ℕ) (past : List Event) → IsRight past → IsHonest past → IsFresh past → IsFollowed f number past
    → HasOutcome number past count outcome)
    → AreTold f (count + 1) (told ++ outcome ∷ [])
one_told_more f count told outcome so_far has = record {
  count = length-append told (outcome ∷ []) ∙ omega (arith, so_far.count);
  each = λ number past right honest fresh follows put other is.
      by number past right honest fresh follows put other (push_cases told outcome put other is);
}
  where
    by : (number : ℕ) (past : List Event) → IsRight past → IsHonest past → IsFresh past → IsFollowed f number past
        → (put : ℕ) (other : Outcome)
        → ((length told ≡ put) × (outcome ≡ other)) ⊎ (slice_get told put ≡ Some other) → HasOutcome number past put other
    by number past right honest fresh follows put other (inl (here, same)) =
        subst (λ (o : Outcome). HasOutcome number past put o) same
        (subst (λ (k : ℕ). HasOutcome number past k outcome) (sym so_far.count ∙ here)
        (has number past right honest fresh follows))
    by number past right honest fresh follows put other
        (inr there) = so_far.each number past right honest fresh follows put other there

pub all_told : (f : Follower) (count : ℕ) (told : List Outcome) → AreTold f count told → count ≡ length f.places.got
    → (number : ℕ) (past : List Event) → IsRight past → IsHonest past → IsFresh past → IsFollowed f number past
    → AreOutcomes number past told
all_told f count told so_far all number past right honest fresh follows = record {
  count = so_far.count ∙ all ∙ follows.got.each;
  each = so_far.each number past right honest fresh follows;
}

-- no stream is told, and one more
pub no_stream_told : (past : List Event) → StreamsTold past 0 []
no_stream_told past = record { count = refl; each = λ place told is. absurd cc }

pub one_stream_told_more : (past : List Event) (count : ℕ) (all : List (List Outcome)) (told : List Outcome)
    → StreamsTold past count all
    → AreOutcomes (count + 1) past told → StreamsTold past (count + 1) (all ++ told ∷ [])
one_stream_told_more past count all told so_far are = record {
  count = length-append all (told ∷ []) ∙ omega (arith, so_far.count);
  each = λ place other is. by place other (push_cases all told place other is);
}
  where
    by : (place : ℕ) (other : List Outcome) → ((length all ≡ place) × (told ≡ other)) ⊎ (slice_get all place ≡ Some other)
        → AreOutcomes (place + 1) past other
    by place other (inl (here, same)) =
        subst (λ (v : List Outcome). AreOutcomes (place + 1) past v) same
        (subst (λ (k : ℕ). AreOutcomes (k + 1) past told) (sym so_far.count ∙ here) are)
    by place other (inr there) = so_far.each place other there
