-- What is known of the puts that are kept of each stream, and of those that were sent.
use Rattle.std.proofs.Common.{◌≡◌, ◌∙◌, ◌≢◌, ◌⊎◌, ℕ, ◌+◌, ◌-◌, ◌<◌, ◌≤◌, zero, suc, Bool, true, false, eqb, Option, None, Some, List, [], ◌∷◌, ◌++◌, get_or, length, refl, sym, ap, subst, set, arith, inl, inr, get_or-set_other}
use Rattle.std.specs.Prelude.{◌==◌, ◌||◌, ◌&&◌, IfSome, IsNone, not}
use Rattle.std.specs.Bool.{Decides}
use Rattle.std.specs.List.{Contains, IsAnyAnswer, range_with_len}
use Rattle.std.specs.Ordering.{nat_cmp}
use Rattle.std.specs.BTreeMap.{get}
use Rattle.std.proofs.lemmas.Bool.Decides.{Decides-eqb, eqb_tells}
use Rattle.std.proofs.lemmas.Cmp.{nat_cmp_total}
use Rattle.std.proofs.lemmas.Grind.{get_or-set_at}
use Rattle.std.proofs.lemmas.List.{get_or_default}
use Rattle.std.proofs.lemmas.Map.Lookups.{exact_unsigned}
use Rattle.std.proofs.lemmas.Map.Views.{IfSome-get}
use Rattle.std.proofs.lemmas.List.Elements.{Contains-append_left, Contains-append_right, Contains-push, Contains-push_cases, Decides-contains, contains_decides}
use Rattle.amo_object.specs.declared.step.End.{End}
use Rattle.amo_object.specs.declared.step.End.TheVariants.{Sender, Receiver}
use Rattle.amo_core.specs.declared.act.Act.{Act}
use Rattle.amo_world.specs.declared.event.Event.{Event}
use Rattle.amo_world.specs.Stream.{Stream, IsStream}
use Rattle.amo_world.specs.History.{stream_after}
use Rattle.amo_outcomes.specs.RightPuts.{ArePutsRight}
use Rattle.amo_outcomes.specs.declared.sender_followers.SenderFollowers.{SenderFollowers}
use Rattle.amo_outcomes.specs.declared.sender_outcome.SenderOutcome.{SenderOutcome}
use Rattle.amo_outcomes.specs.declared.sender_outcome.SenderOutcome.TheVariants.{Got, Gone, Open, Unknown}
use Rattle.amo_outcomes.specs.Heard.{all_sent}
use Rattle.amo_outcomes.specs.Puts.{Handshake, Puts, acted, acted_if, puts_after}
use Rattle.amo_outcomes.specs.SenderFollowers.{HaveFollowedSenders}
use Rattle.amo_outcomes.specs.SenderOutcome.{HasSenderOutcome}
use Rattle.amo_outcomes.proofs.SenderAlone.{no_other_of_sender, of_puts_of_sender, some_sender_outcome}
use Rattle.amo_outcomes.proofs.SenderHistories.{not_sent, sent_below}
use Rattle.amo_outcomes.proofs.SenderOrder.{heard_was_sent, in_order, receiver_leaves}
use Rattle.amo_outcomes.proofs.SenderRows.{HoldOfChanges, OfRows, by_rows}
use Rattle.amo_journal.specs.declared.numbered.Numbered.{Numbered}
use Rattle.amo_lives.specs.declared.doubt.Span.{Span}
use Rattle.amo_telling.specs.declared.put.Put.{Put}
use Rattle.amo_telling.specs.declared.tally.Tally.{Tally}
use Rattle.amo_telling.specs.declared.untold.Untold.{Untold}
use Rattle.amo_telling.specs.Outcomes.{is_put, one_if, puts_in}
use Rattle.amo_telling.specs.Unanswered.{is_sent, is_settled_by_now, is_unsettled, told_if}
use Rattle.amo_telling.specs.Untold.{AreTallies, AreTalliesOf, AreThose, HasPut, HasRead, IsAnswered, IsInDoubt, IsKept, IsKnownAs, IsMarked, IsPutAt, IsSettledByNow, IsTally, IsWhether, Picks, WasSentOn, events_of, no_puts, sent_at, settled_at, unsettled_at}
use Rattle.amo_telling.proofs.Counted.{right_counts}
use Rattle.amo_telling.proofs.Untolds.{later_on, newest_at, taken_put}

-- what was sent stays so
abbrev Grows : OfRows
Grows mode waiting p a r now left q = (put : ℕ) → Contains (all_sent p.sent) put → Contains (all_sent q.sent) put

grows : HoldOfChanges Grows
grows = record {
  stays = λ mode waiting p a r up same put c. c;
  stays_down = λ waiting p a r put c. c;
  puts = λ mode waiting p m up put c. c;
  starts = λ got m rest word p put c. c;
  starts_batch = λ got m rest word p put c. c;
  sends = λ asked jd id k word load waiting p same put c. Contains-append_left (all_sent p.sent) p.carried put c;
  acked = λ id under k word load got waiting p put c. c;
  crashes = λ mode waiting p put c. c;
  recovers = λ waiting p put c. c;
}

act_grows : (s : Stream) (side : End) (a : Act) (p : Puts) (put : ℕ) → Contains (all_sent p.sent) put → Contains (all_sent (acted s side a p).sent) put
act_grows s Sender a p = by_rows Grows grows s.sender.state.stream s.sender.state.mode s.sender.state.waiting p a
act_grows s Receiver a p = λ put c. subst (λ (sent : List Handshake). Contains (all_sent sent) put) (receiver_leaves s a p).sent c

pub sent_grows : (number : ℕ) (past : List Event) (e : Event) (put : ℕ) → Contains (all_sent (puts_after number past).sent) put → Contains (all_sent (puts_after number (e ∷ past)).sent) put
sent_grows number past e put c = by (eqb number e.stream)
  where
    by : (here : Bool) → Contains (all_sent (acted_if here (stream_after number past) e (puts_after number past)).sent) put
    by true = act_grows (stream_after number past) e.side e.act (puts_after number past) put c
    by false = c

-- what an ack answered was sent
pub answered_sent : (stream : ℕ) (past : List Event) (place : ℕ) → IsAnswered stream past place → Contains (all_sent (puts_after stream past).sent) place
answered_sent stream [] place never = absurd never
answered_sent stream (e ∷ past) place (inl by_ack) = sent_grows stream past e place by_ack.1.0
answered_sent stream (e ∷ past) place (inr before) = sent_grows stream past e place (answered_sent stream past place before)

-- a put of which this is known was sent, or was not
pub outcome_sent : (stream : ℕ) (past : List Event) (put : ℕ) (outcome : SenderOutcome) → is_sent (Some outcome) ≡ true → HasSenderOutcome stream past put outcome
    → Contains (all_sent (puts_after stream past).sent) put
outcome_sent stream past put Got is has = (heard_was_sent stream past).got put has
outcome_sent stream past put Gone is has = cc
outcome_sent stream past put Open is has = cc
outcome_sent stream past put (Unknown true) is has = (heard_was_sent stream past).settled put has.0
outcome_sent stream past put (Unknown false) is has = has.0

pub outcome_unsent : (stream : ℕ) (past : List Event) (put : ℕ) (outcome : SenderOutcome) → is_sent (Some outcome) ≡ false → HasSenderOutcome stream past put outcome
    → Contains (all_sent (puts_after stream past).sent) put → ⊥
outcome_unsent stream past put Got is has sent = cc
outcome_unsent stream past put Gone is has sent = has.1 sent
outcome_unsent stream past put Open is has sent =
    not_sent (stream_after stream past).sender.state.mode (stream_after stream past).sender.state.waiting (puts_after stream past) (in_order stream past) put sent has
outcome_unsent stream past put (Unknown settled) is has sent = cc

pub sent_is_put : (stream : ℕ) (past : List Event) (put : ℕ) → Contains (all_sent (puts_after stream past).sent) put → put < (puts_after stream past).count
sent_is_put stream past put sent =
    sent_below (stream_after stream past).sender.state.mode (stream_after stream past).sender.state.waiting (puts_after stream past) (in_order stream past) put sent

-- one thing is known of a put
pub one_known : (past : List Event) (put : Put) (one other : Option SenderOutcome) → IsKnownAs past put one → IsKnownAs past put other → one ≡ other
one_known past put None None known known' = refl
one_known past put None (Some other) known known' = let less = of_puts_of_sender put.stream past put.place other known' in absurd (omega (arith, known, less))
one_known past put (Some one) None known known' = let less = of_puts_of_sender put.stream past put.place one known in absurd (omega (arith, known', less))
one_known past put (Some one) (Some other) known known' = ap Some (no_other_of_sender put.stream past put.place one other known known')

either_true : (flag test : Bool) → (flag || test) ≡ true → (flag ≡ true) ⊎ (test ≡ true)
either_true true test is = inl refl
either_true false test is = inr is

right_true : (flag : Bool) → (flag || true) ≡ true
right_true true = refl
right_true false = refl

-- a pair's parts
same_number : (n k : ℕ) (p q : Put) → ◌≡◌ {A = ℕ × Put} (n, p) (k, q) → n ≡ k
same_number n k p q e = ap (λ (x : ℕ × Put). x.0) e

same_one : (n k : ℕ) (p q : Put) → ◌≡◌ {A = ℕ × Put} (n, p) (k, q) → p ≡ q
same_one n k p q e = ap (λ (x : ℕ × Put). x.1) e

-- of no put
none_known : (followers : SenderFollowers) (test : ℕ → Option SenderOutcome → Bool) (stream : ℕ) → IsWhether followers [] test stream false
none_known followers test stream past have = (λ is. absurd cc, λ has. absurd (none has.2))
  where
    none : {x : ℕ × Put} → Contains [] x → ⊥
    none here = let less = here.1 in absurd (omega (arith, less))

-- of one more
module _ (followers : SenderFollowers) (puts : List (ℕ × Put)) (number : ℕ) (put : Put) (outcome : Option SenderOutcome)
    (known : (past : List Event) → HaveFollowedSenders followers past → IsKnownAs past put outcome) (stream : ℕ) where
  widen : (past : List Event) (test : ℕ → Option SenderOutcome → Bool) → HasPut puts past test stream → HasPut (puts ++ (number, put) ∷ []) past test stream
  widen past test (n, p, here, own, rest) = (n, p, Contains-append_left puts ((number, put) ∷ []) (n, p) here, own, rest)

  module _ (test : ℕ → Option SenderOutcome → Bool) (flag : Bool) (before : IsWhether followers puts test stream flag) where
    own_known : put.stream ≡ stream → IsWhether followers (puts ++ (number, put) ∷ []) test stream (flag || test number outcome)
    own_known own past have = (λ is. there (either_true flag (test number outcome) is), λ has. back has)
      where
        there : (flag ≡ true) ⊎ (test number outcome ≡ true) → HasPut (puts ++ (number, put) ∷ []) past test stream
        there (inl is) = widen past test ((before past have).0 is)
        there (inr is) = (number, put, Contains-append_right puts ((number, put) ∷ []) (number, put) (Contains-push [] (number, put)), own, (outcome, known past have, is))

        back : HasPut (puts ++ (number, put) ∷ []) past test stream → (flag || test number outcome) ≡ true
        back (n, p, here, stream_is, (other, told, is)) = by (Contains-push_cases puts (number, put) (n, p) here)
          where
            by : Contains puts (n, p) ⊎ ◌≡◌ {A = ℕ × Put} (number, put) (n, p) → (flag || test number outcome) ≡ true
            by (inl among) = ap (λ (b : Bool). b || test number outcome) ((before past have).1 (n, p, among, stream_is, (other, told, is)))
            by (inr same) =
                let at = same_number number n put p same in
                let one = one_known past put outcome other (known past have) (subst (λ (q : Put). IsKnownAs past q other) (sym (same_one number n put p same)) told) in
                let now : test number outcome ≡ true = ap (λ k. test k outcome) at ∙ (ap (test n) one ∙ is) in
                ap (λ (b : Bool). flag || b) now ∙ right_true flag

    other_known : put.stream ≢ stream → IsWhether followers (puts ++ (number, put) ∷ []) test stream flag
    other_known apart past have = (λ is. widen past test ((before past have).0 is), λ has. back has)
      where
        back : HasPut (puts ++ (number, put) ∷ []) past test stream → flag ≡ true
        back (n, p, here, stream_is, rest) = by (Contains-push_cases puts (number, put) (n, p) here)
          where
            by : Contains puts (n, p) ⊎ ◌≡◌ {A = ℕ × Put} (number, put) (n, p) → flag ≡ true
            by (inl among) = (before past have).1 (n, p, among, stream_is, rest)
            by (inr same) = absurd (apart (ap (λ (q : Put). q.stream) (same_one number n put p same) ∙ stream_is))

-- one put more was noted
pub one_noted : (followers : SenderFollowers) (puts : List (ℕ × Put)) (doubts : List Span) (tallies : List Tally) (number : ℕ) (put : Put) (outcome : Option SenderOutcome) (was now : Tally)
    → ((past : List Event) → HaveFollowedSenders followers past → IsKnownAs past put outcome) → IsStream put.stream → length tallies ≡ 256
    → was ≡ get_or tallies (put.stream - 1) was
    → now ≡ record {
      is_sent = was.is_sent || is_sent outcome;
      is_unsettled = was.is_unsettled || is_unsettled outcome (told_if doubts number outcome);
      is_settled = was.is_settled || is_settled_by_now outcome (told_if doubts number outcome);
    }
    → AreTalliesOf followers puts doubts tallies → AreTalliesOf followers (puts ++ (number, put) ∷ []) doubts (set tallies (put.stream - 1) now)
one_noted followers puts doubts tallies number put outcome was now known stream long was_is is before = record { each = λ place small. by place small (eqb_tells place (put.stream - 1)) }
  where
    by : (place : ℕ) → place < 256 → ((eqb place (put.stream - 1) ≡ true) × (place ≡ put.stream - 1)) ⊎ ((eqb place (put.stream - 1) ≡ false) × (place ≡ put.stream - 1 → ⊥))
        → IsTally followers (puts ++ (number, put) ∷ []) doubts (place + 1) (get_or (set tallies (put.stream - 1) now) place no_puts)
    by place small (inl (t, here)) =
        let at = get_or-set_at tallies (put.stream - 1) place now no_puts here (omega (arith, stream.0, stream.1, long)) in
        let own : put.stream ≡ place + 1 = omega (arith, here, stream.0) in
        let same : get_or tallies place no_puts ≡ was =
        ap (λ k. get_or tallies k no_puts) here ∙ (get_or_default tallies (put.stream - 1) no_puts was (omega (arith, stream.0, stream.1, long)) ∙ sym was_is) in
        let was_here = subst (IsTally followers puts doubts (place + 1)) same (before.each place small) in
        subst (IsTally followers (puts ++ (number, put) ∷ []) doubts (place + 1)) (sym (at ∙ is)) (record {
          sent = own_known followers puts number put outcome known (place + 1) sent_at _ was_here.sent own;
          unsettled = own_known followers puts number put outcome known (place + 1) (unsettled_at doubts) _ was_here.unsettled own;
          settled = own_known followers puts number put outcome known (place + 1) (settled_at doubts) _ was_here.settled own;
        })
    by place small (inr (f, apart)) =
        let at = get_or-set_other tallies (put.stream - 1) place now no_puts apart in
        let other : put.stream ≢ place + 1 = λ same. apart (omega (arith, same)) in
        let there = before.each place small in
        subst (IsTally followers (puts ++ (number, put) ∷ []) doubts (place + 1)) (sym at) (record {
          sent = other_known followers puts number put outcome known (place + 1) sent_at _ there.sent other;
          unsettled = other_known followers puts number put outcome known (place + 1) (unsettled_at doubts) _ there.unsettled other;
          settled = other_known followers puts number put outcome known (place + 1) (settled_at doubts) _ there.settled other;
        })

-- those of which a fact holds, and one number more
module _ (Holds : ℕ → Type 0) where
  one_picked : (numbers those : List ℕ) (number : ℕ) → Picks Holds numbers those → Holds number → Picks Holds (numbers ++ number ∷ []) (those ++ number ∷ [])
  one_picked [] those number none holds = inl (holds, ([], ap (λ (l : List ℕ). l ++ number ∷ []) none, refl))
  one_picked (n ∷ numbers) those number (inl (first, (more, is, rest))) holds =
      inl (first, (more ++ number ∷ [], ap (λ (l : List ℕ). l ++ number ∷ []) is, one_picked numbers more number rest holds))
  one_picked (n ∷ numbers) those number (inr (apart, rest)) holds = inr (apart, one_picked numbers those number rest holds)

  none_picked : (numbers those : List ℕ) (number : ℕ) → Picks Holds numbers those → (¬ (Holds number)) → Picks Holds (numbers ++ number ∷ []) those
  none_picked [] those number none fails = inr (fails, none)
  none_picked (n ∷ numbers) those number (inl (first, (more, is, rest))) fails = inl (first, (more, is, none_picked numbers more number rest fails))
  none_picked (n ∷ numbers) those number (inr (apart, rest)) fails = inr (apart, none_picked numbers those number rest fails)

  pub one_of_those : (numbers longer those now : List ℕ) (number : ℕ) → longer ≡ numbers ++ number ∷ [] → now ≡ those ++ number ∷ [] → AreThose Holds numbers those → Holds number
      → AreThose Holds longer now
  one_of_those numbers longer those now number more is before holds = record {
    picked = subst (λ (l : List ℕ). Picks Holds l now) (sym more) (subst (Picks Holds (numbers ++ number ∷ [])) (sym is) (one_picked numbers those number before.picked holds));
  }

  pub none_of_those : (numbers longer those now : List ℕ) (number : ℕ) → longer ≡ numbers ++ number ∷ [] → now ≡ those → AreThose Holds numbers those → (¬ (Holds number))
      → AreThose Holds longer now
  none_of_those numbers longer those now number more is before fails = record {
    picked = subst (λ (l : List ℕ). Picks Holds l now) (sym more) (subst (Picks Holds (numbers ++ number ∷ [])) (sym is) (none_picked numbers those number before.picked fails));
  }

-- a range of streams with one more
range_push : (first many : ℕ) → range_with_len first (many + 1) ≡ range_with_len first many ++ (first + many) ∷ []
range_push first zero = ap (λ k. k ∷ []) (omega arith)
range_push first (suc many) =
    let more : suc many + 1 ≡ suc (many + 1) = omega arith in
    let last : first + 1 + many ≡ first + suc many = omega arith in
    ap (λ k. range_with_len first k) more ∙ ap (λ (l : List ℕ). first ∷ l) (range_push (first + 1) many ∙ ap (λ k. range_with_len (first + 1) many ++ k ∷ []) last)

pub streams_push : (place : ℕ) → range_with_len 1 (place + 1) ≡ range_with_len 1 place ++ (place + 1) ∷ []
streams_push place = range_push 1 place ∙ ap (λ k. range_with_len 1 place ++ k ∷ []) (omega arith)

-- a list names a number
pub names : (numbers : List ℕ) (number : ℕ) (r : Bool) → IsAnyAnswer (λ y t. (y == number) ≡ t) numbers r → Decides r (Contains numbers number)
names numbers number r cases = Decides-contains numbers number r (contains_decides (λ (a b : ℕ). a == b) Decides-eqb numbers number r cases)

-- what is known of a put
pub known_so : (followers : SenderFollowers) (put : Put) (outcome : Option SenderOutcome)
    → (IsNone outcome → (past : List Event) → HaveFollowedSenders followers past → (puts_after put.stream past).count ≤ put.place)
    → IfSome outcome (λ told. (past : List Event) → HaveFollowedSenders followers past → HasSenderOutcome put.stream past put.place told)
    → (past : List Event) → HaveFollowedSenders followers past → IsKnownAs past put outcome
known_so followers put None none some past have = none refl past have
known_so followers put (Some told) none some past have = some past have

-- a put that a stream took is on a line
pub put_at : (past : List Numbered) (stream place : ℕ) → place < puts_in stream (events_of past) → (number : ℕ) × (m : List ℕ) × IsPutAt past number stream place m
put_at [] stream place less = absurd (omega (arith, less))
put_at (line ∷ past) stream place less = by (put_at past stream place) (eqb_tells stream line.event.stream) (is_put line.event.act line.event.reply) refl
  where
    earlier : (place < puts_in stream (events_of past) → (number : ℕ) × (m : List ℕ) × IsPutAt past number stream place m) → place < puts_in stream (events_of past) → (number : ℕ) × (m : List ℕ) × IsPutAt (line ∷ past) number stream place m
    earlier before fewer = let (number, m, at) = before fewer in (number, m, later_on past line number stream place m at)

    none : (own put : Bool) → (stream == line.event.stream) ≡ own → is_put line.event.act line.event.reply ≡ put → (own && put) ≡ false → place < puts_in stream (events_of past)
    none own put own_is put_is not =
        let one = ap (λ (b : Bool). one_if (b && is_put line.event.act line.event.reply)) own_is in
        let two = ap (λ (b : Bool). one_if (own && b)) put_is in
        let zero = ap one_if not in
        omega (arith, less, one, two, zero)

    by : (place < puts_in stream (events_of past) → (number : ℕ) × (m : List ℕ) × IsPutAt past number stream place m)
        → ((eqb stream line.event.stream ≡ true) × (stream ≡ line.event.stream)) ⊎ ((eqb stream line.event.stream ≡ false) × (stream ≡ line.event.stream → ⊥))
        → (put : Bool) → is_put line.event.act line.event.reply ≡ put → (number : ℕ) × (m : List ℕ) × IsPutAt (line ∷ past) number stream place m
    by before (inl (t, same)) true is = here (eqb_tells place (puts_in stream (events_of past)))
      where
        here : ((eqb place (puts_in stream (events_of past)) ≡ true) × (place ≡ puts_in stream (events_of past)))
            ⊎ ((eqb place (puts_in stream (events_of past)) ≡ false) × (place ≡ puts_in stream (events_of past) → ⊥)) → (number : ℕ) × (m : List ℕ) × IsPutAt (line ∷ past) number stream place m
        here (inl (t', last)) =
            let taken = taken_put line.event.act line.event.reply is in (
              line.number,
              taken.message,
              newest_at past line line.number stream place taken.message
                  (record { number_is = refl; stream_is = sym same; place_is = sym last; act_is = taken.act_is; reply_is = taken.reply_is }),
            )
        here (inr (f', apart)) =
            let one = ap (λ (b : Bool). one_if (b && is_put line.event.act line.event.reply)) t in
            let two = ap (λ (b : Bool). one_if (true && b)) is in
            earlier before (below place (puts_in stream (events_of past)) apart (omega (arith, less, one, two)))
          where
            below : (a b : ℕ) → (a ≡ b → ⊥) → a < b + 1 → a < b
            below a b other fewer = omega (arith, fewer, other)
    by before (inl (t, same)) false is = earlier before (none true false t is refl)
    by before (inr (f, apart)) put is = earlier before (none false put f is refl)

-- a put that is kept is among those that are
among : (untold : Untold) (number : ℕ) (put : Put) → get nat_cmp untold.puts number ≡ Some put → Contains untold.puts.entries (number, put)
among untold number put is = subst (λ (o : Option Put). IfSome o (λ p. Contains untold.puts.entries (number, p))) is (IfSome-get nat_cmp_total exact_unsigned untold.puts number)

-- whether a put of a stream was sent, by what is known of those that are kept, and by the mark of those that were answered
module _ (untold : Untold) (doubts : List Span) (tallies : List Tally) (stream : ℕ) (is_stream : IsStream stream) (are : AreTallies untold doubts tallies)
    (next : ℕ) (past : List Numbered) (have : HasRead untold next past) (right : ArePutsRight (events_of past)) where
  abbrev pub tally : Tally
  tally = get_or tallies (stream - 1) no_puts

  known : IsTally untold.followers untold.puts.entries doubts stream tally
  known =
      let place : stream - 1 + 1 ≡ stream = omega (arith, is_stream.0) in
      subst (λ n. IsTally untold.followers untold.puts.entries doubts n tally) place (are.each (stream - 1) (omega (arith, is_stream.0, is_stream.1)))

  followed : HaveFollowedSenders untold.followers (events_of past)
  followed = have.taken.followed right

  kept_sent : HasPut untold.puts.entries (events_of past) sent_at stream → WasSentOn (events_of past) stream
  kept_sent (number, put, here, own, (None, told, is)) = cc
  kept_sent (number, put, here, own, (Some outcome, told, is)) =
      (is_stream, (put.place, subst (λ n. Contains (all_sent (puts_after n (events_of past)).sent) put.place) own (outcome_sent put.stream (events_of past) put.place outcome is told)))

  marked_sent : get_or untold.answered (stream - 1) false ≡ true → WasSentOn (events_of past) stream
  marked_sent mark =
      let (place, answered) = have.taken.marked stream (is_stream, mark) right in
      (is_stream, (place, answered_sent stream (events_of past) place answered))

  sent_kept : (place : ℕ) → Contains (all_sent (puts_after stream (events_of past)).sent) place → (tally.is_sent ≡ true) ⊎ (get_or untold.answered (stream - 1) false ≡ true)
  sent_kept place sent =
      let less = sent_is_put stream (events_of past) place sent in
      let count = right_counts stream (events_of past) right in
      let (number, m, at) = put_at past stream place (omega (arith, less, count)) in
      by number m (have.taken.all number stream place m at) (some_sender_outcome stream (events_of past) place less)
    where
      tells : (number : ℕ) (put : Put) → get nat_cmp untold.puts number ≡ Some put → put.stream ≡ stream → put.place ≡ place → (outcome : SenderOutcome)
          → HasSenderOutcome stream (events_of past) place outcome → (b : Bool) → is_sent (Some outcome) ≡ b → tally.is_sent ≡ true
      tells number put is own here outcome has false none = absurd (outcome_unsent stream (events_of past) place outcome none has sent)
      tells number put is own here outcome has true one = (known.sent (events_of past) followed).1 (
        number,
        put,
        among untold number put is,
        own,
        (Some outcome, subst (λ n. HasSenderOutcome n (events_of past) put.place outcome) (sym own) (subst (λ k. HasSenderOutcome stream (events_of past) k outcome) (sym here) has), one),
      )

      by : (number : ℕ) (m : List ℕ) → IsKept (get nat_cmp untold.puts) number stream place m ⊎ (IsMarked untold.answered stream × (ArePutsRight (events_of past) → IsAnswered stream (events_of past) place))
          → (outcome : SenderOutcome) × HasSenderOutcome stream (events_of past) place outcome → (tally.is_sent ≡ true) ⊎ (get_or untold.answered (stream - 1) false ≡ true)
      by number m (inl (put, is, own, here, message)) (outcome, has) = inl (tells number put is own here outcome has (is_sent (Some outcome)) refl)
      by number m (inr (mark, answered)) (outcome, has) = inr mark.1

  unlike_is : true ≡ false → ⊥
  unlike_is e = cc

  pub sent_by_kept : tally.is_sent ≡ true → Decides tally.is_sent (WasSentOn (events_of past) stream)
  sent_by_kept one = (λ is. kept_sent ((known.sent (events_of past) followed).0 is), λ sent. one)

  pub sent_by_mark : tally.is_sent ≡ false → Decides (get_or untold.answered (stream - 1) false) (WasSentOn (events_of past) stream)
  sent_by_mark none = (marked_sent, λ sent. by (sent_kept sent.1.0 sent.1.1))
    where
      by : (tally.is_sent ≡ true) ⊎ (get_or untold.answered (stream - 1) false ≡ true) → get_or untold.answered (stream - 1) false ≡ true
      by (inl is) = absurd (unlike_is (sym is ∙ none))
      by (inr mark) = mark

  -- whether it is in doubt what became of a message of it
  pub unsettled_decides : (before : List ℕ) → tally.is_unsettled ≡ true → Decides true (IsInDoubt untold (events_of past) doubts before stream)
  unsettled_decides before is = (λ t. inl ((known.unsettled (events_of past) followed).0 is), λ doubted. refl)

  pub stays_decides : (before : List ℕ) (named sent : Bool) → tally.is_unsettled ≡ false → named ≡ true → Decides named (Contains before stream) → Decides sent (WasSentOn (events_of past) stream)
      → Decides (not sent) (IsInDoubt untold (events_of past) doubts before stream)
  stays_decides before named sent settled is has was = (λ none. inr (has.0 is, λ one. unlike sent none (was.1 one)), back)
    where
      unlike : (b : Bool) → not b ≡ true → b ≡ true → ⊥
      unlike true none one = cc
      unlike false none one = cc

      unsent : (b : Bool) → (b ≡ true → WasSentOn (events_of past) stream) → (¬ (WasSentOn (events_of past) stream)) → not b ≡ true
      unsent true one none = absurd (none (one refl))
      unsent false one none = refl

      back : IsInDoubt untold (events_of past) doubts before stream → not sent ≡ true
      back (inl unsettled) = absurd (unlike_is (sym ((known.unsettled (events_of past) followed).1 unsettled) ∙ settled))
      back (inr (here, none)) = unsent sent was.0 none

  pub not_named_decides : (before : List ℕ) (named : Bool) → tally.is_unsettled ≡ false → named ≡ false → Decides named (Contains before stream)
      → Decides named (IsInDoubt untold (events_of past) doubts before stream)
  not_named_decides before named settled is has = (λ yes. absurd (unlike_is (sym yes ∙ is)), back)
    where
      back : IsInDoubt untold (events_of past) doubts before stream → named ≡ true
      back (inl unsettled) = absurd (unlike_is (sym ((known.unsettled (events_of past) followed).1 unsettled) ∙ settled))
      back (inr (here, none)) = has.1 here

-- whether what is told as unknown is settled by now, of a stream
module _ (untold : Untold) (doubts : List Span) (tallies : List Tally) (stream : ℕ) (is_stream : IsStream stream) (are : AreTallies untold doubts tallies)
    (past : List Event) (follows : HaveFollowedSenders untold.followers past) where
  settled_tally : IsTally untold.followers untold.puts.entries doubts stream (get_or tallies (stream - 1) no_puts)
  settled_tally =
      let place : stream - 1 + 1 ≡ stream = omega (arith, is_stream.0) in
      subst (λ n. IsTally untold.followers untold.puts.entries doubts n (get_or tallies (stream - 1) no_puts)) place (are.each (stream - 1) (omega (arith, is_stream.0, is_stream.1)))

  differ : true ≡ false → ⊥
  differ e = cc

  pub open_decides : (get_or tallies (stream - 1) no_puts).is_unsettled ≡ true → Decides false (IsSettledByNow untold past doubts stream)
  open_decides is = (λ yes. absurd (differ (sym yes)), λ settled. absurd (settled.1 ((settled_tally.unsettled past follows).0 is)))

  pub settled_decides : (get_or tallies (stream - 1) no_puts).is_unsettled ≡ false → Decides (get_or tallies (stream - 1) no_puts).is_settled (IsSettledByNow untold past doubts stream)
  settled_decides none = (
    λ is. ((settled_tally.settled past follows).0 is, λ unsettled. differ (sym ((settled_tally.unsettled past follows).1 unsettled) ∙ none)),
    λ settled. (settled_tally.settled past follows).1 settled.0,
  )
