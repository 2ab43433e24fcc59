-- What is told of the puts of a journal.
use Rattle.std.proofs.Common.{◌≡◌, ◌∙◌, ℕ, ◌+◌, ◌-◌, ◌≤◌, ◌<◌, Bool, true, false, List, [], ◌∷◌, ◌++◌, length, get_or, set, take, replicate, reverse, refl, sym, ap, subst, arith, append_assoc, Some, get_or-set_other, eqb, inl, inr, ◌⊎◌}
use Rattle.std.specs.Prelude.{◌==◌, ◌&&◌}
use Rattle.std.specs.List.{All}
use Rattle.std.proofs.lemmas.List.{append-nil, get_or-replicate, length-replicate, length-reverse, length-set, reverse-append}
use Rattle.std.proofs.lemmas.List.Elements.{All-head, All-tail}
use Rattle.std.proofs.lemmas.Bool.Decides.{eqb_tells}
use Rattle.std.proofs.lemmas.Grind.{get_or-set_at}
use Rattle.amo_core.specs.declared.act.Act.{Act}
use Rattle.amo_core.specs.declared.act.Act.TheVariants as act
use Rattle.amo_core.specs.declared.reply.Reply.{Reply}
use Rattle.amo_core.specs.declared.reply.Reply.TheVariants as reply
use Rattle.amo_world.specs.declared.event.Event.{Event}
use Rattle.amo_world.specs.Stream.{IsStream}
use Rattle.amo_telling.specs.declared.listing.Listing.{Listing}
use Rattle.amo_telling.specs.declared.put_outcome.PutOutcome.{PutOutcome}
use Rattle.amo_telling.specs.Outcomes.{Manner, Tells, TellsReply, is_put, one_if, puts_in}
use Rattle.amo_telling.specs.Told.{Counts, HasTold, at_place, event_line, listed_line, reply_line, told_text}
use Rattle.amo_telling.proofs.Counted.{few_puts, turned_more}

-- one event more
told_more : (choice : Manner) (listing : Listing) (before events : List Event) (e : Event)
    → told_text choice listing before (events ++ e ∷ []) ≡ told_text choice listing before events ++ event_line choice listing (reverse events ++ before) e
told_more choice listing before [] e = append-nil (event_line choice listing before e)
told_more choice listing before (first ∷ events) e =
    let turned : reverse events ++ first ∷ before ≡ reverse (first ∷ events) ++ before =
    sym (append_assoc (reverse events) (first ∷ []) before) ∙ ap (λ (t : List Event). t ++ before) (sym (turned_first events)) in
    ap (λ (t : List ℕ). event_line choice listing before first ++ t)
    (told_more choice listing (first ∷ before) events e ∙ ap (λ (t : List Event). told_text choice listing (first ∷ before) events ++ event_line choice listing t e) turned)
    ∙ sym (append_assoc (event_line choice listing before first) (told_text choice listing (first ∷ before) events) (event_line choice listing (reverse (first ∷ events) ++ before) e))
  where
    turned_first : (events : List Event) → reverse (first ∷ events) ≡ reverse events ++ first ∷ []
    turned_first events = reverse-append (first ∷ []) events

-- an event that puts nothing is not told, and no stream took a put by it
no_line : (choice : Manner) (listing : Listing) (number put stream : ℕ) (a : Act) (r : Reply) → is_put a r ≡ false → reply_line choice listing number put stream a r ≡ []
no_line choice listing number put stream (act.Put m) reply.Ok not = absurd (untrue not)
  where
    untrue : true ≡ false → ⊥
    untrue e = cc
no_line choice listing number put stream (act.Put m) reply.Full not = refl
no_line choice listing number put stream (act.Put m) reply.Down not = refl
no_line choice listing number put stream (act.Put m) (reply.Got got) not = refl
no_line choice listing number put stream (act.Put m) reply.Nothing not = refl
no_line choice listing number put stream (act.Put m) reply.Yes not = refl
no_line choice listing number put stream (act.Put m) reply.No not = refl
no_line choice listing number put stream (act.Put m) reply.NotYet not = refl
no_line choice listing number put stream (act.Put m) reply.Done not = refl
no_line choice listing number put stream act.Get r not = refl
no_line choice listing number put stream act.Ack r not = refl
no_line choice listing number put stream (act.Start word) r not = refl
no_line choice listing number put stream (act.Batch word) r not = refl
no_line choice listing number put stream act.Resend r not = refl
no_line choice listing number put stream (act.Deliver packet word) r not = refl
no_line choice listing number put stream act.Crash r not = refl
no_line choice listing number put stream act.Recover r not = refl

-- given what is told of each put that was taken, of so many in each stream
module _ (choice : Manner) (listing : Listing) (Has : ℕ → ℕ → PutOutcome → Type 0) (many : ℕ → ℕ)
    (told : (stream put : ℕ) → IsStream stream → put < many stream → (outcome : PutOutcome) × Has stream put outcome × (at_place listing (stream - 1) put ≡ Some outcome)) where
  reply_tells : (number put stream : ℕ) (a : Act) (r : Reply) → IsStream stream → (is_put a r ≡ true → put < many stream)
      → TellsReply Has choice number put stream a r (reply_line choice listing number put stream a r)
  reply_tells number put stream (act.Put m) reply.Ok is within =
      let (outcome, has, here) = told stream put is (within refl) in
      (outcome, has, ap (listed_line choice number stream m) here)
  reply_tells number put stream (act.Put m) reply.Full is within = refl
  reply_tells number put stream (act.Put m) reply.Down is within = refl
  reply_tells number put stream (act.Put m) (reply.Got got) is within = refl
  reply_tells number put stream (act.Put m) reply.Nothing is within = refl
  reply_tells number put stream (act.Put m) reply.Yes is within = refl
  reply_tells number put stream (act.Put m) reply.No is within = refl
  reply_tells number put stream (act.Put m) reply.NotYet is within = refl
  reply_tells number put stream (act.Put m) reply.Done is within = refl
  reply_tells number put stream act.Get r is within = refl
  reply_tells number put stream act.Ack r is within = refl
  reply_tells number put stream (act.Start word) r is within = refl
  reply_tells number put stream (act.Batch word) r is within = refl
  reply_tells number put stream act.Resend r is within = refl
  reply_tells number put stream (act.Deliver packet word) r is within = refl
  reply_tells number put stream act.Crash r is within = refl
  reply_tells number put stream act.Recover r is within = refl

  -- the text that is made tells of each put
  pub text_tells : (before events : List Event) → All (λ e. IsStream e.stream) events → ((number : ℕ) → puts_in number before + puts_in number events ≤ many number)
      → Tells Has choice before events (told_text choice listing before events)
  text_tells before [] are within = refl
  text_tells before (e ∷ events) are within = (
    event_line choice listing before e,
    told_text choice listing (e ∷ before) events,
    reply_tells (length before) (puts_in e.stream before) e.stream e.act e.reply (All-head (λ (event : Event). IsStream event.stream) e events are) here,
    text_tells (e ∷ before) events (All-tail (λ (event : Event). IsStream event.stream) e events are) (λ number. omega (arith, within number)),
    refl,
  )
    where
      same_number : ((eqb e.stream e.stream ≡ true) × (e.stream ≡ e.stream)) ⊎ ((eqb e.stream e.stream ≡ false) × (e.stream ≡ e.stream → ⊥)) → (e.stream == e.stream) ≡ true
      same_number (inl (is, same)) = is
      same_number (inr (is, apart)) = absurd (apart refl)

      own : {a b : Bool} → a ≡ true → b ≡ true → (a && b) ≡ true
      own p q = rw (p, q) refl

      here : is_put e.act e.reply ≡ true → puts_in e.stream before < many e.stream
      here put =
          let one : one_if ((e.stream == e.stream) && is_put e.act e.reply) ≡ 1 = ap one_if (own (same_number (eqb_tells e.stream e.stream)) put) in
          let all = within e.stream in
          omega (arith, all, one)

-- nothing was told yet
pub nothing_told : (choice : Manner) (listing : Listing) (text : List ℕ) (events : List Event) → text ≡ [] → HasTold choice listing (replicate 256 0) text (take 0 events)
nothing_told choice listing text [] empty = record {
  counted = record { each = length-replicate {A = ℕ} 256 0; puts = λ place small. get_or-replicate {A = ℕ} 256 place 0 0 small };
  written = empty;
}
nothing_told choice listing text (e ∷ events) empty = record {
  counted = record { each = length-replicate {A = ℕ} 256 0; puts = λ place small. get_or-replicate {A = ℕ} 256 place 0 0 small };
  written = empty;
}

-- what was told, one event more
module _ (choice : Manner) (listing : Listing) (counts text : List ℕ) (events : List Event) (so_far : HasTold choice listing counts text events) (e : Event) where
  with_line : told_text choice listing [] (events ++ e ∷ []) ≡ text ++ event_line choice listing (reverse events) e
  with_line =
      told_more choice listing [] events e
      ∙ ap (λ (t : List Event). told_text choice listing [] events ++ event_line choice listing t e) (append-nil (reverse events))
      ∙ ap (λ (t : List ℕ). t ++ event_line choice listing (reverse events) e) (sym so_far.written)

  -- no put
  pub nothing_put : is_put e.act e.reply ≡ false → HasTold choice listing counts text (events ++ e ∷ [])
  nothing_put not = record {
    counted = record {
      each = so_far.counted.each;
      puts = λ place small. so_far.counted.puts place small ∙ (same place ∙ ap (puts_in (place + 1)) (sym (turned_more events e)));
    };
    written = sym (append-nil text) ∙ (ap (λ (t : List ℕ). text ++ t) (sym (no_line choice listing (length (reverse events)) (puts_in e.stream (reverse events)) e.stream e.act e.reply not)) ∙ sym with_line);
  }
    where
      none : (own : Bool) (put : Bool) → put ≡ false → one_if (own && put) ≡ 0
      none true put is = ap one_if is
      none false put is = refl

      same : (place : ℕ) → puts_in (place + 1) (reverse events) ≡ puts_in (place + 1) (e ∷ reverse events)
      same place = let zero_more = none ((place + 1) == e.stream) (is_put e.act e.reply) not in omega (arith, zero_more)

  -- a count is at most the number of events
  pub few_counted : (place : ℕ) → place + 1 ≡ e.stream → place < 256 → get_or counts place 0 ≤ length events
  few_counted place is small =
      let counted = so_far.counted.puts place small in
      let few = few_puts (place + 1) (reverse events) in
      let long = length-reverse events in
      omega (arith, counted, few, long)

  -- a put, which the stream's count counts
  module _ (place : ℕ) (is : place + 1 ≡ e.stream) (small : place < 256) (put : is_put e.act e.reply ≡ true) where
    pub counted_put : Counts (set counts place (get_or counts place 0 + 1)) (reverse (events ++ e ∷ []))
    counted_put = record {
      each = length-set counts place (get_or counts place 0 + 1) ∙ so_far.counted.each;
      puts = λ other within. by_place other within (eqb_tells (other + 1) e.stream) ∙ ap (puts_in (other + 1)) (sym (turned_more events e));
    }
      where
        counted : (other : ℕ) (b : Bool) → ((other + 1) == e.stream) ≡ b → puts_in (other + 1) (e ∷ reverse events) ≡ puts_in (other + 1) (reverse events) + one_if (b && true)
        counted other b own = ap (λ (t : Bool). puts_in (other + 1) (reverse events) + one_if (t && is_put e.act e.reply)) own ∙ ap (λ (t : Bool). puts_in (other + 1) (reverse events) + one_if (b && t)) put

        by_place : (other : ℕ) → other < 256 → ((eqb (other + 1) e.stream ≡ true) × (other + 1 ≡ e.stream)) ⊎ ((eqb (other + 1) e.stream ≡ false) × (other + 1 ≡ e.stream → ⊥))
            → get_or (set counts place (get_or counts place 0 + 1)) other 0 ≡ puts_in (other + 1) (e ∷ reverse events)
        by_place other within (inl (t, same)) =
            let here : other ≡ place = omega (arith, same, is) in
            let now = get_or-set_at counts place other (get_or counts place 0 + 1) 0 here (omega (arith, small, so_far.counted.each)) in
            let was = ap (λ k. get_or counts k 0) here in
            let before = so_far.counted.puts other within in
            let one = counted other true t in
            omega (arith, now, was, before, one)
        by_place other within (inr (f, apart)) =
            let there = get_or-set_other counts place other (get_or counts place 0 + 1) 0 (λ same. apart (ap (λ k. k + 1) same ∙ is)) in
            let before = so_far.counted.puts other within in
            let none = counted other false f in
            omega (arith, there, before, none)

  -- and its line
  module _ (m : List ℕ) (place : ℕ) (is : place + 1 ≡ e.stream) (small : place < 256) (is_act : e.act ≡ act.Put m) (is_reply : e.reply ≡ reply.Ok) where
    pub line_of_put : event_line choice listing (reverse events) e ≡ listed_line choice (length events) e.stream m (at_place listing place (get_or counts place 0))
    line_of_put =
        let here : e.stream - 1 ≡ place = omega (arith, is) in
        let count : puts_in e.stream (reverse events) ≡ get_or counts place 0 = subst (λ n. puts_in n (reverse events) ≡ get_or counts place 0) is (sym (so_far.counted.puts place small)) in
        ap (λ (a : Act). reply_line choice listing (length (reverse events)) (puts_in e.stream (reverse events)) e.stream a e.reply) is_act
        ∙ ap (λ (r : Reply). reply_line choice listing (length (reverse events)) (puts_in e.stream (reverse events)) e.stream (act.Put m) r) is_reply
        ∙ ap (λ n. listed_line choice n e.stream m (at_place listing (e.stream - 1) (puts_in e.stream (reverse events)))) (length-reverse events)
        ∙ ap (λ n. listed_line choice (length events) e.stream m (at_place listing n (puts_in e.stream (reverse events)))) here
        ∙ ap (λ n. listed_line choice (length events) e.stream m (at_place listing place n)) count

    pub one_put : (now_text now_counts : List ℕ) → now_text ≡ text ++ listed_line choice (length events) e.stream m (at_place listing place (get_or counts place 0))
        → now_counts ≡ set counts place (get_or counts place 0 + 1) → HasTold choice listing now_counts now_text (events ++ e ∷ [])
    one_put now_text now_counts pushed set_is = record {
      counted = subst (λ (t : List ℕ). Counts t (reverse (events ++ e ∷ []))) (sym set_is) (counted_put place is small (ap (λ (a : Act). is_put a e.reply) is_act ∙ ap (is_put (act.Put m)) is_reply));
      written = pushed ∙ ap (λ (t : List ℕ). text ++ t) (sym line_of_put) ∙ sym with_line;
    }
