-- Puts that are kept, and those that were answered.
use Rattle.std.proofs.Common.{◌≡◌, ◌∙◌, ◌≢◌, ◌⊎◌, ℕ, ◌+◌, ◌-◌, ◌^◌, ◌≤◌, ◌<◌, Bool, true, false, Option, None, Some, List, [], ◌∷◌, ◌++◌, length, length-append, get_or, replicate, reverse, set, refl, sym, ap, subst, arith, inl, inr, eqb, get_or-set_other}
use Rattle.std.specs.Prelude.{◌==◌, ◌&&◌}
use Rattle.std.specs.List.{All, Contains, flat_map}
use Rattle.std.specs.Option.{is_some}
use Rattle.std.specs.Ordering.{nat_cmp}
use Rattle.std.specs.BTreeMap.{get, is_at}
use Rattle.std.specs.Map.{lookup}
use Rattle.std.proofs.lemmas.Bool.{eqb-true}
use Rattle.std.proofs.lemmas.Bool.Decides.{eqb_tells, nat_tests}
use Rattle.std.proofs.lemmas.List.Elements.{All-cons, All-contains, All-nil, All-weaker, Contains-append_left, Contains-append_right, Contains-push, Contains-push_cases}
use Rattle.std.proofs.lemmas.Grind.{get_or-set_at}
use Rattle.std.proofs.lemmas.List.{get_or-replicate, length-replicate, length-set, reverse-append}
use Rattle.std.proofs.lemmas.Option.{same_Some}
use Rattle.amo_outcomes.specs.declared.sender_followers.SenderFollowers.{SenderFollowers}
use Rattle.amo_outcomes.specs.declared.sender_outcome.SenderOutcome.TheVariants.{Unknown}
use Rattle.amo_outcomes.specs.SenderOutcome.{HasSenderOutcome}
use Rattle.amo_core.specs.declared.act.Act.{Act}
use Rattle.amo_core.specs.declared.act.Act.TheVariants as act
use Rattle.amo_core.specs.declared.reply.Reply.{Reply}
use Rattle.amo_core.specs.declared.reply.Reply.TheVariants as reply
use Rattle.amo_world.specs.declared.event.Event.{Event}
use Rattle.amo_outcomes.specs.RightPuts.{ArePutsRight, HasRightPut}
use Rattle.amo_world.specs.Stream.{IsStream}
use Rattle.amo_outcomes.specs.SenderFollowers.{HaveFollowedSenders}
use Rattle.amo_telling.specs.declared.put.Put.{Put}
use Rattle.amo_telling.specs.declared.untold.Untold.{Untold}
use Rattle.amo_telling.specs.Outcomes.{is_put, one_if, puts_in}
use Rattle.amo_telling.specs.Told.{Counts}
use Rattle.amo_text.proofs.Readings.{IsReadTo}
use Rattle.amo_text.proofs.Readings as readings
use Rattle.amo_journal.specs.declared.lines.Lines.{Lines}
use Rattle.amo_journal.specs.declared.numbered.Numbered.{Numbered}
use Rattle.amo_journal.specs.declared.version.Version.{Version}
use Rattle.amo_journal.specs.Journal.{InRange, fields_of, line_text, numbered}
use Rattle.amo_journal.proofs.Fields.{IsLine-fields_of}
use Rattle.amo_telling.specs.declared.unanswered.Progress.{Progress}
use Rattle.amo_telling.specs.declared.unanswered.Progress.TheVariants.{Gap, Malformed, Whole}
use Rattle.amo_telling.specs.Unanswered.{StopsBy, is_ack}
use Rattle.amo_telling.specs.Untold.{Drops, GoesOn, HasRead, HasTaken, IsAnswered, IsAnsweredBehind, IsAnsweredBy, IsKept, IsMarked, IsNotBefore, IsNotNext, IsPutAt, IsSent, IsSentHere, KeepsPut, Recalls, Takes, events_of}
use Rattle.amo_telling.proofs.SoFar.{numbered_push}

-- the first of two lines, and those behind it
same_first : (x y : Numbered) (xs ys : List Numbered) → x ∷ xs ≡ y ∷ ys → x ≡ y
same_first x y xs ys e = cc

same_others : (x y : Numbered) (xs ys : List Numbered) → x ∷ xs ≡ y ∷ ys → xs ≡ ys
same_others x y xs ys e = cc

-- one line more leaves a put where it is
pub later_on : (past : List Numbered) (line : Numbered) (number stream place : ℕ) (m : List ℕ) → IsPutAt past number stream place m → IsPutAt (line ∷ past) number stream place m
later_on past line number stream place m at = record {
  later = line ∷ at.later;
  line = at.line;
  before = at.before;
  splits = ap (λ (t : List Numbered). line ∷ t) at.splits;
  number_is = at.number_is;
  stream_is = at.stream_is;
  place_is = at.place_is;
  act_is = at.act_is;
  reply_is = at.reply_is;
}

-- a put's line is one of those that were read
pub put_before : (next : ℕ) (past : List Numbered) (number stream place : ℕ) (m : List ℕ) → All (λ (line : Numbered). line.number < next) past → IsPutAt past number stream place m → number < next
put_before next past number stream place m before at =
    let within = subst (All (λ (line : Numbered). line.number < next)) at.splits before in
    let here = All-contains (λ (line : Numbered). line.number < next) (at.later ++ at.line ∷ at.before) at.line within (Contains-append_right at.later (at.line ∷ at.before) at.line (0, omega arith, refl)) in
    let same = at.number_is in
    omega (arith, here, same)

-- the newest line is that of a put
pub record IsNewest (past : List Numbered) (line : Numbered) (number stream place : ℕ) (m : List ℕ) : Type 0 where
  pub number_is : line.number ≡ number
  pub stream_is : line.event.stream ≡ stream
  pub place_is : puts_in stream (events_of past) ≡ place
  pub act_is : line.event.act ≡ act.Put m
  pub reply_is : line.event.reply ≡ reply.Ok

-- a put is on the newest line, or was there before
pub newest_or_before : (past : List Numbered) (line : Numbered) (number stream place : ℕ) (m : List ℕ) → IsPutAt (line ∷ past) number stream place m
    → IsNewest past line number stream place m ⊎ IsPutAt past number stream place m
newest_or_before past line number stream place m at = by at.later at.splits
  where
    by : (later : List Numbered) → line ∷ past ≡ later ++ at.line ∷ at.before → IsNewest past line number stream place m ⊎ IsPutAt past number stream place m
    by [] is =
        let head : line ≡ at.line = same_first line at.line past at.before is in
        let tail : past ≡ at.before = same_others line at.line past at.before is in
        inl (record {
          number_is = ap (λ (t : Numbered). t.number) head ∙ at.number_is;
          stream_is = ap (λ (t : Numbered). t.event.stream) head ∙ at.stream_is;
          place_is = ap (λ (t : List Numbered). puts_in stream (events_of t)) tail ∙ at.place_is;
          act_is = ap (λ (t : Numbered). t.event.act) head ∙ at.act_is;
          reply_is = ap (λ (t : Numbered). t.event.reply) head ∙ at.reply_is;
        })
    by (x ∷ later) is = inr (record {
      later = later;
      line = at.line;
      before = at.before;
      splits = same_others line x past (later ++ at.line ∷ at.before) is;
      number_is = at.number_is;
      stream_is = at.stream_is;
      place_is = at.place_is;
      act_is = at.act_is;
      reply_is = at.reply_is;
    })

-- the newest line is where it is
pub newest_at : (past : List Numbered) (line : Numbered) (number stream place : ℕ) (m : List ℕ) → IsNewest past line number stream place m → IsPutAt (line ∷ past) number stream place m
newest_at past line number stream place m is = record {
  later = [];
  line = line;
  before = past;
  splits = refl;
  number_is = is.number_is;
  stream_is = is.stream_is;
  place_is = is.place_is;
  act_is = is.act_is;
  reply_is = is.reply_is;
}

-- an event that puts nothing leaves the counts
one_of_none : (own put : Bool) → put ≡ false → one_if (own && put) ≡ 0
one_of_none true put is = ap one_if is
one_of_none false put is = refl

pub counts_same : (counts : List ℕ) (past : List Event) (e : Event) → is_put e.act e.reply ≡ false → Counts counts past → Counts counts (e ∷ past)
counts_same counts past e not counted = record {
  each = counted.each;
  puts = λ place small.
      let before = counted.puts place small in
      let none = one_of_none ((place + 1) == e.stream) (is_put e.act e.reply) not in
      omega (arith, before, none);
}

-- and a put counts on its stream
pub counts_one : (counts : List ℕ) (past : List Event) (e : Event) (place : ℕ) → place + 1 ≡ e.stream → place < 256 → is_put e.act e.reply ≡ true → Counts counts past
    → Counts (set counts place (get_or counts place 0 + 1)) (e ∷ past)
counts_one counts past e place is small put counted = record {
  each = length-set counts place (get_or counts place 0 + 1) ∙ counted.each;
  puts = λ other within. by other within (eqb_tells (other + 1) e.stream);
}
  where
    told : (other : ℕ) (b : Bool) → ((other + 1) == e.stream) ≡ b → puts_in (other + 1) (e ∷ past) ≡ puts_in (other + 1) past + one_if (b && true)
    told other b own = ap (λ (t : Bool). puts_in (other + 1) past + one_if (t && is_put e.act e.reply)) own ∙ ap (λ (t : Bool). puts_in (other + 1) past + one_if (b && t)) put

    by : (other : ℕ) → other < 256 → ((eqb (other + 1) e.stream ≡ true) × (other + 1 ≡ e.stream)) ⊎ ((eqb (other + 1) e.stream ≡ false) × (other + 1 ≡ e.stream → ⊥))
        → get_or (set counts place (get_or counts place 0 + 1)) other 0 ≡ puts_in (other + 1) (e ∷ past)
    by other within (inl (t, same)) =
        let here : other ≡ place = omega (arith, same, is) in
        let now = get_or-set_at counts place other (get_or counts place 0 + 1) 0 here (omega (arith, small, counted.each)) in
        let was = ap (λ k. get_or counts k 0) here in
        let before = counted.puts other within in
        let one = told other true t in
        omega (arith, now, was, before, one)
    by other within (inr (f, apart)) =
        let there = get_or-set_other counts place other (get_or counts place 0 + 1) 0 (λ same. apart (ap (λ k. k + 1) same ∙ is)) in
        let before = counted.puts other within in
        let none = told other false f in
        omega (arith, there, before, none)

-- nothing was read
pub nothing_read : (untold : Untold) (first : ℕ) → HaveFollowedSenders untold.followers [] → untold.counts ≡ replicate 256 0 → untold.answered ≡ replicate 256 false → untold.puts.entries ≡ [] → untold.next ≡ first
    → HasRead untold first []
nothing_read untold first followed zeros unmarked empty next = record {
  taken = record {
    followed = λ right. followed;
    counted = subst (λ (t : List ℕ). Counts t []) (sym zeros) (record { each = length-replicate {A = ℕ} 256 0; puts = λ place small. get_or-replicate {A = ℕ} 256 place 0 0 small });
    kept = λ number put is. absurd (no put (ap (lookup (is_at (nat_cmp number))) (sym empty) ∙ is));
    all = λ number stream place m at. let long = ap length at.splits ∙ length-append at.later (at.line ∷ at.before) in absurd (omega (arith, long));
    marked = λ stream mark right.
        let small : stream - 1 < 256 = omega (arith, mark.0.0, mark.0.1) in
        absurd (unlike (sym mark.1 ∙ (ap (λ (l : List Bool). get_or l (stream - 1) false) unmarked ∙ get_or-replicate {A = Bool} 256 (stream - 1) false false small)));
  };
  next_is = next;
  before = All-nil (λ (line : Numbered). line.number < first);
  few = λ stream. omega arith;
}
  where
    unlike : true ≡ false → ⊥
    unlike e = cc

    no : (put : Put) → None ≡ Some put → ⊥
    no put e = cc

-- numbers that differ are compared as others
pub apart_numbers : (x y : ℕ) → (y ≡ x → ⊥) → is_at (nat_cmp x) y ≡ false
apart_numbers x y other = by (is_at (nat_cmp x) y) refl
  where
    ties : is_at (nat_cmp x) y ≡ eqb x y
    ties = grind (arith, nat_tests)

    by : (b : Bool) → is_at (nat_cmp x) y ≡ b → b ≡ false
    by true is = absurd (other (sym (eqb-true x y (sym ties ∙ is))))
    by false is = refl

-- nothing is dropped yet
pub none_dropped : (old : Untold) (sent : List ℕ) → Drops old old sent
none_dropped old sent = (
  λ number. inl refl,
  λ number put is none. absurd (no put (sym none ∙ is)),
  λ stream mark. mark,
  λ stream mark. inl mark,
)
  where
    no : (put : Put) → None ≡ Some put → ⊥
    no put e = cc

-- one is dropped, which was answered
pub one_dropped : (old : Untold) (now : ℕ → Option Put) (one : ℕ) → IsAnsweredBehind old old.followers one → now one ≡ None
    → ((number : ℕ) → is_at (nat_cmp one) number ≡ false → now number ≡ get nat_cmp old.puts number)
    → (number : ℕ) → (now number ≡ get nat_cmp old.puts number) ⊎ ((now number ≡ None) × Contains (one ∷ []) number × IsAnsweredBehind old old.followers number)
one_dropped old now one answered none others number = by (eqb_tells number one)
  where
    by : ((eqb number one ≡ true) × (number ≡ one)) ⊎ ((eqb number one ≡ false) × (number ≡ one → ⊥))
        → (now number ≡ get nat_cmp old.puts number) ⊎ ((now number ≡ None) × Contains (one ∷ []) number × IsAnsweredBehind old old.followers number)
    by (inl (t, here)) = inr (
      subst (λ n. now n ≡ None) (sym here) none,
      subst (λ n. Contains (one ∷ []) n) (sym here) (Contains-push [] one),
      subst (λ n. IsAnsweredBehind old old.followers n) (sym here) answered,
    )
    by (inr (f, apart)) = inl (others number (apart_numbers one number apart))

-- its stream is marked
pub one_marked : (old new : Untold) (one : ℕ) (put : Put) → get nat_cmp old.puts one ≡ Some put → IsAnsweredBehind old old.followers one → new.answered ≡ set old.answered (put.stream - 1) true
    → length old.answered ≡ 256 → get nat_cmp new.puts one ≡ None → ((number : ℕ) → is_at (nat_cmp one) number ≡ false → get nat_cmp new.puts number ≡ get nat_cmp old.puts number)
    → Drops old new (one ∷ [])
one_marked old new one put is answered marks long none others = (
  one_dropped old (get nat_cmp new.puts) one answered none others,
  λ number other was gone. marked number other was gone (eqb_tells number one),
  λ stream mark. (mark.0, by_new mark.0 (eqb_tells stream put.stream) mark.1),
  λ stream mark. by_old stream mark (eqb_tells stream put.stream),
)
  where
    no : (p : Put) → None ≡ Some p → ⊥
    no p e = cc

    unlike : false ≡ true → ⊥
    unlike e = cc

    named : IsStream put.stream
    named = put.named

    here_set : (stream : ℕ) → stream ≡ put.stream → get_or new.answered (stream - 1) false ≡ true
    here_set stream same =
        ap (λ (l : List Bool). get_or l (stream - 1) false) marks
        ∙ get_or-set_at old.answered (put.stream - 1) (stream - 1) true false (ap (λ n. n - 1) same) (omega (arith, long, named.0, named.1))

    other_set : (stream : ℕ) → IsStream stream → (stream ≡ put.stream → ⊥) → get_or new.answered (stream - 1) false ≡ get_or old.answered (stream - 1) false
    other_set stream is_one apart =
        ap (λ (l : List Bool). get_or l (stream - 1) false) marks
        ∙ get_or-set_other old.answered (put.stream - 1) (stream - 1) true false (λ same. apart (omega (arith, same, is_one.0, named.0)))

    marked : (number : ℕ) (other : Put) → get nat_cmp old.puts number ≡ Some other → get nat_cmp new.puts number ≡ None
        → ((eqb number one ≡ true) × (number ≡ one)) ⊎ ((eqb number one ≡ false) × (number ≡ one → ⊥)) → IsMarked new.answered other.stream
    marked number other was gone (inl (t, here)) =
        let same : put ≡ other = same_Some put other (sym is ∙ (ap (get nat_cmp old.puts) (sym here) ∙ was)) in
        subst (λ (p : Put). IsMarked new.answered p.stream) same (named, here_set put.stream refl)
    marked number other was gone (inr (f, apart)) = absurd (no other (sym gone ∙ (others number (apart_numbers one number apart) ∙ was)))

    by_new : {stream : ℕ} → IsStream stream → ((eqb stream put.stream ≡ true) × (stream ≡ put.stream)) ⊎ ((eqb stream put.stream ≡ false) × (stream ≡ put.stream → ⊥))
        → get_or old.answered (stream - 1) false ≡ true → get_or new.answered (stream - 1) false ≡ true
    by_new {stream} is_one (inl (t, here)) mark = here_set stream here
    by_new {stream} is_one (inr (f, apart)) mark = other_set stream is_one apart ∙ mark

    by_old : (stream : ℕ) → IsMarked new.answered stream → ((eqb stream put.stream ≡ true) × (stream ≡ put.stream)) ⊎ ((eqb stream put.stream ≡ false) × (stream ≡ put.stream → ⊥))
        → IsMarked old.answered stream ⊎ ((number : ℕ) × Contains (one ∷ []) number × ((a : IsAnsweredBehind old old.followers number) × (a.0.stream ≡ stream)))
    by_old stream mark (inl (t, here)) =
        let same : answered.0 ≡ put = same_Some answered.0 put (sym answered.1 ∙ is) in
        inr (one, Contains-push [] one, (answered, ap (λ (p : Put). p.stream) same ∙ sym here))
    by_old stream mark (inr (f, apart)) = inl (mark.0, sym (other_set stream mark.0 apart) ∙ mark.1)

-- one more was sent
pub one_more_sent : (untold : Untold) (a : Act) (sent : List ℕ) (one : ℕ) (now : List ℕ) → now ≡ sent ++ one ∷ [] → is_ack a ≡ true → IsSent untold one
    → ((number : ℕ) → Contains sent number → IsSentHere untold a number) → (number : ℕ) → Contains now number → IsSentHere untold a number
one_more_sent untold a sent one now more is was before number here = by (Contains-push_cases sent one number (subst (λ (l : List ℕ). Contains l number) more here))
  where
    by : Contains sent number ⊎ (one ≡ number) → IsSentHere untold a number
    by (inl there) = before number there
    by (inr same) = subst (λ n. IsSentHere untold a n) same (is, was)

-- a put that was taken has a message
pub record IsTaken (a : Act) (r : Reply) : Type 0 where
  pub message : List ℕ
  pub act_is : a ≡ act.Put message
  pub reply_is : r ≡ reply.Ok

pub taken_put : (a : Act) (r : Reply) → is_put a r ≡ true → IsTaken a r
taken_put (act.Put m) reply.Ok is = record { message = m; act_is = refl; reply_is = refl }
taken_put (act.Put m) reply.Full is = cc
taken_put (act.Put m) reply.Down is = cc
taken_put (act.Put m) (reply.Got got) is = cc
taken_put (act.Put m) reply.Nothing is = cc
taken_put (act.Put m) reply.Yes is = cc
taken_put (act.Put m) reply.No is = cc
taken_put (act.Put m) reply.NotYet is = cc
taken_put (act.Put m) reply.Done is = cc
taken_put act.Get r is = cc
taken_put act.Ack r is = cc
taken_put (act.Start word) r is = cc
taken_put (act.Batch word) r is = cc
taken_put act.Resend r is = cc
taken_put (act.Deliver packet word) r is = cc
taken_put act.Crash r is = cc
taken_put act.Recover r is = cc

-- one more is dropped, or is not
pub dropped_more : (old mid new : Untold) (sent : List ℕ) (one : ℕ) → mid.followers ≡ old.followers → Drops old mid sent → Drops mid new (one ∷ []) → Drops old new (sent ++ one ∷ [])
dropped_more old mid new sent one same before drop = (
  λ number. kept_more number (before.0 number) (drop.0 number),
  λ number put is none. marks_more number put is none (before.0 number),
  λ stream mark. drop.2 stream (before.2 stream mark),
  λ stream mark. since stream (drop.3 stream mark),
)
  where
    no : (put : Put) → None ≡ Some put → ⊥
    no put e = cc

    answered : (number : ℕ) → (get nat_cmp mid.puts number ≡ get nat_cmp old.puts number) → IsAnsweredBehind mid mid.followers number → IsAnsweredBehind old old.followers number
    answered number kept (put, is, (outcome, answer, told)) = (
      put,
      sym kept ∙ is,
      (outcome, answer, λ past follows. told past (subst (λ (f : SenderFollowers). HaveFollowedSenders f past) (sym same) follows)),
    )

    named : (number : ℕ) → Contains (one ∷ []) number → Contains (sent ++ one ∷ []) number
    named number here = Contains-append_right sent (one ∷ []) number here

    kept_more : (number : ℕ) → (get nat_cmp mid.puts number ≡ get nat_cmp old.puts number) ⊎ ((get nat_cmp mid.puts number ≡ None) × Contains sent number × IsAnsweredBehind old old.followers number)
        → (get nat_cmp new.puts number ≡ get nat_cmp mid.puts number) ⊎ ((get nat_cmp new.puts number ≡ None) × Contains (one ∷ []) number × IsAnsweredBehind mid mid.followers number)
        → (get nat_cmp new.puts number ≡ get nat_cmp old.puts number) ⊎ ((get nat_cmp new.puts number ≡ None) × Contains (sent ++ one ∷ []) number × IsAnsweredBehind old old.followers number)
    kept_more number (inl kept) (inl now) = inl (now ∙ kept)
    kept_more number (inl kept) (inr (none, here, was)) = inr (none, named number here, answered number kept was)
    kept_more number (inr (none, here, was)) (inl now) = inr (now ∙ none, Contains-append_left sent (one ∷ []) number here, was)
    kept_more number (inr (none, here, was)) (inr (none', here', was')) = inr (none', Contains-append_left sent (one ∷ []) number here, was)

    marks_more : (number : ℕ) (put : Put) → get nat_cmp old.puts number ≡ Some put → get nat_cmp new.puts number ≡ None
        → (get nat_cmp mid.puts number ≡ get nat_cmp old.puts number) ⊎ ((get nat_cmp mid.puts number ≡ None) × Contains sent number × IsAnsweredBehind old old.followers number)
        → IsMarked new.answered put.stream
    marks_more number put is none (inl kept) = drop.1 number put (kept ∙ is) none
    marks_more number put is none (inr (gone, here, was)) = drop.2 put.stream (before.1 number put is gone)

    among : (stream : ℕ) → IsMarked old.answered stream ⊎ ((number : ℕ) × Contains sent number × ((a : IsAnsweredBehind old old.followers number) × (a.0.stream ≡ stream)))
        → IsMarked old.answered stream ⊎ ((number : ℕ) × Contains (sent ++ one ∷ []) number × ((a : IsAnsweredBehind old old.followers number) × (a.0.stream ≡ stream)))
    among stream (inl mark) = inl mark
    among stream (inr (number, here, rest)) = inr (number, Contains-append_left sent (one ∷ []) number here, rest)

    since : (stream : ℕ) → IsMarked mid.answered stream ⊎ ((number : ℕ) × Contains (one ∷ []) number × ((a : IsAnsweredBehind mid mid.followers number) × (a.0.stream ≡ stream)))
        → IsMarked old.answered stream ⊎ ((number : ℕ) × Contains (sent ++ one ∷ []) number × ((a : IsAnsweredBehind old old.followers number) × (a.0.stream ≡ stream)))
    since stream (inl mark) = among stream (before.3 stream mark)
    since stream (inr (number, here, (was, own))) = by (before.0 number)
      where
        by : (get nat_cmp mid.puts number ≡ get nat_cmp old.puts number) ⊎ ((get nat_cmp mid.puts number ≡ None) × Contains sent number × IsAnsweredBehind old old.followers number)
            → IsMarked old.answered stream ⊎ ((number : ℕ) × Contains (sent ++ one ∷ []) number × ((a : IsAnsweredBehind old old.followers number) × (a.0.stream ≡ stream)))
        by (inl kept) = inr (number, named number here, (answered number kept was, own))
        by (inr (none, here', was')) = absurd (no was.0 (sym none ∙ was.1))

-- What is kept behind one line more. Some puts are dropped first, which an ack answered by it.
module _ (old : Untold) (now : SenderFollowers) (past : List Numbered) (line : Numbered) (sent : List ℕ) (have : HasTaken old past)
    (asked : (number : ℕ) → Contains sent number → IsSentHere old line.event.act number)
    (follows : (past : List Event) → HasRightPut past line.event → HaveFollowedSenders old.followers past → HaveFollowedSenders now (line.event ∷ past))
    (mid : ℕ → Option Put)
    (drops : (number : ℕ) → (mid number ≡ get nat_cmp old.puts number) ⊎ ((mid number ≡ None) × Contains sent number × IsAnsweredBehind old now number))
    (marks : List Bool) (marks_dropped : (number : ℕ) (put : Put) → get nat_cmp old.puts number ≡ Some put → mid number ≡ None → IsMarked marks put.stream)
    (keeps_marks : (stream : ℕ) → IsMarked old.answered stream → IsMarked marks stream)
    (marks_no_other : (stream : ℕ) → IsMarked marks stream
    → IsMarked old.answered stream ⊎ ((number : ℕ) × Contains sent number × ((answered : IsAnsweredBehind old now number) × (answered.0.stream ≡ stream)))) where
  -- a put that is kept is one that was kept
  dropped_none : (number : ℕ) (put : Put) → mid number ≡ Some put → get nat_cmp old.puts number ≡ Some put
  dropped_none number put is = by (drops number)
    where
      by : (mid number ≡ get nat_cmp old.puts number) ⊎ ((mid number ≡ None) × Contains sent number × IsAnsweredBehind old now number) → get nat_cmp old.puts number ≡ Some put
      by (inl same) = sym same ∙ is
      by (inr (none, here, answered)) = absurd (no (sym none ∙ is))
        where
          no : None ≡ Some put → ⊥
          no e = cc

  pub kept_behind : (number : ℕ) (put : Put) → mid number ≡ Some put → IsPutAt (line ∷ past) number put.stream put.place put.message.items
  kept_behind number put is = later_on past line number put.stream put.place put.message.items (have.kept number put (dropped_none number put is))

  -- one that was dropped was answered
  answered_now : (number : ℕ) (put : Put) → get nat_cmp old.puts number ≡ Some put → Contains sent number → IsAnsweredBehind old now number → ArePutsRight (events_of (line ∷ past))
      → IsAnsweredBy put.stream (events_of past) line.event put.place
  answered_now number put is here answered right =
      let (is_one, (sender, was, told)) = asked number here in
      let (other, same, (outcome, answer, told')) = answered in
      let before : sender ≡ put = same_Some sender put (sym was ∙ is) in
      let behind : other ≡ put = same_Some other put (sym same ∙ is) in (
        is_one,
        subst (λ (p : Put). HasSenderOutcome p.stream (events_of past) p.place (Unknown false)) before (told (events_of past) (have.followed right.1)),
        (outcome, subst (λ (p : Put). HasSenderOutcome p.stream (events_of (line ∷ past)) p.place outcome) behind (told' (events_of (line ∷ past)) (follows (events_of past) right.0 (have.followed right.1))), answer),
      )

  pub all_behind : (number stream place : ℕ) (m : List ℕ) → IsPutAt past number stream place m
      → IsKept mid number stream place m ⊎ (IsMarked marks stream × (ArePutsRight (events_of (line ∷ past)) → IsAnswered stream (events_of (line ∷ past)) place))
  all_behind number stream place m at = by_kept (have.all number stream place m at)
    where
      by_drop : (put : Put) → get nat_cmp old.puts number ≡ Some put → put.stream ≡ stream → put.place ≡ place → put.message.items ≡ m
          → (mid number ≡ get nat_cmp old.puts number) ⊎ ((mid number ≡ None) × Contains sent number × IsAnsweredBehind old now number)
          → IsKept mid number stream place m ⊎ (IsMarked marks stream × (ArePutsRight (events_of (line ∷ past)) → IsAnswered stream (events_of (line ∷ past)) place))
      by_drop put is own here message (inl same) = inl (put, same ∙ is, own, here, message)
      by_drop put is own here message (inr (none, named, answered)) =
          inr (subst (IsMarked marks) own (marks_dropped number put is none), λ right. inl (subst (λ n. IsAnsweredBy n (events_of past) line.event place) own (subst (λ n. IsAnsweredBy put.stream (events_of past) line.event n) here (answered_now number put is named answered right))))

      by_kept : IsKept (get nat_cmp old.puts) number stream place m ⊎ (IsMarked old.answered stream × (ArePutsRight (events_of past) → IsAnswered stream (events_of past) place))
          → IsKept mid number stream place m ⊎ (IsMarked marks stream × (ArePutsRight (events_of (line ∷ past)) → IsAnswered stream (events_of (line ∷ past)) place))
      by_kept (inl (put, is, own, here, message)) = by_drop put is own here message (drops number)
      by_kept (inr was) = inr (keeps_marks stream was.0, λ right. inr (was.1 right.1))

  -- of a stream that is marked one was answered
  pub marked_behind : (stream : ℕ) → IsMarked marks stream → ArePutsRight (events_of (line ∷ past)) → (place : ℕ) × IsAnswered stream (events_of (line ∷ past)) place
  marked_behind stream mark right = by (marks_no_other stream mark)
    where
      by : IsMarked old.answered stream ⊎ ((number : ℕ) × Contains sent number × ((answered : IsAnsweredBehind old now number) × (answered.0.stream ≡ stream)))
          → (place : ℕ) × IsAnswered stream (events_of (line ∷ past)) place
      by (inl was) = let before = have.marked stream was right.1 in (before.0, inr before.1)
      by (inr (number, here, (answered, own))) =
          let put = answered.0 in (
            put.place,
            inl (subst (λ n. IsAnsweredBy n (events_of past) line.event put.place) own (answered_now number put answered.1 here answered right)),
          )

  module _ (new : Untold) (followers_is : new.followers ≡ now) (marks_is : new.answered ≡ marks) where
    marked_so : (stream : ℕ) → IsMarked marks stream → IsMarked new.answered stream
    marked_so stream mark = subst (λ (l : List Bool). IsMarked l stream) (sym marks_is) mark

    marked_new : (stream : ℕ) → IsMarked new.answered stream → ArePutsRight (events_of (line ∷ past)) → (place : ℕ) × IsAnswered stream (events_of (line ∷ past)) place
    marked_new stream mark right = marked_behind stream (subst (λ (l : List Bool). IsMarked l stream) marks_is mark) right

    followed_behind : ArePutsRight (events_of (line ∷ past)) → HaveFollowedSenders new.followers (events_of (line ∷ past))
    followed_behind right = subst (λ (f : SenderFollowers). HaveFollowedSenders f (events_of (line ∷ past))) (sym followers_is) (follows (events_of past) right.0 (have.followed right.1))

    -- no put
    pub read_other : is_put line.event.act line.event.reply ≡ false → new.counts ≡ old.counts → ((number : ℕ) → get nat_cmp new.puts number ≡ mid number) → HasTaken new (line ∷ past)
    read_other not counts puts = record {
      followed = followed_behind;
      counted = subst (λ (t : List ℕ). Counts t (events_of (line ∷ past))) (sym counts) (counts_same old.counts (events_of past) line.event not have.counted);
      kept = λ number put is. kept_behind number put (sym (puts number) ∙ is);
      all = λ number stream place m at. by number stream place m (newest_or_before past line number stream place m at);
      marked = marked_new;
    }
      where
        untrue : (m : List ℕ) → line.event.act ≡ act.Put m → line.event.reply ≡ reply.Ok → ⊥
        untrue m is_act is_reply = false_is (sym not ∙ (ap (λ (a : Act). is_put a line.event.reply) is_act ∙ ap (is_put (act.Put m)) is_reply))
          where
            false_is : false ≡ true → ⊥
            false_is e = cc

        kept_so : (number stream place : ℕ) (m : List ℕ) → IsKept mid number stream place m → IsKept (get nat_cmp new.puts) number stream place m
        kept_so number stream place m (put, is, own, here, message) = (put, puts number ∙ is, own, here, message)

        by : (number stream place : ℕ) (m : List ℕ) → IsNewest past line number stream place m ⊎ IsPutAt past number stream place m
            → IsKept (get nat_cmp new.puts) number stream place m ⊎ (IsMarked new.answered stream × (ArePutsRight (events_of (line ∷ past)) → IsAnswered stream (events_of (line ∷ past)) place))
        by number stream place m (inl newest) = absurd (untrue m newest.act_is newest.reply_is)
        by number stream place m (inr before) = map_left (all_behind number stream place m before)
          where
            map_left : IsKept mid number stream place m ⊎ (IsMarked marks stream × (ArePutsRight (events_of (line ∷ past)) → IsAnswered stream (events_of (line ∷ past)) place))
                → IsKept (get nat_cmp new.puts) number stream place m ⊎ (IsMarked new.answered stream × (ArePutsRight (events_of (line ∷ past)) → IsAnswered stream (events_of (line ∷ past)) place))
            map_left (inl kept) = inl (kept_so number stream place m kept)
            map_left (inr was) = inr (marked_so stream was.0, was.1)

    -- a put, which is kept
    module _ (m : List ℕ) (act_is : line.event.act ≡ act.Put m) (reply_is : line.event.reply ≡ reply.Ok) (place : ℕ) (place_is : place + 1 ≡ line.event.stream) (small : place < 256)
        (counts : new.counts ≡ set old.counts place (get_or old.counts place 0 + 1))
        (kept : IsKept (get nat_cmp new.puts) line.number line.event.stream (get_or old.counts place 0) m)
        (others : (number : ℕ) → number ≢ line.number → get nat_cmp new.puts number ≡ mid number)
        (free : get nat_cmp old.puts line.number ≡ None) where
      puts_is : get_or old.counts place 0 ≡ puts_in line.event.stream (events_of past)
      puts_is = subst (λ n. get_or old.counts place 0 ≡ puts_in n (events_of past)) place_is (have.counted.puts place small)

      is_one : is_put line.event.act line.event.reply ≡ true
      is_one = ap (λ (a : Act). is_put a line.event.reply) act_is ∙ ap (is_put (act.Put m)) reply_is

      -- it is the newest
      newest_kept : (number : ℕ) (put : Put) → number ≡ line.number → get nat_cmp new.puts number ≡ Some put → IsPutAt (line ∷ past) number put.stream put.place put.message.items
      newest_kept number put here is =
          let (own, at, own_stream, own_place, own_message) = kept in
          let same : own ≡ put = same_Some own put (sym at ∙ (ap (get nat_cmp new.puts) (sym here) ∙ is)) in
          subst (λ (p : Put). IsPutAt (line ∷ past) number p.stream p.place p.message.items) same
          (newest_at past line number own.stream own.place own.message.items (record {
            number_is = sym here;
            stream_is = sym own_stream;
            place_is = ap (λ n. puts_in n (events_of past)) own_stream ∙ (sym puts_is ∙ sym own_place);
            act_is = act_is ∙ ap act.Put (sym own_message);
            reply_is = reply_is;
          }))

      by_newest : (number stream place' : ℕ) (m' : List ℕ) → IsNewest past line number stream place' m' → IsKept (get nat_cmp new.puts) number stream place' m'
      by_newest number stream place' m' newest =
          let (own, at, own_stream, own_place, own_message) = kept in
          let here : number ≡ line.number = sym newest.number_is in
          let message : m ≡ m' = same_put (sym act_is ∙ newest.act_is) in (
            own,
            ap (get nat_cmp new.puts) here ∙ at,
            own_stream ∙ newest.stream_is,
            own_place ∙ (puts_is ∙ (ap (λ n. puts_in n (events_of past)) newest.stream_is ∙ newest.place_is)),
            own_message ∙ message,
          )
        where
          same_put : act.Put m ≡ act.Put m' → m ≡ m'
          same_put e = cc

      pub read_put : HasTaken new (line ∷ past)
      read_put = record {
        followed = followed_behind;
        counted = subst (λ (t : List ℕ). Counts t (events_of (line ∷ past))) (sym counts) (counts_one old.counts (events_of past) line.event place place_is small is_one have.counted);
        kept = λ number put is. by_number number put is (eqb_tells number line.number);
        all = λ number stream place m at. by number stream place m (newest_or_before past line number stream place m at);
        marked = marked_new;
      }
        where
          by_number : (number : ℕ) (put : Put) → get nat_cmp new.puts number ≡ Some put
              → ((eqb number line.number ≡ true) × (number ≡ line.number)) ⊎ ((eqb number line.number ≡ false) × (number ≡ line.number → ⊥))
              → IsPutAt (line ∷ past) number put.stream put.place put.message.items
          by_number number put is (inl (t, here)) = newest_kept number put here is
          by_number number put is (inr (f, apart)) = kept_behind number put (sym (others number apart) ∙ is)

          held : (number : ℕ) (put : Put) → mid number ≡ Some put → number ≡ line.number → ⊥
          held number put is here = no (sym free ∙ (ap (get nat_cmp old.puts) (sym here) ∙ dropped_none number put is))
            where
              no : None ≡ Some put → ⊥
              no e = cc

          by : (number stream place : ℕ) (m : List ℕ) → IsNewest past line number stream place m ⊎ IsPutAt past number stream place m
              → IsKept (get nat_cmp new.puts) number stream place m ⊎ (IsMarked new.answered stream × (ArePutsRight (events_of (line ∷ past)) → IsAnswered stream (events_of (line ∷ past)) place))
          by number stream place m (inl newest) = inl (by_newest number stream place m newest)
          by number stream place m (inr before) = map_left (all_behind number stream place m before)
            where
              map_left : IsKept mid number stream place m ⊎ (IsMarked marks stream × (ArePutsRight (events_of (line ∷ past)) → IsAnswered stream (events_of (line ∷ past)) place))
                  → IsKept (get nat_cmp new.puts) number stream place m ⊎ (IsMarked new.answered stream × (ArePutsRight (events_of (line ∷ past)) → IsAnswered stream (events_of (line ∷ past)) place))
              map_left (inl (put, is, own, here, message)) = inl (put, others number (held number put is) ∙ is, own, here, message)
              map_left (inr was) = inr (marked_so stream was.0, was.1)

    -- whichever it is
    pub read_either : (between : Untold) → ((number : ℕ) → get nat_cmp between.puts number ≡ mid number) → between.counts ≡ old.counts → IsStream line.event.stream
        → get nat_cmp old.puts line.number ≡ None → puts_in line.event.stream (events_of past) + 1 < 2 ^ 64
        → (is_put line.event.act line.event.reply ≡ false → (new.counts ≡ between.counts) × (new.puts ≡ between.puts))
        → ((m : List ℕ) → line.event.act ≡ act.Put m → line.event.reply ≡ reply.Ok → KeepsPut between new line.number line.event.stream m)
        → HasTaken new (line ∷ past)
    read_either between puts_same same_counts stream free few none keeps = by (is_put line.event.act line.event.reply) refl
      where
        by : (b : Bool) → is_put line.event.act line.event.reply ≡ b → HasTaken new (line ∷ past)
        by false is = read_other is ((none is).0 ∙ same_counts) (λ number. ap (λ t. get nat_cmp t number) (none is).1 ∙ puts_same number)
        by true is =
            let taken = taken_put line.event.act line.event.reply is in
            let m = taken.message in
            let keep = keeps m taken.act_is taken.reply_is in
            let small : line.event.stream - 1 < 256 = omega (arith, stream.0, stream.1) in
            let place : line.event.stream - 1 + 1 ≡ line.event.stream = omega (arith, stream.0) in
            let count = subst (λ n. get_or old.counts (line.event.stream - 1) 0 ≡ puts_in n (events_of past)) place (have.counted.puts (line.event.stream - 1) small) in
            let room : get_or old.counts (line.event.stream - 1) 0 + 1 < 2 ^ 64 = omega (arith, count, few) in
            read_put m taken.act_is taken.reply_is (line.event.stream - 1) place small
            (keep.counts (subst (λ (t : List ℕ). get_or t (line.event.stream - 1) 0 + 1 < 2 ^ 64) (sym same_counts) room)
            ∙ ap (λ (t : List ℕ). set t (line.event.stream - 1) (get_or t (line.event.stream - 1) 0 + 1)) same_counts)
            (subst (λ (t : List ℕ). IsKept (get nat_cmp new.puts) line.number line.event.stream (get_or t (line.event.stream - 1) 0) m) same_counts keep.kept)
            (λ number apart. keep.others number apart ∙ puts_same number)
            free

-- a number of which no put is kept, or one
pub none_kept : (o : Option Put) → is_some o ≡ false → o ≡ None
none_kept None is = refl
none_kept (Some put) is = cc

pub one_kept : (o : Option Put) → is_some o ≡ true → (put : Put) × (o ≡ Some put)
one_kept None is = cc
one_kept (Some put) is = (put, refl)

-- how many puts a stream took, as it is counted
pub count_is : (untold : Untold) (past : List Numbered) (stream : ℕ) → IsStream stream → HasTaken untold past → get_or untold.counts (stream - 1) 0 ≡ puts_in stream (events_of past)
count_is untold past stream is have =
    let small : stream - 1 < 256 = omega (arith, is.0, is.1) in
    let place : stream - 1 + 1 ≡ stream = omega (arith, is.0) in
    subst (λ n. get_or untold.counts (stream - 1) 0 ≡ puts_in n (events_of past)) place (have.counted.puts (stream - 1) small)

-- one line more counts one put at most
few_more : (number : ℕ) (e : Event) (past : List Event) → puts_in number (e ∷ past) ≤ puts_in number past + 1
few_more number e past = by ((number == e.stream) && is_put e.act e.reply) refl
  where
    by : (b : Bool) → ((number == e.stream) && is_put e.act e.reply) ≡ b → puts_in number (e ∷ past) ≤ puts_in number past + 1
    by true is = let one = ap one_if is in omega (arith, one)
    by false is = let none = ap one_if is in omega (arith, none)

-- what is told does not depend on which line is the next
pub same_taken : (now new : Untold) (past : List Numbered) → new.followers ≡ now.followers → new.counts ≡ now.counts → new.answered ≡ now.answered → new.puts ≡ now.puts → HasTaken now past → HasTaken new past
same_taken now new past followers counts marks puts have = record {
  followed = λ right. subst (λ (f : SenderFollowers). HaveFollowedSenders f (events_of past)) (sym followers) (have.followed right);
  counted = subst (λ (t : List ℕ). Counts t (events_of past)) (sym counts) have.counted;
  kept = λ number put is. have.kept number put (ap (λ t. get nat_cmp t number) (sym puts) ∙ is);
  all = λ number stream place m at. by number stream place m (have.all number stream place m at);
  marked = λ stream mark. have.marked stream (subst (λ (l : List Bool). IsMarked l stream) marks mark);
}
  where
    by : (number stream place : ℕ) (m : List ℕ) → IsKept (get nat_cmp now.puts) number stream place m ⊎ (IsMarked now.answered stream × (ArePutsRight (events_of past) → IsAnswered stream (events_of past) place))
        → IsKept (get nat_cmp new.puts) number stream place m ⊎ (IsMarked new.answered stream × (ArePutsRight (events_of past) → IsAnswered stream (events_of past) place))
    by number stream place m (inl (put, is, own, here, message)) = inl (put, ap (λ t. get nat_cmp t number) puts ∙ is, own, here, message)
    by number stream place m (inr was) = inr (subst (λ (l : List Bool). IsMarked l stream) (sym marks) was.0, was.1)

-- the next line is one more
pub next_taken : (old now new : Untold) (next : ℕ) (past : List Numbered) (line : Numbered) → HasRead old next past → line.number ≡ old.next → old.next + 1 < 2 ^ 64
    → Takes old now line → new.followers ≡ now.followers → new.counts ≡ now.counts → new.answered ≡ now.answered → new.puts ≡ now.puts → new.next ≡ old.next + 1 → HasRead new (next + 1) (line ∷ past)
next_taken old now new next past line have is few takes followers counts marks puts more =
    let here : line.number ≡ next = is ∙ have.next_is in
    let next_is = have.next_is in
    let most = have.few line.event.stream in
    record {
      taken = same_taken now new (line ∷ past) followers counts marks puts (takes past have.taken (free here) (omega (arith, few, next_is, most)));
      next_is = omega (arith, more, next_is);
      before = All-cons (λ (l : Numbered). l.number < next + 1) line past (omega (arith, here))
          (All-weaker (λ (l : Numbered). l.number < next) (λ (l : Numbered). l.number < next + 1) (λ l less. omega (arith, less)) past have.before);
      few = λ stream. let before = have.few stream in let one = few_more stream line.event (events_of past) in omega (arith, before, one);
    }
  where
    free : line.number ≡ next → get nat_cmp old.puts line.number ≡ None
    free here = none_kept _ (by (is_some (get nat_cmp old.puts line.number)) refl)
      where
        by : (b : Bool) → is_some (get nat_cmp old.puts line.number) ≡ b → is_some (get nat_cmp old.puts line.number) ≡ false
        by false none = none
        by true some =
            let (put, is) = one_kept _ some in
            let less = put_before next past line.number put.stream put.place put.message.items have.before (have.taken.kept line.number put is) in
            absurd (omega (arith, less, here))

-- and so is one in front of it
pub before_taken : (old new : Untold) (next : ℕ) (past : List Numbered) (line : Numbered) → IsStream line.event.stream → HasRead old next past
    → (line.number < old.next) × (is_some (get nat_cmp old.puts line.number) ≡ false) × (get_or old.counts (line.event.stream - 1) 0 < old.next) × (get_or old.counts (line.event.stream - 1) 0 + 1 < 2 ^ 64)
    → Takes old new line → new.next ≡ old.next → HasRead new next (line ∷ past)
before_taken old new next past line stream have is takes same =
    let next_is = have.next_is in
    let less = is.0 in
    let small = is.3 in
    let count = count_is old past line.event.stream stream have.taken in
    record {
      taken = takes past have.taken (none_kept _ is.1) (omega (arith, count, small));
      next_is = same ∙ next_is;
      before = All-cons (λ (l : Numbered). l.number < next) line past (omega (arith, less, next_is)) have.before;
      few = λ other. by other ((other == line.event.stream) && is_put line.event.act line.event.reply) refl (eqb_tells other line.event.stream);
    }
  where
    by : (other : ℕ) (b : Bool) → ((other == line.event.stream) && is_put line.event.act line.event.reply) ≡ b
        → ((eqb other line.event.stream ≡ true) × (other ≡ line.event.stream)) ⊎ ((eqb other line.event.stream ≡ false) × (other ≡ line.event.stream → ⊥))
        → puts_in other (events_of (line ∷ past)) ≤ next
    by other b own (inl (t, here)) =
        let one = few_more other line.event (events_of past) in
        let count = count_is old past line.event.stream stream have.taken in
        let at = ap (λ n. puts_in n (events_of past)) here in
        let fewer = is.2 in
        let next_is = have.next_is in
        omega (arith, one, count, at, fewer, next_is)
    by other b own (inr (f, apart)) =
        let none = ap (λ (t : Bool). one_if (t && is_put line.event.act line.event.reply)) f in
        let before = have.few other in
        omega (arith, none, before)

-- why a line is not in front of the next one
pub not_before : (old : Untold) (next : ℕ) (past : List Numbered) (line : Numbered) → IsStream line.event.stream → HasRead old next past
    → (old.next ≤ line.number) ⊎ ((is_some (get nat_cmp old.puts line.number) ≡ true) ⊎ (old.next ≤ get_or old.counts (line.event.stream - 1) 0)) → IsNotBefore next past line
not_before old next past line stream have (inl more) = let next_is = have.next_is in inl (omega (arith, more, next_is))
not_before old next past line stream have (inr (inl some)) =
    let (put, is) = one_kept _ some in
    inr (inl (put.stream, put.place, put.message.items, have.taken.kept line.number put is))
not_before old next past line stream have (inr (inr many)) =
    let next_is = have.next_is in
    let count = count_is old past line.event.stream stream have.taken in
    inr (inr (omega (arith, many, next_is, count)))

-- lines that go on behind past ones were read up to here
pub record IsFurther (next : ℕ) (past : List Numbered) (lines : Lines) (rest : List ℕ) (untold : Untold) : Type 0 where
  pub events : List Event
  pub read : IsReadTo fields_of (InRange lines.version) lines.text.now (numbered next events) rest
  pub have : HasRead untold (next + length events) (reverse (numbered next events) ++ past)

-- or lines in front of the next one
pub record IsRecalled (next : ℕ) (past : List Numbered) (lines : Lines) (rest : List ℕ) (untold : Untold) : Type 0 where
  pub recalled : List Numbered
  pub read : IsReadTo fields_of (InRange lines.version) lines.text.now recalled rest
  pub have : HasRead untold next (reverse recalled ++ past)

-- where no line stands in front, it does not matter which are refused
pub stops_anyhow : (version : Version) (Refused : Numbered → Type 0) (rest : List ℕ) (progress : Progress) → StopsBy version (λ line. ⊥) rest progress → StopsBy version Refused rest progress
stops_anyhow version Refused rest Whole stops = stops
stops_anyhow version Refused rest Malformed stops = stops
stops_anyhow version Refused rest Gap stops = absurd stops.4

-- one line behind others is the newest
turned_line : (lines : List Numbered) (line : Numbered) (past : List Numbered) → reverse (lines ++ line ∷ []) ++ past ≡ line ∷ (reverse lines ++ past)
turned_line lines line past = ap (λ (t : List Numbered). t ++ past) (reverse-append lines (line ∷ []))

module _ (next : ℕ) (past : List Numbered) (lines : Lines) where
  pub none_yet : (untold : Untold) → HasRead untold next past → IsFurther next past lines lines.text.now untold
  none_yet untold have = record { events = []; read = (tt, refl); have = subst (λ n. HasRead untold n past) (omega arith) have }

  pub none_recalled : (untold : Untold) → HasRead untold next past → IsRecalled next past lines lines.text.now untold
  none_recalled untold have = record { recalled = []; read = (tt, refl); have = have }

  module _ (rest : List ℕ) (untold : Untold) (so_far : IsFurther next past lines rest untold) where
    -- the next line is one more
    pub one_further : (line : Numbered) (more : List ℕ) (now new : Untold) → InRange lines.version line → rest ≡ line_text line ++ more → line.number ≡ untold.next → untold.next + 1 < 2 ^ 64
        → Takes untold now line → new.followers ≡ now.followers → new.counts ≡ now.counts → new.answered ≡ now.answered → new.puts ≡ now.puts → new.next ≡ untold.next + 1 → IsFurther next past lines more new
    one_further line more now new known is here few takes followers counts marks puts one =
        let count : untold.next ≡ next + length so_far.events = so_far.have.next_is in
        let numbers : numbered next so_far.events ++ line ∷ [] ≡ numbered next (so_far.events ++ line.event ∷ []) = numbered_push next untold.next so_far.events line count here in
        let taken = next_taken untold now new (next + length so_far.events) (reverse (numbered next so_far.events) ++ past) line so_far.have here few takes followers counts marks puts one in
        let long = length-append so_far.events (line.event ∷ []) in
        record {
          events = so_far.events ++ line.event ∷ [];
          read = subst (λ (ls : List Numbered). IsReadTo fields_of (InRange lines.version) lines.text.now ls more) numbers
              (readings.read_on fields_of (InRange lines.version) (IsLine-fields_of lines.version) lines.text.now rest more (numbered next so_far.events) line so_far.read known is);
          have = subst (λ (ls : List Numbered). HasRead new (next + length (so_far.events ++ line.event ∷ [])) (reverse ls ++ past)) numbers
              (subst (HasRead new (next + length (so_far.events ++ line.event ∷ []))) (sym (turned_line (numbered next so_far.events) line past))
              (subst (λ n. HasRead new n (line ∷ (reverse (numbered next so_far.events) ++ past))) (omega (arith, long)) taken));
        }

    -- where reading stops
    pub stopped_at : (progress : Progress) → StopsBy lines.version (IsNotNext untold.next) rest progress → GoesOn untold next past lines rest progress
    stopped_at progress stops = record {
      events = so_far.events;
      front = flat_map line_text (numbered next so_far.events);
      whole = so_far.read.1;
      read = (so_far.read.0, refl);
      have = so_far.have;
      stops = subst (λ n. StopsBy lines.version (IsNotNext n) rest progress) so_far.have.next_is stops;
    }

  module _ (rest : List ℕ) (untold : Untold) (so_far : IsRecalled next past lines rest untold) where
    -- one more is recalled
    pub one_recalled : (line : Numbered) (more : List ℕ) (new : Untold) → InRange lines.version line → rest ≡ line_text line ++ more
        → (line.number < untold.next) × (is_some (get nat_cmp untold.puts line.number) ≡ false) × (get_or untold.counts (line.event.stream - 1) 0 < untold.next) × (get_or untold.counts (line.event.stream - 1) 0 + 1 < 2 ^ 64)
        → Takes untold new line → new.next ≡ untold.next → IsRecalled next past lines more new
    one_recalled line more new known is before takes same = record {
      recalled = so_far.recalled ++ line ∷ [];
      read = readings.read_on fields_of (InRange lines.version) (IsLine-fields_of lines.version) lines.text.now rest more so_far.recalled line so_far.read known is;
      have = subst (HasRead new next) (sym (turned_line so_far.recalled line past))
          (before_taken untold new next (reverse so_far.recalled ++ past) line known.1.stream so_far.have before takes same);
    }

    -- where that stops
    pub recalled_to : (progress : Progress) → StopsBy lines.version (IsNotBefore next (reverse so_far.recalled ++ past)) rest progress → Recalls untold next past lines rest progress
    recalled_to progress stops = record {
      recalled = so_far.recalled;
      front = flat_map line_text so_far.recalled;
      whole = so_far.read.1;
      read = (so_far.read.0, refl);
      have = so_far.have;
      stops = stops;
    }

    -- at a line that is not one of them
    pub refused : (line : Numbered) → IsStream line.event.stream
        → (untold.next ≤ line.number) ⊎ ((is_some (get nat_cmp untold.puts line.number) ≡ true) ⊎ (untold.next ≤ get_or untold.counts (line.event.stream - 1) 0))
        → IsNotBefore next (reverse so_far.recalled ++ past) line
    refused line stream why = not_before untold next (reverse so_far.recalled ++ past) line stream so_far.have why
