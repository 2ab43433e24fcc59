-- The places of a sender's puts, kept step by step.
use Rattle.std.proofs.Common.{◌≡◌, ℕ, zero, ◌+◌, ◌-◌, ◌<◌, ◌≤◌, min, Bool, true, false, eqb, if◌then◌else◌, Option, None, Some, List, [], ◌∷◌, ◌++◌, length, take, drop, slice_get, Vec, Global, refl, sym, ◌∙◌, ap, subst, inl, inr, ◌⊎◌, arith}
use Rattle.std.specs.List.{Contains, range_with_len}
use Rattle.std.specs.Ordering.{nat_cmp, is_eq}
use Rattle.std.specs.Cmp.{unsigned_tied}
use Rattle.std.specs.BTreeMap.{BTreeMap, get, Updates}
use Rattle.std.proofs.lemmas.Bool.{cases_lt}
use Rattle.std.proofs.lemmas.Bool.Decides.{eqb_tells}
use Rattle.std.proofs.lemmas.List.{length-append}
use Rattle.std.proofs.lemmas.List.FromFn.{length-range_with_len}
use Rattle.std.proofs.lemmas.List.Elements.{Contains-append_left, Contains-append_right, Contains-append_cases}
use Rattle.amo_core.specs.declared.act.Act.{Act}
use Rattle.amo_core.specs.declared.act.Act.TheVariants as act
use Rattle.amo_core.specs.declared.reply.Reply.TheVariants as reply
use Rattle.amo_core.specs.Sender as sender
use Rattle.amo_core.specs.declared.payload.Payload.{Payload}
use Rattle.amo_core.specs.declared.sender.SenderMode.{SenderMode}
use Rattle.amo_core.specs.declared.sender.SenderMode.TheVariants as sending
use Rattle.amo_world.proofs.Lists.{contains_nothing, push_cases, some_injective}
use Rattle.amo_outcomes.specs.declared.marks.Mark.{Mark}
use Rattle.amo_outcomes.specs.declared.marks.Mark.TheVariants.{Unsent, Sent, Settled, Got}
use Rattle.amo_outcomes.specs.declared.marks.Run.{Run}
use Rattle.amo_outcomes.specs.declared.sender_places.SenderPlaces.{SenderPlaces}
use Rattle.amo_outcomes.specs.Puts.{Handshake, Puts, sent_under}
use Rattle.amo_outcomes.specs.Outcome.{asking}
use Rattle.amo_outcomes.specs.Places.{asks, most_of}
use Rattle.amo_outcomes.specs.Follower.{AreAsked}
use Rattle.amo_outcomes.specs.Heard.{Heard, all_sent, heard_ack}
use Rattle.amo_outcomes.specs.Marks.{raised, IsIn, puts_in, AreRaised, Says}
use Rattle.amo_outcomes.specs.SenderPlaces.{AreNewest, Travels, KeepsAt, Keeps, Begins, SendsUnder, Forgets, Hears}
use Rattle.amo_outcomes.proofs.Runs.{contains_range, range_contains, in_run, of_run, range_push, take_range, drop_range}
use Rattle.amo_outcomes.proofs.Marking.{stands_within, stands}
use Rattle.amo_outcomes.proofs.SenderOrder.{under_was_sent}
use Rattle.amo_outcomes.proofs.SenderRows.{with_put, with_carried, with_sent, with_none}

-- where more is settled
newest_more : (sent : List Handshake) (puts : List ℕ) (h more : Heard)
    → ((put : ℕ) → Contains h.settled put → Contains more.settled put) → AreNewest sent puts h → AreNewest sent puts more
newest_more [] puts h more grows n = n
newest_more (s ∷ sent) puts h more grows n = (n.0, λ put c. grows put (n.1 put c))

-- where more was got
travels_more : (run : Option Run) (puts : List ℕ) (h more : Heard) → ((put : ℕ) → Contains h.got put → Contains more.got put)
    → Travels run puts h → Travels run puts more
travels_more None puts h more grows t = λ put c. grows put (t put c)
travels_more (Some run) puts h more grows t = t

-- a put is one of the run, or it is not
in_or_not : (run : Run) (put : ℕ) → IsIn run put ⊎ (¬ (IsIn run put))
in_or_not run put = by (cases_lt put run.end) (cases_lt put run.first)
  where
    by : (put < run.end) ⊎ (run.end ≤ put) → (put < run.first) ⊎ (run.first ≤ put) → IsIn run put ⊎ (¬ (IsIn run put))
    by (inl less) (inr low) = inl (low, less)
    by (inl less) (inl before) = inr (λ is. omega (arith, is.0, before))
    by (inr past) other = inr (λ is. omega (arith, is.1, past))

-- the puts of the newest handshake were sent
newest_sent : (sent : List Handshake) (run : Run) (h : Heard) → AreNewest sent (puts_in run) h → (put : ℕ) → IsIn run put
    → Contains (all_sent sent) put
newest_sent [] run h n put is = absurd (contains_nothing put (subst (λ (ns : List ℕ). Contains ns put) n (of_run run put is)))
newest_sent (s ∷ sent) run h n put is =
    Contains-append_right (all_sent sent) s.puts put (subst (λ (ns : List ℕ). Contains ns put) (sym n.0) (of_run run put is))

-- what was sent before them is settled
older_settled : (sent : List Handshake) (run : Run) (h : Heard) → AreNewest sent (puts_in run) h → (put : ℕ)
    → Contains (all_sent sent) put → (¬ (IsIn run put)) → Contains h.settled put
older_settled [] run h n put c apart = absurd (contains_nothing put c)
older_settled (s ∷ sent) run h n put c apart = elim (Contains-append_cases (all_sent sent) s.puts put c) [
  | inl earlier ↦ n.1 put earlier
  | inr newest ↦ absurd (apart (in_run run put (subst (λ (ns : List ℕ). Contains ns put) n.0 newest)))
]

-- marks that were raised say what they are to say, where each raised one and each other one does
marks_say : (mark : Mark) (run : Run) (old new : List Mark) (sent now : List ℕ) (h more : Heard) → AreRaised mark run old new
    → ((put : ℕ) (m : Mark) → slice_get old put ≡ Some m → Says m sent h put)
    → ((put : ℕ) (m : Mark) → IsIn run put → Says m sent h put → Says (raised mark m) now more put)
    → ((put : ℕ) (m : Mark) → (¬ (IsIn run put)) → Says m sent h put → Says m now more put)
    → (put : ℕ) (m : Mark) → slice_get new put ≡ Some m → Says m now more put
marks_say mark run old new sent now h more r says inside outside put m is = by (in_or_not run put)
    (stands old put (omega (arith, stands_within new put m is, r.count)))
  where
    by : IsIn run put ⊎ (¬ (IsIn run put)) → (x : Mark) × (slice_get old put ≡ Some x) → Says m now more put
    by (inl here) (x, there) =
        subst (λ (y : Mark). Says y now more put) (some_injective (raised mark x) m (sym (r.inside put x here there) ∙ is))
        (inside put x here (says put x there))
    by (inr apart) (x, there) = outside put m apart (says put m (sym (r.outside put apart) ∙ is))

module _ (first : ℕ) (asked newest : Run) (travelling : ℕ → Option Run) where
  -- an identifier is asked for the first ones
  pub keeps_begun : (marks : List Mark) (got : Bool) (most word many end : ℕ) (load : Payload) (p : Puts) (h : Heard)
      → many ≡ min most (length p.waiting) → end ≡ min (first + most) (length marks)
      → KeepsAt marks first asked newest travelling (sending.Quiet got) p h
      → KeepsAt marks end (record { first = first; end = end }) newest travelling (sending.NeedId word load) (with_carried many p) h
  keeps_begun marks got most word many end load p h is ends k =
      let all : length p.waiting ≡ p.count - first = ap length k.waits ∙ length-range_with_len first (p.count - first) in
      let fits : many ≤ p.count - first = omega (arith, is, all) in
      let there : first + many ≡ end = omega (arith, is, ends, all, k.within, k.marked.each) in record {
        marked = k.marked;
        within = omega (arith, ends, k.marked.each);
        waits =
            ap (λ (ns : List ℕ). drop many ns) k.waits ∙ drop_range many first (p.count - first) fits
            ∙ ap (λ (n : ℕ). range_with_len n ((p.count - first) - many)) there
            ∙ ap (λ (n : ℕ). range_with_len end n) (omega (arith, there));
        asks =
            ap (λ (n : ℕ). range_with_len first n) (omega (arith, there)) ∙ sym (take_range many first (p.count - first) fits)
            ∙ sym (ap (λ (ns : List ℕ). take many ns) k.waits);
        is_newest = k.is_newest;
        travels = k.travels;
      }

  -- what waits is forgotten
  pub keeps_forgotten : (marks : List Mark) (mode : SenderMode) (p : Puts) (h : Heard) → KeepsAt marks first asked newest travelling mode p h
      → KeepsAt marks (length marks) asked newest travelling sending.Down (with_none p) h
  keeps_forgotten marks mode p h k = record {
    marked = k.marked;
    within = omega (arith, k.marked.each);
    waits = ap (λ (n : ℕ). range_with_len (length marks) n) (none p.count (length marks) k.marked.each);
    asks = tt;
    is_newest = k.is_newest;
    travels = k.travels;
  }
    where
      none : (n m : ℕ) → m ≡ n → zero ≡ n - m
      none n m same = omega (arith, same)

  -- one put more
  pub keeps_put : (marks : List Mark) (mode : SenderMode) (p : Puts) (h : Heard) → ((put : ℕ) → Contains (all_sent p.sent) put → put < p.count)
      → KeepsAt marks first asked newest travelling mode p h
      → KeepsAt (marks ++ Unsent ∷ []) first asked newest travelling mode (with_put p) h
  keeps_put marks mode p h below k = record {
    marked = record {
      each = length-append marks (Unsent ∷ []) ∙ omega (arith, k.marked.each);
      says = λ put m is. elim (push_cases marks Unsent put m is) [
        | inl e ↦ subst (λ (x : Mark). Says x (all_sent p.sent) h put) e.1 (λ c. omega (arith, below put c, e.0, k.marked.each))
        | inr there ↦ k.marked.says put m there
      ];
      settled_was_sent = k.marked.settled_was_sent;
      got_was_sent = k.marked.got_was_sent;
    };
    within = omega (arith, k.within);
    waits =
        ap (λ (ns : List ℕ). ns ++ p.count ∷ []) k.waits
        ∙ ap (λ (n : ℕ). range_with_len first (p.count - first) ++ n ∷ []) (omega (arith, k.within))
        ∙ range_push first (p.count - first) ∙ ap (λ (n : ℕ). range_with_len first n) (omega (arith, k.within));
    asks = k.asks;
    is_newest = k.is_newest;
    travels = k.travels;
  }

  -- a mode in which no identifier is asked for
  pub keeps_mode : (marks : List Mark) (mode now : SenderMode) (p : Puts) (h : Heard) → AreAsked now (puts_in asked) p.carried
      → KeepsAt marks first asked newest travelling mode p h → KeepsAt marks first asked newest travelling now p h
  keeps_mode marks mode now p h asks k = record {
    marked = k.marked;
    within = k.within;
    waits = k.waits;
    asks = asks;
    is_newest = k.is_newest;
    travels = k.travels;
  }

  module _ (mode : SenderMode) (p : Puts) (h : Heard) (id : ℕ) where
    abbrev under : List ℕ
    under = sent_under p.sent id

    abbrev heard_got : Heard
    heard_got = record h { got = h.got ++ under }

    abbrev heard_lost : Heard
    heard_lost = record h { settled = h.settled ++ under }

    got_or_under : (put : ℕ) → (¬ (Contains h.got put)) → (¬ (Contains under put)) → ¬ (Contains heard_got.got put)
    got_or_under put not_got apart c = elim (Contains-append_cases h.got under put c) [ inl got ↦ not_got got | inr there ↦ apart there ]

    settled_or_under : (put : ℕ) → (¬ (Contains h.settled put)) → (¬ (Contains under put)) → ¬ (Contains heard_lost.settled put)
    settled_or_under put not_settled apart c =
        elim (Contains-append_cases h.settled under put c) [ inl settled ↦ not_settled settled | inr there ↦ apart there ]

    -- a mark says the same of a put that does not travel under the identifier
    says_after_got : (put : ℕ) (m : Mark) → (¬ (Contains under put)) → Says m (all_sent p.sent) h put → Says m (all_sent p.sent) heard_got put
    says_after_got put Unsent apart says = says
    says_after_got put Sent apart says = (says.0, says.1, got_or_under put says.2 apart)
    says_after_got put Settled apart says = (says.0, got_or_under put says.1 apart)
    says_after_got put Got apart says = Contains-append_left h.got under put says

    says_after_lost : (put : ℕ) (m : Mark) → (¬ (Contains under put)) → Says m (all_sent p.sent) h put → Says m (all_sent p.sent) heard_lost put
    says_after_lost put Unsent apart says = says
    says_after_lost put Sent apart says = (says.0, settled_or_under put says.1 apart, says.2)
    says_after_lost put Settled apart says = (Contains-append_left h.settled under put says.0, says.1)
    says_after_lost put Got apart says = says

    -- one that travels under it is got
    says_got : (put : ℕ) (m : Mark) → Contains under put → Says (raised Got m) (all_sent p.sent) heard_got put
    says_got put Unsent there = Contains-append_right h.got under put there
    says_got put Sent there = Contains-append_right h.got under put there
    says_got put Settled there = Contains-append_right h.got under put there
    says_got put Got there = Contains-append_right h.got under put there

    -- or settled, at least
    says_settled : (put : ℕ) (m : Mark) → Contains under put → Says m (all_sent p.sent) h put
        → Says (raised Settled m) (all_sent p.sent) heard_lost put
    says_settled put Unsent there says = absurd (says (under_was_sent p.sent id put there))
    says_settled put Sent there says = (Contains-append_right h.settled under put there, says.2)
    says_settled put Settled there says = (Contains-append_left h.settled under put says.0, says.1)
    says_settled put Got there says = says

    got_was_sent : ((put : ℕ) → Contains h.got put → Contains (all_sent p.sent) put) → (put : ℕ) → Contains heard_got.got put
        → Contains (all_sent p.sent) put
    got_was_sent before put c = elim (Contains-append_cases h.got under put c) [
      | inl got ↦ before put got
      | inr there ↦ under_was_sent p.sent id put there
    ]

    settled_was_sent : ((put : ℕ) → Contains h.settled put → Contains (all_sent p.sent) put) → (put : ℕ) → Contains heard_lost.settled put
        → Contains (all_sent p.sent) put
    settled_was_sent before put c = elim (Contains-append_cases h.settled under put c) [
      | inl settled ↦ before put settled
      | inr there ↦ under_was_sent p.sent id put there
    ]

    -- under an identifier that is taken out all were got
    travels_out : (after : ℕ → Option Run) → after id ≡ None → ((other : ℕ) → eqb id other ≡ false → after other ≡ travelling other)
        → ((other : ℕ) → Travels (travelling other) (sent_under p.sent other) h)
        → (other : ℕ) → Travels (after other) (sent_under p.sent other) heard_got
    travels_out after out others t other = by (eqb_tells id other)
      where
        by : ((eqb id other ≡ true) × (id ≡ other)) ⊎ ((eqb id other ≡ false) × (id ≡ other → ⊥))
            → Travels (after other) (sent_under p.sent other) heard_got
        by (inl e) = subst (λ (x : ℕ). Travels (after x) (sent_under p.sent x) heard_got) e.1
            (subst (λ (o : Option Run). Travels o under heard_got) (sym out) (λ put c. Contains-append_right h.got under put c))
        by (inr e) = subst (λ (o : Option Run). Travels o (sent_under p.sent other) heard_got) (sym (others other e.0))
            (travels_more (travelling other) (sent_under p.sent other) h heard_got (λ put c. Contains-append_left h.got under put c) (t other))

    -- an ack says that what travels under the identifier was got
    pub keeps_got : (marks after_marks : List Mark) (run : Run) (after : ℕ → Option Run) → travelling id ≡ Some run → after id ≡ None
        → ((other : ℕ) → eqb id other ≡ false → after other ≡ travelling other)
        → AreRaised Got run marks after_marks → KeepsAt marks first asked newest travelling mode p h
        → KeepsAt after_marks first asked newest after mode p heard_got
    keeps_got marks after_marks run after known out others r k =
        let same : under ≡ puts_in run = subst (λ (o : Option Run). Travels o under h) known (k.travels id) in record {
          marked = record {
            each = r.count ∙ k.marked.each;
            says = marks_say Got run marks after_marks (all_sent p.sent) (all_sent p.sent) h heard_got r k.marked.says
                (λ put m here says. says_got put m (subst (λ (ns : List ℕ). Contains ns put) (sym same) (of_run run put here)))
                (λ put m apart says. says_after_got put m (λ c. apart (in_run run put (subst (λ (ns : List ℕ). Contains ns put) same c))) says);
            settled_was_sent = k.marked.settled_was_sent;
            got_was_sent = got_was_sent k.marked.got_was_sent;
          };
          within = k.within;
          waits = k.waits;
          asks = k.asks;
          is_newest = newest_more p.sent (puts_in newest) h heard_got (λ put c. c) k.is_newest;
          travels = travels_out after out others k.travels;
        }

    -- all that travel under an identifier that is not known were got before
    pub keeps_got_again : (marks : List Mark) (after : ℕ → Option Run) → travelling id ≡ None → after id ≡ None
        → ((other : ℕ) → eqb id other ≡ false → after other ≡ travelling other)
        → KeepsAt marks first asked newest travelling mode p h → KeepsAt marks first asked newest after mode p heard_got
    keeps_got_again marks after unknown out others k = record {
      marked = record {
        each = k.marked.each;
        says = λ put m is. says put m (k.marked.says put m is);
        settled_was_sent = k.marked.settled_was_sent;
        got_was_sent = got_was_sent k.marked.got_was_sent;
      };
      within = k.within;
      waits = k.waits;
      asks = k.asks;
      is_newest = newest_more p.sent (puts_in newest) h heard_got (λ put c. c) k.is_newest;
      travels = travels_out after out others k.travels;
    }
      where
        got_before : (put : ℕ) → Contains under put → Contains h.got put
        got_before = subst (λ (o : Option Run). Travels o under h) unknown (k.travels id)

        none_more : (put : ℕ) → (¬ (Contains h.got put)) → ¬ (Contains heard_got.got put)
        none_more put not_got = got_or_under put not_got (λ c. not_got (got_before put c))

        says : (put : ℕ) (m : Mark) → Says m (all_sent p.sent) h put → Says m (all_sent p.sent) heard_got put
        says put Unsent s = s
        says put Sent s = (s.0, s.1, none_more put s.2)
        says put Settled s = (s.0, none_more put s.1)
        says put Got s = Contains-append_left h.got under put s

    -- an ack says that the identifier is not known
    pub keeps_lost : (marks after_marks : List Mark) (run : Run) → travelling id ≡ Some run → AreRaised Settled run marks after_marks
        → KeepsAt marks first asked newest travelling mode p h → KeepsAt after_marks first asked newest travelling mode p heard_lost
    keeps_lost marks after_marks run known r k =
        let same : under ≡ puts_in run = subst (λ (o : Option Run). Travels o under h) known (k.travels id) in record {
          marked = record {
            each = r.count ∙ k.marked.each;
            says = marks_say Settled run marks after_marks (all_sent p.sent) (all_sent p.sent) h heard_lost r k.marked.says
                (λ put m here says. says_settled put m (subst (λ (ns : List ℕ). Contains ns put) (sym same) (of_run run put here)) says)
                (λ put m apart says. says_after_lost put m (λ c. apart (in_run run put (subst (λ (ns : List ℕ). Contains ns put) same c))) says);
            settled_was_sent = settled_was_sent k.marked.settled_was_sent;
            got_was_sent = k.marked.got_was_sent;
          };
          within = k.within;
          waits = k.waits;
          asks = k.asks;
          is_newest = newest_more p.sent (puts_in newest) h heard_lost (λ put c. Contains-append_left h.settled under put c) k.is_newest;
          travels = λ other. travels_more (travelling other) (sent_under p.sent other) h heard_lost (λ put c. c) (k.travels other);
        }

    pub keeps_lost_again : (marks : List Mark) → travelling id ≡ None
        → KeepsAt marks first asked newest travelling mode p h → KeepsAt marks first asked newest travelling mode p heard_lost
    keeps_lost_again marks unknown k = record {
      marked = record {
        each = k.marked.each;
        says = λ put m is. says put m (k.marked.says put m is);
        settled_was_sent = settled_was_sent k.marked.settled_was_sent;
        got_was_sent = k.marked.got_was_sent;
      };
      within = k.within;
      waits = k.waits;
      asks = k.asks;
      is_newest = newest_more p.sent (puts_in newest) h heard_lost (λ put c. Contains-append_left h.settled under put c) k.is_newest;
      travels = λ other. travels_more (travelling other) (sent_under p.sent other) h heard_lost (λ put c. c) (k.travels other);
    }
      where
        got_before : (put : ℕ) → Contains under put → Contains h.got put
        got_before = subst (λ (o : Option Run). Travels o under h) unknown (k.travels id)

        says : (put : ℕ) (m : Mark) → Says m (all_sent p.sent) h put → Says m (all_sent p.sent) heard_lost put
        says put Unsent s = s
        says put Sent s = (s.0, settled_or_under put s.1 (λ c. s.2 (got_before put c)), s.2)
        says put Settled s = (Contains-append_left h.settled under put s.0, s.1)
        says put Got s = s

  -- what was asked for is sent, which settles all that was sent before
  module _ (jd id : ℕ) (load sent_load : Payload) (p : Puts) (h : Heard) (marks mid after_marks : List Mark) (after : ℕ → Option Run)
      (apart : (put : ℕ) → Contains p.carried put → ¬ (Contains (all_sent p.sent) put))
      (settled_marks : AreRaised Settled newest marks mid) (sent_marks : AreRaised Sent asked mid after_marks)
      (here : after id ≡ Some asked) (others : (other : ℕ) → eqb id other ≡ false → after other ≡ travelling other)
      (k : KeepsAt marks first asked newest travelling (sending.NeedId jd load) p h) where
    abbrev settled : Heard
    settled = record h { settled = all_sent p.sent }

    abbrev now : List ℕ
    now = all_sent p.sent ++ p.carried

    settles_newest : (put : ℕ) (m : Mark) → IsIn newest put → Says m (all_sent p.sent) h put → Says (raised Settled m) (all_sent p.sent) settled put
    settles_newest put Unsent is says = absurd (says (newest_sent p.sent newest h k.is_newest put is))
    settles_newest put Sent is says = (says.0, says.2)
    settles_newest put Settled is says = (newest_sent p.sent newest h k.is_newest put is, says.1)
    settles_newest put Got is says = says

    settles_others : (put : ℕ) (m : Mark) → (¬ (IsIn newest put)) → Says m (all_sent p.sent) h put → Says m (all_sent p.sent) settled put
    settles_others put Unsent not_in says = says
    settles_others put Sent not_in says = absurd (says.1 (older_settled p.sent newest h k.is_newest put says.0 not_in))
    settles_others put Settled not_in says = (k.marked.settled_was_sent put says.0, says.1)
    settles_others put Got not_in says = says

    mid_says : (put : ℕ) (m : Mark) → slice_get mid put ≡ Some m → Says m (all_sent p.sent) settled put
    mid_says = marks_say Settled newest marks mid (all_sent p.sent) (all_sent p.sent) h settled settled_marks k.marked.says settles_newest settles_others

    carried_in : (put : ℕ) → IsIn asked put → Contains p.carried put
    carried_in put is = subst (λ (ns : List ℕ). Contains ns put) k.asks (of_run asked put is)

    sends_asked : (put : ℕ) (m : Mark) → IsIn asked put → Says m (all_sent p.sent) settled put → Says (raised Sent m) now settled put
    sends_asked put Unsent is says = (
      Contains-append_right (all_sent p.sent) p.carried put (carried_in put is),
      says,
      λ got. says (k.marked.got_was_sent put got),
    )
    sends_asked put Sent is says = absurd (says.1 says.0)
    sends_asked put Settled is says = absurd (apart put (carried_in put is) says.0)
    sends_asked put Got is says = says

    sends_others : (put : ℕ) (m : Mark) → (¬ (IsIn asked put)) → Says m (all_sent p.sent) settled put → Says m now settled put
    sends_others put Unsent not_in says = λ c. elim (Contains-append_cases (all_sent p.sent) p.carried put c) [
      | inl before ↦ says before
      | inr carried ↦ not_in (in_run asked put (subst (λ (ns : List ℕ). Contains ns put) (sym k.asks) carried))
    ]
    sends_others put Sent not_in says = absurd (says.1 says.0)
    sends_others put Settled not_in says = says
    sends_others put Got not_in says = says

    travels_now : (other : ℕ) → Travels (after other) (sent_under (record { id = id; puts = p.carried } ∷ p.sent) other) settled
    travels_now other = by (eqb_tells id other)
      where
        by : ((eqb id other ≡ true) × (id ≡ other)) ⊎ ((eqb id other ≡ false) × (id ≡ other → ⊥))
            → Travels (after other) (if eqb id other then p.carried else sent_under p.sent other) settled
        by (inl e) =
            subst (λ (b : Bool). Travels (after other) (if b then p.carried else sent_under p.sent other) settled) (sym e.0)
            (subst (λ (x : ℕ). Travels (after x) p.carried settled) e.1
            (subst (λ (o : Option Run). Travels o p.carried settled) (sym here) (sym k.asks)))
        by (inr e) =
            subst (λ (b : Bool). Travels (after other) (if b then p.carried else sent_under p.sent other) settled) (sym e.0)
            (subst (λ (o : Option Run). Travels o (sent_under p.sent other) settled) (sym (others other e.0))
            (travels_more (travelling other) (sent_under p.sent other) h settled (λ put c. c) (k.travels other)))

    pub keeps_sent : KeepsAt after_marks first asked asked after (sending.Send id sent_load) (with_sent id p) settled
    keeps_sent = record {
      marked = record {
        each = sent_marks.count ∙ settled_marks.count ∙ k.marked.each;
        says = marks_say Sent asked mid after_marks (all_sent p.sent) now settled settled sent_marks mid_says sends_asked sends_others;
        settled_was_sent = λ put c. Contains-append_left (all_sent p.sent) p.carried put c;
        got_was_sent = λ put c. Contains-append_left (all_sent p.sent) p.carried put (k.marked.got_was_sent put c);
      };
      within = k.within;
      waits = k.waits;
      asks = tt;
      is_newest = (sym k.asks, λ put c. c);
      travels = travels_now;
    }

-- nothing was put yet
pub keeps_nothing : (mode : Bool) → KeepsAt [] 0 (record { first = 0; end = 0 }) (record { first = 0; end = 0 }) (λ id. None)
    (sending.Quiet mode) (record { count = 0; waiting = []; carried = []; sent = []; held = []; got = [] }) (record { got = []; settled = [] })
keeps_nothing mode = record {
  marked = record {
    each = refl;
    says = λ put m is. absurd (omega (arith, stands_within [] put m is));
    settled_was_sent = λ put c. c;
    got_was_sent = λ put c. c;
  };
  within = omega arith;
  waits = refl;
  asks = tt;
  is_newest = refl;
  travels = λ id put c. c;
}

-- numbers that are not equal do not compare as equal
not_at : (id other : ℕ) → eqb id other ≡ false → is_eq (nat_cmp id other) ≡ false
not_at id other apart = unsigned_tied id other ∙ apart

-- the same of the places, as each method leaves them
pub forgets : (k : SenderPlaces) (n : ℕ) → n ≡ length k.marks.items → Forgets k (record k { waiting = n })
forgets k n all mode p h keeps =
    subst (λ (m : ℕ). KeepsAt k.marks.items m k.asked k.sent (get nat_cmp k.travelling) sending.Down (with_none p) h) (sym all)
    (keeps_forgotten k.waiting k.asked k.sent (get nat_cmp k.travelling) k.marks.items mode p h keeps)

pub begins : (k : SenderPlaces) (a : Act) (end : ℕ) → end ≡ min (k.waiting + most_of a) (length k.marks.items)
    → Begins a k (record k { asked = record { first = k.waiting; end = end }; waiting = end })
begins k a end ends got word many load p h is keeps =
    keeps_begun k.waiting k.asked k.sent (get nat_cmp k.travelling) k.marks.items got (most_of a) word many end load p h is ends keeps

pub hears_put : (k : SenderPlaces) (m : List ℕ) (marks : Vec Mark Global) → marks.items ≡ k.marks.items ++ Unsent ∷ []
    → Hears (act.Put m) reply.Ok k (record k { marks = marks })
hears_put k m marks longer at p h below keeps =
    subst (λ (ms : List Mark). KeepsAt ms k.waiting k.asked k.sent (get nat_cmp k.travelling) at (with_put p) h) (sym longer)
    (keeps_put k.waiting k.asked k.sent (get nat_cmp k.travelling) k.marks.items at p h below keeps)

-- the marks and the map of what travels, as a method leaves them
pub hears_got : (k : SenderPlaces) (id : ℕ) (run : Run) (marks : Vec Mark Global) (travelling : BTreeMap ℕ Run)
    → get nat_cmp k.travelling id ≡ Some run → Updates nat_cmp k.travelling travelling id None
    → AreRaised Got run k.marks.items marks.items
    → (mode : SenderMode) (p : Puts) (h : Heard) → Keeps k mode p h
    → Keeps (record k { marks = marks; travelling = travelling }) mode p (heard_ack true (sent_under p.sent id) h)
hears_got k id run marks travelling known out r mode p h keeps =
    keeps_got k.waiting k.asked k.sent (get nat_cmp k.travelling) mode p h id k.marks.items marks.items run (get nat_cmp travelling) known out.1
    (λ other apart. out.2 other (not_at id other apart)) r keeps

pub hears_got_again : (k : SenderPlaces) (id : ℕ) (travelling : BTreeMap ℕ Run)
    → get nat_cmp k.travelling id ≡ None → Updates nat_cmp k.travelling travelling id None
    → (mode : SenderMode) (p : Puts) (h : Heard) → Keeps k mode p h
    → Keeps (record k { travelling = travelling }) mode p (heard_ack true (sent_under p.sent id) h)
hears_got_again k id travelling unknown out mode p h keeps =
    keeps_got_again k.waiting k.asked k.sent (get nat_cmp k.travelling) mode p h id k.marks.items (get nat_cmp travelling) unknown out.1
    (λ other apart. out.2 other (not_at id other apart)) keeps

pub hears_lost : (k : SenderPlaces) (id : ℕ) (run : Run) (marks : Vec Mark Global)
    → get nat_cmp k.travelling id ≡ Some run → AreRaised Settled run k.marks.items marks.items
    → (mode : SenderMode) (p : Puts) (h : Heard) → Keeps k mode p h
    → Keeps (record k { marks = marks }) mode p (heard_ack false (sent_under p.sent id) h)
hears_lost k id run marks known r mode p h keeps =
    keeps_lost k.waiting k.asked k.sent (get nat_cmp k.travelling) mode p h id k.marks.items marks.items run known r keeps

pub hears_lost_again : (k : SenderPlaces) (id : ℕ) → get nat_cmp k.travelling id ≡ None
    → (mode : SenderMode) (p : Puts) (h : Heard) → Keeps k mode p h → Keeps k mode p (heard_ack false (sent_under p.sent id) h)
hears_lost_again k id unknown mode p h keeps =
    keeps_lost_again k.waiting k.asked k.sent (get nat_cmp k.travelling) mode p h id k.marks.items unknown keeps

pub sends : (k : SenderPlaces) (id : ℕ) (travelling : BTreeMap ℕ Run) (mid marks : Vec Mark Global)
    → Updates nat_cmp k.travelling travelling id (Some k.asked)
    → AreRaised Settled k.sent k.marks.items mid.items → AreRaised Sent k.asked mid.items marks.items
    → SendsUnder id k (record k { marks = marks; sent = k.asked; travelling = travelling })
sends k id travelling mid marks put settled_marks sent_marks jd asked load p h apart keeps =
    keeps_sent k.waiting k.asked k.sent (get nat_cmp k.travelling) jd id asked load p h k.marks.items mid.items marks.items
    (get nat_cmp travelling) apart settled_marks sent_marks put.1 (λ q differs. put.2 q (not_at id q differs)) keeps

-- what a mark tells of a put
pub tells : (k : SenderPlaces) (mode : SenderMode) (p : Puts) (h : Heard) (put : ℕ) (m : Mark) → Keeps k mode p h
    → slice_get k.marks.items put ≡ Some m → Says m (all_sent p.sent) h put
tells k mode p h put m keeps is = keeps.marked.says put m is

-- a put that is the first one that waits, or a later one, waits
pub waits_there : (k : SenderPlaces) (mode : SenderMode) (p : Puts) (h : Heard) (put : ℕ) → Keeps k mode p h → k.waiting ≤ put
    → put < length k.marks.items → Contains (asking mode p.carried ++ p.waiting) put
waits_there k mode p h put keeps low high =
    Contains-append_right (asking mode p.carried) p.waiting put
    (subst (λ (ns : List ℕ). Contains ns put) (sym keeps.waits)
    (contains_range k.waiting (p.count - k.waiting) put low (omega (arith, low, high, keeps.marked.each))))

-- one of those for which the sender asks
pub asked_there : (k : SenderPlaces) (mode : SenderMode) (p : Puts) (h : Heard) (put : ℕ) → Keeps k mode p h → asks (sender.kind mode) ≡ true
    → k.asked.first ≤ put → put < k.asked.end → Contains (asking mode p.carried ++ p.waiting) put
asked_there k (sending.NeedId jd load) p h put keeps is low high =
    Contains-append_left p.carried p.waiting put (subst (λ (ns : List ℕ). Contains ns put) keeps.asks (of_run k.asked put (low, high)))
asked_there k (sending.Quiet got) p h put keeps is low high = absurd (differ is)
  where
    differ : false ≡ true → ⊥
    differ e = cc
asked_there k (sending.Send id load) p h put keeps is low high = absurd (differ is)
  where
    differ : false ≡ true → ⊥
    differ e = cc
asked_there k sending.Down p h put keeps is low high = absurd (differ is)
  where
    differ : false ≡ true → ⊥
    differ e = cc

-- none of both was sent, or waits
pub nowhere : (k : SenderPlaces) (mode : SenderMode) (p : Puts) (h : Heard) (put : ℕ) → Keeps k mode p h → put < k.waiting
    → (asks (sender.kind mode) ≡ true → ¬ (IsIn k.asked put)) → ¬ (Contains (asking mode p.carried ++ p.waiting) put)
nowhere k mode p h put keeps low apart c = elim (Contains-append_cases (asking mode p.carried) p.waiting put c) [
  | inl asked ↦ not_asked mode keeps apart asked
  | inr there ↦ let is = range_contains k.waiting (p.count - k.waiting) put (subst (λ (ns : List ℕ). Contains ns put) keeps.waits there) in
      omega (arith, low, is.0)
]
  where
    not_asked : (mode : SenderMode) → Keeps k mode p h → (asks (sender.kind mode) ≡ true → ¬ (IsIn k.asked put))
        → Contains (asking mode p.carried) put → ⊥
    not_asked (sending.NeedId jd load) keeps apart c =
        apart refl (in_run k.asked put (subst (λ (ns : List ℕ). Contains ns put) (sym keeps.asks) c))
    not_asked (sending.Quiet got) keeps apart c = contains_nothing put c
    not_asked (sending.Send id load) keeps apart c = contains_nothing put c
    not_asked sending.Down keeps apart c = contains_nothing put c
