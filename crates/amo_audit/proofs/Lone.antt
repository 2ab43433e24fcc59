-- A side that is judged without the other, after an act.
use Rattle.std.proofs.Common.{◌≡◌, ℕ, ◌+◌, ◌-◌, Bool, true, false, cond, eqb, Option, None, Some, List, [], ◌∷◌, ◌++◌, length, slice_get, set, get_or, reverse, append_assoc, refl, sym, ◌∙◌, ap, subst, inl, inr, ◌⊎◌, arith}
use Rattle.std.specs.Prelude.{◌↔◌, IsTrue}
use Rattle.std.specs.List.{Contains}
use Rattle.std.specs.Option.{option_to_list}
use Rattle.std.specs.Ordering.{nat_cmp}
use Rattle.std.specs.Cmp.{nat_cmp_is}
use Rattle.std.specs.declared.cmp.Ordering.TheVariants.{Equal}
use Rattle.std.specs.BTreeMap.{is_at}
use Rattle.std.specs.BTreeSet.{contains}
use Rattle.std.proofs.lemmas.Bool.{eq-eqb, eqb-true, ne_eqb}
use Rattle.std.proofs.lemmas.Bool.Decides.{nat_tests}
use Rattle.std.specs.Ordering.{is_eq}
use Rattle.std.proofs.lemmas.List.{length-set}
use Rattle.std.proofs.lemmas.Option.{slice_get_read}
use Rattle.amo_object.specs.declared.step.End.{End}
use Rattle.amo_object.specs.declared.step.End.TheVariants.{Sender, Receiver}
use Rattle.amo_core.specs.declared.act.Act.{Act}
use Rattle.amo_core.specs.declared.reply.Reply.{Reply}
use Rattle.amo_core.specs.declared.automaton.Automaton.{Automaton}
use Rattle.amo_core.specs.Automaton.{row, used_word}
use Rattle.amo_world.specs.declared.event.Event.{Event}
use Rattle.amo_world.specs.declared.fault.WorldFault.{WorldFault}
use Rattle.amo_world.specs.declared.fault.WorldFault.TheVariants as fault
use Rattle.amo_world.specs.Stream.{IsStream, Stream, initial, after, automaton_of, reply_of, words_of}
use Rattle.amo_world.specs.History.{is_same_side, IsNewWord, stream_after, stream_before, after_if, HasRightReply, UsesNewWord}
use Rattle.amo_world.proofs.Order.{reverse_push}
use Rattle.amo_world.proofs.Lists.{contains_cases, contains_first, contains_other, set_cases, push_cases}
use Rattle.amo_audit.specs.declared.auditor.Finding.{Finding}
use Rattle.amo_audit.specs.declared.auditor.Finding.TheVariants.{Nothing, AtFault}
use Rattle.amo_audit.specs.declared.lone_side.LoneSide.{LoneSide}
use Rattle.amo_audit.specs.declared.lone_sides.LoneSides.{LoneSides}
use Rattle.amo_audit.specs.Alone.{AreLone, FindsAlone, IsLone, IsNew, IsRefusedAt, IsSoundAlone, RefusesAct, RefusesAlone, Represents, side_of}

-- whether two numbers are compared equal
equal_numbers : (x y : ℕ) → x ≡ y → is_at (nat_cmp x) y ≡ true
equal_numbers x y is = ap is_eq (sym (nat_cmp_is x y Equal is))

numbers_equal : (x y : ℕ) → is_at (nat_cmp x) y ≡ true → x ≡ y
numbers_equal x y is = by (eqb x y) refl
  where
    ties : is_eq (nat_cmp x y) ≡ eqb x y
    ties = grind (arith, nat_tests)

    by : (b : Bool) → eqb x y ≡ b → x ≡ y
    by true same = eqb-true x y same
    by false apart = absurd (differ (sym is ∙ ties ∙ apart))
      where
        differ : true ≡ false → ⊥
        differ e = cc

-- a word more in the set
one_of : (b u : Bool) → cond b true u ≡ true → (b ≡ true) ⊎ (u ≡ true)
one_of true u e = inl refl
one_of false u e = inr e

first_of : (b u : Bool) → b ≡ true → cond b true u ≡ true
first_of true u e = refl
first_of false u e = cc

other_of : (b u : Bool) → u ≡ true → cond b true u ≡ true
other_of true u e = refl
other_of false u e = e

known_more : (was : ℕ → Bool) (words : List ℕ) (p q : ℕ) → (IsTrue (was q) ↔ Contains words q) → IsTrue (cond (is_at (nat_cmp p) q) true (was q)) ↔ Contains (p ∷ words) q
known_more was words p q known = ((λ is. told (one_of _ _ is)), λ c. among (contains_cases p words q c))
  where
    told : (is_at (nat_cmp p) q ≡ true) ⊎ (was q ≡ true) → Contains (p ∷ words) q
    told (inl here) = subst (Contains (p ∷ words)) (numbers_equal p q here) (contains_first p words)
    told (inr there) = contains_other p words q (known.0 there)

    among : (p ≡ q) ⊎ Contains words q → IsTrue (cond (is_at (nat_cmp p) q) true (was q))
    among (inl here) = first_of (is_at (nat_cmp p) q) (was q) (equal_numbers p q here)
    among (inr there) = other_of (is_at (nat_cmp p) q) (was q) (known.1 there)

pub keeps_more : (k n : LoneSide) (p : ℕ) (automaton : Automaton) (words : List ℕ) → n.automaton ≡ k.automaton
    → ((q : ℕ) → contains nat_cmp n.words q ≡ cond (is_at (nat_cmp p) q) true (contains nat_cmp k.words q)) → IsLone k automaton words → IsLone n automaton (p ∷ words)
keeps_more k n p automaton words state more keeps = record {
  state = state ∙ keeps.state;
  known = λ q. subst (λ (b : Bool). IsTrue b ↔ Contains (p ∷ words) q) (sym (more q)) (known_more (contains nat_cmp k.words) words p q (keeps.known q));
}

-- the word was used up, where it is in the set
pub used_is : (k : LoneSide) (automaton : Automaton) (words : List ℕ) (w : ℕ) → IsLone k automaton words → IsTrue (contains nat_cmp k.words w) ↔ (¬ (IsNew (Some w) words))
used_is k automaton words w keeps = ((λ is new. new ((keeps.known w).0 is)), λ not. by (contains nat_cmp k.words w) refl not)
  where
    by : (b : Bool) → contains nat_cmp k.words w ≡ b → (¬ (IsNew (Some w) words)) → IsTrue (contains nat_cmp k.words w)
    by true is not = is
    by false is not = absurd (not (λ c. differ (sym ((keeps.known w).1 c) ∙ is)))
      where
        differ : true ≡ false → ⊥
        differ e = cc

-- a side of a stream makes an act
abbrev pub Takes : LoneSide → LoneSide → Act → Reply → Type 0
Takes k n a r = (automaton : Automaton) (words : List ℕ) → IsLone k automaton words → ((row automaton a).reply ≡ Some r) × IsNew (used_word automaton a) words
    × IsLone n (row automaton a).state (option_to_list (used_word automaton a) ++ words)

abbrev pub TakesAt : LoneSides → LoneSides → End → Act → Reply → Type 0
TakesAt k n side a r = (s : Stream) → AreLone k s → (reply_of s side a ≡ Some r) × IsNewWord s side a × AreLone n (after s side a)

pub sender_takes : (k : LoneSides) (n : LoneSide) (a : Act) (r : Reply) → Takes k.sender n a r → TakesAt k (record k { sender = n }) Sender a r
sender_takes k n a r takes s both =
    let t = takes (automaton_of s Sender) (words_of s Sender) (both Sender) in
    (t.0, t.1, λ end. at end t.2)
  where
    at : (end : End) → IsLone n (row (automaton_of s Sender) a).state (option_to_list (used_word (automaton_of s Sender) a) ++ words_of s Sender)
        → IsLone (side_of (record k { sender = n }) end) (automaton_of (after s Sender a) end) (words_of (after s Sender a) end)
    at Sender now = now
    at Receiver now = both Receiver

pub receiver_takes : (k : LoneSides) (n : LoneSide) (a : Act) (r : Reply) → Takes k.receiver n a r → TakesAt k (record k { receiver = n }) Receiver a r
receiver_takes k n a r takes s both =
    let t = takes (automaton_of s Receiver) (words_of s Receiver) (both Receiver) in
    (t.0, t.1, λ end. at end t.2)
  where
    at : (end : End) → IsLone n (row (automaton_of s Receiver) a).state (option_to_list (used_word (automaton_of s Receiver) a) ++ words_of s Receiver)
        → IsLone (side_of (record k { receiver = n }) end) (automaton_of (after s Receiver a) end) (words_of (after s Receiver a) end)
    at Sender now = both Sender
    at Receiver now = now

pub new_sides : (k : LoneSides) (number : ℕ) → IsLone k.sender (automaton_of (initial number) Sender) [] → IsLone k.receiver (automaton_of (initial number) Receiver) [] → AreLone k (initial number)
new_sides k number sender receiver Sender = sender
new_sides k number sender receiver Receiver = receiver

-- what is refused at a side is refused of the event
wrong_there : (s : Stream) (side : End) (a : Act) (r : Reply) → ¬ ((row (automaton_of s side) a).reply ≡ Some r) → ¬ (reply_of s side a ≡ Some r)
wrong_there s Sender a r not = not
wrong_there s Receiver a r not = not

right_there : (s : Stream) (side : End) (a : Act) (r : Reply) → (row (automaton_of s side) a).reply ≡ Some r → reply_of s side a ≡ Some r
right_there s Sender a r is = is
right_there s Receiver a r is = is

old_there : (s : Stream) (side : End) (a : Act) → ¬ (IsNew (used_word (automaton_of s side) a) (words_of s side)) → ¬ (IsNewWord s side a)
old_there s Sender a not = not
old_there s Receiver a not = not

pub refused_there : (past : List Event) (e : Event) (why : WorldFault) → RefusesAct (automaton_of (stream_before past e) e.side) (words_of (stream_before past e) e.side) e.act e.reply why
    → RefusesAlone past e why
refused_there past e fault.WrongReply refused = wrong_there (stream_before past e) e.side e.act e.reply refused
refused_there past e fault.Repeat refused = (right_there (stream_before past e) e.side e.act e.reply refused.0, old_there (stream_before past e) e.side e.act refused.1)
refused_there past e fault.Unsent refused = refused
refused_there past e fault.NoMemory refused = tt

-- the stream of an event, and any other
here : (past : List Event) (e : Event) (number : ℕ) → number ≡ e.stream → stream_after number (e ∷ past) ≡ after (stream_after number past) e.side e.act
here past e number is = ap (λ (b : Bool). after_if b (stream_after number past) e) (eq-eqb number e.stream is)

elsewhere : (past : List Event) (e : Event) (number : ℕ) → (number ≡ e.stream → ⊥) → stream_after number (e ∷ past) ≡ stream_after number past
elsewhere past e number apart = ap (λ (b : Bool). after_if b (stream_after number past) e) (ne_eqb number e.stream apart)

pub at_stream : (streams : List LoneSides) (past : List Event) (number : ℕ) (kept : LoneSides) → Represents streams past → IsStream number → kept ≡ get_or streams (number - 1) kept → AreLone kept (stream_after number past)
at_stream streams past number kept all known at =
    let stands = all.each (number - 1) kept (slice_get_read streams 256 (number - 1) kept (sym all.count) (omega arith) at) in
    let same : number - 1 + 1 ≡ number = omega arith in
    subst (λ (n : ℕ). AreLone kept (stream_after n past)) same stands

pub all_more : (streams : List LoneSides) (past : List Event) (e : Event) (old new : LoneSides) → IsStream e.stream → old ≡ get_or streams (e.stream - 1) old
    → AreLone new (after (stream_before past e) e.side e.act) → Represents streams past → Represents (set streams (e.stream - 1) new) (e ∷ past)
all_more streams past e old new known at made all = record {
  count = length-set streams (e.stream - 1) new ∙ all.count;
  each = λ place kept is. each_case place kept (set_cases streams (e.stream - 1) new place kept is);
}
  where
    now : (place : ℕ) → e.stream - 1 ≡ place → stream_after (place + 1) (e ∷ past) ≡ after (stream_after e.stream past) e.side e.act
    now place is = let same : place + 1 ≡ e.stream = omega (arith, is, known.0) in here past e (place + 1) same ∙ ap (λ n. after (stream_after n past) e.side e.act) same

    each_case : (place : ℕ) (kept : LoneSides) → ((e.stream - 1 ≡ place) × (new ≡ kept)) ⊎ ((e.stream - 1 ≡ place → ⊥) × (slice_get streams place ≡ Some kept)) → AreLone kept (stream_after (place + 1) (e ∷ past))
    each_case place kept (inl (same, is)) = subst (λ (k : LoneSides). AreLone k (stream_after (place + 1) (e ∷ past))) is
        (subst (AreLone new) (sym (now place same)) made)
    each_case place kept (inr (apart, is)) = subst (AreLone kept) (sym (elsewhere past e (place + 1) (λ same. apart (omega (arith, same))))) (all.each place kept is)

-- every stream is there, and nothing happened yet
abbrev pub AreNew : List LoneSides → Type 0
AreNew streams = (place : ℕ) (kept : LoneSides) → slice_get streams place ≡ Some kept → AreLone kept (initial (place + 1))

pub new_streams : (streams : List LoneSides) (next : LoneSides) (number : ℕ) → AreNew streams → length streams + 1 ≡ number → AreLone next (initial number) → AreNew (streams ++ next ∷ [])
new_streams streams next number known count new place kept is = cases (push_cases streams next place kept is)
  where
    cases : ((length streams ≡ place) × (next ≡ kept)) ⊎ (slice_get streams place ≡ Some kept) → AreLone kept (initial (place + 1))
    cases (inl (end, same)) = subst (λ (k : LoneSides). AreLone k (initial (place + 1))) same
        (subst (λ n. AreLone next (initial n)) (let s : number ≡ place + 1 = omega (arith, end, count) in s) new)
    cases (inr there) = known place kept there

-- both are the same side
pub same_side : (x y : End) → (x ≡ y → is_same_side x y ≡ true) × (is_same_side x y ≡ true → x ≡ y)
same_side Sender Sender = ((λ e. refl), λ e. refl)
same_side Sender Receiver = ((λ e. cc), λ e. cc)
same_side Receiver Sender = ((λ e. cc), λ e. cc)
same_side Receiver Receiver = ((λ e. refl), λ e. refl)

-- an act is made, once its word is noted
pub moved : (noted : LoneSide) (now : Automaton) (a : Act) (automaton : Automaton) (words : List ℕ) → now ≡ (row noted.automaton a).state → IsLone noted automaton words
    → IsLone (record noted { automaton = now }) (row automaton a).state words
moved noted now a automaton words is keeps = record { state = is ∙ ap (λ (x : Automaton). (row x a).state) keeps.state; known = keeps.known }

-- an act is taken, with its right reply and its new word
pub taken : (k n : LoneSide) (a : Act) (r : Reply) (word : Option ℕ) (automaton : Automaton) (words : List ℕ) → IsLone k automaton words
    → (row k.automaton a).reply ≡ Some r → word ≡ used_word k.automaton a → IsNew word words → IsLone n (row automaton a).state (option_to_list word ++ words)
    → ((row automaton a).reply ≡ Some r) × IsNew (used_word automaton a) words × IsLone n (row automaton a).state (option_to_list (used_word automaton a) ++ words)
taken k n a r word automaton words keeps right is new now =
    let same : word ≡ used_word automaton a = is ∙ ap (λ (x : Automaton). used_word x a) keeps.state in (
      ap (λ (x : Automaton). (row x a).reply) (sym keeps.state) ∙ right,
      subst (λ (o : Option ℕ). IsNew o words) same new,
      subst (λ (o : Option ℕ). IsLone n (row automaton a).state (option_to_list o ++ words)) same now,
    )

-- a word that was not used up is new
pub is_new : (word : Option ℕ) (words : List ℕ) (b : Bool) → b ≡ false → (IsTrue b ↔ (¬ (IsNew word words))) → IsNew word words
is_new None words b is used = tt
is_new (Some w) words b is used = λ c. differ (sym (used.1 (λ new. new c)) ∙ is)
  where
    differ : true ≡ false → ⊥
    differ e = cc

-- an event that was refused stays the first one
refused_stays : (events : List Event) (e : Event) (at : ℕ) (why : WorldFault) → IsRefusedAt events at why → IsRefusedAt (events ++ e ∷ []) at why
refused_stays events e at why found = record {
  before = found.before;
  event = found.event;
  after = found.after ++ e ∷ [];
  whole = ap (λ (t : List Event). t ++ e ∷ []) found.whole ∙ append_assoc found.before (found.event ∷ found.after) (e ∷ []);
  sound = found.sound;
  refused = found.refused;
  count = found.count;
}

-- what is found of events
module _ (streams : List LoneSides) (finding : Finding) (events : List Event) (finds : FindsAlone streams finding events) where
  pub sound_alone : finding ≡ Nothing → Represents streams (reverse events) × IsSoundAlone (reverse events)
  sound_alone is = subst (λ (f : Finding). FindsAlone streams f events) is finds

  pub refused_alone : (at : ℕ) (why : WorldFault) → finding ≡ AtFault at why → IsRefusedAt events at why
  refused_alone at why is = subst (λ (f : Finding). FindsAlone streams f events) is finds

  -- and of one more
  pub behind_fault : (e : Event) (at : ℕ) (why : WorldFault) → finding ≡ AtFault at why → FindsAlone streams finding (events ++ e ∷ [])
  behind_fault e at why is = subst (λ (f : Finding). FindsAlone streams f (events ++ e ∷ [])) (sym is) (refused_stays events e at why (refused_alone at why is))

  pub one_taken : (now : List LoneSides) (e : Event) → finding ≡ Nothing
      → ((past : List Event) → Represents streams past → HasRightReply past e × UsesNewWord past e × Represents now (e ∷ past)) → FindsAlone now finding (events ++ e ∷ [])
  one_taken now e is takes =
      let (kept, sound) = sound_alone is in
      let (right, new, all) = takes (reverse events) kept in
      let next = sym (reverse_push events e) in
      subst (λ (f : Finding). FindsAlone now f (events ++ e ∷ [])) (sym is) (subst (Represents now) next all, subst IsSoundAlone next ((right, sound.0), (new, sound.1)))

  pub one_refused : (now : List LoneSides) (e : Event) (before : ℕ) (why : WorldFault) → finding ≡ Nothing → before ≡ length events
      → ((past : List Event) → Represents streams past → RefusesAlone past e why) → FindsAlone now (AtFault (before + 1) why) (events ++ e ∷ [])
  one_refused now e before why is long refused =
      let (kept, sound) = sound_alone is in
      record {
        before = events;
        event = e;
        after = [];
        whole = refl;
        sound = sound;
        refused = refused (reverse events) kept;
        count = ap (λ n. n + 1) long;
      }
