-- What a world keeps, after an event.
use Rattle.std.proofs.Common.{◌≡◌, ℕ, ◌+◌, ◌-◌, ◌<◌, ◌^◌, Bool, true, false, Option, None, Some, List, [], ◌∷◌, ◌++◌, length, slice_get, set, get_or, refl, sym, ◌∙◌, ap, subst, inl, inr, ◌⊎◌, arith, suc, zero}
use Rattle.std.specs.Prelude.{IsSome, Result, Ok, Err, OnOk, IfErr}
use Rattle.std.specs.List.{Contains}
use Rattle.std.specs.Option.{IfSome, option_to_list, option_map}
use Rattle.std.proofs.lemmas.List.{append-nil, length-append, length-set}
use Rattle.std.proofs.lemmas.Bool.{eq-eqb, ne_eqb}
use Rattle.std.proofs.lemmas.Option.{slice_get_read}
use Rattle.amo_object.specs.declared.step.End.{End}
use Rattle.amo_object.specs.declared.step.End.TheVariants.{Sender, Receiver}
use Rattle.amo_object.specs.End.{other}
use Rattle.amo_packet.specs.declared.packet.OwnedPacket.{OwnedPacket}
use Rattle.amo_core.specs.declared.act.Act.{Act}
use Rattle.amo_core.specs.declared.automaton.Automaton.{Automaton}
use Rattle.amo_core.specs.Automaton.{row, used_word}
use Rattle.amo_world.specs.declared.emission.Emission.{Emission}
use Rattle.amo_world.specs.declared.emission.Emitted.{Emitted}
use Rattle.amo_world.specs.declared.emission.Emitted.TheVariants.{Nothing, Again, First}
use Rattle.amo_world.specs.declared.event.Event.{Event}
use Rattle.amo_world.specs.declared.fault.WorldFault.{WorldFault}
use Rattle.amo_world.specs.declared.fault.WorldFault.TheVariants.{NoMemory, WrongReply, Unsent, Repeat}
use Rattle.amo_world.specs.declared.kept_side.KeptSide.{KeptSide}
use Rattle.amo_world.specs.declared.kept_stream.KeptStream.{KeptStream}
use Rattle.amo_world.specs.declared.log.Log.{Log}
use Rattle.amo_world.specs.Key.{key_of, key_of_word}
use Rattle.amo_world.specs.KeptSide as side
use Rattle.amo_world.specs.KeptSide.{IsEmission, IsNoted, IsRefusal, IsSame, place_at}
use Rattle.amo_world.specs.KeptStream as stream
use Rattle.amo_world.specs.KeptStream.{side_of}
use Rattle.amo_world.specs.Log.{first_of, place_of, at_place}
use Rattle.amo_world.specs.LogRoom.{IsSameLog}
use Rattle.amo_world.specs.Stream.{IsStream, Stream, initial, after, automaton_of, emitted_by, word_of, words_of, emission_of}
use Rattle.amo_world.specs.History.{stream_after, stream_before, after_if, emissions, event_emission, HasRightReply, DeliversEmitted, UsesNewWord, IsHonest, IsFresh}
use Rattle.amo_world.specs.World.{Represents, Refuses, delivery_of}
use Rattle.amo_world.proofs.Lists.{slice_get-longer, slice_get-end, set_cases, push_cases}
use Rattle.amo_world.proofs.Keys.{HasWord, word_emission, words_emitted, word_used, emission_known}
use Rattle.amo_world.proofs.Kept.{emission_by, Denotes, IsKnown, same_side, longer_store, noted_side, denoted_side, advanced_side, not_found}
use Rattle.amo_world.proofs.Emitted.{deliver_is_done, stands}
use Rattle.amo_world.proofs.Serving.{stream_facts}

pub untrue : (b : Bool) → b ≡ false → b ≡ true → ⊥
untrue true e is = cc
untrue false e is = cc

-- the stream of an event, and any other
here : (past : List Event) (e : Event) (number : ℕ) → number ≡ e.stream → stream_after number (e ∷ past) ≡ after (stream_after number past) e.side e.act
here past e number is = ap (λ (b : Bool). after_if b (stream_after number past) e) (eq-eqb number e.stream is)

elsewhere : (past : List Event) (e : Event) (number : ℕ) → (number ≡ e.stream → ⊥) → stream_after number (e ∷ past) ≡ stream_after number past
elsewhere past e number apart = ap (λ (b : Bool). after_if b (stream_after number past) e) (ne_eqb number e.stream apart)

-- both sides of a stream are kept
pub at_stream : (streams : List KeptStream) (log : Log) (past : List Event) (number : ℕ) (kept : KeptStream)
    → Represents streams log past → IsStream number → kept ≡ get_or streams (number - 1) kept → stream.Represents kept log.stored.items (stream_after number past)
at_stream streams log past number kept world known at =
    let stands = world.each (number - 1) kept (slice_get_read streams 256 (number - 1) kept (sym world.count) (omega arith) at) in
    let same : number - 1 + 1 ≡ number = omega arith in
    subst (λ (n : ℕ). stream.Represents kept log.stored.items (stream_after n past)) same stands

-- the rows of a stream are those of its automata
row_at : (s : Stream) (end : End) (a : Act) → (row (automaton_of s end) a).emitted ≡ emission_of s end a
row_at s Sender a = refl
row_at s Receiver a = refl

word_at : (s : Stream) (end : End) (a : Act) → used_word (automaton_of s end) a ≡ word_of s end a
word_at s Sender a = refl
word_at s Receiver a = refl

after_at : (s : Stream) (end : End) (a : Act) → (row (automaton_of s end) a).state ≡ automaton_of (after s end a) end
after_at s Sender a = refl
after_at s Receiver a = refl

emitted_after : (s : Stream) (end : End) (a : Act) → option_to_list (row (automaton_of s end) a).emitted ++ emitted_by s end ≡ emitted_by (after s end a) end
emitted_after s Sender a = refl
emitted_after s Receiver a = refl

-- of one side's event the other side knows nothing
other_stays : (s : Stream) (end : End) (a : Act) → (automaton_of (after s end a) (other end) ≡ automaton_of s (other end)) × (emitted_by (after s end a) (other end) ≡ emitted_by s (other end))
other_stays s Sender a = (refl, refl)
other_stays s Receiver a = (refl, refl)

-- a side of a kept stream, with the automaton that it stands for
module _ (k : KeptStream) (stored : List Emission) (past : List Event) (e : Event)
    (both : stream.Represents k stored (stream_before past e)) where
  abbrev at_side : KeptSide
  at_side = side_of k e.side

  emission_kept : (row at_side.automaton e.act).emitted ≡ emission_of (stream_before past e) e.side e.act
  emission_kept = ap (λ (a : Automaton). (row a e.act).emitted) (both e.side).state ∙ row_at (stream_before past e) e.side e.act

  word_kept : used_word at_side.automaton e.act ≡ word_of (stream_before past e) e.side e.act
  word_kept = ap (λ (a : Automaton). used_word a e.act) (both e.side).state ∙ word_at (stream_before past e) e.side e.act

  -- under the key of the act's emission stands nothing, if the act uses up a word
  abbrev IsAbsent : Type 0
  IsAbsent = IfSome (used_word at_side.automaton e.act) (λ w. IfSome (row at_side.automaton e.act).emitted (λ p. place_at at_side (key_of p.body) ≡ None))

  new_by : (word : Option ℕ) (now : Option OwnedPacket) → word_of (stream_before past e) e.side e.act ≡ word → emission_of (stream_before past e) e.side e.act ≡ now
      → IfSome word (λ w. IfSome now (λ p. place_at at_side (key_of p.body) ≡ None)) → IfSome word (λ w. ¬ (Contains (words_of (stream_before past e) e.side) w))
  new_by None now is_word is_now absent = tt
  new_by (Some w) None is_word is_now absent = λ c. nothing (word_emission (stream_before past e) e.side e.act w is_word)
    where
      nothing : (p : OwnedPacket) × (emission_of (stream_before past e) e.side e.act ≡ Some p) × (key_of p.body ≡ key_of_word e.side w) → ⊥
      nothing (p, is, key) = none_is_some (sym is_now ∙ is)
        where
          none_is_some : None ≡ Some p → ⊥
          none_is_some h = cc
  new_by (Some w) (Some q) is_word is_now absent = λ c. clash (word_emission (stream_before past e) e.side e.act w is_word) (words_emitted e.stream past e.side w c)
    where
      clash : (p : OwnedPacket) × (emission_of (stream_before past e) e.side e.act ≡ Some p) × (key_of p.body ≡ key_of_word e.side w) → HasWord (emitted_by (stream_before past e) e.side) e.side w → ⊥
      clash (p, is, key) (r, among, r_key) =
          let same : q ≡ p = some_is (sym is_now ∙ is) in
          not_found at_side e.side stored _ _ (both e.side) r (ap (place_at at_side) (r_key ∙ sym key ∙ ap (λ (x : OwnedPacket). key_of x.body) (sym same)) ∙ absent) among
        where
          some_is : Some q ≡ Some p → q ≡ p
          some_is h = cc

  pub new_where_absent : IsAbsent → UsesNewWord past e
  new_where_absent absent =
      new_by (word_of (stream_before past e) e.side e.act) (emission_of (stream_before past e) e.side e.act) refl refl
      (subst (λ (o : Option ℕ). IfSome o (λ w. IfSome (emission_of (stream_before past e) e.side e.act) (λ p. place_at at_side (key_of p.body) ≡ None))) word_kept
      (subst (λ (o : Option OwnedPacket). IfSome (used_word at_side.automaton e.act) (λ w. IfSome o (λ p. place_at at_side (key_of p.body) ≡ None))) emission_kept absent))

  -- an act whose emission was noted uses up no word again
  absent_by : (what : Emitted) (word : Option ℕ) (now : Option OwnedPacket) → used_word at_side.automaton e.act ≡ word → (row at_side.automaton e.act).emitted ≡ now → IsEmission at_side e.act what
      → IfSome word (λ w. IfSome now (λ p. place_at at_side (key_of p.body) ≡ None))
  absent_by what None now is_word is_now is = tt
  absent_by what (Some w) None is_word is_now is = tt
  absent_by Nothing (Some w) (Some p) is_word is_now is = absurd (none_is_some (sym is ∙ is_now))
    where
      none_is_some : None ≡ Some p → ⊥
      none_is_some h = cc
  absent_by (Again place) (Some w) (Some p) is_word is_now (q, is, at, no_word) = absurd (none_is_some (sym no_word ∙ is_word))
    where
      none_is_some : None ≡ Some w → ⊥
      none_is_some h = cc
  absent_by (First q) (Some w) (Some p) is_word is_now (is, absent) = ap (λ (x : OwnedPacket). place_at at_side (key_of x.body)) (some_is (sym is_now ∙ is)) ∙ absent
    where
      some_is : Some p ≡ Some q → p ≡ q
      some_is h = cc

  pub new_where_noted : (what : Emitted) → IsEmission at_side e.act what → UsesNewWord past e
  new_where_noted what is = new_where_absent (absent_by what (used_word at_side.automaton e.act) (row at_side.automaton e.act).emitted refl refl is)

  -- one that is refused uses up a word again, or wants memory
  not_new : IsHonest past → IsFresh past → (p : OwnedPacket) (w : ℕ) → emission_of (stream_before past e) e.side e.act ≡ Some p → word_of (stream_before past e) e.side e.act ≡ Some w
      → IsSome (place_at at_side (key_of p.body)) → UsesNewWord past e → ⊥
  not_new honest fresh p w is is_word some new =
      subst (λ (o : Option ℕ). IfSome o (λ x. ¬ (Contains (words_of (stream_before past e) e.side) x))) is_word new
      (used (word_emission (stream_before past e) e.side e.act w is_word) (place_at at_side (key_of p.body)) refl some)
    where
      used : (q : OwnedPacket) × (emission_of (stream_before past e) e.side e.act ≡ Some q) × (key_of q.body ≡ key_of_word e.side w) → (o : Option ℕ) → place_at at_side (key_of p.body) ≡ o → IsSome o
          → Contains (words_of (stream_before past e) e.side) w
      used q None at none = absurd (false_is_true none)
        where
          false_is_true : false ≡ true → ⊥
          false_is_true h = cc
      used (q, is_q, key) (Some place) at none = emitted ((both e.side).placed (key_of p.body) place at)
        where
          same : p ≡ q
          same = some_is (sym is ∙ is_q)
            where
              some_is : Some p ≡ Some q → p ≡ q
              some_is h = cc

          emitted : side.IsPlaced e.side stored (emitted_by (stream_before past e) e.side) (key_of p.body) place → Contains (words_of (stream_before past e) e.side) w
          emitted (r, among, r_key, there) =
              word_used (stream_before past e) e.side w (stream_facts e.stream past honest fresh) (r, among, r_key ∙ ap (λ (x : OwnedPacket). key_of x.body) same ∙ key)

  pub refused : IsHonest past → IsFresh past → (fault : WorldFault) → IsRefusal at_side e.act fault → HasRightReply past e → DeliversEmitted past e → Refuses past e fault
  refused honest fresh NoMemory absent right emitted = (right, emitted, new_where_absent absent)
  refused honest fresh WrongReply never right emitted = absurd never
  refused honest fresh Unsent never right emitted = absurd never
  refused honest fresh Repeat (p, is, some, word) right emitted = (right, emitted, λ new. with_word (used_word at_side.automaton e.act) refl word new)
    where
      with_word : (o : Option ℕ) → used_word at_side.automaton e.act ≡ o → IsSome o → UsesNewWord past e → ⊥
      with_word None at none new = false_is_true none
        where
          false_is_true : false ≡ true → ⊥
          false_is_true h = cc
      with_word (Some w) at there new = not_new honest fresh p w (sym emission_kept ∙ is) (sym word_kept ∙ at) some new

  -- the index has the act's emission right
  known : IsHonest past → IsFresh past → DeliversEmitted past e → used_word at_side.automaton e.act ≡ None
      → IsKnown (row at_side.automaton e.act).emitted (emitted_by (stream_before past e) e.side)
  known honest fresh emitted none p q is among same =
      let new : UsesNewWord past e = subst (λ (o : Option ℕ). IfSome o (λ w. ¬ (Contains (words_of (stream_before past e) e.side) w))) (sym none ∙ word_kept) tt in
      emission_known past e (emitted, honest) (new, fresh) p q (sym emission_kept ∙ is) among same

  pub denoted_event : IsHonest past → IsFresh past → DeliversEmitted past e → (what : Emitted) → IsEmission at_side e.act what → Denotes stored e.side what (event_emission past e)
  denoted_event honest fresh emitted what is =
      subst (λ (o : Option OwnedPacket). Denotes stored e.side what (option_map (emission_by e.side) o)) emission_kept
      (denoted_side at_side e.side stored _ _ e.act what is (both e.side) (known honest fresh emitted))

  -- both sides after the event
  abbrev IsNow : Emitted → KeptStream → End → Type 0
  IsNow what now x =
      side.Represents (side_of now x) x (stored ++ first_of e.side what) (automaton_of (after (stream_before past e) e.side e.act) x) (emitted_by (after (stream_before past e) e.side e.act) x)

  pub stream_advanced : IsHonest past → IsFresh past → DeliversEmitted past e → (what : Emitted) (mid now : KeptStream)
      → IsEmission at_side e.act what → IsNoted at_side (side_of mid e.side) (length stored) what → side_of mid (other e.side) ≡ side_of k (other e.side)
      → (side_of now e.side).automaton ≡ (row (side_of mid e.side).automaton e.act).state → (side_of now e.side).index ≡ (side_of mid e.side).index
      → side_of now (other e.side) ≡ side_of mid (other e.side)
      → stream.Represents now (stored ++ first_of e.side what) (after (stream_before past e) e.side e.act)
  stream_advanced honest fresh emitted what mid now is noted other_mid state index other_now end = by_end (is_same end e.side)
    where
      s : Stream
      s = stream_before past e

      is_same : (a b : End) → (a ≡ b) ⊎ (a ≡ other b)
      is_same Sender Sender = inl refl
      is_same Sender Receiver = inr refl
      is_same Receiver Sender = inr refl
      is_same Receiver Receiver = inl refl

      this : IsNow what now e.side
      this =
          let more = noted_side at_side (side_of mid e.side) e.side stored _ _ e.act what is noted (both e.side) (known honest fresh emitted) in
          let all = subst (λ (o : Option OwnedPacket). side.Represents (side_of mid e.side) e.side (stored ++ first_of e.side what) (automaton_of (stream_before past e) e.side) (option_to_list o ++ emitted_by (stream_before past e) e.side))
          (emission_kept ∙ sym (row_at (stream_before past e) e.side e.act)) more in
          let made = advanced_side (side_of mid e.side) (side_of now e.side) e.side (stored ++ first_of e.side what) _ _ e.act state index all in
          subst (λ (a : Automaton). side.Represents (side_of now e.side) e.side (stored ++ first_of e.side what) a (emitted_by (after (stream_before past e) e.side e.act) e.side)) (after_at (stream_before past e) e.side e.act)
          (subst (λ (ps : List OwnedPacket). side.Represents (side_of now e.side) e.side (stored ++ first_of e.side what) (row (automaton_of (stream_before past e) e.side) e.act).state ps) (emitted_after (stream_before past e) e.side e.act) made)

      that : IsNow what now (other e.side)
      that =
          let same = other_stays (stream_before past e) e.side e.act in
          let longer = longer_store (side_of k (other e.side)) (other e.side) stored (first_of e.side what) _ _ (both (other e.side)) in
          subst (λ (x : KeptSide). side.Represents x (other e.side) (stored ++ first_of e.side what) (automaton_of (after (stream_before past e) e.side e.act) (other e.side)) (emitted_by (after (stream_before past e) e.side e.act) (other e.side))) (sym (other_now ∙ other_mid))
          (subst (λ (a : Automaton). side.Represents (side_of k (other e.side)) (other e.side) (stored ++ first_of e.side what) a (emitted_by (after (stream_before past e) e.side e.act) (other e.side))) (sym same.0)
          (subst (λ (ps : List OwnedPacket). side.Represents (side_of k (other e.side)) (other e.side) (stored ++ first_of e.side what) (automaton_of (stream_before past e) (other e.side)) ps) (sym same.1) longer))

      by_end : (end ≡ e.side) ⊎ (end ≡ other e.side) → IsNow what now end
      by_end (inl same) = subst (IsNow what now) (sym same) this
      by_end (inr same) = subst (IsNow what now) (sym same) that

-- a longer store
stream_longer : (kept : KeptStream) (stored more : List Emission) (s : Stream) → stream.Represents kept stored s → stream.Represents kept (stored ++ more) s
stream_longer kept stored more s both end = longer_store (side_of kept end) end stored more _ _ (both end)

-- where an act was refused
stream_stays : (old new : KeptStream) (stored : List Emission) (s : Stream) (end : End) → IsSame (side_of old end) (side_of new end) → side_of new (other end) ≡ side_of old (other end)
    → stream.Represents old stored s → stream.Represents new stored s
stream_stays old new stored s Sender same rest both Sender = same_side old.sender new.sender Sender stored _ _ same (both Sender)
stream_stays old new stored s Sender same rest both Receiver = subst (λ (x : KeptSide). side.Represents x Receiver stored (automaton_of s Receiver) (emitted_by s Receiver)) (sym rest) (both Receiver)
stream_stays old new stored s Receiver same rest both Sender = subst (λ (x : KeptSide). side.Represents x Sender stored (automaton_of s Sender) (emitted_by s Sender)) (sym rest) (both Sender)
stream_stays old new stored s Receiver same rest both Receiver = same_side old.receiver new.receiver Receiver stored _ _ same (both Receiver)

-- two sides at which nothing happened yet
pub nothing_yet : (k : KeptStream) (number : ℕ) (a b : Automaton) → a ≡ automaton_of (initial number) Sender → b ≡ automaton_of (initial number) Receiver
    → ((end : End) (stored : List Emission) → side.Represents k.sender end stored a []) → ((end : End) (stored : List Emission) → side.Represents k.receiver end stored b [])
    → (stored : List Emission) → stream.Represents k stored (initial number)
nothing_yet k number a b p q sends receives stored Sender = subst (λ (x : Automaton). side.Represents k.sender Sender stored x []) p (sends Sender stored)
nothing_yet k number a b p q sends receives stored Receiver = subst (λ (x : Automaton). side.Represents k.receiver Receiver stored x []) q (receives Receiver stored)

-- one emission more
module _ (stored more : List Emission) where
  longer : (order : List ℕ) (es : List Emission) → length order ≡ length es → ((n : ℕ) → at_place stored (slice_get order n) ≡ slice_get es n)
      → (n : ℕ) → at_place (stored ++ more) (slice_get order n) ≡ slice_get es n
  longer [] [] count known n = refl
  longer [] (y ∷ es) count known n = absurd (omega arith)
  longer (o ∷ order) [] count known n = absurd (omega arith)
  longer (o ∷ order) (y ∷ es) count known zero = slice_get-longer stored more o y (known 0)
  longer (o ∷ order) (y ∷ es) count known (suc n) = longer order es (omega arith) (λ k. known (suc k)) n

pushed : (stored : List Emission) (order : List ℕ) (es : List Emission) (p : ℕ) (x : Emission) → length order ≡ length es → ((n : ℕ) → at_place stored (slice_get order n) ≡ slice_get es n)
    → slice_get stored p ≡ Some x → (n : ℕ) → at_place stored (slice_get (order ++ p ∷ []) n) ≡ slice_get (es ++ x ∷ []) n
pushed stored [] [] p x count known is zero = is
pushed stored [] [] p x count known is (suc n) = refl
pushed stored [] (y ∷ es) p x count known is n = absurd (omega arith)
pushed stored (o ∷ order) [] p x count known is n = absurd (omega arith)
pushed stored (o ∷ order) (y ∷ es) p x count known is zero = known 0
pushed stored (o ∷ order) (y ∷ es) p x count known is (suc n) = pushed stored order es p x (omega arith) (λ k. known (suc k)) is n

-- the emissions that are kept, after an act
record Counts (stored : List Emission) (order : List ℕ) (es : List Emission) : Type 0 where
  pub count : length order ≡ length es
  pub each : (n : ℕ) → at_place stored (slice_get order n) ≡ slice_get es n

-- after an act that emits nothing
counts_nothing : (stored : List Emission) (order : List ℕ) (es : List Emission) → Counts stored order es → Counts (stored ++ []) (order ++ []) (es ++ [])
counts_nothing stored order es known = rw (append-nil stored, append-nil order, append-nil es) known

-- after an act that emits a packet again
counts_again : (stored : List Emission) (order : List ℕ) (es : List Emission) (place : ℕ) (x : Emission) → Counts stored order es → slice_get stored place ≡ Some x → Counts stored (order ++ place ∷ []) (es ++ x ∷ [])
counts_again stored order es place x known is = record {
  count = length-append order (place ∷ []) ∙ ap (λ n. n + 1) known.count ∙ sym (length-append es (x ∷ []));
  each = pushed stored order es place x known.count known.each is;
}

counts_more : (stored more : List Emission) (order : List ℕ) (es : List Emission) → Counts stored order es → Counts (stored ++ more) order es
counts_more stored more order es known = record { count = known.count; each = longer stored more order es known.count known.each }

counts : (stored : List Emission) (order : List ℕ) (es : List Emission) (side : End) (what : Emitted) (now : Option Emission) → Counts stored order es → Denotes stored side what now
    → Counts (stored ++ first_of side what) (order ++ place_of (length stored) what) (es ++ option_to_list now)
counts stored order es side Nothing now known is =
    subst (λ (o : Option Emission). Counts (stored ++ []) (order ++ []) (es ++ option_to_list o)) (sym is) (counts_nothing stored order es known)
counts stored order es side (Again place) now known (x, is, found) =
    subst (λ (o : Option Emission). Counts (stored ++ []) (order ++ place ∷ []) (es ++ option_to_list o)) (sym is) (rw (append-nil stored) (counts_again stored order es place x known found))
counts stored order es side (First packet) now known is =
    let x : Emission = record { side = side; packet = packet } in
    subst (λ (o : Option Emission). Counts (stored ++ x ∷ []) (order ++ length stored ∷ []) (es ++ option_to_list o)) (sym is)
    (counts_again (stored ++ x ∷ []) order es (length stored) x (counts_more stored (x ∷ []) order es known) (slice_get-end stored x))

-- where an event was refused
pub world_stays : (streams : List KeptStream) (was now : Log) (past : List Event) (i : ℕ) (old new : KeptStream) (end : End) → Represents streams was past
    → i < length streams → old ≡ get_or streams i old → IsSame (side_of old end) (side_of new end) → side_of new (other end) ≡ side_of old (other end) → IsSameLog was now
    → Represents (set streams i new) now past
world_stays streams was now past i old new end world inside at same rest log = record {
  count = length-set streams i new ∙ world.count;
  each = λ place kept is. subst (λ (stored : List Emission). stream.Represents kept stored (stream_after (place + 1) past)) (sym log.stored) (each_case place kept (set_cases streams i new place kept is));
  counted = ap (λ (o : List ℕ). length o) log.order ∙ world.counted;
  emitted = λ number. ap (λ (o : List ℕ). at_place now.stored.items (slice_get o number)) log.order ∙ ap (λ (s : List Emission). at_place s (slice_get was.order.items number)) log.stored ∙ world.emitted number;
  events = log.events ∙ world.events;
  few = subst (λ (n : ℕ). n < 2 ^ 63) (sym log.events) world.few;
  within = world.within;
  right = world.right;
  honest = world.honest;
  fresh = world.fresh;
}
  where
    each_case : (place : ℕ) (kept : KeptStream) → ((i ≡ place) × (new ≡ kept)) ⊎ ((i ≡ place → ⊥) × (slice_get streams place ≡ Some kept)) → stream.Represents kept was.stored.items (stream_after (place + 1) past)
    each_case place kept (inl (here_is, is)) = subst (λ (k : KeptStream). stream.Represents k was.stored.items (stream_after (place + 1) past)) is
        (stream_stays old new was.stored.items (stream_after (place + 1) past) end same rest
        (world.each place old (subst (λ (j : ℕ). slice_get streams j ≡ Some old) here_is (slice_get_read streams (length streams) i old refl inside at))))
    each_case place kept (inr (apart, is)) = world.each place kept is

-- the history with one event more
pub world_grows : (streams : List KeptStream) (was now : Log) (past : List Event) (e : Event) (old new : KeptStream) (what : Emitted) → Represents streams was past
    → IsStream e.stream → old ≡ get_or streams (e.stream - 1) old
    → stream.Represents new (was.stored.items ++ first_of e.side what) (after (stream_before past e) e.side e.act) → Denotes was.stored.items e.side what (event_emission past e)
    → now.stored.items ≡ was.stored.items ++ first_of e.side what → now.order.items ≡ was.order.items ++ place_of (length was.stored.items) what → now.events ≡ was.events + 1 → now.events < 2 ^ 63
    → HasRightReply past e → DeliversEmitted past e → UsesNewWord past e
    → Represents (set streams (e.stream - 1) new) now (e ∷ past)
world_grows streams was now past e old new what world known at moved denotes stored order events few right honest fresh = record {
  count = length-set streams (e.stream - 1) new ∙ world.count;
  each = λ place kept is. subst (λ (s : List Emission). stream.Represents kept s (stream_after (place + 1) (e ∷ past))) (sym stored) (each_case place kept (set_cases streams (e.stream - 1) new place kept is));
  counted = ap (λ (o : List ℕ). length o) order ∙ all_counted.count;
  emitted = λ number. ap (λ (o : List ℕ). at_place now.stored.items (slice_get o number)) order
      ∙ ap (λ (s : List Emission). at_place s (slice_get (was.order.items ++ place_of (length was.stored.items) what) number)) stored ∙ all_counted.each number;
  events = omega (arith, events, world.events);
  few = few;
  within = (known, world.within);
  right = (right, world.right);
  honest = (honest, world.honest);
  fresh = (fresh, world.fresh);
}
  where
    all_counted : Counts (was.stored.items ++ first_of e.side what) (was.order.items ++ place_of (length was.stored.items) what) (emissions past ++ option_to_list (event_emission past e))
    all_counted = counts was.stored.items was.order.items (emissions past) e.side what (event_emission past e) (record { count = world.counted; each = world.emitted }) denotes

    now_here : (place : ℕ) → e.stream - 1 ≡ place → stream_after (place + 1) (e ∷ past) ≡ after (stream_before past e) e.side e.act
    now_here place is = let same : place + 1 ≡ e.stream = omega (arith, is, known.0) in here past e (place + 1) same ∙ ap (λ n. after (stream_after n past) e.side e.act) same

    as_before : (place : ℕ) → (e.stream - 1 ≡ place → ⊥) → stream_after (place + 1) (e ∷ past) ≡ stream_after (place + 1) past
    as_before place apart = elsewhere past e (place + 1) (λ same. apart (omega (arith, same)))

    each_case : (place : ℕ) (kept : KeptStream) → ((e.stream - 1 ≡ place) × (new ≡ kept)) ⊎ ((e.stream - 1 ≡ place → ⊥) × (slice_get streams place ≡ Some kept))
        → stream.Represents kept (was.stored.items ++ first_of e.side what) (stream_after (place + 1) (e ∷ past))
    each_case place kept (inl (same, is)) = subst (λ (k : KeptStream). stream.Represents k (was.stored.items ++ first_of e.side what) (stream_after (place + 1) (e ∷ past))) is
        (subst (λ (s : Stream). stream.Represents new (was.stored.items ++ first_of e.side what) s) (sym (now_here place same)) moved)
    each_case place kept (inr (apart, is)) = subst (λ (s : Stream). stream.Represents kept (was.stored.items ++ first_of e.side what) s) (sym (as_before place apart))
        (stream_longer kept was.stored.items (first_of e.side what) (stream_after (place + 1) past) (world.each place kept is))

-- every stream is there, and nothing happened yet
abbrev pub AreNew : List KeptStream → Type 0
AreNew streams = (place : ℕ) (kept : KeptStream) → slice_get streams place ≡ Some kept → (stored : List Emission) → stream.Represents kept stored (initial (place + 1))

pub new_streams : (streams : List KeptStream) (next : KeptStream) (number : ℕ) → AreNew streams → length streams + 1 ≡ number → ((stored : List Emission) → stream.Represents next stored (initial number)) → AreNew (streams ++ next ∷ [])
new_streams streams next number known count new place kept is stored = cases (push_cases streams next place kept is)
  where
    cases : ((length streams ≡ place) × (next ≡ kept)) ⊎ (slice_get streams place ≡ Some kept) → stream.Represents kept stored (initial (place + 1))
    cases (inl (end, same)) = subst (λ (k : KeptStream). stream.Represents k stored (initial (place + 1))) same
        (subst (λ n. stream.Represents next stored (initial n)) (let s : number ≡ place + 1 = omega (arith, end, count) in s) (new stored))
    cases (inr there) = known place kept there stored

pub new_world : (streams : List KeptStream) (log : Log) (past : List Event) → length streams ≡ 256 → AreNew streams → log.stored.items ≡ [] → log.order.items ≡ [] → log.events ≡ 0 → past ≡ []
    → Represents streams log past
new_world streams log past count new stored order events none = subst (λ (p : List Event). Represents streams log p) (sym none) (record {
  count = count;
  each = λ place kept is. new place kept is log.stored.items;
  counted = ap (λ (o : List ℕ). length o) order;
  emitted = λ number. ap (λ (o : List ℕ). at_place log.stored.items (slice_get o number)) order;
  events = events;
  few = subst (λ (n : ℕ). n < 2 ^ 63) (sym events) (omega arith);
  within = tt;
  right = tt;
  honest = tt;
  fresh = tt;
})

-- deliveries by number
module _ (past : List Event) (pass word number : ℕ) where
  other_of_other : (end : End) → other (other end) ≡ end
  other_of_other Sender = refl
  other_of_other Receiver = refl

  -- the delivery of an emitted packet has a right reply, and delivers what was emitted
  pub delivers_right : (x : Emission) → slice_get (emissions past) number ≡ Some x → HasRightReply past (delivery_of pass x word) × DeliversEmitted past (delivery_of pass x word)
  delivers_right x is = (
    deliver_is_done (stream_after x.packet.stream past) (other x.side) x.packet word,
    subst (λ (end : End). Contains (emitted_by (stream_after x.packet.stream past) end) x.packet) (sym (other_of_other x.side)) (stands past number x is),
  )

-- what follows from two facts of a result
module _ {T E : Type 0} where
  pub both_ok : (r : Result T E) (P Q S : Type 0) → (P → Q → S) → OnOk r P → OnOk r Q → OnOk r S
  both_ok (Ok x) P Q S f p q = f p q
  both_ok (Err e) P Q S f p q = p

-- what a refusal says, of an event with a right reply that delivers what was emitted
module _ {T : Type 0} (past : List Event) (e : Event) (right : HasRightReply past e) (emitted : DeliversEmitted past e) where
  pub never_unsent : (r : Result T WorldFault) → IfErr r (λ f. Refuses past e f) → r ≡ Err Unsent → ⊥
  never_unsent r why is = (subst (λ (x : Result T WorldFault). IfErr x (λ f. Refuses past e f)) is why).1 emitted

  pub repeat_tells : (r : Result T WorldFault) → IfErr r (λ f. Refuses past e f) → r ≡ Err Repeat → ¬ (UsesNewWord past e)
  repeat_tells r why is = (subst (λ (x : Result T WorldFault). IfErr x (λ f. Refuses past e f)) is why).2

  pub memory_tells : (r : Result T WorldFault) → IfErr r (λ f. Refuses past e f) → r ≡ Err NoMemory → UsesNewWord past e
  memory_tells r why is = (subst (λ (x : Result T WorldFault). IfErr x (λ f. Refuses past e f)) is why).2

  pub is_repeat : (r : Result T WorldFault) → IfErr r (λ f. Refuses past e f) → OnOk r (UsesNewWord past e) → ¬ (UsesNewWord past e) → r ≡ Err Repeat
  is_repeat (Ok x) why new old = absurd (old new)
  is_repeat (Err NoMemory) why new old = absurd (old why.2)
  is_repeat (Err WrongReply) why new old = absurd (why right)
  is_repeat (Err Unsent) why new old = absurd (why.1 emitted)
  is_repeat (Err Repeat) why new old = refl
