-- What both hosts keep, after an act.
use Rattle.std.proofs.Common.{◌≡◌, ℕ, ◌+◌, ◌-◌, Bool, true, false, cond, Option, Some, List, [], ◌∷◌, ◌++◌, length, slice_get, set, get_or, refl, sym, ◌∙◌, ap, subst, inl, inr, ◌⊎◌, arith}
use Rattle.std.specs.Prelude.{◌↔◌, IsTrue}
use Rattle.std.specs.List.{Contains}
use Rattle.std.specs.Option.{option_to_list}
use Rattle.std.specs.BTreeMap.{is_at}
use Rattle.std.specs.BTreeSet.{contains}
use Rattle.std.proofs.lemmas.List.{length-set}
use Rattle.std.proofs.lemmas.Bool.{eq-eqb, ne_eqb}
use Rattle.std.proofs.lemmas.Option.{slice_get_read}
use Rattle.amo_object.specs.declared.step.End.TheVariants.{Sender, Receiver}
use Rattle.amo_packet.specs.declared.packet.OwnedPacket.{OwnedPacket}
use Rattle.amo_core.specs.declared.act.Act.{Act}
use Rattle.amo_core.specs.declared.automaton.Automaton.{Automaton}
use Rattle.amo_core.specs.Automaton.{row}
use Rattle.amo_world.specs.declared.event.Event.{Event}
use Rattle.amo_audit.specs.Side.{order}
use Rattle.amo_world.specs.Stream.{IsStream, Stream, initial, after, automaton_of, emitted_by}
use Rattle.amo_world.specs.History.{stream_after, after_if}
use Rattle.amo_world.proofs.Lists.{contains_cases, contains_first, contains_other, set_cases, push_cases}
use Rattle.amo_audit.specs.declared.side.Side.{Side}
use Rattle.amo_audit.specs.declared.sides.Sides.{Sides}
use Rattle.amo_audit.specs.Side.{Represents as RepresentsSide}
use Rattle.amo_audit.specs.Sides.{Represents as RepresentsSides}
use Rattle.amo_audit.specs.Hosts.{Represents as RepresentsHosts}
use Rattle.amo_audit.proofs.Greedy.{same_packet, at_itself}

-- a packet more in the set
one_of : (b u : Bool) → cond b true u ≡ true → (b ≡ true) ⊎ (u ≡ true)
one_of true u e = inl refl
one_of false u e = inr e

first_of : (b u : Bool) → b ≡ true → cond b true u ≡ true
first_of true u e = refl
first_of false u e = cc

other_of : (b u : Bool) → u ≡ true → cond b true u ≡ true
other_of true u e = refl
other_of false u e = e

known_more : (was : OwnedPacket → Bool) (emitted : List OwnedPacket) (p q : OwnedPacket) → (IsTrue (was q) ↔ Contains emitted q) → IsTrue (cond (is_at (order p) q) true (was q)) ↔ Contains (p ∷ emitted) q
known_more was emitted p q known = ((λ is. told (one_of _ _ is)), λ c. among (contains_cases p emitted q c))
  where
    told : (is_at (order p) q ≡ true) ⊎ (was q ≡ true) → Contains (p ∷ emitted) q
    told (inl here) = subst (Contains (p ∷ emitted)) (same_packet p q here) (contains_first p emitted)
    told (inr there) = contains_other p emitted q (known.0 there)

    among : (p ≡ q) ⊎ Contains emitted q → IsTrue (cond (is_at (order p) q) true (was q))
    among (inl here) = first_of (is_at (order p) q) (was q) (subst (λ (x : OwnedPacket). is_at (order p) x ≡ true) here (at_itself p))
    among (inr there) = other_of (is_at (order p) q) (was q) (known.1 there)

pub keeps_more : (k n : Side) (p : OwnedPacket) (automaton : Automaton) (emitted : List OwnedPacket) → n.automaton ≡ k.automaton
    → ((q : OwnedPacket) → contains order n.emitted q ≡ cond (is_at (order p) q) true (contains order k.emitted q)) → RepresentsSide k automaton emitted → RepresentsSide n automaton (p ∷ emitted)
keeps_more k n p automaton emitted state more keeps = record {
  state = state ∙ keeps.state;
  known = λ q. subst (λ (b : Bool). IsTrue b ↔ Contains (p ∷ emitted) q) (sym (more q)) (known_more (contains order k.emitted) emitted p q (keeps.known q));
}

pub stepped : (k noted new : Side) (act : Act) (automaton : Automaton) (emitted : List OwnedPacket) (told : Option OwnedPacket) → new.automaton ≡ (row noted.automaton act).state → new.emitted ≡ noted.emitted
    → noted.automaton ≡ k.automaton → told ≡ (row k.automaton act).emitted → RepresentsSide k automaton emitted → RepresentsSide noted automaton (option_to_list told ++ emitted)
    → RepresentsSide new (row automaton act).state (option_to_list (row automaton act).emitted ++ emitted)
stepped k noted new act automaton emitted told state same was is keeps known = record {
  state = state ∙ ap (λ (a : Automaton). (row a act).state) (was ∙ keeps.state);
  known = λ q. subst (λ (o : Option OwnedPacket). IsTrue (contains order new.emitted q) ↔ Contains (option_to_list o ++ emitted) q) (is ∙ ap (λ (a : Automaton). (row a act).emitted) keeps.state)
      (rw same (known.known q));
}

pub sender_makes : (k : Sides) (n : Side) (act : Act) → ((automaton : Automaton) (emitted : List OwnedPacket) → RepresentsSide k.sender automaton emitted → RepresentsSide n (row automaton act).state (option_to_list (row automaton act).emitted ++ emitted))
    → (s : Stream) → RepresentsSides k s → RepresentsSides (record k { sender = n }) (after s Sender act)
sender_makes k n act made s both Sender = made (automaton_of s Sender) (emitted_by s Sender) (both Sender)
sender_makes k n act made s both Receiver = both Receiver

pub receiver_makes : (k : Sides) (n : Side) (act : Act) → ((automaton : Automaton) (emitted : List OwnedPacket) → RepresentsSide k.receiver automaton emitted → RepresentsSide n (row automaton act).state (option_to_list (row automaton act).emitted ++ emitted))
    → (s : Stream) → RepresentsSides k s → RepresentsSides (record k { receiver = n }) (after s Receiver act)
receiver_makes k n act made s both Sender = both Sender
receiver_makes k n act made s both Receiver = made (automaton_of s Receiver) (emitted_by s Receiver) (both Receiver)

pub new_sides : (k : Sides) (number : ℕ) → RepresentsSide k.sender (automaton_of (initial number) Sender) [] → RepresentsSide k.receiver (automaton_of (initial number) Receiver) [] → RepresentsSides k (initial number)
new_sides k number sender receiver Sender = sender
new_sides k number sender receiver Receiver = receiver

-- the stream of an event, and any other
here : (past : List Event) (e : Event) (number : ℕ) → number ≡ e.stream → stream_after number (e ∷ past) ≡ after (stream_after number past) e.side e.act
here past e number is = ap (λ (b : Bool). after_if b (stream_after number past) e) (eq-eqb number e.stream is)

elsewhere : (past : List Event) (e : Event) (number : ℕ) → (number ≡ e.stream → ⊥) → stream_after number (e ∷ past) ≡ stream_after number past
elsewhere past e number apart = ap (λ (b : Bool). after_if b (stream_after number past) e) (ne_eqb number e.stream apart)

pub at_stream : (streams : List Sides) (past : List Event) (number : ℕ) (kept : Sides) → RepresentsHosts streams past → IsStream number → kept ≡ get_or streams (number - 1) kept → RepresentsSides kept (stream_after number past)
at_stream streams past number kept all known at =
    let stands = all.each (number - 1) kept (slice_get_read streams 256 (number - 1) kept (sym all.count) (omega arith) at) in
    let same : number - 1 + 1 ≡ number = omega arith in
    subst (λ (n : ℕ). RepresentsSides kept (stream_after n past)) same stands

pub all_more : (streams : List Sides) (past : List Event) (e : Event) (old new : Sides) → IsStream e.stream → old ≡ get_or streams (e.stream - 1) old
    → ((s : Stream) → RepresentsSides old s → RepresentsSides new (after s e.side e.act)) → RepresentsHosts streams past → RepresentsHosts (set streams (e.stream - 1) new) (e ∷ past)
all_more streams past e old new known at makes all = record {
  count = length-set streams (e.stream - 1) new ∙ all.count;
  each = λ place kept is. each_case place kept (set_cases streams (e.stream - 1) new place kept is);
}
  where
    now : (place : ℕ) → e.stream - 1 ≡ place → stream_after (place + 1) (e ∷ past) ≡ after (stream_after e.stream past) e.side e.act
    now place is = let same : place + 1 ≡ e.stream = omega (arith, is, known.0) in here past e (place + 1) same ∙ ap (λ n. after (stream_after n past) e.side e.act) same

    each_case : (place : ℕ) (kept : Sides) → ((e.stream - 1 ≡ place) × (new ≡ kept)) ⊎ ((e.stream - 1 ≡ place → ⊥) × (slice_get streams place ≡ Some kept)) → RepresentsSides kept (stream_after (place + 1) (e ∷ past))
    each_case place kept (inl (same, is)) = subst (λ (k : Sides). RepresentsSides k (stream_after (place + 1) (e ∷ past))) is
        (subst (RepresentsSides new) (sym (now place same)) (makes (stream_after e.stream past) (at_stream streams past e.stream old all known at)))
    each_case place kept (inr (apart, is)) = subst (RepresentsSides kept) (sym (elsewhere past e (place + 1) (λ same. apart (omega (arith, same))))) (all.each place kept is)

-- every stream is there, and nothing happened yet
abbrev pub AreNew : List Sides → Type 0
AreNew streams = (place : ℕ) (kept : Sides) → slice_get streams place ≡ Some kept → RepresentsSides kept (initial (place + 1))

pub new_streams : (streams : List Sides) (next : Sides) (number : ℕ) → AreNew streams → length streams + 1 ≡ number → RepresentsSides next (initial number) → AreNew (streams ++ next ∷ [])
new_streams streams next number known count new place kept is = cases (push_cases streams next place kept is)
  where
    cases : ((length streams ≡ place) × (next ≡ kept)) ⊎ (slice_get streams place ≡ Some kept) → RepresentsSides kept (initial (place + 1))
    cases (inl (end, same)) = subst (λ (k : Sides). RepresentsSides k (initial (place + 1))) same
        (subst (λ n. RepresentsSides next (initial n)) (let s : number ≡ place + 1 = omega (arith, end, count) in s) new)
    cases (inr there) = known place kept there
