-- What is kept of a stream's sides, after an act.
use Rattle.std.proofs.Common.{◌≡◌, ℕ, Bool, true, false, cond, Option, None, Some, List, [], ◌∷◌, ◌++◌, length, slice_get, refl, sym, ◌∙◌, ap, subst, inl, inr, ◌⊎◌}
use Rattle.std.specs.Prelude.{◌↔◌, IsTrue}
use Rattle.std.specs.List.{Contains}
use Rattle.std.specs.Option.{option_to_list, option_map, unwrap_or}
use Rattle.std.specs.Cmp.{Equal-is}
use Rattle.std.proofs.lemmas.Cmp.{tied_itself}
use Rattle.std.proofs.lemmas.List.{append-nil}
use Rattle.std.specs.BTreeMap.{get, is_at}
use Rattle.amo_object.specs.declared.step.End.{End}
use Rattle.amo_packet.specs.declared.packet.OwnedPacket.{OwnedPacket}
use Rattle.amo_packet.specs.contracts.packet.OwnedPacketOrd.TheImpl as packet_order
use Rattle.amo_packet.specs.contracts.packet.OwnedPacketOrd.TheImpl.Laws as packet_laws
use Rattle.amo_packet.proofs.Ties.{packets_tie}
use Rattle.amo_core.specs.declared.act.Act.{Act}
use Rattle.amo_core.specs.declared.automaton.Automaton.{Automaton}
use Rattle.amo_core.specs.Automaton.{row, used_word}
use Rattle.amo_world.specs.declared.emission.Emission.{Emission}
use Rattle.amo_world.specs.declared.emission.Emitted.{Emitted}
use Rattle.amo_world.specs.declared.emission.Emitted.TheVariants.{Nothing, Again, First}
use Rattle.amo_world.specs.declared.index.PacketIndex.{PacketIndex}
use Rattle.amo_world.specs.declared.key.Key.{Key}
use Rattle.amo_world.specs.declared.kept_side.KeptSide.{KeptSide}
use Rattle.amo_world.specs.Key.{key_of, order, with_place}
use Rattle.amo_world.specs.Row.{place_in}
use Rattle.amo_world.specs.Log.{first_of}
use Rattle.amo_world.specs.KeptSide.{Represents, place_at, IsIndexed, IsPlaced, IsSame, IsEmission, IsNoted}
use Rattle.amo_world.proofs.Lists.{some_injective, contains_cases, contains_first, contains_other, slice_get-longer, slice_get-end}
use Rattle.amo_world.proofs.KeyTies.{same_key, key_at_itself}

abbrev pub emission_by : End → OwnedPacket → Emission
emission_by side packet = record { side = side; packet = packet }

-- a packet that is found was emitted, and one that was emitted is found

pub same_packet : (p q : OwnedPacket) → is_at (packet_order.cmp-value.it p) q ≡ true → p ≡ q
same_packet p q e = packets_tie p q ((Equal-is (packet_order.cmp-value.it p q)).0 e)

packet_at_itself : (p : OwnedPacket) → is_at (packet_order.cmp-value.it p) p ≡ true
packet_at_itself p = (Equal-is (packet_order.cmp-value.it p p)).1 (tied_itself packet_laws.total-law p)

one_emission : (x y : Emission) → Some x ≡ Some y → x.packet ≡ y.packet
one_emission x y e = ap (λ (z : Emission). z.packet) (some_injective x y e)

module _ (k : KeptSide) (side : End) (stored : List Emission) (a : Automaton) (emitted : List OwnedPacket) (keeps : Represents k side stored a emitted) where
  pub not_found : (p : OwnedPacket) → place_at k (key_of p.body) ≡ None → Contains emitted p → ⊥
  not_found p absent c = stands (keeps.indexed p c)
    where
      stands : IsIndexed k side stored p → ⊥
      stands (place, is, there) = some_is_none (sym is ∙ absent)
        where
          some_is_none : Some place ≡ None → ⊥
          some_is_none e = cc

  pub found : (p : OwnedPacket) (place : ℕ) (x : Emission) (r : Bool) → place_at k (key_of p.body) ≡ Some place → slice_get stored place ≡ Some x
      → r ≡ is_at (packet_order.cmp-value.it x.packet) p → IsTrue r ↔ Contains emitted p
  found p place x r at is e = (λ yes. forward (keeps.placed (key_of p.body) place at) (same_packet x.packet p (sym e ∙ yes)), λ c. e ∙ backward (keeps.indexed p c))
    where
      forward : IsPlaced side stored emitted (key_of p.body) place → x.packet ≡ p → Contains emitted p
      forward (q, c, key, there) same = subst (Contains emitted) (one_emission (emission_by side q) x (sym there ∙ is) ∙ same) c

      backward : IsIndexed k side stored p → is_at (packet_order.cmp-value.it x.packet) p ≡ true
      backward (other_place, at_other, there) =
          let one = some_injective other_place place (sym at_other ∙ at) in
          let same = one_emission x (emission_by side p) (sym is ∙ ap (slice_get stored) (sym one) ∙ there) in
          subst (λ (q : OwnedPacket). is_at (packet_order.cmp-value.it q) p ≡ true) (sym same) (packet_at_itself p)

  -- what stands at a place under a key
  pub nothing_stands : (p : OwnedPacket) (place : ℕ) → place_at k (key_of p.body) ≡ Some place → slice_get stored place ≡ None → ⊥
  nothing_stands p place at none = stands (keeps.placed (key_of p.body) place at)
    where
      stands : IsPlaced side stored emitted (key_of p.body) place → ⊥
      stands (q, c, key, there) = some_is_none (sym there ∙ none)
        where
          some_is_none : Some (emission_by side q) ≡ None → ⊥
          some_is_none e = cc

-- the same index
pub same_side : (was now : KeptSide) (side : End) (stored : List Emission) (a : Automaton) (emitted : List OwnedPacket)
    → IsSame was now → Represents was side stored a emitted → Represents now side stored a emitted
same_side was now side stored a emitted same keeps = record {
  state = same.state ∙ keeps.state;
  indexed = λ p c. let (place, at, is) = keeps.indexed p c in (place, same.places (key_of p.body) ∙ at, is);
  placed = λ key place at. keeps.placed key place (sym (same.places key) ∙ at);
}

-- a longer store
pub longer_store : (k : KeptSide) (side : End) (stored more : List Emission) (a : Automaton) (emitted : List OwnedPacket)
    → Represents k side stored a emitted → Represents k side (stored ++ more) a emitted
longer_store k side stored more a emitted keeps = record {
  state = keeps.state;
  indexed = λ p c. let (place, at, is) = keeps.indexed p c in (place, at, slice_get-longer stored more place _ is);
  placed = λ key place at. let (p, c, key_is, is) = keeps.placed key place at in (p, c, key_is, slice_get-longer stored more place _ is);
}

-- after a packet that was emitted before
emitted_again : (k : KeptSide) (side : End) (stored : List Emission) (a : Automaton) (emitted : List OwnedPacket) (packet : OwnedPacket)
    → Contains emitted packet → Represents k side stored a emitted → Represents k side stored a (packet ∷ emitted)
emitted_again k side stored a emitted packet before keeps = record {
  state = keeps.state;
  indexed = λ p c. indexed p (contains_cases packet emitted p c);
  placed = λ key place at. let (p, c, key_is, is) = keeps.placed key place at in (p, contains_other packet emitted p c, key_is, is);
}
  where
    indexed : (p : OwnedPacket) → (packet ≡ p) ⊎ Contains emitted p → IsIndexed k side stored p
    indexed p (inl here) = subst (IsIndexed k side stored) here (keeps.indexed packet before)
    indexed p (inr there) = keeps.indexed p there

-- after a packet that was not emitted before, which goes to the next place
module _ (was now : KeptSide) (side : End) (stored : List Emission) (a : Automaton) (emitted : List OwnedPacket) (packet : OwnedPacket)
    (state : now.automaton ≡ was.automaton)
    (put : (key : Key) → place_at now key ≡ with_place (place_at was) (key_of packet.body) (length stored) key)
    (absent : place_at was (key_of packet.body) ≡ None)
    (keeps : Represents was side stored a emitted) where
  abbrev longer : List Emission
  longer = stored ++ emission_by side packet ∷ []

  at_key : place_at now (key_of packet.body) ≡ Some (length stored)
  at_key =
      put (key_of packet.body)
      ∙ ap (λ (b : Bool). cond b (Some (unwrap_or (place_at was (key_of packet.body)) (length stored))) (place_at was (key_of packet.body))) (key_at_itself (key_of packet.body))
      ∙ ap (λ (o : Option ℕ). Some (unwrap_or o (length stored))) absent

  -- at another key
  elsewhere : (key : Key) (place : ℕ) → (key_of packet.body ≡ key → ⊥) → place_at was key ≡ Some place → place_at now key ≡ Some place
  elsewhere key place apart at = put key ∙ by_test (is_at (order (key_of packet.body)) key) refl
    where
      by_test : (b : Bool) → is_at (order (key_of packet.body)) key ≡ b → cond (is_at (order (key_of packet.body)) key) (Some (unwrap_or (place_at was (key_of packet.body)) (length stored))) (place_at was key) ≡ Some place
      by_test true is = absurd (apart (same_key (key_of packet.body) key is))
      by_test false is = ap (λ (b : Bool). cond b (Some (unwrap_or (place_at was (key_of packet.body)) (length stored))) (place_at was key)) is ∙ at

  indexed_now : (p : OwnedPacket) → (packet ≡ p) ⊎ Contains emitted p → IsIndexed now side longer p
  indexed_now p (inl here) = subst (IsIndexed now side longer) here (length stored, at_key, slice_get-end stored (emission_by side packet))
  indexed_now p (inr there) = moved (keeps.indexed p there)
    where
      moved : IsIndexed was side stored p → IsIndexed now side longer p
      moved (place, at, is) = (
        place,
        elsewhere (key_of p.body) place (λ same. not_found was side stored a emitted keeps p (ap (place_at was) (sym same) ∙ absent) there) at,
        slice_get-longer stored (emission_by side packet ∷ []) place _ is,
      )

  placed_now : (key : Key) (place : ℕ) (b : Bool) → is_at (order (key_of packet.body)) key ≡ b → place_at now key ≡ Some place → IsPlaced side longer (packet ∷ emitted) key place
  placed_now key place true is at =
      let same = same_key (key_of packet.body) key is in
      let end = some_injective (length stored) place (sym at_key ∙ ap (place_at now) same ∙ at) in
      (packet, contains_first packet emitted, same, ap (slice_get longer) (sym end) ∙ slice_get-end stored (emission_by side packet))
  placed_now key place false is at =
      moved (keeps.placed key place (sym (put key ∙ ap (λ (b : Bool). cond b (Some (unwrap_or (place_at was (key_of packet.body)) (length stored))) (place_at was key)) is) ∙ at))
    where
      moved : IsPlaced side stored emitted key place → IsPlaced side longer (packet ∷ emitted) key place
      moved (p, c, key_is, there) = (p, contains_other packet emitted p c, key_is, slice_get-longer stored (emission_by side packet ∷ []) place _ there)

  emitted_first : Represents now side longer a (packet ∷ emitted)
  emitted_first = record {
    state = state ∙ keeps.state;
    indexed = λ p c. indexed_now p (contains_cases packet emitted p c);
    placed = λ key place at. placed_now key place (is_at (order (key_of packet.body)) key) refl at;
  }

-- the emission is the packet that was emitted before under its key, if one was
abbrev pub IsKnown : Option OwnedPacket → List OwnedPacket → Type 0
IsKnown now emitted = (p q : OwnedPacket) → now ≡ Some p → Contains emitted q → key_of q.body ≡ key_of p.body → q ≡ p

-- after any act
pub noted_side : (was now : KeptSide) (side : End) (stored : List Emission) (a : Automaton) (emitted : List OwnedPacket) (act : Act) (what : Emitted)
    → IsEmission was act what → IsNoted was now (length stored) what → Represents was side stored a emitted
    → (used_word was.automaton act ≡ None → IsKnown (row was.automaton act).emitted emitted)
    → Represents now side (stored ++ first_of side what) a (option_to_list (row was.automaton act).emitted ++ emitted)
noted_side was now side stored a emitted act Nothing none same keeps known =
    subst (λ (o : Option OwnedPacket). Represents now side (stored ++ []) a (option_to_list o ++ emitted)) (sym none)
    (subst (λ (s : List Emission). Represents now side s a emitted) (sym (append-nil stored)) (same_side was now side stored a emitted same keeps))
noted_side was now side stored a emitted act (Again place) (p, is, at, no_word) same keeps known =
    subst (λ (o : Option OwnedPacket). Represents now side (stored ++ []) a (option_to_list o ++ emitted)) (sym is)
    (subst (λ (s : List Emission). Represents now side s a (p ∷ emitted)) (sym (append-nil stored))
    (same_side was now side stored a (p ∷ emitted) same (emitted_again was side stored a emitted p (before (keeps.placed (key_of p.body) place at)) keeps)))
  where
    before : IsPlaced side stored emitted (key_of p.body) place → Contains emitted p
    before (q, c, key, there) = subst (Contains emitted) (known no_word p q is c key) c
noted_side was now side stored a emitted act (First p) (is, absent) (state, put) keeps known =
    subst (λ (o : Option OwnedPacket). Represents now side (stored ++ emission_by side p ∷ []) a (option_to_list o ++ emitted)) (sym is)
    (emitted_first was now side stored a emitted p state put absent keeps)

-- what was noted of an emission denotes it
abbrev pub Denotes : List Emission → End → Emitted → Option Emission → Type 0
Denotes stored side Nothing now = now ≡ None
Denotes stored side (Again place) now = (x : Emission) × (now ≡ Some x) × (slice_get stored place ≡ Some x)
Denotes stored side (First packet) now = now ≡ Some (emission_by side packet)

pub denoted_side : (was : KeptSide) (side : End) (stored : List Emission) (a : Automaton) (emitted : List OwnedPacket) (act : Act) (what : Emitted)
    → IsEmission was act what → Represents was side stored a emitted → (used_word was.automaton act ≡ None → IsKnown (row was.automaton act).emitted emitted)
    → Denotes stored side what (option_map (emission_by side) (row was.automaton act).emitted)
denoted_side was side stored a emitted act Nothing none keeps known = ap (option_map (emission_by side)) none
denoted_side was side stored a emitted act (Again place) (p, is, at, no_word) keeps known = stands (keeps.placed (key_of p.body) place at)
  where
    stands : IsPlaced side stored emitted (key_of p.body) place → (x : Emission) × (option_map (emission_by side) (row was.automaton act).emitted ≡ Some x) × (slice_get stored place ≡ Some x)
    stands (q, c, key, there) = (
      emission_by side p,
      ap (option_map (emission_by side)) is,
      there ∙ ap (λ (x : OwnedPacket). Some (emission_by side x)) (known no_word p q is c key),
    )
denoted_side was side stored a emitted act (First p) (is, absent) keeps known = ap (option_map (emission_by side)) is

-- the act is made after its emission was noted
pub advanced_side : (mid now : KeptSide) (side : End) (stored : List Emission) (a : Automaton) (emitted : List OwnedPacket) (act : Act)
    → now.automaton ≡ (row mid.automaton act).state → now.index ≡ mid.index → Represents mid side stored a emitted → Represents now side stored (row a act).state emitted
advanced_side mid now side stored a emitted act state index keeps = record {
  state = state ∙ ap (λ (x : Automaton). (row x act).state) keeps.state;
  indexed = λ p c. let (place, at, is) = keeps.indexed p c in (place, same (key_of p.body) ∙ at, is);
  placed = λ key place at. keeps.placed key place (sym (same key) ∙ at);
}
  where
    same : (key : Key) → place_at now key ≡ place_at mid key
    same key = ap (λ (i : PacketIndex). place_in i.rows.items (get order i.spilled) key) index
