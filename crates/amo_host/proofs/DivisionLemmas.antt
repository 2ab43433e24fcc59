-- Several pumps: their windows, and what they are made of.
use Rattle.std.proofs.Common.{false, ◌≡◌, ℕ, zero, suc, ◌+◌, ◌*◌, ◌/◌, ◌%◌, ◌<◌, ◌≤◌, min, List, [], ◌∷◌, ◌++◌, length, get_or, set, map, slice_get, vec_capacity, sum_by, ◌⊎◌, Some, refl, sym, ap, subst, ◌∙◌, inl, inr, cond, ltb, arith}
use Rattle.std.specs.Global.{Vec}
use Rattle.std.specs.List.{zip}
use Rattle.std.proofs.Math.Nat.{mul-le-mul_left, mul-le-mul_right}
use Rattle.std.proofs.lemmas.Bool.{cases_lt}
use Rattle.std.proofs.lemmas.Bool.Decides.{nat_tests}
use Rattle.std.proofs.lemmas.List.{length-map}
use Rattle.std.proofs.lemmas.List.Sums.{sum_by-cons}
use Rattle.std.proofs.lemmas.Option.{same_Some, slice_get_within}
use Rattle.std.proofs.lemmas.Slice.Zip.{length-zip}
use Rattle.amo_book.specs.Book.{Each}
use Rattle.amo_book.specs.Charge.{ChargeState}
use Rattle.amo_object.specs.declared.step.End.{End}
use Rattle.amo_host.specs.Charges.{IsOfSide, stream_mode_of}
use Rattle.amo_host.specs.Division.{share, permits_out, IsPart, CanBeDivided, Divides, ShareWindow}
use Rattle.amo_host.specs.Handshakes.{open_count}
use Rattle.amo_host.specs.Host.{Host, fresh}
use Rattle.amo_host.specs.Room.{joined, station_of, Suit, IsHostOfPart, HasHosts, HasRoom, AreDealt}
use Rattle.amo_host.specs.Station.{Station, IsStation, Begins}
use Rattle.amo_host.proofs.StationLemmas.{read_at}
use Rattle.amo_host.proofs.PartLemmas.{turn_length, dealt_here, dealt_elsewhere, placed_set, one_part, part_some, part_each, part-map, part_rises}

-- each share is at least 1, where there is a handshake for each pump
pub share_least : (window n p : ℕ) → 0 < n → n ≤ window → 1 ≤ share window n p
share_least window n p some enough =
    elim (cases_lt 0 (window / n)) [
      | inl once ↦ omega arith
      | inr none ↦ let times : n * (window / n) ≡ n * 0 = ap (λ q. n * q) (omega arith) in absurd (omega arith)
    ]

-- and at most the window
pub share_greatest : (window n p : ℕ) → 0 < n → share window n p ≤ window
share_greatest window n p some =
    let times : 1 * (window / n) ≤ n * (window / n) = mul-le-mul_right (window / n) some in
    elim (cases_lt p (window % n)) [
      | inl over ↦ grind (arith, nat_tests)
      | inr even ↦ grind (arith, nat_tests)
    ]

step : (q r i : ℕ) → (i + 1) * q + min (i + 1) r ≡ q + cond (ltb i r) 1 0 + (i * q + min i r)
step q r i = grind (arith, nat_tests)

module _ {W : Type 0} (window n : ℕ) where
  -- the windows from the pump in place i on, added up
  limits : (i : ℕ) (ss : List (Station W)) → ((p : ℕ) (s : Station W) → slice_get ss p ≡ Some s → s.host.limit ≡ share window n (i + p))
      → sum_by (λ s. s.host.limit) ss + (i * (window / n) + min i (window % n)) ≡ (i + length ss) * (window / n) + min (i + length ss) (window % n)
  limits i [] each = omega arith
  limits i (s ∷ ss) each =
      let later : (p : ℕ) (t : Station W) → slice_get ss p ≡ Some t → t.host.limit ≡ share window n (i + 1 + p) = λ p t at. let next : i + suc p ≡ i + 1 + p = omega arith in each (suc p) t at ∙ ap (share window n) next in
      let rest = limits (i + 1) ss later in
      let here : i + 0 ≡ i = omega arith in
      let first : s.host.limit ≡ share window n i = each 0 s refl ∙ ap (share window n) here in
      let same : i + 1 + length ss ≡ i + length (s ∷ ss) = omega arith in
      let moved = subst (λ m. sum_by (λ (t : Station W). t.host.limit) ss + ((i + 1) * (window / n) + min (i + 1) (window % n)) ≡ m * (window / n) + min m (window % n)) same rest in
      omega (arith, moved, first, step (window / n) (window % n) i, sum_by-cons (λ (t : Station W). t.host.limit) s ss)

  -- the windows add up
  pub whole : (ss : List (Station W)) → 0 < n → length ss ≡ n → ((p : ℕ) (s : Station W) → slice_get ss p ≡ Some s → s.host.limit ≡ share window n p) → sum_by (λ s. s.host.limit) ss ≡ window
  whole ss some count each =
      let first : (p : ℕ) (s : Station W) → slice_get ss p ≡ Some s → s.host.limit ≡ share window n (0 + p) = λ p s at. let same : p ≡ 0 + p = omega arith in each p s at ∙ ap (share window n) same in
      let same : 0 + length ss ≡ n = omega (arith, count) in
      let all = subst (λ m. sum_by (λ (s : Station W). s.host.limit) ss + (0 * (window / n) + min 0 (window % n)) ≡ m * (window / n) + min m (window % n)) same (limits 0 ss first) in
      omega (arith, all)

-- permits are no more than the windows allow
pub few_out : {W : Type 0} (later ss : List (Station W)) → Each IsStation later → map (λ s. s.host.limit) later ≡ map (λ s. s.host.limit) ss → permits_out later ≤ sum_by (λ s. s.host.limit) ss
few_out [] ss all same = omega arith
few_out (t ∷ later) [] all same = absurd (cc)
few_out {W} (t ∷ later) (s ∷ ss) all same =
    let limit : t.host.limit ≡ s.host.limit = cc in
    let rest = few_out later ss all.1 (cc) in
    omega (arith, limit, rest, all.0.host.window, sum_by-cons (λ (u : Station W). u.host.limit) s ss, sum_by-cons (λ (u : Station W). open_count u.host.permits) t later)

-- the pump in a place
pub joined_at : {W : Type 0} (hosts : List Host) (parts : List (Vec ChargeState)) (words : List W) (p : ℕ) (s : Station W) → slice_get (joined hosts parts words) p ≡ Some s
    → (slice_get hosts p ≡ Some s.host) × ((part : Vec ChargeState) × (slice_get parts p ≡ Some part) × (s.charges ≡ part.items)) × (slice_get words p ≡ Some s.words)
joined_at [] parts words p s at = absurd (cc)
joined_at (h ∷ hosts) [] words p s at = absurd (cc)
joined_at (h ∷ hosts) (part ∷ parts) [] p s at = absurd (cc)
joined_at {W} (h ∷ hosts) (part ∷ parts) (w ∷ words) zero s at =
    let same = same_Some _ s at in
    (ap (λ (t : Station W). Some t.host) same, (part, refl, ap (λ (t : Station W). t.charges) (sym same)), ap (λ (t : Station W). Some t.words) same)
joined_at (h ∷ hosts) (part ∷ parts) (w ∷ words) (suc p) s at = joined_at hosts parts words p s at

-- it begins with plain starts
pub joined_plain : {W : Type 0} (hosts : List Host) (parts : List (Vec ChargeState)) (words : List W) (p : ℕ) (s : Station W) → slice_get (joined hosts parts words) p ≡ Some s → s.batches ≡ false
joined_plain [] parts words p s at = absurd (cc)
joined_plain (h ∷ hosts) [] words p s at = absurd (cc)
joined_plain (h ∷ hosts) (part ∷ parts) [] p s at = absurd (cc)
joined_plain {W} (h ∷ hosts) (part ∷ parts) (w ∷ words) zero s at = ap (λ (t : Station W). t.batches) (sym (same_Some _ s at))
joined_plain (h ∷ hosts) (part ∷ parts) (w ∷ words) (suc p) s at = joined_plain hosts parts words p s at

-- before the first charge each pump has its part of none
pub nothing_dealt : (n count : ℕ) (parts : List (Vec ChargeState)) → HasRoom n count parts → (p : ℕ) (part : Vec ChargeState) → slice_get parts p ≡ Some part → IsPart n p [] part.items × (count ≤ n * vec_capacity part)
nothing_dealt n count parts room p part at =
    let empty = room.each p part at in
    (subst (IsPart n p []) (sym empty.0) (record { each = λ k. refl }), empty.1)

-- there is room in the part whose turn it is, as long as a charge is left
pub room_left : (n count : ℕ) (ys : List ChargeState) (turn q : ℕ) (old : Vec ChargeState) → turn < n → turn + n * q ≡ length ys → IsPart n turn ys old.items → length ys < count → count ≤ n * vec_capacity old → length old.items < vec_capacity old
room_left n count ys turn q old within comes is left room = elim (cases_lt q (vec_capacity old)) [
  | inl less ↦ omega (arith, turn_length n turn q within ys comes old.items is)
  | inr full ↦ let times : n * vec_capacity old ≤ n * q = mul-le-mul_left n full in absurd (omega arith)
]

-- one more charge goes to the part whose turn it is
pub dealt : (n count : ℕ) (ys : List ChargeState) (turn q : ℕ) (x : ChargeState) (parts : List (Vec ChargeState)) (old new : Vec ChargeState) → length parts ≡ n → turn < n → turn + n * q ≡ length ys
    → ((p : ℕ) (part : Vec ChargeState) → slice_get parts p ≡ Some part → IsPart n p ys part.items × (count ≤ n * vec_capacity part))
    → old ≡ get_or parts turn old → new.items ≡ old.items ++ x ∷ [] → vec_capacity new ≡ vec_capacity old
    → (p : ℕ) (part : Vec ChargeState) → slice_get (set parts turn new) p ≡ Some part → IsPart n p (ys ++ x ∷ []) part.items × (count ≤ n * vec_capacity part)
dealt n count ys turn q x parts old new size within comes each read pushed kept =
    let at = read_at parts turn old (omega (arith, size)) read in
    let mine = each turn old at in
    placed_set (λ p (part : Vec ChargeState). IsPart n p ys part.items × (count ≤ n * vec_capacity part)) (λ p (part : Vec ChargeState). IsPart n p (ys ++ x ∷ []) part.items × (count ≤ n * vec_capacity part)) parts turn new each
    (subst (IsPart n turn (ys ++ x ∷ [])) (sym pushed) (dealt_here n turn q within ys comes x old.items mine.0), subst (λ c. count ≤ n * c) (sym kept) mine.1)
    (λ p part other inside is. (dealt_elsewhere n turn q within ys comes x p part.items (omega (arith, size, inside)) other is.0, is.1))

-- what is left of three lists of which one is used up makes no pump
pub joined_none : {W : Type 0} (hosts : List Host) (parts : List (Vec ChargeState)) (words : List W) → ((length hosts ≡ 0) ⊎ (length parts ≡ 0)) ⊎ (length words ≡ 0) → joined hosts parts words ≡ []
joined_none [] parts words used = refl
joined_none (h ∷ hosts) [] words used = refl
joined_none (h ∷ hosts) (part ∷ parts) [] used = refl
joined_none (h ∷ hosts) (part ∷ parts) (w ∷ words) (inl (inl used)) = absurd (omega arith)
joined_none (h ∷ hosts) (part ∷ parts) (w ∷ words) (inl (inr used)) = absurd (omega arith)
joined_none (h ∷ hosts) (part ∷ parts) (w ∷ words) (inr used) = absurd (omega arith)

-- the first of what is left, and the rest
pub Suit-first : (h : Host) (hosts : List Host) (part : Vec ChargeState) (parts : List (Vec ChargeState)) → Suit (h ∷ hosts) (part ∷ parts) → {W : Type 0} (w : W) → IsStation (record { host = h; charges = part.items; words = w; batches = false })
Suit-first h hosts part parts suit w = let is = suit.each 0 h part refl refl in record { host = is.host; modes = is.modes; sides = is.sides }

pub Suit-rest : (h : Host) (hosts : List Host) (part : Vec ChargeState) (parts : List (Vec ChargeState)) → Suit (h ∷ hosts) (part ∷ parts) → Suit hosts parts
Suit-rest h hosts part parts suit = record { each = λ p g other found at. suit.each (suc p) g other found at }

pub length-joined : {W : Type 0} (hosts : List Host) (parts : List (Vec ChargeState)) (words : List W) (n : ℕ) → length hosts ≡ n → length parts ≡ n → length words ≡ n → length (joined hosts parts words) ≡ n
length-joined hosts parts words n first second third = omega (arith, length-map (zip (zip hosts parts) words) station_of, length-zip (zip hosts parts) words, length-zip hosts parts)

module _ {W : Type 0} (side : End) (charges : List ChargeState) (window n p : ℕ) (s : Station W) (all : Each (IsOfSide side) charges)
    (is : IsHostOfPart side (map stream_mode_of charges) window n p s.host) (part : IsPart n p charges s.charges) where
  -- what a host knows of a part of the charges
  modes_of_part : map stream_mode_of s.charges ≡ s.host.modes
  modes_of_part = one_part n p (map stream_mode_of charges) (map stream_mode_of s.charges) s.host.modes (part-map stream_mode_of n p charges s.charges part) is.part

  -- it is a pump of its part
  pub part_station : IsStation s
  part_station = record {
    host = is.host;
    modes = modes_of_part;
    sides = subst (λ e. Each (IsOfSide e) s.charges) (ap (λ (h : Host). h.side) (sym is.fresh)) (part_each n p charges (IsOfSide side) s.charges part all);
  }

  -- and a new one
  pub part_begins : p < n → CanBeDivided charges window n n → s.batches ≡ false → Begins s.charges (share window n p) s.words s
  part_begins turn lawful plain = record {
    charges_are = refl;
    words_are = refl;
    plain = plain;
    host = is.fresh ∙ ap (λ e. fresh e s.host.modes (share window n p)) (ap (λ (h : Host). h.side) (sym is.fresh)) ∙ ap (λ ms. fresh s.host.side ms (share window n p)) (sym modes_of_part);
    station = part_station;
    lawful = record {
      some = part_some n p charges s.charges part (omega (arith, lawful.a_charge_each));
      side = side;
      one_side = part_each n p charges (IsOfSide side) s.charges part all;
      rising = part_rises n p (map (λ c. c.stream) charges) (map (λ c. c.stream) s.charges) (omega (arith, lawful.some)) (part-map (λ c. c.stream) n p charges s.charges part) lawful.driven.rising;
      least = share_least window n p (omega (arith, lawful.some)) lawful.a_handshake_each;
      greatest = omega (arith, share_greatest window n p (omega (arith, lawful.some)), lawful.driven.greatest);
    };
  }

module _ {W : Type 0} (charges : List ChargeState) (window n : ℕ) (words : List W) (hosts : List Host) (parts : List (Vec ChargeState)) (side : End)
    (all : Each (IsOfSide side) charges) (has : HasHosts side (map stream_mode_of charges) window n hosts) (are : AreDealt charges n parts) where
  -- each new host is one of the part in its place
  pub suit_each : Suit hosts parts
  suit_each = record {
    each = λ p h part found at. part_station side charges window n p (record { host = h; charges = part.items; words = tt {0}; batches = false }) all (has.each p h found) (are.each p part at);
  }

  -- so the pumps that are made of them divide the charges
  pub divides : CanBeDivided charges window n (length words) → Divides charges window n words (joined hosts parts words)
  divides lawful =
      let even : CanBeDivided charges window n n = subst (CanBeDivided charges window n) lawful.a_word_each lawful in
      record {
        lawful = lawful;
        count = length-joined hosts parts words n has.count are.count lawful.a_word_each;
        part = λ p s at. dealt_to p s at;
        word = λ p s at. (joined_at hosts parts words p s at).2;
        begins = λ p s at. let found = joined_at hosts parts words p s at in part_begins side charges window n p s all (has.each p s.host found.0) (dealt_to p s at) (omega (arith, has.count, slice_get_within hosts p s.host found.0)) even (joined_plain hosts parts words p s at);
      }
    where
      dealt_to : (p : ℕ) (s : Station W) → slice_get (joined hosts parts words) p ≡ Some s → IsPart n p charges s.charges
      dealt_to p s at = let part = (joined_at hosts parts words p s at).1 in subst (IsPart n p charges) (sym part.2) (are.each p part.0 part.1)

-- pumps that divide the charges share the window
pub shares_window : {W : Type 0} (charges : List ChargeState) (window n : ℕ) (words : List W) (ss : List (Station W)) → 0 < n → Divides charges window n words ss → ShareWindow window ss
shares_window {W} charges window n words ss some divided =
    let limit : (p : ℕ) (s : Station W) → slice_get ss p ≡ Some s → s.host.limit ≡ share window n p = λ p s at. ap (λ (h : Host). h.limit) (divided.begins p s at).host in
    let sum = whole window n ss some divided.count limit in
    record { whole = sum; always = λ later all same. omega (arith, sum, few_out later ss all same) }
