-- What a book of a run gives out.
use Rattle.std.proofs.Common.{◌≡◌, ℕ, zero, suc, ◌+◌, ◌<◌, ◌≤◌, List, [], ◌∷◌, ◌++◌, length, map, slice_get, get_or, Some, inl, inr, ◌⊎◌, refl, sym, ap, ap₂, ◌∙◌, subst, append_assoc, arith}
use Rattle.std.proofs.lemmas.List.{length-append}
use Rattle.std.proofs.lemmas.Option.{slice_get-get_or}
use Rattle.atomic_table.specs.Seated.{TableId}
use Rattle.amo_object.specs.declared.step.End.{End}
use Rattle.amo_object.specs.declared.step.End.TheVariants.{Sender, Receiver}
use Rattle.amo_world.specs.Stream.{IsStream}
use Rattle.amo_book.specs.Book.{BookState, Each, AreLawful, IsLawful, AreFirstCharges, first_charge}
use Rattle.amo_book.specs.Charge.{ChargeState, IsChargeOf}
use Rattle.amo_book.specs.Closed.{AllCharges, HasCharge}
use Rattle.amo_host.specs.Charges.{CanBeDriven, IsAtRest, IsOfSide}
use Rattle.amo_run.specs.declared.part.Part.{Part}
use Rattle.amo_run.specs.declared.part.Part.TheVariants.{Both, Senders, Receivers}
use Rattle.amo_run.specs.Parts.{sides_of}
use Rattle.amo_run.specs.Sides.{sides_from, both_sides, window, IsHostOf}

pub sides_more : (side : End) (k n j : ℕ) → j ≡ k + n → sides_from side k (n + 1) ≡ sides_from side k n ++ (side, j) ∷ []
sides_more side k zero j is = ap (λ (m : ℕ). (side, m) ∷ []) (omega arith)
sides_more side k (suc n) j is = let e : suc n + 1 ≡ suc (n + 1) = omega arith in ap (sides_from side k) e ∙ ap (λ l. (side, k) ∷ l) (sides_more side (suc k) n j (omega arith))

sides_length : (side : End) (k n : ℕ) → length (sides_from side k n) ≡ n
sides_length side k zero = refl
sides_length side k (suc n) = ap suc (sides_length side (suc k) n)

both_length : (n : ℕ) → length (both_sides n) ≡ n + n
both_length n = let a = sides_length Sender 1 n in let b = sides_length Receiver 1 n in length-append (sides_from Sender 1 n) (sides_from Receiver 1 n) ∙ omega arith

sides_at : (side : End) (k n j : ℕ) (s : End) (m : ℕ) → slice_get (sides_from side k n) j ≡ Some (s, m) → (s ≡ side) × (m ≡ k + j) × (j < n)
sides_at side k zero j s m e = cc
sides_at side k (suc n) zero s m e = let one : ◌≡◌ {A = End × ℕ} (side, k) (s, m) = cc in (sym (ap (λ t. t.0) one), sym (ap (λ t. t.1) one) ∙ omega arith, omega arith)
sides_at side k (suc n) (suc j) s m e = let t = sides_at side (suc k) n j s m e in let at = t.1 in let lt = t.2 in (t.0, omega arith, omega arith)

in_later : {A : Type 0} (xs ys : List A) (j : ℕ) (x : A) → (slice_get xs j ≡ Some x) ⊎ ((i : ℕ) × (j ≡ length xs + i) × (slice_get ys i ≡ Some x))
    → (slice_get xs j ≡ Some x) ⊎ ((i : ℕ) × (suc j ≡ suc (length xs) + i) × (slice_get ys i ≡ Some x))
in_later xs ys j x (inl e) = inl e
in_later xs ys j x (inr (i, is, e)) = inr (i, omega arith, e)

in_both : {A : Type 0} (xs ys : List A) (j : ℕ) (x : A) → slice_get (xs ++ ys) j ≡ Some x → (slice_get xs j ≡ Some x) ⊎ ((i : ℕ) × (j ≡ length xs + i) × (slice_get ys i ≡ Some x))
in_both [] ys j x e = inr (j, omega arith, e)
in_both (y ∷ xs) ys zero x e = inl e
in_both (y ∷ xs) ys (suc j) x e = in_later xs ys j x (in_both xs ys j x e)

-- where a side stands: a sender in the first half, a receiver in the second
abbrev Stands : ℕ → ℕ → End → ℕ → Type 0
Stands n j s m = ((s ≡ Sender) × (m ≡ 1 + j) × (j < n)) ⊎ ((s ≡ Receiver) × (m + n ≡ 1 + j) × (n ≤ j) × (j < n + n))

half : (n j : ℕ) (s : End) (m : ℕ) → (slice_get (sides_from Sender 1 n) j ≡ Some (s, m)) ⊎ ((i : ℕ) × (j ≡ length (sides_from Sender 1 n) + i) × (slice_get (sides_from Receiver 1 n) i ≡ Some (s, m))) → Stands n j s m
half n j s m (inl e) = inl (sides_at Sender 1 n j s m e)
half n j s m (inr (i, is, e)) = let t = sides_at Receiver 1 n i s m e in let at = t.1 in let lt = t.2 in let long = sides_length Sender 1 n in inr (t.0, omega arith, omega arith, omega arith)

stands : (n j : ℕ) (s : End) (m : ℕ) → slice_get (both_sides n) j ≡ Some (s, m) → Stands n j s m
stands n j s m e = half n j s m (in_both (sides_from Sender 1 n) (sides_from Receiver 1 n) j (s, m) e)

within : (n j : ℕ) (s : End) (m : ℕ) → n ≤ 256 → Stands n j s m → IsStream m
within n j s m le (inl (is, at, lt)) = (omega arith, omega arith)
within n j s m le (inr (is, at, low, lt)) = (omega arith, omega arith)

one_place : (n i j : ℕ) (s : End) (m : ℕ) → Stands n i s m → Stands n j s m → i ≡ j
one_place n i j s m (inl (a, b, c)) (inl (d, e, f)) = omega arith
one_place n i j s m (inl (a, b, c)) (inr (d, e, f, g)) = cc
one_place n i j s m (inr (a, b, c, h)) (inl (d, e, f)) = cc
one_place n i j s m (inr (a, b, c, h)) (inr (d, e, f, g)) = omega arith

both_lawful : (n : ℕ) → 1 ≤ n → n ≤ 256 → AreLawful (both_sides n)
both_lawful n some few = let long = both_length n in record {
  some = omega arith;
  streams = λ k side stream e. within n k side stream few (stands n k side stream e);
  apart = λ i j side a b. one_place n i j side.0 side.1 (stands n i side.0 side.1 a) (stands n j side.0 side.1 b);
}

one_lawful : (side : End) (n : ℕ) → 1 ≤ n → n ≤ 256 → AreLawful (sides_from side 1 n)
one_lawful side n some few = let long = sides_length side 1 n in record {
  some = omega arith;
  streams = λ k s stream e. let t = sides_at side 1 n k s stream e in let at = t.1 in let lt = t.2 in (omega arith, omega arith);
  apart = λ i j s a b. let t = sides_at side 1 n i s.0 s.1 a in let u = sides_at side 1 n j s.0 s.1 b in let at = t.1 in let too = u.1 in omega arith;
}

part_lawful : (part : Part) (n : ℕ) → 1 ≤ n → n ≤ 256 → AreLawful (sides_of part n)
part_lawful Both n some few = both_lawful n some few
part_lawful Senders n some few = one_lawful Sender n some few
part_lawful Receivers n some few = one_lawful Receiver n some few

-- a run's book may be opened
pub may_open : (part : Part) (n count : ℕ) (sides : List (End × ℕ)) → 1 ≤ n → n ≤ 256 → 2 ≤ count → count ≤ 64 → sides ≡ sides_of part n → IsLawful sides count
may_open part n count sides some few two many is = record { sides_are = subst AreLawful (sym is) (part_lawful part n some few); two = two; many = many }

-- ---- the charges of such sides
abbrev charges_of : TableId → ℕ → List (End × ℕ) → List ChargeState
charges_of id k [] = []
charges_of id k (x ∷ xs) = first_charge id k x.0 x.1 ∷ charges_of id (suc k) xs

dealt_are : (id : TableId) (k : ℕ) (sides : List (End × ℕ)) (cs : List ChargeState) → length cs ≡ length sides
    → ((j : ℕ) (side : End) (stream : ℕ) → slice_get sides j ≡ Some (side, stream) → slice_get cs j ≡ Some (first_charge id (k + j) side stream)) → cs ≡ charges_of id k sides
dealt_are id k [] [] long h = refl
dealt_are id k [] (c ∷ cs) long h = absurd (omega arith)
dealt_are id k (x ∷ xs) [] long h = absurd (omega arith)
dealt_are id k (x ∷ xs) (c ∷ cs) long h =
    let first : Some c ≡ Some (first_charge id (k + 0) x.0 x.1) = h 0 x.0 x.1 refl in
    let here : c ≡ first_charge id (k + 0) x.0 x.1 = cc in
    ap₂ (λ (y : ChargeState) l. y ∷ l) (here ∙ ap (λ (m : ℕ). first_charge id m x.0 x.1) (omega arith))
    (dealt_are id (suc k) xs cs (omega arith) (λ j side stream e. h (suc j) side stream e ∙ ap (λ (m : ℕ). Some (first_charge id m side stream)) (omega arith)))

charges_length : (id : TableId) (k : ℕ) (sides : List (End × ℕ)) → length (charges_of id k sides) ≡ length sides
charges_length id k [] = refl
charges_length id k (x ∷ xs) = ap suc (charges_length id (suc k) xs)

charges_both : (id : TableId) (k : ℕ) (xs ys : List (End × ℕ)) → charges_of id k (xs ++ ys) ≡ charges_of id k xs ++ charges_of id (k + length xs) ys
charges_both id k [] ys = ap (λ (m : ℕ). charges_of id m ys) (omega arith)
charges_both id k (x ∷ xs) ys = ap (λ l. first_charge id k x.0 x.1 ∷ l) (charges_both id (suc k) xs ys ∙ ap (λ (m : ℕ). charges_of id (suc k) xs ++ charges_of id m ys) (omega arith))

same_front : {A : Type 0} (us bs xs ys : List A) → us ++ bs ≡ xs ++ ys → length us ≡ length xs → (us ≡ xs) × (bs ≡ ys)
same_front [] bs [] ys e long = (refl, e)
same_front [] bs (x ∷ xs) ys e long = absurd (omega arith)
same_front (u ∷ us) bs [] ys e long = absurd (omega arith)
same_front {A = A} (u ∷ us) bs (x ∷ xs) ys e long = let first : u ≡ x = cc in let more : us ++ bs ≡ xs ++ ys = cc in let t = same_front us bs xs ys more (omega arith) in (ap₂ (λ (y : A) l. y ∷ l) first t.0, t.1)

rest_all : (id : TableId) (side : End) (k m n : ℕ) → Each IsAtRest (charges_of id k (sides_from side m n))
rest_all id side k m zero = tt
rest_all id side k m (suc n) = (refl, rest_all id side (suc k) (suc m) n)

side_all : (id : TableId) (side : End) (k m n : ℕ) → Each (IsOfSide side) (charges_of id k (sides_from side m n))
side_all id side k m zero = tt
side_all id side k m (suc n) = (refl, side_all id side (suc k) (suc m) n)

charge_at : (id : TableId) (side : End) (k m n j : ℕ) (c : ChargeState) → slice_get (charges_of id k (sides_from side m n)) j ≡ Some c → (c.side ≡ side) × (c.stream ≡ m + j)
charge_at id side k m zero j c e = cc
charge_at id side k m (suc n) zero c e = let is : first_charge id k side m ≡ c = cc in (sym (ap (λ (x : ChargeState). x.side) is), sym (ap (λ (x : ChargeState). x.stream) is) ∙ omega arith)
charge_at id side k m (suc n) (suc j) c e = let t = charge_at id side (suc k) (suc m) n j c e in let at = t.1 in (t.0, omega arith)

stream_at : (id : TableId) (side : End) (k m n j d : ℕ) → j < n → get_or (map (λ (c : ChargeState). c.stream) (charges_of id k (sides_from side m n))) j d ≡ m + j
stream_at id side k m zero j d lt = absurd (omega arith)
stream_at id side k m (suc n) zero d lt = omega arith
stream_at id side k m (suc n) (suc j) d lt = stream_at id side (suc k) (suc m) n j d (omega arith) ∙ omega arith

streams_length : (id : TableId) (side : End) (k m n : ℕ) → length (map (λ (c : ChargeState). c.stream) (charges_of id k (sides_from side m n))) ≡ n
streams_length id side k m zero = refl
streams_length id side k m (suc n) = ap suc (streams_length id side (suc k) (suc m) n)

driven_all : (id : TableId) (side : End) (k n : ℕ) → 1 ≤ n → CanBeDriven (charges_of id k (sides_from side 1 n)) window
driven_all id side k n some = let long = charges_length id k (sides_from side 1 n) in let count = sides_length side 1 n in let wide = streams_length id side k 1 n in record {
  some = omega arith;
  side = side;
  one_side = side_all id side k 1 n;
  rising = λ j lt. let a = stream_at id side k 1 n j 0 (omega arith) in let b = stream_at id side k 1 n (j + 1) 0 (omega arith) in omega arith;
  least = omega arith;
  greatest = omega arith;
}

each_left : {A : Type 0} (P : A → Type 0) (xs ys : List A) → Each P (xs ++ ys) → Each P xs
each_left P [] ys h = tt
each_left P (x ∷ xs) ys h = (h.0, each_left P xs ys h.1)

each_right : {A : Type 0} (P : A → Type 0) (xs ys : List A) → Each P (xs ++ ys) → Each P ys
each_right P [] ys h = h
each_right P (x ∷ xs) ys h = each_right P xs ys h.1

all_places : (id : TableId) (sides : List (End × ℕ)) (cs : List ChargeState) → AreFirstCharges id sides cs → AllCharges cs (length sides)
all_places id sides cs h place lt =
    let side : End × ℕ = get_or sides place (Sender, 0) in
    let here : slice_get sides place ≡ Some side = slice_get-get_or sides place (Sender, 0) lt in
    (place, first_charge id place side.0 side.1, h.1 place side.0 side.1 here, refl)

host_of : (book : BookState) (id : TableId) (side : End) (k n : ℕ) (cs : List ChargeState) → 1 ≤ n → cs ≡ charges_of id k (sides_from side 1 n) → Each (IsChargeOf book.id book.sides) cs → IsHostOf side book cs
host_of book id side k n cs some is ours = record {
  ours = ours;
  rest = subst (Each IsAtRest) (sym is) (rest_all id side k 1 n);
  driven = subst (λ l. CanBeDriven l window) (sym is) (driven_all id side k n some);
  streams = λ j c e. let t = charge_at id side k 1 n j c (sym (ap (λ l. slice_get l j) is) ∙ e) in let at = t.1 in (t.0, omega arith);
}

-- the charges of both hosts, parted between them
pub both_hosts : (n : ℕ) (book : BookState) (charges senders receivers : List ChargeState) → 1 ≤ n → book.sides ≡ both_sides n → AreFirstCharges book.id book.sides charges → Each (IsChargeOf book.id book.sides) charges
    → senders ++ receivers ≡ charges → length senders ≡ n → IsHostOf Sender book senders × IsHostOf Receiver book receivers × (length receivers ≡ n)
both_hosts n book charges senders receivers some is firsts ours parts long =
    let first = sides_from Sender 1 n in let second = sides_from Receiver 1 n in
    let listed : AreFirstCharges book.id (both_sides n) charges = subst (λ l. AreFirstCharges book.id l charges) is firsts in
    let all : charges ≡ charges_of book.id 0 first ++ charges_of book.id (0 + length first) second = dealt_are book.id 0 (both_sides n) charges listed.0 (λ j side stream e. listed.1 j side stream e ∙ ap (λ (m : ℕ). Some (first_charge book.id m side stream)) (omega arith)) ∙ charges_both book.id 0 first second in
    let front = charges_length book.id 0 first in let wide = sides_length Sender 1 n in
    let t = same_front senders receivers (charges_of book.id 0 first) (charges_of book.id (0 + length first) second) (parts ∙ all) (omega arith) in
    let belong : Each (IsChargeOf book.id book.sides) (senders ++ receivers) = subst (Each (IsChargeOf book.id book.sides)) (sym parts) ours in (
      host_of book book.id Sender 0 n senders some t.0 (each_left _ senders receivers belong),
      host_of book book.id Receiver (0 + length first) n receivers some t.1 (each_right _ senders receivers belong),
      ap length t.1 ∙ (charges_length book.id (0 + length first) second ∙ sides_length Receiver 1 n),
    )

-- the charges of one host
pub one_host : (side : End) (n : ℕ) (book : BookState) (charges : List ChargeState) → 1 ≤ n → book.sides ≡ sides_from side 1 n → AreFirstCharges book.id book.sides charges → Each (IsChargeOf book.id book.sides) charges
    → IsHostOf side book charges × (length charges ≡ n)
one_host side n book charges some is firsts ours =
    let listed : AreFirstCharges book.id (sides_from side 1 n) charges = subst (λ l. AreFirstCharges book.id l charges) is firsts in
    let all : charges ≡ charges_of book.id 0 (sides_from side 1 n) = dealt_are book.id 0 (sides_from side 1 n) charges listed.0 (λ j s stream e. listed.1 j s stream e ∙ ap (λ (m : ℕ). Some (first_charge book.id m s stream)) (omega arith)) in
    (host_of book book.id side 0 n charges some all ours, listed.0 ∙ sides_length side 1 n)

-- there are as many charges as streams, and more
pub enough_charges : (n : ℕ) (book : BookState) (charges : List ChargeState) → book.sides ≡ both_sides n → AreFirstCharges book.id book.sides charges → n ≤ length charges
enough_charges n book charges is firsts = let long = both_length n in let same = ap length is in let all = firsts.0 in omega arith

has_either : (xs ys zs : List ChargeState) (place : ℕ) → (HasCharge xs place → HasCharge zs place) → (HasCharge ys place → HasCharge zs place)
    → (k : ℕ) (c : ChargeState) → ((slice_get xs k ≡ Some c) ⊎ ((i : ℕ) × (k ≡ length xs + i) × (slice_get ys i ≡ Some c))) → c.place ≡ place → HasCharge zs place
has_either xs ys zs place left right k c (inl e) is = left (k, c, e, is)
has_either xs ys zs place left right k c (inr (i, at, e)) is = right (i, c, e, is)

-- what has the charges of both has all
pub all_of_both : (sides : List (End × ℕ)) (id : TableId) (charges senders receivers one both : List ChargeState) → AreFirstCharges id sides charges → senders ++ receivers ≡ charges
    → ((place : ℕ) → HasCharge senders place → HasCharge one place) → ((place : ℕ) → HasCharge one place → HasCharge both place) → ((place : ℕ) → HasCharge receivers place → HasCharge both place) → AllCharges both (length sides)
all_of_both sides id charges senders receivers one both firsts parts first kept second place lt =
    let h = subst (λ l. HasCharge l place) (sym parts) (all_places id sides charges firsts place lt) in
    has_either senders receivers both place (λ x. kept place (first place x)) (second place) h.0 h.1 (in_both senders receivers h.0 h.1 h.2) h.3

pub all_of_one : (sides : List (End × ℕ)) (id : TableId) (charges one : List ChargeState) → AreFirstCharges id sides charges → ((place : ℕ) → HasCharge charges place → HasCharge one place) → AllCharges one (length sides)
all_of_one sides id charges one firsts first place lt = first place (all_places id sides charges firsts place lt)

-- one side more
pub sides_step : (before now after : List (End × ℕ)) (side : End) (n : ℕ) → now ≡ before ++ sides_from side 1 n → after ≡ now ++ (side, n + 1) ∷ [] → after ≡ before ++ sides_from side 1 (n + 1)
sides_step before now after side n is more = more ∙ (ap (λ l. l ++ (side, n + 1) ∷ []) is ∙ (append_assoc before (sides_from side 1 n) ((side, n + 1) ∷ []) ∙ ap (λ l. before ++ l) (sym (sides_more side 1 n (n + 1) (omega arith)))))
