-- The pumps of a host have its charges.
use Rattle.std.proofs.Common.{◌≡◌, ℕ, Bool, zero, suc, ◌+◌, ◌*◌, ◌/◌, ◌%◌, ◌-◌, ◌<◌, ◌≤◌, List, [], ◌∷◌, ◌++◌, length, map, slice_get, Some, refl, sym, ap, ◌∙◌, subst, append_assoc, arith}
use Rattle.std.proofs.lemmas.List.{length-append, length-map}
use Rattle.std.proofs.lemmas.Nat.{div-add-mod', mod_below}
use Rattle.std.proofs.lemmas.Option.{slice_get_within}
use Rattle.std.proofs.Math.Nat.{add-mul-mod_self_left, mod-eq_of_lt, mul_comm}
use Rattle.amo_object.specs.declared.step.End.{End}
use Rattle.amo_book.specs.Book.{BookState, Each}
use Rattle.amo_book.specs.Charge.{ChargeState, IsChargeOf}
use Rattle.amo_book.specs.Closed.{HasCharge}
use Rattle.amo_host.specs.Charges.{CanBeDriven}
use Rattle.amo_host.specs.Division.{Divides, CanBeDivided}
use Rattle.amo_host.specs.Station.{Station, IsStation}
use Rattle.amo_run.specs.Crew.{EachAt, IsDriver, IsOurs, dealt}
use Rattle.amo_run.specs.Roster.{pump_of, pumps_before}
use Rattle.amo_run.specs.Versions.{version_for, starting}
use Rattle.amo_run.specs.declared.part.Part.{Part}
use Rattle.amo_run.proofs.Crews.{at_both, at_map, at_of, map_at}

pub each_at : {A : Type 0} (P : A → Type 0) (xs : List A) (k : ℕ) (x : A) → Each P xs → slice_get xs k ≡ Some x → P x
each_at P [] k x h e = cc
each_at P (y ∷ ys) zero x h e = let is : y ≡ x = cc in subst P is h.0
each_at P (y ∷ ys) (suc k) x h e = each_at P ys k x h.1 e

each_of : {A : Type 0} (P : A → Type 0) (xs : List A) → ((k : ℕ) (x : A) → slice_get xs k ≡ Some x → P x) → Each P xs
each_of P [] h = tt
each_of P (x ∷ xs) h = (h 0 x refl, each_of P xs (λ k y e. h (suc k) y e))

at_below : {A : Type 0} (xs : List A) (k : ℕ) → k < length xs → (x : A) × (slice_get xs k ≡ Some x)
at_below [] k lt = absurd (omega arith)
at_below (x ∷ xs) zero lt = (x, refl)
at_below (x ∷ xs) (suc k) lt = at_below xs k (omega arith)

get_left : {A : Type 0} (xs ys : List A) (k : ℕ) (x : A) → slice_get xs k ≡ Some x → slice_get (xs ++ ys) k ≡ Some x
get_left [] ys k x e = cc
get_left (y ∷ xs) ys zero x e = e
get_left (y ∷ xs) ys (suc k) x e = get_left xs ys k x e

get_right : {A : Type 0} (xs ys : List A) (k n : ℕ) (x : A) → n ≡ length xs + k → slice_get ys k ≡ Some x → slice_get (xs ++ ys) n ≡ Some x
get_right [] ys k n x is e = let same : n ≡ k = omega arith in ap (λ m. slice_get ys m) same ∙ e
get_right (y ∷ xs) ys k zero x is e = absurd (omega arith)
get_right (y ∷ xs) ys k (suc n) x is e = get_right xs ys k n x (omega arith) e

pub has_left : (xs ys : List ChargeState) (place : ℕ) → HasCharge xs place → HasCharge (xs ++ ys) place
has_left xs ys place h = (h.0, h.1, get_left xs ys h.0 h.1 h.2, h.3)

pub has_right : (xs ys : List ChargeState) (place : ℕ) → HasCharge ys place → HasCharge (xs ++ ys) place
has_right xs ys place h = (length xs + h.0, h.1, get_right xs ys h.0 (length xs + h.0) h.1 refl h.2, h.3)

dealt_both : {W : Type 0} (xs ys : List (Station W)) → dealt (xs ++ ys) ≡ dealt xs ++ dealt ys
dealt_both [] ys = refl
dealt_both (x ∷ xs) ys = ap (λ l. x.charges ++ l) (dealt_both xs ys) ∙ sym (append_assoc x.charges (dealt xs) (dealt ys))

dealt_has : {W : Type 0} (ss : List (Station W)) (p : ℕ) (s : Station W) (place : ℕ) → slice_get ss p ≡ Some s → HasCharge s.charges place → HasCharge (dealt ss) place
dealt_has [] p s place e h = cc
dealt_has {W = W} (x ∷ xs) zero s place e h = let is : x ≡ s = cc in has_left x.charges (dealt xs) place (subst (λ (t : Station W). HasCharge t.charges place) (sym is) h)
dealt_has (x ∷ xs) (suc p) s place e h = has_right x.charges (dealt xs) place (dealt_has xs p s place e h)

pub each_both : {A : Type 0} (P : A → Type 0) (xs ys : List A) → Each P xs → Each P ys → Each P (xs ++ ys)
each_both P [] ys h k = k
each_both P (x ∷ xs) ys h k = (h.0, each_both P xs ys h.1 k)

map_each : {A B : Type 0} (P : B → Type 0) (f : A → B) (xs : List A) → Each P (map f xs) → Each (λ x. P (f x)) xs
map_each P f [] h = tt
map_each P f (x ∷ xs) h = (h.0, map_each P f xs h.1)

each_map : {A B : Type 0} (P : B → Type 0) (f : A → B) (xs : List A) → Each (λ x. P (f x)) xs → Each P (map f xs)
each_map P f [] h = tt
each_map P f (x ∷ xs) h = (h.0, each_map P f xs h.1)

-- a pump stays one, however it starts
still : {W : Type 0} (batch : Bool) (s : Station W) → IsStation s → IsStation (starting batch s)
still batch s h = record { host = h.host; modes = h.modes; sides = h.sides }

dealt_starting : {W : Type 0} (batch : Bool) (ss : List (Station W)) → dealt (map (starting batch) ss) ≡ dealt ss
dealt_starting batch [] = refl
dealt_starting batch (s ∷ ss) = ap (λ l. s.charges ++ l) (dealt_starting batch ss)

module _ {W : Type 0} (charges : List ChargeState) (window pumps : ℕ) (words : List W) (stations : List (Station W)) where
  stations_ours : (batch : Bool) (b : BookState) → Divides charges window pumps words stations → Each (IsChargeOf b.id b.sides) charges → Each (IsOurs {W = W} (version_for batch) b) (map (starting batch) stations)
  stations_ours batch b d h = each_map (IsOurs {W = W} (version_for batch) b) (starting batch) stations (each_of (λ (s : Station W). IsOurs {W = W} (version_for batch) b (starting batch s)) stations (λ p s e.
      (each_of (IsChargeOf b.id b.sides) s.charges (λ k x at. each_at (IsChargeOf b.id b.sides) charges (p + pumps * k) x h (sym ((d.part p s e).each k) ∙ at)), still batch s (d.begins p s e).station, refl)))

  -- each takes its turn among the streams of the host
  stations_drive : (batch : Bool) (part : Part) (side : End) (p : ℕ) (s : Station W) → Divides charges window pumps words stations → ((k : ℕ) (c : ChargeState) → slice_get charges k ≡ Some c → (c.side ≡ side) × (c.stream ≡ k + 1))
      → slice_get stations p ≡ Some s → IsDriver {W = W} part pumps (pumps_before part pumps side + p) (starting batch s)
  stations_drive batch part side p s d streams e = each_of (λ (c : ChargeState). pumps_before part pumps side + p ≡ pump_of part pumps c.side c.stream) s.charges (λ k c at.
      let t = streams (p + pumps * k) c (sym ((d.part p s e).each k) ∙ at) in let stream = t.1 in
      let before : pumps_before part pumps c.side ≡ pumps_before part pumps side = ap (pumps_before part pumps) t.0 in
      let less : c.stream - 1 ≡ p + pumps * k = omega arith in
      let count = d.count in let within = slice_get_within stations p s e in let below : p < pumps = omega arith in
      let turn : (c.stream - 1) % pumps ≡ p = ap (λ (n : ℕ). n % pumps) less ∙ (add-mul-mod_self_left p pumps k ∙ mod-eq_of_lt below) in
      omega arith)

  stations_have : Divides charges window pumps words stations → 1 ≤ pumps → (place : ℕ) → HasCharge charges place → HasCharge (dealt stations) place
  stations_have d some place h =
      let count = d.count in let k = h.0 in
      let below : k % pumps < pumps = mod_below k pumps some in
      let whole : k / pumps * pumps + k % pumps ≡ k = div-add-mod' k pumps in
      let turned : k / pumps * pumps ≡ pumps * (k / pumps) = mul_comm (k / pumps) pumps in
      let s = at_below stations (k % pumps) (omega arith) in
      let at : k % pumps + pumps * (k / pumps) ≡ k = omega arith in
      dealt_has stations (k % pumps) s.0 place s.1 (k / pumps, h.1, (d.part (k % pumps) s.0 s.1).each (k / pumps) ∙ (ap (λ n. slice_get charges n) at ∙ h.2), h.3)

-- the pumps of a host are added to those of others
module _ {A W : Type 0} (f : A → Station W) (old new : List A) (stations : List (Station W)) where
  pub kept : map f new ≡ map f old ++ stations → (place : ℕ) → HasCharge (dealt (map f old)) place → HasCharge (dealt (map f new)) place
  kept e place h = subst (λ l. HasCharge l place) (sym (ap dealt e ∙ dealt_both (map f old) stations)) (has_left (dealt (map f old)) (dealt stations) place h)

  pub added : (batch : Bool) (charges : List ChargeState) (window pumps : ℕ) (words : List W) → map f new ≡ map f old ++ map (starting batch) stations → Divides charges window pumps words stations → 1 ≤ pumps
      → (place : ℕ) → HasCharge charges place → HasCharge (dealt (map f new)) place
  added batch charges window pumps words e d some place h =
      let all : dealt (map f new) ≡ dealt (map f old) ++ dealt stations = ap dealt e ∙ (dealt_both (map f old) (map (starting batch) stations) ∙ ap (λ l. dealt (map f old) ++ l) (dealt_starting batch stations)) in
      subst (λ l. HasCharge l place) (sym all) (has_right (dealt (map f old)) (dealt stations) place (stations_have charges window pumps words stations d some place h))

  pub ours : (batch : Bool) (b : BookState) (charges : List ChargeState) (window pumps : ℕ) (words : List W) → map f new ≡ map f old ++ map (starting batch) stations → Divides charges window pumps words stations
      → Each (IsChargeOf b.id b.sides) charges → Each (λ (x : A). IsOurs (version_for batch) b (f x)) old → Each (λ (x : A). IsOurs (version_for batch) b (f x)) new
  ours batch b charges window pumps words e d h was =
      let Ours : Station W → Type 0 = IsOurs {W = W} (version_for batch) b in
      map_each Ours f new (subst (Each Ours) (sym e) (each_both Ours (map f old) (map (starting batch) stations) (each_map Ours f old was) (stations_ours charges window pumps words stations batch b d h)))

  pub drivers : (batch : Bool) (part : Part) (side : End) (charges : List ChargeState) (window pumps : ℕ) (words : List W) → map f new ≡ map f old ++ map (starting batch) stations → Divides charges window pumps words stations
      → ((k : ℕ) (c : ChargeState) → slice_get charges k ≡ Some c → (c.side ≡ side) × (c.stream ≡ k + 1)) → length old ≡ pumps_before part pumps side
      → EachAt (λ n (x : A). IsDriver part pumps n (f x)) 0 old → EachAt (λ n (x : A). IsDriver part pumps n (f x)) 0 new
  drivers batch part side charges window pumps words e d streams before was =
      let Drives : ℕ → Station W → Type 0 = λ n s. IsDriver {W = W} part pumps n s in
      let long = length-map old f in
      let more : EachAt Drives (pumps_before part pumps side) (map (starting batch) stations) = at_map Drives (starting batch) (pumps_before part pumps side) stations
      (at_of (λ n (s : Station W). Drives n (starting batch s)) (pumps_before part pumps side) stations (λ p s at. stations_drive charges window pumps words stations batch part side p s d streams at)) in
      map_at Drives f 0 new (subst (EachAt Drives 0) (sym e) (at_both Drives 0 (pumps_before part pumps side) (map f old) (map (starting batch) stations) (omega arith) (at_map Drives f 0 old was) more))

  pub counted : map f new ≡ map f old ++ stations → length new ≡ length old + length stations
  counted e = sym (length-map new f) ∙ (ap length e ∙ (length-append (map f old) stations ∙ ap (λ n. n + length stations) (length-map old f)))

pub can_divide : (charges : List ChargeState) (pumps words : ℕ) → 1 ≤ pumps → pumps ≤ 4 → words ≡ pumps → pumps ≤ length charges → CanBeDriven charges 16 → CanBeDivided charges 16 pumps words
can_divide charges pumps words some few each enough driven = record { some = some; few = few; a_word_each = each; a_charge_each = enough; a_handshake_each = omega arith; driven = driven }
