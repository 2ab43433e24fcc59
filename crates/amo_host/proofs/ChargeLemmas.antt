-- Lists of charges.
use Rattle.std.proofs.Common.{◌≡◌, ◌↔◌, ℕ, zero, suc, ◌+◌, ◌<◌, ◌≤◌, Bool, true, false, IsTrue, List, [], ◌∷◌, length, set, map, ◌++◌, slice_get, Some, refl, sym, ap, subst, ◌∙◌, arith, ltb}
use Rattle.std.proofs.lemmas.Option.{same_Some}
use Rattle.std.specs.List.{IsAllAdjacentAnswer}
use Rattle.std.specs.List.Sorted.{IsStrictlyIncreasing}
use Rattle.std.proofs.lemmas.List.{length-map}
use Rattle.std.proofs.lemmas.Bool.Decides.{nat_tests}
use borrow.Author.Tests.{ltb-true}
use Rattle.amo_window.proofs.Rising.{rises-tail, get_or-keys}
use Rattle.amo_window.specs.Timers.{CanBeTimed}
use Rattle.amo_world.specs.Stream.{IsStream}
use Rattle.amo_object.specs.declared.step.End.{End}
use Rattle.amo_object.specs.declared.step.End.TheVariants.{Sender, Receiver}
use Rattle.amo_book.specs.Book.{first_mode}
use Rattle.amo_book.specs.Charge.{ChargeState}
use Rattle.amo_host.specs.declared.agenda.StreamMode.{StreamMode}
use Rattle.amo_host.specs.Charges.{IsAtRest, stream_mode_of}
use Rattle.amo_host.specs.Host.{streams_of}
use Rattle.amo_host.specs.Modes.{is_open}
use Rattle.amo_book.specs.Book.{Each}

module _ {X : Type 0} (P : X → Type 0) where
  -- what holds of each holds of the one in a place
  pub each_at : (xs : List X) (i : ℕ) (x : X) → Each P xs → slice_get xs i ≡ Some x → P x
  each_at [] i x all at = absurd (cc)
  each_at (y ∷ xs) zero x all at = subst P (same_Some y x at) all.0
  each_at (y ∷ xs) (suc i) x all at = each_at xs i x all.1 at

  -- and still does after a change that keeps it
  pub each_set : (xs : List X) (i : ℕ) (x : X) → Each P xs → P x → Each P (set xs i x)
  each_set [] i x all new = all
  each_set (y ∷ xs) zero x all new = (new, all.1)
  each_set (y ∷ xs) (suc i) x all new = (all.0, each_set xs i x all.1 new)

  -- what holds of the one in each place holds of each
  pub each_from : (xs : List X) → ((i : ℕ) (x : X) → slice_get xs i ≡ Some x → P x) → Each P xs
  each_from [] at = tt
  each_from (x ∷ xs) at = (at 0 x refl, each_from xs (λ i y found. at (suc i) y found))

  -- one more at the end
  pub each_push : (xs : List X) (x : X) → Each P xs → P x → Each P (xs ++ x ∷ [])
  each_push [] x all new = (new, tt)
  each_push (y ∷ xs) x all new = (all.0, each_push xs x all.1 new)

-- what a look at each element and the next one says of their keys
pub rises_by : {X : Type 0} (key : X → ℕ) (xs : List X) (r : Bool) → IsAllAdjacentAnswer (λ x y b. b ≡ ltb (key x) (key y)) xs r → IsTrue r ↔ IsStrictlyIncreasing (map key xs)
rises_by {X} key [] true all = (λ _ k within. absurd (omega arith), λ _. refl)
rises_by {X} key (x ∷ xs) true all = (
  λ _ k within.
      let inside : k + 1 < length (x ∷ xs) = omega (arith, length-map (x ∷ xs) key) in
      let first = get_or-keys key (x ∷ xs) k x 0 (omega arith) in
      let second = get_or-keys key (x ∷ xs) (k + 1) x 0 inside in
      let less = ltb-true _ _ (sym (all k x inside)) in
      omega (arith, first, second, less),
  λ _. refl,
)
rises_by {X} key [] false (k, within, falls) = absurd (omega arith)
rises_by {X} key (x ∷ xs) false (k, within, falls) = (
  λ no. absurd (cc no),
  λ rising.
      let first = get_or-keys key (x ∷ xs) k x 0 (omega arith) in
      let second = get_or-keys key (x ∷ xs) (k + 1) x 0 within in
      let up = rising k (omega (arith, length-map (x ∷ xs) key)) in
      absurd (grind (arith, nat_tests, falls x, first, second, up)),
)

-- streams that rise are at most as many as a host has
few_streams : (x : ℕ) (xs : List ℕ) → IsStrictlyIncreasing (x ∷ xs) → Each IsStream (x ∷ xs) → length (x ∷ xs) + x ≤ 257
few_streams x [] rising all = omega (arith, all.0.1)
few_streams x (y ∷ xs) rising all = omega (arith, few_streams y xs (rises-tail x (y ∷ xs) rising) all.1, rising 0 (omega arith))

pub timed_streams : (xs : List ℕ) → IsStrictlyIncreasing xs → Each IsStream xs → CanBeTimed xs
timed_streams [] rising all = record { few = omega arith; rising = rising }
timed_streams (x ∷ xs) rising all = record { few = omega (arith, few_streams x xs rising all); rising = rising }

-- no handshake is open at rest
rests : (side : End) → is_open (first_mode side) ≡ false
rests Sender = refl
rests Receiver = refl

pub all_rest : (cs : List ChargeState) → Each IsAtRest cs → (i : ℕ) (m : StreamMode) → slice_get (map stream_mode_of cs) i ≡ Some m → is_open m.mode ≡ false
all_rest [] all i m at = absurd (cc)
all_rest (c ∷ cs) all zero m at = ap (λ (x : StreamMode). is_open x.mode) (sym (same_Some (stream_mode_of c) m at)) ∙ ap is_open all.0 ∙ rests c.side
all_rest (c ∷ cs) all (suc i) m at = all_rest cs all.1 i m at

-- the streams of what a host knows of charges
pub streams_known : (cs : List ChargeState) → streams_of (map stream_mode_of cs) ≡ map (λ c. c.stream) cs
streams_known [] = refl
streams_known (c ∷ cs) = ap (λ rest. c.stream ∷ rest) (streams_known cs)
