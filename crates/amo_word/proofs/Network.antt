-- A Feistel network is a bijection, whatever its round functions are.
use Rattle.std.proofs.Common.{◌≡◌, ℕ, zero, suc, ◌%◌, ◌^◌, ◌<◌, refl, ap, ◌∙◌, bit_xor, lit<, arith}
use Rattle.std.specs.Int.Bits.{xor_assoc, xor_self, xor_zero_r}
use Rattle.std.proofs.lemmas.Nat.{xor_of_32, mod_low, shr_high, shr_below, mod_below, div-add-mod'}
use Rattle.amo_word.specs.Feistel.{halves_of, number_of, round, unround, rounds, unrounds, network, inverse_network}

-- what is masked twice is as before
unmasked : (a mask : ℕ) → bit_xor (bit_xor a mask) mask ≡ a
unmasked a mask = xor_assoc a mask mask ∙ ap (bit_xor a) (xor_self mask) ∙ xor_zero_r a

unround-round : (f : ℕ → ℕ) (h : ℕ × ℕ) → unround f (round f h) ≡ h
unround-round f h = ap (λ (left : ℕ). (left, h.1)) (unmasked h.0 (f h.1))

round-unround : (f : ℕ → ℕ) (h : ℕ × ℕ) → round f (unround f h) ≡ h
round-unround f h = ap (λ (right : ℕ). (h.0, right)) (unmasked h.1 (f h.0))

-- both halves have 32 bits
record AreHalves (h : ℕ × ℕ) : Type 0 where
  pub upper : h.0 < 2 ^ 32
  pub lower : h.1 < 2 ^ 32

-- a number and its halves
halves_fit : (n : ℕ) → n < 2 ^ 64 → AreHalves (halves_of n)
halves_fit n fits = record { upper = shr_below n 32 32 fits; lower = mod_below n (2 ^ 32) (lit< tt) }

number_fits : (h : ℕ × ℕ) → AreHalves h → number_of h < 2 ^ 64
number_fits h fits = let upper : h.0 < 2 ^ 32 = fits.upper in let lower : h.1 < 2 ^ 32 = fits.lower in omega arith

number_of-halves_of : (n : ℕ) → number_of (halves_of n) ≡ n
number_of-halves_of n = div-add-mod' n (2 ^ 32)

halves_of-number_of : (h : ℕ × ℕ) → AreHalves h → halves_of (number_of h) ≡ h
halves_of-number_of h fits =
    ap (λ (left : ℕ). (left, number_of h % 2 ^ 32)) (shr_high h.0 32 h.1 fits.lower)
    ∙ ap (λ (right : ℕ). (h.0, right)) (mod_low h.0 32 h.1 fits.lower)

-- the round functions f give numbers of 32 bits
abbrev pub AreBounded : (ℕ → ℕ → ℕ) → Type 0
AreBounded f = (n half : ℕ) → f n half < 2 ^ 32

module _ (f : ℕ → ℕ → ℕ) where
  unrounds-rounds : (k : ℕ) (h : ℕ × ℕ) → unrounds f k (rounds f k h) ≡ h
  unrounds-rounds zero h = refl
  unrounds-rounds (suc k) h = ap (unrounds f k) (unround-round (f k) (rounds f k h)) ∙ unrounds-rounds k h

  rounds-unrounds : (k : ℕ) (h : ℕ × ℕ) → rounds f k (unrounds f k h) ≡ h
  rounds-unrounds zero h = refl
  rounds-unrounds (suc k) h = ap (round (f k)) (rounds-unrounds k (unround (f k) h)) ∙ round-unround (f k) h

  module _ (bounded : AreBounded f) where
    rounds_fit : (k : ℕ) (h : ℕ × ℕ) → AreHalves h → AreHalves (rounds f k h)
    rounds_fit zero h fits = fits
    rounds_fit (suc k) h fits =
        let before = rounds_fit k h fits in
        record { upper = before.lower; lower = xor_of_32 _ _ before.upper (bounded k (rounds f k h).1) }

    unrounds_fit : (k : ℕ) (h : ℕ × ℕ) → AreHalves h → AreHalves (unrounds f k h)
    unrounds_fit zero h fits = fits
    unrounds_fit (suc k) h fits =
        unrounds_fit k (unround (f k) h) (record { upper = xor_of_32 _ _ fits.lower (bounded k h.0); lower = fits.upper })

    pub network_fits : (k n : ℕ) → n < 2 ^ 64 → network f k n < 2 ^ 64
    unfolding network
    network_fits k n fits = number_fits (rounds f k (halves_of n)) (rounds_fit k (halves_of n) (halves_fit n fits))

    pub inverse_network_fits : (k n : ℕ) → n < 2 ^ 64 → inverse_network f k n < 2 ^ 64
    unfolding inverse_network
    inverse_network_fits k n fits = number_fits (unrounds f k (halves_of n)) (unrounds_fit k (halves_of n) (halves_fit n fits))

    pub inverse_network-network : (k n : ℕ) → n < 2 ^ 64 → inverse_network f k (network f k n) ≡ n
    unfolding network inverse_network
    inverse_network-network k n fits =
        let same = halves_of-number_of (rounds f k (halves_of n)) (rounds_fit k (halves_of n) (halves_fit n fits)) in
        ap (λ (h : ℕ × ℕ). number_of (unrounds f k h)) same ∙ ap number_of (unrounds-rounds k (halves_of n)) ∙ number_of-halves_of n

    pub network-inverse_network : (k n : ℕ) → n < 2 ^ 64 → network f k (inverse_network f k n) ≡ n
    unfolding network inverse_network
    network-inverse_network k n fits =
        let same = halves_of-number_of (unrounds f k (halves_of n)) (unrounds_fit k (halves_of n) (halves_fit n fits)) in
        ap (λ (h : ℕ × ℕ). number_of (rounds f k h)) same ∙ ap number_of (rounds-unrounds k (halves_of n)) ∙ number_of-halves_of n
