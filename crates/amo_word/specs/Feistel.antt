-- A balanced Feistel network over numbers of 64 bits: a bijection, whatever its round functions are.
use Rattle.std.specs.Prelude.{ℕ, zero, suc, ◌+◌, ◌*◌, ◌/◌, ◌%◌, ◌^◌, bit_xor}

-- the halves of a number, the upper one first, and the number of two halves
abbrev pub halves_of : ℕ → ℕ × ℕ
halves_of n = (n / 2 ^ 32, n % 2 ^ 32)

abbrev pub number_of : ℕ × ℕ → ℕ
number_of (left, right) = left * 2 ^ 32 + right

-- a round with the function f, and what undoes it: the halves change places, and one of them is masked by what f gives for the other
abbrev pub round : (ℕ → ℕ) → ℕ × ℕ → ℕ × ℕ
round f (left, right) = (right, bit_xor left (f right))

abbrev pub unround : (ℕ → ℕ) → ℕ × ℕ → ℕ × ℕ
unround f (left, right) = (bit_xor right (f left), left)

-- the rounds 0, 1, .. below k, of which round n has the function f n, and what undoes them
abbrev pub rounds : (ℕ → ℕ → ℕ) → ℕ → ℕ × ℕ → ℕ × ℕ
rounds f zero halves = halves
rounds f (suc n) halves = round (f n) (rounds f n halves)

abbrev pub unrounds : (ℕ → ℕ → ℕ) → ℕ → ℕ × ℕ → ℕ × ℕ
unrounds f zero halves = halves
unrounds f (suc n) halves = unrounds f n (unround (f n) halves)

-- a number after k rounds, and the number that it was before them
unfoldable pub network : (ℕ → ℕ → ℕ) → ℕ → ℕ → ℕ
network f k n = number_of (rounds f k (halves_of n))

unfoldable pub inverse_network : (ℕ → ℕ → ℕ) → ℕ → ℕ → ℕ
inverse_network f k n = number_of (unrounds f k (halves_of n))
