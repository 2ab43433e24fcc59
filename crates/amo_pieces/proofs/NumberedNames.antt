-- Numbers with zeros in front.
use Rattle.std.proofs.Common.{◌≡◌, ◌≢◌, Bool, true, false, eqb, Option, Some, None, IfSome, ℕ, suc, zero, ◌-◌, ◌<◌, ◌^◌, List, [], ◌∷◌, ◌++◌, length, get_or, take, drop, replicate, refl, sym, ◌∙◌, ap, arith, length-append}
use Rattle.std.proofs.lemmas.List.{length-replicate, take_rest}
use Rattle.std.proofs.lemmas.Fmt.{first_decimal, decimal_digit}
use Rattle.std.proofs.lemmas.Bool.Decides.{Decides-eqb}
use Rattle.std.proofs.lemmas.Slice.Eq.{starts_is}
use Rattle.std.specs.List.{starts_with}
use Rattle.std.specs.Fmt.{decimal}
use Rattle.amo_pieces.specs.Names.{padded, LacksZero}

-- of a number above 0 the first digit is no zero
lacks_zero : (n : ℕ) → 0 < n → n < 2 ^ 64 → LacksZero (decimal n)
lacks_zero n some small more e = let first = first_decimal n some small in let here : get_or (decimal n) 0 0 ≡ 48 = ap (λ (t : List ℕ). get_or t 0 0) e in omega (arith, first, here)

-- zeros end in one place
same_behind : (j k : ℕ) (x y : List ℕ) → LacksZero x → LacksZero y → replicate j 48 ++ x ≡ replicate k 48 ++ y → x ≡ y
same_behind zero zero x y p q e = e
same_behind zero (suc k) x y p q e = absurd (p (replicate k 48 ++ y) e)
same_behind (suc j) zero x y p q e = absurd (q (replicate j 48 ++ x) (sym e))
same_behind (suc j) (suc k) x y p q e = let tail : replicate j 48 ++ x ≡ replicate k 48 ++ y = cc in same_behind j k x y p q tail

-- what is read behind zeros
pub padded_six : (digits rest : List ℕ) (zeros n : ℕ) → length digits ≡ 6 → digits ≡ replicate zeros 48 ++ rest → LacksZero rest → n < 2 ^ 64 → rest ≡ decimal n → (0 < n) × (n < 2 ^ 64) × (digits ≡ padded n)
padded_six digits rest zeros n six zeros_in_front lacks small is =
    let long = ap length zeros_in_front ∙ length-append (replicate zeros 48) rest in
    let count = length-replicate {A = ℕ} zeros 48 in
    let short = ap length is in
    let same : zeros ≡ 6 - length (decimal n) = omega (arith, six, long, count, short) in
    (above n lacks is, small, zeros_in_front ∙ ap (λ k. replicate k 48 ++ rest) same ∙ ap (λ (t : List ℕ). replicate (6 - length (decimal n)) 48 ++ t) is)
  where
    above : (n : ℕ) → LacksZero rest → rest ≡ decimal n → 0 < n
    above zero lacks is = absurd (lacks [] (is ∙ decimal_digit 0 (omega arith)))
    above (suc n) lacks is = omega arith

pub padded_more : (digits : List ℕ) (n : ℕ) → 6 < length digits → n < 2 ^ 64 → digits ≡ decimal n → (0 < n) × (n < 2 ^ 64) × (digits ≡ padded n)
padded_more digits n more small is =
    let long = ap length is in
    let none : 6 - length (decimal n) ≡ 0 = omega (arith, more, long) in
    (above n is, small, is ∙ ap (λ k. replicate k 48 ++ decimal n) (sym none))
  where
    above : (n : ℕ) → digits ≡ decimal n → 0 < n
    above zero is = absurd (let one = ap length (is ∙ decimal_digit 0 (omega arith)) in let no : ⊥ = omega (arith, more, one) in no)
    above (suc n) is = omega arith

-- and what is not
pub none_six : (digits rest : List ℕ) (zeros : ℕ) → digits ≡ replicate zeros 48 ++ rest → LacksZero rest → ((n : ℕ) → n < 2 ^ 64 → rest ≢ decimal n) → (n : ℕ) → 0 < n → n < 2 ^ 64 → digits ≢ padded n
none_six digits rest zeros zeros_in_front lacks none n some small is =
    none n small (same_behind zeros (6 - length (decimal n)) rest (decimal n) lacks (lacks_zero n some small) (sym zeros_in_front ∙ is))

pub none_more : (digits : List ℕ) → 6 < length digits → ((n : ℕ) → n < 2 ^ 64 → digits ≢ decimal n) → (n : ℕ) → 0 < n → n < 2 ^ 64 → digits ≢ padded n
none_more digits more none n some small is =
    let long = ap length is ∙ length-append (replicate (6 - length (decimal n)) 48) (decimal n) in
    let count = length-replicate {A = ℕ} (6 - length (decimal n)) 48 in
    let nothing : 6 - length (decimal n) ≡ 0 = omega (arith, more, long, count) in
    none n small (is ∙ ap (λ k. replicate k 48 ++ decimal n) nothing)

pub none_few : (digits : List ℕ) → length digits < 6 → (n : ℕ) → digits ≢ padded n
none_few digits few n is =
    let long = ap length is ∙ length-append (replicate (6 - length (decimal n)) 48) (decimal n) in
    let count = length-replicate {A = ℕ} (6 - length (decimal n)) 48 in
    omega (arith, few, long, count)

-- what begins so, and what does not
pub begun : (front text : List ℕ) (told : Bool) → told ≡ starts_with eqb text front → told ≡ true → text ≡ front ++ drop (length front) text
begun front text told is met = (starts_is Decides-eqb text front told is).0 met

pub not_begun : (front text : List ℕ) (told : Bool) → told ≡ starts_with eqb text front → told ≡ false → (more : List ℕ) → text ≢ front ++ more
not_begun front text told is unmet more e = let met : told ≡ true = (starts_is Decides-eqb text front told is).1 more e in let both : true ≡ false = sym met ∙ unmet in cc

-- what stands behind the first byte, as the code takes it
pub rest_of : (b : ℕ) (text : List ℕ) → text ≡ b ∷ drop 1 text → text ≡ b ∷ take (length text - 1) (drop 1 text)
rest_of b text e = e ∙ ap (λ (t : List ℕ). b ∷ t) (sym (take_rest text 1))

-- one zero more
pub one_zero : (digits text : List ℕ) (zeros : ℕ) → digits ≡ replicate zeros 48 ++ text → text ≡ 48 ∷ drop 1 text → digits ≡ replicate (suc zeros) 48 ++ take (length text - 1) (drop 1 text)
one_zero digits text zeros so_far e = so_far ∙ ap (λ (t : List ℕ). replicate zeros 48 ++ t) (rest_of 48 text e) ∙ shift zeros (take (length text - 1) (drop 1 text))
  where
    shift : (zeros : ℕ) (more : List ℕ) → replicate zeros 48 ++ 48 ∷ more ≡ 48 ∷ (replicate zeros 48 ++ more)
    shift zero more = refl
    shift (suc zeros) more = ap (λ (t : List ℕ). 48 ∷ t) (shift zeros more)

pub some_from : {X : Type 0} (o : Option X) (P Q R : X → Type 0) → ((x : X) → P x → Q x → R x) → IfSome o P → IfSome o Q → IfSome o R
some_from None P Q R f p q = tt
some_from (Some x) P Q R f p q = f x p q

-- what stands behind a name and a dot
pub same_rest : (name x y : List ℕ) → name ++ 46 ∷ x ≡ name ++ 46 ∷ y → x ≡ y
same_rest [] x y e = cc
same_rest (b ∷ name) x y e = let tail : name ++ 46 ∷ x ≡ name ++ 46 ∷ y = cc in same_rest name x y tail
