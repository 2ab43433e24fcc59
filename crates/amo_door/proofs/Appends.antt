-- Texts behind each other.
use Rattle.std.proofs.Common.{◌≡◌, ℕ, ◌+◌, ◌<◌, ◌≤◌, ◌++◌, List, Result, Ok, Err, ◌∙◌, ap, sym, append_assoc, get_or, length, take}
use Rattle.std.specs.Prelude.{OnOk, if◌then◌else◌, is_ok}
use Rattle.std.specs.List.{flat_map}
use Rattle.std.proofs.lemmas.List.{flat_map_more, take_all, take_more}
use Rattle.std.proofs.lemmas.Result.{IfOk-equal}

-- the last of two texts was appended to what had the other
pub two : {T E : Type 0} → (r : Result T E) (start first second a end : List ℕ) → a ≡ start ++ first → OnOk r (end ≡ a ++ second) → OnOk r (end ≡ start ++ (first ++ second))
two r start first second a end one last =
    IfOk-equal r end (a ++ second) (start ++ (first ++ second)) last (ap (λ (text : List ℕ). text ++ second) one ∙ append_assoc start first second)

-- the last of three texts was appended to what had the others
pub three : {T E : Type 0} → (r : Result T E) (start first second third a b end : List ℕ) → a ≡ start ++ first → b ≡ a ++ second → OnOk r (end ≡ b ++ third)
    → OnOk r (end ≡ start ++ ((first ++ second) ++ third))
three r start first second third a b end one then_two last =
    two r start (first ++ second) third b end (then_two ∙ (ap (λ (text : List ℕ). text ++ second) one ∙ append_assoc start first second)) last

-- what a call appended that appends all or nothing
pub appended : {T E : Type 0} → (r : Result T E) (start last end : List ℕ) → end ≡ (if is_ok r then start ++ last else start) → OnOk r (end ≡ start ++ last)
appended (Ok done) start last end is = is
appended (Err fault) start last end is = tt

-- such a call appended the last of four texts to what had the others, of which the two in the middle belong together
pub around : {T E : Type 0} → (r : Result T E) (start front comma members last a b d end : List ℕ) → a ≡ start ++ front → b ≡ a ++ comma → d ≡ b ++ members → end ≡ (if is_ok r then d ++ last else d)
    → OnOk r (end ≡ start ++ ((front ++ (comma ++ members)) ++ last))
around r start front comma members last a b d end one then_two then_three ends =
    three r start front (comma ++ members) last a d end one (then_three ∙ (ap (λ (text : List ℕ). text ++ members) then_two ∙ append_assoc a comma members)) (appended r d last end ends)

-- what each item so far gives was appended, and what one more gives
pub each_more : {X : Type 0} (f : X → List ℕ) (start all end : List ℕ) (items : List X) (i : ℕ) (none : X) → i < length items → all ≡ start ++ flat_map f (take i items) → end ≡ all ++ f (get_or items i none)
    → end ≡ start ++ flat_map f (take (i + 1) items)
each_more {X = X} f start all end items i none within is ends =
    ends ∙ (ap (λ (text : List ℕ). text ++ f (get_or items i none)) is
    ∙ (flat_map_more f start (take i items) (get_or items i none) ∙ ap (λ (some : List X). start ++ flat_map f some) (sym (take_more items i none within))))

-- what each item gives was appended
pub each_all : {X : Type 0} (f : X → List ℕ) (start all : List ℕ) (items : List X) (i : ℕ) → length items ≤ i → all ≡ start ++ flat_map f (take i items) → all ≡ start ++ flat_map f items
each_all {X = X} f start all items i past is = is ∙ ap (λ (some : List X). start ++ flat_map f some) (take_all i items past)
