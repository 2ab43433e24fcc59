-- How many lines end in a text, and how it grows by a piece.
use Rattle.std.proofs.Common.{◌≡◌, ◌≢◌, inl, inr, ℕ, ◌+◌, ◌-◌, ◌≤◌, List, [], ◌∷◌, ◌++◌, length, take, drop, nat_eq, refl, sym, ◌∙◌, ap, arith, length-append, cond}
use Rattle.std.proofs.lemmas.List.{append-nil, length-drop}
use Rattle.std.proofs.lemmas.List.Sums.{sum_by-append, sum_by-take-drop, count_by-le-length}
use Rattle.std.proofs.Math.Seq.{drop-append_seam, take-append_seam, take-length}
use Rattle.amo_journal.proofs.Further.{one_before}
use Rattle.amo_pieces.specs.Journal.{IsWhole}
use Rattle.amo_pieces.specs.Text.{Joins, begins, adds_nothing, goes_on, of_another, torn}
use Rattle.amo_pieces.specs.Places.{ends_in}

pub ends_append : (x y : List ℕ) → ends_in (x ++ y) ≡ ends_in x + ends_in y
ends_append x y = sum_by-append (λ b. cond (nat_eq 10 b) 1 0) x y

pub ends_few : (text : List ℕ) → ends_in text ≤ length text
ends_few text = count_by-le-length (nat_eq 10) text

-- a text of whole lines has an end
some_ends : (text : List ℕ) → text ≢ [] → IsWhole text → 1 ≤ ends_in text
some_ends text some (inl none) = absurd (some none)
some_ends text some (inr (front, e)) = let both = ap ends_in e ∙ ends_append front (10 ∷ []) in omega (arith, both)

-- a text only grows
pub record Grown (front text : List ℕ) : Type 0 where
  pub more : List ℕ
  pub is : text ≡ front ++ more

pub grown : (front piece text : List ℕ) (left_out : ℕ) → Joins front piece text left_out → Grown front text
grown front piece text left_out (begins none is out) = record { more = piece; is = is ∙ rw none refl }
grown front piece text left_out (adds_nothing none is out) = record { more = []; is = is ∙ sym (append-nil front) }
grown front piece text left_out (goes_on version body behind some whole ours theirs is out) = record { more = behind; is = is }
grown front piece text left_out (of_another version another body behind some whole ours theirs apart bytes is out) = record { more = take 1 piece; is = is }
grown front piece text left_out (torn cut is out) = record { more = []; is = is ∙ sym (append-nil front) }

-- the text is in front of what it grew to
pub front_grown : (front text : List ℕ) → Grown front text → take (length front) text ≡ front
front_grown front text more = ap (λ (t : List ℕ). take (length front) t) more.is ∙ take-append_seam front more.more

-- the ends of a text that were counted, and the others
pub ends_on : (text slice : List ℕ) (counted ends others : ℕ) → slice ≡ text → counted ≤ length text → ends ≡ ends_in (take counted text) → others ≡ ends_in (take (length slice - counted) (drop counted slice)) → ends + others ≡ ends_in text
ends_on text slice counted ends others is few were are =
    let both = sum_by-take-drop (λ b. cond (nat_eq 10 b) 1 0) text counted in
    let all : take (length text - counted) (drop counted text) ≡ drop counted text =
    ap (λ (n : ℕ). take n (drop counted text)) (let count = length-drop counted text in let n : length text - counted ≡ length (drop counted text) = omega (arith, count) in n) ∙ take-length (drop counted text) in
    let others_are : others ≡ ends_in (drop counted text) = are ∙ (ap (λ (l : List ℕ). ends_in (take (length l - counted) (drop counted l))) is ∙ ap (λ (l : List ℕ). ends_in l) all) in
    omega (arith, were, others_are, both)

pub long_grown : (front text : List ℕ) → Grown front text → length front ≤ length text
long_grown front text more = let long = ap length more.is ∙ length-append front more.more in omega (arith, long)

-- lines that are left out end in front
pub few_out : (front piece text : List ℕ) (left_out : ℕ) → Joins front piece text left_out → left_out ≤ ends_in front
few_out front piece text left_out (begins none is out) = omega (arith, out)
few_out front piece text left_out (adds_nothing none is out) = omega (arith, out)
few_out front piece text left_out (goes_on version body behind some whole ours theirs is out) = let one = one_before version in let end = some_ends front some whole in omega (arith, out, one, end)
few_out front piece text left_out (of_another version another body behind some whole ours theirs apart bytes is out) = omega (arith, out)
few_out front piece text left_out (torn cut is out) = omega (arith, out)
