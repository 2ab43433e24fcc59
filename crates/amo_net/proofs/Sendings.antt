-- What the words of a channel do to the datagrams of one direction.
use Rattle.std.proofs.Common.{◌≡◌, ℕ, zero, suc, ◌+◌, ◌<◌, ◌≤◌, ◌%◌, List, [], ◌∷◌, ◌++◌, length, take, drop, replicate, refl, ap, ◌∙◌, sym, subst, arith, append_assoc, length-append}
use Rattle.std.proofs.lemmas.List.{append-nil, take_all, length-replicate}
use Rattle.std.proofs.Math.Nat.{zero-mod}
use Rattle.std.specs.Prelude.{remove, slice_get, Some}
use Rattle.amo_net.specs.Lossy.{Takes, copies_of, queued_copies, sent}
use Rattle.amo_net.specs.declared.direction.TheConstants.{MAX_QUEUED}
use Rattle.amo_net.specs.declared.link.TheConstants.{MAX_DATAGRAM}

-- so many copies go last
pub sent_copies : (w n : ℕ) (b : List ℕ) (q : List (List ℕ)) → queued_copies w q ≡ n → sent w b q ≡ q ++ replicate n (take MAX_DATAGRAM b)
sent_copies w n b q is = ap (λ (k : ℕ). q ++ replicate k (take MAX_DATAGRAM b)) is

pub sent_nothing : (w : ℕ) (b : List ℕ) (q : List (List ℕ)) → queued_copies w q ≡ 0 → sent w b q ≡ q
sent_nothing w b q none = sent_copies w 0 b q none ∙ append-nil q

pub sent_whole : (w n : ℕ) (b : List ℕ) (q : List (List ℕ)) → queued_copies w q ≡ n → length b ≤ MAX_DATAGRAM → sent w b q ≡ q ++ replicate n b
sent_whole w n b q is short = sent_copies w n b q is ∙ ap (λ (d : List ℕ). q ++ replicate n d) (take_all MAX_DATAGRAM b short)

-- at a remainder of 2 or more there is one copy
pub one_copy : (r : ℕ) → 2 ≤ r → copies_of r ≡ 1
one_copy zero low = absurd (omega arith)
one_copy (suc zero) low = absurd (omega arith)
one_copy (suc (suc r)) low = refl

pub queued_for : (w n : ℕ) (q : List (List ℕ)) → copies_of (w % 8) ≡ n → length q + n ≤ MAX_QUEUED → queued_copies w q ≡ n
queued_for w n q is room = omega arith

copies_most : (r : ℕ) → copies_of r ≤ 2
copies_most zero = omega arith
copies_most (suc zero) = omega arith
copies_most (suc (suc r)) = omega arith

-- one copy was queued, or two
pub queued_one : (w n : ℕ) (b : List ℕ) (q r : List (List ℕ)) → n ≡ queued_copies w q → n ≡ 1 → length b ≤ MAX_DATAGRAM → r ≡ q ++ b ∷ [] → r ≡ sent w b q
queued_one w n b q r is one short new = new ∙ sym (sent_whole w 1 b q (sym is ∙ one) short)

pub queued_two : (w n : ℕ) (b : List ℕ) (q r s : List (List ℕ)) → n ≡ queued_copies w q → 2 ≤ n → length b ≤ MAX_DATAGRAM → r ≡ q ++ b ∷ [] → s ≡ r ++ b ∷ [] → s ≡ sent w b q
queued_two w n b q r s is more short new newer =
    let most = copies_most (w % 8) in
    let two : queued_copies w q ≡ 2 = omega arith in
    newer ∙ (ap (λ (l : List (List ℕ)). l ++ b ∷ []) new ∙ (append_assoc q (b ∷ []) (b ∷ []) ∙ sym (sent_whole w 2 b q two short)))

pub sent_lost : (w : ℕ) (b : List ℕ) (q : List (List ℕ)) → w % 8 ≡ 0 → sent w b q ≡ q
sent_lost w b q lost = let none : copies_of (w % 8) ≡ 0 = ap copies_of lost in let no : queued_copies w q ≡ 0 = omega arith in sent_nothing w b q no

pub sent_twice : (w : ℕ) (b : List ℕ) (q : List (List ℕ)) → w % 8 ≡ 1 → length b ≤ MAX_DATAGRAM → length q + 2 ≤ MAX_QUEUED → sent w b q ≡ q ++ b ∷ b ∷ []
sent_twice w b q twice short room = sent_whole w 2 b q (queued_for w 2 q (ap copies_of twice) room) short

pub sent_once : (w : ℕ) (b : List ℕ) (q : List (List ℕ)) → 2 ≤ w % 8 → length b ≤ MAX_DATAGRAM → length q < MAX_QUEUED → sent w b q ≡ q ++ b ∷ []
sent_once w b q once short room = let one : length q + 1 ≤ MAX_QUEUED = omega arith in sent_whole w 1 b q (queued_for w 1 q (one_copy (w % 8) once) one) short

pub sent_full : (w : ℕ) (b : List ℕ) (q : List (List ℕ)) → length q ≡ MAX_QUEUED → sent w b q ≡ q
sent_full w b q full = let no : queued_copies w q ≡ 0 = omega arith in sent_nothing w b q no

pub length-sent : (w : ℕ) (b : List ℕ) (q : List (List ℕ)) → length q ≤ MAX_QUEUED → length (sent w b q) ≤ MAX_QUEUED
length-sent w b q most =
    let copied : List (List ℕ) = replicate (queued_copies w q) (take MAX_DATAGRAM b) in
    let joined : length (sent w b q) ≡ length q + length copied = length-append q copied in
    let many : length copied ≡ queued_copies w q = length-replicate (queued_copies w q) (take MAX_DATAGRAM b) in
    omega arith

-- the place of the word 0 is the first
pub taken_first : (first before after : List ℕ) (rest new : List (List ℕ)) (count : ℕ) → Takes 0 (first ∷ rest) new before after count
    → (new ≡ rest) × (after ≡ first ++ drop count before) × (count ≡ length first)
taken_first first before after rest new count took =
    let place : 0 % length (first ∷ rest) ≡ 0 = zero-mod (length (first ∷ rest)) in
    let there : slice_get (first ∷ rest) 0 ≡ Some took.datagram = subst (λ (i : ℕ). slice_get (first ∷ rest) i ≡ Some took.datagram) place took.there in
    let is : first ≡ took.datagram = search there in
    let left : new ≡ remove (first ∷ rest) 0 = subst (λ (i : ℕ). new ≡ remove (first ∷ rest) i) place took.rest in
    (left, took.front ∙ ap (λ (d : List ℕ). d ++ drop count before) (sym is), took.long ∙ ap (λ (d : List ℕ). length d) (sym is))
