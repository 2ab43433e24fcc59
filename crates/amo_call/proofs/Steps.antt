-- Texts that begin alike go on alike.
use Rattle.std.proofs.Common.{◌≡◌, ℕ, List, ◌∷◌, ◌++◌, codes, sym, ◌∙◌, ap, subst, append_assoc}
use Rattle.std.specs.Prelude.{Option, None, Some, IfNone, IfSome}
use Rattle.std.proofs.lemmas.List.{append_cancel_left}

-- texts, put together from the left and from the right
pub place_regroup : (o l v q s d n e r : List ℕ) → o ++ (l ++ v ++ q ++ s ++ d) ++ n ++ e ++ r ≡ (o ++ l) ++ (v ++ (q ++ (s ++ (d ++ (n ++ (e ++ r))))))
place_regroup o l v q s d n e r = simp append_assoc

pub event_regroup : (p d l e b : List ℕ) → p ++ d ++ l ++ e ++ b ≡ p ++ (d ++ (l ++ (e ++ b)))
event_regroup p d l e b = simp append_assoc

pub outcome_regroup : (place o f e : List ℕ) → place ++ o ++ f ++ e ≡ place ++ (o ++ f ++ e)
outcome_regroup place o f e = simp append_assoc

pub state_regroup : (l v q s d n m c r : List ℕ) → l ++ v ++ q ++ s ++ d ++ n ++ m ++ c ++ r ≡ l ++ (v ++ (q ++ (s ++ (d ++ (n ++ (m ++ (c ++ r)))))))
state_regroup l v q s d n m c r = simp append_assoc

pub object_regroup : (o l v q s d n m c r : List ℕ) → o ++ (l ++ v ++ q ++ s ++ d ++ n ++ m ++ c) ++ r ≡ (o ++ l) ++ (v ++ (q ++ (s ++ (d ++ (n ++ (m ++ (c ++ r)))))))
object_regroup o l v q s d n m c r = simp append_assoc

pub conflict_regroup : (a t k l v q s d n m c r : List ℕ) → a ++ t ++ k ++ (l ++ v ++ q ++ s ++ d ++ n ++ m ++ c) ++ r
    ≡ a ++ (t ++ ((k ++ l) ++ (v ++ (q ++ (s ++ (d ++ (n ++ (m ++ (c ++ r)))))))))
conflict_regroup a t k l v q s d n m c r = simp append_assoc

pub two_regroup : (a b c : List ℕ) → a ++ b ++ c ≡ a ++ (b ++ c)
two_regroup a b c = append_assoc a b c

pub three_regroup : (a b c d : List ℕ) → a ++ b ++ c ++ d ≡ a ++ (b ++ (c ++ d))
three_regroup a b c d = simp append_assoc

pub claim_regroup : (d s n v b r : List ℕ) → d ++ s ++ n ++ s ++ v ++ s ++ b ++ r ≡ d ++ (s ++ (n ++ (s ++ (v ++ (s ++ (b ++ r))))))
claim_regroup d s n v b r = simp append_assoc

pub kept_regroup : (a n s c t e : List ℕ) → (a ++ n ++ s) ++ c ++ (s ++ t ++ e) ≡ a ++ (n ++ (s ++ (c ++ (s ++ (t ++ e)))))
kept_regroup a n s c t e = simp append_assoc

pub line_regroup : (n s c t e : List ℕ) → n ++ (s ++ (c ++ (s ++ (t ++ e)))) ≡ (n ++ (s ++ (c ++ (s ++ t)))) ++ e
line_regroup n s c t e = simp append_assoc

pub sender_regroup : (o m p d c w x l v e : List ℕ) → o ++ (m ++ (p ++ d ++ (c ++ w) ++ x) ++ l ++ v) ++ e ≡ o ++ (m ++ p ++ d ++ c) ++ (w ++ x ++ l ++ v ++ e)
sender_regroup o m p d c w x l v e = simp append_assoc

pub receiver_regroup : (o m p d c w v e : List ℕ) → o ++ (m ++ p ++ d ++ (c ++ w) ++ v) ++ e ≡ o ++ (m ++ p ++ d ++ c) ++ (w ++ v ++ e)
receiver_regroup o m p d c w v e = simp append_assoc

pub refusal_regroup : (a w k t q m e : List ℕ) → (a ++ w ++ (k ++ t) ++ q) ++ m ++ e ≡ a ++ w ++ k ++ (t ++ q ++ m ++ e)
refusal_regroup a w k t q m e = simp append_assoc

pub put_regroup : (place p d l e b : List ℕ) → place ++ p ++ d ++ l ++ e ++ b ≡ place ++ (p ++ d ++ l ++ e ++ b)
put_regroup place p d l e b = simp append_assoc

pub IfNone-weaker : {A : Type 0} (r : Option A) (P Q : Type 0) → (P → Q) → IfNone r P → IfNone r Q
IfNone-weaker None P Q f none = f none
IfNone-weaker (Some x) P Q f none = tt

pub left : (text front x y : List ℕ) → text ≡ front ++ x → text ≡ front ++ y → x ≡ y
left text front x y found e = append_cancel_left front x y (sym found ∙ e)

-- behind a front, a life and a quote
pub left_of_life : (text front life x y : List ℕ) → text ≡ front ++ (life ++ 34 ∷ x) → text ≡ front ++ (life ++ 34 ∷ y) → x ≡ y
left_of_life text front life x y found e =
    let words = left text front (life ++ 34 ∷ x) (life ++ 34 ∷ y) found e in
    let quotes = append_cancel_left life (34 ∷ x) (34 ∷ y) words in
    append_cancel_left (codes "\"") x y quotes

-- behind a name of which the comma was taken
pub left_of_name : (rest front name x : List ℕ) → 44 ∷ front ≡ name → 44 ∷ rest ≡ name ++ x → rest ≡ front ++ x
left_of_name rest front name x is e = append_cancel_left (codes ",") rest (front ++ x) (e ∙ ap (λ n. n ++ x) (sym is))

pub name_of : (rest front name x : List ℕ) → 44 ∷ front ≡ name → rest ≡ front ++ x → 44 ∷ rest ≡ name ++ x
name_of rest front name x is found = ap (λ t. 44 ∷ t) found ∙ ap (λ n. n ++ x) is

pub IfSome-weaker : {A : Type 0} (r : Option A) (P Q : A → Type 0) → ((x : A) → P x → Q x) → IfSome r P → IfSome r Q
IfSome-weaker None P Q f some = tt
IfSome-weaker (Some x) P Q f some = f x some

pub at_none : {A : Type 0} (r : Option A) (P : Type 0) → r ≡ None → IfNone r P → P
at_none {A} r P e none = subst (λ (o : Option A). IfNone o P) e none
