-- What waits is lost but for a part of the messages got, from the end on.
use denote.Enum.Bare.{sameb}
use Rattle.std.proofs.Common.{◌≡◌, ◌↔◌, ℕ, zero, suc, ◌+◌, ◌-◌, ◌<◌, ◌≤◌, ◌==◌, ◌||◌, ◌⊎◌, Bool, true, false, not, if◌then◌else◌, List, [], ◌∷◌, ◌++◌, length, take, drop, remove, get_or, refl, sym, ◌∙◌, ap, subst, inl, inr, arith}
use Rattle.std.proofs.lemmas.Bool.{ne_eqb, cases_eq, cases_lt}
use Rattle.std.proofs.lemmas.List.{append-nil, length-append, drop-drop, drop_more, drop_all, take_all, get_or-drop, length-drop, length-take}
use Rattle.std.proofs.lemmas.List.Edits.{length-remove}
use Rattle.amo_object.specs.declared.status.Status.{Status}
use Rattle.amo_object.specs.contracts.status.Status.{the_type}
use Rattle.amo_object.specs.declared.status.Status.TheVariants.{Yes, No, Open}
use Rattle.amo_object.specs.declared.step.Step.TheVariants.{Lose, LoseAck}
use Rattle.amo_object.specs.Queue.{QueueState, Allows, after, settled}
use Rattle.amo_object.specs.Delivery.{IsSubsequence}
use Rattle.amo_resolve.specs.declared.draft.Draft.{Draft}
use Rattle.amo_resolve.specs.declared.replica.Replica.{Replica}
use Rattle.amo_resolve.specs.Plan.{last, Leaves}
use Rattle.amo_resolve.specs.Telling.{IsSound, Settles, part, state_of, state_before, known_of, Looked, IsNeeded, OnlyLost}
use Rattle.amo_resolve.specs.Weaving.{LeadsTo}
use Rattle.amo_resolve.proofs.Falls.{sound_after, last-remove, subsequence-remove}
use Rattle.amo_resolve.proofs.Lists.{part_more, whole_last, none_left, found, not_found, any_default}
use Rattle.amo_resolve.proofs.Runs.{lost_on, lost_then}
use Rattle.amo_resolve.proofs.Subsequences.{last-push, subsequence-of_nil, subsequence-refl, subsequence-trans, subsequence-before, subsequence-rest, length-subsequence, leaves-part}

-- of the messages from `place` on just those of the part from `left` on are there, and the others of the part are looked for before it
pub record Losing (q now : QueueState) (got : List (List ℕ)) (first end left place : ℕ) : Type 0 where
  pub within : place ≤ length now.messages
  pub from : first ≤ left
  pub most : left ≤ end
  pub less : IsSubsequence now.messages q.messages
  pub rest : drop place now.messages ≡ drop (left - first) (part got first end)
  pub same : IsSubsequence (part got first left) (take place now.messages) ↔ IsSubsequence (part got first end) q.messages
  pub sender : now.sender_down ≡ q.sender_down
  pub receiver : now.receiver_down ≡ q.receiver_down
  pub sound : IsSound q → IsSound now
  pub kept : last (part got first end) ≡ last q.messages → (now.status ≡ q.status) × (last now.messages ≡ last q.messages)

pub losing_start : (q : QueueState) (got : List (List ℕ)) (first end place : ℕ) → first ≤ end → place ≡ length q.messages → Losing q q got first end end place
losing_start q got first end place from is = record {
  within = omega (arith, is);
  from = from;
  most = omega arith;
  less = subsequence-refl q.messages;
  rest = drop_all place q.messages (omega (arith, is)) ∙ sym (drop_all (end - first) (part got first end) (omega (arith, length-take (end - first) (drop first got))));
  same = subst (λ (ms : List (List ℕ)). IsSubsequence (part got first end) ms ↔ IsSubsequence (part got first end) q.messages) (sym (take_all place q.messages (omega (arith, is)))) (λ part. part, λ part. part);
  sender = refl;
  receiver = refl;
  sound = λ sound. sound;
  kept = λ alike. (refl, refl);
}

both_ways : (A B C : Type 0) → A ↔ B → B ↔ C → A ↔ C
both_ways A B C one other = (λ a. other.0 (one.0 a), λ c. one.1 (other.1 c))

-- the last message of the part that is looked for is here, and stays
pub losing_found : (q now : QueueState) (got : List (List ℕ)) (first end left place next : ℕ) → (first < end → end ≤ length got)
    → Losing q now got first end left (place + 1)
    → first ≤ next → left ≡ next + 1 → get_or now.messages place [] ≡ get_or got next []
    → IsSubsequence (part got first next) (take place now.messages) ↔ IsSubsequence (part got first left) (take (place + 1) now.messages)
    → Losing q now got first end next place
losing_found q now got first end left place next inside l from is here same = record {
  within = omega (arith, l.within);
  from = from;
  most = omega (arith, is, l.most);
  less = l.less;
  rest = drop_more now.messages place [] (omega (arith, l.within)) ∙ ap (λ (x : List ℕ). x ∷ drop (place + 1) now.messages) (here ∙ sym there)
      ∙ ap (λ (xs : List (List ℕ)). get_or (part got first end) (next - first) [] ∷ xs) (l.rest ∙ ap (λ (n : ℕ). drop n (part got first end)) {x = left - first} {y = next - first + 1} (omega (arith, is, from)))
      ∙ sym (drop_more (part got first end) (next - first) [] short);
  same = both_ways (IsSubsequence (part got first next) (take place now.messages)) (IsSubsequence (part got first left) (take (place + 1) now.messages)) (IsSubsequence (part got first end) q.messages) same l.same;
  sender = l.sender;
  receiver = l.receiver;
  sound = l.sound;
  kept = l.kept;
}
  where
    short : next - first < length (part got first end)
    short = omega (arith, from, is, l.most, inside (omega (arith, from, is, l.most)), length-take (end - first) (drop first got), length-drop first got)

    in_part : (xs : List (List ℕ)) (n k : ℕ) → k < n → get_or (take n xs) k [] ≡ get_or xs k []
    in_part [] zero k below = refl
    in_part [] (suc n) k below = refl
    in_part (x ∷ xs) zero k below = absurd (omega (arith, below))
    in_part (x ∷ xs) (suc n) zero below = refl
    in_part (x ∷ xs) (suc n) (suc k) below = in_part xs n k (omega (arith, below))

    there : get_or (part got first end) (next - first) [] ≡ get_or got next []
    there = in_part (drop first got) (end - first) (next - first) (omega (arith, from, is, l.most)) ∙ get_or-drop first got (next - first) [] ∙ ap (λ (n : ℕ). get_or got n []) {x = first + (next - first)} {y = next} (omega (arith, from))

front_removed : {X : Type 0} (xs : List X) (i : ℕ) → take i (remove xs i) ≡ take i xs
front_removed [] zero = refl
front_removed [] (suc i) = refl
front_removed (x ∷ xs) zero = refl
front_removed (x ∷ xs) (suc i) = ap (λ ys. x ∷ ys) (front_removed xs i)

rest_removed : {X : Type 0} (xs : List X) (i : ℕ) → drop i (remove xs i) ≡ drop (suc i) xs
rest_removed [] zero = refl
rest_removed [] (suc i) = refl
rest_removed (x ∷ xs) zero = refl
rest_removed (x ∷ xs) (suc i) = rest_removed xs i

not_last : (place : ℕ) (messages : List (List ℕ)) (status : Status) → place + 1 < length messages
    → (if place + 1 == length messages then settled status No else status) ≡ status
not_last place messages status before = ap (λ (b : Bool). if b then settled status No else status) (ne_eqb (place + 1) (length messages) (omega (arith, before)))

default : (xs : List (List ℕ)) (n : ℕ) → n < length xs → get_or xs n [] ≡ get_or xs n (get_or xs n [])
default xs n within = any_default xs n [] (get_or xs n []) within

-- a message that is not looked for here is not the last one of both
apart : (got messages : List (List ℕ)) (first end place : ℕ) → first ≤ end → (first < end → end ≤ length got) → place + 1 ≡ length messages
    → (first < end → get_or messages place [] ≡ get_or got (end - 1) [] → ⊥) → last (part got first end) ≡ last messages → ⊥
apart got messages first end place from inside is missed alike = elim (cases_eq first end) [
  | inl none ↦ (
      let nothing : part got first end ≡ [] = ap (λ (n : ℕ). take n (drop first got)) {x = end - first} {y = 0} (omega (arith, none)) in
      let there = sym (ap last nothing) ∙ alike ∙ whole_last messages place (get_or messages place []) is (default messages place (omega (arith, is))) in cc)
  | inr some ↦ (
      let one : first < end = omega (arith, some, from) in
      let few = ap last (part_more got first end (get_or got (end - 1) []) one (inside one) (default got (end - 1) (omega (arith, one, inside one)))) ∙ last-push (part got first (end - 1)) (get_or got (end - 1) []) in
      let many = whole_last messages place (get_or messages place []) is (default messages place (omega (arith, is))) in
      missed one (let equal = sym many ∙ sym alike ∙ few in cc))
]

-- it is not, and is lost
pub losing_lost : (q now : QueueState) (got : List (List ℕ)) (first end left place : ℕ) → (first < end → end ≤ length got)
    → Losing q now got first end left (place + 1)
    → Allows now (Lose place) → (first < left → get_or now.messages place [] ≡ get_or got (left - 1) [] → ⊥)
    → IsSubsequence (part got first left) (take place now.messages) ↔ IsSubsequence (part got first left) (take (place + 1) now.messages)
    → Losing q (after now (Lose place)) got first end left place
losing_lost q now got first end left place inside l allowed missed same = record {
  within = omega (arith, l.within, length-remove now.messages place allowed.1);
  from = l.from;
  most = l.most;
  less = subsequence-trans (subsequence-remove now.messages place) l.less;
  rest = rest_removed now.messages place ∙ ap (λ (n : ℕ). drop n now.messages) {x = suc place} {y = place + 1} (omega arith) ∙ l.rest;
  same = subst (λ (ms : List (List ℕ)). IsSubsequence (part got first left) ms ↔ IsSubsequence (part got first end) q.messages) (sym (front_removed now.messages place))
      (both_ways (IsSubsequence (part got first left) (take place now.messages)) (IsSubsequence (part got first left) (take (place + 1) now.messages)) (IsSubsequence (part got first end) q.messages) same l.same);
  sender = l.sender;
  receiver = l.receiver;
  sound = λ sound. sound_after now (Lose place) allowed (l.sound sound);
  kept = λ alike. (not_last place now.messages now.status (before alike) ∙ (l.kept alike).0, last-remove now.messages place (before alike) ∙ (l.kept alike).1);
}
  where
    by : last (part got first end) ≡ last q.messages → (left ≡ end) → place + 1 < length now.messages
    by alike whole = elim (cases_eq (place + 1) (length now.messages)) [
      | inl here ↦ absurd (apart got now.messages first end place (omega (arith, l.from, l.most)) inside here
          (subst (λ (n : ℕ). first < n → get_or now.messages place [] ≡ get_or got (n - 1) [] → ⊥) whole missed) (alike ∙ sym (l.kept alike).1))
      | inr there ↦ omega (arith, there, l.within)
    ]

    before : last (part got first end) ≡ last q.messages → place + 1 < length now.messages
    before alike = elim (cases_eq left end) [
      | inl whole ↦ by alike whole
      | inr less ↦ (
          let some : left < end = omega (arith, less, l.most) in
          omega (arith, some, l.from, ap length l.rest, length-drop (place + 1) now.messages, length-drop (left - first) (part got first end), length-take (end - first) (drop first got), length-drop first got, inside (omega (arith, some, l.from))))
    ]

-- what waits last is looked at
pub losing_on : (q now later : QueueState) (got : List (List ℕ)) (first end left next place : ℕ) (run longer : Draft) → (first < end → end ≤ length got)
    → Losing q now got first end left (place + 1) → Looked got first left next place run now longer later → Losing q later got first end next place
losing_on q now later got first end left next place run longer inside l (inl f) =
    let some : first < left = omega (arith, f.0, f.1) in
    let within : place < length now.messages = omega (arith, l.within) in
    let there : left ≤ length got = omega (arith, l.most, inside (omega (arith, some, l.most))) in
    let last_of : left - 1 ≡ next = omega (arith, f.0) in
    let same = found got now.messages first left place (get_or got (left - 1) []) (get_or now.messages place []) some there within
    (default got (left - 1) (omega (arith, some, there))) (default now.messages place within) (ap (λ (n : ℕ). get_or got n []) last_of ∙ sym f.2) in
    subst (λ (x : QueueState). Losing q x got first end next place) (sym f.4)
    (losing_found q now got first end left place next inside l f.1 f.0 f.2
    (subst (λ (n : ℕ). IsSubsequence (take (n - first) (drop first got)) (take place now.messages) ↔ IsSubsequence (part got first left) (take (place + 1) now.messages)) last_of same))
losing_on q now later got first end left next place run longer inside l (inr f) =
    subst (λ (x : QueueState). Losing q x got first end next place) (sym f.2.reached)
    (subst (λ (n : ℕ). Losing q (after now (Lose place)) got first end n place) (sym f.0)
    (losing_lost q now got first end left place inside l f.2.allowed f.1 (by (cases_eq first left))))
  where
    by : (first ≡ left) ⊎ (first ≡ left → ⊥) → IsSubsequence (part got first left) (take place now.messages) ↔ IsSubsequence (part got first left) (take (place + 1) now.messages)
    by (inl none) = none_left got now.messages first left place none
    by (inr other) =
        let some : first < left = omega (arith, other, l.from) in
        let within : place < length now.messages = omega (arith, l.within) in
        let there : left ≤ length got = omega (arith, l.most, inside (omega (arith, some, l.most))) in
        not_found got now.messages first left place (get_or got (left - 1) []) (get_or now.messages place []) some there within
        (default got (left - 1) (omega (arith, some, there))) (default now.messages place within) (λ equal. f.1 some (sym equal))

pub lost_looked : (q now later : QueueState) (got : List (List ℕ)) (first left next place : ℕ) (run more longer : Draft)
    → OnlyLost run q more now → Looked got first left next place more now longer later → OnlyLost run q longer later
lost_looked q now later got first left next place run more longer lost (inl f) =
    subst (λ (draft : Draft). OnlyLost run q draft later) (sym f.3) (subst (λ (x : QueueState). OnlyLost run q more x) (sym f.4) lost)
lost_looked q now later got first left next place run more longer lost (inr f) =
    lost_then run more longer q now later lost (lost_on more longer now later (Lose place) refl f.2)

nothing : (n : ℕ) → take {A = List ℕ} n [] ≡ []
nothing zero = refl
nothing (suc n) = refl

-- one part of the messages got, and the next
parts : (got : List (List ℕ)) (first left end : ℕ) → first ≤ left → left ≤ end → part got first left ++ part got left end ≡ part got first end
parts got first left end from most =
    ap (λ (xs : List (List ℕ)). part got first left ++ take (end - left) xs) (ap (λ (n : ℕ). drop n got) {x = left} {y = first + (left - first)} (omega (arith, from)) ∙ sym (drop-drop (left - first) first got))
    ∙ joined (left - first) (end - left) (drop first got) ∙ ap (λ (n : ℕ). take n (drop first got)) {x = left - first + (end - left)} {y = end - first} (omega (arith, from, most))
  where
    joined : (a b : ℕ) (xs : List (List ℕ)) → take a xs ++ take b (drop a xs) ≡ take (a + b) xs
    joined zero b xs = ap (λ (n : ℕ). take n xs) {x = b} {y = 0 + b} (omega arith)
    joined (suc a) b [] = nothing b ∙ sym (nothing (suc a + b))
    joined (suc a) b (x ∷ xs) = ap (λ (ys : List (List ℕ)). x ∷ ys) (joined a b xs) ∙ ap (λ (n : ℕ). take n (x ∷ xs)) {x = suc (a + b)} {y = suc a + b} (omega arith)

-- before anything was looked at
pub nothing_behind : (got : List (List ℕ)) (r : Replica) (end : ℕ) → state_of got r ≡ state_before got r (part got end end)
nothing_behind got r end =
    let none : part got end end ≡ [] = ap (λ (n : ℕ). take n (drop end got)) {x = end - end} {y = 0} (omega arith) in
    ap (λ (others : List (List ℕ)). record (state_of got r) { messages = known_of got r ++ others }) (sym (append-nil r.others) ∙ ap (λ (behind : List (List ℕ)). r.others ++ behind) (sym none))

known_part : (got : List (List ℕ)) (r : Replica) (left : ℕ) → r.first ≤ left → left - r.first ≡ r.known - r.first → known_of got r ≡ part got r.first left
known_part got r left from is = ap (λ (n : ℕ). take n (drop r.first got)) (sym is)

-- all was looked at
pub all_behind : (got : List (List ℕ)) (r : Replica) (left end : ℕ) → r.others ≡ [] → r.first ≤ left → left ≤ end → left - r.first ≡ r.known - r.first
    → state_before got r (part got left end) ≡ state_of got (record r { known = end })
all_behind got r left end none from most is =
    ap (λ (messages : List (List ℕ)). record (state_of got r) { messages = messages })
    (ap (λ (others : List (List ℕ)). known_of got r ++ (others ++ part got left end)) none
    ∙ ap (λ (known : List (List ℕ)). known ++ part got left end) (known_part got r left from is)
    ∙ parts got r.first left end from most
    ∙ sym (append-nil (part got r.first end))
    ∙ ap (λ (others : List (List ℕ)). part got r.first end ++ others) (sym none))

-- all of the part were found
pub losing_settled : (q now : QueueState) (got wanted : List (List ℕ)) (first end left place : ℕ) → Losing q now got first end left place
    → now.messages ≡ part got first end → wanted ≡ part got first end
    → Settles q now wanted false
losing_settled q now got wanted first end left place l all is = record {
  messages = all ∙ sym is;
  sender = l.sender;
  receiver = l.receiver;
  denied = λ told. absurd cc;
  kept = λ up alike. (l.kept (ap last (sym is) ∙ alike)).0;
  sound = l.sound;
}

-- and then what is known of the last put is lost too
pub denied_settled : (q now lost : QueueState) (wanted : List (List ℕ)) → Settles q now wanted false → lost ≡ after now LoseAck → Settles q lost wanted true
denied_settled q now lost wanted s is = subst (λ (x : QueueState). Settles q x wanted true) (sym is) (record {
  messages = s.messages;
  sender = s.sender;
  receiver = s.receiver;
  denied = λ told. refl;
  kept = λ up. absurd cc;
  sound = λ sound. tt;
})

pub is_no : (s : Status) (told : Bool) → told ≡ not (sameb the_type s No) → told ≡ false → s ≡ No
is_no Yes told is e = let both : true ≡ false = sym is ∙ e in cc
is_no No told is e = refl
is_no Open told is e = let both : true ≡ false = sym is ∙ e in cc

-- where nothing was known of it already, nothing more is lost
pub denied_already : (q now : QueueState) (wanted : List (List ℕ)) → Settles q now wanted false → now.status ≡ No → Settles q now wanted true
denied_already q now wanted s settled = record {
  messages = s.messages;
  sender = s.sender;
  receiver = s.receiver;
  denied = λ told. settled;
  kept = λ up. absurd cc;
  sound = s.sound;
}

last_behind : (xs ys : List (List ℕ)) (y : List ℕ) → last (xs ++ y ∷ ys) ≡ last (y ∷ ys)
last_behind [] ys y = refl
last_behind (x ∷ []) ys y = refl
last_behind (x ∷ w ∷ xs) ys y = last_behind (w ∷ xs) ys y

-- fewer messages than are known would do
fewer_do : (mode : Bool) (known others fewer behind wanted : List (List ℕ)) → wanted ≡ fewer ++ behind → IsSubsequence behind others
    → Leaves mode wanted (known ++ others) → Leaves mode wanted (fewer ++ others)
fewer_do false known others fewer behind wanted is sub leaves = subst (λ (xs : List (List ℕ)). IsSubsequence xs (fewer ++ others)) (sym is) (subsequence-before fewer sub)
fewer_do true known [] fewer behind wanted is sub leaves =
    let none = subsequence-of_nil behind sub in
    let same : wanted ≡ fewer ++ [] = is ∙ ap (λ (xs : List (List ℕ)). fewer ++ xs) none in
    subst (λ (xs : List (List ℕ)). IsSubsequence wanted xs × (last wanted ≡ last xs)) same (subsequence-refl wanted, refl)
fewer_do true known (y ∷ others) fewer behind wanted is sub leaves = (
  subst (λ (xs : List (List ℕ)). IsSubsequence xs (fewer ++ y ∷ others)) (sym is) (subsequence-before fewer sub),
  leaves.1 ∙ last_behind known others y ∙ sym (last_behind fewer others y),
)

-- some of the part were not found, or fewer than are known
pub losing_refused : (got wanted : List (List ℕ)) (old r : Replica) (end left place : ℕ) (mode : Bool)
    → (old.first < end → end ≤ length got) → (old.first < old.known → old.known ≤ length got)
    → Losing (state_of got old) (state_before got r (part got left end)) got old.first end left place
    → r.first ≡ old.first → r.known ≡ old.known → r.others ≡ [] → place ≡ length (known_of got old) → (left - old.first ≡ old.known - old.first → ⊥)
    → wanted ≡ part got old.first end → Leaves mode wanted (state_of got old).messages → IsNeeded mode wanted (known_of got old) old.others → ⊥
losing_refused got wanted old r end left place mode inside within l first known none at other is leaves needed = elim (cases_lt (old.known - old.first) (left - old.first)) [
  | inl more ↦ (
      let here = l.same.1 (subst (λ (xs : List (List ℕ)). IsSubsequence xs (state_of got old).messages) is (leaves-part mode wanted (state_of got old).messages leaves)) in
      omega (
        arith,
        more,
        l.most,
        at,
        length-subsequence here,
        length-take place (state_before got r (part got left end)).messages,
        length-take (left - old.first) (drop old.first got),
        length-take (old.known - old.first) (drop old.first got),
        length-drop old.first got,
        inside (omega (arith, more, l.most)),
      ))
  | inr most ↦ (
      let less : left - old.first < old.known - old.first = omega (arith, most, other) in
      let same : known_of got r ≡ known_of got old = ap (λ (n : ℕ). part got n r.known) first ∙ ap (λ (n : ℕ). part got old.first n) known in
      let messages : (state_before got r (part got left end)).messages ≡ known_of got old ++ part got left end =
      ap (λ (others : List (List ℕ)). known_of got r ++ (others ++ part got left end)) none ∙ ap (λ (xs : List (List ℕ)). xs ++ part got left end) same in
      let behind = subsequence-rest (known_of got old) (known_of got old) (part got left end) old.others (omega arith)
      (subst (λ (xs : List (List ℕ)). IsSubsequence xs (known_of got old ++ old.others)) messages l.less) in
      let enough = needed (part got old.first left) (fewer_do mode (known_of got old) old.others (part got old.first left) (part got left end) wanted (is ∙ sym (parts got old.first left end l.from l.most)) behind leaves) in
      omega (arith, less, enough, length-take (left - old.first) (drop old.first got), length-take (old.known - old.first) (drop old.first got), length-drop old.first got, within (omega (arith, less))))
]

-- one look more, for all that is looked at
pub looked_on : (got : List (List ℕ)) (old r new : Replica) (end left next : ℕ) (run more longer : Draft)
    → (old.first < end → end ≤ length got) → r.first ≡ old.first → r.known ≡ old.known → length new.others + 1 ≡ length r.others
    → OnlyLost run (state_of got old) more (state_before got r (part got left end))
    → Losing (state_of got old) (state_before got r (part got left end)) got old.first end left (length (known_of got old) + length r.others)
    → Looked got r.first left next (length (known_of got r) + length new.others) more (state_before got r (part got left end)) longer (state_before got new (part got next end))
    → OnlyLost run (state_of got old) longer (state_before got new (part got next end))
    × Losing (state_of got old) (state_before got new (part got next end)) got old.first end next (length (known_of got old) + length new.others)
looked_on got old r new end left next run more longer inside first known fewer lost losing looked =
    let q = state_of got old in
    let now = state_before got r (part got left end) in
    let later = state_before got new (part got next end) in
    let same : known_of got r ≡ known_of got old = ap (λ (n : ℕ). part got n r.known) first ∙ ap (λ (n : ℕ). part got old.first n) known in
    let place = length (known_of got old) + length new.others in
    let here : Looked got old.first left next place more now longer later =
    subst (λ (n : ℕ). Looked got n left next place more now longer later) first
    (subst (λ (xs : List (List ℕ)). Looked got r.first left next (length xs + length new.others) more now longer later) same looked) in (
      lost_looked q now later got old.first left next place run more longer lost here,
      losing_on q now later got old.first end left next place more longer inside
          (subst (λ (n : ℕ). Losing q now got old.first end left n) {x = length (known_of got old) + length r.others} {y = place + 1} (omega (arith, fewer)) losing) here,
    )

-- before the first look
pub looking : (got : List (List ℕ)) (old : Replica) (end : ℕ) (run : Draft) → old.first ≤ end
    → OnlyLost run (state_of got old) run (state_before got old (part got end end))
    × Losing (state_of got old) (state_before got old (part got end end)) got old.first end end (length (known_of got old) + length old.others)
looking got old end run from =
    let same = nothing_behind got old end in (
      λ calls leads. subst (λ (x : QueueState). LeadsTo run calls x) same leads,
      subst (λ (x : QueueState). Losing (state_of got old) x got old.first end end (length (known_of got old) + length old.others)) same
          (losing_start (state_of got old) got old.first end (length (known_of got old) + length old.others) from (sym (length-append (known_of got old) old.others))),
    )

-- the sides are down as before
pub losing_down : (q now : QueueState) (got : List (List ℕ)) (first end left place : ℕ) → Losing q now got first end left place
    → q.sender_down || q.receiver_down ≡ true → now.sender_down || now.receiver_down ≡ true
losing_down q now got first end left place l down = ap (λ (a : Bool). a || now.receiver_down) l.sender ∙ ap (λ (b : Bool). q.sender_down || b) l.receiver ∙ down

-- all others were looked at, and all of the part was found
pub settles_all : (got wanted : List (List ℕ)) (old r : Replica) (end left place : ℕ)
    → Losing (state_of got old) (state_before got r (part got left end)) got old.first end left place → r.first ≡ old.first → r.others ≡ []
    → left - r.first ≡ r.known - r.first → wanted ≡ part got old.first end
    → Settles (state_of got old) (state_of got (record r { known = end })) wanted false
settles_all got wanted old r end left place l first none found is =
    let same = all_behind got r left end none (omega (arith, first, l.from)) l.most found in
    let all : (state_of got (record r { known = end })).messages ≡ part got old.first end =
    ap (λ (others : List (List ℕ)). part got r.first end ++ others) none ∙ append-nil (part got r.first end) ∙ ap (λ (n : ℕ). part got n end) first in
    subst (λ (x : QueueState). Settles (state_of got old) x wanted false) same
    (losing_settled (state_of got old) (state_before got r (part got left end)) got wanted old.first end left place l
    (ap (λ (x : QueueState). x.messages) same ∙ all) is)
