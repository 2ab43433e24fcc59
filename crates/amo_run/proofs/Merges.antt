-- The lists of all passes, put together and sorted by position, are the history.
use Rattle.std.proofs.Common.{◌≡◌, ◌≢◌, ℕ, zero, suc, ◌+◌, ◌^◌, ◌<◌, ◌≤◌, Bool, if◌then◌else◌, List, [], ◌∷◌, ◌++◌, length, map, reverse, get_or, inl, inr, ◌⊎◌, refl, sym, ap, ap₂, ◌∙◌, subst, append-nil, append_assoc, eq-eqb, ne_eqb, arith}
use native.Mathlib.Decide.{ℕ_discrete}
use mathlib.Core.Logic.{dite}
use Rattle.std.specs.List.Sorted.{IsPermutation, IsNonDecreasingBy}
use Rattle.std.proofs.lemmas.List.{length-append, reverse-append}
use Rattle.std.proofs.lemmas.List.Elements.{Contains-get_or}
use Rattle.std.proofs.lemmas.List.Sorted.{IsPermutation-refl, IsPermutation-sym, IsPermutation-trans, IsPermutation-cons, IsPermutation-middle, IsPermutation-append_right, Contains-permutation, length_permutation}
use Rattle.amo_world.specs.declared.event.Event.{Event}
use Rattle.amo_world.specs.History.{events_of}
use Rattle.amo_book.specs.Book.{BookState, Each}
use Rattle.amo_book.specs.Closed.{StandsIn}
use Rattle.amo_book.specs.Pass.{PassState}
use Rattle.amo_book.specs.Rule.{AllBelow}
use Rattle.amo_run.specs.Told.{position, placed, told}
use Rattle.amo_run.specs.Crew.{EachAt, IsHome, joined}
use Rattle.amo_run.specs.Whole.{numbered}
use Rattle.amo_run.proofs.Tellings.{placed_past}

-- every event of a history, in the order of time, with its position
abbrev placed_all : List Event → List (ℕ × Event)
placed_all [] = []
placed_all (e ∷ past) = placed_all past ++ (position past, e) ∷ []

-- the events of m passes from p on, pass by pass
abbrev dealt : ℕ → ℕ → List Event → List (ℕ × Event)
dealt p zero log = []
dealt p (suc m) log = placed p log ++ dealt (suc p) m log

skips : (p : ℕ) (e : Event) (past : List Event) → e.pass ≢ p → placed p (e ∷ past) ≡ placed p past
skips p e past ne = ap (λ (b : Bool). placed p past ++ (if b then (position past, e) ∷ [] else [])) (ne_eqb p e.pass (λ z. ne (sym z))) ∙ append-nil (placed p past)

takes : (p : ℕ) (e : Event) (past : List Event) → e.pass ≡ p → placed p (e ∷ past) ≡ placed p past ++ (position past, e) ∷ []
takes p e past is = ap (λ (b : Bool). placed p past ++ (if b then (position past, e) ∷ [] else [])) (eq-eqb p e.pass (sym is))

dealt_past : (p m : ℕ) (e : Event) (past : List Event) → e.pass < p → dealt p m (e ∷ past) ≡ dealt p m past
dealt_past p zero e past lt = refl
dealt_past p (suc m) e past lt = ap₂ (λ a b. a ++ b) (skips p e past (λ is. absurd (omega arith))) (dealt_past (suc p) m e past (omega arith))

-- an element at the end of the first of two lists
middle : {A : Type 0} (xs ys : List A) (x : A) → IsPermutation (x ∷ (xs ++ ys)) ((xs ++ x ∷ []) ++ ys)
middle {A = A} xs ys x = subst (λ (l : List A). IsPermutation (x ∷ (xs ++ ys)) l) (sym (append_assoc xs (x ∷ []) ys)) (IsPermutation-sym _ _ (IsPermutation-middle xs x ys))

dealt_takes : (p m : ℕ) (e : Event) (past : List Event) → p ≤ e.pass → e.pass < p + m → IsPermutation ((position past, e) ∷ dealt p m past) (dealt p m (e ∷ past))
dealt_takes p zero e past low high = absurd (omega arith)
dealt_takes p (suc m) e past low high = dite (ℕ_discrete e.pass p)
    (λ is. subst (IsPermutation ((position past, e) ∷ dealt p (suc m) past)) (sym (ap₂ (λ a b. a ++ b) (takes p e past is) (dealt_past (suc p) m e past (omega arith)))) (middle (placed p past) (dealt (suc p) m past) (position past, e)))
    (λ ne. let first = placed p past in let rest = dealt (suc p) m past in
    subst (λ (l : List (ℕ × Event)). IsPermutation ((position past, e) ∷ dealt p (suc m) past) (l ++ dealt (suc p) m (e ∷ past))) (sym (skips p e past ne))
    (IsPermutation-trans _ _ _ (IsPermutation-sym _ _ (IsPermutation-middle first (position past, e) rest))
    (IsPermutation-append_right first _ _ (dealt_takes (suc p) m e past (omega arith) (omega arith)))))

dealt_nil : (p m : ℕ) → dealt p m [] ≡ []
dealt_nil p zero = refl
dealt_nil p (suc m) = dealt_nil (suc p) m

dealt_all : (n : ℕ) (log : List Event) → AllBelow n log → IsPermutation (placed_all log) (dealt 0 n log)
dealt_all n [] h = subst (IsPermutation (placed_all [])) (sym (dealt_nil 0 n)) (IsPermutation-refl [])
dealt_all n (e ∷ past) h =
    IsPermutation-trans _ _ _ (IsPermutation-middle (placed_all past) (position past, e) [])
    (IsPermutation-trans _ _ _ (IsPermutation-cons (position past, e) _ _ (subst (λ (l : List (ℕ × Event)). IsPermutation l (dealt 0 n past)) (sym (append-nil (placed_all past))) (dealt_all n past h.1)))
    (dealt_takes 0 n e past (omega arith) (omega (arith, h.0))))

-- the events that a pass tells are all that the history has of it
placed_whole : (log : List Event) (c : PassState) → StandsIn log c → told c ≡ placed c.number log
placed_whole log c s =
    let newer : List Event = s.0.0 in
    let is : log ≡ newer ++ c.seen = s.0.1 in
    let same : length (events_of c.number (newer ++ c.seen)) ≡ length (events_of c.number c.seen) = ap length (ap (events_of c.number) (sym is) ∙ s.1) in
    sym (ap (placed c.number) is ∙ placed_past c.number newer c.seen same)

joined_dealt : (b : BookState) (log : List Event) (p : ℕ) (cs : List PassState) → EachAt (IsHome b) p cs → Each (StandsIn log) cs → joined cs ≡ dealt p (length cs) log
joined_dealt b log p [] h s = refl
joined_dealt b log p (c ∷ cs) h s = ap₂ (λ x y. x ++ y) (placed_whole log c s.0 ∙ ap (λ n. placed n log) h.0.number) (joined_dealt b log (suc p) cs h.1 s.1)

placed_length : (log : List Event) → length (placed_all log) ≡ length log
placed_length [] = refl
placed_length (e ∷ past) = length-append (placed_all past) ((position past, e) ∷ []) ∙ let rest = placed_length past in omega arith

numbered_more : (k : ℕ) (es : List Event) (e : Event) → numbered k (es ++ e ∷ []) ≡ numbered k es ++ (k + length es, e) ∷ []
numbered_more k [] e = ap (λ (n : ℕ). (n, e) ∷ []) (omega arith)
numbered_more k (x ∷ es) e = ap (λ l. (k, x) ∷ l) (numbered_more (suc k) es e ∙ ap (λ (n : ℕ). numbered (suc k) es ++ (n, e) ∷ []) (omega arith))

reverse_more : (past : List Event) (e : Event) → reverse (e ∷ past) ≡ reverse past ++ e ∷ []
reverse_more past e = reverse-append (e ∷ []) past

reverse_length : (past : List Event) → length (reverse past) ≡ length past
reverse_length [] = refl
reverse_length (e ∷ past) = ap length (reverse_more past e) ∙ (length-append (reverse past) (e ∷ []) ∙ let rest = reverse_length past in omega arith)

placed_numbered : (log : List Event) → length log ≤ 2 ^ 64 → placed_all log ≡ numbered 0 (reverse log)
placed_numbered [] le = refl
placed_numbered (e ∷ past) le =
    let count = reverse_length past in
    let small : position past ≡ 0 + length (reverse past) = omega arith in
    ap₂ (λ (l : List (ℕ × Event)) (n : ℕ). l ++ (n, e) ∷ []) (placed_numbered past (omega arith)) small ∙ (sym (numbered_more 0 (reverse past) e) ∙ ap (numbered 0) (sym (reverse_more past e)))

-- a sorted list with these elements is the list
abbrev In : ℕ × Event → List (ℕ × Event) → Type 0
In x [] = ⊥
In x (y ∷ ys) = (x ≡ y) ⊎ In x ys

abbrev Rising : List (ℕ × Event) → Type 0
Rising [] = Unit {0}
Rising (y ∷ ys) = Each (λ z. y.0 ≤ z.0) ys × Rising ys

in_from : (ys : List (ℕ × Event)) (x : ℕ × Event) (k : ℕ) → k < length ys → get_or ys k x ≡ x → In x ys
in_from [] x k lt e = absurd (omega arith)
in_from (y ∷ ys) x zero lt e = inl (sym e)
in_from (y ∷ ys) x (suc k) lt e = inr (in_from ys x k (omega arith) e)

each_from : (P : ℕ × Event → Type 0) (xs : List (ℕ × Event)) → ((k : ℕ) (d : ℕ × Event) → k < length xs → P (get_or xs k d)) → Each P xs
each_from P [] h = tt
each_from P (x ∷ xs) h = (h 0 x (omega arith), each_from P xs (λ k d lt. h (suc k) d (omega arith)))

each_in : (P : ℕ × Event → Type 0) (xs : List (ℕ × Event)) (x : ℕ × Event) → Each P xs → In x xs → P x
each_in P [] x h i = absurd i
each_in P (y ∷ ys) x h (inl e) = subst P (sym e) h.0
each_in P (y ∷ ys) x h (inr i) = each_in P ys x h.1 i

rises : (ys : List (ℕ × Event)) → IsNonDecreasingBy (λ (x : ℕ × Event). x.0) ys → Rising ys
rises [] h = tt
rises (y ∷ ys) h = (each_from (λ z. y.0 ≤ z.0) ys (λ k d lt. h 0 (suc k) d (omega arith) (omega arith)), rises ys (λ i j d le lt. h (suc i) (suc j) d (omega arith) (omega arith)))

least : (x y : ℕ × Event) (ys : List (ℕ × Event)) → In x (y ∷ ys) → Each (λ z. y.0 ≤ z.0) ys → y.0 ≤ x.0
least x y ys (inl e) h = let same : x.0 ≡ y.0 = ap (λ t. t.0) e in omega arith
least x y ys (inr i) h = each_in (λ z. y.0 ≤ z.0) ys x h i

behind : (x y : ℕ × Event) (ys : List (ℕ × Event)) → y.0 < x.0 → In x (y ∷ ys) → In x ys
behind x y ys lt (inl e) = let same : x.0 ≡ y.0 = ap (λ t. t.0) e in absurd (omega arith)
behind x y ys lt (inr i) = i

all_behind : (k : ℕ) (es : List Event) (y : ℕ × Event) (ys : List (ℕ × Event)) → y.0 < k → Each (λ x. In x (y ∷ ys)) (numbered k es) → Each (λ x. In x ys) (numbered k es)
all_behind k [] y ys lt h = tt
all_behind k (e ∷ es) y ys lt h = (behind (k, e) y ys lt h.0, all_behind (suc k) es y ys (omega arith) h.1)

enough : (k : ℕ) (log : List Event) (ys : List (ℕ × Event)) → Rising ys → Each (λ x. In x ys) (numbered k log) → length log ≤ length ys
enough k [] ys r h = omega arith
enough k (e ∷ es) [] r h = absurd h.0
enough k (e ∷ es) (y ∷ ys) r h = let low : y.0 ≤ k = least (k, e) y ys h.0 r.0 in let rest = enough (suc k) es ys r.1 (all_behind (suc k) es y ys (omega arith) h.1) in omega arith

sorted_first : (k : ℕ) (e : Event) (es : List Event) (y : ℕ × Event) (ys : List (ℕ × Event)) → length ys ≡ length es → Rising (y ∷ ys) → In (k, e) (y ∷ ys) → Each (λ x. In x ys) (numbered (suc k) es) → ys ≡ numbered (suc k) es → y ∷ ys ≡ (k, e) ∷ numbered (suc k) es
sorted_first k e es y ys long r (inl is) rest tail = ap₂ (λ a b. a ∷ b) (sym is) tail
sorted_first k e es y ys long r (inr i) rest tail = let many = enough k (e ∷ es) ys r.1 (i, rest) in absurd (omega arith)

sorted_is : (k : ℕ) (log : List Event) (ys : List (ℕ × Event)) → length ys ≡ length log → Rising ys → Each (λ x. In x ys) (numbered k log) → ys ≡ numbered k log
sorted_is k [] [] long r h = refl
sorted_is k [] (y ∷ ys) long r h = absurd (omega arith)
sorted_is k (e ∷ es) [] long r h = absurd (omega arith)
sorted_is k (e ∷ es) (y ∷ ys) long r h =
    let low : y.0 ≤ k = least (k, e) y ys h.0 r.0 in
    let rest = all_behind (suc k) es y ys (omega arith) h.1 in
    let same : length ys ≡ length es = omega arith in
    sorted_first k e es y ys same r h.0 rest (sorted_is (suc k) es ys same r.1 rest)

-- without their positions
bare : (k : ℕ) (es : List Event) → map (λ (x : ℕ × Event). x.1) (numbered k es) ≡ es
bare k [] = refl
bare k (e ∷ es) = ap (λ l. e ∷ l) (bare (suc k) es)

pub merged : (b : BookState) (log : List Event) (cs : List PassState) (made sorted : List (ℕ × Event)) → EachAt (IsHome b) 0 cs → Each (StandsIn log) cs → AllBelow (length cs) log
    → made ≡ joined cs → IsPermutation made sorted → IsNonDecreasingBy (λ (x : ℕ × Event). x.0) sorted → length sorted < 2 ^ 64 → (map (λ (x : ℕ × Event). x.1) sorted ≡ reverse log) × (length log ≡ length sorted)
merged b log cs made sorted h s below is moved up small =
    let all : IsPermutation (placed_all log) sorted = IsPermutation-trans _ _ _ (subst (IsPermutation (placed_all log)) (sym (is ∙ joined_dealt b log 0 cs h s)) (dealt_all (length cs) log below)) moved in
    let long : length sorted ≡ length (placed_all log) = length_permutation _ _ all in let whole = placed_length log in
    let few : length log < 2 ^ 64 = omega arith in
    let exact : placed_all log ≡ numbered 0 (reverse log) = placed_numbered log (omega arith) in
    let all' : IsPermutation (numbered 0 (reverse log)) sorted = subst (λ (l : List (ℕ × Event)). IsPermutation l sorted) exact all in
    let count = reverse_length log in
    let same : sorted ≡ numbered 0 (reverse log) = sorted_is 0 (reverse log) sorted (omega arith) (rises sorted up) (each_from (λ x. In x sorted) (numbered 0 (reverse log))
    (λ k d lt. let t = Contains-permutation _ _ (get_or (numbered 0 (reverse log)) k d) all' (Contains-get_or (numbered 0 (reverse log)) k d lt) in in_from sorted _ t.0 t.1 t.2)) in
    (ap (map (λ (x : ℕ × Event). x.1)) same ∙ bare 0 (reverse log), omega arith)

pub bare_length : (xs : List (ℕ × Event)) → length (map (λ (x : ℕ × Event). x.1) xs) ≡ length xs
bare_length [] = refl
bare_length (x ∷ xs) = ap suc (bare_length xs)
