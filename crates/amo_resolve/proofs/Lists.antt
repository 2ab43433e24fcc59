-- Lists step by step.
use Rattle.std.proofs.Common.{◌≡◌, ◌↔◌, ℕ, zero, suc, ◌+◌, ◌-◌, ◌<◌, ◌≤◌, ◌||◌, Bool, true, false, Option, Some, None, List, [], ◌∷◌, ◌++◌, length, map, take, drop, remove, reverse, get_or, if◌then◌else◌, refl, sym, ◌∙◌, ap, subst, inl, inr, append_assoc, arith}
use Rattle.std.proofs.lemmas.List.{append-nil, take_more, drop_more, drop_all, take_all, get_or-drop, length-drop, reverse-append}
use Rattle.std.proofs.lemmas.List.Elements.{filter_map-append}
use Rattle.std.specs.Option.{option_to_list}
use Rattle.amo_object.specs.declared.step.Step.{Step}
use Rattle.amo_object.specs.declared.step.Step.TheVariants.{Put, Get, Ack, Crash, Recover, DownReply, Lose, LoseAck}
use Rattle.amo_object.specs.Delivery.{message_got, messages_got, IsSubsequence}
use Rattle.amo_resolve.specs.declared.plan.Note.{Note}
use Rattle.amo_resolve.specs.Plan.{last, MarksDown, downs, noted_down, sender_after, receiver_after}
use Rattle.amo_resolve.proofs.Subsequences.{subsequence-refl, subsequence-trans, subsequence-after, subsequence-longer, subsequence-last, subsequence-nil, last-push}

pub map_remove : {X Y : Type 0} (f : X → Y) (xs : List X) (i : ℕ) → map f (remove xs i) ≡ remove (map f xs) i
map_remove f [] zero = refl
map_remove f [] (suc i) = refl
map_remove f (x ∷ xs) zero = refl
map_remove f (x ∷ xs) (suc i) = ap (λ ys. f x ∷ ys) (map_remove f xs i)

-- what one call more gets
pub got_more : (calls : List Step) (i : ℕ) (d : Step) → i < length calls
    → messages_got (take (i + 1) calls) ≡ messages_got (take i calls) ++ messages_got (get_or calls i d ∷ [])
got_more calls i d within = ap messages_got (take_more calls i d within) ∙ filter_map-append message_got (take i calls) (get_or calls i d ∷ [])

got_of : (call : Step) (m : Option (List ℕ)) → message_got call ≡ m → messages_got (call ∷ []) ≡ option_to_list m
got_of call m is = by call ∙ ap option_to_list is
  where
    by : (call : Step) → messages_got (call ∷ []) ≡ option_to_list (message_got call)
    by (Put m) = refl
    by (Get m) = refl
    by (Ack answer) = refl
    by (Crash side) = refl
    by (Recover side) = refl
    by (DownReply side) = refl
    by (Lose place) = refl
    by LoseAck = refl

pub got_pushed : (calls : List Step) (i : ℕ) (call : Step) (m : Option (List ℕ)) (got : List (List ℕ)) → i < length calls
    → call ≡ get_or calls i call → message_got call ≡ m
    → got ≡ messages_got (take i calls) → got ++ option_to_list m ≡ messages_got (take (i + 1) calls)
got_pushed calls i call m got within is by so_far =
    ap (λ (ys : List (List ℕ)). ys ++ option_to_list m) so_far
    ∙ ap (λ (ys : List (List ℕ)). messages_got (take i calls) ++ ys) (sym (got_of call m by) ∙ ap (λ (x : Step). messages_got (x ∷ [])) is)
    ∙ sym (got_more calls i call within)

-- one of two flags
pub either_first : (a b p : Bool) → a ≡ true → p ≡ true → p ≡ (a || b)
either_first a b p first is = is ∙ ap (λ (x : Bool). x || b) (sym first)

pub either_second : (a b p : Bool) → a ≡ false → p ≡ b → p ≡ (a || b)
either_second a b p second is = is ∙ ap (λ (x : Bool). x || b) (sym second)

-- whether a side is down after the calls so far, with one more
pub downs_more : (calls : List Step) (place : ℕ) (call : Step) (sender receiver s r down : Bool) (items all : List Bool)
    → place < length calls → call ≡ get_or calls place call → s ≡ sender_after sender call → r ≡ receiver_after receiver call → down ≡ (s || r)
    → items ++ downs sender receiver (drop place calls) ≡ all
    → (items ++ down ∷ []) ++ downs s r (drop (place + 1) calls) ≡ all
downs_more calls place call sender receiver s r down items all within is is_s is_r is_down so_far =
    let rest : List Step = drop (place + 1) calls in
    let s2 : Bool = sender_after sender call in
    let r2 : Bool = receiver_after receiver call in
    ap (λ (b : Bool). (items ++ b ∷ []) ++ downs s r rest) is_down
    ∙ ap (λ (b : Bool). (items ++ (b || r) ∷ []) ++ downs b r rest) is_s
    ∙ ap (λ (b : Bool). (items ++ (s2 || b) ∷ []) ++ downs s2 b rest) is_r
    ∙ append_assoc items ((s2 || r2) ∷ []) (downs s2 r2 rest)
    ∙ ap (λ (steps : List Step). items ++ downs sender receiver steps) (sym (drop_more calls place call within ∙ ap (λ (x : Step). x ∷ drop (place + 1) calls) (sym is)))
    ∙ so_far

-- looking for a part of a list from the end on
pub same_last : {X : Type 0} (xs ys : List X) (x : X) → IsSubsequence (xs ++ x ∷ []) (ys ++ x ∷ []) ↔ IsSubsequence xs ys
same_last xs ys x = (forward, λ part. subsequence-after (x ∷ []) part)
  where
    forward : IsSubsequence (xs ++ x ∷ []) (ys ++ x ∷ []) → IsSubsequence xs ys
    forward part = elim (subsequence-last xs x ys x part) [
      | inl here ↦ here.1
      | inr before ↦ subsequence-trans (subsequence-longer (x ∷ []) (subsequence-refl xs)) before
    ]

pub other_last : {X : Type 0} (xs ys : List X) (x y : X) → (x ≡ y → ⊥) → IsSubsequence (xs ++ x ∷ []) (ys ++ y ∷ []) ↔ IsSubsequence (xs ++ x ∷ []) ys
other_last xs ys x y other = (forward, λ part. subsequence-longer (y ∷ []) part)
  where
    forward : IsSubsequence (xs ++ x ∷ []) (ys ++ y ∷ []) → IsSubsequence (xs ++ x ∷ []) ys
    forward part = elim (subsequence-last xs x ys y part) [
      | inl here ↦ absurd (other here.0)
      | inr before ↦ before
    ]

-- a part of the messages got, and its last one
pub part_more : (got : List (List ℕ)) (first end : ℕ) (x : List ℕ) → first < end → end ≤ length got → x ≡ get_or got (end - 1) x
    → take (end - first) (drop first got) ≡ take (end - 1 - first) (drop first got) ++ x ∷ []
part_more got first end x some within is =
    let inside : end - 1 - first < length (drop first got) = omega (arith, length-drop first got) in
    let at : get_or (drop first got) (end - 1 - first) x ≡ x =
    get_or-drop first got (end - 1 - first) x ∙ ap (λ (n : ℕ). get_or got n x) (omega arith) ∙ sym is in
    let count : end - first ≡ end - 1 - first + 1 = omega arith in
    ap (λ (n : ℕ). take n (drop first got)) count ∙ take_more (drop first got) (end - 1 - first) x inside ∙ ap (λ (y : List ℕ). take (end - 1 - first) (drop first got) ++ y ∷ []) at

-- and with no more
pub downs_all : (calls : List Step) (place : ℕ) (sender receiver : Bool) (items all : List Bool) → length calls ≤ place
    → items ++ downs sender receiver (drop place calls) ≡ all → items ≡ all
downs_all calls place sender receiver items all end so_far =
    sym (append-nil items) ∙ ap (λ (steps : List Step). items ++ downs sender receiver steps) (sym (drop_all place calls end)) ∙ so_far

pub length-downs : (sender receiver : Bool) (calls : List Step) → length (downs sender receiver calls) ≡ length calls
length-downs sender receiver [] = refl
length-downs sender receiver (call ∷ calls) = omega (arith, length-downs (sender_after sender call) (receiver_after receiver call) calls)

-- notes that say so mark the calls
pub marks_downs : (sender receiver : Bool) (calls : List Step) (notes : List Note) → map (λ (n : Note). n.is_down) notes ≡ downs sender receiver calls
    → MarksDown sender receiver calls notes × (length notes ≡ length calls)
marks_downs sender receiver [] [] is = (tt, refl)
marks_downs sender receiver [] (note ∷ notes) is = absurd cc
marks_downs sender receiver (call ∷ calls) [] is = absurd cc
marks_downs sender receiver (call ∷ calls) (note ∷ notes) is =
    let here : note.is_down ≡ (sender_after sender call || receiver_after receiver call) = cc in
    let rest : map (λ (n : Note). n.is_down) notes ≡ downs (sender_after sender call) (receiver_after receiver call) calls = cc in
    let both = marks_downs (sender_after sender call) (receiver_after receiver call) calls notes rest in
    ((here, both.0), omega (arith, both.1))

-- a note more that is kept, or is not
pub kept_more : (kept notes : List Note) (note : Note) (down : Bool) → note.is_down ≡ down → reverse kept ≡ noted_down notes
    → reverse (if down then kept ++ note ∷ [] else kept) ≡ noted_down (note ∷ notes)
kept_more kept notes note true down is = reverse-append kept (note ∷ []) ∙ ap (λ (ns : List Note). note ∷ ns) is ∙ ap (λ (b : Bool). if b then note ∷ noted_down notes else noted_down notes) (sym down)
kept_more kept notes note false down is = is ∙ ap (λ (b : Bool). if b then note ∷ noted_down notes else noted_down notes) (sym down)

-- the note that was kept last is taken
pub kept_taken : (before after notes : List Note) (result : Option Note) (note : Note) → note.is_down ≡ true → before ≡ after ++ option_to_list result
    → (result ≡ None → before ≡ []) → reverse before ≡ noted_down (note ∷ notes) → (result ≡ Some note) × (reverse after ≡ noted_down notes)
kept_taken before after notes (Some taken) note down parts none is =
    let all : taken ∷ reverse after ≡ note ∷ noted_down notes =
    sym (reverse-append after (taken ∷ [])) ∙ ap reverse (sym parts) ∙ is ∙ ap (λ (b : Bool). if b then note ∷ noted_down notes else noted_down notes) down in
    let here : taken ≡ note = cc in
    (ap (λ (n : Note). Some n) here, cc)
kept_taken before after notes None note down parts none is =
    let all : [] ≡ note ∷ noted_down notes = ap reverse (sym (none refl)) ∙ is ∙ ap (λ (b : Bool). if b then note ∷ noted_down notes else noted_down notes) down in
    absurd cc

-- how one call from the end is looked for
pub none_left : (got self : List (List ℕ)) (first end place : ℕ) → first ≡ end
    → IsSubsequence (take (end - first) (drop first got)) (take place self) ↔ IsSubsequence (take (end - first) (drop first got)) (take (place + 1) self)
none_left got self first end place is =
    let nothing : take (end - first) (drop first got) ≡ [] = ap (λ (n : ℕ). take n (drop first got)) {x = end - first} {y = 0} (omega (arith, is)) in (
      λ part. subst (λ (xs : List (List ℕ)). IsSubsequence xs (take (place + 1) self)) (sym nothing) (subsequence-nil (take (place + 1) self)),
      λ part. subst (λ (xs : List (List ℕ)). IsSubsequence xs (take place self)) (sym nothing) (subsequence-nil (take place self)),
    )

pub found : (got self : List (List ℕ)) (first end place : ℕ) (x y : List ℕ) → first < end → end ≤ length got → place < length self
    → x ≡ get_or got (end - 1) x → y ≡ get_or self place y → x ≡ y
    → IsSubsequence (take (end - 1 - first) (drop first got)) (take place self) ↔ IsSubsequence (take (end - first) (drop first got)) (take (place + 1) self)
found got self first end place x y some inside within at here same =
    let few = part_more got first end x some inside at in
    let many : take (place + 1) self ≡ take place self ++ x ∷ [] = take_more self place y within ∙ ap (λ (z : List ℕ). take place self ++ z ∷ []) (sym here ∙ sym same) in
    let both = same_last (take (end - 1 - first) (drop first got)) (take place self) x in (
      λ part. subst (λ (xs : List (List ℕ)). IsSubsequence xs (take (place + 1) self)) (sym few) (subst (λ (ys : List (List ℕ)). IsSubsequence (take (end - 1 - first) (drop first got) ++ x ∷ []) ys) (sym many) (both.1 part)),
      λ part. both.0 (subst (λ (ys : List (List ℕ)). IsSubsequence (take (end - 1 - first) (drop first got) ++ x ∷ []) ys) many (subst (λ (xs : List (List ℕ)). IsSubsequence xs (take (place + 1) self)) few part)),
    )

pub not_found : (got self : List (List ℕ)) (first end place : ℕ) (x y : List ℕ) → first < end → end ≤ length got → place < length self
    → x ≡ get_or got (end - 1) x → y ≡ get_or self place y → (x ≡ y → ⊥)
    → IsSubsequence (take (end - first) (drop first got)) (take place self) ↔ IsSubsequence (take (end - first) (drop first got)) (take (place + 1) self)
not_found got self first end place x y some inside within at here other =
    let few = part_more got first end x some inside at in
    let many : take (place + 1) self ≡ take place self ++ y ∷ [] = take_more self place y within ∙ ap (λ (z : List ℕ). take place self ++ z ∷ []) (sym here) in
    let both = other_last (take (end - 1 - first) (drop first got)) (take place self) x y other in (
      λ part. subst (λ (xs : List (List ℕ)). IsSubsequence xs (take (place + 1) self)) (sym few) (subst (λ (ys : List (List ℕ)). IsSubsequence (take (end - 1 - first) (drop first got) ++ x ∷ []) ys) (sym many)
          (both.1 (subst (λ (xs : List (List ℕ)). IsSubsequence xs (take place self)) few part))),
      λ part. subst (λ (xs : List (List ℕ)). IsSubsequence xs (take place self)) (sym few)
          (both.0 (subst (λ (ys : List (List ℕ)). IsSubsequence (take (end - 1 - first) (drop first got) ++ x ∷ []) ys) many (subst (λ (xs : List (List ℕ)). IsSubsequence xs (take (place + 1) self)) few part))),
    )

-- the last of a part of the messages got, and the last of others
pub last_none : {X : Type 0} (xs : List X) → None ≡ last xs → xs ≡ []
last_none [] e = refl
last_none (x ∷ []) e = absurd cc
last_none (x ∷ y ∷ xs) e = absurd (let none = last_none (y ∷ xs) e in cc)

pub whole_last : (self : List (List ℕ)) (place : ℕ) (y : List ℕ) → place + 1 ≡ length self → y ≡ get_or self place y → last self ≡ Some y
whole_last self place y end at =
    let whole : self ≡ take place self ++ y ∷ [] = sym (take_all (place + 1) self (omega (arith, end))) ∙ take_more self place y (omega (arith, end)) ∙ ap (λ (z : List ℕ). take place self ++ z ∷ []) (sym at) in
    ap last whole ∙ last-push (take place self) y

-- an element is the same whatever would stand for one that is not there
pub any_default : (xs : List (List ℕ)) (n : ℕ) (d e : List ℕ) → n < length xs → get_or xs n d ≡ get_or xs n e
any_default [] n d e within = absurd (omega (arith, within))
any_default (x ∷ xs) zero d e within = refl
any_default (x ∷ xs) (suc n) d e within = any_default xs n d e (omega (arith, within))

-- what is false does not hold
pub untrue : (b : Bool) → b ≡ false → b ≡ true → ⊥
untrue true e holds = cc
untrue false e holds = cc
