-- Borders of the last messages before a place.
use Rattle.std.proofs.Common.{◌≡◌, ℕ, zero, suc, ◌+◌, ◌-◌, ◌<◌, ◌≤◌, Bool, true, false, if◌then◌else◌, List, [], ◌∷◌, ◌++◌, length, take, drop, get_or, refl, sym, ◌∙◌, ap, subst, inl, inr, ◌⊎◌, arith}
use Rattle.std.proofs.lemmas.Bool.{cases_lt}
use Rattle.std.proofs.lemmas.List.{drop_more, drop-drop, take-take, get_or-drop, get_or_default, get_or_append_left, get_or_push, get_or-take, length-append, length-take}
use Rattle.amo_object.specs.declared.step.Step.{Step}
use Rattle.amo_object.specs.declared.step.Step.TheVariants.{Put, Get, Ack, Crash, Recover, DownReply, Lose, LoseAck}
use Rattle.amo_object.specs.Delivery.{messages_got}
use Rattle.amo_resolve.specs.Plan.{IsBorder, IsLongest, AreBorders, IsLonger, gets_here}

pub border-none : (got : List (List ℕ)) (end many : ℕ) → IsBorder got end 0 many
border-none got end many = record { within = omega arith; same = refl }

pub border-refl : (got : List (List ℕ)) (end many : ℕ) → IsBorder got end many many
border-refl got end many = record { within = omega arith; same = refl }

-- the first ones of two equal lists
shorter : {X : Type 0} (n m : ℕ) (xs ys : List X) → n ≤ m → take m xs ≡ take m ys → take n xs ≡ take n ys
shorter n m xs ys less same = sym (take-take n m xs less) ∙ ap (λ zs. take n zs) same ∙ take-take n m ys less

-- a border of a border is one
pub border-trans : (got : List (List ℕ)) (end few some many : ℕ) → IsBorder got end few some → IsBorder got end some many → IsBorder got end few many
border-trans got end few some many one other = record {
  within = omega (arith, one.within, other.within);
  same = shorter few some (drop (end - many) got) (drop (end - some) got) one.within other.same ∙ one.same;
}

-- of two borders the shorter one is a border of the longer
pub border-between : (got : List (List ℕ)) (end few some many : ℕ) → few ≤ some → IsBorder got end few many → IsBorder got end some many → IsBorder got end few some
border-between got end few some many less one other = record {
  within = less;
  same = sym (shorter few some (drop (end - many) got) (drop (end - some) got) less other.same) ∙ one.same;
}

-- the message before some of the last ones, and these
front : (got : List (List ℕ)) (end many : ℕ) → many < end → end ≤ length got
    → drop (end - (many + 1)) got ≡ get_or got (end - 1 - many) [] ∷ drop (end - many) got
front got end many some within =
    ap (λ (n : ℕ). drop n got) {x = end - (many + 1)} {y = end - 1 - many} (omega (arith, some))
    ∙ drop_more got (end - 1 - many) [] (omega (arith, some, within))
    ∙ ap (λ (n : ℕ). get_or got (end - 1 - many) [] ∷ drop n got) {x = end - 1 - many + 1} {y = end - many} (omega (arith, some))

take_front : (n : ℕ) (x : List ℕ) (xs : List (List ℕ)) → take (n + 1) (x ∷ xs) ≡ x ∷ take n xs
take_front n x xs = ap (λ (k : ℕ). take k (x ∷ xs)) {x = n + 1} {y = suc n} (omega arith)

-- both with a message before them
pub border-more : (got : List (List ℕ)) (end few many : ℕ) → many < end → end ≤ length got → IsBorder got end few many
    → get_or got (end - 1 - few) [] ≡ get_or got (end - 1 - many) [] → IsBorder got end (few + 1) (many + 1)
border-more got end few many some within border same = record {
  within = omega (arith, border.within);
  same = ap (λ (xs : List (List ℕ)). take (few + 1) xs) (front got end many some within)
      ∙ take_front few (get_or got (end - 1 - many) []) (drop (end - many) got)
      ∙ ap (λ (x : List ℕ). x ∷ take few (drop (end - many) got)) (sym same)
      ∙ ap (λ (xs : List (List ℕ)). get_or got (end - 1 - few) [] ∷ xs) border.same
      ∙ sym (take_front few (get_or got (end - 1 - few) []) (drop (end - few) got))
      ∙ ap (λ (xs : List (List ℕ)). take (few + 1) xs) (sym (front got end few (omega (arith, some, border.within)) within));
}

-- and both without
both_fronts : (x y : List ℕ) (xs ys : List (List ℕ)) → x ∷ xs ≡ y ∷ ys → (x ≡ y) × (xs ≡ ys)
both_fronts x y xs ys same = (cc, cc)

pub border-less : (got : List (List ℕ)) (end few many : ℕ) → many < end → end ≤ length got → IsBorder got end (few + 1) (many + 1)
    → IsBorder got end few many × (get_or got (end - 1 - few) [] ≡ get_or got (end - 1 - many) [])
border-less got end few many some within border =
    let fewer : few ≤ many = omega (arith, border.within) in
    let same = both_fronts (get_or got (end - 1 - many) []) (get_or got (end - 1 - few) []) (take few (drop (end - many) got)) (take few (drop (end - few) got))
    (sym (take_front few (get_or got (end - 1 - many) []) (drop (end - many) got))
    ∙ ap (λ (xs : List (List ℕ)). take (few + 1) xs) (sym (front got end many some within))
    ∙ border.same
    ∙ ap (λ (xs : List (List ℕ)). take (few + 1) xs) (front got end few (omega (arith, some, fewer)) within)
    ∙ take_front few (get_or got (end - 1 - few) []) (drop (end - few) got)) in
    (record { within = fewer; same = same.1 }, sym same.0)

-- the borders that are looked at, from the longest one on: each that was passed does not go on with the message
pub record Looking (got : List (List ℕ)) (end limit few : ℕ) (message : List ℕ) (border : ℕ) : Type 0 where
  pub here : IsBorder got end border few
  pub within : border ≤ limit
  pub passed : (other : ℕ) → IsBorder got end other few → other < limit → get_or got (end - 1 - other) [] ≡ message → other ≤ border

pub looking_start : (got : List (List ℕ)) (end limit few : ℕ) (message : List ℕ) → few ≤ limit → Looking got end limit few message few
looking_start got end limit few message within = record {
  here = border-refl got end few;
  within = within;
  passed = λ other border small same. border.within;
}

-- the next one
pub looking_on : (got : List (List ℕ)) (end limit few : ℕ) (message : List ℕ) (border next : ℕ) → Looking got end limit few message border
    → ((border < limit) × (get_or got (end - 1 - border) [] ≡ message) → ⊥)
    → IsLongest got end next border → Looking got end limit few message next
looking_on got end limit few message border next l other longest = record {
  here = border-trans got end next border few longest.border l.here;
  within = omega (arith, longest.proper, l.within);
  passed = λ any is small same.
      let less : any < border = elim (cases_lt any border) [
        | inl before ↦ before
        | inr after ↦ (
            let equal : any ≡ border = omega (arith, after, l.passed any is small same) in
            absurd (other (subst (λ (n : ℕ). n < limit) equal small, subst (λ (n : ℕ). get_or got (end - 1 - n) [] ≡ message) equal same)))
      ] in
      longest.longest any (border-between got end any border few (omega (arith, less)) is l.here) less;
}

-- none goes on
pub longer_none : (got : List (List ℕ)) (end limit few : ℕ) (message : List ℕ) (border : ℕ) → Looking got end limit few message border → border ≡ 0
    → ((border < limit) × (get_or got (end - 1 - border) [] ≡ message) → ⊥) → IsLonger got end limit few message 0
longer_none got end limit few message border l none other = record {
  within = omega arith;
  from = λ any is. absurd (omega (arith, is.within));
  to = λ any is small same.
      let equal : any ≡ border = omega (arith, none, l.passed any is small same) in
      absurd (other (subst (λ (n : ℕ). n < limit) equal small, subst (λ (n : ℕ). get_or got (end - 1 - n) [] ≡ message) equal same));
}

-- this one does
pub longer_found : (got : List (List ℕ)) (end limit few : ℕ) (message : List ℕ) (border : ℕ) → limit ≤ end → end ≤ length got
    → Looking got end limit few message border → border < limit
    → get_or got (end - 1 - border) [] ≡ message → IsLonger got end limit few message (border + 1)
longer_found got end limit few message border from inside l small same = record {
  within = omega (arith, small);
  from = λ any is.
      let less = border-less got end any border (omega (arith, small, from)) inside is in (
        border-trans got end any border few less.0 l.here,
        omega (arith, less.0.within, small),
        less.1 ∙ same,
      );
  to = λ any is before same_any.
      border-more got end any border (omega (arith, from, small)) inside
      (border-between got end any border few (l.passed any is before same_any) is l.here) (same_any ∙ sym same);
}

-- the longest border of one message
pub longest_first : (got : List (List ℕ)) (end many : ℕ) → many ≡ 1 → IsLongest got end 0 many
longest_first got end many one = record {
  border = border-none got end many;
  proper = omega (arith, one);
  longest = λ other is less. omega (arith, less, one);
}

-- and of some messages and one more
pub longest_more : (got : List (List ℕ)) (end many few longer count : ℕ) (message : List ℕ) → count ≡ many + 1 → many < end → end ≤ length got
    → message ≡ get_or got (end - 1 - many) [] → IsLongest got end few many → IsLonger got end many few message longer
    → IsLongest got end longer count
longest_more got end many few longer count message counted some inside is longest l = record {
  border = subst (λ (k : ℕ). IsBorder got end longer k) (sym counted) (border longer l);
  proper = omega (arith, l.within, counted);
  longest = λ other known less. most other (subst (λ (k : ℕ). IsBorder got end other k) counted known) (omega (arith, less, counted));
}
  where
    border : (longer : ℕ) → IsLonger got end many few message longer → IsBorder got end longer (many + 1)
    border zero l = border-none got end (many + 1)
    border (suc n) l =
        let b = l.from n (subst (λ (k : ℕ). IsBorder got end k (suc n)) {x = suc n} {y = n + 1} (omega arith) (border-refl got end (suc n))) in
        subst (λ (k : ℕ). IsBorder got end k (many + 1)) {x = n + 1} {y = suc n} (omega arith)
        (border-more got end n many some inside (border-trans got end n few many b.0 longest.border) (b.2 ∙ is))

    most : (other : ℕ) → IsBorder got end other (many + 1) → other < many + 1 → other ≤ longer
    most zero border less = omega arith
    most (suc n) border less =
        let b = border-less got end n many some inside (subst (λ (k : ℕ). IsBorder got end k (many + 1)) {x = suc n} {y = n + 1} (omega arith) border) in
        let small : n < many = omega (arith, less) in
        let part = border-between got end n few many (longest.longest n b.0 small) b.0 longest.border in
        let more = l.to n part small (b.1 ∙ sym is) in
        omega (arith, more.within)

-- borders of a part of a list, and of the list
part_of : (got : List (List ℕ)) (first here many : ℕ) → many ≤ here → drop (here - many) (drop first got) ≡ drop (first + here - many) got
part_of got first here many less = drop-drop (here - many) first got ∙ ap (λ (n : ℕ). drop n got) {x = first + (here - many)} {y = first + here - many} (omega (arith, less))

border_in : (got : List (List ℕ)) (first here few many : ℕ) → many ≤ here → IsBorder got (first + here) few many → IsBorder (drop first got) here few many
border_in got first here few many less border = record {
  within = border.within;
  same = ap (λ (xs : List (List ℕ)). take few xs) (part_of got first here many less) ∙ border.same
      ∙ ap (λ (xs : List (List ℕ)). take few xs) (sym (part_of got first here few (omega (arith, less, border.within))));
}

border_out : (got : List (List ℕ)) (first here few many : ℕ) → many ≤ here → IsBorder (drop first got) here few many → IsBorder got (first + here) few many
border_out got first here few many less border = record {
  within = border.within;
  same = ap (λ (xs : List (List ℕ)). take few xs) (sym (part_of got first here many less)) ∙ border.same
      ∙ ap (λ (xs : List (List ℕ)). take few xs) (part_of got first here few (omega (arith, less, border.within)));
}

message_in : (got : List (List ℕ)) (first here border : ℕ) → border < here → get_or (drop first got) (here - 1 - border) [] ≡ get_or got (first + here - 1 - border) []
message_in got first here border less =
    get_or-drop first got (here - 1 - border) [] ∙ ap (λ (n : ℕ). get_or got n []) {x = first + (here - 1 - border)} {y = first + here - 1 - border} (omega (arith, less))

pub longer_in : (got : List (List ℕ)) (first here few : ℕ) (message : List ℕ) (longer : ℕ) → few ≤ here
    → IsLonger got (first + here) here few message longer → IsLonger (drop first got) here here few message longer
longer_in got first here few message longer less l = record {
  within = l.within;
  from = λ border is.
      let f = l.from border (border_out got first here (border + 1) longer l.within is) in
      (border_in got first here border few less f.0, f.1, message_in got first here border f.1 ∙ f.2);
  to = λ border is small same.
      border_in got first here (border + 1) longer l.within
      (l.to border (border_out got first here border few less is) small (sym (message_in got first here border small) ∙ same));
}

-- with one message more before them all
one_before : (x : List ℕ) (got : List (List ℕ)) (here many : ℕ) → many ≤ here → drop (here + 1 - many) (x ∷ got) ≡ drop (here - many) got
one_before x got here many less = ap (λ (n : ℕ). drop n (x ∷ got)) {x = here + 1 - many} {y = suc (here - many)} (omega (arith, less))

pub border_after : (x : List ℕ) (got : List (List ℕ)) (here few many : ℕ) → many ≤ here → IsBorder (x ∷ got) (here + 1) few many → IsBorder got here few many
border_after x got here few many less border = record {
  within = border.within;
  same = ap (λ (xs : List (List ℕ)). take few xs) (sym (one_before x got here many less)) ∙ border.same
      ∙ ap (λ (xs : List (List ℕ)). take few xs) (one_before x got here few (omega (arith, less, border.within)));
}

pub border_before : (x : List ℕ) (got : List (List ℕ)) (here few many : ℕ) → many ≤ here → IsBorder got here few many → IsBorder (x ∷ got) (here + 1) few many
border_before x got here few many less border = record {
  within = border.within;
  same = ap (λ (xs : List (List ℕ)). take few xs) (one_before x got here many less) ∙ border.same
      ∙ ap (λ (xs : List (List ℕ)). take few xs) (sym (one_before x got here few (omega (arith, less, border.within))));
}

-- the longest border of so many, and one more
pub longest_at : (got : List (List ℕ)) (end : ℕ) (lengths : List ℕ) (many few : ℕ) → AreBorders got end lengths → 0 < many → many < length lengths
    → few ≡ get_or lengths many few → IsLongest got end few many
longest_at got end lengths many few known some within is =
    subst (λ (n : ℕ). IsLongest got end n many) (get_or_default lengths many 0 few within ∙ sym is) (known many some within)

pub borders_more : (got : List (List ℕ)) (end : ℕ) (lengths : List ℕ) (longest : ℕ) → AreBorders got end lengths
    → (0 < length lengths → IsLongest got end longest (length lengths)) → AreBorders got end (lengths ++ longest ∷ [])
borders_more got end lengths longest known next many some within = elim (cases_lt many (length lengths)) [
  | inl before ↦ subst (λ (n : ℕ). IsLongest got end n many) (sym (get_or_append_left lengths (longest ∷ []) 0 many before)) (known many some before)
  | inr after ↦ (
      let here : length lengths ≡ many = omega (arith, after, within, length-append lengths (longest ∷ [])) in
      subst (λ (n : ℕ). IsLongest got end n many) (sym (get_or_push lengths longest 0 many here))
      (subst (λ (n : ℕ). IsLongest got end longest n) here (next (omega (arith, here, some)))))
]

-- of one message or none no border is told
pub borders_none : (got : List (List ℕ)) (end : ℕ) (lengths : List ℕ) → length lengths ≡ 1 → AreBorders got end lengths
borders_none got end lengths one many some within = absurd (omega (arith, one, some, within))

-- fewer of them
pub borders_fewer : (got : List (List ℕ)) (end : ℕ) (lengths : List ℕ) (n : ℕ) → AreBorders got end lengths → AreBorders got end (take n lengths)
borders_fewer got end lengths n known many some within =
    let less : many < n = omega (arith, within, length-take n lengths) in
    subst (λ (k : ℕ). IsLongest got end k many) (sym (get_or-take n lengths many 0 less)) (known many some (omega (arith, within, length-take n lengths)))

-- the borders of a stretch that begins anew where a side is down
pub borders_after : (down : Bool) (got : List (List ℕ)) (first here next : ℕ) (items : List ℕ) → AreBorders got (first + here) items
    → length items ≡ next + 1 → next ≡ (if down then 0 else here) → AreBorders got (first + next) items
borders_after true got first here next items known counted begins = borders_none got (first + next) items (omega (arith, counted, begins))
borders_after false got first here next items known counted begins = subst (λ (n : ℕ). AreBorders got (first + n) items) (sym begins) known

-- and with a call more before it
pub borders_before : (call : Step) (got : List (List ℕ)) (first here next : ℕ) (items : List ℕ) → length (messages_got (call ∷ [])) ≤ first
    → AreBorders got (first + here) items → length items ≡ next + 1 → next ≡ gets_here call here
    → AreBorders got (first - length (messages_got (call ∷ [])) + next) items
borders_before call got first here next items some known counted is = by (same_end call first here some)
  where
    same_end : (call : Step) (first here : ℕ) → length (messages_got (call ∷ [])) ≤ first
        → (gets_here call here ≡ 0) ⊎ (first - length (messages_got (call ∷ [])) + gets_here call here ≡ first + here)
    same_end (Put m) first here some = inr (omega arith)
    same_end (Get m) first here some = inr (omega (arith, some))
    same_end (Ack true) first here some = inl refl
    same_end (Ack false) first here some = inr (omega arith)
    same_end (Crash side) first here some = inr (omega arith)
    same_end (Recover side) first here some = inr (omega arith)
    same_end (DownReply side) first here some = inr (omega arith)
    same_end (Lose place) first here some = inr (omega arith)
    same_end LoseAck first here some = inr (omega arith)

    by : (gets_here call here ≡ 0) ⊎ (first - length (messages_got (call ∷ [])) + gets_here call here ≡ first + here)
        → AreBorders got (first - length (messages_got (call ∷ [])) + next) items
    by (inl none) = borders_none got (first - length (messages_got (call ∷ [])) + next) items (omega (arith, counted, is, none))
    by (inr same) = subst (λ (n : ℕ). AreBorders got n items) (sym same ∙ ap (λ (n : ℕ). first - length (messages_got (call ∷ [])) + n) (sym is)) known

-- a stretch gets one message more at most, with a call before it that gets it
pub here_within : (call : Step) (first here : ℕ) → length (messages_got (call ∷ [])) ≤ first → (gets_here call here ≤ here + 1) × (gets_here call here ≤ first + here)
here_within (Put m) first here some = (omega arith, omega arith)
here_within (Get m) first here some = (omega arith, omega (arith, some))
here_within (Ack true) first here some = (omega arith, omega arith)
here_within (Ack false) first here some = (omega arith, omega arith)
here_within (Crash side) first here some = (omega arith, omega arith)
here_within (Recover side) first here some = (omega arith, omega arith)
here_within (DownReply side) first here some = (omega arith, omega arith)
here_within (Lose place) first here some = (omega arith, omega arith)
here_within LoseAck first here some = (omega arith, omega arith)
