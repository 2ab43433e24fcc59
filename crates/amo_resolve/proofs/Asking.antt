-- What calls ask of the messages that wait before them.
use Rattle.std.proofs.Common.{◌≡◌, ℕ, zero, suc, ◌+◌, ◌-◌, ◌<◌, ◌≤◌, Bool, true, false, List, [], ◌∷◌, ◌++◌, length, take, drop, get_or, refl, sym, ◌∙◌, ap, subst, inl, inr, ◌⊎◌, append_assoc, arith}
use Rattle.std.proofs.lemmas.Bool.{cases_lt}
use Rattle.std.proofs.lemmas.List.{append-nil, take_more, take-take, take_at, length-append, length-take, length-drop, same_from_push, get_or-drop, get_or_default}
use Rattle.amo_object.specs.declared.step.Step.TheVariants.{Get, Ack}
use Rattle.amo_object.specs.Delivery.{IsSubsequence}
use Rattle.amo_resolve.specs.Plan.{last, Leaves, Takes, IsBorder, IsLonger, wanted_after, IsOpen, Asks}
use Rattle.amo_resolve.proofs.Bordering.{border-none, border-refl, border_before, border_after, longer_in}
use Rattle.amo_resolve.proofs.Lists.{last_none}
use Rattle.amo_resolve.proofs.Subsequences.{subsequence-nil, subsequence-refl, subsequence-trans, subsequence-before, subsequence-after, subsequence-longer, subsequence-last, subsequence-take, length-subsequence, leaves-refl, leaves-part, from_end, FromEnd, nothing, pushed, last-push}

-- no calls ask anything
pub asks_nothing : Asks 0 0 0 false (λ (xs : List (List ℕ)). Unit {0}) []
asks_nothing = record {
  enough = omega arith;
  enough_most = omega arith;
  spared_here = omega arith;
  spared_most = omega arith;
  none = λ less. refl;
  all = λ is. refl;
  fits = λ is. omega arith;
  settled = λ is. absurd cc;
  splits = λ is messages goes. record {
    mode = false;
    lost = λ same. refl;
    any = λ others leaves. tt;
    fewer = λ same border is_border. tt;
    shape = inr (messages, refl, subsequence-nil messages);
  };
}

none_left : (n : ℕ) (xs : List (List ℕ)) → n ≡ 0 → take n xs ≡ []
none_left n xs is = ap (λ (k : ℕ). take k xs) {x = n} {y = 0} is

-- where a side is down
pub asks_down : (told settled : Bool) (wanted : ℕ) (got : List (List ℕ)) → wanted ≤ length got
    → (settled ≡ true → (told ≡ true) × (wanted ≡ 0)) → (settled ≡ false → told ≡ true → wanted ≡ 0 → ⊥)
    → Asks 0 wanted 0 settled (λ xs. Leaves told (take wanted got) xs) got
asks_down told settled wanted got within when unless = record {
  enough = omega arith;
  enough_most = within;
  spared_here = omega arith;
  spared_most = omega arith;
  none = λ less. refl;
  all = λ is. refl;
  fits = λ is. omega arith;
  settled = λ is messages leaves. empty (when is).0 (when is).1 messages leaves;
  splits = λ is messages leaves. record {
    mode = told;
    lost = λ same. no_of told (λ always. unless is always (sym same));
    any = λ others left. subst (λ (few : List (List ℕ)). Leaves told few others) whole left;
    fewer = λ same border is_border. subst (λ (few : List (List ℕ)). Leaves told (take wanted got) few)
        (none_left wanted got (sym same) ∙ sym (none_left (0 - border) got (omega arith))) (leaves-refl told (take wanted got));
    shape = inr (messages, refl, subst (λ (few : List (List ℕ)). Leaves told few messages) (sym whole) leaves);
  };
}
  where
    whole : take (wanted - 0) (drop 0 got) ≡ take wanted got
    whole = ap (λ (n : ℕ). take n got) {x = wanted - 0} {y = wanted} (omega arith)

    no_of : (b : Bool) → (b ≡ true → ⊥) → b ≡ false
    no_of true never = absurd (never refl)
    no_of false never = refl

    empty : told ≡ true → wanted ≡ 0 → (messages : List (List ℕ)) → Leaves told (take wanted got) messages → messages ≡ take wanted got
    empty always none messages leaves =
        let both : Leaves true (take wanted got) messages = subst (λ (mode : Bool). Leaves mode (take wanted got) messages) always leaves in
        last_none messages (sym (ap last (none_left wanted got none)) ∙ both.1) ∙ sym (none_left wanted got none)

-- before a yes nothing waits
pub asks_yes : (P : List (List ℕ) → Type 0) (got : List (List ℕ)) → Asks 0 0 0 true (λ xs. Takes (Ack true) xs P) got
asks_yes P got = record {
  enough = omega arith;
  enough_most = omega arith;
  spared_here = omega arith;
  spared_most = omega arith;
  none = λ less. refl;
  all = λ is. refl;
  fits = λ is. absurd cc;
  settled = λ is messages takes. takes.0;
  splits = λ is. absurd cc;
}

-- the first ones of a list with one more
take_front : (n m : ℕ) (x : List ℕ) (xs : List (List ℕ)) → m ≡ n + 1 → take m (x ∷ xs) ≡ x ∷ take n xs
take_front n m x xs is = ap (λ (k : ℕ). take k (x ∷ xs)) {x = m} {y = suc n} (omega (arith, is))

-- before a get
pub asks_get : (x : List ℕ) (here most spared : ℕ) (settled : Bool) (P : List (List ℕ) → Type 0) (got : List (List ℕ))
    → Asks here most spared settled P got → Asks (here + 1) (most + 1) spared settled (λ xs. Takes (Get x) xs P) (x ∷ got)
asks_get x here most spared settled P got a = record {
  enough = omega (arith, a.enough);
  enough_most = omega (arith, a.enough_most);
  spared_here = omega (arith, a.spared_here);
  spared_most = omega (arith, a.spared_most);
  none = λ less. a.none (omega (arith, less));
  all = a.all;
  fits = λ is. omega (arith, a.fits is);
  settled = λ is messages takes. takes.1 ∙ ap (λ (ys : List (List ℕ)). x ∷ ys) (a.settled is takes.0 takes.2) ∙ sym (take_front most (most + 1) x got refl);
  splits = λ is messages takes. opened messages takes (a.splits is takes.0 takes.2);
}
  where
    same_wanted : wanted_after (x ∷ got) (here + 1) (most + 1) ≡ wanted_after got here most
    same_wanted = ap (λ (n : ℕ). take n (drop (here + 1) (x ∷ got))) {x = most + 1 - (here + 1)} {y = most - here} (omega arith)
        ∙ ap (λ (n : ℕ). take (most - here) (drop n (x ∷ got))) {x = here + 1} {y = suc here} (omega arith)

    with_more : (border : ℕ) → border ≤ here → take (here + 1 - border) (x ∷ got) ≡ x ∷ take (here - border) got
    with_more border less = take_front (here - border) (here + 1 - border) x got (omega (arith, less))

    opened : (messages : List (List ℕ)) (takes : Takes (Get x) messages P) → IsOpen P got here most spared takes.0
        → IsOpen (λ xs. Takes (Get x) xs P) (x ∷ got) (here + 1) (most + 1) spared messages
    opened messages takes o = record {
      mode = o.mode;
      lost = λ same. o.lost (omega (arith, same));
      any = λ others leaves. (
        take here got ++ others,
        ap (λ (ys : List (List ℕ)). ys ++ others) (take_front here (here + 1) x got refl),
        o.any others (subst (λ (few : List (List ℕ)). Leaves o.mode few others) same_wanted leaves),
      );
      fewer = λ same border is. (
        take (here - border) got,
        with_more border (omega (arith, is.within, a.spared_here)),
        o.fewer (omega (arith, same)) border (border_after x got here border spared a.spared_here is),
      );
      shape = elim o.shape [
        | inl exact ↦ inl (
          omega (arith, exact.0),
          (
            exact.1.0,
            border_before x got here exact.1.0 spared a.spared_here exact.1.1,
            takes.1 ∙ ap (λ (ys : List (List ℕ)). x ∷ ys) exact.1.2 ∙ sym (with_more exact.1.0 (omega (arith, exact.1.1.within, a.spared_here))),
          ),
        )
        | inr more ↦ inr (
          more.0,
          takes.1 ∙ ap (λ (ys : List (List ℕ)). x ∷ ys) more.1 ∙ ap (λ (ys : List (List ℕ)). ys ++ more.0) (sym (take_front here (here + 1) x got refl)),
          subst (λ (few : List (List ℕ)). Leaves o.mode few more.0) (sym same_wanted) more.2,
        )
      ];
    }

-- before a put
pub asks_put_settled : (x : List ℕ) (here most spared : ℕ) (P : List (List ℕ) → Type 0) (got : List (List ℕ))
    → Asks here most spared true P got → Asks here (most - 1) spared true (λ xs. P (xs ++ x ∷ [])) got
asks_put_settled x here most spared P got a = record {
  enough = a.enough;
  enough_most = omega (arith, a.enough_most);
  spared_here = a.spared_here;
  spared_most = omega (arith, a.all refl);
  none = λ less. a.all refl;
  all = a.all;
  fits = λ is. absurd cc;
  settled = λ is messages goes. one_less messages (a.settled refl (messages ++ x ∷ []) goes);
  splits = λ is. absurd cc;
}
  where
    one_less : (messages : List (List ℕ)) → messages ++ x ∷ [] ≡ take most got → messages ≡ take (most - 1) got
    one_less messages is =
        sym (take_at messages (x ∷ []) (most - 1) (omega (arith, ap length is, length-append messages (x ∷ []), length-take most got, a.enough_most)))
        ∙ ap (λ (ys : List (List ℕ)). take (most - 1) ys) is ∙ take-take (most - 1) most got (omega arith)

-- messages with one put after them, and others after the first ones got
pub record Others (xs front : List (List ℕ)) (x : List ℕ) (mode : Bool) (few : List (List ℕ)) : Type 0 where
  pub rest : List (List ℕ)
  pub is : xs ≡ front ++ rest
  pub leaves : Leaves mode few (rest ++ x ∷ [])

others_of : (xs front : List (List ℕ)) (x : List ℕ) (mode : Bool) (few others : List (List ℕ)) → 0 < length few
    → xs ++ x ∷ [] ≡ front ++ others → Leaves mode few others → Others xs front x mode few
others_of xs front x mode few others some is leaves = by others (from_end others) is leaves
  where
    by : (others : List (List ℕ)) → FromEnd others → xs ++ x ∷ [] ≡ front ++ others → Leaves mode few others → Others xs front x mode few
    by _ nothing is leaves = absurd (omega (arith, some, length-subsequence (leaves-part mode few [] leaves)))
    by _ (pushed rest y) is leaves =
        let ends = same_from_push xs (front ++ rest) x y (is ∙ sym (append_assoc front rest (y ∷ []))) in record {
          rest = rest;
          is = ends.0;
          leaves = subst (λ (z : List ℕ). Leaves mode few (rest ++ z ∷ [])) (sym ends.1) leaves;
        }

-- the last message wanted after a stretch
module _ (got : List (List ℕ)) (here most : ℕ) (some : here < most) (within : most ≤ length got) where
  wanted_last : wanted_after got here most ≡ wanted_after got here (most - 1) ++ get_or got (most - 1) [] ∷ []
  wanted_last =
      ap (λ (n : ℕ). take n (drop here got)) {x = most - here} {y = most - 1 - here + 1} (omega (arith, some))
      ∙ take_more (drop here got) (most - 1 - here) [] (omega (arith, some, within, length-drop here got))
      ∙ ap (λ (y : List ℕ). wanted_after got here (most - 1) ++ y ∷ []) (get_or-drop here got (most - 1 - here) []
      ∙ ap (λ (n : ℕ). get_or got n []) {x = here + (most - 1 - here)} {y = most - 1} (omega (arith, some)))

  wanted_some : 0 < length (wanted_after got here most)
  wanted_some = omega (arith, some, within, length-take (most - here) (drop here got), length-drop here got)

-- a put of the last message wanted
pub asks_put_wanted : (x : List ℕ) (here most spared : ℕ) (P : List (List ℕ) → Type 0) (got : List (List ℕ)) → here < most
    → get_or got (most - 1) [] ≡ x → Asks here most spared false P got → Asks here (most - 1) spared false (λ xs. P (xs ++ x ∷ [])) got
asks_put_wanted x here most spared P got some same a = record {
  enough = a.enough;
  enough_most = omega (arith, a.enough_most);
  spared_here = a.spared_here;
  spared_most = omega (arith, a.none some);
  none = λ less. a.none some;
  all = λ is. absurd cc;
  fits = λ is. omega (arith, some);
  settled = λ is. absurd cc;
  splits = λ is messages goes. opened messages (a.splits refl (messages ++ x ∷ []) goes);
}
  where
    few : List (List ℕ)
    few = wanted_after got here (most - 1)

    wanted : wanted_after got here most ≡ few ++ x ∷ []
    wanted = wanted_last got here most some a.enough_most ∙ ap (λ (y : List ℕ). few ++ y ∷ []) same

    left : (mode : Bool) (rest : List (List ℕ)) → Leaves mode (few ++ x ∷ []) (rest ++ x ∷ []) → IsSubsequence few rest
    left mode rest leaves = elim (subsequence-last few x rest x (leaves-part mode (few ++ x ∷ []) (rest ++ x ∷ []) leaves)) [
      | inl both ↦ both.1
      | inr before ↦ subsequence-trans (subsequence-longer (x ∷ []) (subsequence-refl few)) before
    ]

    pushed_too : (mode : Bool) (others : List (List ℕ)) → IsSubsequence few others → Leaves mode (few ++ x ∷ []) (others ++ x ∷ [])
    pushed_too false others sub = subsequence-after (x ∷ []) sub
    pushed_too true others sub = (subsequence-after (x ∷ []) sub, last-push few x ∙ sym (last-push others x))

    opened : (messages : List (List ℕ)) → IsOpen P got here most spared (messages ++ x ∷ [])
        → IsOpen (λ xs. P (xs ++ x ∷ [])) got here (most - 1) spared messages
    opened messages o = record {
      mode = false;
      lost = λ is. refl;
      any = any;
      fewer = λ is border is_border. subst (λ (ys : List (List ℕ)). P (ys ++ x ∷ []))
          (append-nil (take here got) ∙ ap (λ (n : ℕ). take n got) {x = here} {y = here - border} (omega (arith, is_border.within, a.none some)))
          (any [] (subst (λ (ys : List (List ℕ)). IsSubsequence ys []) (sym (none_left (most - 1 - here) (drop here got) (omega (arith, is)))) (subsequence-refl [])));
      shape = elim o.shape [
        | inl exact ↦ absurd (omega (arith, exact.0, some))
        | inr more ↦ (
            let r = others_of messages (take here got) x o.mode (wanted_after got here most) more.0 (wanted_some got here most some a.enough_most) more.1 more.2 in
            inr (r.rest, r.is, left o.mode r.rest (subst (λ (ys : List (List ℕ)). Leaves o.mode ys (r.rest ++ x ∷ [])) wanted r.leaves)))
      ];
    }
      where
        any : (others : List (List ℕ)) → IsSubsequence few others → P ((take here got ++ others) ++ x ∷ [])
        any others sub = subst (λ (ys : List (List ℕ)). P ys) (sym (append_assoc (take here got) others (x ∷ [])))
            (o.any (others ++ x ∷ []) (subst (λ (ys : List (List ℕ)). Leaves o.mode ys (others ++ x ∷ [])) (sym wanted) (pushed_too o.mode others sub)))

-- and of another one
pub asks_put_other : (x : List ℕ) (here most spared : ℕ) (P : List (List ℕ) → Type 0) (got : List (List ℕ)) → here < most
    → (get_or got (most - 1) [] ≡ x → ⊥) → Asks here most spared false P got → Asks here most spared false (λ xs. P (xs ++ x ∷ [])) got
asks_put_other x here most spared P got some other a = record {
  enough = a.enough;
  enough_most = a.enough_most;
  spared_here = a.spared_here;
  spared_most = a.spared_most;
  none = a.none;
  all = λ is. absurd cc;
  fits = a.fits;
  settled = λ is. absurd cc;
  splits = λ is messages goes. opened messages (a.splits refl (messages ++ x ∷ []) goes);
}
  where
    few : List (List ℕ)
    few = wanted_after got here most

    lost_last : (mode : Bool) (rest : List (List ℕ)) → Leaves mode few (rest ++ x ∷ []) → (mode ≡ false) × IsSubsequence few rest
    lost_last mode rest leaves = by mode (subst (λ (ys : List (List ℕ)). Leaves mode ys (rest ++ x ∷ [])) (wanted_last got here most some a.enough_most) leaves)
      where
        y : List ℕ
        y = get_or got (most - 1) []

        front : List (List ℕ)
        front = wanted_after got here (most - 1)

        by : (mode : Bool) → Leaves mode (front ++ y ∷ []) (rest ++ x ∷ []) → (mode ≡ false) × IsSubsequence few rest
        by true leaves = absurd (other (let alike = sym (last-push front y) ∙ leaves.1 ∙ last-push rest x in cc))
        by false leaves = elim (subsequence-last front y rest x leaves) [
          | inl both ↦ absurd (other both.0)
          | inr before ↦ (refl, subst (λ (ys : List (List ℕ)). IsSubsequence ys rest) (sym (wanted_last got here most some a.enough_most)) before)
        ]

    opened : (messages : List (List ℕ)) → IsOpen P got here most spared (messages ++ x ∷ [])
        → IsOpen (λ xs. P (xs ++ x ∷ [])) got here most spared messages
    opened messages o = elim o.shape [
      | inl exact ↦ absurd (omega (arith, exact.0, some))
      | inr more ↦ (
          let r = others_of messages (take here got) x o.mode few more.0 (wanted_some got here most some a.enough_most) more.1 more.2 in
          let lost = lost_last o.mode r.rest r.leaves in
          record {
            mode = false;
            lost = λ is. refl;
            any = λ others sub. subst (λ (ys : List (List ℕ)). P ys) (sym (append_assoc (take here got) others (x ∷ [])))
                (o.any (others ++ x ∷ []) (subst (λ (mode : Bool). Leaves mode few (others ++ x ∷ [])) (sym lost.0) (subsequence-longer (x ∷ []) sub)));
            fewer = λ is. absurd (omega (arith, is, some));
            shape = inr (r.rest, r.is, lost.1);
          })
    ]

-- a put where nothing more is wanted
pub asks_put_free : (x : List ℕ) (here most spared longer : ℕ) (P : List (List ℕ) → Type 0) (got : List (List ℕ)) → most ≤ here
    → IsLonger got here here spared x longer → Asks here most spared false P got → Asks here most longer false (λ xs. P (xs ++ x ∷ [])) got
asks_put_free x here most spared longer P got no_more l a = record {
  enough = a.enough;
  enough_most = a.enough_most;
  spared_here = l.within;
  spared_most = omega (arith, l.within, a.fits refl);
  none = λ less. absurd (omega (arith, less, no_more));
  all = λ is. absurd cc;
  fits = a.fits;
  settled = λ is. absurd cc;
  splits = λ is messages goes. opened messages (a.splits refl (messages ++ x ∷ []) goes);
}
  where
    level : here ≡ most
    level = omega (arith, no_more, a.fits refl)

    nothing_wanted : wanted_after got here most ≡ []
    nothing_wanted = none_left (most - here) (drop here got) (omega (arith, no_more))

    -- the first ones got, with the message
    with_last : (border : ℕ) → border < here → get_or got (here - 1 - border) [] ≡ x → take (here - (border + 1)) got ++ x ∷ [] ≡ take (here - border) got
    with_last border less same =
        ap (λ (y : List ℕ). take (here - (border + 1)) got ++ y ∷ []) (sym same)
        ∙ ap (λ (n : ℕ). take n got ++ get_or got (here - 1 - border) [] ∷ []) {x = here - (border + 1)} {y = here - 1 - border} (omega arith)
        ∙ sym (take_more got (here - 1 - border) [] (omega (arith, less, a.enough)))
        ∙ ap (λ (n : ℕ). take n got) {x = here - 1 - border + 1} {y = here - border} (omega (arith, less))

    opened : (messages : List (List ℕ)) → IsOpen P got here most spared (messages ++ x ∷ [])
        → IsOpen (λ xs. P (xs ++ x ∷ [])) got here most longer messages
    opened messages o = record {
      mode = false;
      lost = λ is. refl;
      any = λ others sub. any others;
      fewer = λ is border is_border. fewer border is_border;
      shape = elim o.shape [
        | inl exact ↦ exactly exact.1.0 exact.1.1 exact.1.2
        | inr more ↦ by more.0 (from_end more.0) more.1
      ];
    }
      where
        any : (others : List (List ℕ)) → P ((take here got ++ others) ++ x ∷ [])
        any others = subst (λ (ys : List (List ℕ)). P ys) (sym (append_assoc (take here got) others (x ∷ [])))
            (o.any (others ++ x ∷ []) (subst (λ (mode : Bool). Leaves mode (wanted_after got here most) (others ++ x ∷ [])) (sym (o.lost level))
            (subst (λ (ys : List (List ℕ)). IsSubsequence ys (others ++ x ∷ [])) (sym nothing_wanted) (subsequence-nil (others ++ x ∷ [])))))

        fewer : (border : ℕ) → IsBorder got here border longer → P (take (here - border) got ++ x ∷ [])
        fewer zero is = subst (λ (ys : List (List ℕ)). P (ys ++ x ∷ []))
            (append-nil (take here got) ∙ ap (λ (n : ℕ). take n got) {x = here} {y = here - 0} (omega arith)) (any [])
        fewer (suc n) is =
            let f = l.from n (subst (λ (k : ℕ). IsBorder got here k longer) {x = suc n} {y = n + 1} (omega arith) is) in
            subst (λ (ys : List (List ℕ)). P ys)
            (sym (with_last n f.1 f.2) ∙ ap (λ (k : ℕ). take k got ++ x ∷ []) {x = here - (n + 1)} {y = here - suc n} (omega arith))
            (o.fewer level n f.0)

        exactly : (border : ℕ) → IsBorder got here border spared → messages ++ x ∷ [] ≡ take (here - border) got
            → ((here ≡ most) × ((border : ℕ) × IsBorder got here border longer × (messages ≡ take (here - border) got)))
            ⊎ ((others : List (List ℕ)) × (messages ≡ take here got ++ others) × Leaves false (wanted_after got here most) others)
        exactly border is_border is =
            let counted : length messages + 1 ≡ here - border = omega (arith, ap length is, length-append messages (x ∷ []), length-take (here - border) got, a.enough) in
            let less : border < here = omega (arith, counted) in
            let shape : messages ++ x ∷ [] ≡ take (here - 1 - border) got ++ get_or got (here - 1 - border) [] ∷ [] =
            is ∙ ap (λ (n : ℕ). take n got) {x = here - border} {y = here - 1 - border + 1} (omega (arith, less)) ∙ take_more got (here - 1 - border) [] (omega (arith, less, a.enough)) in
            let ends = same_from_push messages (take (here - 1 - border) got) x (get_or got (here - 1 - border) []) shape in
            inl (level, (border + 1, l.to border is_border less (sym ends.1), ends.0 ∙ ap (λ (n : ℕ). take n got) {x = here - 1 - border} {y = here - (border + 1)} (omega arith)))

        by : (others : List (List ℕ)) → FromEnd others → messages ++ x ∷ [] ≡ take here got ++ others
            → ((here ≡ most) × ((border : ℕ) × IsBorder got here border longer × (messages ≡ take (here - border) got)))
            ⊎ ((others : List (List ℕ)) × (messages ≡ take here got ++ others) × Leaves false (wanted_after got here most) others)
        by _ nothing is = exactly 0 (border-none got here spared) (is ∙ append-nil (take here got) ∙ ap (λ (n : ℕ). take n got) {x = here} {y = here - 0} (omega arith))
        by _ (pushed rest y) is =
            let ends = same_from_push messages (take here got ++ rest) x y (is ∙ sym (append_assoc (take here got) rest (y ∷ []))) in
            inr (rest, ends.0, subst (λ (ys : List (List ℕ)). IsSubsequence ys rest) (sym nothing_wanted) (subsequence-nil rest))

-- the least that lets the calls go on, if anything does: and losses can leave it
take_none : (n : ℕ) (xs : List (List ℕ)) → xs ≡ [] → take n xs ≡ []
take_none zero xs none = refl
take_none (suc n) xs none = ap (λ (ys : List (List ℕ)). take (suc n) ys) none

split_at : (n m : ℕ) (xs : List (List ℕ)) → n ≤ m → take n xs ++ take (m - n) (drop n xs) ≡ take m xs
split_at zero m xs less = ap (λ (k : ℕ). take k xs) {x = m - 0} {y = m} (omega arith)
split_at (suc n) zero xs less = absurd (omega (arith, less))
split_at (suc n) (suc m) [] less = take_none (suc m - suc n) [] refl
split_at (suc n) (suc m) (x ∷ xs) less =
    ap (λ (k : ℕ). x ∷ (take n xs ++ take k (drop n xs))) {x = suc m - suc n} {y = m - n} (omega arith) ∙ ap (λ (ys : List (List ℕ)). x ∷ ys) (split_at n m xs (omega (arith, less)))

pub asks_least : (here most spared : ℕ) (settled : Bool) (P : List (List ℕ) → Type 0) (got : List (List ℕ)) → Asks here most spared settled P got
    → (messages : List (List ℕ)) → P messages → P (take (most - spared) got) × IsSubsequence (take (most - spared) got) messages
asks_least here most spared true P got a messages goes =
    let same : messages ≡ take (most - spared) got = a.settled refl messages goes ∙ ap (λ (n : ℕ). take n got) {x = most} {y = most - spared} (omega (arith, a.all refl)) in
    (subst P same goes, subst (λ (ys : List (List ℕ)). IsSubsequence ys messages) same (subsequence-refl messages))
asks_least here most spared false P got a messages goes = by (a.splits refl messages goes) (cases_lt here most)
  where
    prefix : (n m : ℕ) → n ≤ m → IsSubsequence (take n got) (take m got)
    prefix n m less = subst (λ (ys : List (List ℕ)). IsSubsequence ys (take m got)) (take-take n m got less) (subsequence-take n (take m got))

    by : IsOpen P got here most spared messages → ((here < most) ⊎ (most ≤ here))
        → P (take (most - spared) got) × IsSubsequence (take (most - spared) got) messages
    by o (inl some) =
        let whole : take here got ++ wanted_after got here most ≡ take (most - spared) got =
        split_at here most got (omega (arith, some)) ∙ ap (λ (n : ℕ). take n got) {x = most} {y = most - spared} (omega (arith, a.none some)) in (
          subst P whole (o.any (wanted_after got here most) (leaves-refl o.mode (wanted_after got here most))),
          elim o.shape [
            | inl exact ↦ absurd (omega (arith, exact.0, some))
            | inr more ↦ subst (λ (ys : List (List ℕ)). IsSubsequence (take (most - spared) got) ys) (sym more.1)
                (subst (λ (ys : List (List ℕ)). IsSubsequence ys (take here got ++ more.0)) whole (subsequence-before (take here got) (leaves-part o.mode (wanted_after got here most) more.0 more.2)))
          ],
        )
    by o (inr level) =
        let even : here ≡ most = omega (arith, level, a.fits refl) in (
          subst (λ (n : ℕ). P (take (n - spared) got)) even (o.fewer even spared (border-refl got here spared)),
          elim o.shape [
            | inl exact ↦ subst (λ (ys : List (List ℕ)). IsSubsequence (take (most - spared) got) ys) (sym exact.1.2)
                (prefix (most - spared) (here - exact.1.0) (omega (arith, even, exact.1.1.within)))
            | inr more ↦ subst (λ (ys : List (List ℕ)). IsSubsequence (take (most - spared) got) ys) (sym more.1)
                (subsequence-longer more.0 (prefix (most - spared) here (omega (arith, even))))
          ],
        )

-- a put before calls that get these messages, of those got by all
wanted_at : (all got : List (List ℕ)) (first most : ℕ) (y : List ℕ) → drop first all ≡ got → 0 < most → first + most ≤ length all
    → y ≡ get_or all (first + most - 1) y → get_or got (most - 1) [] ≡ y
wanted_at all got first most y from some within is =
    ap (λ (xs : List (List ℕ)). get_or xs (most - 1) []) (sym from) ∙ get_or-drop first all (most - 1) []
    ∙ ap (λ (n : ℕ). get_or all n []) {x = first + (most - 1)} {y = first + most - 1} (omega (arith, some))
    ∙ get_or_default all (first + most - 1) [] y (omega (arith, some, within)) ∙ sym is

pub put_settled : (x : List ℕ) (here most spared : ℕ) (settled : Bool) (P : List (List ℕ) → Type 0) (got : List (List ℕ)) → settled ≡ true
    → Asks here most spared settled P got → Asks here (most - 1) spared settled (λ xs. P (xs ++ x ∷ [])) got
put_settled x here most spared true P got is a = asks_put_settled x here most spared P got a
put_settled x here most spared false P got is a = absurd cc

pub put_wanted : (x : List ℕ) (here most spared : ℕ) (settled : Bool) (P : List (List ℕ) → Type 0) (all got : List (List ℕ)) (first : ℕ) (y : List ℕ)
    → settled ≡ false → drop first all ≡ got → first + most ≤ length all → here < most → y ≡ get_or all (first + most - 1) y → y ≡ x
    → Asks here most spared settled P got → Asks here (most - 1) spared settled (λ xs. P (xs ++ x ∷ [])) got
put_wanted x here most spared true P all got first y unsettled from within some is same a = absurd cc
put_wanted x here most spared false P all got first y unsettled from within some is same a =
    asks_put_wanted x here most spared P got some (wanted_at all got first most y from (omega (arith, some)) within is ∙ same) a

pub put_other : (x : List ℕ) (here most spared : ℕ) (settled : Bool) (P : List (List ℕ) → Type 0) (all got : List (List ℕ)) (first : ℕ) (y : List ℕ)
    → settled ≡ false → drop first all ≡ got → first + most ≤ length all → here < most → y ≡ get_or all (first + most - 1) y → (y ≡ x → ⊥)
    → Asks here most spared settled P got → Asks here most spared settled (λ xs. P (xs ++ x ∷ [])) got
put_other x here most spared true P all got first y unsettled from within some is other a = absurd cc
put_other x here most spared false P all got first y unsettled from within some is other a =
    asks_put_other x here most spared P got some (λ same. other (sym (wanted_at all got first most y from (omega (arith, some)) within is) ∙ same)) a

pub put_free : (x : List ℕ) (here most spared longer : ℕ) (settled : Bool) (P : List (List ℕ) → Type 0) (all got : List (List ℕ)) (first : ℕ)
    → settled ≡ false → drop first all ≡ got → most ≤ here → spared ≤ here → IsLonger all (first + here) here spared x longer
    → Asks here most spared settled P got → Asks here most longer settled (λ xs. P (xs ++ x ∷ [])) got
put_free x here most spared longer true P all got first unsettled from no_more less l a = absurd cc
put_free x here most spared longer false P all got first unsettled from no_more less l a =
    asks_put_free x here most spared longer P got no_more (subst (λ (xs : List (List ℕ)). IsLonger xs here here spared x longer) from (longer_in all first here spared x longer less l)) a
