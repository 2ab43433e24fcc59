-- A queue in two parts: the messages that are got next, and the others.
use Rattle.std.proofs.Common.{◌≡◌, ℕ, zero, suc, ◌+◌, ◌-◌, ◌<◌, ◌≤◌, ◌==◌, ◌⊎◌, Bool, true, if◌then◌else◌, Some, List, [], ◌∷◌, ◌++◌, length, take, drop, remove, get_or, slice_get, refl, sym, ◌∙◌, ap, subst, inl, inr, append_assoc, arith}
use Rattle.std.proofs.lemmas.Bool.{cases_lt, cases_eq, ne_eqb, eq-eqb}
use Rattle.std.proofs.lemmas.List.{drop_more, drop_all, get_or_append_left, get_or-append-add, length-drop, length-take, length-append}
use Rattle.std.proofs.lemmas.List.Edits.{length-remove, remove-append_left, remove-append_right}
use Rattle.std.proofs.lemmas.Option.{same_Some}
use Rattle.amo_object.specs.declared.status.Status.{Status}
use Rattle.amo_object.specs.declared.status.Status.TheVariants.{Yes, No}
use Rattle.amo_object.specs.declared.step.Step.TheVariants.{Get, Lose}
use Rattle.amo_object.specs.Queue.{QueueState, after, settled, without, is_any_down}
use Rattle.amo_resolve.specs.declared.draft.Draft.{Draft}
use Rattle.amo_resolve.specs.declared.draft.Loss.TheVariants.{Message}
use Rattle.amo_resolve.specs.declared.replica.Replica.{Replica}
use Rattle.amo_resolve.specs.Telling.{part, known_of, state_of, state_before, Moves, Looked}
use Rattle.amo_resolve.specs.Weaving.{Loses}
use Rattle.amo_resolve.proofs.Planning.{got_one}

-- the first message of a part
pub part_first : (got : List (List ℕ)) (first end : ℕ) → first < end → end ≤ length got → part got first end ≡ get_or got first [] ∷ part got (first + 1) end
part_first got first end some within =
    ap (λ (n : ℕ). take n (drop first got)) {x = end - first} {y = suc (end - (first + 1))} (omega (arith, some))
    ∙ ap (λ (xs : List (List ℕ)). take (suc (end - (first + 1))) xs) (drop_more got first [] (omega (arith, some, within)))

pub part_none : (got : List (List ℕ)) (first end : ℕ) → end ≤ first → part got first end ≡ []
part_none got first end none = ap (λ (n : ℕ). take n (drop first got)) {x = end - first} {y = 0} (omega (arith, none))

pub part_length : (got : List (List ℕ)) (first end : ℕ) → (first < end → end ≤ length got) → length (part got first end) ≡ end - first
part_length got first end within = elim (cases_lt first end) [
  | inl some ↦ omega (arith, within some, length-take (end - first) (drop first got), length-drop first got)
  | inr none ↦ omega (arith, none, ap length (part_none got first end none))
]

-- what is first
pub known_first : (got : List (List ℕ)) (r : Replica) → r.first < r.known → r.known ≤ length got → (state_of got r).messages ≡ get_or got r.first [] ∷ part got (r.first + 1) r.known ++ r.others
known_first got r some within = ap (λ (xs : List (List ℕ)). xs ++ r.others) (part_first got r.first r.known some within)

pub others_first : (got : List (List ℕ)) (r : Replica) → r.known ≤ r.first → (state_of got r).messages ≡ r.others
others_first got r none = ap (λ (xs : List (List ℕ)). xs ++ r.others) (part_none got r.first r.known none)

-- what waits is among the others, if none is known
pub some_others : (got : List (List ℕ)) (r : Replica) → 0 < length (state_of got r).messages → r.known ≤ r.first → 0 < length r.others
some_others got r some none = subst (λ (xs : List (List ℕ)). 0 < length xs) (others_first got r none) some

-- what a get makes of both parts
pub get_moves : (got : List (List ℕ)) (old new : Replica) (m : List ℕ) → (old.first < old.known → old.known ≤ length got)
    → slice_get (state_of got old).messages 0 ≡ Some m → new.known ≡ old.known → (old.first < length got → new.first ≡ old.first + 1)
    → (length got ≤ old.first → new.first ≡ old.first) → (old.first < old.known → new.others ≡ old.others)
    → Moves (Get m) (known_of got old) old.others (known_of got new) new.others
get_moves got old new m within first known next past others = elim (cases_lt old.first old.known) [
  | inl some ↦ (
      let at = next (omega (arith, some, within some)) in
      let there : get_or got old.first [] ≡ m = same_Some (get_or got old.first []) m (sym (ap (λ (xs : List (List ℕ)). slice_get xs 0) (known_first got old some (within some))) ∙ first) in
      let rest : part got (old.first + 1) old.known ≡ known_of got new = ap (λ (n : ℕ). part got n old.known) (sym at) ∙ ap (λ (n : ℕ). part got new.first n) (sym known) in
      inr (part_first got old.first old.known some (within some) ∙ ap (λ (x : List ℕ). x ∷ part got (old.first + 1) old.known) there ∙ ap (λ (xs : List (List ℕ)). m ∷ xs) rest, others some))
  | inr none ↦ inl (part_none got old.first old.known none, part_none got new.first new.known (by none (cases_lt old.first (length got))))
]
  where
    by : old.known ≤ old.first → (old.first < length got) ⊎ (length got ≤ old.first) → new.known ≤ new.first
    by none (inl some) = omega (arith, none, known, next some)
    by none (inr all) = omega (arith, none, known, past all)

-- and of those got later
pub get_later : (got : List (List ℕ)) (old new : ℕ) (m : List ℕ) (later : List (List ℕ)) → (old < length got → new ≡ old + 1)
    → drop old got ≡ m ∷ later → drop new got ≡ later
get_later got old new m later next is = elim (cases_lt old (length got)) [
  | inl some ↦ ap (λ (n : ℕ). drop n got) (next some) ∙ got_one old got m later is
  | inr all ↦ absurd (let none = sym (drop_all old got all) ∙ is in cc)
]

if_is : (a b : ℕ) (x y z : Status) → (a ≡ b → z ≡ x) → ((a ≡ b → ⊥) → z ≡ y) → z ≡ (if a == b then x else y)
if_is a b x y z same other = elim (cases_eq a b) [
  | inl is ↦ same is ∙ ap (λ (t : Bool). if t then x else y) (sym (eq-eqb a b is))
  | inr not ↦ other not ∙ ap (λ (t : Bool). if t then x else y) (sym (ne_eqb a b not))
]

-- the first message has left
pub first_left : (got : List (List ℕ)) (old new : Replica) → (old.first < old.known → old.known ≤ length got) → 0 < length (state_of got old).messages
    → new.known ≡ old.known → (old.first < length got → new.first ≡ old.first + 1) → (length got ≤ old.first → new.first ≡ old.first)
    → (old.first < old.known → new.others ≡ old.others) → (old.known ≤ old.first → new.others ≡ remove old.others 0)
    → new.sender_down ≡ old.sender_down → new.receiver_down ≡ old.receiver_down
    → (new.known ≤ new.first → length new.others ≡ 0 → new.status ≡ settled old.status Yes)
    → ((new.known ≤ new.first → length new.others ≡ 0 → ⊥) → new.status ≡ old.status)
    → state_of got new ≡ without (state_of got old) 0 Yes
first_left got old new within some known next past kept removed sender receiver last not_last =
    ap (λ (messages : List (List ℕ)). record (state_of got new) { messages = messages }) messages
    ∙ ap (λ (status : Status). record (state_of got new) { messages = remove (state_of got old).messages 0; status = status }) status
    ∙ ap (λ (down : Bool). record (without (state_of got old) 0 Yes) { sender_down = down; receiver_down = new.receiver_down }) sender
    ∙ ap (λ (down : Bool). record (without (state_of got old) 0 Yes) { receiver_down = down }) receiver
  where
    on : new.first ≤ old.first + 1
    on = elim (cases_lt old.first (length got)) [
      | inl less ↦ omega (arith, next less)
      | inr all ↦ omega (arith, past all)
    ]

    back : old.first ≤ new.first
    back = elim (cases_lt old.first (length got)) [
      | inl less ↦ omega (arith, next less)
      | inr all ↦ omega (arith, past all)
    ]

    messages : (state_of got new).messages ≡ remove (state_of got old).messages 0
    messages = elim (cases_lt old.first old.known) [
      | inl more ↦ (
          let at = next (omega (arith, more, within more)) in
          ap (λ (xs : List (List ℕ)). known_of got new ++ xs) (kept more)
          ∙ ap (λ (n : ℕ). part got n new.known ++ old.others) at ∙ ap (λ (n : ℕ). part got (old.first + 1) n ++ old.others) known
          ∙ sym (ap (λ (xs : List (List ℕ)). remove xs 0) (known_first got old more (within more))))
      | inr none ↦ others_first got new (omega (arith, none, known, back)) ∙ removed none ∙ sym (ap (λ (xs : List (List ℕ)). remove xs 0) (others_first got old none))
    ]

    count : length (state_of got new).messages + 1 ≡ length (state_of got old).messages
    count = ap (λ (xs : List (List ℕ)). length xs + 1) messages ∙ length-remove (state_of got old).messages 0 some

    inside : new.first < new.known → new.known ≤ length got
    inside more = omega (arith, known, within (omega (arith, known, more, back)))

    lengths : length (state_of got new).messages ≡ new.known - new.first + length new.others
    lengths = length-append (known_of got new) new.others ∙ ap (λ (n : ℕ). n + length new.others) (part_length got new.first new.known inside)

    status : new.status ≡ (if 0 + 1 == length (state_of got old).messages then settled old.status Yes else old.status)
    status = if_is (0 + 1) (length (state_of got old).messages) (settled old.status Yes) old.status new.status
        (λ one. last (omega (arith, one, count, lengths)) (omega (arith, one, count, lengths)))
        (λ more. not_last (λ none empty. more (omega (arith, count, lengths, none, empty))))

-- the last of a list, apart
pub last_apart : (xs : List (List ℕ)) (place : ℕ) → length xs ≡ place + 1 → xs ≡ remove xs place ++ get_or xs place [] ∷ []
last_apart [] place is = absurd (omega (arith, is))
last_apart (x ∷ []) zero is = refl
last_apart (x ∷ y ∷ xs) zero is = absurd (omega (arith, is))
last_apart (x ∷ []) (suc place) is = absurd (omega (arith, is))
last_apart (x ∷ y ∷ xs) (suc place) is = ap (λ (ys : List (List ℕ)). x ∷ ys) (last_apart (y ∷ xs) place (omega (arith, is)))

-- the last of the others is looked at, with what stays behind it
pub message_at : (known others behind : List (List ℕ)) (place : ℕ) → place < length others
    → get_or (known ++ (others ++ behind)) (length known + place) [] ≡ get_or others place []
message_at known others behind place within = get_or-append-add known (others ++ behind) place [] ∙ get_or_append_left others behind [] place within

-- it stays
pub looked_stays : (got : List (List ℕ)) (old new : Replica) (left next end place : ℕ) (draft : Draft) → length old.others ≡ place + 1
    → (old.first < end → end ≤ length got) → left ≤ end → old.first < left → next ≡ left - 1
    → get_or got (left - 1) [] ≡ get_or old.others place [] → new ≡ record old { others = remove old.others place }
    → Looked got old.first left next (length (known_of got old) + length new.others) draft (state_before got old (part got left end)) draft (state_before got new (part got next end))
looked_stays got old new left next end place draft count inside most some is same new_is =
    inl (
      omega (arith, some, is),
      omega (arith, some, is),
      ap (λ (n : ℕ). get_or (state_before got old (part got left end)).messages (length (known_of got old) + n) []) counted
          ∙ message_at (known_of got old) old.others (part got left end) place (omega (arith, count)) ∙ sym same ∙ ap (λ (n : ℕ). get_or got n []) (sym is),
      refl,
      ap (λ (r : Replica). state_before got r (part got next end)) new_is
          ∙ ap (λ (xs : List (List ℕ)). record (state_of got old) { messages = known_of got old ++ xs }) behind,
    )
  where
    counted : length new.others ≡ place
    counted = ap (λ (r : Replica). length r.others) new_is ∙ omega (arith, length-remove old.others place (omega (arith, count)), count)

    split : part got next end ≡ get_or old.others place [] ∷ part got left end
    split = part_first got next end (omega (arith, some, most, is)) (inside (omega (arith, some, most)))
        ∙ ap (λ (n : ℕ). get_or got n [] ∷ part got (next + 1) end) is
        ∙ ap (λ (x : List ℕ). x ∷ part got (next + 1) end) same
        ∙ ap (λ (n : ℕ). get_or old.others place [] ∷ part got n end) {x = next + 1} {y = left} (omega (arith, is, some))

    behind : remove old.others place ++ part got next end ≡ old.others ++ part got left end
    behind = ap (λ (xs : List (List ℕ)). remove old.others place ++ xs) split
        ∙ sym (append_assoc (remove old.others place) (get_or old.others place [] ∷ []) (part got left end))
        ∙ ap (λ (xs : List (List ℕ)). xs ++ part got left end) (sym (last_apart old.others place count))

-- it is lost
pub looked_lost : (got : List (List ℕ)) (old new : Replica) (left next end place before : ℕ) (draft longer : Draft) → length old.others ≡ place + 1
    → (old.first < old.known → old.known ≤ length got) → (old.first < end → end ≤ length got) → old.first ≤ left → left ≤ end → next ≡ left
    → (old.first < left → get_or got (left - 1) [] ≡ get_or old.others place [] → ⊥)
    → is_any_down (state_of got old) ≡ true → before ≡ old.known - old.first → Loses draft (Message (before + place)) longer
    → new.first ≡ old.first → new.known ≡ old.known → new.others ≡ remove old.others place → new.sender_down ≡ old.sender_down → new.receiver_down ≡ old.receiver_down
    → (left ≡ end → new.status ≡ settled old.status No) → ((left ≡ end → ⊥) → new.status ≡ old.status)
    → Looked got old.first left next (length (known_of got old) + length new.others) draft (state_before got old (part got left end)) longer (state_before got new (part got next end))
looked_lost got old new left next end place before draft longer count within inside from most is other down known_before lost_here same_first same_known removed sender receiver last not_last =
    inr (
      is,
      λ some equal. other some (sym (sym there ∙ equal)),
      record {
        allowed = (down, omega (arith, lengths, counted, count));
        reached = reached;
        told = subst (λ (n : ℕ). Loses draft (Message n) longer) {x = before + place} {y = length (known_of got old) + length new.others} (omega (arith, known_before, known_length, counted)) lost_here;
      },
    )
  where
    q : QueueState
    q = state_before got old (part got left end)

    counted : length new.others ≡ place
    counted = ap length removed ∙ omega (arith, length-remove old.others place (omega (arith, count)), count)

    known_length : length (known_of got old) ≡ old.known - old.first
    known_length = part_length got old.first old.known within

    there : get_or q.messages (length (known_of got old) + length new.others) [] ≡ get_or old.others place []
    there = ap (λ (n : ℕ). get_or q.messages (length (known_of got old) + n) []) counted
        ∙ message_at (known_of got old) old.others (part got left end) place (omega (arith, count))

    behind_length : length (part got left end) ≡ end - left
    behind_length = part_length got left end (λ less. inside (omega (arith, from, less)))

    lengths : length q.messages ≡ length (known_of got old) + (length old.others + (end - left))
    lengths = length-append (known_of got old) (old.others ++ part got left end)
        ∙ ap (λ (n : ℕ). length (known_of got old) + n) (length-append old.others (part got left end) ∙ ap (λ (n : ℕ). length old.others + n) behind_length)

    messages : (state_before got new (part got next end)).messages ≡ remove q.messages (length (known_of got old) + length new.others)
    messages = ap (λ (n : ℕ). part got n new.known ++ (new.others ++ part got next end)) same_first
        ∙ ap (λ (n : ℕ). part got old.first n ++ (new.others ++ part got next end)) same_known
        ∙ ap (λ (xs : List (List ℕ)). known_of got old ++ (xs ++ part got next end)) removed
        ∙ ap (λ (n : ℕ). known_of got old ++ (remove old.others place ++ part got n end)) is
        ∙ ap (λ (xs : List (List ℕ)). known_of got old ++ xs) (sym (remove-append_left old.others (part got left end) place (omega (arith, count))))
        ∙ ap (λ (n : ℕ). known_of got old ++ remove (old.others ++ part got left end) n) {x = place} {y = length (known_of got old) + length new.others - length (known_of got old)} (omega (arith, counted))
        ∙ sym (remove-append_right (known_of got old) (old.others ++ part got left end) (length (known_of got old)) (length (known_of got old) + length new.others) refl (omega arith))

    status : new.status ≡ (if length (known_of got old) + length new.others + 1 == length q.messages then settled old.status No else old.status)
    status = if_is (length (known_of got old) + length new.others + 1) (length q.messages) (settled old.status No) old.status new.status
        (λ same. last (omega (arith, same, lengths, counted, count, most)))
        (λ apart. not_last (λ same. apart (omega (arith, same, lengths, counted, count))))

    lost : ℕ
    lost = length (known_of got old) + length new.others

    reached : state_before got new (part got next end) ≡ after q (Lose (length (known_of got old) + length new.others))
    reached = ap (λ (messages : List (List ℕ)). record (state_before got new (part got next end)) { messages = messages }) messages
        ∙ ap (λ (status : Status). record (state_before got new (part got next end)) { messages = remove q.messages lost; status = status }) status
        ∙ ap (λ (down : Bool). record (without q lost No) { sender_down = down; receiver_down = new.receiver_down }) sender
        ∙ ap (λ (down : Bool). record (without q lost No) { receiver_down = down }) receiver
