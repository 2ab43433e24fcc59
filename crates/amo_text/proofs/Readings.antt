-- Files of lines are read in one way, and have one first malformed line at most.
use Rattle.std.proofs.Common.{◌≡◌, ◌≢◌, ℕ, suc, ◌+◌, ◌≤◌, List, [], ◌∷◌, ◌++◌, refl, sym, ◌∙◌, ap, append_assoc, length, length-append, arith, true, false, eqb}
use Rattle.std.proofs.lemmas.Bool.{eqb-true}
use Rattle.std.proofs.lemmas.List.{append-nil, nil_from_length}
use Rattle.std.proofs.lemmas.Grind.{flat_map-append}
use Rattle.std.specs.List.{AllByRecursion, flat_map}
use Rattle.amo_text.specs.Line.{Lacks, IsLine, text_of, line_of}
use Rattle.amo_text.specs.Items.{item_line, SpellsItems, AreLines, IsUnreadable, IsMalformedAt}
use Rattle.amo_text.proofs.Cuts.{no_cut}
use Rattle.amo_text.proofs.Lines.{no_line, first_line, one_line}

-- bytes that are not empty, and bytes that are
pub not_empty : (xs : List ℕ) → false ≡ eqb (length xs) 0 → xs ≢ []
not_empty [] e same = cc
not_empty (x ∷ xs) e same = cc

pub is_empty : (xs : List ℕ) → true ≡ eqb (length xs) 0 → xs ≡ []
is_empty xs e = nil_from_length _ (eqb-true _ _ (sym e))

-- given the fields of an item, and which items there are
module _ {A : Type 0} (fields_of : A → List (List ℕ)) (InRange : A → Type 0) where
  -- these items were read, and this is left
  abbrev pub IsReadTo : List ℕ → List A → List ℕ → Type 0
  IsReadTo bytes items rest = AllByRecursion InRange items × (bytes ≡ flat_map (item_line fields_of InRange) items ++ rest)

  -- so many items were read, and this is left
  abbrev pub HasRead : List ℕ → ℕ → List ℕ → Type 0
  HasRead bytes number rest = (items : List A) × IsReadTo bytes items rest × (number ≡ length items)

-- given the fields of an item, which items there are, and that these fields are a line
module _ {A : Type 0} (fields_of : A → List (List ℕ)) (InRange : A → Type 0) (line : (a : A) → InRange a → IsLine (fields_of a)) where
  -- where two items have two lines, a text is the lines of one list of items at most
  pub one_reading : ((a b : A) → InRange a → InRange b → fields_of a ≡ fields_of b → a ≡ b)
      → (first second : List A) → AllByRecursion InRange first → AllByRecursion InRange second
      → flat_map (λ a. line_of (fields_of a)) first ≡ flat_map (λ a. line_of (fields_of a)) second → first ≡ second
  one_reading apart [] [] p q e = refl
  one_reading apart [] (b ∷ second) p q e = absurd (no_line [] (fields_of b) _ tt e)
  one_reading apart (a ∷ first) [] p q e = absurd (no_line [] (fields_of a) _ tt (sym e))
  one_reading apart (a ∷ first) (b ∷ second) p q e =
      let cut = one_line (fields_of a) (fields_of b) _ _ (line a p.0) (line b q.0) e in
      let head = apart a b p.0 q.0 cut.0 in
      let tail = one_reading apart first second p.1 q.1 cut.1 in
      rw (head, tail) refl

  -- bytes without a line's end are not readable
  pub endless : (rest : List ℕ) → rest ≢ [] → Lacks 10 rest → IsUnreadable fields_of InRange rest
  endless rest some lacks = (some, λ item more known. no_line rest (fields_of item) more lacks)

  -- nor are bytes that are no item up to their first line's end
  pub unread : (rest text more : List ℕ) → rest ≡ text ++ 10 ∷ more → Lacks 10 text
      → ((item : A) → InRange item → text ≢ text_of (fields_of item)) → IsUnreadable fields_of InRange rest
  unread rest text more cut lacks none = (
    (λ e. no_cut 10 [] text more tt (sym e ∙ cut)),
    λ item after known e. none item known (sym (first_line (fields_of item) after text more (line item known).1 lacks (sym e ∙ cut)).0),
  )

  -- lines, and after them what is not readable, are no list of lines
  unread_not_spelt : (ks ls : List A) (rest : List ℕ) → AllByRecursion InRange ks → AllByRecursion InRange ls → IsUnreadable fields_of InRange rest
      → flat_map (λ a. line_of (fields_of a)) ks ++ rest ≢ flat_map (λ a. line_of (fields_of a)) ls
  unread_not_spelt [] [] rest p q unread e = unread.0 e
  unread_not_spelt [] (l ∷ ls) rest p q unread e = unread.1 l _ q.0 e
  unread_not_spelt (k ∷ ks) [] rest p q unread e =
      no_line [] (fields_of k) _ tt (sym e ∙ append_assoc (line_of (fields_of k)) (flat_map (λ a. line_of (fields_of a)) ks) rest)
  unread_not_spelt (k ∷ ks) (l ∷ ls) rest p q unread e =
      let cut = one_line (fields_of k) (fields_of l) _ _ (line k p.0) (line l q.0)
      (sym (append_assoc (line_of (fields_of k)) (flat_map (λ a. line_of (fields_of a)) ks) rest) ∙ e) in
      unread_not_spelt ks ls rest p.1 q.1 unread cut.1

  -- one text is so many lines, and after them what is not readable
  one_length : (ks ls : List A) (x y : List ℕ) → AllByRecursion InRange ks → AllByRecursion InRange ls
      → IsUnreadable fields_of InRange x → IsUnreadable fields_of InRange y
      → flat_map (λ a. line_of (fields_of a)) ks ++ x ≡ flat_map (λ a. line_of (fields_of a)) ls ++ y → length ks ≡ length ls
  one_length [] [] x y p q first second e = refl
  one_length [] (l ∷ ls) x y p q first second e =
      absurd (first.1 l _ q.0 (e ∙ append_assoc (line_of (fields_of l)) (flat_map (λ a. line_of (fields_of a)) ls) y))
  one_length (k ∷ ks) [] x y p q first second e =
      absurd (second.1 k _ p.0 (sym e ∙ append_assoc (line_of (fields_of k)) (flat_map (λ a. line_of (fields_of a)) ks) x))
  one_length (k ∷ ks) (l ∷ ls) x y p q first second e =
      let cut = one_line (fields_of k) (fields_of l) _ _ (line k p.0) (line l q.0)
      (sym (append_assoc (line_of (fields_of k)) (flat_map (λ a. line_of (fields_of a)) ks) x) ∙ e
      ∙ append_assoc (line_of (fields_of l)) (flat_map (λ a. line_of (fields_of a)) ls) y) in
      ap suc (one_length ks ls x y p.1 q.1 first second cut.1)

  -- bytes with a malformed line are the lines of no list of items
  pub malformed_not_spelt : (bytes : List ℕ) (number : ℕ) (items : List A)
      → IsMalformedAt fields_of InRange bytes number → ¬ (SpellsItems fields_of InRange bytes items)
  malformed_not_spelt bytes number items (ks, front, rest, spells, unread, whole, count) spelt =
      unread_not_spelt ks items rest spells.0 spelt.0 unread (ap (λ t. t ++ rest) (sym spells.1) ∙ sym whole ∙ spelt.1)

  -- and one line of theirs is the first that is malformed
  pub one_malformed : (bytes : List ℕ) (m n : ℕ) → IsMalformedAt fields_of InRange bytes m → IsMalformedAt fields_of InRange bytes n → m ≡ n
  one_malformed bytes m n (ks, front, rest, spells, unread, whole, count) (ls, front', rest', spells', unread', whole', count') =
      let same : flat_map (λ a. line_of (fields_of a)) ks ++ rest ≡ flat_map (λ a. line_of (fields_of a)) ls ++ rest'
      = ap (λ t. t ++ rest) (sym spells.1) ∙ sym whole ∙ whole' ∙ ap (λ t. t ++ rest') spells'.1 in
      count ∙ ap (λ k. k + 1) (one_length ks ls rest rest' spells.0 spells'.0 unread unread' same) ∙ sym count'

  -- what stands behind an item's line
  pub in_front : (item : A) (rest text more : List ℕ) → rest ≡ text ++ 10 ∷ more → text ≡ text_of (fields_of item) → rest ≡ item_line fields_of InRange item ++ more
  in_front item rest text more cut same =
      cut ∙ ap (λ (t : List ℕ). t ++ 10 ∷ more) same ∙ sym (append_assoc (text_of (fields_of item)) (10 ∷ []) more)

  in_range_push : (items : List A) (item : A) → AllByRecursion InRange items → InRange item → AllByRecursion InRange (items ++ item ∷ [])
  in_range_push [] item all known = (known, tt)
  in_range_push (i ∷ items) item all known = (all.0, in_range_push items item all.1 known)

  -- one item more
  pub read_on : (bytes rest more : List ℕ) (items : List A) (item : A) → IsReadTo fields_of InRange bytes items rest → InRange item
      → rest ≡ item_line fields_of InRange item ++ more → IsReadTo fields_of InRange bytes (items ++ item ∷ []) more
  read_on bytes rest more items item (all, whole) known here = (
    in_range_push items item all known,
    whole ∙ ap (λ (t : List ℕ). flat_map (item_line fields_of InRange) items ++ t) here
        ∙ sym (append_assoc (flat_map (item_line fields_of InRange) items) (item_line fields_of InRange item) more)
        ∙ ap (λ (t : List ℕ). t ++ more) (sym (rw (flat_map-append (item_line fields_of InRange) items (item ∷ []), append-nil) refl)),
  )

  -- one item more
  pub one_more : (bytes rest more : List ℕ) (number : ℕ) (item : A) → HasRead fields_of InRange bytes number rest → InRange item
      → rest ≡ item_line fields_of InRange item ++ more → HasRead fields_of InRange bytes (number + 1) more
  one_more bytes rest more number item (items, read, count) known here =
      (items ++ item ∷ [], read_on bytes rest more items item read known here, ap (λ n. n + 1) count ∙ sym (length-append items (item ∷ [])))

  -- here is the first malformed line
  pub malformed_after : (bytes rest : List ℕ) (number : ℕ) → HasRead fields_of InRange bytes number rest → rest ≢ []
      → ((item : A) (more : List ℕ) → InRange item → rest ≢ item_line fields_of InRange item ++ more) → IsMalformedAt fields_of InRange bytes (number + 1)
  malformed_after bytes rest number (items, read, count) some none =
      (items, flat_map (item_line fields_of InRange) items, rest, (read.0, refl), (some, none), read.1, ap (λ n. n + 1) count)

  -- all was read
  pub all_read : (bytes rest : List ℕ) (items : List A) → IsReadTo fields_of InRange bytes items rest → rest ≡ [] → SpellsItems fields_of InRange bytes items
  all_read bytes rest items (all, whole) empty =
      (all, whole ∙ ap (λ (t : List ℕ). flat_map (item_line fields_of InRange) items ++ t) empty ∙ append-nil (flat_map (item_line fields_of InRange) items))

  -- what is behind a line is shorter
  pub shorter_behind : (item : A) (rest more : List ℕ) → rest ≡ item_line fields_of InRange item ++ more → length more + 1 ≤ length rest
  shorter_behind item rest more e =
      let whole = ap length (e ∙ append_assoc (text_of (fields_of item)) (10 ∷ []) more) in
      let long = length-append (text_of (fields_of item)) (10 ∷ more) in
      omega arith

  -- behind the first of some lines stand lines
  pub behind : (bytes : List ℕ) (item : A) (more : List ℕ) → AreLines fields_of InRange bytes → InRange item
      → bytes ≡ item_line fields_of InRange item ++ more → AreLines fields_of InRange more
  behind bytes item more ([], spelt) known here = absurd (no_line [] (fields_of item) more tt (sym spelt.1 ∙ here))
  behind bytes item more (i ∷ items, spelt) known here =
      let cut = one_line (fields_of item) (fields_of i) more (flat_map (item_line fields_of InRange) items) (line item known) (line i spelt.0.0) (sym here ∙ spelt.1) in
      (items, (spelt.0.1, cut.1))

  -- lines with no line in front are none
  pub no_more : (bytes : List ℕ) → AreLines fields_of InRange bytes
      → ((item : A) (more : List ℕ) → InRange item → bytes ≢ item_line fields_of InRange item ++ more) → bytes ≡ []
  no_more bytes ([], spelt) none = spelt.1
  no_more bytes (i ∷ items, spelt) none = absurd (none i (flat_map (item_line fields_of InRange) items) spelt.0.0 spelt.1)
