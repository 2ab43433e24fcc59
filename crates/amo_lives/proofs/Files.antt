-- Files of lives are read in one way.
use Rattle.std.proofs.Common.{◌≡◌, ◌≢◌, ℕ, ◌⊎◌, inl, inr, List, [], ◌∷◌, ◌++◌, refl, sym, ◌∙◌, ap, append_assoc}
use Rattle.std.specs.List.{AllByRecursion, flat_map}
use Rattle.std.proofs.lemmas.List.{append-nil}
use Rattle.amo_object.specs.declared.step.End.{End}
use Rattle.amo_text.specs.Line.{Lacks, text_of}
use Rattle.amo_text.proofs.Cuts.{no_cut}
use Rattle.amo_text.proofs.Lines.{no_line, first_line, one_line}
use Rattle.amo_lives.specs.declared.life.Life.{Life}
use Rattle.amo_lives.specs.Life.{IsKey, InRange, fields_of, heading, heading_fields, line_text}
use Rattle.amo_lives.specs.Lives.{AreLives, FollowOn, LivesState, MayFollow, Tells, text_of_lives}
use Rattle.amo_lives.proofs.Fields.{IsLine-fields_of, IsLine-heading, one_heading, one_life}

-- lists of lives, joined and parted
pub all_join : (P : Life → Type 0) (xs ys : List Life) → AllByRecursion P xs → AllByRecursion P ys → AllByRecursion P (xs ++ ys)
all_join P [] ys first second = second
all_join P (x ∷ xs) ys first second = (first.0, all_join P xs ys first.1 second)

pub all_rest : (P : Life → Type 0) (xs ys : List Life) → AllByRecursion P (xs ++ ys) → AllByRecursion P ys
all_rest P [] ys all = all
all_rest P (x ∷ xs) ys all = all_rest P xs ys all.1

pub follow_join : (before xs ys : List Life) → FollowOn before xs → FollowOn (before ++ xs) ys → FollowOn before (xs ++ ys)
follow_join before [] ys first second = rw (← append-nil before) second
follow_join before (x ∷ xs) ys first second = (first.0, follow_join (before ++ x ∷ []) xs ys first.1 (rw (append_assoc before (x ∷ []) xs) second))

pub follow_rest : (before xs ys : List Life) → FollowOn before (xs ++ ys) → FollowOn (before ++ xs) ys
follow_rest before [] ys all = rw (append-nil before) all
follow_rest before (x ∷ xs) ys all = rw (← append_assoc before (x ∷ []) xs) (follow_rest (before ++ x ∷ []) xs ys all.1)

-- one life more
pub one_more : (lives : List Life) (life : Life) → AreLives lives → InRange life → MayFollow lives life → AreLives (lives ++ life ∷ [])
one_more lives life are known follows = record {
  in_range = all_join InRange lives (life ∷ []) are.in_range (known, tt);
  in_order = follow_join [] lives (life ∷ []) are.in_order (follows, tt);
}

cons_same : (x y : Life) (xs ys : List Life) → x ≡ y → xs ≡ ys → x ∷ xs ≡ y ∷ ys
cons_same x y xs ys e f = rw (e, f) refl

-- of two lists of lines that begin one text, one goes on from the other
abbrev pub Meets : List Life → List Life → List ℕ → List ℕ → Type 0
Meets ks ls x y = (more : List Life) × (ls ≡ ks ++ more) × (x ≡ flat_map line_text more ++ y)

behind_one : (k l : Life) (ks ls : List Life) (x y : List ℕ) → k ≡ l → Meets ks ls x y → Meets (k ∷ ks) (l ∷ ls) x y
behind_one k l ks ls x y same (more, grown, rest) = (more, cons_same l k ls (ks ++ more) (sym same) grown, rest)

pub lines_meet : (ks ls : List Life) (x y : List ℕ) → AllByRecursion InRange ks → AllByRecursion InRange ls → flat_map line_text ks ++ x ≡ flat_map line_text ls ++ y → Meets ks ls x y ⊎ Meets ls ks y x
lines_meet [] ls x y p q e = inl (ls, refl, e)
lines_meet (k ∷ ks) [] x y p q e = inr (k ∷ ks, refl, sym e)
lines_meet (k ∷ ks) (l ∷ ls) x y p q e =
    let whole = sym (append_assoc (line_text k) (flat_map line_text ks) x) ∙ e ∙ append_assoc (line_text l) (flat_map line_text ls) y in
    let cut = one_line (fields_of k) (fields_of l) _ _ (IsLine-fields_of k p.0) (IsLine-fields_of l q.0) whole in
    let head = one_life k l p.0 q.0 cut.0 in
    elim (lines_meet ks ls x y p.1 q.1 cut.1) [ inl m ↦ inl (behind_one k l ks ls x y head m) | inr m ↦ inr (behind_one l k ls ks y x (sym head) m) ]

no_more : (more : List Life) (torn torn' : List ℕ) → Lacks 10 torn → torn ≡ flat_map line_text more ++ torn' → more ≡ []
no_more [] torn torn' endless e = refl
no_more (m ∷ more) torn torn' endless e = absurd (no_line torn (fields_of m) _ endless (e ∙ append_assoc (line_text m) (flat_map line_text more) torn'))

-- lines that end in a text without a line's end go on from all that begin so
pub lines_on : (ks ls : List Life) (rest torn : List ℕ) → AllByRecursion InRange ks → AllByRecursion InRange ls → Lacks 10 torn → flat_map line_text ks ++ rest ≡ flat_map line_text ls ++ torn → Meets ks ls rest torn
lines_on ks ls rest torn p q endless e = elim (lines_meet ks ls rest torn p q e) [ inl m ↦ m | inr m ↦ turned m ]
  where
    turned : Meets ls ks torn rest → Meets ks ls rest torn
    turned (more, grown, whole) =
        let none = no_more more torn rest endless whole in
        ([], sym (append-nil ks ∙ grown ∙ ap (λ (m : List Life). ls ++ m) none ∙ append-nil ls), sym (whole ∙ ap (λ (m : List Life). flat_map line_text m ++ rest) none))

-- what is behind a heading
pub behind_heading : (s t : End) (k l x y : List ℕ) → IsKey k → IsKey l → heading s k ++ x ≡ heading t l ++ y → (s ≡ t) × (k ≡ l) × (x ≡ y)
behind_heading s t k l x y known known' e =
    let cut = one_line (heading_fields s k) (heading_fields t l) x y (IsLine-heading s k known) (IsLine-heading t l known') e in
    let same = one_heading s t k l known known' cut.0 in
    (same.0, same.1, cut.1)

-- bytes that begin as the file of some lives tell of those and more
pub file_on : (side : End) (key : List ℕ) (lives : List Life) (rest bytes : List ℕ) (t : LivesState) → IsKey key → AllByRecursion InRange lives
    → bytes ≡ text_of_lives (record { side = side; key = key; lives = lives }) ++ rest → (told : Tells t bytes)
    → (side ≡ t.side) × (key ≡ t.key) × ((more : List Life) × (t.lives ≡ lives ++ more) × (rest ≡ flat_map line_text more ++ told.torn))
file_on side key lives rest bytes t known range e told =
    let whole = sym (append_assoc (heading side key) (flat_map line_text lives) rest) ∙ sym e ∙ told.parts ∙ append_assoc (heading t.side t.key) (flat_map line_text t.lives) told.torn in
    let cut = behind_heading side t.side key t.key _ _ known told.key whole in
    (cut.0, cut.1, lines_on lives t.lives rest told.torn range told.lives.in_range told.endless cut.2)

pub same_lives : (side side' : End) (key key' : List ℕ) (lives lives' : List Life) → side ≡ side' → key ≡ key' → lives ≡ lives'
    → (let s : LivesState = record { side = side; key = key; lives = lives } in s) ≡ record { side = side'; key = key'; lives = lives' }
same_lives side side' key key' lives lives' e1 e2 e3 = rw (e1, e2, e3) refl

-- bytes tell of one list of lives
pub one_file : (bytes : List ℕ) (s t : LivesState) → Tells s bytes → Tells t bytes → s ≡ t
one_file bytes s t told told' =
    let on = file_on s.side s.key s.lives told.torn bytes t told.key told.lives.in_range told.parts told' in
    let none = no_more on.2.0 told.torn told'.torn told.endless on.2.2 in
    let lives : s.lives ≡ t.lives = sym (on.2.1 ∙ ap (λ (m : List Life). s.lives ++ m) none ∙ append-nil s.lives) in
    same_lives s.side t.side s.key t.key s.lives t.lives on.0 on.1 lives

-- a life's line, by its text and what is behind it
pub line_here : (life : Life) (text more : List ℕ) → text ≡ text_of (fields_of life) → text ++ 10 ∷ more ≡ line_text life ++ more
line_here life text more same = ap (λ (t : List ℕ). t ++ 10 ∷ more) same ∙ sym (append_assoc (text_of (fields_of life)) (10 ∷ []) more)

-- a text with a line's end that is no life's up to there
pub ends : (text more : List ℕ) → ¬ (Lacks 10 (text ++ 10 ∷ more))
ends text more lacks = no_cut 10 (text ++ 10 ∷ more) text more lacks refl

pub no_life : (text more : List ℕ) → Lacks 10 text → ((life : Life) → InRange life → text ≢ text_of (fields_of life))
    → (life : Life) (after : List ℕ) → InRange life → text ++ 10 ∷ more ≢ line_text life ++ after
no_life text more lacks none life after known e = none life known (sym (first_line (fields_of life) after text more (IsLine-fields_of life known).1 lacks (sym e)).0)
