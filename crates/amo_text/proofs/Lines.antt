-- Lines are read in one way.
use Rattle.std.proofs.Common.{◌≡◌, ◌≢◌, ℕ, List, [], ◌∷◌, ◌++◌, refl, sym, ◌∙◌, ap, append_assoc, arith}
use Rattle.std.specs.List.{AllByRecursion}
use Rattle.amo_text.specs.Line.{Lacks, IsField, IsLine, text_of, line_of}
use Rattle.amo_text.proofs.Cuts.{Lacks-append, one_cut, no_cut}

-- the fields of a line have no line feed between them
pub Lacks-text_of : (fields : List (List ℕ)) → AllByRecursion IsField fields → Lacks 10 (text_of fields)
Lacks-text_of [] all = tt
Lacks-text_of (w ∷ []) all = all.0.1
Lacks-text_of (w ∷ v ∷ fields) all = Lacks-append 10 w (32 ∷ text_of (v ∷ fields)) all.0.1 (λ same. omega arith, Lacks-text_of (v ∷ fields) all.1)

-- a text with a space has its first field before it
pub first_field : (w : List ℕ) (fields : List (List ℕ)) (field rest : List ℕ) → IsField w → Lacks 32 field → text_of (w ∷ fields) ≡ field ++ 32 ∷ rest
    → (w ≡ field) × (text_of fields ≡ rest) × (fields ≢ [])
first_field w [] field rest known lacks e = absurd (no_cut 32 w field rest known.0 e)
first_field w (v ∷ fields) field rest known lacks e = let cut = one_cut 32 w (text_of (v ∷ fields)) field rest known.0 lacks e in (cut.0, cut.1, λ none. cc)

-- a text without a space is one field
pub only_field : (w : List ℕ) (fields : List (List ℕ)) (field : List ℕ) → Lacks 32 field → text_of (w ∷ fields) ≡ field → (w ≡ field) × (fields ≡ [])
only_field w [] field lacks e = (e, refl)
only_field w (v ∷ fields) field lacks e = absurd (no_cut 32 field w (text_of (v ∷ fields)) lacks (sym e))

-- two lists of fields with one text are the same
pub text_of-injective : (us vs : List (List ℕ)) → IsLine us → IsLine vs → text_of us ≡ text_of vs → us ≡ vs
text_of-injective [] vs known_us known_vs e = absurd (known_us.0 refl)
text_of-injective (u ∷ us) [] known_us known_vs e = absurd (known_vs.0 refl)
text_of-injective (u ∷ []) (v ∷ []) known_us known_vs e = ap (λ w. w ∷ []) e
text_of-injective (u ∷ []) (v ∷ w ∷ vs) known_us known_vs e = absurd (no_cut 32 u v (text_of (w ∷ vs)) known_us.1.0.0 e)
text_of-injective (u ∷ t ∷ us) (v ∷ []) known_us known_vs e = absurd (no_cut 32 v u (text_of (t ∷ us)) known_vs.1.0.0 (sym e))
text_of-injective (u ∷ t ∷ us) (v ∷ w ∷ vs) known_us known_vs e =
    let cut = one_cut 32 u (text_of (t ∷ us)) v (text_of (w ∷ vs)) known_us.1.0.0 known_vs.1.0.0 e in
    let rest = text_of-injective (t ∷ us) (w ∷ vs) ((λ none. cc), known_us.1.1) ((λ none. cc), known_vs.1.1) cut.1 in
    rw (cut.0, rest) refl

line_of-append : (fields : List (List ℕ)) (more : List ℕ) → line_of fields ++ more ≡ text_of fields ++ 10 ∷ more
line_of-append fields more = append_assoc (text_of fields) (10 ∷ []) more

-- a text without a line feed begins with no line
pub no_line : (text : List ℕ) (fields : List (List ℕ)) (more : List ℕ) → Lacks 10 text → text ≢ line_of fields ++ more
no_line text fields more lacks e = no_cut 10 text (text_of fields) more lacks (e ∙ line_of-append fields more)

-- a text that begins with a line has that line before its first line feed
pub first_line : (fields : List (List ℕ)) (more text rest : List ℕ) → AllByRecursion IsField fields → Lacks 10 text → line_of fields ++ more ≡ text ++ 10 ∷ rest
    → (text_of fields ≡ text) × (more ≡ rest)
first_line fields more text rest known lacks e =
    one_cut 10 (text_of fields) more text rest (Lacks-text_of fields known) lacks (sym (line_of-append fields more) ∙ e)

-- two lines that begin one text are the same
pub one_line : (us vs : List (List ℕ)) (x y : List ℕ) → IsLine us → IsLine vs → line_of us ++ x ≡ line_of vs ++ y → (us ≡ vs) × (x ≡ y)
one_line us vs x y known_us known_vs e =
    let cut = first_line us x (text_of vs) y known_us.1 (Lacks-text_of vs known_vs.1) (e ∙ line_of-append vs y) in
    (text_of-injective us vs known_us known_vs cut.0, cut.1)

-- two lists of fields with one line are the same
pub line_of-injective : (us vs : List (List ℕ)) → IsLine us → IsLine vs → line_of us ≡ line_of vs → us ≡ vs
line_of-injective us vs known_us known_vs e = (one_line us vs [] [] known_us known_vs (ap (λ t. t ++ []) e)).0
