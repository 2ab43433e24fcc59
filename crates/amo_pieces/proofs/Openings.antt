-- Headings, in front of texts that are put together.
use denote.Enum.Bare.{sameb}
use Rattle.std.proofs.Common.{◌≡◌, ◌≢◌, Bool, true, false, not, ℕ, ◌+◌, ◌≤◌, List, [], ◌∷◌, ◌++◌, length, take, drop, refl, sym, ◌∙◌, ap, append_assoc, codes, arith, length-drop}
use Rattle.std.proofs.lemmas.List.{take-append-drop, length-take-le}
use Rattle.std.proofs.Math.Seq.{take-add, drop-append_seam, drop-append-add}
use Rattle.amo_text.specs.Line.{Lacks}
use Rattle.amo_text.proofs.Cuts.{one_cut}
use Rattle.amo_journal.specs.contracts.version.Version.{the_type}
use Rattle.amo_journal.specs.declared.version.Version.{Version}
use Rattle.amo_journal.specs.declared.version.Version.TheVariants.{One, Two}
use Rattle.amo_journal.specs.Version.{heading, lines_before, Opens}
use Rattle.amo_pieces.specs.Journal.{IsWhole}
use Rattle.amo_pieces.specs.Text.{Joins, goes_on, of_another}
use Rattle.amo_pieces.proofs.Wholes.{FirstLine, first_line_of}

no_end : Lacks 10 (codes "amo 2")
no_end = ((λ e. omega (arith, e)), ((λ e. omega (arith, e)), ((λ e. omega (arith, e)), ((λ e. omega (arith, e)), ((λ e. omega (arith, e)), tt)))))

-- whole lines have the heading with what follows them only where they have it alone
heading_within : (front more rest : List ℕ) → (first : FirstLine front) → front ++ more ≡ heading Two ++ rest → front ≡ heading Two ++ first.rest
heading_within front more rest first e =
    let whole : first.line ++ 10 ∷ (first.rest ++ more) ≡ codes "amo 2" ++ 10 ∷ rest =
    sym (append_assoc first.line (10 ∷ first.rest) more) ∙ ap (λ (t : List ℕ). t ++ more) (sym first.cut) ∙ e ∙ append_assoc (codes "amo 2") (10 ∷ []) rest in
    let cut = one_cut 10 first.line (first.rest ++ more) (codes "amo 2") rest first.one no_end whole in
    first.cut ∙ ap (λ (t : List ℕ). t ++ 10 ∷ first.rest) cut.0 ∙ sym (append_assoc (codes "amo 2") (10 ∷ []) first.rest)

-- more behind whole lines stands behind the same heading
pub opens_more : (version : Version) (body front more : List ℕ) → front ≢ [] → IsWhole front → Opens version body front → Opens version (body ++ more) (front ++ more)
opens_more One body front more some whole opens = (
  ap (λ (t : List ℕ). t ++ more) opens.0,
  λ rest e. let first = first_line_of front some whole in opens.1 first.rest (heading_within front more rest first e),
)
opens_more Two body front more some whole opens = ap (λ (t : List ℕ). t ++ more) opens ∙ append_assoc (heading Two) body more

-- no bytes have nothing behind a heading
pub opens_none : (version : Version) (body : List ℕ) → Opens version body [] → body ≡ []
opens_none One body opens = sym opens.0
opens_none Two body opens = cc

pub opened : (version : Version) (body text : List ℕ) → Opens version body text → text ≡ heading version ++ body
opened One body text opens = opens.0
opened Two body text opens = opens

-- both parts of a text have bytes
some_in_front : (before : ℕ) (all : List ℕ) → before ≢ 0 → before ≤ length all → take before all ≢ []
some_in_front before all some within none = let long = length-take-le before all within in let short = ap length none in some (omega (arith, long, short))

some_behind : (before : ℕ) (all : List ℕ) → before ≢ length all → before ≤ length all → drop before all ≢ []
some_behind before all more within none = let long = length-drop before all in let short = ap length none in more (omega (arith, long, short))

-- a piece of another version joins by its first byte
pub joins_other : (all text : List ℕ) (before : ℕ) (version another : Version) (x y : List ℕ) → before ≢ 0 → before ≢ length all → before ≤ length all → IsWhole (take before all)
    → Opens version x (take before all) → Opens another y (drop before all) → another ≢ version → text ≡ take (before + 1) all → Joins (take before all) (drop before all) text 0
joins_other all text before version another x y some more within whole ours theirs apart is =
    of_another version another x y (some_in_front before all some within) whole ours theirs apart (some_behind before all more within) (is ∙ take-add before 1 all) refl

-- one of the same version joins without its heading
pub joins_next : (all text : List ℕ) (before lines : ℕ) (version another : Version) (x y : List ℕ) → before ≢ 0 → before ≤ length all → IsWhole (take before all)
    → Opens version x (take before all) → Opens another y (drop before all) → another ≡ version → text ≡ take before all ++ drop (before + length (heading another)) all → lines ≡ lines_before another
    → Joins (take before all) (drop before all) text lines
joins_next all text before lines version another x y some within whole ours theirs same is out =
    let long = length-take-le before all within in
    let behind : drop (before + length (heading another)) all ≡ y =
    ap (λ (t : List ℕ). drop (before + length (heading another)) t) (sym (take-append-drop before all))
    ∙ ap (λ n. drop (n + length (heading another)) (take before all ++ drop before all)) (sym long)
    ∙ drop-append-add (take before all) (drop before all) (length (heading another))
    ∙ ap (λ (t : List ℕ). drop (length (heading another)) t) (opened another y (drop before all) theirs)
    ∙ drop-append_seam (heading another) y in
    goes_on another x y (some_in_front before all some within) whole (rw same ours) theirs (is ∙ ap (λ (t : List ℕ). take before all ++ t) behind) out

-- whether the test tells two versions apart
pub versions_same : (v w : Version) (told : Bool) → told ≡ not (sameb the_type v w) → told ≡ false → v ≡ w
versions_same One One told is e = refl
versions_same One Two told is e = let both : true ≡ false = sym is ∙ e in cc
versions_same Two One told is e = let both : true ≡ false = sym is ∙ e in cc
versions_same Two Two told is e = refl

pub versions_apart : (v w : Version) (told : Bool) → told ≡ not (sameb the_type v w) → told ≡ true → v ≢ w
versions_apart One One told is e same = let both : false ≡ true = sym is ∙ e in cc
versions_apart One Two told is e same = cc
versions_apart Two One told is e same = cc
versions_apart Two Two told is e same = let both : false ≡ true = sym is ∙ e in cc
