-- Pieces of a journal that come, part by part.
use Rattle.std.proofs.Common.{◌≡◌, ◌≢◌, ◌∙◌, ◌⊎◌, ℕ, ◌<◌, ◌≤◌, Option, None, Some, IfSome, unwrap_or, List, [], ◌∷◌, ◌++◌, length, take, drop, refl, sym, ap, subst, arith, append_assoc, inl, inr, rules}
use Rattle.std.specs.Io.KnownBytes.{Consumes, IsAtEnd, Keeps}
use Rattle.std.proofs.lemmas.Bool.{cases_lt}
use Rattle.std.proofs.lemmas.List.{append-nil, take-append-drop, take-append-le}
use Rattle.std.proofs.Math.Seq.{drop-append_seam}
use Rattle.amo_text.specs.Line.{Lacks}
use Rattle.amo_text.proofs.Cuts.{no_cut}
use Rattle.amo_journal.specs.declared.version.Version.{Version}
use Rattle.amo_journal.specs.declared.version.Version.TheVariants.{One, Two}
use Rattle.amo_journal.specs.Version.{heading, lines_before, Opens}
use Rattle.amo_pieces.specs.Journal.{IsWhole}
use Rattle.amo_pieces.specs.Text.{Joins, adds_nothing, begins, goes_on, of_another}
use Rattle.amo_pieces.proofs.Openings.{opened}
use Rattle.amo_audit.specs.declared.judged_lines.JudgedLines.{JudgedLines}
use Rattle.amo_audit.specs.Parts.{IsOpened}
use Rattle.amo_audit.specs.Pieces.{LeavesOut}

-- what a reader had is what it gave, and what it has left
pub all_given : (old mid : Option (List ℕ)) (begun more : List ℕ) → Consumes old mid begun → IfSome mid (λ bytes. more ≡ bytes) → IfSome old (λ bytes. begun ++ more ≡ bytes)
all_given None mid begun more gives is = tt
all_given (Some xs) None begun more gives is = absurd gives
all_given (Some xs) (Some ys) begun more gives is = ap (λ (t : List ℕ). begun ++ t) is ∙ sym gives

pub given_twice : (old mid new : Option (List ℕ)) (first second : List ℕ) → Consumes old mid first → Consumes mid new second → Consumes old new (first ++ second)
given_twice None mid new first second a b = tt
given_twice (Some xs) None new first second a b = absurd a
given_twice (Some xs) (Some ys) None first second a b = absurd b
given_twice (Some xs) (Some ys) (Some zs) first second a b = a ∙ ap (λ (t : List ℕ). first ++ t) b ∙ sym (append_assoc first second zs)

pub none_left : (left : Option (List ℕ)) → IsAtEnd left → IfSome left (λ bytes. [] ≡ bytes)
none_left None end = tt
none_left (Some xs) end = sym end

pub left_known : (left : Option (List ℕ)) → IfSome left (λ bytes. unwrap_or left [] ≡ bytes)
left_known None = tt
left_known (Some xs) = refl

pub at_end : (left : Option (List ℕ)) → IsAtEnd left → unwrap_or left [] ≡ []
at_end None end = refl
at_end (Some xs) end = end

-- a piece has begun with its heading, or is all there
abbrev pub HasBegun : List ℕ → List ℕ → Type 0
HasBegun begun more = (6 ≤ length begun) ⊎ (more ≡ [])

pub has_begun : (begun more : List ℕ) (left : Option (List ℕ)) → (length begun < 6 → IsAtEnd left) → (IsAtEnd left → more ≡ []) → HasBegun begun more
has_begun begun more left end none = by (cases_lt (length begun) 6)
  where
    by : (length begun < 6) ⊎ (6 ≤ length begun) → HasBegun begun more
    by (inl short) = inr (none (end short))
    by (inr long) = inl long

-- its version shows where it begins
heading_in_front : (begun more rest : List ℕ) → 6 ≤ length begun → begun ++ more ≡ heading Two ++ rest → (behind : List ℕ) × (begun ≡ heading Two ++ behind)
heading_in_front begun more rest long is =
    let first : take 6 begun ≡ heading Two = sym (take-append-le 6 begun more long) ∙ ap (take 6) is in
    (drop 6 begun, sym (take-append-drop 6 begun) ∙ ap (λ (t : List ℕ). t ++ drop 6 begun) first)

opens_begun : (version : Version) (behind begun more : List ℕ) → Opens version behind begun → HasBegun begun more → Opens version (behind ++ more) (begun ++ more)
opens_begun One behind begun more opens (inl long) =
    (ap (λ (t : List ℕ). t ++ more) opens.0, λ rest e. let (after, is) = heading_in_front begun more rest long e in opens.1 after is)
opens_begun One behind begun more opens (inr none) =
    (ap (λ (t : List ℕ). t ++ more) opens.0, λ rest e. opens.1 rest (sym (append-nil begun) ∙ ap (λ (t : List ℕ). begun ++ t) (sym none) ∙ e))
opens_begun Two behind begun more opens begun' = ap (λ (t : List ℕ). t ++ more) opens ∙ append_assoc (heading Two) behind more

-- a text of whole lines, to which a piece is added
abbrev pub StandsAt : Option Version → List ℕ → Type 0
StandsAt None front = front ≡ []
StandsAt (Some version) front = (front ≢ []) × ((body : List ℕ) × Opens version body front)

pub lacks_whole : (front : List ℕ) → Lacks 10 front → IsWhole front → front ≡ []
lacks_whole front lacks (inl none) = none
lacks_whole front lacks (inr (x, e)) = absurd (no_cut 10 front x [] lacks e)

pub stands_at : (judged : JudgedLines) (version : Option Version) (rest front : List ℕ) → IsOpened judged version rest front → IsWhole front → StandsAt version front
stands_at judged None rest front (is, lacks, good, all) whole = lacks_whole front lacks whole
stands_at judged (Some v) rest front (first, (body, opens, to)) whole = ((λ none. no_cut 10 [] first.line first.behind tt (sym none ∙ first.cut)), (body, opens))

pub joins : (version : Option Version) (front begun more : List ℕ) (count : ℕ) → StandsAt version front → IsWhole front → LeavesOut version begun (Some count) → HasBegun begun more
    → (left_out : ℕ) × Joins front (begun ++ more) (front ++ drop count begun ++ more) left_out
joins None front begun more count none whole is begun' = (0, begins none (rw (none, is) (first_of (search rules, cc))) refl)
joins (Some v) front begun more count (some, (body, opens)) whole (inl (empty, zero)) (inl long) =
    let short = ap length empty in
    absurd (omega (arith, long, short))
joins (Some v) front begun more count (some, (body, opens)) whole (inl (empty, zero)) (inr none) =
    (0, adds_nothing (rw (empty, none) refl) (rw (empty, zero, none) (append-nil (front ++ []) ∙ append-nil front)) refl)
joins (Some v) front begun more count (some, (body, opens)) whole (inr (behind, bytes, opens', is)) begun' =
    let same : drop count begun ≡ behind = ap (λ n. drop n begun) is ∙ ap (drop (length (heading v))) (opened v behind begun opens') ∙ drop-append_seam (heading v) behind in (
      lines_before v,
      goes_on v body (behind ++ more) some whole opens (opens_begun v behind begun more opens' begun')
          (append_assoc front (drop count begun) more ∙ ap (λ (t : List ℕ). front ++ (t ++ more)) same) refl,
    )

pub joins_all : (version : Option Version) (front begun : List ℕ) (count : ℕ) → StandsAt version front → IsWhole front → LeavesOut version begun (Some count)
    → (left_out : ℕ) × Joins front begun (front ++ drop count begun) left_out
joins_all version front begun count stands whole leaves =
    let (n, j) = joins version front begun [] count stands whole leaves (inr refl) in
    (n, subst (λ (t : List ℕ). Joins front t (front ++ drop count begun) n) (append-nil begun) (subst (λ (t : List ℕ). Joins front (begun ++ []) t n) (append-nil (front ++ drop count begun)) j))

first_byte : (begun more : List ℕ) → begun ≢ [] → take 1 begun ≡ take 1 (begun ++ more)
first_byte [] more some = absurd (some refl)
first_byte (b ∷ begun) more some = refl

some_bytes : (begun more : List ℕ) → begun ≢ [] → begun ++ more ≢ []
some_bytes [] more some e = some refl
some_bytes (b ∷ begun) more some e = cc

pub joins_other : (version : Option Version) (front begun more : List ℕ) → StandsAt version front → IsWhole front → LeavesOut version begun None → HasBegun begun more → Joins front (begun ++ more) (front ++ take 1 begun) 0
joins_other None front begun more none whole leaves begun' = absurd leaves
joins_other (Some v) front begun more (some, (body, opens)) whole (bytes, (another, behind, opens', apart)) begun' =
    of_another v another body (behind ++ more) some whole opens (opens_begun another behind begun more opens' begun') apart (some_bytes begun more bytes) (ap (λ (t : List ℕ). front ++ t) (first_byte begun more bytes)) refl

pub nothing_given : (left : Option (List ℕ)) → Consumes left left []
nothing_given None = tt
nothing_given (Some xs) = refl

-- what is kept is given later
pub kept_given : (old mid new : Option (List ℕ)) (more : List ℕ) → Keeps old mid → Consumes mid new more → Consumes old new more
kept_given None mid new more keeps gives = tt
kept_given (Some xs) None new more keeps gives = absurd keeps
kept_given (Some xs) (Some ys) None more keeps gives = absurd gives
kept_given (Some xs) (Some ys) (Some zs) more keeps gives = sym keeps ∙ gives

pub kept_twice : (old mid new : Option (List ℕ)) → Keeps old mid → Keeps mid new → Keeps old new
kept_twice None mid new first second = tt
kept_twice (Some xs) None new first second = absurd first
kept_twice (Some xs) (Some ys) None first second = absurd second
kept_twice (Some xs) (Some ys) (Some zs) first second = second ∙ first

pub keeps_itself : (left : Option (List ℕ)) → Keeps left left
keeps_itself None = tt
keeps_itself (Some xs) = refl

-- all was taken
pub all_taken : (old mid : Option (List ℕ)) (more : List ℕ) → Consumes old mid more → IsAtEnd mid → IfSome old (λ bytes. more ≡ bytes)
all_taken None mid more gives end = tt
all_taken (Some xs) None more gives end = absurd gives
all_taken (Some xs) (Some ys) more gives end = sym (append-nil more) ∙ ap (λ (t : List ℕ). more ++ t) (sym end) ∙ sym gives

pub no_more : (left : Option (List ℕ)) (more : List ℕ) → IfSome left (λ bytes. more ≡ bytes) → IsAtEnd left → (left ≡ None → more ≡ []) → more ≡ []
no_more None more is end none = none refl
no_more (Some xs) more is end none = is ∙ end
