-- The text of pieces is a journal exactly where they are.
use Rattle.std.proofs.Common.{◌≡◌, ◌≢◌, ◌⊎◌, ◌↔◌, inl, inr, subst, ℕ, ◌+◌, List, [], ◌∷◌, ◌++◌, length, take, refl, sym, ◌∙◌, ap, append_assoc, arith, length-append}
use Rattle.std.proofs.lemmas.List.{append-nil}
use Rattle.std.specs.Fmt.{decimal}
use Rattle.std.specs.List.{AllByRecursion, flat_map}
use Rattle.amo_text.specs.Line.{text_of}
use Rattle.amo_text.proofs.Cuts.{one_cut}
use Rattle.amo_text.proofs.Lines.{Lacks-text_of}
use Rattle.amo_world.specs.declared.event.Event.{Event}
use Rattle.amo_journal.specs.declared.numbered.Numbered.{Numbered}
use Rattle.amo_journal.specs.declared.version.Version.{Version}
use Rattle.amo_journal.specs.declared.version.Version.TheVariants.{One}
use Rattle.amo_journal.specs.Version.{Opens}
use Rattle.amo_journal.specs.Journal.{InRange, event_fields, fields_of, line_text, numbered, SpellsLines, AreEvents, IsJournal}
use Rattle.amo_journal.proofs.Fields.{IsLine-fields_of}
use Rattle.amo_journal.proofs.Unambiguous.{one_opening}
use Rattle.amo_pieces.specs.Journal.{IsWhole, IsPiece, ArePieces, AreJournal}
use Rattle.amo_pieces.specs.Text.{Joins, begins, adds_nothing, goes_on, of_another, torn, IsTextOf}
use Rattle.amo_pieces.proofs.Wholes.{FirstLine, first_line_of, whole_spelt, whole_text, whole_body}
use Rattle.amo_pieces.proofs.Openings.{opens_more, opens_none}

-- lines that begin with whole ones are cut there
pub record Cut (version : Version) (front rest : List ℕ) : Type 0 where
  pub earlier : List Numbered
  pub later : List Numbered
  pub spells : SpellsLines version front earlier
  pub goes_on : SpellsLines version rest later

cut_behind : (version : Version) (front rest : List ℕ) (line : Numbered) → InRange version line → (found : FirstLine front) → (found.line ≡ text_of (fields_of line)) → Cut version found.rest rest → Cut version front rest
cut_behind version front rest line known found same cut = record {
  earlier = line ∷ cut.earlier;
  later = cut.later;
  spells = (
    (known, cut.spells.0),
    found.cut ∙ ap (λ (t : List ℕ). t ++ 10 ∷ found.rest) same ∙ ap (λ (t : List ℕ). text_of (fields_of line) ++ 10 ∷ t) cut.spells.1
        ∙ sym (append_assoc (text_of (fields_of line)) (10 ∷ []) (flat_map line_text cut.earlier)),
  );
  goes_on = cut.goes_on;
}

cut_first : (version : Version) (line : Numbered) (lines : List Numbered) (front rest : List ℕ) → ((found : FirstLine front) → SpellsLines version (found.rest ++ rest) lines → Cut version found.rest rest)
    → InRange version line → AllByRecursion (InRange version) lines → FirstLine front → front ++ rest ≡ line_text line ++ flat_map line_text lines → Cut version front rest
cut_first version line lines front rest again known all found e =
    let here : found.line ++ 10 ∷ (found.rest ++ rest) ≡ text_of (fields_of line) ++ 10 ∷ flat_map line_text lines =
    sym (append_assoc found.line (10 ∷ found.rest) rest) ∙ ap (λ (t : List ℕ). t ++ rest) (sym found.cut) ∙ e ∙ append_assoc (text_of (fields_of line)) (10 ∷ []) (flat_map line_text lines) in
    let both = one_cut 10 found.line (found.rest ++ rest) (text_of (fields_of line)) (flat_map line_text lines) found.one (Lacks-text_of (fields_of line) (IsLine-fields_of version line known).1) here in
    cut_behind version front rest line known found both.0 (again found (all, both.1))

-- nothing in front is no line
cut_nothing : (version : Version) (rest : List ℕ) (lines : List Numbered) → SpellsLines version rest lines → Cut version [] rest
cut_nothing version rest lines spells = record { earlier = []; later = lines; spells = (tt, refl); goes_on = spells }

cut_lines : (version : Version) (lines : List Numbered) (front rest : List ℕ) → IsWhole front → SpellsLines version (front ++ rest) lines → Cut version front rest
cut_lines version [] [] rest whole spells = cut_nothing version rest [] spells
cut_lines version (line ∷ lines) [] rest whole spells = cut_nothing version rest (line ∷ lines) spells
cut_lines version [] (b ∷ front) rest whole spells = let none = spells.1 in cc
cut_lines version (line ∷ lines) (b ∷ front) rest whole spells =
    cut_first version line lines (b ∷ front) rest (λ found. cut_lines version lines found.rest rest found.whole) spells.0.0 spells.0.1 (first_line_of (b ∷ front) (λ e. cc) whole) spells.1

-- no line is of one byte
short_line : (line : Numbered) (b : ℕ) (more : List ℕ) → b ∷ [] ≢ line_text line ++ more
short_line line b more e =
    let first = decimal line.number in
    let others = text_of (event_fields line.event) in
    let short = ap length e in
    let whole = length-append (text_of (fields_of line)) (10 ∷ []) in
    let both = length-append (line_text line) more in
    let parts : length (text_of (fields_of line)) ≡ length first + length (32 ∷ others) = length-append first (32 ∷ others) in
    omega (arith, short, whole, both, parts)

one_byte : (version : Version) (b : ℕ) (lines : List Numbered) → ¬ (SpellsLines version (b ∷ []) lines)
one_byte version b [] spells = let none = spells.1 in cc
one_byte version b (line ∷ lines) spells = short_line line b (flat_map line_text lines) spells.1

first_byte : (version : Version) (piece : List ℕ) (lines : List Numbered) → piece ≢ [] → ¬ (SpellsLines version (take 1 piece) lines)
first_byte version [] lines some spells = some refl
first_byte version (b ∷ piece) lines some spells = one_byte version b lines spells

-- what is in front of no bytes is none
in_front : (x y : List ℕ) → x ++ y ≡ [] → x ≡ []
in_front [] y e = refl
in_front (b ∷ x) y e = cc

-- a piece without bytes behind others of any version
adds_none : (version : Version) (body piece : List ℕ) (earlier : List (List ℕ)) → piece ≡ [] → IsWhole body → ArePieces version body earlier → ArePieces version body (piece ∷ earlier)
adds_none version body piece earlier none whole are = (body, [], are, whole, inr (none, refl), sym (append-nil body))

-- pieces whose text is none have nothing, in any version
none_joins : (piece front : List ℕ) (left_out : ℕ) → Joins front piece [] left_out → (piece ≡ []) × (front ≡ [])
none_joins piece front left_out (begins none is out) = (sym is, none)
none_joins piece front left_out (adds_nothing none is out) = (none, sym is)
none_joins [] front left_out (goes_on version body behind some whole ours theirs is out) = absurd (some (in_front front behind (sym is)))
none_joins (b ∷ piece) front left_out (goes_on version body behind some whole ours theirs is out) = absurd (some (in_front front behind (sym is)))
none_joins piece front left_out (of_another version another body behind some whole ours theirs apart more is out) = absurd (some (in_front front (take 1 piece) (sym is)))
none_joins piece front left_out (torn cut is out) = absurd (cut (inl (sym is)))

no_bytes : (pieces : List (List ℕ)) (text : List ℕ) → IsTextOf pieces text → text ≡ [] → (version : Version) → ArePieces version [] pieces
no_bytes [] text is none version = refl
no_bytes (piece ∷ earlier) text (front, left_out, told, joins) none version =
    let both = none_joins piece front left_out (subst (λ t. Joins front piece t left_out) none joins) in
    adds_none version [] piece earlier both.0 (inl refl) (no_bytes earlier front told both.1 version)

-- where lines are the text of pieces, the pieces have them
joined : (version : Version) (piece front text body : List ℕ) (left_out : ℕ) (earlier : List (List ℕ)) (lines : List Numbered) → Joins front piece text left_out → IsTextOf earlier front → Opens version body text → SpellsLines version body lines
    → ((body' : List ℕ) (lines' : List Numbered) → Opens version body' front → SpellsLines version body' lines' → ArePieces version body' earlier) → ArePieces version body (piece ∷ earlier)
joined version piece front text body left_out earlier lines (begins none is out) told opens spells again =
    ([], body, no_bytes earlier front told none version, inl refl, inl (rw is at opens), refl)
joined version piece front text body left_out earlier lines (adds_nothing none is out) told opens spells again =
    adds_none version body piece earlier none (whole_spelt version body lines spells) (again body lines (rw is at opens) spells)
joined version piece front text body left_out earlier lines (goes_on ours x y some whole opens_front opens_piece is out) told opens spells again =
    let more = opens_more ours x front y some whole opens_front in
    let same = one_opening text version ours body (x ++ y) opens (rw (sym is) at more) in
    let parts = cut_lines version lines x y (whole_body ours x front opens_front whole) (rw same.1 at spells) in
    (x, y, again x parts.earlier (rw (sym same.0) at opens_front) parts.spells, whole_body ours x front opens_front whole, inl (rw (sym same.0) at opens_piece), same.1)
joined version piece front text body left_out earlier lines (of_another ours another x y some whole opens_front opens_piece apart bytes is out) told opens spells again =
    let more = opens_more ours x front (take 1 piece) some whole opens_front in
    let same = one_opening text version ours body (x ++ take 1 piece) opens (rw (sym is) at more) in
    let parts = cut_lines version lines x (take 1 piece) (whole_body ours x front opens_front whole) (rw same.1 at spells) in
    absurd (first_byte version piece parts.later bytes parts.goes_on)
joined version piece front text body left_out earlier lines (torn cut is out) told opens spells again =
    absurd (cut (rw is at (whole_text version body text opens (whole_spelt version body lines spells))))

-- where the text of pieces is lines, the pieces have them
pub pieces_of : (version : Version) (pieces : List (List ℕ)) (text body : List ℕ) (lines : List Numbered) → IsTextOf pieces text → Opens version body text → SpellsLines version body lines → ArePieces version body pieces
pieces_of version [] text body lines is opens spells = opens_none version body (rw is at opens)
pieces_of version (piece ∷ earlier) text body lines (front, left_out, told, joins) opens spells =
    joined version piece front text body left_out earlier lines joins told opens spells (λ body' lines' opens' spells'. pieces_of version earlier front body' lines' told opens' spells')

-- what pieces have stands in their text, behind a heading, or is nothing
abbrev pub StandsIn : Version → List ℕ → List ℕ → Type 0
StandsIn version body text = Opens version body text ⊎ ((text ≡ []) × (body ≡ []))

-- a piece has one thing behind its heading
one_piece : (v w : Version) (x y piece : List ℕ) → IsPiece v x piece → Opens w y piece → piece ≢ [] → (v ≡ w) × (x ≡ y)
one_piece v w x y piece (inl opens) theirs some = one_opening piece v w x y opens theirs
one_piece v w x y piece (inr none) theirs some = absurd (some none.0)

piece_none : (v : Version) (x piece : List ℕ) → IsPiece v x piece → piece ≡ [] → x ≡ []
piece_none v x piece (inl opens) none = opens_none v x (rw none at opens)
piece_none v x piece (inr both) none = both.1

same_behind : (v w : Version) (x y piece : List ℕ) → v ≡ w → IsPiece v x piece → Opens w y piece → x ≡ y
same_behind v w x y piece same (inl opens) theirs = (one_opening piece v w x y opens theirs).1
same_behind v w x y piece same (inr both) theirs = both.1 ∙ sym (opens_none w y (rw both.0 at theirs))

stands_whole : (version : Version) (body text : List ℕ) → StandsIn version body text → IsWhole body → IsWhole text
stands_whole version body text (inl opens) whole = whole_text version body text opens whole
stands_whole version body text (inr both) whole = inl both.0

stands_none : (version : Version) (body text : List ℕ) → StandsIn version body text → text ≡ [] → body ≡ []
stands_none version body text (inl opens) none = opens_none version body (rw none at opens)
stands_none version body text (inr both) none = both.1

stands_open : (version : Version) (body text : List ℕ) → StandsIn version body text → text ≢ [] → Opens version body text
stands_open version body text (inl opens) some = opens
stands_open version body text (inr both) some = absurd (some both.0)

stands_alone : (version : Version) (body piece text : List ℕ) → IsPiece version body piece → text ≡ piece → StandsIn version body text
stands_alone version body piece text (inl opens) is = inl (rw is opens)
stands_alone version body piece text (inr both) is = inr (is ∙ both.0, both.1)

stands_with : (version : Version) (x y piece front text : List ℕ) (left_out : ℕ) → Joins front piece text left_out → StandsIn version x front → IsWhole x → IsPiece version y piece → StandsIn version (x ++ y) text
stands_with version x y piece front text left_out (begins none is out) stands whole known =
    rw (stands_none version x front stands none) (stands_alone version y piece text known is)
stands_with version x y piece front text left_out (adds_nothing none is out) stands whole known =
    rw (piece_none version y piece known none, append-nil x, is) stands
stands_with version x y piece front text left_out (goes_on ours a b some whole' opens_front opens_piece is out) stands whole known =
    let opens = stands_open version x front stands some in
    let same = one_opening front version ours x a opens opens_front in
    inl (rw (is, sym (same_behind version ours y b piece same.0 known opens_piece)) (opens_more version x front y some whole' opens))
stands_with version x y piece front text left_out (of_another ours another a b some whole' opens_front opens_piece apart bytes is out) stands whole known =
    let opens = stands_open version x front stands some in
    let same = one_opening front version ours x a opens opens_front in
    let other = one_piece version another y b piece known opens_piece bytes in
    absurd (apart (sym other.0 ∙ same.0))
stands_with version x y piece front text left_out (torn cut is out) stands whole known = absurd (cut (stands_whole version x front stands whole))

pub text_of_pieces : (version : Version) (pieces : List (List ℕ)) (text body : List ℕ) → IsTextOf pieces text → ArePieces version body pieces → StandsIn version body text
text_of_pieces version [] text body is are = inr (is, are)
text_of_pieces version (piece ∷ earlier) text body (front, left_out, told, joins) (x, y, are, whole, known, e) =
    rw e (stands_with version x y piece front text left_out joins (text_of_pieces version earlier front x told are) whole known)

-- no bytes are the lines of no events
no_events : (version : Version) (events : List Event) (body : List ℕ) → body ≡ [] → AreEvents version events body → events ≡ []
no_events version [] body none lines = refl
no_events version (e ∷ events) body none lines =
    let line : Numbered = record { number = 0; event = e } in
    let empty = ap length (sym none ∙ lines.1) in
    let both = length-append (line_text line) (flat_map line_text (numbered 1 events)) in
    let whole = length-append (text_of (fields_of line)) (10 ∷ []) in
    absurd (let no : ⊥ = omega (arith, empty, both, whole) in no)

journal_of : (version : Version) (events : List Event) (body text : List ℕ) → StandsIn version body text → AreEvents version events body → IsJournal events text
journal_of version events body text (inl opens) lines = (version, record { body = body; opens = opens; lines = lines })
journal_of version events body text (inr both) lines =
    rw (no_events version events body both.1 lines, both.0) (One, record { body = []; opens = (refl, λ more e. cc); lines = (tt, refl) })

-- both ways
pub is_the_journal : (pieces : List (List ℕ)) (text : List ℕ) (events : List Event) → IsTextOf pieces text → IsJournal events text ↔ AreJournal events pieces
is_the_journal pieces text events is = (
  λ journal. (journal.0, journal.1.body, pieces_of journal.0 pieces text journal.1.body (numbered 0 events) is journal.1.opens journal.1.lines, journal.1.lines),
  λ are. journal_of are.0 events are.1 text (text_of_pieces are.0 pieces text are.1 is are.2) are.3,
)
