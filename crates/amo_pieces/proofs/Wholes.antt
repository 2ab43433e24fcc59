-- Texts of whole lines.
use Rattle.std.proofs.Common.{◌≡◌, ◌≢◌, ◌⊎◌, inl, inr, ℕ, List, [], ◌∷◌, ◌++◌, refl, sym, ◌∙◌, ap, append_assoc, codes}
use Rattle.std.proofs.lemmas.Bool.Decides.{eqb_tells}
use Rattle.std.proofs.lemmas.List.{append-nil}
use Rattle.std.specs.List.{flat_map}
use Rattle.amo_text.specs.Line.{Lacks, text_of}
use Rattle.amo_journal.specs.declared.numbered.Numbered.{Numbered}
use Rattle.amo_journal.specs.declared.version.Version.{Version}
use Rattle.amo_journal.specs.declared.version.Version.TheVariants.{One, Two}
use Rattle.amo_journal.specs.Version.{heading, Opens}
use Rattle.amo_journal.specs.Journal.{fields_of, line_text, SpellsLines}
use Rattle.amo_pieces.specs.Journal.{IsWhole}

pub whole_end : (front : List ℕ) → IsWhole (front ++ 10 ∷ [])
whole_end front = inr (front, refl)

pub whole_behind : (x y : List ℕ) → IsWhole x → IsWhole y → IsWhole (x ++ y)
whole_behind x y first (inl none) = rw (none, append-nil) first
whole_behind x y first (inr (front, e)) = inr (x ++ front, ap (λ (t : List ℕ). x ++ t) e ∙ sym (append_assoc x front (10 ∷ [])))

-- the end of whole lines is whole
whole_rest : (b : ℕ) (x : List ℕ) → IsWhole (b ∷ x) → IsWhole x
whole_rest b x (inl none) = cc
whole_rest b x (inr ([], e)) = inl cc
whole_rest b x (inr (c ∷ front, e)) = inr (front, cc)

pub whole_tail : (x y : List ℕ) → IsWhole (x ++ y) → IsWhole y
whole_tail [] y whole = whole
whole_tail (b ∷ x) y whole = whole_tail x y (whole_rest b (x ++ y) whole)

-- lines are whole
pub whole_lines : (lines : List Numbered) → IsWhole (flat_map line_text lines)
whole_lines [] = inl refl
whole_lines (line ∷ lines) = whole_behind (line_text line) (flat_map line_text lines) (whole_end (text_of (fields_of line))) (whole_lines lines)

pub whole_spelt : (version : Version) (body : List ℕ) (lines : List Numbered) → SpellsLines version body lines → IsWhole body
whole_spelt version body lines spells = rw spells.1 (whole_lines lines)

-- a text and what is behind its heading are whole together
pub whole_text : (version : Version) (body text : List ℕ) → Opens version body text → IsWhole body → IsWhole text
whole_text One body text opens whole = rw opens.0 whole
whole_text Two body text opens whole = rw opens (whole_behind (heading Two) body (whole_end (codes "amo 2")) whole)

pub whole_body : (version : Version) (body text : List ℕ) → Opens version body text → IsWhole text → IsWhole body
whole_body One body text opens whole = rw opens.0 at whole
whole_body Two body text opens whole = whole_tail (heading Two) body (rw opens at whole)

-- the first line of whole lines
pub record FirstLine (text : List ℕ) : Type 0 where
  pub line : List ℕ
  pub rest : List ℕ
  pub cut : text ≡ line ++ 10 ∷ rest
  pub one : Lacks 10 line
  pub whole : IsWhole rest

decide : (b : ℕ) → (b ≡ 10) ⊎ (b ≢ 10)
decide b = elim (eqb_tells b 10) [ inl same ↦ inl same.1 | inr apart ↦ inr apart.1 ]

first_behind : (b : ℕ) (front : List ℕ) → FirstLine (front ++ 10 ∷ []) → (b ≡ 10) ⊎ (b ≢ 10) → FirstLine (b ∷ (front ++ 10 ∷ []))
first_behind b front later (inl here) = record { line = []; rest = front ++ 10 ∷ []; cut = rw here refl; one = tt; whole = whole_end front }
first_behind b front later (inr other) = record { line = b ∷ later.line; rest = later.rest; cut = ap (λ (t : List ℕ). b ∷ t) later.cut; one = (other, later.one); whole = later.whole }

first_of_end : (front : List ℕ) → FirstLine (front ++ 10 ∷ [])
first_of_end [] = record { line = []; rest = []; cut = refl; one = tt; whole = inl refl }
first_of_end (b ∷ front) = first_behind b front (first_of_end front) (decide b)

pub first_line_of : (text : List ℕ) → text ≢ [] → IsWhole text → FirstLine text
first_line_of text some (inl none) = absurd (some none)
first_line_of text some (inr (front, e)) = rw e (first_of_end front)
