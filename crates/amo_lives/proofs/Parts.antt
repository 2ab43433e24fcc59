-- What the fields of a line tell, and what they cannot.
use Rattle.std.proofs.Common.{◌≡◌, ◌≢◌, ℕ, ◌≤◌, List, ◌∷◌, ◌++◌, length, take, sym, ◌∙◌, arith}
use Rattle.std.specs.Fmt.{decimal}
use Rattle.std.proofs.lemmas.List.{length-take-le}
use Rattle.hex.specs.Hex.{IsBytes}
use Rattle.amo_text.specs.Hexadecimal.{hex}
use Rattle.amo_text.specs.Line.{Lacks, text_of}
use Rattle.amo_text.proofs.Cuts.{no_cut, one_cut, IsField-decimal}
use Rattle.amo_text.proofs.HexDigits.{same_length}
use Rattle.amo_lives.specs.declared.life.Life.{Life}
use Rattle.amo_lives.specs.Life.{InRange, boot_field, fields_of, sync_field, tag_field}
use Rattle.amo_lives.proofs.Fields.{IsField-boot, IsField-tag}

-- a text that spells some number of bytes spells no other number of them
pub other_count : (field room m : List ℕ) (n size : ℕ) → field ≡ hex (take n room) → IsBytes (take n room) → n ≤ length room → n ≢ size → IsBytes m → length m ≡ size → field ≢ hex m
other_count field room m n size found bytes within other bytes' long e =
    let same = same_length field (take n room) m bytes bytes' found e in
    let count = length-take-le n room within in
    other (omega arith)

-- what stands behind each field of a life
abbrev pub behind_tag : Life → List ℕ
behind_tag life = decimal life.first_line ++ 32 ∷ (boot_field life.boot ++ 32 ∷ sync_field life.sync)

abbrev pub behind_first_line : Life → List ℕ
behind_first_line life = boot_field life.boot ++ 32 ∷ sync_field life.sync

module _ (life : Life) (known : InRange life) where
  -- a text without a space is none of a life
  pub no_tag : (text : List ℕ) → Lacks 32 text → text ≢ text_of (fields_of life)
  no_tag text lacks e = no_cut 32 text (tag_field life.tag) (behind_tag life) lacks e

  pub no_first_line : (rest : List ℕ) → Lacks 32 rest → rest ≢ behind_tag life
  no_first_line rest lacks e = no_cut 32 rest (decimal life.first_line) (behind_first_line life) lacks e

  pub no_boot : (rest : List ℕ) → Lacks 32 rest → rest ≢ behind_first_line life
  no_boot rest lacks e = no_cut 32 rest (boot_field life.boot) (sync_field life.sync) lacks e

  -- what is in front of a space, and behind it
  pub tag_part : (text field rest : List ℕ) → text ≡ field ++ 32 ∷ rest → Lacks 32 field → text ≡ text_of (fields_of life) → (field ≡ tag_field life.tag) × (rest ≡ behind_tag life)
  tag_part text field rest cut lacks e = one_cut 32 field rest (tag_field life.tag) (behind_tag life) lacks (IsField-tag life.tag).0 (sym cut ∙ e)

  pub first_line_part : (text field rest : List ℕ) → text ≡ field ++ 32 ∷ rest → Lacks 32 field → text ≡ behind_tag life → (field ≡ decimal life.first_line) × (rest ≡ behind_first_line life)
  first_line_part text field rest cut lacks e = one_cut 32 field rest (decimal life.first_line) (behind_first_line life) lacks (IsField-decimal life.first_line known.first_line).0 (sym cut ∙ e)

  pub boot_part : (text field rest : List ℕ) → text ≡ field ++ 32 ∷ rest → Lacks 32 field → text ≡ behind_first_line life → (field ≡ boot_field life.boot) × (rest ≡ sync_field life.sync)
  boot_part text field rest cut lacks e = one_cut 32 field rest (boot_field life.boot) (sync_field life.sync) lacks (IsField-boot life.boot known.boot).0 (sym cut ∙ e)
