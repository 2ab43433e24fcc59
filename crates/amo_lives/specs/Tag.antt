-- A tag that is drawn from a source of words.
use Rattle.std.specs.Prelude.{◌≡◌, ℕ, ◌+◌, ◌<◌, ◌%◌, ◌^◌, true, false, Option, Some, None, List}
use Rattle.amo_lives.specs.declared.fault.TagFault.{TagFault}
use Rattle.amo_lives.specs.declared.fault.TagFault.TheVariants.{NoWord, Repeats}
use Rattle.amo_lives.specs.declared.life.Life.{Life}
use Rattle.amo_lives.specs.Lives.{has_tag}

-- the tag in a word: its lower half
abbrev pub tag_in : ℕ → ℕ
tag_in word = word % 2 ^ 32

-- there is a word, and a life has its tag
pub record IsTaken (lives : List Life) (drawn : Option ℕ) : Type 0 where
  pub word : ℕ
  pub is : drawn ≡ Some word
  pub taken : has_tag lives (tag_in word) ≡ true

-- each of the first n words is taken
abbrev pub AreTaken : List Life → (ℕ → Option ℕ) → ℕ → Type 0
AreTaken lives words n = (k : ℕ) → k < n → IsTaken lives (words k)

-- The tag is in the first word whose tag no life has, which is one of the first 64. The words after it are left.
pub record Draws (lives : List Life) (before after : ℕ → Option ℕ) (tag : ℕ) : Type 0 where
  pub place : ℕ
  pub word : ℕ
  pub few : place < 64
  pub skipped : AreTaken lives before place
  pub is : before place ≡ Some word
  pub tag_is : tag ≡ tag_in word
  pub new : has_tag lives tag ≡ false
  pub rest : (k : ℕ) → after k ≡ before (k + (place + 1))

-- the words end too early: there is none at this place, and each one before it is taken
pub record EndsAt (lives : List Life) (words : ℕ → Option ℕ) (place : ℕ) : Type 0 where
  pub few : place < 64
  pub skipped : AreTaken lives words place
  pub none : words place ≡ None

-- why no tag was drawn
abbrev pub FailsToDraw : List Life → (ℕ → Option ℕ) → TagFault → Type 0
FailsToDraw lives words NoWord = (place : ℕ) × EndsAt lives words place
FailsToDraw lives words Repeats = AreTaken lives words 64
