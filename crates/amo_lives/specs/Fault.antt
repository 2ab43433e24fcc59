-- Why bytes are no file of lives, and why lives do not belong to a journal.
use Rattle.std.specs.Prelude.{◌≡◌, ◌≢◌, ℕ, ◌+◌, ◌<◌, ◌≤◌, true, false, List, ◌∷◌, ◌++◌, length, codes}
use Rattle.amo_object.specs.declared.step.End.{End}
use Rattle.amo_object.specs.declared.step.End.TheVariants.{Sender, Receiver}
use Rattle.amo_text.specs.Line.{Lacks, text_of}
use Rattle.amo_lives.specs.declared.fault.LivesFault.{LivesFault}
use Rattle.amo_lives.specs.declared.fault.LivesFault.TheVariants.{NoMemory, NoHeading, Foreign, OtherSide, Malformed, SameTag, Falls}
use Rattle.amo_lives.specs.declared.fault.BeyondJournal.{BeyondJournal}
use Rattle.amo_lives.specs.declared.life.Life.{Life}
use Rattle.amo_lives.specs.Life.{IsKey, InRange, heading, heading_fields, line_text}
use Rattle.amo_lives.specs.Lives.{AreLives, has_tag, reach, text_of_lives}

-- what stands in front of the key in the heading of a side
abbrev pub title : End → List ℕ
title Sender = codes "amo lives 1 s "
title Receiver = codes "amo lives 1 r "

-- the heading of lives of this side begins so, in front of its end
pub record BeginsHeading (side : End) (bytes : List ℕ) : Type 0 where
  pub key : List ℕ
  pub more : List ℕ
  pub key_is : IsKey key
  pub parts : text_of (heading_fields side key) ≡ bytes ++ more

-- the bytes are neither a beginning of the heading of lives of this side, nor is the first line a heading of lives
pub record IsForeign (side : End) (bytes : List ℕ) : Type 0 where
  pub none : (of : End) (key more : List ℕ) → IsKey key → bytes ≢ heading of key ++ more
  pub not_begun : ¬ (BeginsHeading side bytes)

-- the first line is the heading of lives of another side than this one
pub record IsOfOther (side : End) (bytes : List ℕ) : Type 0 where
  pub of : End
  pub key : List ℕ
  pub more : List ℕ
  pub key_is : IsKey key
  pub other : of ≢ side
  pub parts : bytes ≡ heading of key ++ more

-- The lines before this one, counted from 1, are a file of lives of this side, and of the lives that it tells of and the bytes that follow
-- this holds.
pub record AtLine (Holds : List Life → List ℕ → Type 0) (side : End) (bytes : List ℕ) (line : ℕ) : Type 0 where
  pub key : List ℕ
  pub lives : List Life
  pub rest : List ℕ
  pub key_is : IsKey key
  pub before : AreLives lives
  pub parts : bytes ≡ text_of_lives (record { side = side; key = key; lives = lives }) ++ rest
  pub holds : Holds lives rest
  pub line_is : line ≡ length lives + 2

-- a line follows, and is that of no life
pub record IsNoLife (before : List Life) (rest : List ℕ) : Type 0 where
  pub ended : ¬ (Lacks 10 rest)
  pub other : (life : Life) (more : List ℕ) → InRange life → rest ≢ line_text life ++ more

-- the line of a life follows, and its tag is that of an earlier life
pub record HasTagAgain (before : List Life) (rest : List ℕ) : Type 0 where
  pub life : Life
  pub more : List ℕ
  pub known : InRange life
  pub parts : rest ≡ line_text life ++ more
  pub again : has_tag before life.tag ≡ true

-- the line of a life with a new tag follows, and its first line is before that of an earlier life
pub record IsBehind (before : List Life) (rest : List ℕ) : Type 0 where
  pub life : Life
  pub more : List ℕ
  pub known : InRange life
  pub parts : rest ≡ line_text life ++ more
  pub new : has_tag before life.tag ≡ false
  pub falls : life.first_line < reach before

-- what is wrong with a line of a life, unless memory ran out
abbrev pub LineFaults : List Life → List ℕ → LivesFault → Type 0
LineFaults before rest NoMemory = Unit {0}
LineFaults before rest (Malformed line) = IsNoLife before rest × (line ≡ length before + 2)
LineFaults before rest (SameTag line) = HasTagAgain before rest × (line ≡ length before + 2)
LineFaults before rest (Falls line) = IsBehind before rest × (line ≡ length before + 2)
LineFaults before rest _ = ⊥

-- why the bytes are no file of lives of this side, unless memory ran out
abbrev pub Faults : End → List ℕ → LivesFault → Type 0
Faults side bytes NoMemory = Unit {0}
Faults side bytes NoHeading = BeginsHeading side bytes
Faults side bytes Foreign = IsForeign side bytes
Faults side bytes OtherSide = IsOfOther side bytes
Faults side bytes (Malformed line) = AtLine IsNoLife side bytes line
Faults side bytes (SameTag line) = AtLine HasTagAgain side bytes line
Faults side bytes (Falls line) = AtLine IsBehind side bytes line

-- the first life whose first line is beyond the next line of a journal of so many lines: its line in the file, and its first line
pub record IsBeyond (lives : List Life) (lines : ℕ) (beyond : BeyondJournal) : Type 0 where
  pub before : List Life
  pub life : Life
  pub after : List Life
  pub parts : lives ≡ before ++ life ∷ after
  pub within : reach before ≤ lines
  pub past : lines < life.first_line
  pub line : beyond.line ≡ length before + 2
  pub first_line : beyond.first_line ≡ life.first_line
