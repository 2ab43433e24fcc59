-- The lives of a host, in the order of time, and the file that tells of them.
use Rattle.std.specs.Prelude.{◌≡◌, ℕ, ◌≤◌, ◌==◌, Bool, false, max, List, [], ◌∷◌, ◌++◌}
use Rattle.std.specs.List.{AllByRecursion, flat_map, list_any}
use Rattle.amo_object.specs.declared.step.End.{End}
use Rattle.amo_text.specs.Line.{Lacks}
use Rattle.amo_lives.specs.declared.life.Life.{Life}
use Rattle.amo_lives.specs.Life.{IsKey, InRange, heading, line_text}

-- the side of the journal's host, the key of its words, and its lives
pub record LivesState : Type 0 where
  pub side : End
  pub key : List ℕ
  pub lives : List Life

-- whether a life has this tag
abbrev pub has_tag : List Life → ℕ → Bool
has_tag lives tag = list_any (λ life. tag == life.tag) lives

-- the greatest number of a life's first line, or 0
abbrev pub reach : List Life → ℕ
reach [] = 0
reach (life ∷ lives) = max life.first_line (reach lives)

-- this life may come after those: it has a tag of its own, and its first line is not before one of theirs
pub record MayFollow (before : List Life) (life : Life) : Type 0 where
  pub tag : has_tag before life.tag ≡ false
  pub first_line : reach before ≤ life.first_line

-- after those, each of these may follow all that are before it
abbrev pub FollowOn : List Life → List Life → Type 0
FollowOn before [] = Unit {0}
FollowOn before (life ∷ lives) = MayFollow before life × FollowOn (before ++ life ∷ []) lives

-- the lives that a file tells of, in its order
pub record AreLives (lives : List Life) : Type 0 where
  pub in_range : AllByRecursion InRange lives
  pub in_order : FollowOn [] lives

-- with one life more
abbrev pub with_life : LivesState → Life → LivesState
with_life s life = record s { lives = s.lives ++ life ∷ [] }

-- the file: its heading, and the lines of the lives
abbrev pub text_of_lives : LivesState → List ℕ
text_of_lives s = heading s.side s.key ++ flat_map line_text s.lives

-- the bytes are the file of these lives, and behind it at most a beginning of a line, which was torn
pub record Tells (s : LivesState) (bytes : List ℕ) : Type 0 where
  pub torn : List ℕ
  pub key : IsKey s.key
  pub lives : AreLives s.lives
  pub parts : bytes ≡ text_of_lives s ++ torn
  pub endless : Lacks 10 torn
