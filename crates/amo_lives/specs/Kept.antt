-- How lives are kept while they are read: beside them the set of their tags, and how far their first lines reach.
use Rattle.std.specs.Prelude.{◌≡◌, ℕ, ◌==◌, List, ◌++◌, length}
use Rattle.std.specs.List.{AllByRecursion, flat_map, list_any}
use Rattle.amo_text.specs.Line.{Lacks, text_of}
use Rattle.amo_lives.specs.declared.fault.LivesFault.{LivesFault}
use Rattle.amo_lives.specs.declared.life.Life.{Life}
use Rattle.amo_lives.specs.Fault.{LineFaults}
use Rattle.amo_lives.specs.Life.{IsKey, InRange, fields_of, line_text}
use Rattle.amo_lives.specs.Lives.{AreLives, FollowOn, LivesState, MayFollow, has_tag, reach, with_life}

-- the tags are those of the lives, and their first lines reach as far
pub record IsKept (key : List ℕ) (lives : List Life) (tags : List ℕ) (furthest : ℕ) : Type 0 where
  pub key_is : IsKey key
  pub lives_are : AreLives lives
  pub tags_are : (tag : ℕ) → list_any (λ other. tag == other) tags ≡ has_tag lives tag
  pub furthest_is : furthest ≡ reach lives

-- behind lives this text goes on with the lines of more of them, and then with the rest
pub record GoesOn (old new : LivesState) (text rest : List ℕ) : Type 0 where
  pub more : List Life
  pub grown : new ≡ record old { lives = old.lives ++ more }
  pub in_range : AllByRecursion InRange more
  pub in_order : FollowOn old.lives more
  pub parts : text ≡ flat_map line_text more ++ rest

-- the text is that of the line of one life more
pub record TakesLine (old new : LivesState) (text : List ℕ) : Type 0 where
  pub life : Life
  pub known : InRange life
  pub follows : MayFollow old.lives life
  pub text_is : text ≡ text_of (fields_of life)
  pub grown : new ≡ with_life old life

-- all lines were taken, and so many bytes without a line's end are behind them
pub record TakesAll (old new : LivesState) (text : List ℕ) (count : ℕ) : Type 0 where
  pub torn : List ℕ
  pub goes_on : GoesOn old new text torn
  pub endless : Lacks 10 torn
  pub count_is : count ≡ length torn

-- some lines were taken, and this is wrong with the next one
pub record StopsAt (old : LivesState) (text : List ℕ) (fault : LivesFault) : Type 0 where
  pub so_far : LivesState
  pub rest : List ℕ
  pub goes_on : GoesOn old so_far text rest
  pub wrong : LineFaults so_far.lives rest fault
