-- The lives of a host, and the words of the last one.
use Rattle.std.specs.Prelude.{◌≡◌, ◌≢◌, ◌<◌, ℕ, ◌+◌, ◌-◌, ◌⊎◌, Bool, true, false, Option, Some, None, is_some, option_map, List, [], ◌∷◌, length, slice_get}
use Rattle.std.specs.Io.KnownBytes.{Appends}
use Rattle.amo_word.specs.Distinct.{AreDistinct, Progress, distinct_word}
use Rattle.amo_lives.specs.Life.{line_text, next_tag}
use Rattle.amo_lives.specs.Lives.{LivesState, has_tag, with_life}
use Rattle.amo_lives.specs.declared.life.Life.{Life}
use Rattle.amo_live.specs.declared.lives_file.OpenedLives.{OpenedLives}

-- the lives; of the last one, if it began in this process, how far its words have come; where the lives are kept; and what each next one is to tell of the
-- machine's start, and of whether the journal is put on its disk
pub record HostLivesState (S : Type 0) : Type 0 where
  pub lives : LivesState
  pub words : Option Progress
  pub sink : S
  pub boot : Option (List ℕ)
  pub sync : Bool

-- the lives that an opened file told of, if it had any heading
abbrev pub found_in : OpenedLives → Option LivesState
found_in opened = opened.lives

-- a life of which nothing is known, from the first line on
abbrev pub IsUnknown : List Life → Type 0
IsUnknown [] = ⊥
IsUnknown (life ∷ lives) = (life.first_line ≡ 0) × (life.boot ≡ None) × (life.sync ≡ false) × (lives ≡ [])

-- of a file that begins beside a journal of so many lines: where it has any, such a life is told to have written them
abbrev pub BeginsBehind : ℕ → List Life → Type 0
BeginsBehind lines lives = (lines ≡ 0 → lives ≡ []) × (0 < lines → IsUnknown lives)

-- the words that are to come
abbrev pub to_come : Progress → ℕ → Option ℕ
to_come p k = distinct_word p.key p.tag (p.count + k)

abbrev pub left : Option Progress → ℕ → Option ℕ
left None k = None
left (Some p) k = to_come p k

-- a word of one of these lives
abbrev pub IsWordOf : List ℕ → List Life → ℕ → Type 0
IsWordOf key [] word = ⊥
IsWordOf key (life ∷ lives) word = ((k : ℕ) × (distinct_word key life.tag k ≡ Some word)) ⊎ IsWordOf key lives word

-- a word of one of the lives that is not to come
abbrev pub IsDrawn : LivesState → Option Progress → ℕ → Type 0
IsDrawn s words word = IsWordOf s.key s.lives word × ((k : ℕ) → left words k ≢ Some word)

-- no word that is to come comes twice, and each is one of the lives'
pub record AreOwn (s : LivesState) (p : Progress) : Type 0 where
  pub distinct : AreDistinct (to_come p)
  pub own : (k word : ℕ) → to_come p k ≡ Some word → IsWordOf s.key s.lives word

-- some words came, and perhaps none
pub record IsBehind (before after : ℕ → Option ℕ) : Type 0 where
  pub count : ℕ
  pub rest : (k : ℕ) → after k ≡ before (k + count)

-- the last word that came is this one, and is not 0
pub record Draws (before after : ℕ → Option ℕ) (word : ℕ) : Type 0 where
  pub some : word ≢ 0
  pub place : ℕ
  pub is : before place ≡ Some word
  pub rest : (k : ℕ) → after k ≡ before (k + (place + 1))

-- the tag of the life that goes on for the last of these, if there is one
abbrev pub tag_behind : List Life → Option ℕ
tag_behind lives = option_map (λ (life : Life). next_tag life.tag) (slice_get lives (length lives - 1))

-- a life that goes on where words were used up has the tag behind theirs, and one that begins at a start has not
abbrev pub IsTagFor : Bool → Option ℕ → ℕ → Type 0
IsTagFor true behind tag = behind ≡ Some tag
IsTagFor false behind tag = behind ≢ Some tag

-- One life more began: it begins in the journal with this line, it has a tag of its own, and its line was written. It tells what it is to tell.
pub record BeginsLife {S : Type 0} (written : S → Option (List ℕ)) (h g : HostLivesState S) (next_line : ℕ) : Type 0 where
  pub life : Life
  pub tag : has_tag h.lives.lives life.tag ≡ false
  pub own : IsTagFor (is_some h.words) (tag_behind h.lives.lives) life.tag
  pub first_line : life.first_line ≡ next_line
  pub boot : life.boot ≡ h.boot
  pub sync : life.sync ≡ h.sync
  pub grown : g.lives ≡ with_life h.lives life
  pub line : Appends (written h.sink) (written g.sink) (line_text life)
