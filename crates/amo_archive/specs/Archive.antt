-- The journal of a host at work, as it is read beside the host.
use Rattle.std.specs.Prelude.{◌≡◌, ◌≤◌, ◌↔◌, ◌⊎◌, ℕ, Bool, IsTrue, Option, Some, None, List, [], ◌++◌, is_some, length}
use Rattle.std.specs.String.{string_bytes}
use Rattle.amo_lives.specs.declared.life.Life.{Life}
use Rattle.amo_lives.specs.declared.doubt.Span.{Span}
use Rattle.amo_archive.specs.declared.archive.Archive.{Archive}
use Rattle.amo_archive.specs.declared.records.Records.{Records}
use Rattle.amo_archive.specs.Fates.{IsLifeOf}
use Rattle.amo_door.specs.Answer.{IsRefusal, outcome_body}
use Rattle.amo_door.specs.Refusal.{status_of}
use Rattle.amo_door.specs.declared.answer.Fate.{Fate}
use Rattle.amo_world.specs.Stream.{IsStream}
use Rattle.amo_archive.specs.Past.{HasRead, TellsFate}
use Rattle.amo_archive.specs.Records.{next_number}
use Rattle.amo_door.specs.declared.answer.Answer.{Answer}
use Rattle.amo_door.specs.declared.refusal.Refusal.{Refusal}
use Rattle.amo_door.specs.declared.refusal.Refusal.TheVariants as refusal
use Rattle.amo_journal.specs.declared.numbered.Numbered.{Numbered}

-- a journal of this path, of which it was not looked yet which pieces it has
pub record IsUnread (path : List ℕ) (records : Records) : Type 0 where
  pub path_is : string_bytes records.path ≡ path
  pub numbers : records.numbers.items ≡ []
  pub newest : records.newest ≡ None
  pub room : length records.room.items ≡ 65536

-- these lines were read of the journal, from the first on, for those who ask of earlier lives
abbrev pub HaveBeenRead : Archive → List Numbered → Type 0
HaveBeenRead archive lines = HasRead archive.past lines

-- more lines were read behind these, or none; and it is told whether a journal of so many lines was read to its end
pub record ReadsOn (after : Archive) (lines : ℕ) (past : List Numbered) (all : Bool) : Type 0 where
  pub more : List Numbered
  pub read : HaveBeenRead after (more ++ past)
  pub all_are : IsTrue all ↔ lines ≤ next_number (more ++ past)

-- what is answered to who asks of the message of this number that the life of a word put on a stream: what these lines tell of it, or that there is no such life or
-- stream
pub data TellsOutcome (archive : Archive) (lines : List Numbered) (life : List ℕ) (stream number : ℕ) (answer : Answer) : Type 0 where
  IsOutcome : (place : ℕ) (what : Fate) → IsLifeOf life archive.past.lives.items (Some place) → TellsFate archive.past place stream number lines what → answer.status ≡ 200 → answer.body.items ≡ outcome_body life stream number what
      → TellsOutcome archive lines life stream number answer
  IsOfNone : IsLifeOf life archive.past.lives.items None ⊎ (IsStream stream → ⊥) → answer.status ≡ status_of refusal.UnknownLife → IsRefusal refusal.UnknownLife [] answer.body.items → TellsOutcome archive lines life stream number answer

-- the same of the journal of a host with these lives, of which these lines are doubtful: no line was read for those who ask of its lives, so the first is next
pub record BeginsToRead (path : List ℕ) (lives : List Life) (doubts : List Span) (archive : Archive) : Type 0 where
  pub records : IsUnread path archive.records
  pub past : HasRead archive.past []
  pub lives_are : archive.past.lives.items ≡ lives
  pub doubts_are : archive.past.doubts.items ≡ doubts

-- whether a word names one of these lives
abbrev pub NamesLife : List ℕ → List Life → Bool → Type 0
NamesLife word lives names = (place : Option ℕ) × IsLifeOf word lives place × (names ≡ is_some place)
