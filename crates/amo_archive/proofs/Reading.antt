-- Lines that stand in a row, read one by one.
use Rattle.std.proofs.Common.{◌≡◌, ℕ, ◌++◌, ◌∷◌, [], Bool, true, false, Option, Some, List, refl, sym, ◌∙◌, ap, subst, if◌then◌else◌}
use Rattle.std.proofs.lemmas.List.{append_assoc, append-nil}
use Rattle.amo_journal.specs.declared.numbered.Numbered.{Numbered}
use Rattle.amo_journal.specs.declared.version.Version.{Version}
use Rattle.amo_journal.specs.Journal.{InRange, line_text}
use Rattle.amo_door.specs.declared.answer.GotMessage.{GotMessage}
use Rattle.amo_door.specs.declared.answer.GotPage.{GotPage}
use Rattle.amo_archive.specs.Records.{BeginsWith, Follows, Tells, behind, first_behind, got_at, got_of, newest_number, or_first, spelt_by}

-- one line more
pub one_more : (version : Version) (past : List Numbered) (rest more text : List ℕ) (line : Numbered) → InRange version line → Follows (newest_number past) line.number
    → rest ≡ line_text line ++ more → BeginsWith version past rest text → BeginsWith version (line ∷ past) more text
one_more version past rest more text line within follows is begins = record {
  lines = (within, begins.lines);
  row = (follows, begins.row);
  spelt = begins.spelt ∙ (ap (λ (r : List ℕ). spelt_by past ++ r) is ∙ sym (append_assoc (spelt_by past) (line_text line) more));
}

-- no line yet
pub no_line : (version : Version) (text : List ℕ) → BeginsWith version [] text text
no_line version text = record { lines = tt; row = tt; spelt = refl }

module _ (stream : ℕ) (after : Option ℕ) (past : List Numbered) (line : Numbered) (old new : GotPage) where
  -- a line of which nothing is told
  pub passed : behind after line.number ≡ false → new.messages.items ≡ old.messages.items → new.from ≡ old.from → new.next ≡ Some line.number → Tells stream after past old
      → Tells stream after (line ∷ past) new
  passed before messages from next tells = record {
    messages = messages ∙ (tells.messages ∙ (sym (append-nil (got_of stream after past)) ∙ ap (λ (b : Bool). got_of stream after past ++ (if b then got_at stream line else [])) (sym before)));
    from = from ∙ (tells.from ∙ ap (λ (b : Bool). if b then or_first (first_behind after past) line.number else first_behind after past) (sym before));
    next = next;
  }

  -- a line behind, and what it tells
  pub told : behind after line.number ≡ true → new.messages.items ≡ old.messages.items ++ got_at stream line → new.from ≡ or_first old.from line.number → new.next ≡ Some line.number
      → Tells stream after past old → Tells stream after (line ∷ past) new
  told is_behind messages from next tells = record {
    messages = messages ∙ (ap (λ (all : List GotMessage). all ++ got_at stream line) tells.messages ∙ ap (λ (b : Bool). got_of stream after past ++ (if b then got_at stream line else [])) (sym is_behind));
    from = from ∙ (ap (λ (first : Option ℕ). or_first first line.number) tells.from ∙ ap (λ (b : Bool). if b then or_first (first_behind after past) line.number else first_behind after past) (sym is_behind));
    next = next;
  }

-- what follows on lines and others before them follows on these lines alone
pub follows_these : (more past : List Numbered) (number : ℕ) → Follows (newest_number (more ++ past)) number → Follows (newest_number more) number
follows_these [] past number follows = tt
follows_these (line ∷ more) past number follows = follows
