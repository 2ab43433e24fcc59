-- What is kept once a piece was added.
use Rattle.std.proofs.Common.{◌≡◌, ◌↔◌, ℕ, List, [], ◌∷◌, ◌++◌, IsTrue}
use Rattle.amo_pieces.specs.declared.pieces.Pieces.{Pieces}
use Rattle.amo_pieces.specs.declared.start.Start.{Start}
use Rattle.amo_pieces.specs.Journal.{IsWhole}
use Rattle.amo_pieces.specs.Text.{Joins}
use Rattle.amo_pieces.specs.Places.{ends_in}
use Rattle.amo_pieces.specs.Kept.{Keeps}

pub keeps_more : (kept new : Pieces) (piece : List ℕ) (start : Start) → new.starts.items ≡ kept.starts.items ++ start ∷ [] → Joins kept.text.items piece new.text.items start.left_out
    → (IsTrue start.goes_on ↔ IsWhole kept.text.items) → start.ends ≡ ends_in kept.text.items → (pieces : List (List ℕ)) → Keeps kept pieces → Keeps new (piece ∷ pieces)
keeps_more kept new piece start pushed joins goes_on ends pieces keeps = record {
  text = (kept.text.items, start.left_out, keeps.text, joins);
  starts = (kept.text.items, new.text.items, kept.starts.items, start, keeps.text, joins, goes_on, ends, keeps.starts, pushed);
}
