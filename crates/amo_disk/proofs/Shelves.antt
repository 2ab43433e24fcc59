-- Pieces in memory.
use Rattle.std.proofs.Common.{◌≡◌, ℕ, List, [], ◌∷◌, ◌++◌, refl, ap}
use Rattle.std.specs.Global.{Vec}
use Rattle.amo_disk.specs.Shelf.{texts}

-- one piece more is the newest
pub texts-push : (pieces : List (Vec ℕ)) (piece : Vec ℕ) → texts (pieces ++ piece ∷ []) ≡ piece.items ∷ texts pieces
texts-push [] piece = refl
texts-push (p ∷ pieces) piece = ap (λ (l : List (List ℕ)). l ++ p.items ∷ []) (texts-push pieces piece)
