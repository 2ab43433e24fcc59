use Rattle.std.proofs.Common.{◌≡◌, List, ℕ, [], ◌∷◌, ◌++◌, append_assoc, codes}
use Rattle.amo_lives.proofs.writing.push_heading.Goals as goal

-- what is written piece by piece
in_pieces : (t title s k t1 t2 t3 t4 t5 : List ℕ) → t1 ≡ t ++ title → t2 ≡ t1 ++ s → t3 ≡ t2 ++ 32 ∷ [] → t4 ≡ t3 ++ k → t5 ≡ t4 ++ 10 ∷ [] → t5 ≡ t ++ (title ++ ((s ++ 32 ∷ k) ++ 10 ∷ []))
in_pieces t title s k t1 t2 t3 t4 t5 e1 e2 e3 e4 e5 = rw (e5, e4, e3, e2, e1) (simp append_assoc)

pub returns : goal.returns
returns c =
    in_pieces c.args.text.now.items (codes "amo lives 1 ") _ _ _ _ _ _ _ c.in_ok-extend_from_slice.ensures.items c.in_ok-push_side.ensures c.in_ok-push.ensures.items c.in_ok-push_hex.ensures.ok c.in_ok-push-2.ensures.items
