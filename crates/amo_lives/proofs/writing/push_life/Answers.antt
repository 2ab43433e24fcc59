use Rattle.std.proofs.Common.{◌≡◌, List, ℕ, [], ◌∷◌, ◌++◌, append_assoc}
use Rattle.amo_lives.proofs.writing.push_life.Goals as goal

-- what is written piece by piece
in_pieces : (t a b d s t1 t2 t3 t4 t5 t6 t7 t8 : List ℕ) → t1 ≡ t ++ a → t2 ≡ t1 ++ 32 ∷ [] → t3 ≡ t2 ++ b → t4 ≡ t3 ++ 32 ∷ [] → t5 ≡ t4 ++ d → t6 ≡ t5 ++ 32 ∷ [] → t7 ≡ t6 ++ s → t8 ≡ t7 ++ 10 ∷ []
    → t8 ≡ t ++ ((a ++ 32 ∷ (b ++ 32 ∷ (d ++ 32 ∷ s))) ++ 10 ∷ [])
in_pieces t a b d s t1 t2 t3 t4 t5 t6 t7 t8 e1 e2 e3 e4 e5 e6 e7 e8 = rw (e8, e7, e6, e5, e4, e3, e2, e1) (simp append_assoc)

pub returns : goal.returns
returns c =
    in_pieces c.args.text.now.items _ _ _ _ _ _ _ _ _ _ _ _ c.in_ok-push_tag.ensures c.in_ok-push.ensures.items c.in_ok-push_decimal.ensures.ok c.in_ok-push-2.ensures.items
    c.in_ok-push_boot.ensures c.in_ok-push-3.ensures.items c.in_ok-push_sync.ensures c.in_ok-push-4.ensures.items
