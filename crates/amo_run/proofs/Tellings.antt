-- What a pass tells, along a history that goes on.
use Rattle.std.proofs.Common.{◌≡◌, ℕ, suc, ◌^◌, ◌<◌, ◌≤◌, ◌==◌, Bool, true, false, if◌then◌else◌, List, [], ◌∷◌, ◌++◌, length, refl, sym, ap, ap₂, ◌∙◌, append_assoc, append-nil, eq-eqb, arith, Some, None, IfSome}
use Rattle.amo_world.specs.declared.event.Event.{Event}
use Rattle.amo_world.specs.History.{events_of, event_if}
use Rattle.amo_object.specs.declared.step.End.{End}
use Rattle.amo_core.specs.declared.act.Act.{Act}
use Rattle.amo_book.specs.Pass.{PassState, GrownBy, HasPosition, Answer, Grown, Answered, event}
use Rattle.amo_run.specs.Told.{position, placed, told, Tells, made_by}

-- an event of another pass changes nothing of what is told
skipped : (b : Bool) (x : Event) (es : List Event) (ms ns : List (ℕ × Event)) (y : ℕ × Event) → length (event_if b x es) ≡ length es → ms ++ (if b then y ∷ [] else ns) ≡ ms ++ ns
skipped true x es ms ns y h = absurd (omega arith)
skipped false x es ms ns y h = refl

longer : (b : Bool) (x : Event) (es : List Event) → length es ≤ length (event_if b x es)
longer true x es = omega arith
longer false x es = omega arith

more_own : (p : ℕ) (newer seen : List Event) → length (events_of p seen) ≤ length (events_of p (newer ++ seen))
more_own p [] seen = omega arith
more_own p (e ∷ newer) seen = let one = more_own p newer seen in let two = longer (p == e.pass) e (events_of p (newer ++ seen)) in omega arith

-- where a history goes on without events of the pass, it tells the same
pub placed_past : (p : ℕ) (newer seen : List Event) → length (events_of p (newer ++ seen)) ≡ length (events_of p seen) → placed p (newer ++ seen) ≡ placed p seen
placed_past p [] seen h = refl
placed_past p (e ∷ newer) seen h =
    let past = newer ++ seen in
    let one = more_own p newer seen in
    let two = longer (p == e.pass) e (events_of p past) in
    let none : length (event_if (p == e.pass) e (events_of p past)) ≡ length (events_of p past) = omega arith in
    let rest : length (events_of p past) ≡ length (events_of p seen) = omega arith in
    skipped (p == e.pass) e (events_of p past) (placed p past) [] (position past, e) none ∙ (append-nil (placed p past) ∙ placed_past p newer seen rest)

pub tells_none : (v w : PassState) → w ≡ v → Tells v w []
tells_none v w h = record { book = ap (λ (c : PassState). c.book) h; number = ap (λ (c : PassState). c.number) h; grew = ap told h ∙ sym (append-nil (told v)) }

pub tells_more : (u v w : PassState) (xs ys : List (ℕ × Event)) → Tells u v xs → Tells v w ys → Tells u w (xs ++ ys)
tells_more u v w xs ys a b = record {
  book = b.book ∙ a.book;
  number = b.number ∙ a.number;
  grew = b.grew ∙ (ap (λ t. t ++ ys) a.grew ∙ append_assoc (told u) xs ys);
}

own_last : (p n : ℕ) (e : Event) (earlier : List Event) → e.pass ≡ p → n ≡ position earlier → placed p (e ∷ earlier) ≡ placed p earlier ++ (n, e) ∷ []
own_last p n e earlier own at = ap₂ (λ (b : Bool) (k : ℕ). placed p earlier ++ (if b then (k, e) ∷ [] else [])) (eq-eqb p e.pass (sym own)) (sym at)

own_length : (p : ℕ) (e : Event) (earlier : List Event) → e.pass ≡ p → length (events_of p (e ∷ earlier)) ≡ suc (length (events_of p earlier))
own_length p e earlier own = ap (λ b. length (event_if b e (events_of p earlier))) (eq-eqb p e.pass (sym own))

-- one event of the pass
pub tells_one : (v w : PassState) (e : Event) (n : ℕ) → GrownBy v w e → HasPosition w n → e.pass ≡ v.number → n < 2 ^ 64 → Tells v w ((n, e) ∷ [])
tells_one v w e n g counted own small =
    let earlier = g.earlier in let newer = g.extends.0 in
    let seen : earlier ≡ newer ++ v.seen = g.extends.1 in
    let whole : length w.seen ≡ suc (length earlier) = ap length g.seen in
    let at : n ≡ position earlier = omega arith in
    let grown : length (events_of v.number (e ∷ earlier)) ≡ suc (length (events_of v.number v.seen)) = ap₂ (λ p h. length (events_of p h)) (sym g.number) (sym g.seen) ∙ ap length g.mine_grew in
    let last = own_length v.number e earlier own in
    let none : length (events_of v.number (newer ++ v.seen)) ≡ length (events_of v.number v.seen) = ap (λ h. length (events_of v.number h)) (sym seen) ∙ omega arith in
    record {
      book = g.book;
      number = g.number;
      grew = ap₂ placed g.number g.seen ∙ (own_last v.number n e earlier own at ∙ ap (λ l. l ++ (n, e) ∷ []) (ap (placed v.number) seen ∙ placed_past v.number newer v.seen none));
    }

-- what a call answered is what the pass tells of it
pub tells_grown : (v w : PassState) (side : End) (stream : ℕ) (act : Act) (a : Answer) → Grown v w side stream act a → Answered w a → IfSome a (λ k. k.1 < 2 ^ 64) → Tells v w (made_by v.number side stream act a)
tells_grown v w side stream act None g at small = tells_none v w g
tells_grown v w side stream act (Some (reply, n)) g at small = tells_one v w (event v.number side stream act reply) n g at refl small
