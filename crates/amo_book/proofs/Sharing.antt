-- Seats are split and joined.
use Rattle.std.proofs.Common.{◌≡◌, ◌≢◌, ℕ, cond, zero, suc, ◌+◌, ◌<◌, ◌≤◌, ◌==◌, List, [], ◌∷◌, ◌++◌, ◌⊎◌, length, set, refl, sym, ap, ◌∙◌, subst, inl, inr, ⊎_elim, arith, eq-eqb, ne_eqb}
use Rattle.std.proofs.lemmas.List.{append-nil}
use mathlib.Core.Logic.{dite}
use mathlib.Core.Option.{some, some-injective, some-ne-none}
use native.Mathlib.Decide.{ℕ_discrete}
use lib.ListN.{get_elem?}
use Rattle.atomic_table.specs.Table.{Splits, Joins}
use Rattle.atomic_table.proofs.Lists.{set_here, set_else, at_longer, set_again}
use Rattle.amo_core.specs.declared.automaton.Automaton.{Automaton}
use Rattle.amo_world.specs.declared.event.Event.{Event}
use Rattle.amo_world.specs.History.{Extends, events_of}
use Rattle.amo_book.specs.declared.view.View.{View}
use Rattle.amo_book.specs.declared.view.Share.{Share}
use Rattle.amo_book.specs.Rule.{share, Has, fresh, Knows}
use Rattle.amo_book.specs.Plays.{view, bare, witness, joined}
use Rattle.amo_book.proofs.Seats.{Whole, nothing_held, not_none, same_view_at, inside, has_one, each_set, Rule}

pub from_nothing : (log : List Event) → Extends log []
from_nothing log = (log, sym (append-nil log))

pub at_end : (l : List View) (a b : View) (j : ℕ) → get_elem? (l ++ a ∷ []) j ≡ some b → (get_elem? l j ≡ some b) ⊎ ((j ≡ length l) × (a ≡ b))
at_end [] a b zero e = inr (refl, some-injective a b e)
at_end [] a b (suc j) e = absurd (some-ne-none b (sym e))
at_end (x ∷ xs) a b zero e = inl e
at_end (x ∷ xs) a b (suc j) e = ⊎_elim (λ h. inl h) (λ (t : (j ≡ length xs) × (a ≡ b)). inr (ap suc t.0, t.1)) (at_end xs a b j e)

pub has-split : (xs ys : List Share) (p : ℕ) (m : List Event) → Has (xs ++ ys) p m → Has xs p m ⊎ Has ys p m
has-split [] ys p m h = inr h
has-split (x ∷ xs) ys p m h = ⊎_elim (λ e. inl (inl e)) (λ t. ⊎_elim (λ a. inl (inr a)) (λ b. inr b) (has-split xs ys p m t)) h

pub has-right : (xs ys : List Share) (p : ℕ) (m : List Event) → Has ys p m → Has (xs ++ ys) p m
has-right [] ys p m h = h
has-right (x ∷ xs) ys p m h = inr (has-right xs ys p m h)

pub has-left : (xs ys : List Share) (p : ℕ) (m : List Event) → Has xs p m → Has (xs ++ ys) p m
has-left [] ys p m h = absurd h
has-left (x ∷ xs) ys p m h = ⊎_elim (λ e. inl e) (λ t. inr (has-left xs ys p m t)) h

pub fresh-has : (a n p : ℕ) (m : List Event) → Has (fresh a n) p m → (a ≤ p) × (p < a + n) × (m ≡ [])
fresh-has a zero p m h = absurd h
fresh-has a (suc n) p m h = ⊎_elim
    (λ (e : share a [] ≡ share p m). let q : a ≡ p = ap (λ (z : Share). z.number) e in (omega arith, omega arith, sym (ap (λ (z : Share). z.made) e)))
    (λ t. let z = fresh-has (suc a) n p m t in let lo = z.0 in let hi = z.1 in (omega arith, omega arith, z.2))
    h

module _ (places passes : ℕ) (replay : ℕ → List Event → Automaton) where
  abbrev R : Whole → Type 0
  R = Rule places passes replay

  -- the first share that is left goes to a new seat
  pub deals : (id p n : ℕ) → Splits R id (view [] [] (fresh p (suc n)) nothing_held) (view [] [] (fresh (suc p) n) nothing_held) (view [] [] (share p [] ∷ []) nothing_held)
  deals id p n s r at =
      let v : View = view [] [] (fresh p (suc n)) nothing_held in
      let left : View = view [] [] (fresh (suc p) n) nothing_held in
      let right : View = view [] [] (share p [] ∷ []) nothing_held in
      let new : ℕ = length (set s.views id left) in
      let owner' : ℕ → ℕ = λ q. cond (q == p) new (r.owner q) in
      let mine = r.each id v at in
      let first = mine.owns p [] (inl refl) in
      let there : (q : ℕ) → q ≢ p → owner' q ≡ r.owner q = λ q ne. ap (λ b. cond b new (r.owner q)) (ne_eqb q p ne) in
      let K : ℕ → View → Type 0 = Knows places passes replay r.log r.holder owner' s.words in
      let lefts : K id left = record {
        seen = from_nothing r.log;
        met = from_nothing r.log;
        owns = λ q m h. let z = mine.owns q m (inr h) in let low = (fresh-has (suc p) n q m h).0 in (z.0, there q (λ e. omega arith) ∙ z.1, z.2);
        holds = λ k x e. absurd (not_none k x e);
        named = λ k x e. absurd (not_none k x e);
      } in
      let others : (j : ℕ) (u : View) → j ≢ id → get_elem? s.views j ≡ some u → K j u = λ j u ne a. let k' = r.each j u a in record {
        seen = k'.seen;
        met = k'.met;
        owns = λ q m h. let z = k'.owns q m h in (z.0, there q (λ e. ne (sym z.1 ∙ (ap r.owner e ∙ first.1))) ∙ z.1, z.2);
        holds = k'.holds;
        named = k'.named;
      } in
      let rights : K new right = record {
        seen = from_nothing r.log;
        met = from_nothing r.log;
        owns = λ q m h. let z = has_one p q [] m h in (
          subst (λ i. i < passes) z.0 first.0,
          ap owner' (sym z.0) ∙ ap (λ b. cond b new (r.owner p)) (eq-eqb p p refl),
          ap (λ i. events_of i r.log) (sym z.0) ∙ (first.2 ∙ z.1),
        );
        holds = λ k x e. absurd (not_none k x e);
        named = λ k x e. absurd (not_none k x e);
      } in record {
        log = r.log;
        holder = r.holder;
        owner = owner';
        right = r.right;
        ours = r.ours;
        wide = r.wide;
        tall = r.tall;
        count = r.count;
        each = λ j u a. ⊎_elim (λ was. each_set K s.views id left lefts others j u was)
            (λ (t : (j ≡ new) × (right ≡ u)). subst (λ (z : ℕ × View). K z.0 z.1) (λ i. (sym t.0 i, t.1 i)) rights)
            (at_end (set s.views id left) right u j a);
        free = r.free;
        busy = λ k l z. let b = r.busy k l z in
            let not_me : r.holder k ≢ id = (λ e. let was : v ≡ b.0 = same_view_at s.views id v b.0 at (subst (λ i. get_elem? s.views i ≡ some b.0) e b.2) in
            not_none k b.1 (ap (λ (q : View). q.held) was ∙ b.3)) in
            (b.0, b.1, at_longer (set s.views id left) (right ∷ []) (r.holder k) b.0 (set_else s.views id (r.holder k) left not_me ∙ b.2), b.3);
      }

  -- a new seat has seen what this one has
  pub witnesses : (id : ℕ) (v : View) → Splits R id v v (witness v)
  witnesses id v s r at =
      let mine = r.each id v at in
      let K : ℕ → View → Type 0 = Knows places passes replay r.log r.holder r.owner s.words in
      let same : set s.views id v ≡ s.views = set_again s.views id v at in
      let news : (j : ℕ) → K j (witness v) = λ j. record {
        seen = mine.seen;
        met = from_nothing r.log;
        owns = λ q m h. absurd h;
        holds = λ k x e. absurd (not_none k x e);
        named = λ k x e. absurd (not_none k x e);
      } in record {
        log = r.log;
        holder = r.holder;
        owner = r.owner;
        right = r.right;
        ours = r.ours;
        wide = r.wide;
        tall = r.tall;
        count = r.count;
        each = λ j u a. ⊎_elim (λ was. r.each j u (ap (λ l. get_elem? l j) (sym same) ∙ was))
            (λ (t : (j ≡ length (set s.views id v)) × (witness v ≡ u)). subst (λ (z : View). K j z) t.1 (news j))
            (at_end (set s.views id v) (witness v) u j a);
        free = r.free;
        busy = λ k l z. let b = r.busy k l z in
            (b.0, b.1, at_longer (set s.views id v) (witness v ∷ []) (r.holder k) b.0 (ap (λ l. get_elem? l (r.holder k)) same ∙ b.2), b.3);
      }

  -- a seat at rest is taken in by another
  pub joins : (id : ℕ) (v : View) (other : ℕ) (w : View) → w.held ≡ nothing_held → Joins R id v other w (joined v w) bare
  joins id v other w rests s r at apart' there =
      let both : View = joined v w in
      let was_there : get_elem? s.views other ≡ some w = sym (set_else s.views id other both apart') ∙ there in
      let mine = r.each id v at in
      let theirs = r.each other w was_there in
      let owner' : ℕ → ℕ = λ q. cond (r.owner q == other) id (r.owner q) in
      let moves : (q : ℕ) → r.owner q ≡ other → owner' q ≡ id = λ q e. ap (λ b. cond b id (r.owner q)) (eq-eqb (r.owner q) other e) in
      let stays : (q : ℕ) → r.owner q ≢ other → owner' q ≡ r.owner q = λ q e. ap (λ b. cond b id (r.owner q)) (ne_eqb (r.owner q) other e) in
      let K : ℕ → View → Type 0 = Knows places passes replay r.log r.holder owner' s.words in
      let views' : List View = set s.views id both in
      let boths : K id both = record {
        seen = mine.seen;
        met = theirs.seen;
        owns = λ q m h. ⊎_elim (λ a. let z = theirs.owns q m a in (z.0, moves q z.1, z.2))
            (λ a. let z = mine.owns q m a in (z.0, stays q (λ e. apart' (sym e ∙ z.1)) ∙ z.1, z.2))
            (has-split w.shares v.shares q m h);
        holds = mine.holds;
        named = λ k x e. let z = mine.named k x e in (z.0, z.1, has-right w.shares v.shares z.0 z.1 z.2);
      } in
      let bares : K other bare = record {
        seen = from_nothing r.log;
        met = from_nothing r.log;
        owns = λ q m h. absurd h;
        holds = λ k x e. absurd (not_none k x e);
        named = λ k x e. absurd (not_none k x e);
      } in
      let others : (j : ℕ) (u : View) → j ≢ other → j ≢ id → get_elem? s.views j ≡ some u → K j u = λ j u ne _ a. let k' = r.each j u a in record {
        seen = k'.seen;
        met = k'.met;
        owns = λ q m h. let z = k'.owns q m h in (z.0, stays q (λ e. ne (sym z.1 ∙ e)) ∙ z.1, z.2);
        holds = k'.holds;
        named = k'.named;
      } in record {
        log = r.log;
        holder = r.holder;
        owner = owner';
        right = r.right;
        ours = r.ours;
        wide = r.wide;
        tall = r.tall;
        count = r.count;
        each = each_set K views' other bare bares
            (λ j u ne a. each_set (λ j u. j ≢ other → K j u) s.views id both (λ _. boths) (λ j u mine' b ne'. others j u ne' mine' b) j u a ne);
        free = r.free;
        busy = λ k l z. let b = r.busy k l z in
            let not_other : r.holder k ≢ other = (λ e. let was : w ≡ b.0 = same_view_at s.views other w b.0 was_there (subst (λ i. get_elem? s.views i ≡ some b.0) e b.2) in
            not_none k b.1 (sym rests ∙ (ap (λ (q : View). q.held) was ∙ b.3))) in
            dite (ℕ_discrete (r.holder k) id)
            (λ is. let was : v ≡ b.0 = same_view_at s.views id v b.0 at (subst (λ i. get_elem? s.views i ≡ some b.0) is b.2) in (
              both,
              b.1,
              set_else views' other (r.holder k) bare not_other ∙ subst (λ i. get_elem? views' i ≡ some both) (sym is) (set_here s.views id both (inside s.views id v at)),
              ap (λ (q : View). q.held) was ∙ b.3,
            ))
            (λ not_me. (b.0, b.1, set_else views' other (r.holder k) bare not_other ∙ (set_else s.views id (r.holder k) both not_me ∙ b.2), b.3));
      }
