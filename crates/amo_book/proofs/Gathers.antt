-- The passes of a book come back, one by one.
use Rattle.std.proofs.Common.{◌≡◌, ℕ, zero, suc, ◌<◌, arith, slice_get, List, [], ◌∷◌, ◌++◌, length, Some, None, refl, sym, ap, ◌∙◌, subst, inl}
use Rattle.std.proofs.lemmas.Option.{slice_get_within, slice_get-get_or, same_Some}
use Rattle.atomic_table.specs.Seated.{TableId}
use Rattle.amo_object.specs.declared.step.End.{End}
use Rattle.amo_object.specs.declared.step.End.TheVariants.{Sender}
use Rattle.amo_core.specs.declared.automaton.Automaton.{Automaton}
use Rattle.amo_world.specs.declared.event.Event.{Event}
use Rattle.amo_world.specs.History.{IsRight, Extends, events_of}
use Rattle.amo_world.proofs.Extensions.{itself, further}
use Rattle.amo_world.proofs.Serving.{serves}
use Rattle.amo_book.specs.declared.view.View.{View}
use Rattle.amo_book.specs.Pass.{PassState, Serves, mine}
use Rattle.amo_book.specs.Charge.{ChargeState, IsChargeOf}
use Rattle.amo_book.specs.Rule.{Has, HasAll, side_at}
use Rattle.amo_book.specs.Plays.{Sat, Looks, joined}
use Rattle.amo_book.specs.Steps.{IsPass, pass_of}
use Rattle.amo_book.specs.Book.{BookState, Each, AreFirstCharges, first_charge}
use Rattle.amo_book.specs.Closed.{AllPasses, StandsIn, Closes}
use Rattle.amo_book.specs.Gathering.{HasTaken, Ends}
use Rattle.amo_book.proofs.Fills.{each-from}
use Rattle.amo_book.proofs.Sharing.{has-left, has-right}

-- a right history serves its streams, where it is honest and fresh
pub serves_all : (history : List Event) → IsRight history → Serves history
serves_all history right honest fresh stream = serves stream history right honest fresh

-- the first charges are the book's
pub first_belong : (id : TableId) (sides : List (End × ℕ)) (charges : List ChargeState) → AreFirstCharges id sides charges → Each (IsChargeOf id sides) charges
first_belong id sides charges first = each-from (IsChargeOf id sides) charges (λ k x is.
    let lt = slice_get_within charges k x is in
    let long = first.0 in
    let at : slice_get sides k ≡ Some (side_at sides k) = slice_get-get_or sides k (Sender, 0) (omega arith) in
    let same = same_Some (first_charge id k (side_at sides k).0 (side_at sides k).1) x (sym (first.1 k (side_at sides k).0 (side_at sides k).1 at) ∙ is) in
    subst (IsChargeOf id sides) same (refl, at))

pub each-split : {A : Type 0} (P : A → Type 0) (xs ys : List A) → Each P (xs ++ ys) → Each P xs × Each P ys
each-split P [] ys h = (tt, h)
each-split P (x ∷ xs) ys h = let t = each-split P xs ys h.1 in ((h.0, t.0), t.1)

pub each-at : {A : Type 0} (P : A → Type 0) (xs : List A) (k : ℕ) (x : A) → slice_get xs k ≡ Some x → Each P xs → P x
each-at P [] k x e h = cc
each-at P (y ∷ ys) zero x e h = let is : y ≡ x = cc in subst P is h.0
each-at P (y ∷ ys) (suc k) x e h = each-at P ys k x e h.1

pub took_self : (id : TableId) (p : ℕ) (m : Sat) (c : PassState) → pass_of id p m ≡ c → IsPass p m → HasTaken m.0 c
took_self id p m c e h = subst (HasTaken m.0) e (subst (λ s. Has s p (events_of p m.0.seen)) (sym h.own) (inl refl), itself m.0.seen)

took_more : (v w : View) (cs : List PassState) → ((p : ℕ) (m : List Event) → Has v.shares p m → Has w.shares p m) → Extends w.seen v.seen
    → Each (HasTaken v) cs → Each (HasTaken w) cs
took_more v w [] f s h = tt
took_more v w (c ∷ cs) f s h = ((f c.number (mine c) h.0.0, further w.seen v.seen c.seen s h.0.1), took_more v w cs f s h.1)

-- one more pass is joined, and the history is looked at
pub took_one : (m m₁ n : Sat) (w : View) (r : ℕ) (c : PassState) (cs : List PassState) → m₁ ≡ (joined m.0 w, m.1) → Looks m₁ n r → HasTaken w c
    → Each (HasTaken m.0) cs → Each (HasTaken n.0) (c ∷ cs) × (n.1 ≡ m.1) × (n.0.held ≡ m.0.held)
took_one m m₁ n w r c cs e l one h =
    let shares : n.0.shares ≡ w.shares ++ m.0.shares = ap (λ (z : Sat). z.0.shares) l.0 ∙ ap (λ (z : Sat). z.0.shares) e in
    let seen : Extends n.0.seen m.0.seen = subst (λ (z : Sat). Extends n.0.seen z.0.seen) e l.1 in
    let met : Extends n.0.seen w.seen = subst (λ (z : Sat). Extends n.0.seen z.0.met) e l.2 in
    let here : (p : ℕ) (a : List Event) → Has w.shares p a → Has n.0.shares p a = λ p a h. subst (λ s. Has s p a) (sym shares) (has-left w.shares m.0.shares p a h) in
    let there : (p : ℕ) (a : List Event) → Has m.0.shares p a → Has n.0.shares p a = λ p a h. subst (λ s. Has s p a) (sym shares) (has-right w.shares m.0.shares p a h) in (
      ((here c.number (mine c) one.0, further n.0.seen w.seen c.seen met one.1), took_more m.0 n.0 cs there seen h),
      ap (λ (z : Sat). z.1) l.0 ∙ ap (λ (z : Sat). z.1) e,
      ap (λ (z : Sat). z.0.held) l.0 ∙ ap (λ (z : Sat). z.0.held) e,
    )

pub some_pass : (cs : List PassState) (n : ℕ) → 0 < n → AllPasses cs n → 0 < length cs
some_pass cs n lt h = let t = h 0 lt in let i = slice_get_within cs t.0 t.1 t.2 in omega arith

pub has_all : (cs : List PassState) (n : ℕ) (v : View) → v.held ≡ None → AllPasses cs n → Each (HasTaken v) cs → HasAll n v
has_all cs n v rests all h = (
  rests,
  λ p lt. let t = all p lt in let c : PassState = t.1 in (mine c, subst (λ q. Has v.shares q (mine c)) t.3 (each-at (HasTaken v) cs t.0 c t.2 h).0),
)

stands : (sides : List (End × ℕ)) (passes : ℕ) (v : View) (count : ℕ) (states : List Automaton) (e : Ends sides passes v count states)
    (cs : List PassState) → Each (HasTaken v) cs → Each (StandsIn e.log) cs
stands sides passes v count states e [] h = tt
stands sides passes v count states e (c ∷ cs) h =
    ((further e.log v.seen c.seen e.seen h.0.1, e.owns c.number (mine c) h.0.0), stands sides passes v count states e cs h.1)

pub closes : (book : BookState) (v : View) (count : ℕ) (states : List Automaton) (cs : List PassState) → Each (HasTaken v) cs
    → Ends book.sides book.passes v count states → Closes book cs (record { count = count; states = states })
closes book v count states cs h e = record {
  history = e.log;
  right = e.right;
  served = serves_all e.log e.right;
  each = stands book.sides book.passes v count states e cs h;
  no_others = e.ours;
  states = e.replays;
  count = e.counted;
}
