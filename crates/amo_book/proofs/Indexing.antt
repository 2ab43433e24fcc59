-- An index that is filled side by side.
use Rattle.std.proofs.Common.{◌≡◌, ◌≢◌, ℕ, zero, suc, ◌+◌, ◌<◌, ◌⊎◌, inl, inr, ⊎_elim, Option, Some, None, List, length, slice_get, replicate, refl, sym, ap, ◌∙◌, subst, arith}
use Rattle.std.proofs.lemmas.Option.{slice_get_within, same_Some, none-some, some_pair_parts}
use mathlib.Core.Logic.{dite}
use native.Mathlib.Decide.{ℕ_discrete}
use Rattle.amo_object.specs.declared.step.End.{End}
use Rattle.amo_object.specs.declared.step.End.TheVariants.{Sender, Receiver}
use Rattle.amo_world.specs.Stream.{IsStream}
use Rattle.amo_book.specs.declared.index.Index.{Index}
use Rattle.amo_book.specs.Index.{flat, place_of, IsIndex, Adds}
use Rattle.amo_book.specs.Book.{AreLawful}

-- the first n sides have their places, and no other
pub record IndexTo (sides : List (End × ℕ)) (n : ℕ) (index : Index) : Type 0 where
  pub kept : (side : End) (stream place : ℕ) → place_of index side stream ≡ Some place → (place < n) × (slice_get sides place ≡ Some (side, stream))
  pub found : (side : End) (stream place : ℕ) → place < n → slice_get sides place ≡ Some (side, stream) → place_of index side stream ≡ Some place
  pub streams : (place : ℕ) (side : End) (stream : ℕ) → place < n → slice_get sides place ≡ Some (side, stream) → IsStream stream

pub begins : (sides : List (End × ℕ)) (index : Index) → ((side : End) (stream : ℕ) → place_of index side stream ≡ None) → IndexTo sides 0 index
begins sides index none = record {
  kept = λ side stream place is. absurd (none-some place (sym (none side stream) ∙ is));
  found = λ side stream place lt is. absurd (omega arith);
  streams = λ place side stream lt is. absurd (omega arith);
}

same_end : (a b : End) → (a ≡ b) ⊎ (a ≢ b)
same_end Sender Sender = inl refl
same_end Sender Receiver = inr (λ e. cc)
same_end Receiver Sender = inr (λ e. cc)
same_end Receiver Receiver = inl refl

-- the key is the one that is added, or another
pub same_key : (s side : End) (n stream : ℕ) → ((s ≡ side) × (n ≡ stream)) ⊎ (s ≡ side → n ≡ stream → ⊥)
same_key s side n stream = ⊎_elim
    (λ same. dite (ℕ_discrete n stream) (λ is. inl (same, is)) (λ other. inr (λ _ is. other is)))
    (λ other. inr (λ same _. other same))
    (same_end s side)

pub adds : (sides : List (End × ℕ)) (place : ℕ) (old new : Index) (side : End) (stream : ℕ) → slice_get sides place ≡ Some (side, stream)
    → Adds old new side stream place → IndexTo sides place old → IndexTo sides (place + 1) new
adds sides place old new side stream at more before = record {
  kept = λ s n p is. ⊎_elim
      (λ (t : (s ≡ side) × (n ≡ stream)).
      let same : p ≡ place = same_Some p place (sym is ∙ ((λ i. place_of new (t.0 i) (t.1 i)) ∙ more.here)) in
      let key : Option (End × ℕ) = Some (s, n) in
      let there : slice_get sides p ≡ key = ap (slice_get sides) same ∙ (at ∙ (λ i. Some (sym t.0 i, sym t.1 i))) in
      (omega arith, there))
      (λ other. let t = before.kept s n p (sym (more.others s n other) ∙ is) in let lt = t.0 in (omega arith, t.1))
      (same_key s side n stream);
  found = λ s n p lt is. dite (ℕ_discrete p place)
      (λ same. let t = some_pair_parts s side n stream (sym is ∙ (ap (slice_get sides) same ∙ at)) in
      (λ i. place_of new (t.0 i) (t.1 i)) ∙ (more.here ∙ ap Some (sym same)))
      (λ earlier. let was = before.found s n p (omega arith) is in
      more.others s n (λ a b. none-some p (sym more.fresh ∙ ((λ i. place_of old (sym a i) (sym b i)) ∙ was))) ∙ was);
  streams = λ p s n lt is. dite (ℕ_discrete p place)
      (λ same. let t = some_pair_parts s side n stream (sym is ∙ (ap (slice_get sides) same ∙ at)) in subst IsStream (sym t.1) more.lawful)
      (λ earlier. before.streams p s n (omega arith) is);
}

pub whole : (sides : List (End × ℕ)) (n : ℕ) (index : Index) → n ≡ length sides → 0 < length sides → IndexTo sides n index → IsIndex sides index × AreLawful sides
whole sides n index all some t = (
  (λ side stream place. (
    (λ is. (t.kept side stream place is).1),
    (λ is. let lt = slice_get_within sides place (side, stream) is in t.found side stream place (omega arith) is),
  )),
  record {
    some = some;
    streams = λ k side stream is. let lt = slice_get_within sides k (side, stream) is in t.streams k side stream (omega arith) is;
    apart = λ i j side a b. let x = slice_get_within sides i side a in let y = slice_get_within sides j side b in
        same_Some i j (sym (t.found side.0 side.1 i (omega arith) a) ∙ t.found side.0 side.1 j (omega arith) b);
  },
)

-- a side that is refused is none of a host's streams, or stands twice
pub not_lawful : (sides : List (End × ℕ)) (place : ℕ) (index : Index) (side : End) (stream : ℕ) → slice_get sides place ≡ Some (side, stream)
    → (IsStream stream → (k : ℕ) × (place_of index side stream ≡ Some k)) → IndexTo sides place index → AreLawful sides → ⊥
not_lawful sides place index side stream at refused t lawful =
    let k = refused (lawful.streams place side stream at) in
    let was = t.kept side stream k.0 k.1 in
    let same = lawful.apart k.0 place (side, stream) was.1 at in
    let lt = was.0 in
    omega arith

-- nothing is kept at first
pub empty : (n k : ℕ) → let l : List (Option ℕ) = replicate n None in flat (slice_get l k) ≡ None
empty zero k = refl
empty (suc n) zero = refl
empty (suc n) (suc k) = empty n k

pub empty_index : (index : Index) → index.senders ≡ replicate 257 None → index.receivers ≡ replicate 257 None
    → (side : End) (stream : ℕ) → place_of index side stream ≡ None
empty_index index a b Sender stream = ap (λ (l : List (Option ℕ)). flat (slice_get l stream)) a ∙ empty 257 stream
empty_index index a b Receiver stream = ap (λ (l : List (Option ℕ)). flat (slice_get l stream)) b ∙ empty 257 stream
