-- The events of two sources, while a site takes them.
use Rattle.std.proofs.Common.{◌≡◌, ℕ, ◌+◌, ◌≤◌, Option, None, List, ◌∷◌, length, reverse, sym, ap, subst, arith}
use Rattle.std.specs.Prelude.{IfSome}
use Rattle.std.proofs.lemmas.List.{reverse-reverse}
use Rattle.amo_world.specs.declared.event.Event.{Event}
use Rattle.amo_world.specs.Stream.{IsStream}
use Rattle.amo_audit.specs.declared.coming.Coming.{Coming}
use Rattle.amo_audit.specs.declared.coming.Source.{Source}
use Rattle.amo_audit.specs.Coming.{AreComing, AreOnStreams, Has, NextMayGo, left_of, size_of}
use Rattle.amo_audit.specs.Merging.{IsTaken, Merges, OfSources}
use Rattle.amo_audit.proofs.Together.{Going, left_goes, right_goes, all_merged}

-- what comes behind the next event
comes_behind : (e : Event) (more : List Event) (next : Option Event) (rest : Source) (next' : Option Event) (rest' : Source)
    → ((events : List Event) → Has rest events → AreComing events next' rest') → AreComing (e ∷ more) next rest → AreComing more next' rest'
comes_behind e more next rest next' rest' comes coming = comes more coming.1

-- given what it is to have taken events, the newest first
module _ {S : Type 0} (HasTaken : S → List Event → Type 0) where
  -- how far both have come: what was taken, and what is still to come
  pub record Along (first second : Source) (site : S) (taken of_first : ℕ) (left : Option Event) (left_rest : Source) (right : Option Event) (right_rest : Source) : Type 0 where
    pub past : List Event
    pub counted : taken ≡ length past
    pub held : HasTaken site past
    pub going : Going first second past left left_rest right right_rest
    pub of_first_is : of_first ≡ going.i
    pub of_both : taken ≡ going.i + going.j
    pub left_stream : IfSome left (λ e. IsStream e.stream)
    pub left_streams : AreOnStreams left_rest
    pub right_stream : IfSome right (λ e. IsStream e.stream)
    pub right_streams : AreOnStreams right_rest
    pub few : taken + left_of left left_rest + left_of right right_rest ≤ size_of first + size_of second

-- what waits is handed back
pub moved : {S : Type 0} → (HasTaken : S → List Event → Type 0) (first second : Source) (site : S) (taken of_first : ℕ) (left left' : Option Event) (left_rest left_rest' : Source) (right : Option Event) (right_rest : Source)
    → Along HasTaken first second site taken of_first left left_rest right right_rest → left' ≡ left → left_rest' ≡ left_rest → Along HasTaken first second site taken of_first left' left_rest' right right_rest
moved HasTaken first second site taken of_first left left' left_rest left_rest' right right_rest along p q =
    subst (λ (l : Option Event). Along HasTaken first second site taken of_first l left_rest' right right_rest) (sym p)
    (subst (λ (t : Source). Along HasTaken first second site taken of_first left t right right_rest) (sym q) along)

module _ {S : Type 0} (HasTaken : S → List Event → Type 0) (first second : Source) (site now : S) (taken of_first : ℕ) (left : Option Event) (left_rest : Source) (right : Option Event) (right_rest : Source)
    (along : Along HasTaken first second site taken of_first left left_rest right right_rest) where
  -- the first source's next event was taken
  pub left_taken : (later : Coming) (e : Event) → IsTaken HasTaken now along.past left left_rest later e → Along HasTaken first second now (taken + 1) (of_first + 1) later.next later.rest right right_rest
  unfolding left_goes
  left_taken later e it =
      let all : left_of left left_rest ≡ size_of left_rest + 1 = ap (λ (n : Option Event). left_of n left_rest) it.was_next in
      record {
        past = e ∷ along.past;
        counted = omega (arith, along.counted);
        held = it.taken;
        going = left_goes first second along.past left left_rest right right_rest along.going e later.next later.rest it.was_next it.may_go
            (λ more coming. comes_behind e more left left_rest later.next later.rest it.coming coming);
        of_first_is = omega (arith, along.of_first_is);
        of_both = omega (arith, along.of_both);
        left_stream = it.stream;
        left_streams = it.streams;
        right_stream = along.right_stream;
        right_streams = along.right_streams;
        few = omega (arith, along.few, all, it.fewer);
      }

  -- the second's, since the first's waits
  pub right_taken : (later : Coming) (e : Event) → (NextMayGo along.past left → ⊥) → IsTaken HasTaken now along.past right right_rest later e → Along HasTaken first second now (taken + 1) of_first left left_rest later.next later.rest
  unfolding right_goes
  right_taken later e not it =
      let all : left_of right right_rest ≡ size_of right_rest + 1 = ap (λ (n : Option Event). left_of n right_rest) it.was_next in
      record {
        past = e ∷ along.past;
        counted = omega (arith, along.counted);
        held = it.taken;
        going = right_goes first second along.past left left_rest right right_rest along.going e later.next later.rest not it.was_next it.may_go
            (λ more coming. comes_behind e more right right_rest later.next later.rest it.coming coming);
        of_first_is = along.of_first_is;
        of_both = omega (arith, along.of_both);
        left_stream = along.left_stream;
        left_streams = along.left_streams;
        right_stream = it.stream;
        right_streams = it.streams;
        few = omega (arith, along.few, all, it.fewer);
      }

module _ {S : Type 0} (HasTaken : S → List Event → Type 0) (first second : Source) (site : S) (taken of_first : ℕ) (left : Option Event) (left_rest : Source) (right : Option Event) (right_rest : Source)
    (along : Along HasTaken first second site taken of_first left left_rest right right_rest) where
  -- all was taken
  pub all_taken : left ≡ None → right ≡ None → OfSources first second (Merges HasTaken site)
  all_taken none none' =
      let (x, y, p, q, (apart, preferred)) = all_merged first second along.past left left_rest right right_rest along.going none none' in
      (x, y, p, q, (apart, (reverse along.past, preferred, subst (HasTaken site) (sym (reverse-reverse along.past)) along.held)))
