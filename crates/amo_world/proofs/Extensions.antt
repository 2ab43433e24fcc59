-- Histories that go on from one another.
use Rattle.std.proofs.Common.{◌≡◌, ℕ, Bool, true, false, ◌≤◌, ◌+◌, eqb, List, [], ◌∷◌, ◌++◌, length, ◌⊎◌, inl, inr, refl, sym, ◌∙◌, ap, subst, append_assoc, arith}
use Rattle.std.specs.Option.{option_to_list}
use Rattle.std.proofs.lemmas.List.{append-nil, length-append}
use Rattle.amo_object.specs.declared.step.Step.{Step}
use Rattle.amo_world.specs.declared.emission.Emission.{Emission}
use Rattle.amo_world.specs.declared.event.Event.{Event}
use Rattle.amo_world.specs.History.{Along, emissions, event_emission, Extends}
use Rattle.amo_world.specs.Served.{calls, calls_and, call_of}

pub itself : (past : List Event) → Extends past past
itself past = ([], refl)

pub one_event : (past : List Event) (e : Event) → Extends (e ∷ past) past
one_event past e = (e ∷ [], refl)

pub further : (latest later earlier : List Event) → Extends latest later → Extends later earlier → Extends latest earlier
further latest later earlier (xs, p) (ys, q) = (xs ++ ys, p ∙ ap (λ (t : List Event). xs ++ t) q ∙ simp append_assoc)

-- what holds of each event of a history holds of each event of an earlier one
along : (Holds : List Event → Event → Type 0) (newer earlier : List Event) → Along Holds (newer ++ earlier) → Along Holds earlier
along Holds [] earlier all = all
along Holds (e ∷ newer) earlier all = along Holds newer earlier all.1

pub earlier_too : (Holds : List Event → Event → Type 0) (later earlier : List Event) → Extends later earlier → Along Holds later
    → Along Holds earlier
earlier_too Holds later earlier (newer, is) all = along Holds newer earlier (subst (Along Holds) is all)

-- one list of calls more
called_if : (b : Bool) (old more : List Step) (e : Event) → (rest : List Step) × (calls_and b (old ++ more) e ≡ old ++ rest)
called_if true old more e = (more ++ option_to_list (call_of e.side e.act e.reply), simp append_assoc)
called_if false old more e = (more, refl)

called : (number : ℕ) (newer earlier : List Event) → (more : List Step) × (calls number (newer ++ earlier) ≡ calls number earlier ++ more)
called number [] earlier = ([], sym (append-nil (calls number earlier)))
called number (e ∷ newer) earlier =
    let before = called number newer earlier in
    let now = called_if (eqb number e.stream) (calls number earlier) before.0 e in
    (now.0, ap (λ (t : List Step). calls_and (eqb number e.stream) t e) before.1 ∙ now.1)

pub called_later : (number : ℕ) (later earlier : List Event) → Extends later earlier
    → (more : List Step) × (calls number later ≡ calls number earlier ++ more)
called_later number later earlier (newer, is) = let all = called number newer earlier in (all.0, ap (calls number) is ∙ all.1)

emitted : (newer earlier : List Event) → (more : List Emission) × (emissions (newer ++ earlier) ≡ emissions earlier ++ more)
emitted [] earlier = ([], sym (append-nil (emissions earlier)))
emitted (e ∷ newer) earlier =
    let before = emitted newer earlier in (
      before.0 ++ option_to_list (event_emission (newer ++ earlier) e),
      ap
          (λ (t : List Emission). t ++ option_to_list (event_emission (newer ++ earlier) e)) before.1 ∙ simp append_assoc,
    )

pub emitted_later : (later earlier : List Event) → Extends later earlier
    → (more : List Emission) × (emissions later ≡ emissions earlier ++ more)
emitted_later later earlier (newer, is) = let all = emitted newer earlier in (all.0, ap emissions is ∙ all.1)

-- a history of the same length is the same
pub same_length : (later earlier : List Event) → Extends later earlier → length later ≡ length earlier → later ≡ earlier
same_length later earlier ([], is) same = is
same_length later earlier (e ∷ newer, is) same =
    let longer : length later ≡ length (e ∷ newer) + length earlier =
    ap length is ∙ length-append (e ∷ newer) earlier in absurd (omega arith)

-- no history is shorter than one from which it goes on
pub no_shorter : (later earlier : List Event) → Extends later earlier → length earlier ≤ length later
no_shorter later earlier (newer, is) = omega (arith, ap length is, length-append newer earlier)

pub antisymmetric : (one other : List Event) → Extends one other → Extends other one → one ≡ other
antisymmetric one other there back = same_length one other there (omega (arith, no_shorter one other there, no_shorter other one back))

-- of two ends of one list, one is an end of the other
ends_comparable : (xs ys one other : List Event) → xs ++ one ≡ ys ++ other → Extends one other ⊎ Extends other one
ends_comparable [] ys one other is = inl (ys, is)
ends_comparable (x ∷ xs) [] one other is = inr (x ∷ xs, sym is)
ends_comparable (x ∷ xs) (y ∷ ys) one other is = ends_comparable xs ys one other cc

-- of two histories from which one goes on, one goes on from the other
pub comparable : (latest one other : List Event) → Extends latest one → Extends latest other → Extends one other ⊎ Extends other one
comparable latest one other (xs, p) (ys, q) = ends_comparable xs ys one other (sym p ∙ q)

-- the one that is not the shorter
pub longer_extends : (latest one other : List Event) → Extends latest one → Extends latest other → length other ≤ length one
    → Extends one other
longer_extends latest one other first second longer = elim (comparable latest one other first second) [
  | inl extends ↦ extends
  | inr back ↦
      let same : other ≡ one = same_length other one back (omega (arith, no_shorter other one back)) in
      subst (λ (x : List Event). Extends x other) same (itself other)
]
