-- The steps of making a plan.
use Rattle.std.proofs.Common.{◌≡◌, ℕ, ◌+◌, ◌-◌, ◌<◌, ◌≤◌, Bool, true, false, if◌then◌else◌, nat_eq, List, [], ◌∷◌, ◌++◌, length, map, take, drop, reverse, get_or, sym, ◌∙◌, ap, subst, arith}
use Rattle.std.proofs.lemmas.Bool.{eqb-true, eq-eqb}
use Rattle.std.proofs.lemmas.List.{drop_all, drop_at, take-append-drop, length-append, drop_more, drop-drop}
use Rattle.amo_object.specs.declared.step.Step.{Step}
use Rattle.amo_object.specs.declared.step.Step.TheVariants.{Put, Get, Ack, Crash, Recover, DownReply, Lose, LoseAck}
use Rattle.std.proofs.lemmas.List.Elements.{filter_map-append}
use Rattle.amo_object.specs.Delivery.{message_got, messages_got, IsSubsequence}
use Rattle.amo_resolve.proofs.Lists.{got_more, marks_downs}
use Rattle.amo_resolve.specs.declared.plan.Note.{Note}
use Rattle.amo_resolve.specs.declared.plan.Ahead.{Ahead}
use Rattle.amo_resolve.specs.Plan.{Leaves, is_told_yes, is_told_no, got_before_answer, Choose, wanted_of, GoesOn, GoesAfter, IsLeast, IsNoted, IsPlan, Asks, IsAhead, IsAfter, IsPlanned, downs, noted_down}
use Rattle.amo_resolve.proofs.Asking.{asks_down, asks_least}
use Rattle.amo_resolve.proofs.Answered.{goes_on_told}

-- a flag is not both
pub never : (b : Bool) → b ≡ false → b ≡ true → ⊥
never b e f = cc

-- one message more was got
pub got_one : (before : ℕ) (got : List (List ℕ)) (m : List ℕ) (later : List (List ℕ)) → drop before got ≡ m ∷ later → drop (before + 1) got ≡ later
got_one before got m later is = sym (drop-drop 1 before got) ∙ ap (λ (xs : List (List ℕ)). drop 1 xs) is

-- no more messages are got than there are calls
pub got_length : (calls : List Step) → length (messages_got calls) ≤ length calls
got_length [] = omega arith
got_length (Put m ∷ calls) = omega (arith, got_length calls)
got_length (Get m ∷ calls) = omega (arith, got_length calls)
got_length (Ack answer ∷ calls) = omega (arith, got_length calls)
got_length (Crash side ∷ calls) = omega (arith, got_length calls)
got_length (Recover side ∷ calls) = omega (arith, got_length calls)
got_length (DownReply side ∷ calls) = omega (arith, got_length calls)
got_length (Lose place ∷ calls) = omega (arith, got_length calls)
got_length (LoseAck ∷ calls) = omega (arith, got_length calls)

pub got_before_small : (calls : List Step) → got_before_answer calls ≤ length (messages_got calls)
got_before_small [] = omega arith
got_before_small (Put m ∷ calls) = omega arith
got_before_small (Get m ∷ calls) = omega (arith, got_before_small calls)
got_before_small (Ack answer ∷ calls) = omega arith
got_before_small (Crash side ∷ calls) = omega (arith, got_before_small calls)
got_before_small (Recover side ∷ calls) = omega (arith, got_before_small calls)
got_before_small (DownReply side ∷ calls) = omega (arith, got_before_small calls)
got_before_small (Lose place ∷ calls) = omega (arith, got_before_small calls)
got_before_small (LoseAck ∷ calls) = omega (arith, got_before_small calls)

pub got_small : (calls : List Step) → got_before_answer calls ≤ length calls
got_small calls = omega (arith, got_before_small calls, got_length calls)

-- what is told yes
pub told_is_least : (calls : List Step) (notes : List Note) (note : Note) → IsPlan calls notes → is_told_yes calls ≡ true
    → note.wanted ≡ got_before_answer calls → IsLeast calls notes note
told_is_least calls notes note plan told is messages goes =
    let both = goes_on_told calls notes told plan messages goes in (
      subst (λ (n : ℕ). GoesOn calls notes (take n (messages_got calls))) (sym is) both.0,
      subst (λ (mode : Bool). Leaves mode (wanted_of calls note) messages) (sym told) (subst (λ (n : ℕ). Leaves true (take n (messages_got calls)) messages) (sym is) both.1),
    )

-- what is noted of a call before these
pub noted_told : (calls : List Step) (notes : List Note) (note : Note) → IsPlan calls notes → note.is_told_yes ≡ is_told_yes calls
    → note.is_told_yes ≡ true → note.wanted ≡ got_before_answer calls
    → note.is_told_no ≡ is_told_no calls notes → IsNoted calls notes note
noted_told calls notes note plan same told is when_no =
    (λ down. told_is_least calls notes note plan (sym same ∙ told) is, λ down also. is, when_no, same, omega (arith, is, got_before_small calls))

pub noted_least : (calls : List Step) (notes : List Note) (note : Note) (ahead : Ahead) → IsAhead ahead calls notes
    → note.is_told_yes ≡ is_told_yes calls → note.is_told_yes ≡ false
    → note.wanted ≡ ahead.most - ahead.spared → note.is_told_no ≡ is_told_no calls notes → IsNoted calls notes note
noted_least calls notes note ahead known same told is when_no = (
  λ down messages goes. least messages (asks_least ahead.here ahead.most ahead.spared ahead.is_settled (GoesOn calls notes) (messages_got calls) known.asks messages goes),
  λ down also. absurd (never (is_told_yes calls) (sym same ∙ told) also),
  when_no,
  same,
  omega (arith, is, known.asks.enough_most),
)
  where
    least : (messages : List (List ℕ)) → GoesOn calls notes (take (ahead.most - ahead.spared) (messages_got calls)) × IsSubsequence (take (ahead.most - ahead.spared) (messages_got calls)) messages
        → GoesOn calls notes (wanted_of calls note) × Leaves (is_told_yes calls) (wanted_of calls note) messages
    least messages both = (
      subst (λ (n : ℕ). GoesOn calls notes (take n (messages_got calls))) (sym is) both.0,
      subst (λ (mode : Bool). Leaves mode (wanted_of calls note) messages) (sym (sym same ∙ told))
          (subst (λ (n : ℕ). IsSubsequence (take n (messages_got calls)) messages) (sym is) both.1),
    )

-- nothing is known of a note where no side is down
pub noted_up : (calls : List Step) (notes : List Note) (note : Note) → note.is_down ≡ false
    → note.is_told_yes ≡ is_told_yes calls → note.wanted ≡ 0 → note.is_told_no ≡ is_told_no calls notes → IsNoted calls notes note
noted_up calls notes note up same is when_no =
    (λ down. absurd (never note.is_down up down), λ down. absurd (never note.is_down up down), when_no, same, omega (arith, is))

pub is_zero : (n : ℕ) → nat_eq n 0 ≡ true → n ≡ 0
is_zero n is = eqb-true n 0 is

pub not_zero : (n : ℕ) → nat_eq n 0 ≡ false → n ≡ 0 → ⊥
not_zero n is none = never (nat_eq n 0) is (eq-eqb n 0 none)

-- right after a call where no side is down calls ask the same
pub after_up : (ahead : Ahead) (calls : List Step) (notes : List Note) (note : Note) → note.is_down ≡ false → IsAhead ahead calls notes → IsAfter ahead calls notes note
after_up ahead calls notes note up known = record {
  asks = by note.is_down up;
  got = known.got;
  yes = known.yes;
  no = known.no ∙ ap (λ (down : Bool). if down then false else is_told_no calls notes) (sym up);
}
  where
    by : (down : Bool) → down ≡ false
        → Asks ahead.here ahead.most ahead.spared ahead.is_settled (λ rest. Choose down (Leaves (is_told_yes calls) (wanted_of calls note) rest) (GoesOn calls notes rest)) (messages_got calls)
    by true is = absurd cc
    by false is = known.asks

-- and where one is they ask what is noted
pub asks_noted : (settled : Bool) (calls : List Step) (notes : List Note) (note : Note) → note.is_down ≡ true → IsNoted calls notes note
    → (settled ≡ true → (note.is_told_yes ≡ true) × (note.wanted ≡ 0)) → (settled ≡ false → note.is_told_yes ≡ true → note.wanted ≡ 0 → ⊥)
    → Asks 0 note.wanted 0 settled (GoesAfter calls notes note) (messages_got calls)
asks_noted settled calls notes note down noted when unless = by note.is_down down
  where
    asked : Asks 0 note.wanted 0 settled (λ rest. Leaves (is_told_yes calls) (wanted_of calls note) rest) (messages_got calls)
    asked = subst (λ (told : Bool). Asks 0 note.wanted 0 settled (λ (rest : List (List ℕ)). Leaves told (wanted_of calls note) rest) (messages_got calls)) noted.3
        (asks_down note.is_told_yes settled note.wanted (messages_got calls) noted.4 when unless)

    by : (down : Bool) → down ≡ true
        → Asks 0 note.wanted 0 settled (λ rest. Choose down (Leaves (is_told_yes calls) (wanted_of calls note) rest) (GoesOn calls notes rest)) (messages_got calls)
    by true is = asked
    by false is = absurd cc

-- the calls from a place on are planned
pub record IsPlannedFrom (calls : List Step) (marks : List Bool) (those : List Note) (next : Ahead) (place : ℕ) : Type 0 where
  pub notes : List Note
  pub marked : map (λ (n : Note). n.is_down) notes ≡ drop place marks
  pub plan : IsPlan (drop place calls) notes
  pub ahead : IsAhead next (drop place calls) notes
  pub kept : reverse those ≡ noted_down notes

-- none of them is
pub planned_none : (calls : List Step) (marks : List Bool) (kept : List Note) (ahead : Ahead) (place : ℕ) → length calls ≤ place → length marks ≤ place
    → kept ≡ [] → IsAhead ahead [] [] → IsPlannedFrom calls marks kept ahead place
planned_none calls marks kept ahead place end marks_end none known =
    let no : drop place calls ≡ [] = drop_all place calls end in
    record {
      notes = [];
      marked = sym (drop_all place marks marks_end);
      plan = subst (λ (steps : List Step). IsPlan steps []) (sym no) tt;
      ahead = subst (λ (steps : List Step). IsAhead ahead steps []) (sym no) known;
      kept = ap reverse none;
    }

-- one call more is
pub planned_more : (calls : List Step) (marks : List Bool) (kept longer : List Note) (ahead before : Ahead) (place next : ℕ) (call : Step) (note : Note)
    → next ≡ place + 1 → place < length calls → place < length marks → call ≡ get_or calls place call → note.is_down ≡ get_or marks place note.is_down
    → (p : IsPlannedFrom calls marks kept ahead next) → IsNoted (drop next calls) p.notes note → IsAhead before (call ∷ drop next calls) (note ∷ p.notes)
    → reverse longer ≡ noted_down (note ∷ p.notes) → IsPlannedFrom calls marks longer before place
planned_more calls marks kept longer ahead before place next call note is within inside is_call is_down p noted known more =
    let split : drop place calls ≡ call ∷ drop next calls =
    drop_more calls place call within ∙ ap (λ (x : Step). x ∷ drop (place + 1) calls) (sym is_call) ∙ ap (λ (n : ℕ). call ∷ drop n calls) (sym is) in
    record {
      notes = note ∷ p.notes;
      marked = ap (λ (bs : List Bool). note.is_down ∷ bs) (p.marked ∙ ap (λ (n : ℕ). drop n marks) is)
          ∙ ap (λ (b : Bool). b ∷ drop (place + 1) marks) is_down ∙ sym (drop_more marks place note.is_down inside);
      plan = subst (λ (steps : List Step). IsPlan steps (note ∷ p.notes)) (sym split) (noted, p.plan);
      ahead = subst (λ (steps : List Step). IsAhead before steps (note ∷ p.notes)) (sym split) known;
      kept = more;
    }

-- and all are
pub planned_all : (calls : List Step) (marks : List Bool) (kept : List Note) (ahead : Ahead) (place : ℕ) → place ≡ 0 → marks ≡ downs false false calls
    → IsPlannedFrom calls marks kept ahead place → IsPlanned calls kept
planned_all calls marks kept ahead place start are p =
    let both = marks_downs false false calls p.notes (p.marked ∙ ap (λ (n : ℕ). drop n marks) start ∙ are) in
    record {
      notes = p.notes;
      marked = both;
      plan = subst (λ (n : ℕ). IsPlan (drop n calls) p.notes) start p.plan;
      kept = p.kept;
    }

-- how many were got before a call
pub got_so_far : (calls : List Step) (place next : ℕ) (call : Step) → next ≡ place + 1 → place < length calls → call ≡ get_or calls place call
    → length (messages_got (take next calls)) ≡ length (messages_got (take place calls)) + length (messages_got (call ∷ []))
got_so_far calls place next call is within is_call =
    ap (λ (n : ℕ). length (messages_got (take n calls))) is ∙ ap length (got_more calls place call within ∙ ap (λ (x : Step). messages_got (take place calls) ++ messages_got (x ∷ [])) (sym is_call))
    ∙ length-append (messages_got (take place calls)) (messages_got (call ∷ []))

pub got_there : (calls : List Step) (got : List (List ℕ)) (place first : ℕ) → got ≡ messages_got calls
    → first ≡ length (messages_got (take place calls)) → drop first got ≡ messages_got (drop place calls)
got_there calls got place first is counted =
    ap (λ (xs : List (List ℕ)). drop first xs) (is ∙ ap messages_got (sym (take-append-drop place calls)) ∙ filter_map-append message_got (take place calls) (drop place calls))
    ∙ drop_at (messages_got (take place calls)) (messages_got (drop place calls)) first (sym counted)

-- all that is got
pub got_in_all : (calls : List Step) (got : List (List ℕ)) (place first : ℕ) → got ≡ messages_got calls → first ≡ length (messages_got (take place calls))
    → first + length (messages_got (drop place calls)) ≡ length got
got_in_all calls got place first is counted =
    omega (
      arith,
      counted,
      ap length is,
      ap length (ap messages_got (sym (take-append-drop place calls)) ∙ filter_map-append message_got (take place calls) (drop place calls)),
      length-append (messages_got (take place calls)) (messages_got (drop place calls)),
    )
