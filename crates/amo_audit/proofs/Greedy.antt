-- Greed is complete: an event that comes first among those of an honest interleaving that were not taken yet may go.
use Rattle.std.proofs.Common.{◌≡◌, ℕ, zero, suc, ◌+◌, ◌≤◌, length, arith, Bool, true, false, List, [], ◌∷◌, ◌++◌, refl, sym, ◌∙◌, ap, subst, inl, inr, ◌⊎◌, reverse, append_assoc}
use Rattle.std.proofs.lemmas.List.{reverse-append}
use Rattle.std.proofs.lemmas.List.Elements.{Contains-append_left, Contains-append_right}
use Rattle.std.specs.List.{Contains}
use Rattle.std.specs.BTreeMap.{is_at}
use Rattle.std.specs.Cmp.{Equal-is}
use Rattle.std.proofs.lemmas.Cmp.{tied_itself}
use Rattle.amo_object.specs.declared.step.End.{End}
use Rattle.amo_object.specs.End.{other}
use Rattle.amo_core.specs.declared.act.Act.{Act}
use Rattle.amo_core.specs.declared.act.Act.TheVariants.{Put, Get, Ack, Start, Batch, Resend, Deliver, Crash, Recover}
use Rattle.amo_packet.specs.contracts.packet.OwnedPacketOrd.TheImpl.Laws.{total-law}
use Rattle.amo_packet.proofs.Ties.{packets_tie}
use Rattle.amo_audit.specs.Side.{order}
use Rattle.amo_world.specs.Stream.{Stream, emitted_by}
use Rattle.amo_world.specs.History.{stream_before, WasEmitted}
use Rattle.amo_packet.specs.declared.packet.OwnedPacket.{OwnedPacket}
use Rattle.amo_world.specs.declared.event.Event.{Event}
use Rattle.amo_world.specs.History.{DeliversEmitted, IsHonest}
use Rattle.amo_world.proofs.Lists.{contains_nothing, contains_cases, contains_first, contains_other}
use Rattle.amo_audit.specs.Merge.{Interleaves, MayGo, Prefers, SharesSide}
use Rattle.amo_audit.proofs.Sight.{Sight, sight, step, run, either, sight_more, run_more, kept, still, in_either_order}

-- events in the order of time are honest after a history
abbrev pub AreHonest : List Event → List Event → Type 0
AreHonest past [] = Unit {0}
AreHonest past (e ∷ es) = DeliversEmitted past e × AreHonest (e ∷ past) es

abbrev pub AreApart : List Event → List Event → Type 0
AreApart first second = (x y : Event) → Contains first x → Contains second y → x.stream ≡ y.stream → x.side ≡ y.side → ⊥

-- all sides are as after another history, and what was taken since then of both lists
abbrev pub IsAhead : List Event → List Event → List Event → List Event → Type 0
IsAhead now was first second = (n : ℕ) (side : End) → sight n side now ≡ run n side second (run n side first (sight n side was))

-- what might go then, may go now
pub goes : (now was first second : List Event) (e : Event) → IsAhead now was first second → DeliversEmitted was e → DeliversEmitted now e
goes now was first second e ahead = still was now e
    (λ n at p c. subst (λ (v : Sight). Contains v.emitted p) (sym (ahead n at)) (kept n at second (run n at first (sight n at was)) p (kept n at first (sight n at was) p c)))

pub ahead_first : (now was first second : List Event) (e : Event) → IsAhead now was (e ∷ first) second → IsAhead now (e ∷ was) first second
ahead_first now was first second e ahead n side = ahead n side ∙ ap (λ (v : Sight). run n side second (run n side first v)) (sym (sight_more n side was e))

pub ahead_second : (now was first second : List Event) (e : Event) → ((x : Event) → Contains first x → x.stream ≡ e.stream → x.side ≡ e.side → ⊥) → IsAhead now was first (e ∷ second) → IsAhead now (e ∷ was) first second
ahead_second now was first second e apart ahead n side =
    ahead n side
    ∙ ap (run n side second) (sym (in_either_order n side e first (sight n side was) apart))
    ∙ ap (λ (v : Sight). run n side second (run n side first v)) (sym (sight_more n side was e))

-- one event more was taken of the first list, or of the second
pub took_first : (now was first second : List Event) (e : Event) → ((y : Event) → Contains second y → e.stream ≡ y.stream → e.side ≡ y.side → ⊥) → IsAhead now was first second → IsAhead (e ∷ now) was (first ++ e ∷ []) second
took_first now was first second e apart ahead n side =
    sight_more n side now e
    ∙ ap (step n side e) (ahead n side)
    ∙ sym (in_either_order n side e second (run n side first (sight n side was)) (λ y c same at. apart y c (sym same) (sym at)))
    ∙ ap (run n side second) (sym (run_more n side first e (sight n side was)))

pub took_second : (now was first second : List Event) (e : Event) → IsAhead now was first second → IsAhead (e ∷ now) was first (second ++ e ∷ [])
took_second now was first second e ahead n side =
    sight_more n side now e
    ∙ ap (step n side e) (ahead n side)
    ∙ sym (run_more n side second e (run n side first (sight n side was)))

-- what lists begin with
abbrev head_or : Event → List Event → Event
head_or d [] = d
head_or d (x ∷ xs) = x

abbrev tail : List Event → List Event
tail [] = []
tail (x ∷ xs) = xs

pub same_head : (x y : Event) (xs ys : List Event) → x ∷ xs ≡ y ∷ ys → x ≡ y
same_head x y xs ys e = ap (head_or x) e

pub same_tail : (x y : Event) (xs ys : List Event) → x ∷ xs ≡ y ∷ ys → xs ≡ ys
same_tail x y xs ys e = ap tail e

end_of : (xs ys : List Event) → xs ++ ys ≡ [] → ys ≡ []
end_of [] ys e = e
end_of (x ∷ xs) ys e = absurd (no e)
  where
    no : x ∷ (xs ++ ys) ≡ [] → ⊥
    no e = cc

-- the next event of one of both lists may go, or both are at their end
pub goes_on : (now was first second xs ys merged : List Event) → AreApart (first ++ xs) (second ++ ys) → IsAhead now was first second
    → Interleaves (first ++ xs) (second ++ ys) merged → AreHonest was merged → MayGo now xs ⊎ MayGo now ys ⊎ ((xs ≡ []) × (ys ≡ []))
goes_on now was first second xs ys [] apart ahead (p, q) honest = inr (inr (end_of first xs p, end_of second ys q))
goes_on now was [] second xs ys (e ∷ merged) apart ahead (inl (rest, is, inter)) (may, honest) = inl (subst (MayGo now) (sym is) (goes now was [] second e ahead may))
goes_on now was (d ∷ first) second xs ys (e ∷ merged) apart ahead (inl (rest, is, inter)) (may, honest) =
    goes_on now (e ∷ was) first second xs ys merged
    (λ x y c. apart x y (contains_other d (first ++ xs) x c))
    (ahead_first now was first second e (subst (λ (x : Event). IsAhead now was (x ∷ first) second) (same_head d e (first ++ xs) rest is) ahead))
    (subst (λ (r : List Event). Interleaves r (second ++ ys) merged) (sym (same_tail d e (first ++ xs) rest is)) inter)
    honest
goes_on now was first [] xs ys (e ∷ merged) apart ahead (inr (rest, is, inter)) (may, honest) = inr (inl (subst (MayGo now) (sym is) (goes now was first [] e ahead may)))
goes_on now was first (d ∷ second) xs ys (e ∷ merged) apart ahead (inr (rest, is, inter)) (may, honest) =
    let same = same_head d e (second ++ ys) rest is in
    goes_on now (e ∷ was) first second xs ys merged
    (λ x y c there. apart x y c (contains_other d (second ++ ys) y there))
    (ahead_second now was first second e
    (λ x c. apart x e (Contains-append_left first xs x c) (subst (Contains (d ∷ (second ++ ys))) same (contains_first d (second ++ ys))))
    (subst (λ (x : Event). IsAhead now was first (x ∷ second)) same ahead))
    (subst (λ (r : List Event). Interleaves (first ++ xs) r merged) (sym (same_tail d e (second ++ ys) rest is)) inter)
    honest

-- events in the order of time, and the history that they are
pub shift : (past es : List Event) (e : Event) → reverse (e ∷ es) ++ past ≡ reverse es ++ e ∷ past
shift past es e = ap (λ (t : List Event). t ++ past) (reverse-append (e ∷ []) es) ∙ simp append_assoc

pub honest_events : (past es : List Event) → IsHonest (reverse es ++ past) → AreHonest past es × IsHonest past
honest_events past [] honest = (tt, honest)
honest_events past (e ∷ es) honest =
    let all = honest_events (e ∷ past) es (subst IsHonest (shift past es e) honest) in
    ((all.1.0, all.0), all.1.1)

pub honest_history : (past es : List Event) → AreHonest past es → IsHonest past → IsHonest (reverse es ++ past)
honest_history past [] honest so_far = so_far
honest_history past (e ∷ es) (may, honest) so_far = subst IsHonest (sym (shift past es e)) (honest_history (e ∷ past) es honest (may, so_far))

-- the preferred interleaving is honest, and one of the interleavings
pub preferred_interleaves : (past first second merged : List Event) → Prefers past first second merged → Interleaves first second merged
preferred_interleaves past first second [] both = both
preferred_interleaves past first second (e ∷ merged) (inl (rest, is, may, more)) = inl (rest, is, preferred_interleaves (e ∷ past) rest second merged more)
preferred_interleaves past first second (e ∷ merged) (inr (rest, is, not, may, more)) = inr (rest, is, preferred_interleaves (e ∷ past) first rest merged more)

pub preferred_is_honest : (past first second merged : List Event) → Prefers past first second merged → AreHonest past merged
preferred_is_honest past first second [] both = tt
preferred_is_honest past first second (e ∷ merged) (inl (rest, is, may, more)) = (may, preferred_is_honest (e ∷ past) rest second merged more)
preferred_is_honest past first second (e ∷ merged) (inr (rest, is, not, may, more)) = (may, preferred_is_honest (e ∷ past) first rest merged more)

-- there is at most one
none_left : (e : Event) (es : List Event) → [] ≡ e ∷ es → ⊥
none_left e es p = cc

-- what goes on after the same event
both_first : (past first second a b xs ys : List Event) (e f : Event) → first ≡ e ∷ xs → first ≡ f ∷ ys → Prefers (e ∷ past) xs second a → Prefers (f ∷ past) ys second b → ((d : Event) (r : List Event) → Prefers (d ∷ past) r second a → Prefers (d ∷ past) r second b → a ≡ b) → e ∷ a ≡ f ∷ b
both_first past first second a b xs ys e f p q more again one =
    let same = same_head f e ys xs (sym q ∙ p) in
    let rest = same_tail f e ys xs (sym q ∙ p) in
    let again' : Prefers (e ∷ past) xs second b = subst (λ (d : Event). Prefers (d ∷ past) xs second b) same (subst (λ (r : List Event). Prefers (f ∷ past) r second b) rest again) in
    ap (λ (d : Event). d ∷ a) (sym same) ∙ ap (λ (t : List Event). f ∷ t) (one e xs more again')

both_second : (past first second a b xs ys : List Event) (e f : Event) → second ≡ e ∷ xs → second ≡ f ∷ ys → Prefers (e ∷ past) first xs a → Prefers (f ∷ past) first ys b → ((d : Event) (r : List Event) → Prefers (d ∷ past) first r a → Prefers (d ∷ past) first r b → a ≡ b) → e ∷ a ≡ f ∷ b
both_second past first second a b xs ys e f p q more again one =
    let same = same_head f e ys xs (sym q ∙ p) in
    let rest = same_tail f e ys xs (sym q ∙ p) in
    let again' : Prefers (e ∷ past) first xs b = subst (λ (d : Event). Prefers (d ∷ past) first xs b) same (subst (λ (r : List Event). Prefers (f ∷ past) first r b) rest again) in
    ap (λ (d : Event). d ∷ a) (sym same) ∙ ap (λ (t : List Event). f ∷ t) (one e xs more again')

pub only_one : (past first second a b : List Event) → Prefers past first second a → Prefers past first second b → a ≡ b
only_one past first second [] [] p q = refl
only_one past first second [] (e ∷ b) (none, end) (inl (rest, is, may, more)) = absurd (none_left e rest (sym none ∙ is))
only_one past first second [] (e ∷ b) (none, end) (inr (rest, is, not, may, more)) = absurd (none_left e rest (sym end ∙ is))
only_one past first second (e ∷ a) [] (inl (rest, is, may, more)) (none, end) = absurd (none_left e rest (sym none ∙ is))
only_one past first second (e ∷ a) [] (inr (rest, is, not, may, more)) (none, end) = absurd (none_left e rest (sym end ∙ is))
only_one past first second (e ∷ a) (f ∷ b) (inl (xs, p, may, more)) (inl (ys, q, may', again)) = both_first past first second a b xs ys e f p q more again (λ d r. only_one (d ∷ past) r second a b)
only_one past first second (e ∷ a) (f ∷ b) (inl (xs, p, may, more)) (inr (ys, q, not, may', again)) = absurd (not (subst (MayGo past) (sym p) may))
only_one past first second (e ∷ a) (f ∷ b) (inr (xs, p, not, may, more)) (inl (ys, q, may', again)) = absurd (not (subst (MayGo past) (sym q) may'))
only_one past first second (e ∷ a) (f ∷ b) (inr (xs, p, not, may, more)) (inr (ys, q, not', may', again)) = both_second past first second a b xs ys e f p q more again (λ d r. only_one (d ∷ past) first r a b)

-- whether an event may go is decided
pub same_packet : (p q : OwnedPacket) → is_at (order p) q ≡ true → p ≡ q
same_packet p q e = packets_tie p q ((Equal-is (order p q)).0 e)

pub at_itself : (p : OwnedPacket) → is_at (order p) p ≡ true
at_itself p = (Equal-is (order p p)).1 (tied_itself total-law p)

pub differ : (b : Bool) → b ≡ true → b ≡ false → ⊥
differ true e f = cc
differ false e f = cc

among_more : (p q : OwnedPacket) (ps : List OwnedPacket) → (is_at (order q) p ≡ true) ⊎ (is_at (order q) p ≡ false) → Contains ps p ⊎ (Contains ps p → ⊥) → Contains (q ∷ ps) p ⊎ (Contains (q ∷ ps) p → ⊥)
among_more p q ps (inl same) more = inl (subst (Contains (q ∷ ps)) (same_packet q p same) (contains_first q ps))
among_more p q ps (inr apart) (inl there) = inl (contains_other q ps p there)
among_more p q ps (inr apart) (inr not) = inr (λ c. neither (contains_cases q ps p c))
  where
    neither : (q ≡ p) ⊎ Contains ps p → ⊥
    neither (inl is) = differ (is_at (order q) p) (subst (λ (r : OwnedPacket). is_at (order q) r ≡ true) is (at_itself q)) apart
    neither (inr there) = not there

among : (p : OwnedPacket) (ps : List OwnedPacket) → Contains ps p ⊎ (Contains ps p → ⊥)
among p [] = inr (contains_nothing p)
among p (q ∷ ps) = among_more p q ps (either (is_at (order q) p)) (among p ps)

was_decided : (s : Stream) (side : End) (a : Act) → WasEmitted s side a ⊎ (WasEmitted s side a → ⊥)
was_decided s side (Put m) = inl tt
was_decided s side Get = inl tt
was_decided s side Ack = inl tt
was_decided s side (Start word) = inl tt
was_decided s side (Batch word) = inl tt
was_decided s side Resend = inl tt
was_decided s side (Deliver packet word) = among packet (emitted_by s (other side))
was_decided s side Crash = inl tt
was_decided s side Recover = inl tt

decided : (past es : List Event) → MayGo past es ⊎ (MayGo past es → ⊥)
decided past [] = inr (λ no. no)
decided past (e ∷ es) = was_decided (stream_before past e) e.side e.act

-- so greed gets to the end where any interleaving does
pub one_after : (first : List Event) (x : Event) (xs : List Event) → first ++ x ∷ xs ≡ (first ++ x ∷ []) ++ xs
one_after first x xs = simp append_assoc

abbrev Completes : ℕ → List Event → Type 0
Completes fuel merged = (now first second xs ys : List Event) → length xs + length ys ≤ fuel → AreApart (first ++ xs) (second ++ ys) → IsAhead now [] first second
    → Interleaves (first ++ xs) (second ++ ys) merged → (preferred : List Event) × Prefers now xs ys preferred

one_more : (fuel : ℕ) (merged : List Event) → Completes fuel merged → (now first second xs ys : List Event) → length xs + length ys ≤ suc fuel → AreApart (first ++ xs) (second ++ ys) → IsAhead now [] first second
    → Interleaves (first ++ xs) (second ++ ys) merged → MayGo now xs ⊎ (MayGo now xs → ⊥) → MayGo now xs ⊎ MayGo now ys ⊎ ((xs ≡ []) × (ys ≡ [])) → (preferred : List Event) × Prefers now xs ys preferred
one_more fuel merged rec now first second xs ys small apart ahead inter test (inr (inr both)) = ([], both)
one_more fuel merged rec now first second xs ys small apart ahead inter (inr not) (inl may) = absurd (not may)
one_more fuel merged rec now first second xs [] small apart ahead inter (inr not) (inr (inl may)) = absurd may
one_more fuel merged rec now first second xs (y ∷ ys) small apart ahead inter (inr not) (inr (inl may)) =
    let more = rec (y ∷ now) first (second ++ y ∷ []) xs ys (omega arith)
    (subst (AreApart (first ++ xs)) (one_after second y ys) apart)
    (took_second now [] first second y ahead)
    (subst (λ (t : List Event). Interleaves (first ++ xs) t merged) (one_after second y ys) inter) in
    (y ∷ more.0, inr (ys, refl, not, may, more.1))
one_more fuel merged rec now first second [] ys small apart ahead inter (inl may) any = absurd may
one_more fuel merged rec now first second (x ∷ xs) ys small apart ahead inter (inl may) any =
    let more = rec (x ∷ now) (first ++ x ∷ []) second xs ys (omega arith)
    (subst (λ (t : List Event). AreApart t (second ++ ys)) (one_after first x xs) apart)
    (took_first now [] first second x (λ y c. apart x y (Contains-append_right first (x ∷ xs) x (contains_first x xs)) (Contains-append_left second ys y c)) ahead)
    (subst (λ (t : List Event). Interleaves t (second ++ ys) merged) (one_after first x xs) inter) in
    (x ∷ more.0, inl (xs, refl, may, more.1))

pub complete : (fuel : ℕ) (merged : List Event) → AreHonest [] merged → Completes fuel merged
complete zero merged honest now first second [] [] small apart ahead inter = ([], (refl, refl))
complete zero merged honest now first second (x ∷ xs) ys small apart ahead inter = absurd (omega arith)
complete zero merged honest now first second [] (y ∷ ys) small apart ahead inter = absurd (omega arith)
complete (suc fuel) merged honest now first second xs ys small apart ahead inter =
    one_more fuel merged (complete fuel merged honest) now first second xs ys small apart ahead inter (decided now xs) (goes_on now [] first second xs ys merged apart ahead inter honest)

pub apart_from : (first second : List Event) → (¬ (SharesSide first second)) → AreApart first second
apart_from first second not x y in_first in_second stream side = not (x, y, in_first, in_second, stream, side)
