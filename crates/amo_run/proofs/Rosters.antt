-- Each event bears the pass of who makes such an event.
use Rattle.std.proofs.Common.{◌≡◌, ℕ, zero, suc, ◌-◌, ◌<◌, ◌≤◌, ◌==◌, Bool, true, false, if◌then◌else◌, List, [], ◌∷◌, map, slice_get, slice_index_or, Some, Vec, Result, Ok, Err, refl, sym, subst, arith}
use Rattle.std.specs.List.{All}
use Rattle.std.specs.List.Sorted.{IsPermutation}
use Rattle.std.proofs.lemmas.Bool.{eqb-true}
use Rattle.std.proofs.lemmas.List.Elements.{All-nil, All-cons, All-append, All-map}
use Rattle.std.proofs.lemmas.List.Sorted.{All-permutation}
use Rattle.atomic_table.specs.Seated.{TableId}
use Rattle.amo_object.specs.declared.step.End.{End}
use Rattle.amo_world.specs.declared.event.Event.{Event}
use Rattle.amo_world.specs.declared.fault.NoMemory.{NoMemory}
use Rattle.amo_book.specs.Book.{BookState, Each, first_pass}
use Rattle.amo_book.specs.Charge.{ChargeState}
use Rattle.amo_book.specs.Pass.{PassState}
use Rattle.amo_host.specs.Station.{Station}
use Rattle.amo_journal.specs.declared.version.Version.{Version}
use Rattle.amo_journal.specs.declared.version.Version.TheVariants.{One}
use Rattle.amo_run.specs.declared.part.Part.{Part}
use Rattle.amo_run.specs.declared.roster.Roster.{Roster}
use Rattle.amo_run.specs.Crew.{IsCall, IsDriver, Made}
use Rattle.amo_run.specs.Engine.{IsDriven, tie, ties}
use Rattle.amo_run.specs.Fits.{Fits, AllFit}
use Rattle.amo_run.specs.Roster.{BearsPass, IsOneOf, IsWhose, pump_of}
use Rattle.amo_run.specs.Told.{placed, position, told, Tells}
use Rattle.amo_run.specs.Versions.{version_of}
use Rattle.amo_run.proofs.Versions.{act_in}

-- what a pass tells of its own events bears its number
abbrev IsOf : ℕ → ℕ × Event → Type 0
IsOf p one = one.1.pass ≡ p

own_one : (p n : ℕ) (e : Event) (is : Bool) → (p == e.pass) ≡ is → All (IsOf p) (if is then (n, e) ∷ [] else [])
own_one p n e true same = All-cons (IsOf p) (n, e) [] (sym (eqb-true p e.pass same)) (All-nil (IsOf p))
own_one p n e false other = All-nil (IsOf p)

own : (p : ℕ) (log : List Event) → All (IsOf p) (placed p log)
own p [] = All-nil (IsOf p)
own p (e ∷ past) = All-append (IsOf p) (placed p past) (if p == e.pass then (position past, e) ∷ [] else []) (own p past) (own_one p (position past) e (p == e.pass) refl)

made_own : (id : TableId) (p : ℕ) (c : PassState) (made : List (ℕ × Event)) → Tells (first_pass id p) c made → All (IsOf p) made
made_own id p c made t = subst (All (IsOf p)) t.grew (subst (λ (n : ℕ). All (IsOf n) (told c)) t.number (own c.number c.seen))

-- such events of a pass fit where the passes of a whole book are told apart
whose_made : {A : Type 0} (version asked : Version) (sides : List (End × ℕ)) (may_be : Event → Type 0) (r : Roster) (id : TableId) (p : ℕ) (c : PassState) (made : Result (Vec (ℕ × Event) A) NoMemory)
    → ((e : Event) → e.pass ≡ p → Fits version sides may_be e → Fits asked sides (IsWhose r) e) → Made version sides may_be (first_pass id p) c made → Made asked sides (IsWhose r) (first_pass id p) c made
whose_made version asked sides may_be r id p c (Ok made) fits t = (t.0, λ k d lt. fits (slice_index_or made.items k d).1 (made_own id p c made.items t.0 k d lt) (t.1 k d lt))
whose_made version asked sides may_be r id p c (Err fault) fits t = t

-- ---- the calls of a client
call_is : (r : Roster) (e : Event) (p : ℕ) → e.pass ≡ p → r.first_client ≤ p → p < r.first_pump → IsCall e → IsWhose r e
call_is r e p at low high call = subst (λ (is : Bool). BearsPass is r e) (sym call) (omega arith, omega arith)

pub made_by_client : {A : Type 0} (r : Roster) (version : Version) (b : BookState) (p : ℕ) (v c : PassState) (made : Result (Vec (ℕ × Event) A) NoMemory) → v ≡ first_pass b.id p → r.first_client ≤ p → p < r.first_pump
    → Made One b.sides IsCall v c made → Made version b.sides (IsWhose r) (first_pass b.id p) c made
made_by_client r version b p v c made first low high t = whose_made One version b.sides IsCall r b.id p c made
    (λ e at f. record { place = f.place; at = f.at; act = act_in version e.side e.stream e.act f.act; reply = f.reply; made = call_is r e p at low high f.made })
    (subst (λ (x : PassState). Made One b.sides IsCall x c made) first t)

-- ---- the turns of a pump
driver_of : (part : Part) (pumps n : ℕ) (cs : List ChargeState) (k : ℕ) (t : TableId × (ℕ × (End × ℕ))) → Each (λ c. n ≡ pump_of part pumps c.side c.stream) cs → slice_get (ties cs) k ≡ Some t → n ≡ pump_of part pumps t.1.1.0 t.1.1.1
driver_of part pumps n [] k t h at = cc
driver_of part pumps n (c ∷ cs) zero t h at = let is : tie c ≡ t = cc in subst (λ (x : TableId × (ℕ × (End × ℕ))). n ≡ pump_of part pumps x.1.1.0 x.1.1.1) is h.0
driver_of part pumps n (c ∷ cs) (suc k) t h at = driver_of part pumps n cs k t h.1 at

turn_is : {W : Type 0} (r : Roster) (e : Event) (p : ℕ) (s : Station W) → e.pass ≡ p → r.first_pump ≤ p → IsDriver r.part r.pumps (p - r.first_pump) s → IsDriven (ties s.charges) e → IsWhose r e
turn_is r e p s at low drives (turn, (k, id, place, tied)) =
    let one : p - r.first_pump ≡ pump_of r.part r.pumps e.side e.stream = driver_of r.part r.pumps (p - r.first_pump) s.charges k (id, (place, (e.side, e.stream))) drives tied in
    subst (λ (is : Bool). BearsPass is r e) (sym turn) (omega arith)

pub made_by_pump : {A W : Type 0} (r : Roster) (version : Version) (b : BookState) (p : ℕ) (s : Station W) (v c : PassState) (made : Result (Vec (ℕ × Event) A) NoMemory) → v ≡ first_pass b.id p → version_of s ≡ version
    → r.first_pump ≤ p → IsDriver r.part r.pumps (p - r.first_pump) s → Made (version_of s) b.sides (IsDriven (ties s.charges)) v c made → Made version b.sides (IsWhose r) (first_pass b.id p) c made
made_by_pump r version b p s v c made first is low drives t = whose_made version version b.sides (IsDriven (ties s.charges)) r b.id p c made
    (λ e at f. record { place = f.place; at = f.at; act = f.act; reply = f.reply; made = turn_is r e p s at low drives f.made })
    (subst (λ (told : Version). Made told b.sides (IsDriven (ties s.charges)) (first_pass b.id p) c made) is (subst (λ (x : PassState). Made (version_of s) b.sides (IsDriven (ties s.charges)) x c made) first t))

-- ---- so it is of all events of a book
pub all_whose : (r : Roster) (version : Version) (b : BookState) (events : List Event) (made sorted : List (ℕ × Event)) → AllFit version b.sides (IsWhose r) made → IsPermutation made sorted
    → events ≡ map (λ (one : ℕ × Event). one.1) sorted → All (IsOneOf r b.sides) events
all_whose r version b events made sorted fit moved bare =
    let Fit : Event → Type 0 = Fits version b.sides (IsWhose r) in
    let fits : All Fit events = subst (All Fit) (sym bare) (All-map Fit (λ (one : ℕ × Event). one.1) sorted (All-permutation (λ (one : ℕ × Event). Fit one.1) made sorted moved fit)) in
    λ k d lt. let f = fits k d lt in ((f.place, f.at), f.made)
