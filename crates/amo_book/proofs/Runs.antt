-- The seat of a pass through one call.
use Rattle.std.proofs.Common.{◌≡◌, ℕ, ◌%◌, ◌^◌, List, [], ◌∷◌, length, Option, Some, None, refl, sym, ap, ◌∙◌, subst, inl}
use Rattle.std.proofs.lemmas.Option.{same_Some}
use Rattle.atomic_table.specs.Seated.{TableId}
use Rattle.amo_object.specs.declared.step.End.{End}
use Rattle.amo_object.specs.declared.step.End.TheVariants.{Sender}
use Rattle.amo_packet.specs.declared.packet.OwnedPacket.{OwnedPacket}
use Rattle.amo_core.specs.declared.act.Act.{Act}
use Rattle.amo_core.specs.declared.mode.Mode.{Mode}
use Rattle.amo_core.specs.declared.reply.Reply.TheVariants as reply
use Rattle.amo_core.specs.declared.automaton.Automaton.{Automaton}
use Rattle.amo_core.specs.Automaton.{row, mode_of, Writes}
use Rattle.amo_world.specs.declared.event.Event.{Event}
use Rattle.amo_world.specs.History.{stream_after, IsRight, Extends, events_of}
use Rattle.amo_book.specs.declared.view.View.{View}
use Rattle.amo_book.specs.Pass.{GrownBy, automaton_after, event}
use Rattle.amo_book.specs.Charge.{ChargeState}
use Rattle.amo_book.specs.Drive.{Driven}
use Rattle.amo_book.specs.declared.foresee.Foreseen.{Foreseen}
use Rattle.amo_book.specs.Look.{Finds}
use Rattle.amo_core.specs.declared.summary.Summary.{Summary}
use Rattle.amo_core.specs.Summary.{summary_of}
use Rattle.amo_book.specs.Foresee.{Foresees, Tells}
use Rattle.amo_book.specs.Rule.{Slot, share, Has, slot_of}
use Rattle.amo_book.specs.Plays.{Sat, IsAtRest, view, taken, Counts, Looks, Sees, witness, joined}
use Rattle.amo_book.specs.Steps.{IsPass, Made, Studied, pass_of, holding, released}
use Rattle.amo_book.proofs.Histories.{emission-row, automaton-here}
use Rattle.amo_book.proofs.Seats.{held_at}

abbrev emptied : ℕ → List (ℕ × Slot)
emptied k = (slot_of k, None) ∷ []

abbrev filled : ℕ → Automaton → List (ℕ × Slot)
filled k x = (slot_of k, Some x) ∷ []

pub rests : (p : ℕ) (m : Sat) → IsPass p m → IsAtRest m
rests p m h = (h.home, h.held, (p, events_of p m.0.seen, h.own))

abbrev first_slot : List (ℕ × Slot) → Slot
first_slot [] = None
first_slot (t ∷ ts) = t.1

same_filled : (k : ℕ) (x y : Automaton) → filled k x ≡ filled k y → x ≡ y
same_filled k x y e = let h : Some x ≡ Some y = ap first_slot e in same_Some x y h

-- the state was moved out
pub took_out : (k : ℕ) (x y : Automaton) (m₀ m₁ m₂ : Sat) → m₁ ≡ taken k x m₀ → m₁.1 ≡ filled k y → m₂ ≡ (m₁.0, emptied k) → (x ≡ y) × (m₂ ≡ holding k y m₀)
took_out k x y m₀ m₁ m₂ took here moved =
    let is : x ≡ y = same_filled k x y (sym (ap (λ (m : Sat). m.1) took) ∙ here) in (
      is,
      moved ∙ (ap (λ (m : Sat). let t : Sat = (m.0, emptied k) in t) took ∙ ap (λ z. holding k z m₀) is),
    )

-- a seat that gives back what it took is as it was
pub given_back : (p k : ℕ) (x : Automaton) (m₀ m₁ m₂ : Sat) → IsPass p m₀ → m₁ ≡ holding k x m₀ → m₂ ≡ released m₁.0 → m₂ ≡ m₀
given_back p k x m₀ m₁ m₂ pass held back = back ∙ (ap (λ (m : Sat). released m.0) held
    ∙ (λ i. let m : Sat = (view m₀.0.seen m₀.0.met m₀.0.shares (sym pass.held i), sym pass.home i) in m))

-- the event was counted, and the side goes home
pub counted_once : (p k : ℕ) (x : Automaton) (e : Event) (position : ℕ) (m₀ m₁ m₂ : Sat) → IsPass p m₀ → m₁ ≡ holding k x m₀ → Counts e m₁ m₂ position
    → (m₂.1 ≡ emptied k) × (m₂.0.held ≡ held_at k (row x e.act).state)
    × ((m₃ : Sat) → m₃ ≡ released m₂.0 → IsPass p m₃ × Made p m₀ m₃ e x position)
counted_once p k x e position m₀ m₁ m₂ pass held counts =
    let made : List Event = events_of p m₀.0.seen in
    let t = counts k x p made (ap (λ (m : Sat). m.0.held) held) (ap (λ (m : Sat). m.0.shares) held ∙ pass.own) in (
      ap (λ (m : Sat). m.1) t.0 ∙ ap (λ (m : Sat). m.1) held,
      ap (λ (m : Sat). m.0.held) t.0,
      λ m₃ f. let seen : m₃.0.seen ≡ m₂.0.seen = ap (λ (m : Sat). m.0.seen) f in
          let grew : events_of p m₃.0.seen ≡ e ∷ made = ap (events_of p) seen ∙ t.3 in (
            record {
              home = ap (λ (m : Sat). m.1) f;
              held = ap (λ (m : Sat). m.0.held) f;
              own = ap (λ (m : Sat). m.0.shares) f ∙ (ap (λ (m : Sat). m.0.shares) t.0 ∙ ap (λ l. share p l ∷ []) (sym grew));
              right = subst IsRight (sym seen) t.2;
            },
            record {
              earlier = t.1.0;
              seen = seen ∙ t.1.1;
              extends = subst (λ (m : Sat). Extends t.1.0 m.0.seen) held t.1.2;
              found = t.1.3;
              mine_grew = grew;
              counted = t.4 ∙ ap (λ (l : List Event). length l % 2 ^ 64) (sym seen);
            },
          ),
    )

-- what the pass has made
pub grown_by : (id id' : TableId) (p : ℕ) (m n : Sat) (e : Event) (x : Automaton) (position : ℕ) → id' ≡ id → Made p m n e x position
    → GrownBy (pass_of id p m) (pass_of id' p n) e
grown_by id id' p m n e x position same made =
    record { earlier = made.earlier; seen = made.seen; extends = made.extends; mine_grew = made.mine_grew; book = same; number = refl }

abbrev pub charge_of : TableId → ℕ → End → ℕ → Mode → ChargeState
charge_of id place side stream mode = record { book = id; place = place; side = side; stream = stream; mode = mode }

-- what an act of a host did
pub driven_by : (id id' : TableId) (p : ℕ) (m n : Sat) (cid : TableId) (place : ℕ) (side : End) (stream : ℕ) (held mode : Mode) (act : Act) (x : Automaton)
    (position : ℕ) (old new : List ℕ) (length : Option ℕ) → id' ≡ id → Made p m n (event p side stream act reply.Done) x position
    → Writes (row x act).emitted old new length → mode ≡ mode_of (row x act).state → (side ≡ Sender → mode_of x ≡ held)
    → Driven (pass_of id p m) (pass_of id' p n) (charge_of cid place side stream held) (charge_of cid place side stream mode) act old new
    (record { position = position; length = length; mode = mode })
unfolding grown_by
driven_by id id' p m n cid place side stream held mode act x position old new written same made writes moded found =
    let e : Event = event p side stream act reply.Done in
    let past : List Event = made.earlier in record {
      grown = grown_by id id' p m n e x position same made;
      answered = made.counted;
      emitted = subst (λ (o : Option OwnedPacket). Writes o old new written)
          (ap (λ (y : Automaton). (row y act).emitted) made.found ∙ emission-row (stream_after stream past) side act) writes;
      mode = moded ∙ (ap (λ (y : Automaton). mode_of (row y act).state) made.found
          ∙ (ap mode_of (sym (automaton-here past e)) ∙ ap (λ (h : List Event). mode_of (automaton_after side stream h)) (sym made.seen)));
      charge = refl;
      found = λ is. ap mode_of (sym made.found) ∙ found is;
    }

-- a pass that looks stays a pass, and sees what it had seen and what it has met
pub sees : (p r : ℕ) (m : Sat) (w : View) (n : Sat) → IsPass p m → Looks (joined m.0 (witness w), m.1) n r
    → IsPass p n × Extends n.0.seen m.0.seen × Extends n.0.seen w.seen × (events_of p n.0.seen ≡ events_of p m.0.seen)
sees p r m w n h l =
    let made : List Event = events_of p m.0.seen in
    let still : events_of p n.0.seen ≡ made = l.4 p made (subst (λ s. Has s p made) (sym h.own) (inl refl)) in (
      record {
        home = ap (λ (z : Sat). z.1) l.0 ∙ h.home;
        held = ap (λ (z : Sat). z.0.held) l.0 ∙ h.held;
        own = ap (λ (z : Sat). z.0.shares) l.0 ∙ (h.own ∙ ap (λ m. share p m ∷ []) (sym still));
        right = l.3;
      },
      l.1,
      l.2,
      still,
    )

-- a pass that holds a side, and looks, has seen what left the side as it is
pub studied : (p r : ℕ) (side : End) (stream k : ℕ) (x : Automaton) (m held n : Sat) → IsPass p m → held ≡ holding k x m → Sees side stream held n r
    → Studied p side stream k x m n
studied p r side stream k x m held n pass is sees =
    let made : List Event = events_of p m.0.seen in
    let l = sees.0 in
    let still : events_of p n.0.seen ≡ made = l.4 p made (subst (λ s. Has s p made) (sym (ap (λ (z : Sat). z.0.shares) is ∙ pass.own)) (inl refl)) in record {
      home = ap (λ (z : Sat). z.1) l.0 ∙ ap (λ (z : Sat). z.1) is;
      held = ap (λ (z : Sat). z.0.held) l.0 ∙ ap (λ (z : Sat). z.0.held) is;
      pass = record {
        home = refl;
        held = refl;
        own = ap (λ (z : Sat). z.0.shares) l.0 ∙ (ap (λ (z : Sat). z.0.shares) is ∙ (pass.own ∙ ap (λ m. share p m ∷ []) (sym still)));
        right = l.3;
      };
      extends = subst (λ (z : Sat). Extends n.0.seen z.0.seen) is l.1;
      found = sees.1 k x (ap (λ (z : Sat). z.0.held) is);
      mine_stays = still;
    }

-- what an act would do
pub foreseen_by : (id id' : TableId) (p : ℕ) (m n o : Sat) (cid : TableId) (place : ℕ) (side : End) (stream : ℕ) (held : Mode) (act : Act) (x : Automaton)
    (old new : List ℕ) (foreseen : Foreseen) → id' ≡ id → Studied p side stream place x m n → o ≡ released n.0
    → Tells (row x act) x old new foreseen → (side ≡ Sender → mode_of x ≡ held)
    → Foresees (pass_of id p m) (pass_of id' p o) (charge_of cid place side stream held) act old new foreseen
foreseen_by id id' p m n o cid place side stream held act x old new foreseen same studied back tells found =
    let seen : o.0.seen ≡ n.0.seen = ap (λ (z : Sat). z.0.seen) back in
    let is : x ≡ automaton_after side stream o.0.seen = studied.found ∙ ap (automaton_after side stream) (sym seen) in record {
      same = record { book = same; number = refl; mine_stays = ap (events_of p) seen ∙ studied.mine_stays };
      extends = subst (λ (h : List Event). Extends h m.0.seen) (sym seen) studied.extends;
      tells = subst (λ (y : Automaton). Tells (row y act) y old new foreseen) is tells;
      found = λ sender. ap mode_of (sym is) ∙ found sender;
    }

-- how a side stands
pub seen_by : (id id' : TableId) (p : ℕ) (m n o : Sat) (cid : TableId) (place : ℕ) (side : End) (stream : ℕ) (held : Mode) (x : Automaton)
    (summary : Summary) → id' ≡ id → Studied p side stream place x m n → o ≡ released n.0
    → summary ≡ summary_of x → (side ≡ Sender → mode_of x ≡ held)
    → Finds (pass_of id p m) (pass_of id' p o) (charge_of cid place side stream held) summary
seen_by id id' p m n o cid place side stream held x summary same studied back tells found =
    let seen : o.0.seen ≡ n.0.seen = ap (λ (z : Sat). z.0.seen) back in
    let is : x ≡ automaton_after side stream o.0.seen = studied.found ∙ ap (automaton_after side stream) (sym seen) in (
      record {
        same = record { book = same; number = refl; mine_stays = ap (events_of p) seen ∙ studied.mine_stays };
        extends = subst (λ (h : List Event). Extends h m.0.seen) (sym seen) studied.extends;
        tells = tells ∙ ap summary_of is;
      },
      λ sender. ap (λ (z : Summary). z.mode) tells ∙ found sender,
    )

-- a pass that was dealt has seen nothing
pub new_pass : (p : ℕ) (m : Sat) → m ≡ (view [] [] (share p [] ∷ []) None, []) → IsPass p m
new_pass p m e = record {
  home = ap (λ (z : Sat). z.1) e;
  held = ap (λ (z : Sat). z.0.held) e;
  own = ap (λ (z : Sat). z.0.shares) e ∙ ap (λ (z : Sat). share p (events_of p z.0.seen) ∷ []) (sym e);
  right = subst (λ (z : Sat). IsRight z.0.seen) (sym e) tt;
}
