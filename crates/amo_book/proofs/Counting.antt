-- An event is counted: the history grows by it.
use Rattle.std.proofs.Common.{◌≡◌, ◌≢◌, ℕ, ◌+◌, ◌%◌, ◌^◌, ◌<◌, List, [], ◌∷◌, length, get_or, set, slice_index, slice_get, Some, refl, sym, ap, ◌∙◌, subst, inl, arith, length-set, get_or-set_same, get_or-set_other}
use mathlib.Core.Logic.{dite}
use mathlib.Core.Option.{some}
use native.Mathlib.Decide.{ℕ_discrete}
use lib.ListN.{get_elem?}
use Rattle.atomic_table.specs.Table.{step, keeps, Allows}
use Rattle.atomic_table.proofs.Lists.{set_here, set_else}
use Rattle.amo_object.specs.declared.step.End.{End}
use Rattle.amo_core.specs.declared.automaton.Automaton.{Automaton}
use Rattle.amo_core.specs.Automaton.{row}
use Rattle.amo_world.specs.declared.event.Event.{Event}
use Rattle.amo_world.specs.History.{stream_after, HasRightReply, Extends, events_of}
use Rattle.amo_world.proofs.Extensions.{itself, one_event, further}
use Rattle.amo_book.specs.declared.view.View.{View}
use Rattle.amo_book.specs.declared.view.Share.{Share}
use Rattle.amo_book.specs.Pass.{automaton_after}
use Rattle.amo_book.specs.Book.{Apart}
use Rattle.amo_book.specs.Rule.{share, Has, Knows, state_at, gate_of}
use Rattle.amo_book.specs.Plays.{Sat, view, counted}
use Rattle.amo_book.proofs.Histories.{events_of-own, events_of-other, next_count, reply-row, state_at-is, moved, stayed}
use Rattle.amo_book.proofs.Seats.{Whole, held_at, same_place, same_state, same_view_at, inside, has_one, each_set, Rule}
use Rattle.amo_book.proofs.Strides.{gate_is_not_count}

abbrev made_of : List Share → List Event
made_of [] = []
made_of (x ∷ xs) = x.made

abbrev number_of : List Share → ℕ
number_of [] = 0
number_of (x ∷ xs) = x.number

-- the history is longer, and whatever it went on from it still goes on from
longer : (log seen : List Event) (e : Event) → Extends log seen → Extends (e ∷ log) seen
longer log seen e old = further (e ∷ log) log seen (one_event log e) old

-- What is said of the event at the place k: that its row's reply is right, that the replay of its own side moves by its row, and that
-- every other stays.
pub record Fits (places : ℕ) (replay : ℕ → List Event → Automaton) (k : ℕ) (e : Event) : Type 0 where
  pub is_side : (log : List Event) → replay k log ≡ automaton_after e.side e.stream log
  pub rights : (log : List Event) → (row (replay k log) e.act).reply ≡ Some e.reply → HasRightReply log e
  pub moves : (log : List Event) → (row (replay k log) e.act).state ≡ replay k (e ∷ log)
  pub stays : (log : List Event) (j : ℕ) → j < places → j ≢ k → replay j (e ∷ log) ≡ replay j log

-- an event of the side at a place fits the place
pub fits : (sides : List (End × ℕ)) (k : ℕ) (e : Event) → Apart sides → slice_get sides k ≡ Some (e.side, e.stream) → Fits (length sides) (state_at sides) k e
fits sides k e apart is = record {
  is_side = λ log. state_at-is sides k e.side e.stream log is;
  rights = λ log good. sym (reply-row (stream_after e.stream log) e.side e.act)
      ∙ (ap (λ (x : Automaton). (row x e.act).reply) (sym (state_at-is sides k e.side e.stream log is)) ∙ good);
  moves = moved sides k e is;
  stays = stayed sides k e apart is;
}

module _ (places passes : ℕ) (replay : ℕ → List Event → Automaton) where
  abbrev R : Whole → Type 0
  R = Rule places passes replay

  counted_at : (s : Whole) (r : R s) (id k p : ℕ) (x : Automaton) (made : List Event) (e : Event) (v : View)
      → get_elem? s.views id ≡ some v → v.held ≡ held_at k x → v.shares ≡ share p made ∷ []
      → e.pass ≡ p → Fits places replay k e → (row x e.act).reply ≡ Some e.reply
      → R record {
        words = set s.words 0 ((get_or s.words 0 0 + 1) % 2 ^ 64);
        homes = s.homes;
        views = set s.views id (view (e ∷ r.log) v.met (share p (e ∷ made) ∷ []) (held_at k (row x e.act).state));
      }
  counted_at s r id k p x made e v at held shares by at_place reply =
      let log : List Event = r.log in
      let log' : List Event = e ∷ log in
      let y : Automaton = (row x e.act).state in
      let w : View = view log' v.met (share p (e ∷ made) ∷ []) (held_at k y) in
      let c : ℕ = (get_or s.words 0 0 + 1) % 2 ^ 64 in
      let words' : List ℕ = set s.words 0 c in
      let mine = r.each id v at in
      let t = mine.holds k x held in
      let o = mine.owns p made (subst (λ l. Has l p made) (sym shares) (inl refl)) in
      let wide = r.wide in
      let below = o.0 in
      let gate_same : (j : ℕ) → get_or words' (gate_of j) 0 ≡ get_or s.words (gate_of j) 0 =
      λ j. get_or-set_other s.words 0 (gate_of j) c 0 (gate_is_not_count j) in
      let moves : y ≡ replay k log' = ap (λ (a : Automaton). (row a e.act).state) t.3 ∙ at_place.moves log in
      let own : Knows places passes replay log' r.holder r.owner words' id w = record {
        seen = itself log';
        met = longer log v.met e mine.met;
        owns = λ q m h. let z = has_one p q (e ∷ made) m h in (
          subst (λ i. i < passes) z.0 o.0,
          subst (λ i. r.owner i ≡ id) z.0 o.1,
          subst (λ i. events_of i log' ≡ m) z.0 (events_of-own p log e by ∙ (ap (λ l. e ∷ l) o.2 ∙ z.1)),
        );
        holds = λ j z f. let is : k ≡ j = same_place k j y z f in let same : y ≡ z = same_state k j y z f in (
          subst (λ i. i < places) is t.0,
          subst (λ i. r.holder i ≡ id) is t.1,
          (λ g. subst (λ i. slice_index s.words (gate_of i) ≢ 0) is t.2 (sym (gate_same j) ∙ g)),
          sym same ∙ (moves ∙ ap (λ i. replay i log') is),
        );
        named = λ j z f. (p, e ∷ made, inl refl);
      } in
      let others : (j : ℕ) (u : View) → j ≢ id → get_elem? s.views j ≡ some u → Knows places passes replay log' r.holder r.owner words' j u =
      λ j u other a. let k' = r.each j u a in record {
        seen = longer log u.seen e k'.seen;
        met = longer log u.met e k'.met;
        owns = λ q m h. let z = k'.owns q m h in (z.0, z.1, events_of-other q log e (λ f. other (sym z.1 ∙ (ap r.owner (sym f ∙ by) ∙ o.1))) ∙ z.2);
        holds = λ i z f. let h = k'.holds i z f in let apart' : i ≢ k = (λ g. other (sym h.1 ∙ (ap r.holder g ∙ t.1))) in
            (h.0, h.1, (λ g. h.2 (sym (gate_same i) ∙ g)), h.3 ∙ sym (at_place.stays log i h.0 apart'));
        named = k'.named;
      } in
      record {
        log = log';
        holder = r.holder;
        owner = r.owner;
        right = (at_place.rights log (ap (λ (a : Automaton). (row a e.act).reply) (sym t.3) ∙ reply), r.right);
        ours = (subst (λ q. q < passes) (sym by) o.0, r.ours);
        wide = length-set s.words 0 c ∙ r.wide;
        tall = r.tall;
        count = get_or-set_same s.words 0 c 0 (omega arith) ∙ next_count (get_or s.words 0 0) e log r.count;
        each = each_set (Knows places passes replay log' r.holder r.owner words') s.views id w own others;
        free = λ j l z. let was : get_or s.words (gate_of j) 0 ≡ 0 = sym (gate_same j) ∙ z in
            let apart' : j ≢ k = (λ g. t.2 (ap (λ q. get_or s.words (gate_of q) 0) (sym g) ∙ was)) in
            r.free j l was ∙ ap (λ (z : Automaton). some (some (Some z))) (sym (at_place.stays log j l apart'));
        busy = λ j l z. let b = r.busy j l (λ g. z (gate_same j ∙ g)) in dite (ℕ_discrete (r.holder j) id)
            (λ is. let was : v ≡ b.0 = same_view_at s.views id v b.0 at (subst (λ i. get_elem? s.views i ≡ some b.0) is b.2) in
            let same : k ≡ j = same_place k j x b.1 (sym held ∙ (ap (λ (q : View). q.held) was ∙ b.3)) in
            (w, y, subst (λ i. get_elem? (set s.views id w) i ≡ some w) (sym is) (set_here s.views id w (inside s.views id v at)), ap (λ i. held_at i y) same))
            (λ other. (b.0, b.1, set_else s.views id (r.holder j) w other ∙ b.2, b.3));
      }

  -- the fetch_add on the count, by a seat that holds the event's side and has one pass's share
  pub counts : (slots id k p : ℕ) (x : Automaton) (made : List Event) (e : Event) (me : Sat) → me.0.held ≡ held_at k x → me.0.shares ≡ share p made ∷ []
      → e.pass ≡ p → Fits places replay k e → (row x e.act).reply ≡ Some e.reply
      → Allows R slots id me 0 (λ n. (n + 1) % 2 ^ 64) (counted e (step slots 0 1 0 mathlib.Core.Option.none) me)
  counts slots id k p x made e me held shares by at_place reply s r _ at _ =
      let v : View = me.0 in
      let log' : List Event = e ∷ r.log in
      let w : View = view log' v.met (share p (e ∷ made) ∷ []) (held_at k (row x e.act).state) in
      let mine = r.each id v at in
      let o = mine.owns p made (subst (λ l. Has l p made) (sym shares) (inl refl)) in
      let t = mine.holds k x held in (
        w,
        keeps,
        tt,
        counted_at s r id k p x made e v at held shares by at_place reply,
        λ k' x' p' made' held' shares'.
            let both : held_at k x ≡ held_at k' x' = sym held ∙ held' in
            let same : share p made ∷ [] ≡ share p' made' ∷ [] = sym shares ∙ shares' in
            let i₁ : k ≡ k' = same_place k k' x x' both in
            let i₂ : x ≡ x' = same_state k k' x x' both in
            let i₃ : p ≡ p' = ap number_of same in
            let i₄ : made ≡ made' = ap made_of same in (
              (λ i. let m : Sat = (view log' v.met (share (i₃ i) (e ∷ i₄ i) ∷ []) (held_at (i₁ i) (row (i₂ i) e.act).state), me.1) in m),
              (r.log, refl, mine.seen, sym i₂ ∙ (t.3 ∙ at_place.is_side r.log)),
              (at_place.rights r.log (ap (λ (a : Automaton). (row a e.act).reply) (sym t.3) ∙ reply), r.right),
              subst (λ i. events_of i log' ≡ e ∷ made') i₃ (events_of-own p r.log e by ∙ (ap (λ l. e ∷ l) o.2 ∙ ap (λ l. e ∷ l) i₄)),
              next_count (get_or s.words 0 0) e r.log r.count,
            ),
      )
