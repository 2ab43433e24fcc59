-- Lines at the end of a journal.
use Rattle.std.proofs.Common.{◌≡◌, ◌⊎◌, inl, inr, Bor, Option, Some, None, is_some, IfSome, IfNone, true, false, ℕ, ◌+◌, ◌≤◌, List, [], ◌∷◌, ◌++◌, length, refl, sym, ap, ◌∙◌, subst, append_assoc, arith, length-append}
use Rattle.std.proofs.lemmas.Bool.{true≢false}
use Rattle.std.proofs.lemmas.List.{append-nil}
use Rattle.std.proofs.lemmas.Grind.{flat_map-append}
use Rattle.std.specs.List.{AllByRecursion, flat_map}
use Rattle.amo_object.specs.declared.step.End.{End}
use Rattle.amo_text.specs.Line.{Lacks}
use Rattle.amo_text.proofs.Cuts.{no_cut}
use Rattle.amo_world.specs.declared.event.Event.{Event}
use Rattle.amo_journal.specs.declared.numbered.Numbered.{Numbered}
use Rattle.amo_journal.specs.declared.version.Version.{Version}
use Rattle.amo_journal.specs.Journal.{InRange, SpellsLines, line_text, numbered}
use Rattle.amo_disk.specs.declared.returns.Returns.{Returns}
use Rattle.amo_disk.specs.declared.tail.Last.{Last}
use Rattle.amo_disk.specs.declared.tail.Tail.{Tail}
use Rattle.amo_disk.specs.declared.tail.TailFault.{TailFault}
use Rattle.amo_disk.specs.declared.tail.TailFault.TheVariants.{Malformed, NoMemory}
use Rattle.amo_disk.specs.Back.{back_of, no_returns, returns_after}
use Rattle.amo_disk.specs.Tail.{Faults, FrontFaults, GoesOn, HasNone, IsTail, IsTooLong, TakesFront}
use Rattle.amo_disk.proofs.Backs.{Fits, back_is, returns_behind-append}

all_and_one : {X : Type 0} (P : X → Type 0) (xs : List X) (x : X) → AllByRecursion P xs → P x → AllByRecursion P (xs ++ x ∷ [])
all_and_one P [] x a b = (b, tt)
all_and_one P (y ∷ xs) x a b = (a.0, all_and_one P xs x a.1 b)

numbered_push : (n k : ℕ) (events : List Event) (e : Event) → k ≡ n + length events → numbered n events ++ record { number = k; event = e } ∷ [] ≡ numbered n (events ++ e ∷ [])
numbered_push n k [] e here = let is : k ≡ n = omega arith in ap (λ (m : ℕ). numbered m (e ∷ [])) is
numbered_push n k (x ∷ events) e here = ap (λ l. record { number = n; event = x } ∷ l) (numbered_push (n + 1) k events e (omega arith))

one_line : {X : Type 0} (f : X → List ℕ) (x : X) → flat_map f (x ∷ []) ≡ f x
one_line f x = append-nil (f x)

more_lines : (version : Version) (first : ℕ) (events : List Event) (front : List ℕ) (line : Numbered) → SpellsLines version front (numbered first events) → InRange version line → line.number ≡ first + length events
    → SpellsLines version (front ++ line_text line) (numbered first (events ++ line.event ∷ []))
more_lines version first events front line so_far known place =
    let list : numbered first events ++ line ∷ [] ≡ numbered first (events ++ line.event ∷ []) = numbered_push first line.number events line.event place in
    let whole : front ++ line_text line ≡ flat_map line_text (numbered first events ++ line ∷ []) =
    ap (λ (l : List ℕ). l ++ line_text line) so_far.1 ∙ (ap (λ (l : List ℕ). flat_map line_text (numbered first events) ++ l) (sym (one_line line_text line)) ∙ sym (flat_map-append line_text (numbered first events) (line ∷ []))) in
    (subst (AllByRecursion (InRange version)) list (all_and_one (InRange version) (numbered first events) line so_far.0 known), whole ∙ ap (flat_map line_text) list)

-- nothing was taken yet
pub nothing_taken : (version : Version) (side : End) (first : ℕ) (text : List ℕ) (last : Last) → last.next ≡ first → last.returns ≡ no_returns → GoesOn version side first text last text
nothing_taken version side first text last next returns = record {
  events = [];
  behind = record { front = []; parts = refl; lines = (tt, refl); sides = tt };
  next = omega (arith, next);
  returns = returns;
}

-- one line more was taken
pub line_taken : (version : Version) (side : End) (first : ℕ) (text rest more : List ℕ) (old new : Last) → TakesFront version side rest old more new → GoesOn version side first text old rest → GoesOn version side first text new more
line_taken version side first text rest more old new front h =
    let line = front.line in let takes = front.takes in
    let so_far = h.next in let number = takes.number in let next = takes.next in let count = length-append h.events (line.event ∷ []) in record {
      events = h.events ++ line.event ∷ [];
      behind = record {
        front = h.behind.front ++ line_text line;
        parts = h.behind.parts ∙ (ap (λ (l : List ℕ). h.behind.front ++ l) front.cut ∙ sym (append_assoc h.behind.front (line_text line) more));
        lines = more_lines version first h.events h.behind.front line h.behind.lines front.known (number ∙ so_far);
        sides = all_and_one (λ (e : Event). e.side ≡ side) h.events line.event h.behind.sides takes.of;
      };
      next = omega (arith, so_far, next, count);
      returns = takes.returns ∙ (ap (λ (r : Returns). returns_after r line.event) h.returns ∙ sym (returns_behind-append no_returns h.events (line.event ∷ [])));
    }

fits_all : (version : Version) (side : End) (first : ℕ) (events : List Event) → AllByRecursion (InRange version) (numbered first events) → AllByRecursion (λ e. e.side ≡ side) events → AllByRecursion (Fits side) events
fits_all version side first [] known sides = tt
fits_all version side first (e ∷ events) known sides = (record { side_is = sides.0; stream = known.0.1.stream.0; reply = known.0.1.reply }, fits_all version side (first + 1) events known.1 sides.1)

pub rest_within : (version : Version) (side : End) (first : ℕ) (text rest : List ℕ) (last : Last) → GoesOn version side first text last rest → length rest ≤ length text
rest_within version side first text rest last h = let long = ap length h.behind.parts ∙ length-append h.behind.front rest in omega (arith, long)

-- all lines were taken
pub all_taken : (version : Version) (side : End) (first : ℕ) (text rest : List ℕ) (last : Last) (tail : Tail) → GoesOn version side first text last rest → Lacks 10 rest → tail.next ≡ last.next → tail.whole + length rest ≡ length text → tail.back ≡ back_of last.returns
    → IsTail version side first text tail
all_taken version side first text rest last tail h lacks next whole back = record {
  events = h.events;
  torn = rest;
  behind = h.behind;
  endless = lacks;
  next = next ∙ h.next;
  whole = whole;
  back = rw (back ∙ ap back_of h.returns) (back_is side h.events (fits_all version side first h.events h.behind.lines.0 h.behind.sides));
}

-- the next line is at fault
pub line_faulty : (version : Version) (side : End) (first : ℕ) (text rest : List ℕ) (last : Last) (fault : TailFault) → GoesOn version side first text last rest → (fault ≡ NoMemory) ⊎ FrontFaults version side last.next rest fault
    → Faults version side first text fault
line_faulty version side first text rest last fault h (inl memory) = inl memory
line_faulty version side first text rest last fault h (inr wrong) = inr (h.events, rest, h.behind, inl (subst (λ (n : ℕ). FrontFaults version side n rest fault) h.next wrong))

-- no line is next
pub none_next : (version : Version) (side : End) (first : ℕ) (text rest : List ℕ) (last : Last) → GoesOn version side first text last rest → HasNone version rest → (Lacks 10 rest → ⊥) ⊎ IsTooLong rest → Faults version side first text (Malformed last.next)
none_next version side first text rest last h none bad = inr (h.events, rest, h.behind, inr (ap Malformed h.next, none, bad))

-- a line ends in the text
pub some_cut : (text : List ℕ) (r : Option (Bor (List ℕ) × Bor (List ℕ))) → is_some r ≡ true → IfSome r (λ parts. (text ≡ parts.0.now ++ 10 ∷ parts.1.now) × Lacks 10 parts.0.now) → Lacks 10 text → ⊥
some_cut text None is found lacks = true≢false (sym is)
some_cut text (Some parts) is found lacks = no_cut 10 text parts.0.now parts.1.now lacks found.0

-- and none does
pub none_cut : (text : List ℕ) (r : Option (Bor (List ℕ) × Bor (List ℕ))) → is_some r ≡ false → IfNone r (Lacks 10 text) → Lacks 10 text
none_cut text None is none = none
none_cut text (Some parts) is none = absurd (true≢false is)
