-- A journal that goes on by one line.
use Rattle.std.proofs.Common.{◌≡◌, ℕ, zero, suc, ◌+◌, ◌-◌, ◌≤◌, Option, List, [], ◌∷◌, ◌++◌, length, take, None, Some, refl, sym, ap, ◌∙◌, subst, append_assoc, append-nil, arith}
use Rattle.std.proofs.lemmas.List.{length-take-le}
use Rattle.std.specs.Io.KnownBytes.{Appends, Keeps}
use Rattle.amo_text.specs.Sink.{AppendsFront}
use Rattle.amo_text.proofs.Written.{Appends-append, Appends-nil, Appends-Keeps, AppendsFront-Appends, AppendsFront-append}
use Rattle.amo_world.specs.declared.event.Event.{Event}
use Rattle.amo_object.specs.declared.step.End.{End}
use Rattle.amo_core.specs.declared.act.Act.{Act}
use Rattle.amo_core.specs.declared.reply.Reply.{Reply}
use Rattle.amo_book.specs.Pass.{PassState, Grown, GrownBy, event, mine}
use Rattle.amo_journal.specs.declared.version.Version.{Version}
use Rattle.amo_journal.specs.Version.{heading}
use Rattle.amo_journal.specs.Journal.{line_text}
use Rattle.amo_live.specs.Noted.{JournalState, IsSameJournal, beginning, going_on, behind_first, lines_of, line_behind, next_behind, text_since, Holds, Begins, Adds, AddsFront}

-- of one event more the line is to be written, if that of no event to come stands
behind_more : (n : ℕ) (past : List Event) (e : Event) → n ≤ length past → behind_first n (e ∷ past) ≡ e ∷ behind_first n past
behind_more n past e few = ap (λ (k : ℕ). take k (e ∷ past)) (let is : suc (length past) - n ≡ suc (length past - n) = omega (arith, few) in is)

-- while the lines of all events stand, none is to be written
behind_few : (n : ℕ) (history : List Event) → length history ≤ n → behind_first n history ≡ []
behind_few n history few = ap (λ (k : ℕ). take k history) (let is : length history - n ≡ 0 = omega (arith, few) in is)

behind_count : (n : ℕ) (past : List Event) → length (behind_first n past) ≡ length past - n
behind_count n past = length-take-le (length past - n) past (omega arith)

-- what is written of a history grows by what is written of its next event
pub text_grows : (front : List ℕ) (first standing left next : ℕ) (past : List Event) (e : Event) → next ≡ first + (length past - standing) → left ≡ standing - length past
    → front ++ lines_of first (behind_first standing (e ∷ past)) ≡ (front ++ lines_of first (behind_first standing past)) ++ line_behind left next e
text_grows front first standing zero next past e is none =
    let few : standing ≤ length past = omega (arith, none) in
    let lines = lines_of first (behind_first standing past) in
    let number : first + length (behind_first standing past) ≡ next = let count = behind_count standing past in omega (arith, count, is) in
    ap (λ (h : List Event). front ++ lines_of first h) (behind_more standing past e few) ∙ (ap (λ (n : ℕ). front ++ (lines ++ line_text (record { number = n; event = e }))) number ∙ sym (append_assoc front lines (line_text (record { number = next; event = e }))))
text_grows front first standing (suc left) next past e is some =
    let all : suc (length past) ≤ standing = omega (arith, some) in
    let were : length past ≤ standing = omega (arith, some) in
    ap (λ (h : List Event). front ++ lines_of first h) (behind_few standing (e ∷ past) all) ∙ (sym (append-nil (front ++ [])) ∙ ap (λ (h : List Event). (front ++ lines_of first h) ++ []) (sym (behind_few standing past were)))

next_grows : (first standing left next many : ℕ) → next ≡ first + (many - standing) → left ≡ standing - many → next_behind left next ≡ first + (suc many - standing)
next_grows first standing zero next many is none = omega (arith, is, none)
next_grows first standing (suc left) next many is some = omega (arith, is, some)

module _ {S : Type 0} (written : S → Option (List ℕ)) (j k : JournalState S) where
  -- what is known of the lines of the next event is known of those of the whole history, as the journal was opened
  onwards : (claim : Option (List ℕ) → Option (List ℕ) → List ℕ → Type 0) (past : List Event) (e : Event) → IsSameJournal j k → Holds written j past
      → claim (written j.opened) (written k.sink) (text_since j past ++ line_behind j.left j.next e) → claim (written k.opened) (written k.sink) (text_since k (e ∷ past))
  onwards claim past e same holds h =
      let one : claim (written j.opened) (written k.sink) (text_since j (e ∷ past)) =
      subst (claim (written j.opened) (written k.sink)) (sym (text_grows j.front j.first j.standing j.left j.next past e holds.next holds.left)) h in
      let two : claim (written j.opened) (written k.sink) (j.front ++ lines_of j.first (behind_first k.standing (e ∷ past))) =
      subst (λ (n : ℕ). claim (written j.opened) (written k.sink) (j.front ++ lines_of j.first (behind_first n (e ∷ past)))) (sym same.standing) one in
      let three : claim (written j.opened) (written k.sink) (j.front ++ lines_of k.first (behind_first k.standing (e ∷ past))) =
      subst (λ (n : ℕ). claim (written j.opened) (written k.sink) (j.front ++ lines_of n (behind_first k.standing (e ∷ past)))) (sym same.first) two in
      let four : claim (written j.opened) (written k.sink) (text_since k (e ∷ past)) =
      subst (λ (f : List ℕ). claim (written j.opened) (written k.sink) (f ++ lines_of k.first (behind_first k.standing (e ∷ past)))) (sym same.front) three in
      subst (λ (o : S). claim (written o) (written k.sink) (text_since k (e ∷ past))) (sym same.opened) four

  holds_on : (past : List Event) (e : Event) → Holds written j past → Adds written j k e → Holds written k (e ∷ past)
  holds_on past e h a =
      let more = a.next in let first = a.same.first in let standing = a.same.standing in let one_less = a.left in let was_left = h.left in
      let grown = next_grows j.first j.standing j.left j.next (length past) h.next h.left in
      let to : k.next ≡ k.first + (suc (length past) - k.standing) =
      a.next ∙ (grown ∙ (ap (λ (n : ℕ). n + (suc (length past) - j.standing)) (sym first) ∙ ap (λ (n : ℕ). k.first + (suc (length past) - n)) (sym standing))) in
      record {
        text = onwards Appends past e a.same h (Appends-append (written j.opened) (written j.sink) (written k.sink) (text_since j past) (line_behind j.left j.next e) h.text a.line);
        next = to;
        left = omega (arith, standing, one_less, was_left);
      }

  begins_on : (past : List Event) (e : Event) → Holds written j past → AddsFront written j k e → Begins written k (e ∷ past)
  begins_on past e h a = record { text = onwards AppendsFront past e a.same h (AppendsFront-append (written j.opened) (written j.sink) (written k.sink) (text_since j past) (line_behind j.left j.next e) h.text a.line) }

  -- the pass made this event, and its line was written
  pub holds_more : (v w : PassState) (e : Event) → GrownBy v w e → Holds written j (mine v) → Adds written j k e → Holds written k (mine w)
  holds_more v w e g h a = subst (Holds written k) (sym g.mine_grew) (holds_on (mine v) e h a)

  -- the pass made this event, and a beginning of its line was written
  pub begins_more : (v w : PassState) (e : Event) → GrownBy v w e → Holds written j (mine v) → AddsFront written j k e → Begins written k (mine w)
  begins_more v w e g h a = subst (Begins written k) (sym g.mine_grew) (begins_on (mine v) e h a)

  module _ (pass : ℕ) (side : End) (stream : ℕ) (act : Act) (reply : Reply) (position : ℕ) where
    -- a call answered, and its line was written
    pub holds_answer : Adds written j k (event pass side stream act reply)
        → (v w : PassState) → v.number ≡ pass → Grown v w side stream act (Some (reply, position)) → Holds written j (mine v) → Holds written k (mine w)
    holds_answer a v w is g h = holds_more v w (event v.number side stream act reply) g h (subst (λ (n : ℕ). Adds written j k (event n side stream act reply)) (sym is) a)

    -- a call answered, and a beginning of its line was written
    pub begins_answer : AddsFront written j k (event pass side stream act reply)
        → (v w : PassState) → v.number ≡ pass → Grown v w side stream act (Some (reply, position)) → Holds written j (mine v) → Begins written k (mine w)
    begins_answer a v w is g h = begins_more v w (event v.number side stream act reply) g h (subst (λ (n : ℕ). AddsFront written j k (event n side stream act reply)) (sym is) a)

-- a call that made no event leaves nothing to be noted
pub holds_none : {S : Type 0} (written : S → Option (List ℕ)) (j : JournalState S) (pass : ℕ) (side : End) (stream : ℕ) (act : Act)
    → (v w : PassState) → v.number ≡ pass → Grown v w side stream act None → Holds written j (mine v) → Holds written j (mine w)
holds_none written j pass side stream act v w is g h = subst (λ (x : PassState). Holds written j (mine x)) (sym g) h

-- all lines are a beginning of them
pub begins_whole : {S : Type 0} (written : S → Option (List ℕ)) (j : JournalState S) (past : List Event) → Holds written j past → Begins written j past
begins_whole written j past h = record { text = AppendsFront-Appends (written j.opened) (written j.sink) (text_since j past) h.text }

-- the sink was put on its disk
pub holds_kept : {S : Type 0} (written : S → Option (List ℕ)) (j k : JournalState S) (history : List Event) → k ≡ record j { sink = k.sink } → Keeps (written j.sink) (written k.sink) → Holds written j history → Holds written k history
holds_kept {S = S} written j k history is kept h =
    let opened = ap (λ (x : JournalState S). x.opened) is in let first = ap (λ (x : JournalState S). x.first) is in let next = ap (λ (x : JournalState S). x.next) is in
    let front = ap (λ (x : JournalState S). x.front) is in let standing = ap (λ (x : JournalState S). x.standing) is in let left = ap (λ (x : JournalState S). x.left) is in
    let was = h.next in let was_left = h.left in
    let one : Appends (written j.opened) (written k.sink) (text_since j history) = Appends-Keeps (written j.opened) (written j.sink) (written k.sink) (text_since j history) h.text kept in
    let two : Appends (written k.opened) (written k.sink) (text_since j history) = subst (λ (o : S). Appends (written o) (written k.sink) (text_since j history)) (sym opened) one in
    let three : Appends (written k.opened) (written k.sink) (k.front ++ lines_of j.first (behind_first j.standing history)) =
    subst (λ (f : List ℕ). Appends (written k.opened) (written k.sink) (f ++ lines_of j.first (behind_first j.standing history))) (sym front) two in
    let four : Appends (written k.opened) (written k.sink) (k.front ++ lines_of k.first (behind_first j.standing history)) =
    subst (λ (n : ℕ). Appends (written k.opened) (written k.sink) (k.front ++ lines_of n (behind_first j.standing history))) (sym first) three in
    record {
      text = subst (λ (n : ℕ). Appends (written k.opened) (written k.sink) (k.front ++ lines_of k.first (behind_first n history))) (sym standing) four;
      next = omega (arith, first, next, standing, was);
      left = omega (arith, standing, left, was_left);
    }

-- nothing was written of a journal that goes on
pub holds_nothing : {S : Type 0} (written : S → Option (List ℕ)) (version : Version) (sink : S) (lines standing : ℕ) → Holds written (going_on version sink lines standing) []
holds_nothing written version sink lines standing = record {
  text = subst (λ (h : List Event). Appends (written sink) (written sink) (lines_of lines h)) (sym (behind_few standing [] (omega arith))) (Appends-nil (written sink));
  next = omega arith;
  left = omega arith;
}

-- the heading was written of a new one
pub holds_heading : {S : Type 0} (written : S → Option (List ℕ)) (version : Version) (sink : S) (j : JournalState S) → IsSameJournal (beginning version sink) j → j.next ≡ 0 → j.left ≡ 0 → Appends (written sink) (written j.sink) (heading version)
    → Holds written j []
holds_heading {S = S} written version sink j same none no_left headed =
    let first : j.first ≡ 0 = same.first in
    let one : Appends (written sink) (written j.sink) (heading version ++ []) = subst (Appends (written sink) (written j.sink)) (sym (append-nil (heading version))) headed in
    let two : Appends (written j.opened) (written j.sink) (heading version ++ []) = subst (λ (o : S). Appends (written o) (written j.sink) (heading version ++ [])) (sym same.opened) one in
    let three : Appends (written j.opened) (written j.sink) (j.front ++ []) = subst (λ (f : List ℕ). Appends (written j.opened) (written j.sink) (f ++ [])) (sym same.front) two in
    let standing : j.standing ≡ 0 = same.standing in
    record {
      text = subst (λ (h : List Event). Appends (written j.opened) (written j.sink) (j.front ++ lines_of j.first h)) (sym (behind_few j.standing [] (omega arith))) three;
      next = omega (arith, first, none, standing);
      left = omega (arith, standing, no_left);
    }

-- a journal that was opened as another was opened as a third
pub same_on : {S : Type 0} (i j k : JournalState S) → IsSameJournal i j → IsSameJournal j k → IsSameJournal i k
same_on i j k one two = record { version = two.version ∙ one.version; opened = two.opened ∙ one.opened; first = two.first ∙ one.first; front = two.front ∙ one.front; standing = two.standing ∙ one.standing }

pub same_itself : {S : Type 0} (j : JournalState S) → IsSameJournal j j
same_itself j = record { version = refl; opened = refl; first = refl; front = refl; standing = refl }
