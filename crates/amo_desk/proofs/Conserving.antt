-- Lines are taken, and their messages put, from one moment to a later one.
use Rattle.std.proofs.Common.{◌≡◌, ◌==◌, if◌then◌else◌, ℕ, Bool, true, false, List, [], ◌∷◌, ◌++◌, Option, Some, None, map, reverse, refl, sym, ap, ◌∙◌, subst, append_assoc, append-nil}
use Rattle.std.proofs.lemmas.Bool.{eqb-true, true≢false}
use Rattle.std.proofs.lemmas.List.{reverse-append}
use Rattle.amo_book.specs.Pass.{PassState, mine}
use Rattle.amo_lines.specs.declared.input.Line.{Line}
use Rattle.amo_lines.specs.declared.lines.Spelling.{Spelling}
use Rattle.amo_lines.specs.declared.named.NamedMessage.{NamedMessage}
use Rattle.amo_lines.specs.Backlog.{Addressed, BacklogState, kept_on, message_on, messages_on}
use Rattle.amo_lines.specs.Input.{Fills, InputState, IsPending, Takes, Waits}
use Rattle.amo_lines.specs.Line.{AreLines}
use Rattle.amo_desk.specs.Serving.{Moment, Moves, Serves, message_of, messages_of, moment, unnamed}
use Rattle.amo_live.specs.Host.{puts_in}

-- no message, and none was put
pub none_moved : (kept kept' : BacklogState) (v w : PassState) → kept' ≡ kept → puts_in (mine w) ≡ puts_in (mine v) → Moves [] kept kept' v w
none_moved kept kept' v w still same = record { put = []; mine_is = same; order = λ at. append-nil (kept_on at kept) ∙ ap (kept_on at) (sym still) }

-- one message, which is put where none is kept on its stream
one_order : (at stream : ℕ) (message : NamedMessage) (kept : BacklogState) (here : Bool) → (at == stream) ≡ here → kept_on stream kept ≡ []
    → kept_on at kept ++ (if here then (message ∷ []) else []) ≡ (if here then (message ∷ []) else []) ++ kept_on at kept
one_order at stream message kept true is none =
    let empty : kept_on at kept ≡ [] = ap (λ s. kept_on s kept) (eqb-true at stream is) ∙ none in
    ap (λ (l : List NamedMessage). l ++ message ∷ []) empty ∙ ap (λ (l : List NamedMessage). message ∷ l) (sym empty)
one_order at stream message kept false is none = append-nil (kept_on at kept)

pub one_moved : (v w : PassState) (stream : ℕ) (message : NamedMessage) (kept kept' : BacklogState) → kept_on stream kept ≡ [] → kept' ≡ kept → puts_in (mine w) ≡ (stream, message.message) ∷ puts_in (mine v) → Moves ((stream, message) ∷ []) kept kept' v w
one_moved v w stream message kept kept' none still put = record {
  put = (stream, message) ∷ [];
  mine_is = put;
  order = λ at. ap (λ (l : List NamedMessage). kept_on at kept ++ l) (append-nil (message_on at (stream, message)))
      ∙ (one_order at stream message kept (at == stream) refl none ∙ (ap (λ (l : List NamedMessage). l ++ kept_on at kept) (sym (append-nil (message_on at (stream, message)))) ∙ ap (λ (k : BacklogState). messages_on at ((stream, message) ∷ []) ++ kept_on at k) (sym still)));
}

-- or is kept behind those that are
pub one_kept : (v w : PassState) (stream : ℕ) (message back : NamedMessage) (kept kept' : BacklogState) → back ≡ message → ((at : ℕ) → kept_on at kept' ≡ kept_on at kept ++ message_on at (stream, back)) → puts_in (mine w) ≡ puts_in (mine v) → Moves ((stream, message) ∷ []) kept kept' v w
one_kept v w stream message back kept kept' is keeps same = record {
  put = [];
  mine_is = same;
  order = λ at. ap (λ (l : List NamedMessage). kept_on at kept ++ l) (append-nil (message_on at (stream, message))) ∙ (ap (λ (m : NamedMessage). kept_on at kept ++ message_on at (stream, m)) (sym is) ∙ sym (keeps at));
}

-- the first that is kept on a stream is put
pub first_moved : (v w : PassState) (stream : ℕ) (message : NamedMessage) (kept kept' : BacklogState) → ((at : ℕ) → kept_on at kept ≡ message_on at (stream, message) ++ kept_on at kept') → puts_in (mine w) ≡ (stream, message.message) ∷ puts_in (mine v) → Moves [] kept kept' v w
first_moved v w stream message kept kept' first put = record {
  put = (stream, message) ∷ [];
  mine_is = put;
  order = λ at. append-nil (kept_on at kept) ∙ (first at ∙ ap (λ (l : List NamedMessage). l ++ kept_on at kept') (sym (append-nil (message_on at (stream, message)))));
}

-- or is kept as it was
pub first_kept : (v w : PassState) (stream : ℕ) (message back : NamedMessage) (kept taken kept' : BacklogState) → back ≡ message → ((at : ℕ) → kept_on at kept ≡ message_on at (stream, message) ++ kept_on at taken)
    → ((at : ℕ) → kept_on at kept' ≡ message_on at (stream, back) ++ kept_on at taken) → puts_in (mine w) ≡ puts_in (mine v) → Moves [] kept kept' v w
first_kept v w stream message back kept taken kept' is first again same = record {
  put = [];
  mine_is = same;
  order = λ at. append-nil (kept_on at kept) ∙ (first at ∙ (ap (λ (m : NamedMessage). message_on at (stream, m) ++ kept_on at taken) (sym is) ∙ sym (again at)));
}

on_append : (at : ℕ) (some more : List Addressed) → messages_on at (some ++ more) ≡ messages_on at some ++ messages_on at more
on_append at [] more = refl
on_append at (one ∷ some) more = ap (λ (l : List NamedMessage). message_on at one ++ l) (on_append at some more) ∙ sym (append_assoc (message_on at one) (messages_on at some) (messages_on at more))

unnamed_append : (some more : List Addressed) → map unnamed (some ++ more) ≡ map unnamed some ++ map unnamed more
unnamed_append [] more = refl
unnamed_append (one ∷ some) more = ap (λ (l : List (ℕ × List ℕ)). unnamed one ∷ l) (unnamed_append some more)

-- more messages
pub moves_on : (u v w : PassState) (some more : List Addressed) (first second third : BacklogState) → Moves some first second u v → Moves more second third v w → Moves (some ++ more) first third u w
moves_on u v w some more first second third one two = record {
  put = one.put ++ two.put;
  mine_is =
      let first = map unnamed one.put in let later = map unnamed two.put in
      two.mine_is ∙ (ap (λ (l : List (ℕ × List ℕ)). reverse later ++ l) one.mine_is ∙ (sym (append_assoc (reverse later) (reverse first) (puts_in (mine u)))
      ∙ (ap (λ (l : List (ℕ × List ℕ)). l ++ puts_in (mine u)) (sym (reverse-append first later)) ∙ ap (λ (l : List (ℕ × List ℕ)). reverse l ++ puts_in (mine u)) (sym (unnamed_append one.put two.put)))));
  order = λ at. ap (λ (l : List NamedMessage). kept_on at first ++ l) (on_append at some more) ∙ (sym (append_assoc (kept_on at first) (messages_on at some) (messages_on at more))
      ∙ (ap (λ (l : List NamedMessage). l ++ messages_on at more) (one.order at) ∙ (append_assoc (messages_on at one.put) (kept_on at second) (messages_on at more)
      ∙ (ap (λ (l : List NamedMessage). messages_on at one.put ++ l) (two.order at) ∙ (sym (append_assoc (messages_on at one.put) (messages_on at two.put) (kept_on at third))
      ∙ ap (λ (l : List NamedMessage). l ++ kept_on at third) (sym (on_append at one.put two.put)))))));
}

messages_append : (puts : Bool) (streams : ℕ) (some more : List Line) → messages_of puts streams (some ++ more) ≡ messages_of puts streams some ++ messages_of puts streams more
messages_append puts streams [] more = refl
messages_append puts streams (line ∷ some) more = ap (λ (l : List Addressed). message_of puts streams line ++ l) (messages_append puts streams some more) ∙ sym (append_assoc (message_of puts streams line) (messages_of puts streams some) (messages_of puts streams more))

lines_append : (spelling : Spelling) (front behind : List ℕ) (some more : List Line) → AreLines spelling front some → AreLines spelling behind more → AreLines spelling (front ++ behind) (some ++ more)
lines_append spelling front behind [] more are next = subst (λ (f : List ℕ). AreLines spelling (f ++ behind) more) (sym are) next
lines_append spelling front behind (line ∷ some) more are next =
    let (f, m, is, lacks, reads, rest) = are in
    (f, m ++ behind, ap (λ (l : List ℕ). l ++ behind) is ∙ append_assoc f (10 ∷ m) behind, lacks, reads, lines_append spelling m behind some more rest next)

-- the text of two times
text_on : (text some more front middle rest : List ℕ) → text ++ some ≡ front ++ middle → middle ++ more ≡ rest → text ++ (some ++ more) ≡ front ++ rest
text_on text some more front middle rest one two =
    sym (append_assoc text some more) ∙ (ap (λ (l : List ℕ). l ++ more) one ∙ (append_assoc front middle more ∙ ap (λ (l : List ℕ). front ++ l) two))

module _ (spelling : Spelling) (puts : Bool) (streams : ℕ) where
  -- nothing came, and no line was taken
  pub serves_none : (m n : Moment) → n.input ≡ m.input → Moves [] m.kept n.kept m.pass n.pass → Serves spelling puts streams [] m n
  serves_none m n same moves = record {
    lines = [];
    closed = λ shut. (refl, ap (λ (i : InputState). i.is_open) same ∙ shut);
    text = λ text p. ([], text, append-nil text, refl, subst (λ (i : InputState). IsPending i text) (sym same) p);
    moves = moves;
  }

  -- a reader was asked
  pub serves_bytes : (m n : Moment) (bytes : List ℕ) → Waits m.input n.input bytes → Moves [] m.kept n.kept m.pass n.pass → Serves spelling puts streams bytes m n
  serves_bytes m n bytes waits moves = record {
    lines = [];
    closed = waits.closed;
    text = λ text p. ([], text ++ bytes, refl, refl, waits.text text p);
    moves = moves;
  }

  -- a line was taken
  pub serves_line : (m n : Moment) (line : Line) → Takes spelling m.input n.input (Some line) → n.input.is_open ≡ m.input.is_open → Moves (message_of puts streams line) m.kept n.kept m.pass n.pass → Serves spelling puts streams [] m n
  serves_line m n line takes still moves = record {
    lines = line ∷ [];
    closed = λ shut. (refl, still ∙ shut);
    text = λ text p.
        let (f, more, is, lacks, reads, q) = takes text p in (
          f ++ 10 ∷ [],
          more,
          append-nil text ∙ (is ∙ sym (append_assoc f (10 ∷ []) more)),
          (f, [], refl, lacks, reads, refl),
          q,
        );
    moves = subst (λ (l : List Addressed). Moves l m.kept n.kept m.pass n.pass) (sym (append-nil (message_of puts streams line))) moves;
  }

  -- one time after another
  pub serves_on : (m n o : Moment) (some more : List ℕ) → Serves spelling puts streams some m n → Serves spelling puts streams more n o → Serves spelling puts streams (some ++ more) m o
  serves_on m n o some more one two = record {
    lines = one.lines ++ two.lines;
    closed = λ shut.
        let was = one.closed shut in let later = two.closed was.1 in
        (ap (λ (l : List ℕ). l ++ more) was.0 ∙ later.0, later.1);
    text = λ text p.
        let (f, middle, is, are, q) = one.text text p in
        let (g, rest, next, too, r) = two.text middle q in (
          f ++ g,
          rest,
          text_on text some more f middle (g ++ rest) is next ∙ sym (append_assoc f g rest),
          lines_append spelling f g one.lines two.lines are too,
          r,
        );
    moves = subst (λ (l : List Addressed). Moves l m.kept o.kept m.pass o.pass) (sym (messages_append puts streams one.lines two.lines))
        (moves_on m.pass n.pass o.pass (messages_of puts streams one.lines) (messages_of puts streams two.lines) m.kept n.kept o.kept one.moves two.moves);
  }

  -- the same, of values that are known under other names
  pub serves_as : (other : Spelling) (were : Bool) (many : ℕ) (bytes : List ℕ) (m n : Moment) → other ≡ spelling → were ≡ puts → many ≡ streams → Serves other were many bytes m n → Serves spelling puts streams bytes m n
  serves_as other were many bytes m n one two three h =
      subst (λ (x : Spelling). Serves x puts streams bytes m n) one (subst (λ (b : Bool). Serves other b streams bytes m n) two (subst (λ (k : ℕ). Serves other were k bytes m n) three h))

  pub serves_to : (bytes : List ℕ) (m : Moment) (i j : InputState) (k l : BacklogState) (v w : PassState) → j ≡ i → l ≡ k → w ≡ v → Serves spelling puts streams bytes m (moment i k v) → Serves spelling puts streams bytes m (moment j l w)
  serves_to bytes m i j k l v w one two three h =
      subst (λ (x : InputState). Serves spelling puts streams bytes m (moment x l w)) (sym one) (subst (λ (x : BacklogState). Serves spelling puts streams bytes m (moment i x w)) (sym two) (subst (λ (x : PassState). Serves spelling puts streams bytes m (moment i k x)) (sym three) h))

  -- one line more
  pub line_over : (other : Spelling) (were : Bool) (many : ℕ) (m : Moment) (i j at : InputState) (k l : BacklogState) (v w : PassState) (line : Line) (read : Option Line)
      → other ≡ spelling → were ≡ puts → many ≡ streams → Serves spelling puts streams [] m (moment i k v) → read ≡ Some line → Takes other i j read → j.is_open ≡ i.is_open → at ≡ j
      → Moves (message_of were many line) k l v w → Serves spelling puts streams [] m (moment at l w)
  line_over other were many m i j at k l v w line read one two three h is takes still same moves =
      let taken : Takes spelling i j (Some line) = subst (λ (x : Spelling). Takes x i j (Some line)) one (subst (λ (r : Option Line). Takes other i j r) is takes) in
      let here : Moves (message_of puts streams line) k l v w =
      subst (λ (b : Bool). Moves (message_of b streams line) k l v w) two (subst (λ (n : ℕ). Moves (message_of were n line) k l v w) three moves) in
      serves_to [] m j at l l w w same refl refl (serves_on m (moment i k v) (moment j l w) [] [] h (serves_line (moment i k v) (moment j l w) line taken still here))

  -- no line more
  pub none_over : (other : Spelling) (m : Moment) (i j : InputState) (k : BacklogState) (v : PassState) (read : Option Line)
      → Serves spelling puts streams [] m (moment i k v) → read ≡ None → Takes other i j read → j.is_open ≡ i.is_open → Serves spelling puts streams [] m (moment j k v)
  none_over other m i j k v read h is takes still =
      let none : Takes other i j None = subst (λ (r : Option Line). Takes other i j r) is takes in
      let waits : Waits i j [] = record {
        closed = λ shut. (refl, still ∙ shut);
        text = λ text p. subst (IsPending j) (sym (append-nil text)) (none text p).1;
      } in
      serves_on m (moment i k v) (moment j k v) [] [] h (serves_bytes (moment i k v) (moment j k v) [] waits (none_moved k k v v refl refl))

  -- a turn: a reader was asked, nothing was put, and then lines were taken
  pub turn_over : (bytes : List ℕ) (i j at to : InputState) (k l m n : BacklogState) (v w x y : PassState) → Waits i j bytes → l ≡ k → puts_in (mine w) ≡ puts_in (mine v)
      → Serves spelling puts streams [] (moment j l w) (moment at m x) → to ≡ at → n ≡ m → y ≡ x → Serves spelling puts streams bytes (moment i k v) (moment to n y)
  turn_over bytes i j at to k l m n v w x y waits still quiet h one two three =
      serves_to bytes (moment i k v) at to m n x y one two three
      (subst (λ (b : List ℕ). Serves spelling puts streams b (moment i k v) (moment at m x)) (append-nil bytes)
      (serves_on (moment i k v) (moment j l w) (moment at m x) bytes [] (serves_bytes (moment i k v) (moment j l w) bytes waits (none_moved k l v w still quiet)) h))

-- nothing was read
pub waits_none : (i j : InputState) → j ≡ i → Waits i j []
waits_none i j same = subst (λ (x : InputState). Waits i x []) (sym same) (record {
  closed = λ shut. (refl, shut);
  text = λ text p. subst (IsPending i) (sym (append-nil text)) p;
})

-- an open input was read
pub waits_filled : (i j : InputState) (bytes : List ℕ) → i.is_open ≡ true → Fills i j bytes → Waits i j bytes
waits_filled i j bytes opened fills = record {
  closed = λ shut. let no : true ≡ false = sym opened ∙ shut in absurd (true≢false no);
  text = fills;
}
