-- A line has one spelling, a file one version, and bytes are one list of lines at most.
use Rattle.std.proofs.Common.{◌≡◌, ◌≢◌, ℕ, suc, ◌+◌, length, List, [], ◌∷◌, ◌++◌, get_or, drop, refl, sym, ◌∙◌, ap, arith, false, eqb, ◌<◌, ◌^◌}
use Rattle.std.specs.Cmp.Lexicographic.{pointwise}
use Rattle.std.proofs.lemmas.Fmt.{decimal_injective}
use Rattle.amo_object.specs.declared.step.End.{End}
use Rattle.amo_object.specs.declared.step.End.TheVariants.{Sender, Receiver}
use Rattle.amo_packet.specs.declared.packet.OwnedPacket.{OwnedPacket}
use Rattle.amo_packet.specs.Grammar.{spelling, IsSpellable}
use Rattle.amo_packet.proofs.Spellings.{spelling-cancel}
use Rattle.amo_core.specs.declared.act.Act.{Act}
use Rattle.amo_core.specs.declared.act.Act.TheVariants as act
use Rattle.amo_core.specs.declared.reply.Reply.{Reply}
use Rattle.amo_core.specs.declared.reply.Reply.TheVariants as reply
use Rattle.amo_text.specs.Reply.{reply_fields}
use Rattle.amo_text.specs.Message.{IsMessage}
use Rattle.amo_text.specs.Line.{text_of}
use Rattle.amo_text.proofs.Fields.{letter_of-injective}
use Rattle.amo_text.proofs.Lines.{one_line}
use Rattle.amo_text.proofs.Readings.{one_reading, malformed_not_spelt, one_malformed}
use Rattle.amo_text.proofs.HexDigits.{hex-injective, texts_differ}
use Rattle.amo_world.specs.declared.event.Event.{Event}
use Rattle.amo_journal.specs.declared.numbered.Numbered.{Numbered}
use Rattle.amo_journal.specs.declared.version.Version.{Version}
use Rattle.amo_journal.specs.declared.version.Version.TheVariants.{One, Two}
use Rattle.amo_journal.specs.Version.{heading, lines_before, Opens}
use Rattle.amo_journal.specs.Journal.{act_fields, fields_of, line_text, InRange, IsPacketOf, HasAct, HasReply, SpellsLines, AreEvents, AtLine, IsJournal, IsJournalOf, HasMalformed, HasGap, IsMalformedAt, HasGapAt, numbered}
use Rattle.amo_journal.proofs.Fields.{IsLine-fields_of, bytes_of_spelling}

pub got_fits : (a : Act) (m : List ℕ) → HasReply a (reply.Got m) → IsMessage m
got_fits act.Get m known = known
got_fits _ m known = absurd known

pub put_fits : (version : Version) (side : End) (stream : ℕ) (m : List ℕ) → HasAct version side stream (act.Put m) → IsMessage m
put_fits version Sender stream m known = known
put_fits version Receiver stream m known = absurd known

pub start_fits : (version : Version) (side : End) (stream word : ℕ) → HasAct version side stream (act.Start word) → word < 2 ^ 64
start_fits version Sender stream word known = known
start_fits version Receiver stream word known = absurd known

pub batch_fits : (version : Version) (side : End) (stream word : ℕ) → HasAct version side stream (act.Batch word) → word < 2 ^ 64
batch_fits version Sender stream word known = known.1
batch_fits version Receiver stream word known = absurd known

pub delivery_fits : (version : Version) (side : End) (stream : ℕ) (p : OwnedPacket) (word : ℕ) → HasAct version side stream (act.Deliver p word) → IsPacketOf version stream p × (word < 2 ^ 64)
delivery_fits version Sender stream p word known = known
delivery_fits version Receiver stream p word known = known

pub one_packet : (p q : OwnedPacket) → IsSpellable p → IsSpellable q → spelling p ≡ spelling q → p ≡ q
one_packet p q f g e = (spelling-cancel p q [] [] f g (ap (λ (xs : List ℕ). xs ++ []) e)).0

other_reply : (r q : Reply) → false ≡ pointwise eqb (get_or (reply_fields r) 0 []) (get_or (reply_fields q) 0 []) → reply_fields r ≢ reply_fields q
other_reply r q other e = texts_differ (get_or (reply_fields r) 0 []) (get_or (reply_fields q) 0 []) other (ap (λ (t : List (List ℕ)). get_or t 0 []) e)

one_reply : (a : Act) (r q : Reply) → HasReply a r → HasReply a q → reply_fields r ≡ reply_fields q → r ≡ q
one_reply a (reply.Got m) (reply.Got n) f g e = let mn = hex-injective m n (got_fits a m f).1 (got_fits a n g).1 cc in cc
one_reply a reply.Ok reply.Ok f g e = refl
one_reply a reply.Full reply.Full f g e = refl
one_reply a reply.Down reply.Down f g e = refl
one_reply a reply.Nothing reply.Nothing f g e = refl
one_reply a reply.Yes reply.Yes f g e = refl
one_reply a reply.No reply.No f g e = refl
one_reply a reply.NotYet reply.NotYet f g e = refl
one_reply a reply.Done reply.Done f g e = refl
one_reply a reply.Ok q f g e = absurd (other_reply reply.Ok q refl e)
one_reply a reply.Full q f g e = absurd (other_reply reply.Full q refl e)
one_reply a reply.Down q f g e = absurd (other_reply reply.Down q refl e)
one_reply a (reply.Got m) q f g e = absurd (other_reply (reply.Got m) q refl e)
one_reply a reply.Nothing q f g e = absurd (other_reply reply.Nothing q refl e)
one_reply a reply.Yes q f g e = absurd (other_reply reply.Yes q refl e)
one_reply a reply.No q f g e = absurd (other_reply reply.No q refl e)
one_reply a reply.NotYet q f g e = absurd (other_reply reply.NotYet q refl e)
one_reply a reply.Done q f g e = absurd (other_reply reply.Done q refl e)

other_act : (a b : Act) (r q : Reply) → false ≡ pointwise eqb (get_or (act_fields a ++ reply_fields r) 0 []) (get_or (act_fields b ++ reply_fields q) 0 []) → act_fields a ++ reply_fields r ≢ act_fields b ++ reply_fields q
other_act a b r q other e = texts_differ (get_or (act_fields a ++ reply_fields r) 0 []) (get_or (act_fields b ++ reply_fields q) 0 []) other (ap (λ (t : List (List ℕ)). get_or t 0 []) e)

one_act : (version : Version) (side : End) (stream : ℕ) (a b : Act) (r q : Reply) → HasAct version side stream a → HasAct version side stream b → act_fields a ++ reply_fields r ≡ act_fields b ++ reply_fields q → (a ≡ b) × (reply_fields r ≡ reply_fields q)
one_act version side stream (act.Put m) (act.Put n) r q f g e = let mn = hex-injective m n (put_fits version side stream m f).1 (put_fits version side stream n g).1 cc in (cc, cc)
one_act version side stream act.Get act.Get r q f g e = (refl, cc)
one_act version side stream act.Ack act.Ack r q f g e = (refl, cc)
one_act version side stream (act.Start v) (act.Start w) r q f g e = let vw = decimal_injective v w (start_fits version side stream v f) (start_fits version side stream w g) cc in (cc, cc)
one_act version side stream (act.Batch v) (act.Batch w) r q f g e = let vw = decimal_injective v w (batch_fits version side stream v f) (batch_fits version side stream w g) cc in (cc, cc)
one_act version side stream act.Resend act.Resend r q f g e = (refl, cc)
one_act version side stream (act.Deliver x v) (act.Deliver y w) r q f g e =
    let fx = delivery_fits version side stream x v f in
    let fy = delivery_fits version side stream y w g in
    let same : spelling x ≡ spelling y = hex-injective (spelling x) (spelling y) (bytes_of_spelling x fx.0.bytes) (bytes_of_spelling y fy.0.bytes) cc in
    let xy = one_packet x y fx.0.spellable fy.0.spellable same in
    let vw = decimal_injective v w fx.1 fy.1 cc in (cc, cc)
one_act version side stream act.Crash act.Crash r q f g e = (refl, cc)
one_act version side stream act.Recover act.Recover r q f g e = (refl, cc)
one_act version side stream (act.Put m) b r q f g e = absurd (other_act (act.Put m) b r q refl e)
one_act version side stream act.Get b r q f g e = absurd (other_act act.Get b r q refl e)
one_act version side stream act.Ack b r q f g e = absurd (other_act act.Ack b r q refl e)
one_act version side stream (act.Start v) b r q f g e = absurd (other_act (act.Start v) b r q refl e)
one_act version side stream (act.Batch v) b r q f g e = absurd (other_act (act.Batch v) b r q refl e)
one_act version side stream act.Resend b r q f g e = absurd (other_act act.Resend b r q refl e)
one_act version side stream (act.Deliver x v) b r q f g e = absurd (other_act (act.Deliver x v) b r q refl e)
one_act version side stream act.Crash b r q f g e = absurd (other_act act.Crash b r q refl e)
one_act version side stream act.Recover b r q f g e = absurd (other_act act.Recover b r q refl e)

make : ℕ → ℕ → End → ℕ → Act → Reply → Numbered
make n p s t a r = record { number = n; event = record { pass = p; side = s; stream = t; act = a; reply = r } }

same_line : (n n' p p' : ℕ) (s s' : End) (t t' : ℕ) (a a' : Act) (r r' : Reply) → n ≡ n' → p ≡ p' → s ≡ s' → t ≡ t' → a ≡ a' → r ≡ r' → make n p s t a r ≡ make n' p' s' t' a' r'
same_line n n' p p' s s' t t' a a' r r' e1 e2 e3 e4 e5 e6 = rw (e1, e2, e3, e4, e5, e6) refl

-- two lines have two lists of fields
pub fields_of-injective : (version : Version) (k l : Numbered) → InRange version k → InRange version l → fields_of k ≡ fields_of l → k ≡ l
unfolding make
fields_of-injective version k l f g e =
    let x = k.event in
    let y = l.event in
    let within = f.1.stream in
    let within' = g.1.stream in
    let small = f.1.pass in
    let small' = g.1.pass in
    let number = decimal_injective k.number l.number f.0 g.0 (ap (λ (t : List (List ℕ)). get_or t 0 []) e) in
    let pass = decimal_injective x.pass y.pass (omega arith) (omega arith) (ap (λ (t : List (List ℕ)). get_or t 1 []) e) in
    let side = letter_of-injective x.side y.side (ap (λ (t : List (List ℕ)). get_or t 2 []) e) in
    let stream = decimal_injective x.stream y.stream (omega (arith, within.1)) (omega (arith, within'.1)) (ap (λ (t : List (List ℕ)). get_or t 3 []) e) in
    let acts = one_act version x.side x.stream x.act y.act x.reply y.reply f.1.act (rw (side, stream) g.1.act) (ap (λ (t : List (List ℕ)). drop 4 t) e) in
    let replied = one_reply x.act x.reply y.reply f.1.reply (rw acts.0 g.1.reply) acts.1 in
    same_line _ _ _ _ _ _ _ _ _ _ _ _ number pass side stream acts.0 replied

-- a text, and what stands in front of a text, is one line
pub same_front : (version : Version) (k l : Numbered) (x y : List ℕ) → InRange version k → InRange version l → line_text k ++ x ≡ line_text l ++ y → k ≡ l
same_front version k l x y f g e = fields_of-injective version k l f g (one_line (fields_of k) (fields_of l) x y (IsLine-fields_of version k f) (IsLine-fields_of version l g) e).0

pub same_text : (version : Version) (k l : Numbered) → InRange version k → InRange version l → text_of (fields_of k) ≡ text_of (fields_of l) → k ≡ l
same_text version k l f g e = same_front version k l [] [] f g (ap (λ (t : List ℕ). (t ++ 10 ∷ []) ++ []) e)

-- the bytes are one list of lines at most
pub one_list : (version : Version) (bytes : List ℕ) (ks ls : List Numbered) → SpellsLines version bytes ks → SpellsLines version bytes ls → ks ≡ ls
one_list version bytes ks ls p q = one_reading fields_of (InRange version) (IsLine-fields_of version) (fields_of-injective version) ks ls p.0 q.0 (sym p.1 ∙ q.1)

-- two lists of events with the same lines are the same
pub numbered-injective : (n : ℕ) (first second : List Event) → numbered n first ≡ numbered n second → first ≡ second
numbered-injective n [] [] e = refl
numbered-injective n [] (d ∷ second) e = cc
numbered-injective n (c ∷ first) [] e = cc
numbered-injective n (c ∷ first) (d ∷ second) e =
    let line : record { number = n; event = c } ≡ record { number = n; event = d } = cc in
    let head : c ≡ d = ap (λ (l : Numbered). l.event) line in
    let rest : numbered (n + 1) first ≡ numbered (n + 1) second = cc in
    let tail = numbered-injective (n + 1) first second rest in
    rw (head, tail) refl

-- lines behind a heading are those of one list of events at most
pub one_events : (version : Version) (body : List ℕ) (first second : List Event) → AreEvents version first body → AreEvents version second body → first ≡ second
one_events version body first second p q = numbered-injective 0 first second (one_list version body (numbered 0 first) (numbered 0 second) p q)

-- a file is of one version, and has one heading
no_both : (bytes body : List ℕ) → Opens One body bytes → (body' : List ℕ) → Opens Two body' bytes → ⊥
no_both bytes body one body' two = one.1 body' two

same_rest : (xs x y : List ℕ) → xs ++ x ≡ xs ++ y → x ≡ y
same_rest [] x y e = e
same_rest (c ∷ xs) x y e = let tail : xs ++ x ≡ xs ++ y = cc in same_rest xs x y tail

pub one_opening : (bytes : List ℕ) (v w : Version) (x y : List ℕ) → Opens v x bytes → Opens w y bytes → (v ≡ w) × (x ≡ y)
one_opening bytes One One x y p q = (refl, sym p.0 ∙ q.0)
one_opening bytes One Two x y p q = absurd (no_both bytes x p y q)
one_opening bytes Two One x y p q = absurd (no_both bytes y q x p)
one_opening bytes Two Two x y p q = (refl, same_rest (heading Two) x y (sym p ∙ q))

-- bytes are the journal of one list of events at most
pub one_journal : (bytes : List ℕ) (first second : List Event) → IsJournal first bytes → IsJournal second bytes → first ≡ second
one_journal bytes first second (v, p) (w, q) =
    let same = one_opening bytes v w p.body q.body p.opens q.opens in
    one_events w q.body first second (rw (same.0, same.1) at p.lines) q.lines

pub one_version : (bytes : List ℕ) (v w : Version) (first second : List Event) → IsJournalOf v first bytes → IsJournalOf w second bytes → v ≡ w
one_version bytes v w first second p q = (one_opening bytes v w p.body q.body p.opens q.opens).0

whole_of : (version : Version) (body bytes : List ℕ) → Opens version body bytes → bytes ≡ heading version ++ body
whole_of One body bytes opens = opens.0
whole_of Two body bytes opens = opens

-- events have one journal of a version at most
pub one_text : (version : Version) (events : List Event) (a b : List ℕ) → IsJournalOf version events a → IsJournalOf version events b → a ≡ b
one_text version events a b p q =
    whole_of version p.body a p.opens ∙ ap (λ (t : List ℕ). heading version ++ t) (p.lines.1 ∙ sym q.lines.1) ∙ sym (whole_of version q.body b q.opens)

-- lines with numbers from n on have no gap
pub no_gap : (n : ℕ) (events before : List Event) (line : Numbered) (after : List Numbered) → numbered n events ≡ numbered n before ++ line ∷ after → line.number ≢ n + length before → ⊥
no_gap n [] [] line after e other = cc
no_gap n [] (d ∷ before) line after e other = cc
no_gap n (c ∷ events) [] line after e other =
    let here : record { number = n; event = c } ≡ line = cc in
    let number : n ≡ line.number = ap (λ (l : Numbered). l.number) here in
    other (omega arith)
no_gap n (c ∷ events) (d ∷ before) line after e other =
    let tail : numbered (n + 1) events ≡ numbered (n + 1) before ++ line ∷ after = cc in
    no_gap (n + 1) events before line after tail (λ same. other (omega arith))

-- and lines with a gap have one first gap
one_gap : (n : ℕ) (before before' : List Event) (line line' : Numbered) (after after' : List Numbered) → numbered n before ++ line ∷ after ≡ numbered n before' ++ line' ∷ after'
    → line.number ≢ n + length before → line'.number ≢ n + length before' → length before ≡ length before'
one_gap n [] [] line line' after after' e other other' = refl
one_gap n [] (d ∷ before') line line' after after' e other other' =
    let here : line ≡ record { number = n; event = d } = cc in
    let number : line.number ≡ n = ap (λ (l : Numbered). l.number) here in
    absurd (other (omega arith))
one_gap n (c ∷ before) [] line line' after after' e other other' =
    let here : record { number = n; event = c } ≡ line' = cc in
    let number : n ≡ line'.number = ap (λ (l : Numbered). l.number) here in
    absurd (other' (omega arith))
one_gap n (c ∷ before) (d ∷ before') line line' after after' e other other' =
    let tail : numbered (n + 1) before ++ line ∷ after ≡ numbered (n + 1) before' ++ line' ∷ after' = cc in
    ap suc (one_gap (n + 1) before before' line line' after after' tail (λ same. other (omega arith)) (λ same. other' (omega arith)))

-- of lines behind a heading: with a malformed one, or with a gap, they are those of no events
pub malformed_no_events : (version : Version) (body : List ℕ) (at : ℕ) (events : List Event) → HasMalformed version body at → ¬ (AreEvents version events body)
malformed_no_events version body at events malformed lines = malformed_not_spelt fields_of (InRange version) (IsLine-fields_of version) body at (numbered 0 events) malformed lines

pub gap_no_events : (version : Version) (body : List ℕ) (at : ℕ) (events : List Event) → HasGap version body at → ¬ (AreEvents version events body)
gap_no_events version body at events (lines, spells, gap) journal =
    no_gap 0 events gap.before gap.line gap.after (one_list version body (numbered 0 events) lines journal spells ∙ gap.whole) (λ same. gap.other (omega arith))

-- one is the first that is malformed, one is the first gap, and they have not both
one_malformed_place : (version : Version) (body : List ℕ) (m n : ℕ) → HasMalformed version body m → HasMalformed version body n → m ≡ n
one_malformed_place version = one_malformed fields_of (InRange version) (IsLine-fields_of version)

one_gap_place : (version : Version) (body : List ℕ) (m n : ℕ) → HasGap version body m → HasGap version body n → m ≡ n
one_gap_place version body m n (lines, spells, gap) (lines', spells', gap') =
    let same = sym gap.whole ∙ one_list version body lines lines' spells spells' ∙ gap'.whole in
    let long = one_gap 0 gap.before gap'.before gap.line gap'.line gap.after gap'.after same (λ e. gap.other (omega arith)) (λ e. gap'.other (omega arith)) in
    gap.count ∙ ap (λ k. k + 1) long ∙ sym gap'.count

malformed_no_gap_place : (version : Version) (body : List ℕ) (m n : ℕ) → HasMalformed version body m → ¬ (HasGap version body n)
malformed_no_gap_place version body m n malformed (lines, spells, gap) = malformed_not_spelt fields_of (InRange version) (IsLine-fields_of version) body m lines malformed spells

-- the same of files, whose lines are counted from the heading on
pub malformed_no_journal : (bytes : List ℕ) (at : ℕ) (events : List Event) → IsMalformedAt bytes at → ¬ (IsJournal events bytes)
malformed_no_journal bytes at events malformed (v, journal) =
    let same = one_opening bytes malformed.version v malformed.body journal.body malformed.opens journal.opens in
    malformed_no_events v journal.body malformed.place events (rw (same.0, same.1) at malformed.holds) journal.lines

pub gap_no_journal : (bytes : List ℕ) (at : ℕ) (events : List Event) → HasGapAt bytes at → ¬ (IsJournal events bytes)
gap_no_journal bytes at events gap (v, journal) =
    let same = one_opening bytes gap.version v gap.body journal.body gap.opens journal.opens in
    gap_no_events v journal.body gap.place events (rw (same.0, same.1) at gap.holds) journal.lines

-- where one place of a version's lines has it, one line of a file does
one_at : (Holds Holds' : Version → List ℕ → ℕ → Type 0) → ((version : Version) (body : List ℕ) (m n : ℕ) → Holds version body m → Holds' version body n → m ≡ n)
    → (bytes : List ℕ) (m n : ℕ) → AtLine Holds bytes m → AtLine Holds' bytes n → m ≡ n
one_at Holds Holds' one bytes m n a b =
    let same = one_opening bytes a.version b.version a.body b.body a.opens b.opens in
    let place = one b.version b.body a.place b.place (rw (same.0, same.1) at a.holds) b.holds in
    a.at_is ∙ ap (λ v. a.place + lines_before v) same.0 ∙ ap (λ k. k + lines_before b.version) place ∙ sym b.at_is

pub one_malformed_line : (bytes : List ℕ) (m n : ℕ) → IsMalformedAt bytes m → IsMalformedAt bytes n → m ≡ n
one_malformed_line = one_at HasMalformed HasMalformed one_malformed_place

pub one_gap_line : (bytes : List ℕ) (m n : ℕ) → HasGapAt bytes m → HasGapAt bytes n → m ≡ n
one_gap_line = one_at HasGap HasGap one_gap_place

pub malformed_no_gap : (bytes : List ℕ) (m n : ℕ) → IsMalformedAt bytes m → ¬ (HasGapAt bytes n)
malformed_no_gap bytes m n malformed gap =
    let same = one_opening bytes malformed.version gap.version malformed.body gap.body malformed.opens gap.opens in
    malformed_no_gap_place gap.version gap.body malformed.place gap.place (rw (same.0, same.1) at malformed.holds) gap.holds
