-- What stands in front of a text.
use Rattle.std.proofs.Common.{◌≡◌, ◌≢◌, ℕ, ◌<◌, ◌^◌, false, eqb, List, [], ◌∷◌, ◌++◌, get_or, refl, sym, ◌∙◌, ap, append_assoc, codes, arith}
use Rattle.std.specs.Fmt.{decimal}
use Rattle.std.specs.Cmp.Lexicographic.{pointwise}
use Rattle.std.proofs.lemmas.Fmt.{decimal_injective}
use Rattle.amo_object.specs.declared.step.End.{End}
use Rattle.amo_packet.specs.declared.packet.OwnedPacket.{OwnedPacket}
use Rattle.amo_packet.specs.Grammar.{spelling}
use Rattle.amo_packet.specs.Stream.{IsStream}
use Rattle.amo_core.specs.declared.act.Act.{Act}
use Rattle.amo_core.specs.declared.act.Act.TheVariants as act
use Rattle.amo_core.specs.declared.reply.Reply.{Reply}
use Rattle.amo_core.specs.declared.reply.Reply.TheVariants as reply
use Rattle.amo_text.specs.Act.{act_field}
use Rattle.amo_text.specs.declared.act.ActName.{ActName}
use Rattle.amo_text.specs.declared.act.ActName.TheVariants as name
use Rattle.amo_text.specs.Hexadecimal.{hex}
use Rattle.amo_text.specs.Line.{Lacks, IsField, text_of}
use Rattle.amo_text.specs.Side.{letter_of}
use Rattle.amo_text.specs.Reply.{reply_text}
use Rattle.amo_text.specs.Message.{IsMessage}
use Rattle.amo_text.proofs.Fields.{letters, IsField-letter_of, letter_of-injective}
use Rattle.amo_text.proofs.Cuts.{one_cut, no_cut, IsField-decimal, IsField-hex}
use Rattle.amo_text.proofs.HexDigits.{hex-injective, texts_differ}
use Rattle.amo_world.specs.declared.event.Event.{Event}
use Rattle.amo_journal.specs.declared.version.Version.{Version}
use Rattle.amo_journal.specs.Journal.{act_fields, event_fields, HasAct, HasReply, CanSpell}
use Rattle.amo_journal.specs.Fields.{IsPacket, IsAct, IsReply, IsOneField, act_and, place_and}
use Rattle.amo_journal.proofs.Fields.{bytes_of_spelling, text_of_event}
use Rattle.amo_journal.proofs.Unambiguous.{one_packet, put_fits, start_fits, batch_fits, delivery_fits, got_fits}

-- a text has one field in front, and one rest
pub one_field : (text field more word rest : List ℕ) → text ≡ field ++ 32 ∷ more → Lacks 32 field → IsField word → text ≡ word ++ 32 ∷ rest → (field ≡ word) × (more ≡ rest)
one_field text field more word rest cut lacks known e = one_cut 32 field more word rest lacks known.0 (sym cut ∙ e)

-- one number in front
pub one_number : (text x y : List ℕ) (m n : ℕ) → m < 2 ^ 64 → n < 2 ^ 64 → text ≡ decimal m ++ 32 ∷ x → text ≡ decimal n ++ 32 ∷ y → (m ≡ n) × (x ≡ y)
one_number text x y m n small small' e e' =
    let cut = one_cut 32 (decimal m) x (decimal n) y (IsField-decimal m small).0 (IsField-decimal n small').0 (sym e ∙ e') in
    (decimal_injective m n small small' cut.0, cut.1)

-- one side in front
pub one_side : (text x y : List ℕ) (s t : End) → text ≡ letter_of s ++ 32 ∷ x → text ≡ letter_of t ++ 32 ∷ y → (s ≡ t) × (x ≡ y)
one_side text x y s t e e' =
    let cut = one_cut 32 (letter_of s) x (letter_of t) y (IsField-letter_of s).0 (IsField-letter_of t).0 (sym e ∙ e') in
    (letter_of-injective s t cut.0, cut.1)

-- one pass, side and stream in front
pub one_place : (text x y : List ℕ) (p q : ℕ) (s t : End) (m n : ℕ) → p < 2 ^ 64 → q < 2 ^ 64 → IsStream m → IsStream n → text ≡ place_and p s m x → text ≡ place_and q t n y
    → (p ≡ q) × (s ≡ t) × (m ≡ n) × (x ≡ y)
one_place text x y p q s t m n small small' known known' e e' =
    let first = one_number text _ _ p q small small' e e' in
    let second = one_side _ _ _ s t refl first.1 in
    let third = one_number _ x y m n (omega (arith, known.1)) (omega (arith, known'.1)) refl second.1 in
    (first.0, second.0, third.0, third.1)

-- two first fields
unlike : (command word text after : List ℕ) → IsField command → IsField word → false ≡ pointwise eqb command word → command ++ 32 ∷ text ≢ word ++ 32 ∷ after
unlike command word text after p q other e = texts_differ command word other (one_cut 32 command text word after p.0 q.0 e).0

-- a text with this first field has no act of another first field in front
other_kind : (a : Act) (command text rest : List ℕ) → IsField command → false ≡ pointwise eqb command (get_or (act_fields a) 0 []) → command ++ 32 ∷ text ≢ act_and a rest
other_kind (act.Put m) command text rest known other e = unlike command (codes "put") text (hex m ++ 32 ∷ rest) known (letters (codes "put") refl) other e
other_kind act.Get command text rest known other e = unlike command (codes "get") text rest known (letters (codes "get") refl) other e
other_kind act.Ack command text rest known other e = unlike command (codes "ack") text rest known (letters (codes "ack") refl) other e
other_kind (act.Start word) command text rest known other e = unlike command (codes "start") text (decimal word ++ 32 ∷ rest) known (letters (codes "start") refl) other e
other_kind (act.Batch word) command text rest known other e = unlike command (codes "batch") text (decimal word ++ 32 ∷ rest) known (letters (codes "batch") refl) other e
other_kind act.Resend command text rest known other e = unlike command (codes "resend") text rest known (letters (codes "resend") refl) other e
other_kind (act.Deliver p word) command text rest known other e = unlike command (codes "deliver") text ((hex (spelling p) ++ 32 ∷ decimal word) ++ 32 ∷ rest) known (letters (codes "deliver") refl) other e
other_kind act.Crash command text rest known other e = unlike command (codes "crash") text rest known (letters (codes "crash") refl) other e
other_kind act.Recover command text rest known other e = unlike command (codes "recover") text rest known (letters (codes "recover") refl) other e

-- behind the first field: no put stands in front where no message follows, and so on
pub no_put : (text : List ℕ) → ((m rest : List ℕ) → IsMessage m → text ≢ hex m ++ 32 ∷ rest) → (a : Act) (rest : List ℕ) → IsAct a → codes "put" ++ 32 ∷ text ≢ act_and a rest
no_put text none (act.Put m) rest fits e = none m rest fits cc
no_put text none a rest fits e = other_kind a (codes "put") text rest (letters (codes "put") refl) refl e

pub no_start : (text : List ℕ) → ((word : ℕ) (rest : List ℕ) → word < 2 ^ 64 → text ≢ decimal word ++ 32 ∷ rest) → (a : Act) (rest : List ℕ) → IsAct a → codes "start" ++ 32 ∷ text ≢ act_and a rest
no_start text none (act.Start word) rest fits e = none word rest fits cc
no_start text none a rest fits e = other_kind a (codes "start") text rest (letters (codes "start") refl) refl e

pub no_batch : (text : List ℕ) → ((word : ℕ) (rest : List ℕ) → word < 2 ^ 64 → text ≢ decimal word ++ 32 ∷ rest) → (a : Act) (rest : List ℕ) → IsAct a → codes "batch" ++ 32 ∷ text ≢ act_and a rest
no_batch text none (act.Batch word) rest fits e = none word rest fits cc
no_batch text none a rest fits e = other_kind a (codes "batch") text rest (letters (codes "batch") refl) refl e

pub no_delivery : (text : List ℕ) → ((p : OwnedPacket) (word : ℕ) (rest : List ℕ) → IsPacket p → word < 2 ^ 64 → text ≢ hex (spelling p) ++ 32 ∷ (decimal word ++ 32 ∷ rest))
    → (a : Act) (rest : List ℕ) → IsAct a → codes "deliver" ++ 32 ∷ text ≢ act_and a rest
no_delivery text none (act.Deliver p word) rest fits e =
    let here : text ≡ (hex (spelling p) ++ 32 ∷ decimal word) ++ 32 ∷ rest = cc in
    none p word rest fits.0 fits.1 (here ∙ append_assoc (hex (spelling p)) (32 ∷ decimal word) (32 ∷ rest))
no_delivery text none a rest fits e = other_kind a (codes "deliver") text rest (letters (codes "deliver") refl) refl e

-- a text whose first field names no act has no act in front
pub other_act : (text field more : List ℕ) → text ≡ field ++ 32 ∷ more → Lacks 32 field → ((n : ActName) → field ≢ act_field n) → (a : Act) (rest : List ℕ) → text ≢ act_and a rest
other_act text field more cut lacks other a rest e = by a e
  where
    differs : (n : ActName) (after : List ℕ) → IsField (act_field n) → text ≢ act_field n ++ 32 ∷ after
    differs n after known same = other n (one_field text field more (act_field n) after cut lacks known same).0

    by : (a : Act) → text ≢ act_and a rest
    by (act.Put m) e = differs name.Put (hex m ++ 32 ∷ rest) (letters (codes "put") refl) e
    by act.Get e = differs name.Get rest (letters (codes "get") refl) e
    by act.Ack e = differs name.Ack rest (letters (codes "ack") refl) e
    by (act.Start word) e = differs name.Start (decimal word ++ 32 ∷ rest) (letters (codes "start") refl) e
    by (act.Batch word) e = differs name.Batch (decimal word ++ 32 ∷ rest) (letters (codes "batch") refl) e
    by act.Resend e = differs name.Resend rest (letters (codes "resend") refl) e
    by (act.Deliver p word) e = differs name.Deliver ((hex (spelling p) ++ 32 ∷ decimal word) ++ 32 ∷ rest) (letters (codes "deliver") refl) e
    by act.Crash e = differs name.Crash rest (letters (codes "crash") refl) e
    by act.Recover e = differs name.Recover rest (letters (codes "recover") refl) e

-- a text with a space whose first field is not got is no reply
pub other_reply : (text field more : List ℕ) → text ≡ field ++ 32 ∷ more → Lacks 32 field → field ≢ codes "got" → (r : Reply) → text ≢ reply_text r
other_reply text field more cut lacks other (reply.Got m) e = other (one_field text field more (codes "got") (hex m) cut lacks (letters (codes "got") refl) e).0
other_reply text field more cut lacks other reply.Ok e = no_cut 32 (codes "ok") field more (letters (codes "ok") refl).0 (sym e ∙ cut)
other_reply text field more cut lacks other reply.Full e = no_cut 32 (codes "full") field more (letters (codes "full") refl).0 (sym e ∙ cut)
other_reply text field more cut lacks other reply.Down e = no_cut 32 (codes "down") field more (letters (codes "down") refl).0 (sym e ∙ cut)
other_reply text field more cut lacks other reply.Nothing e = no_cut 32 (codes "nothing") field more (letters (codes "nothing") refl).0 (sym e ∙ cut)
other_reply text field more cut lacks other reply.Yes e = no_cut 32 (codes "yes") field more (letters (codes "yes") refl).0 (sym e ∙ cut)
other_reply text field more cut lacks other reply.No e = no_cut 32 (codes "no") field more (letters (codes "no") refl).0 (sym e ∙ cut)
other_reply text field more cut lacks other reply.NotYet e = no_cut 32 (codes "notyet") field more (letters (codes "notyet") refl).0 (sym e ∙ cut)
other_reply text field more cut lacks other reply.Done e = no_cut 32 (codes "done") field more (letters (codes "done") refl).0 (sym e ∙ cut)

-- the acts and replies of lines are some that fields spell
pub act_fits : (version : Version) (side : End) (stream : ℕ) (a : Act) → HasAct version side stream a → IsAct a
act_fits version side stream (act.Put m) known = put_fits version side stream m known
act_fits version side stream (act.Start word) known = start_fits version side stream word known
act_fits version side stream (act.Deliver p word) known = let fits = delivery_fits version side stream p word known in ((fits.0.spellable, fits.0.bytes), fits.1)
act_fits version side stream (act.Batch word) known = batch_fits version side stream word known
act_fits version side stream _ known = tt

pub reply_fits : (a : Act) (r : Reply) → HasReply a r → IsReply r
reply_fits a (reply.Got m) known = got_fits a m known
reply_fits a _ known = tt

-- a text has one act in front
pub one_act_in_front : (a b : Act) (x y : List ℕ) → IsAct a → IsAct b → act_and a x ≡ act_and b y → (a ≡ b) × (x ≡ y)
one_act_in_front (act.Put m) (act.Put n) x y f g e =
    let cut = one_cut 32 (hex m) x (hex n) y (IsField-hex m f.1).0 (IsField-hex n g.1).0 cc in
    (ap act.Put (hex-injective m n f.1 g.1 cut.0), cut.1)
one_act_in_front (act.Put m) b x y f g e = absurd (other_kind b (codes "put") (hex m ++ 32 ∷ x) y (letters (codes "put") refl) refl e)
one_act_in_front (act.Start v) (act.Start w) x y f g e =
    let cut = one_number (decimal v ++ 32 ∷ x) x y v w f g refl cc in
    (ap act.Start cut.0, cut.1)
one_act_in_front (act.Start v) b x y f g e = absurd (other_kind b (codes "start") (decimal v ++ 32 ∷ x) y (letters (codes "start") refl) refl e)
one_act_in_front (act.Batch v) (act.Batch w) x y f g e =
    let cut = one_number (decimal v ++ 32 ∷ x) x y v w f g refl cc in
    (ap act.Batch cut.0, cut.1)
one_act_in_front (act.Batch v) b x y f g e = absurd (other_kind b (codes "batch") (decimal v ++ 32 ∷ x) y (letters (codes "batch") refl) refl e)
one_act_in_front (act.Deliver p v) (act.Deliver q w) x y f g e =
    let inner : (hex (spelling p) ++ 32 ∷ decimal v) ++ 32 ∷ x ≡ (hex (spelling q) ++ 32 ∷ decimal w) ++ 32 ∷ y = cc in
    let whole = sym (append_assoc (hex (spelling p)) (32 ∷ decimal v) (32 ∷ x)) ∙ inner ∙ append_assoc (hex (spelling q)) (32 ∷ decimal w) (32 ∷ y) in
    let bytes = bytes_of_spelling p f.0.1 in
    let bytes' = bytes_of_spelling q g.0.1 in
    let cut = one_cut 32 (hex (spelling p)) (decimal v ++ 32 ∷ x) (hex (spelling q)) (decimal w ++ 32 ∷ y) (IsField-hex (spelling p) bytes).0 (IsField-hex (spelling q) bytes').0 whole in
    let packets = one_packet p q f.0.0 g.0.0 (hex-injective (spelling p) (spelling q) bytes bytes' cut.0) in
    let rest = one_number (decimal v ++ 32 ∷ x) x y v w f.1 g.1 refl cut.1 in
    (rw (packets, rest.0) refl, rest.1)
one_act_in_front (act.Deliver p v) b x y f g e = absurd (other_kind b (codes "deliver") ((hex (spelling p) ++ 32 ∷ decimal v) ++ 32 ∷ x) y (letters (codes "deliver") refl) refl e)
one_act_in_front act.Get act.Get x y f g e = (refl, cc)
one_act_in_front act.Get b x y f g e = absurd (other_kind b (codes "get") x y (letters (codes "get") refl) refl e)
one_act_in_front act.Ack act.Ack x y f g e = (refl, cc)
one_act_in_front act.Ack b x y f g e = absurd (other_kind b (codes "ack") x y (letters (codes "ack") refl) refl e)
one_act_in_front act.Resend act.Resend x y f g e = (refl, cc)
one_act_in_front act.Resend b x y f g e = absurd (other_kind b (codes "resend") x y (letters (codes "resend") refl) refl e)
one_act_in_front act.Crash act.Crash x y f g e = (refl, cc)
one_act_in_front act.Crash b x y f g e = absurd (other_kind b (codes "crash") x y (letters (codes "crash") refl) refl e)
one_act_in_front act.Recover act.Recover x y f g e = (refl, cc)
one_act_in_front act.Recover b x y f g e = absurd (other_kind b (codes "recover") x y (letters (codes "recover") refl) refl e)

-- a text is one reply
unlike_texts : (r q : Reply) → false ≡ pointwise eqb (reply_text r) (reply_text q) → reply_text r ≢ reply_text q
unlike_texts r q other e = texts_differ (reply_text r) (reply_text q) other e

got_or_one : (m : List ℕ) (r : Reply) → IsOneField r → reply_text (reply.Got m) ≢ reply_text r
got_or_one m (reply.Got n) one e = absurd one
got_or_one m reply.Ok one e = no_cut 32 (codes "ok") (codes "got") (hex m) (letters (codes "ok") refl).0 (sym e)
got_or_one m reply.Full one e = no_cut 32 (codes "full") (codes "got") (hex m) (letters (codes "full") refl).0 (sym e)
got_or_one m reply.Down one e = no_cut 32 (codes "down") (codes "got") (hex m) (letters (codes "down") refl).0 (sym e)
got_or_one m reply.Nothing one e = no_cut 32 (codes "nothing") (codes "got") (hex m) (letters (codes "nothing") refl).0 (sym e)
got_or_one m reply.Yes one e = no_cut 32 (codes "yes") (codes "got") (hex m) (letters (codes "yes") refl).0 (sym e)
got_or_one m reply.No one e = no_cut 32 (codes "no") (codes "got") (hex m) (letters (codes "no") refl).0 (sym e)
got_or_one m reply.NotYet one e = no_cut 32 (codes "notyet") (codes "got") (hex m) (letters (codes "notyet") refl).0 (sym e)
got_or_one m reply.Done one e = no_cut 32 (codes "done") (codes "got") (hex m) (letters (codes "done") refl).0 (sym e)

pub one_reply_text : (r q : Reply) → IsReply r → IsReply q → reply_text r ≡ reply_text q → r ≡ q
one_reply_text (reply.Got m) (reply.Got n) f g e = ap reply.Got (hex-injective m n f.1 g.1 cc)
one_reply_text (reply.Got m) q f g e = absurd (got_or_one m q tt e)
one_reply_text reply.Ok reply.Ok f g e = refl
one_reply_text reply.Ok (reply.Got m) f g e = absurd (got_or_one m reply.Ok tt (sym e))
one_reply_text reply.Ok q f g e = absurd (unlike_texts reply.Ok q refl e)
one_reply_text reply.Full reply.Full f g e = refl
one_reply_text reply.Full (reply.Got m) f g e = absurd (got_or_one m reply.Full tt (sym e))
one_reply_text reply.Full q f g e = absurd (unlike_texts reply.Full q refl e)
one_reply_text reply.Down reply.Down f g e = refl
one_reply_text reply.Down (reply.Got m) f g e = absurd (got_or_one m reply.Down tt (sym e))
one_reply_text reply.Down q f g e = absurd (unlike_texts reply.Down q refl e)
one_reply_text reply.Nothing reply.Nothing f g e = refl
one_reply_text reply.Nothing (reply.Got m) f g e = absurd (got_or_one m reply.Nothing tt (sym e))
one_reply_text reply.Nothing q f g e = absurd (unlike_texts reply.Nothing q refl e)
one_reply_text reply.Yes reply.Yes f g e = refl
one_reply_text reply.Yes (reply.Got m) f g e = absurd (got_or_one m reply.Yes tt (sym e))
one_reply_text reply.Yes q f g e = absurd (unlike_texts reply.Yes q refl e)
one_reply_text reply.No reply.No f g e = refl
one_reply_text reply.No (reply.Got m) f g e = absurd (got_or_one m reply.No tt (sym e))
one_reply_text reply.No q f g e = absurd (unlike_texts reply.No q refl e)
one_reply_text reply.NotYet reply.NotYet f g e = refl
one_reply_text reply.NotYet (reply.Got m) f g e = absurd (got_or_one m reply.NotYet tt (sym e))
one_reply_text reply.NotYet q f g e = absurd (unlike_texts reply.NotYet q refl e)
one_reply_text reply.Done reply.Done f g e = refl
one_reply_text reply.Done (reply.Got m) f g e = absurd (got_or_one m reply.Done tt (sym e))
one_reply_text reply.Done q f g e = absurd (unlike_texts reply.Done q refl e)

-- an event on a line without its number: what stands behind its place, and behind its act
pub behind_place : (version : Version) (text rest : List ℕ) (pass : ℕ) (side : End) (stream : ℕ) (e : Event) → pass < 2 ^ 64 → IsStream stream → text ≡ place_and pass side stream rest → CanSpell version e → text ≡ text_of (event_fields e)
    → (pass ≡ e.pass) × (side ≡ e.side) × (stream ≡ e.stream) × (rest ≡ act_and e.act (reply_text e.reply))
behind_place version text rest pass side stream e small known here spelt same =
    let few = spelt.pass in
    one_place text rest (act_and e.act (reply_text e.reply)) pass e.pass side e.side stream e.stream small (omega arith) known spelt.stream here (same ∙ text_of_event e)

pub behind_act : (version : Version) (text rest : List ℕ) (a : Act) (e : Event) → IsAct a → text ≡ act_and a rest → CanSpell version e → text ≡ act_and e.act (reply_text e.reply) → (a ≡ e.act) × (rest ≡ reply_text e.reply)
behind_act version text rest a e fits here spelt same = one_act_in_front a e.act rest (reply_text e.reply) fits (act_fits version e.side e.stream e.act spelt.act) (sym here ∙ same)

-- an event that is put together from the parts of one with a line
pub spelt_again : (version : Version) (e : Event) (pass : ℕ) (side : End) (stream : ℕ) (a : Act) (r : Reply) → pass ≡ e.pass → side ≡ e.side → stream ≡ e.stream → a ≡ e.act → r ≡ e.reply → CanSpell version e
    → CanSpell version (record { pass = pass; side = side; stream = stream; act = a; reply = r })
spelt_again version e pass side stream a r e1 e2 e3 e4 e5 known = rw (e1, e2, e3, e4, e5) (record { pass = known.pass; stream = known.stream; act = known.act; reply = known.reply })
