-- Lines and their fields.
use Rattle.std.proofs.Common.{◌≡◌, ◌≢◌, ℕ, List, [], ◌∷◌, ◌++◌, refl, sym, ◌∙◌, ap, codes, get_or, drop, ◌<◌, ◌^◌, Option, Some, None, true, false, eqb}
use Rattle.std.specs.Prelude.{IsTrue, is_some}
use Rattle.std.specs.Fmt.{decimal}
use Rattle.std.specs.List.{AllByRecursion}
use Rattle.std.specs.Cmp.Lexicographic.{pointwise}
use Rattle.std.proofs.lemmas.Fmt.{decimal_injective}
use Rattle.amo_text.specs.Act.{act_field}
use Rattle.amo_text.specs.declared.act.ActName.{ActName}
use Rattle.amo_text.specs.declared.act.ActName.TheVariants as name
use Rattle.amo_text.specs.Hexadecimal.{hex}
use Rattle.amo_text.specs.Line.{Lacks, IsField, IsLine, text_of}
use Rattle.amo_text.specs.Message.{IsMessage}
use Rattle.amo_text.proofs.Cuts.{one_cut, IsField-decimal, IsField-hex}
use Rattle.amo_text.proofs.Fields.{letters, IsField-letter_of, letter_of-injective, IsField-stream, stream-injective}
use Rattle.amo_text.proofs.Lines.{first_field, only_field, line_of-injective}
use Rattle.amo_text.proofs.Readings.{one_reading}
use Rattle.amo_text.proofs.Readings as text
use Rattle.amo_text.specs.Side.{letter_of}
use Rattle.amo_text.proofs.HexDigits.{hex-injective, texts_differ}
use Rattle.amo_object.specs.declared.step.End.{End}
use Rattle.amo_schedule.specs.Schedule.{fields_of, ReadsAs, Parses, spelling_of, InRange, SpellsSchedule, IsMalformedAt}
use Rattle.amo_packet.specs.Stream.{IsStream}
use Rattle.amo_schedule.specs.declared.line.ScheduleLine.{ScheduleLine}
use Rattle.amo_schedule.specs.declared.reader.LineText.{LineText}
use Rattle.amo_schedule.specs.declared.reader.LineText.TheVariants as form
use Rattle.amo_schedule.specs.declared.line.ScheduleLine.TheVariants.{Put, Get, Ack, Start, Batch, Resend, Deliver, Crash, Recover}

-- the first field of a line
abbrev pub command_of : ScheduleLine → List ℕ
command_of line = get_or (fields_of line) 0 []

-- the fields after it
abbrev pub arguments_of : ScheduleLine → List (List ℕ)
arguments_of line = drop 1 (fields_of line)

command_and_arguments : (line : ScheduleLine) → fields_of line ≡ command_of line ∷ arguments_of line
command_and_arguments (Put s m) = refl
command_and_arguments _ = refl

some_argument : (line : ScheduleLine) → arguments_of line ≢ []
some_argument (Put s m) e = cc
some_argument _ e = cc

command_field : (line : ScheduleLine) → IsField (command_of line)
command_field (Put s m) = letters (codes "put") refl
command_field line = letters (command_of line) refl

arguments_fields : (line : ScheduleLine) → InRange line → AllByRecursion IsField (arguments_of line)
arguments_fields (Put s m) known = (IsField-stream s known.0, (IsField-hex m known.1.1, tt))
arguments_fields (Get s) known = (IsField-stream s known, tt)
arguments_fields (Ack s) known = (IsField-stream s known, tt)
arguments_fields (Start s w) known = (IsField-stream s known.0, (IsField-decimal w known.1, tt))
arguments_fields (Batch s w) known = (IsField-stream s known.0, (IsField-decimal w known.1, tt))
arguments_fields (Resend side s) known = (IsField-letter_of side, (IsField-stream s known, tt))
arguments_fields (Deliver k w) known = (IsField-decimal k known.0, (IsField-decimal w known.1, tt))
arguments_fields (Crash side s) known = (IsField-letter_of side, (IsField-stream s known, tt))
arguments_fields (Recover side s) known = (IsField-letter_of side, (IsField-stream s known, tt))

-- a line is made of fields
pub IsLine-fields_of : (line : ScheduleLine) → InRange line → IsLine (fields_of line)
IsLine-fields_of line known = rw (command_and_arguments line) ((λ e. cc), (command_field line, arguments_fields line known))

-- lines with other first fields
apart : (k l : ScheduleLine) → false ≡ pointwise eqb (command_of k) (command_of l) → fields_of k ≢ fields_of l
apart k l other e = texts_differ (command_of k) (command_of l) other (ap (λ (t : List (List ℕ)). get_or t 0 []) e)

-- two lines have two lists of fields
pub fields_of-injective : (k l : ScheduleLine) → InRange k → InRange l → fields_of k ≡ fields_of l → k ≡ l
fields_of-injective (Put s m) (Put t n) p q e =
    let st = stream-injective s t p.0 q.0 cc in
    let mn = hex-injective m n p.1.1 q.1.1 cc in cc
fields_of-injective (Put s m) l p q e = absurd (apart (Put s m) l refl e)
fields_of-injective (Get s) (Get t) p q e = let st = stream-injective s t p q cc in cc
fields_of-injective (Get s) l p q e = absurd (apart (Get s) l refl e)
fields_of-injective (Ack s) (Ack t) p q e = let st = stream-injective s t p q cc in cc
fields_of-injective (Ack s) l p q e = absurd (apart (Ack s) l refl e)
fields_of-injective (Start s v) (Start t w) p q e =
    let st = stream-injective s t p.0 q.0 cc in
    let vw = decimal_injective v w p.1 q.1 cc in cc
fields_of-injective (Start s v) l p q e = absurd (apart (Start s v) l refl e)
fields_of-injective (Batch s v) (Batch t w) p q e =
    let st = stream-injective s t p.0 q.0 cc in
    let vw = decimal_injective v w p.1 q.1 cc in cc
fields_of-injective (Batch s v) l p q e = absurd (apart (Batch s v) l refl e)
fields_of-injective (Resend a s) (Resend b t) p q e =
    let ab = letter_of-injective a b cc in
    let st = stream-injective s t p q cc in cc
fields_of-injective (Resend a s) l p q e = absurd (apart (Resend a s) l refl e)
fields_of-injective (Deliver j v) (Deliver k w) p q e =
    let jk = decimal_injective j k p.0 q.0 cc in
    let vw = decimal_injective v w p.1 q.1 cc in cc
fields_of-injective (Deliver j v) l p q e = absurd (apart (Deliver j v) l refl e)
fields_of-injective (Crash a s) (Crash b t) p q e =
    let ab = letter_of-injective a b cc in
    let st = stream-injective s t p q cc in cc
fields_of-injective (Crash a s) l p q e = absurd (apart (Crash a s) l refl e)
fields_of-injective (Recover a s) (Recover b t) p q e =
    let ab = letter_of-injective a b cc in
    let st = stream-injective s t p q cc in cc
fields_of-injective (Recover a s) l p q e = absurd (apart (Recover a s) l refl e)

-- two lines have two spellings
pub spelling_of-injective : (k l : ScheduleLine) → InRange k → InRange l → spelling_of k ≡ spelling_of l → k ≡ l
spelling_of-injective k l p q e = fields_of-injective k l p q (line_of-injective (fields_of k) (fields_of l) (IsLine-fields_of k p) (IsLine-fields_of l q) e)

-- the bytes are spelt by one list of lines at most
pub one_schedule : (bytes : List ℕ) (ks ls : List ScheduleLine) → SpellsSchedule bytes ks → SpellsSchedule bytes ls → ks ≡ ls
one_schedule bytes ks ls p q = one_reading fields_of InRange IsLine-fields_of fields_of-injective ks ls p.0 q.0 (sym p.1 ∙ q.1)

-- the fields of a line, cut after the first
parts_of : (line : ScheduleLine) (field rest : List ℕ) → Lacks 32 field → field ++ 32 ∷ rest ≡ text_of (fields_of line)
    → (command_of line ≡ field) × (text_of (arguments_of line) ≡ rest)
parts_of line field rest lacks e =
    let whole : text_of (command_of line ∷ arguments_of line) ≡ field ++ 32 ∷ rest = sym (e ∙ ap text_of (command_and_arguments line)) in
    let parts = first_field (command_of line) (arguments_of line) field rest (command_field line) lacks whole in
    (parts.0, parts.1)

-- a text with another first field is no such line
pub other_command : (line : ScheduleLine) (field rest : List ℕ) → Lacks 32 field → false ≡ pointwise eqb (command_of line) field → field ++ 32 ∷ rest ≢ text_of (fields_of line)
other_command line field rest lacks other e = texts_differ (command_of line) field other (parts_of line field rest lacks e).0

-- a text with this first field is a line of this kind, or none
pub no_put : (rest : List ℕ) → ((s : ℕ) (m : List ℕ) → IsStream s → IsMessage m → rest ≢ decimal s ++ 32 ∷ hex m)
    → ReadsAs (codes "put" ++ 32 ∷ rest) None
no_put rest none (Put s m) known e = none s m known.0 known.1 (sym (parts_of (Put s m) (codes "put") rest (letters (codes "put") refl).0 e).1)
no_put rest none line known e = other_command line (codes "put") rest (letters (codes "put") refl).0 refl e

pub no_deliver : (rest : List ℕ) → ((k w : ℕ) → k < 2 ^ 64 → w < 2 ^ 64 → rest ≢ decimal k ++ 32 ∷ decimal w) → ReadsAs (codes "deliver" ++ 32 ∷ rest) None
no_deliver rest none (Deliver k w) known e = none k w known.0 known.1 (sym (parts_of (Deliver k w) (codes "deliver") rest (letters (codes "deliver") refl).0 e).1)
no_deliver rest none line known e = other_command line (codes "deliver") rest (letters (codes "deliver") refl).0 refl e

-- a text, by the name in front of it
pub whole_text : (text field rest : List ℕ) (is name : ActName) → text ≡ field ++ 32 ∷ rest → field ≡ act_field is → is ≡ name → act_field name ++ 32 ∷ rest ≡ text
whole_text text field rest is name cut spelt same = sym (cut ∙ ap (λ (t : List ℕ). t ++ 32 ∷ rest) (spelt ∙ ap act_field same))

-- the first field of a line is the name of an act
named : (line : ScheduleLine) → (name : ActName) × (command_of line ≡ act_field name)
named (Put s m) = (name.Put, refl)
named (Get s) = (name.Get, refl)
named (Ack s) = (name.Ack, refl)
named (Start s w) = (name.Start, refl)
named (Batch s w) = (name.Batch, refl)
named (Resend side s) = (name.Resend, refl)
named (Deliver k w) = (name.Deliver, refl)
named (Crash side s) = (name.Crash, refl)
named (Recover side s) = (name.Recover, refl)

-- a text whose first field is no name of an act is no line
pub other_kind : (line : ScheduleLine) (text field rest : List ℕ) → text ≡ field ++ 32 ∷ rest → Lacks 32 field → ((name : ActName) → field ≢ act_field name)
    → text ≢ text_of (fields_of line)
other_kind line text field rest cut lacks none e =
    let is = named line in
    none is.0 (sym (parts_of line field rest lacks (sym cut ∙ e)).0 ∙ is.1)

-- a text without a space is no line
pub one_field : (line : ScheduleLine) (text : List ℕ) → Lacks 32 text → text ≢ text_of (fields_of line)
one_field line text lacks e =
    let only = only_field (command_of line) (arguments_of line) text lacks (sym (ap text_of (command_and_arguments line)) ∙ sym e) in
    some_argument line only.1

-- two fields, the first of which is a number
pub after_number : (n : ℕ) (more text field rest : List ℕ) → n < 2 ^ 64 → text ≡ field ++ 32 ∷ rest → Lacks 32 field → text ≡ decimal n ++ 32 ∷ more
    → (field ≡ decimal n) × (rest ≡ more)
after_number n more text field rest fits cut lacks e = one_cut 32 field rest (decimal n) more lacks (IsField-decimal n fits).0 (sym cut ∙ e)

-- two fields, the first of which is a side
pub after_side : (side : End) (more text field rest : List ℕ) → text ≡ field ++ 32 ∷ rest → Lacks 32 field → text ≡ letter_of side ++ 32 ∷ more
    → (field ≡ letter_of side) × (rest ≡ more)
after_side side more text field rest cut lacks e = one_cut 32 field rest (letter_of side) more lacks (IsField-letter_of side).0 (sym cut ∙ e)

-- a schedule is not malformed, and what is malformed is malformed at one line
pub malformed_not_spelt : (bytes : List ℕ) (number : ℕ) (lines : List ScheduleLine) → IsMalformedAt bytes number → ¬ (SpellsSchedule bytes lines)
malformed_not_spelt = text.malformed_not_spelt fields_of InRange IsLine-fields_of

pub one_malformed : (bytes : List ℕ) (m n : ℕ) → IsMalformedAt bytes m → IsMalformedAt bytes n → m ≡ n
one_malformed = text.one_malformed fields_of InRange IsLine-fields_of

-- a text that was parsed is a line's, and one that was not is none
pub told_by : (text : List ℕ) (read : Option LineText) → Parses text read
    → (IsTrue (is_some read) → (line : ScheduleLine) × InRange line × (text ≡ text_of (fields_of line)))
    × (((line : ScheduleLine) × InRange line × (text ≡ text_of (fields_of line))) → IsTrue (is_some read))
told_by text (Some (form.Put stream digits)) (m, spelt, reads) = ((λ t. (Put stream m, reads.0, reads.1)), λ line. refl)
told_by text (Some (form.Other line)) (known, is) = ((λ t. (line, known, is)), λ other. refl)
told_by text None none = ((λ t. absurd (let h : false ≡ true = t in cc)), λ (line, known, is). absurd (none line known is))
