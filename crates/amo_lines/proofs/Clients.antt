-- Clients' lines: what one reads as, and what came and was not taken.
use Rattle.std.proofs.Common.{◌≡◌, ◌≢◌, ℕ, zero, suc, ◌+◌, ◌*◌, ◌-◌, ◌<◌, ◌≤◌, Bool, true, false, List, [], ◌∷◌, ◌++◌, Result, Ok, Err, None, length, drop, take, get_or, if◌then◌else◌, refl, sym, ap, ◌∙◌, subst, append_assoc, append-nil, arith}
use Rattle.std.proofs.lemmas.List.{get_or-append-add, length-append, take-append-drop}
use Rattle.std.proofs.Math.Seq.{drop-append_seam}
use Rattle.std.proofs.lemmas.Fmt.{length-decimal-le}
use Rattle.std.specs.Fmt.{decimal}
use Rattle.hex.specs.Hex.{IsBytes, lower_digits}
use Rattle.hex.proofs.HexLemmas.{length-encode_with}
use Rattle.amo_packet.specs.Stream.{IsStream}
use Rattle.amo_text.specs.Hexadecimal.{hex}
use Rattle.amo_text.specs.Line.{Lacks}
use Rattle.amo_text.specs.Message.{IsMessage}
use Rattle.amo_text.proofs.Cuts.{IsField-decimal, Lacks-append, no_cut, one_cut}
use Rattle.amo_text.proofs.Fields.{IsField-stream}
use Rattle.amo_lines.specs.declared.input.Line.{Line}
use Rattle.amo_lines.specs.declared.lines.LineFault.{LineFault}
use Rattle.amo_lines.specs.declared.lines.LineFault.TheVariants.{NoStream, Stream, TooLong, NoHex, TooLongLine, NoJson, NoString, NoObject, Twice, Unknown, NoNumber, NoMessage, OneMessage, NoText, NoId, LongId}
use Rattle.amo_lines.specs.declared.lines.Spelling.{Spelling}
use Rattle.amo_lines.specs.Object.{Name}
use Rattle.amo_lines.specs.Input.{InputState, IsGone, IsNamed, IsPending}
use Rattle.amo_lines.specs.Line.{BlamesField, IsPut, NamesBy, ReadsAs, ReadsBy, ReadsPlain, id_by, read_of, spelt}

-- a message in HEX, and as it is
pub hex_spelt : (spelling : Spelling) (m : List ℕ) → spelling.hex ≡ true → spelt spelling m ≡ hex m
hex_spelt spelling m is = ap (λ (b : Bool). if b then hex m else m) is

pub plain_spelt : (spelling : Spelling) (m : List ℕ) → spelling.hex ≡ false → spelt spelling m ≡ m
plain_spelt spelling m is = ap (λ (b : Bool). if b then hex m else m) is

module _ (spelling : Spelling) (text : List ℕ) where
  -- a text without a space
  pub no_space : Lacks 32 text → ReadsPlain spelling text (Err NoStream)
  no_space lacks = record {
    none = λ s m put. no_cut 32 text (decimal s) (spelt spelling m) lacks put.text_is;
    blamed = λ n more fits is. no_cut 32 text (decimal n) more lacks is;
  }

  module _ (field rest : List ℕ) where
    field_of : (stream : ℕ) (message : List ℕ) → text ≡ field ++ 32 ∷ rest → Lacks 32 field → IsPut spelling text stream message → (field ≡ decimal stream) × (rest ≡ spelt spelling message)
    field_of s m here lacks put = one_cut 32 field rest (decimal s) (spelt spelling m) lacks (IsField-stream s put.stream_is).0 (sym here ∙ put.text_is)

    named_front : (stream : ℕ) → text ≡ field ++ 32 ∷ rest → field ≡ decimal stream → text ≡ decimal stream ++ 32 ∷ rest
    named_front s here named = here ∙ ap (λ (f : List ℕ). f ++ 32 ∷ rest) named

    -- one whose first field names no stream
    pub no_stream : (fault : LineFault) → text ≡ field ++ 32 ∷ rest → Lacks 32 field → ((s : ℕ) → IsStream s → field ≢ decimal s) → BlamesField field fault → ReadsPlain spelling text (Err fault)
    no_stream NoStream here lacks none blamed = record {
      none = λ s m put. none s put.stream_is (field_of s m here lacks put).0;
      blamed = λ n more fits is. blamed n fits (one_cut 32 field rest (decimal n) more lacks (IsField-decimal n fits).0 (sym here ∙ is)).0;
    }
    no_stream (Stream number) here lacks none blamed = record {
      none = λ s m put. none s put.stream_is (field_of s m here lacks put).0;
      blamed = (rest, named_front number here blamed, λ known. none number known blamed);
    }
    no_stream (TooLong count) here lacks none blamed = absurd blamed
    no_stream NoHex here lacks none blamed = absurd blamed
    no_stream TooLongLine here lacks none blamed = absurd blamed
    no_stream NoJson here lacks none blamed = absurd blamed
    no_stream NoString here lacks none blamed = absurd blamed
    no_stream NoObject here lacks none blamed = absurd blamed
    no_stream Twice here lacks none blamed = absurd blamed
    no_stream Unknown here lacks none blamed = absurd blamed
    no_stream NoNumber here lacks none blamed = absurd blamed
    no_stream NoMessage here lacks none blamed = absurd blamed
    no_stream OneMessage here lacks none blamed = absurd blamed
    no_stream NoText here lacks none blamed = absurd blamed
    no_stream NoId here lacks none blamed = absurd blamed
    no_stream (LongId count) here lacks none blamed = absurd blamed

    -- one that goes on with what is no message
    pub no_hex : (stream : ℕ) → spelling.hex ≡ true → text ≡ field ++ 32 ∷ rest → Lacks 32 field → field ≡ decimal stream → ((m : List ℕ) → IsMessage m → rest ≢ hex m) → ReadsPlain spelling text (Err NoHex)
    no_hex stream hexed here lacks named none = record {
      none = λ s m put. none m put.message_is ((field_of s m here lacks put).1 ∙ hex_spelt spelling m hexed);
      blamed = (stream, rest, named_front stream here named, hexed, none);
    }

    pub too_many : (stream count : ℕ) → spelling.hex ≡ false → text ≡ field ++ 32 ∷ rest → Lacks 32 field → field ≡ decimal stream → count ≡ length rest → 1024 < length rest → ReadsPlain spelling text (Err (TooLong count))
    too_many stream count plain here lacks named is long = record {
      none = λ s m put. let same = ap length ((field_of s m here lacks put).1 ∙ plain_spelt spelling m plain) in let short = put.message_is.0 in omega arith;
      blamed = (stream, rest, named_front stream here named, plain, is, omega arith);
    }

    -- one that is a stream and a message
    pub is_put : (stream : ℕ) (message : List ℕ) → text ≡ field ++ 32 ∷ rest → IsStream stream → field ≡ decimal stream → IsMessage message → rest ≡ spelt spelling message → ReadsPlain spelling text (Ok (stream, message))
    is_put stream message here known named short is = record { stream_is = known; message_is = short; text_is = named_front stream here named ∙ ap (λ (r : List ℕ). decimal stream ++ 32 ∷ r) is }

-- what stands behind a field of some bytes
pub behind_field : (text field rest : List ℕ) → text ≡ field ++ 32 ∷ rest → IsBytes text → IsBytes rest
behind_field text field rest here bytes = λ k.
    let at : get_or text (length field + suc k) 0 ≡ get_or rest k 0 = ap (λ (l : List ℕ). get_or l (length field + suc k) 0) here ∙ get_or-append-add field (32 ∷ rest) (suc k) 0 in
    rw at at (bytes (length field + suc k))

length-hex : (m : List ℕ) → length (hex m) ≤ 2 * length m + 1
length-hex [] = omega arith
length-hex (b ∷ m) = let long = length-encode_with lower_digits (b ∷ m) in omega arith

length_spelt : (hexed : Bool) (m : List ℕ) → length (if hexed then hex m else m) ≤ 2 * length m + 1
length_spelt true m = length-hex m
length_spelt false m = omega arith

-- a text that is too long for a line
too_long_by : (json : Bool) (spelling : Spelling) (text : List ℕ) → 4096 < length text → ReadsBy json spelling text (Err TooLongLine)
too_long_by true spelling text long = long
too_long_by false spelling text long = record {
  none = λ s m put.
      let field = length-decimal-le 3 s (omega arith) (omega (arith, put.stream_is.1)) (omega (arith, put.stream_is.1)) in
      let spelled = length_spelt spelling.hex m in
      let whole = ap length put.text_is in
      let parts = length-append (decimal s) (32 ∷ spelt spelling m) in
      absurd (omega (arith, put.message_is.0));
  blamed = long;
}

too_long : (spelling : Spelling) (text : List ℕ) → 4096 < length text → ReadsAs spelling text (Err TooLongLine)
too_long spelling text long = too_long_by spelling.json spelling text long

gone_lacks : (skips : Bool) (gone : List ℕ) → IsGone skips gone → Lacks 10 gone
gone_lacks false gone is = subst (Lacks 10) (sym is) tt
gone_lacks true gone is = is.1

-- a line reads as it did, but where something is gone in front
gone_reads : (spelling : Spelling) (skips : Bool) (gone front : List ℕ) (read : Result (ℕ × List ℕ) LineFault) → IsGone skips gone → ReadsAs spelling front read → ReadsAs spelling (gone ++ front) (if skips then Err TooLongLine else read)
gone_reads spelling false gone front read is reads = subst (λ (g : List ℕ). ReadsAs spelling (g ++ front) read) (sym is) reads
gone_reads spelling true gone front read is reads = let long = length-append gone front in too_long spelling (gone ++ front) (omega (arith, is.0))

nothing_gone : (i : InputState) (text : List ℕ) → i.skips ≡ false → i.rest ≡ text → IsPending i text
nothing_gone i text skips rest = ([], subst (λ (b : Bool). IsGone b []) (sym skips) refl, sym rest)

-- the next line was taken
pub next_taken : (spelling : Spelling) (i j : InputState) (front more : List ℕ) (read : Result (ℕ × List ℕ) LineFault) (line : Line) → i.rest ≡ front ++ 10 ∷ more → Lacks 10 front → ReadsAs spelling front read
    → read_of line ≡ (if i.skips then Err TooLongLine else read) → j.rest ≡ more → j.skips ≡ false
    → (text : List ℕ) → IsPending i text → (f m : List ℕ) × (text ≡ f ++ 10 ∷ m) × Lacks 10 f × ReadsAs spelling f (read_of line) × IsPending j m
next_taken spelling i j front more read line here lacks reads is rest skips = λ text p. (
  p.0 ++ front,
  more,
  p.2 ∙ (ap (λ (l : List ℕ). p.0 ++ l) here ∙ sym (append_assoc p.0 front (10 ∷ more))),
  Lacks-append 10 p.0 front (gone_lacks i.skips p.0 p.1) lacks,
  subst (ReadsAs spelling (p.0 ++ front)) (sym is) (gone_reads spelling i.skips p.0 front read p.1 reads),
  nothing_gone j more skips rest,
)

-- with its own id
pub line_named : (spelling : Spelling) (i : InputState) (front more : List ℕ) (read : Result (ℕ × List ℕ) LineFault) (id : Name) (line : Line) → i.rest ≡ front ++ 10 ∷ more → Lacks 10 front → NamesBy spelling.json front read id
    → read_of line ≡ (if i.skips then Err TooLongLine else read) → id_by line ≡ (if i.skips then None else id) → IsNamed spelling i line
line_named spelling i front more read id line here lacks names is named = record {
  front = front;
  rest = more;
  stands = here;
  lacks = lacks;
  own = λ no.
      let reads : read_of line ≡ read = is ∙ ap (λ (b : Bool). if b then Err TooLongLine else read) no in
      let has : id_by line ≡ id = named ∙ ap (λ (b : Bool). if b then None else id) no in
      subst (λ (r : Result (ℕ × List ℕ) LineFault). NamesBy spelling.json front r (id_by line)) (sym reads) (subst (λ (n : Name). NamesBy spelling.json front read n) (sym has) names);
  none = λ yes. named ∙ ap (λ (b : Bool). if b then None else id) yes;
}

-- no line has an end
pub none_whole : (i j : InputState) → Lacks 10 i.rest → ((text : List ℕ) → IsPending i text → IsPending j text) → (text : List ℕ) → IsPending i text → Lacks 10 text × IsPending j text
none_whole i j lacks keeps = λ text p. (subst (Lacks 10) (sym p.2) (Lacks-append 10 p.0 i.rest (gone_lacks i.skips p.0 p.1) lacks), keeps text p)

-- what came of a line that is too long is gone
pub skipped : (i j : InputState) → Lacks 10 i.rest → 4096 < length i.rest → j.rest ≡ [] → j.skips ≡ true → (text : List ℕ) → IsPending i text → IsPending j text
skipped i j lacks long rest skips = λ text p.
    let whole = ap length p.2 in let parts = length-append p.0 i.rest in (
      text,
      subst (λ (b : Bool). IsGone b text) (sym skips) (omega arith, subst (Lacks 10) (sym p.2) (Lacks-append 10 p.0 i.rest (gone_lacks i.skips p.0 p.1) lacks)),
      sym (append-nil text) ∙ ap (λ (l : List ℕ). text ++ l) (sym rest),
    )

-- more was brought
pub filled : (i j : InputState) (bytes : List ℕ) → j.skips ≡ i.skips → j.rest ≡ i.rest ++ bytes → (text : List ℕ) → IsPending i text → IsPending j (text ++ bytes)
filled i j bytes skips rest = λ text p. (
  p.0,
  subst (λ (b : Bool). IsGone b p.0) (sym skips) p.1,
  ap (λ (l : List ℕ). l ++ bytes) p.2 ∙ (append_assoc p.0 i.rest bytes ∙ ap (λ (l : List ℕ). p.0 ++ l) (sym rest)),
)

-- the bytes behind the next line, by their number
pub behind_taken : (bytes : List ℕ) (taken : ℕ) (front more : List ℕ) → drop taken bytes ≡ front ++ 10 ∷ more → drop (length bytes - length more) bytes ≡ more
behind_taken bytes taken front more here =
    let all : ((take taken bytes ++ front) ++ 10 ∷ []) ++ more ≡ bytes =
    append_assoc (take taken bytes ++ front) (10 ∷ []) more ∙ (append_assoc (take taken bytes) front (10 ∷ more) ∙ (ap (λ (l : List ℕ). take taken bytes ++ l) (sym here) ∙ take-append-drop taken bytes)) in
    let long = length-append ((take taken bytes ++ front) ++ 10 ∷ []) more in let same = ap length all in
    let count : length bytes - length more ≡ length ((take taken bytes ++ front) ++ 10 ∷ []) = omega arith in
    ap (λ (k : ℕ). drop k bytes) count ∙ (ap (λ (l : List ℕ). drop (length ((take taken bytes ++ front) ++ 10 ∷ [])) l) (sym all) ∙ drop-append_seam ((take taken bytes ++ front) ++ 10 ∷ []) more)

-- the front of a piece that was read
pub front_read : (count most : ℕ) (read more : List ℕ) → count ≤ length read → count ≤ most → take count (take most (read ++ more)) ≡ take count read
front_read zero most read more within fits = refl
front_read (suc count) zero read more within fits = absurd (omega arith)
front_read (suc count) (suc most) [] more within fits = absurd (omega arith)
front_read (suc count) (suc most) (b ∷ read) more within fits = ap (λ (l : List ℕ). b ∷ l) (front_read count most read more (omega arith) (omega arith))
