-- How the first line of a journal begins.
use Rattle.std.proofs.Common.{◌≡◌, ◌≢◌, ℕ, ◌≤◌, ◌⊎◌, inl, inr, ◌↔◌, Bool, true, false, ◌==◌, IsTrue, Option, Some, None, is_some, IfSome, IfNone, List, [], ◌∷◌, ◌++◌, length, drop, refl, sym, ap, ◌∙◌, subst, arith}
use Rattle.std.specs.Fmt.{decimal}
use Rattle.std.proofs.lemmas.List.{length-append}
use Rattle.std.proofs.lemmas.Bool.{true≢false}
use Rattle.std.proofs.Math.Seq.{drop-append_seam}
use Rattle.amo_object.specs.declared.step.End.{End}
use Rattle.amo_packet.specs.Stream.{IsStream}
use Rattle.amo_text.specs.Line.{Lacks}
use Rattle.amo_text.proofs.Cuts.{no_cut, one_cut}
use Rattle.amo_text.proofs.Fields.{IsField-stream}
use Rattle.amo_disk.specs.Beginning.{Begins, BeginsAct, BeginsLine, BeginsStream, first_front}

-- the field names a stream
abbrev pub NamesStream : List ℕ → Type 0
NamesStream field = (stream : ℕ) × IsStream stream × (field ≡ decimal stream)

names_none : (field : List ℕ) → ((stream : ℕ) → IsStream stream → field ≢ decimal stream) → NamesStream field → ⊥
names_none field none (stream, is, same) = none stream is same

-- it does where it was read as one
pub was_read : (field : List ℕ) (read : Option ℕ) → IfSome read (λ stream. IsStream stream × (field ≡ decimal stream)) → IfNone read ((stream : ℕ) → IsStream stream → field ≢ decimal stream)
    → (is_some read ≡ true → NamesStream field) × (NamesStream field → is_some read ≡ true)
was_read field (Some stream) some none = (λ yes. (stream, some.0, some.1), λ names. refl)
was_read field None some none = (λ no. absurd (true≢false (sym no)), λ names. absurd (names_none field none names))

-- a stream without a space behind it
pub stream_alone : (side : End) (text : List ℕ) → Lacks 32 text → BeginsStream side text → (text ≡ []) ⊎ NamesStream text
stream_alone side text lacks (inl none) = inl none
stream_alone side text lacks (inr (inl some)) = inr some
stream_alone side text lacks (inr (inr (stream, more, is, whole, act))) = absurd (no_cut 32 text (decimal stream) more lacks whole)

-- a stream, a space and an act
pub stream_and_act : (side : End) (text field more : List ℕ) → text ≡ field ++ 32 ∷ more → Lacks 32 field → BeginsStream side text → NamesStream field × BeginsAct side more
stream_and_act side text field more cut lacks (inl none) = absurd (no_cut 32 [] field more tt (sym none ∙ cut))
stream_and_act side text field more cut lacks (inr (inl (stream, is, whole))) = absurd (no_cut 32 (decimal stream) field more (IsField-stream stream is).0 (sym whole ∙ cut))
stream_and_act side text field more cut lacks (inr (inr (stream, rest, is, whole, act))) =
    let same = one_cut 32 field more (decimal stream) rest lacks (IsField-stream stream is).0 (sym cut ∙ whole) in
    ((stream, is, same.0), subst (λ (l : List ℕ). BeginsAct side l) (sym same.1) act)

-- a text with a space begins so where a stream stands in front of that and an act behind it
pub and_act : (side : End) (text field more : List ℕ) (act : Bool) → text ≡ field ++ 32 ∷ more → Lacks 32 field → NamesStream field → IsTrue act ↔ BeginsAct side more
    → (IsTrue act → BeginsStream side text) × (BeginsStream side text → IsTrue act)
and_act side text field more act cut lacks (stream, is, same) acts =
    (λ yes. inr (inr (stream, more, is, cut ∙ ap (λ (l : List ℕ). l ++ 32 ∷ more) same, acts.0 yes)), λ begins. acts.1 (stream_and_act side text field more cut lacks begins).1)

one_or_none : (text : List ℕ) (read : Bool) → (length text == 0) ≡ false → (NamesStream text → read ≡ true) → (text ≡ []) ⊎ NamesStream text → read ≡ true
one_or_none text read some reads (inl none) = absurd (true≢false (sym (ap (λ (l : List ℕ). length l == 0) none) ∙ some))
one_or_none text read some reads (inr names) = reads names

-- and one with no space, but for no text, where it is a stream
pub alone : (side : End) (text : List ℕ) (read : Bool) → Lacks 32 text → (length text == 0) ≡ false → (read ≡ true → NamesStream text) × (NamesStream text → read ≡ true)
    → (read ≡ true → BeginsStream side text) × (BeginsStream side text → read ≡ true)
alone side text read lacks some reads = (λ yes. inr (inl (reads.0 yes)), λ begins. one_or_none text read some reads.1 (stream_alone side text lacks begins))

short : (text : List ℕ) → length text ≤ 0 → text ≡ []
short [] none = refl
short (x ∷ text) none = absurd (omega arith)

-- behind the number, the pass and the side
pub behind_front : (side : End) (text : List ℕ) → Begins text (first_front side) → (BeginsStream side (drop (length (first_front side)) text) → BeginsLine side text) × (BeginsLine side text → BeginsStream side (drop (length (first_front side)) text))
behind_front side text (more, is) =
    let rest : drop (length (first_front side)) text ≡ more = ap (drop (length (first_front side))) is ∙ drop-append_seam (first_front side) more in
    (λ stream. inr (more, is, subst (λ (l : List ℕ). BeginsStream side l) rest stream), λ line. subst (λ (l : List ℕ). BeginsStream side l) (sym rest) (on_line side text more is line))
  where
    on_line : (side : End) (text more : List ℕ) → text ≡ first_front side ++ more → BeginsLine side text → BeginsStream side more
    on_line side text more is (inl (left, all)) =
        let one = length-append (first_front side) more in let two = length-append text left in let same = ap length is in let other = ap length all in
        inl (short more (omega arith))
    on_line side text more is (inr (rest, whole, stream)) =
        let same : more ≡ rest = sym (drop-append_seam (first_front side) more) ∙ (ap (drop (length (first_front side))) (sym is ∙ whole) ∙ drop-append_seam (first_front side) rest) in
        subst (λ (l : List ℕ). BeginsStream side l) (sym same) stream
