-- Bytes with a fault are no file of lives.
use Rattle.std.proofs.Common.{◌≡◌, ◌≢◌, ℕ, ◌+◌, inl, inr, length, true, false, List, [], ◌∷◌, ◌++◌, refl, sym, ◌∙◌, ap, subst, append_assoc, arith}
use Rattle.std.specs.List.{AllByRecursion, flat_map}
use Rattle.std.proofs.lemmas.List.{append-nil}
use Rattle.amo_object.specs.declared.step.End.{End}
use Rattle.amo_text.specs.Line.{Lacks, text_of}
use Rattle.amo_text.proofs.Lines.{no_line, one_line}
use Rattle.amo_lives.specs.declared.fault.LivesFault.{LivesFault}
use Rattle.amo_lives.specs.declared.fault.LivesFault.TheVariants.{NoMemory, NoHeading, Foreign, OtherSide, Malformed, SameTag, Falls}
use Rattle.amo_lives.specs.declared.life.Life.{Life}
use Rattle.amo_lives.specs.Fault.{AtLine, BeginsHeading, Faults, HasTagAgain, IsBehind, IsForeign, IsNoLife, IsOfOther}
use Rattle.amo_lives.specs.Life.{InRange, IsKey, fields_of, heading, heading_fields, line_text}
use Rattle.amo_lives.specs.Lives.{AreLives, FollowOn, LivesState, MayFollow, Tells, has_tag}
use Rattle.amo_lives.proofs.Begun.{no_end}
use Rattle.amo_lives.proofs.Fields.{IsLine-fields_of, one_life}
use Rattle.amo_lives.proofs.Files.{Meets, all_rest, behind_heading, file_on, follow_rest, lines_meet}

-- what stands behind the heading of a file of lives
body_of : (s : LivesState) (bytes : List ℕ) → (told : Tells s bytes) → bytes ≡ heading s.side s.key ++ (flat_map line_text s.lives ++ told.torn)
body_of s bytes told = told.parts ∙ append_assoc (heading s.side s.key) (flat_map line_text s.lives) told.torn

-- what a fault says of the line that follows some lives: there is one, and it is that of no life that may come next
record Blocks (Holds : List Life → List ℕ → Type 0) : Type 0 where
  ends : (lives : List Life) (rest : List ℕ) → Holds lives rest → ¬ (Lacks 10 rest)
  blocks : (lives : List Life) (rest after : List ℕ) (life : Life) → Holds lives rest → InRange life → MayFollow lives life → rest ≢ line_text life ++ after

ended_line : (life : Life) (rest more : List ℕ) → rest ≡ line_text life ++ more → ¬ (Lacks 10 rest)
ended_line life rest more here endless = no_line rest (fields_of life) more endless here

same_line : (a b : Life) (rest x y : List ℕ) → InRange a → InRange b → rest ≡ line_text a ++ x → rest ≡ line_text b ++ y → a ≡ b
same_line a b rest x y known known' here here' = one_life a b known known' (one_line (fields_of a) (fields_of b) x y (IsLine-fields_of a known) (IsLine-fields_of b known') (sym here ∙ here')).0

no_life : Blocks IsNoLife
no_life = record {
  ends = λ lives rest wrong. wrong.ended;
  blocks = λ lives rest after life wrong known follows. wrong.other life after known;
}

again : Blocks HasTagAgain
again = record {
  ends = λ lives rest wrong. ended_line wrong.life rest wrong.more wrong.parts;
  blocks = λ lives rest after life wrong known follows e.
      let same = same_line wrong.life life rest wrong.more after wrong.known known wrong.parts e in
      let both : true ≡ false = sym wrong.again ∙ ap (λ (l : Life). has_tag lives l.tag) same ∙ follows.tag in
      cc;
}

behind : Blocks IsBehind
behind = record {
  ends = λ lives rest wrong. ended_line wrong.life rest wrong.more wrong.parts;
  blocks = λ lives rest after life wrong known follows e.
      let same = same_line wrong.life life rest wrong.more after wrong.known known wrong.parts e in
      let line = ap (λ (l : Life). l.first_line) same in
      omega (arith, line, follows.first_line, wrong.falls);
}

-- lives that go on from those before such a line are no more
no_further : (Holds : List Life → List ℕ → Type 0) → Blocks Holds → (lives more : List Life) (rest after : List ℕ) → Holds lives rest → AllByRecursion InRange more → FollowOn lives more → rest ≡ flat_map line_text more ++ after → more ≡ []
no_further Holds at lives [] rest after holds range order whole = refl
no_further Holds at lives (m ∷ more) rest after holds range order whole =
    absurd (at.blocks lives rest (flat_map line_text more ++ after) m holds range.0 order.0 (whole ∙ append_assoc (line_text m) (flat_map line_text more) after))

-- the lives behind others are in range and in order
further : (lives more all : List Life) → all ≡ lives ++ more → AreLives all → AllByRecursion InRange more × FollowOn lives more
further lives more all grown are = (
  all_rest InRange lives more (subst (AllByRecursion InRange) grown are.in_range),
  follow_rest [] lives more (subst (FollowOn []) grown are.in_order),
)

no_file : (Holds : List Life → List ℕ → Type 0) → Blocks Holds → (side : End) (bytes : List ℕ) (line : ℕ) (s : LivesState) → AtLine Holds side bytes line → ¬ (Tells s bytes)
no_file Holds blocks side bytes line s at told =
    let on = file_on side at.key at.lives at.rest bytes s at.key_is at.before.in_range at.parts told in
    let fits = further at.lives on.2.0 s.lives on.2.1 told.lives in
    let none = no_further Holds blocks at.lives on.2.0 at.rest told.torn at.holds fits.0 fits.1 on.2.2 in
    let whole : at.rest ≡ told.torn = on.2.2 ∙ ap (λ (m : List Life). flat_map line_text m ++ told.torn) none in
    blocks.ends at.lives at.rest at.holds (subst (Lacks 10) (sym whole) told.endless)

-- bytes that begin with a heading
abbrev IsHeaded : List ℕ → Type 0
IsHeaded bytes = (side : End) × (key : List ℕ) × (more : List ℕ) × IsKey key × (bytes ≡ heading side key ++ more)

headed_told : (s : LivesState) (bytes : List ℕ) → Tells s bytes → IsHeaded bytes
headed_told s bytes told = (s.side, s.key, flat_map line_text s.lives ++ told.torn, told.key, body_of s bytes told)

headed_other : (side : End) (bytes : List ℕ) → IsOfOther side bytes → IsHeaded bytes
headed_other side bytes found = (found.of, found.key, found.more, found.key_is, found.parts)

headed_at : (Holds : List Life → List ℕ → Type 0) (side : End) (bytes : List ℕ) (line : ℕ) → AtLine Holds side bytes line → IsHeaded bytes
headed_at Holds side bytes line at = (side, at.key, flat_map line_text at.lives ++ at.rest, at.key_is, at.parts ∙ append_assoc (heading side at.key) (flat_map line_text at.lives) at.rest)

not_begun : (side : End) (bytes : List ℕ) → BeginsHeading side bytes → ¬ (IsHeaded bytes)
not_begun side bytes begun (of, key, more, known, parts) =
    let whole = parts ∙ append_assoc (text_of (heading_fields of key)) (10 ∷ []) more in
    no_end side begun.key (text_of (heading_fields of key)) more begun.more begun.key_is (begun.parts ∙ ap (λ (t : List ℕ). t ++ begun.more) whole)

not_foreign : (side : End) (bytes : List ℕ) → IsForeign side bytes → ¬ (IsHeaded bytes)
not_foreign side bytes found (of, key, more, known, parts) = found.none of key more known parts

-- bytes with a fault are no file of lives of this side
pub fault_no_file : (side : End) (bytes : List ℕ) (fault : LivesFault) (s : LivesState) → fault ≢ NoMemory → Faults side bytes fault → s.side ≡ side → ¬ (Tells s bytes)
fault_no_file side bytes NoMemory s other found same told = other refl
fault_no_file side bytes NoHeading s other found same told = not_begun side bytes found (headed_told s bytes told)
fault_no_file side bytes Foreign s other found same told = not_foreign side bytes found (headed_told s bytes told)
fault_no_file side bytes OtherSide s other found same told = found.other ((behind_heading found.of s.side found.key s.key _ _ found.key_is told.key (sym found.parts ∙ body_of s bytes told)).0 ∙ same)
fault_no_file side bytes (Malformed line) s other found same told = no_file IsNoLife no_life side bytes line s found told
fault_no_file side bytes (SameTag line) s other found same told = no_file HasTagAgain again side bytes line s found told
fault_no_file side bytes (Falls line) s other found same told = no_file IsBehind behind side bytes line s found told

-- two faults at lines are at one line, behind the same lives
abbrev AreOne : List Life → List Life → List ℕ → List ℕ → ℕ → ℕ → Type 0
AreOne lives lives' rest rest' m n = (lives ≡ lives') × (rest ≡ rest') × (m ≡ n)

one_place : (H H' : List Life → List ℕ → Type 0) → Blocks H → Blocks H' → (side : End) (bytes : List ℕ) (m n : ℕ) → (a : AtLine H side bytes m) → (b : AtLine H' side bytes n) → AreOne a.lives b.lives a.rest b.rest m n
one_place H H' blocks blocks' side bytes m n a b =
    let bodies = behind_heading side side a.key b.key _ _ a.key_is b.key_is
    (sym (append_assoc (heading side a.key) (flat_map line_text a.lives) a.rest) ∙ sym a.parts ∙ b.parts ∙ append_assoc (heading side b.key) (flat_map line_text b.lives) b.rest) in
    elim (lines_meet a.lives b.lives a.rest b.rest a.before.in_range b.before.in_range bodies.2) [
      | inl meets ↦ level H blocks a.lives b.lives a.rest b.rest m n a.holds b.before a.line_is b.line_is meets
      | inr meets ↦ turned a.lives b.lives a.rest b.rest m n (level H' blocks' b.lives a.lives b.rest a.rest n m b.holds a.before b.line_is a.line_is meets)
    ]
  where
    level : (H : List Life → List ℕ → Type 0) → Blocks H → (lives lives' : List Life) (rest rest' : List ℕ) (m n : ℕ) → H lives rest → AreLives lives' → m ≡ length lives + 2 → n ≡ length lives' + 2 → Meets lives lives' rest rest' → AreOne lives lives' rest rest' m n
    level H blocks lives lives' rest rest' m n holds are count count' (more, grown, whole) =
        let fits = further lives more lives' grown are in
        let none = no_further H blocks lives more rest rest' holds fits.0 fits.1 whole in
        let same : lives ≡ lives' = sym (grown ∙ ap (λ (ls : List Life). lives ++ ls) none ∙ append-nil lives) in
        let long = ap (λ (ls : List Life). length ls) same in
        (same, whole ∙ ap (λ (ls : List Life). flat_map line_text ls ++ rest') none, omega (arith, long, count, count'))

    turned : (lives lives' : List Life) (rest rest' : List ℕ) (m n : ℕ) → AreOne lives' lives rest' rest n m → AreOne lives lives' rest rest' m n
    turned lives lives' rest rest' m n (same, rests, line) = (sym same, sym rests, sym line)

-- a line has one fault
no_life_alone : (lives : List Life) (rest rest' : List ℕ) → IsNoLife lives rest → rest ≡ rest' → (life : Life) (more : List ℕ) → InRange life → rest' ≢ line_text life ++ more
no_life_alone lives rest rest' wrong same life more known e = wrong.other life more known (same ∙ e)

tag_alone : (lives lives' : List Life) (rest rest' : List ℕ) → HasTagAgain lives rest → lives ≡ lives' → rest ≡ rest' → ¬ (IsBehind lives' rest')
tag_alone lives lives' rest rest' wrong same rests wrong' =
    let life = same_line wrong.life wrong'.life rest wrong.more wrong'.more wrong.known wrong'.known wrong.parts (rests ∙ wrong'.parts) in
    let both : true ≡ false = sym wrong.again ∙ ap (λ (l : Life). has_tag lives l.tag) life ∙ ap (λ (ls : List Life). has_tag ls wrong'.life.tag) same ∙ wrong'.new in
    cc

no_life_or_tag : (side : End) (bytes : List ℕ) (m n : ℕ) → AtLine IsNoLife side bytes m → ¬ (AtLine HasTagAgain side bytes n)
no_life_or_tag side bytes m n a b =
    let one = one_place IsNoLife HasTagAgain no_life again side bytes m n a b in
    no_life_alone a.lives a.rest b.rest a.holds one.1 b.holds.life b.holds.more b.holds.known b.holds.parts

no_life_or_behind : (side : End) (bytes : List ℕ) (m n : ℕ) → AtLine IsNoLife side bytes m → ¬ (AtLine IsBehind side bytes n)
no_life_or_behind side bytes m n a b =
    let one = one_place IsNoLife IsBehind no_life behind side bytes m n a b in
    no_life_alone a.lives a.rest b.rest a.holds one.1 b.holds.life b.holds.more b.holds.known b.holds.parts

tag_or_behind : (side : End) (bytes : List ℕ) (m n : ℕ) → AtLine HasTagAgain side bytes m → ¬ (AtLine IsBehind side bytes n)
tag_or_behind side bytes m n a b =
    let one = one_place HasTagAgain IsBehind again behind side bytes m n a b in
    tag_alone a.lives b.lives a.rest b.rest a.holds one.0 one.1 b.holds

-- the heading is of one side
other_or_at : (Holds : List Life → List ℕ → Type 0) (side : End) (bytes : List ℕ) (line : ℕ) → IsOfOther side bytes → ¬ (AtLine Holds side bytes line)
other_or_at Holds side bytes line found at =
    let whole = at.parts ∙ append_assoc (heading side at.key) (flat_map line_text at.lives) at.rest in
    found.other (behind_heading found.of side found.key at.key _ _ found.key_is at.key_is (sym found.parts ∙ whole)).0

-- bytes have one fault
pub one_fault : (side : End) (bytes : List ℕ) (fault other : LivesFault) → fault ≢ NoMemory → other ≢ NoMemory → Faults side bytes fault → Faults side bytes other → fault ≡ other
one_fault side bytes NoMemory other a b p q = absurd (a refl)
one_fault side bytes NoHeading NoMemory a b p q = absurd (b refl)
one_fault side bytes NoHeading NoHeading a b p q = refl
one_fault side bytes NoHeading Foreign a b p q = absurd (q.not_begun p)
one_fault side bytes NoHeading OtherSide a b p q = absurd (not_begun side bytes p (headed_other side bytes q))
one_fault side bytes NoHeading (Malformed n) a b p q = absurd (not_begun side bytes p (headed_at IsNoLife side bytes n q))
one_fault side bytes NoHeading (SameTag n) a b p q = absurd (not_begun side bytes p (headed_at HasTagAgain side bytes n q))
one_fault side bytes NoHeading (Falls n) a b p q = absurd (not_begun side bytes p (headed_at IsBehind side bytes n q))
one_fault side bytes Foreign NoMemory a b p q = absurd (b refl)
one_fault side bytes Foreign NoHeading a b p q = absurd (p.not_begun q)
one_fault side bytes Foreign Foreign a b p q = refl
one_fault side bytes Foreign OtherSide a b p q = absurd (not_foreign side bytes p (headed_other side bytes q))
one_fault side bytes Foreign (Malformed n) a b p q = absurd (not_foreign side bytes p (headed_at IsNoLife side bytes n q))
one_fault side bytes Foreign (SameTag n) a b p q = absurd (not_foreign side bytes p (headed_at HasTagAgain side bytes n q))
one_fault side bytes Foreign (Falls n) a b p q = absurd (not_foreign side bytes p (headed_at IsBehind side bytes n q))
one_fault side bytes OtherSide NoMemory a b p q = absurd (b refl)
one_fault side bytes OtherSide NoHeading a b p q = absurd (not_begun side bytes q (headed_other side bytes p))
one_fault side bytes OtherSide Foreign a b p q = absurd (not_foreign side bytes q (headed_other side bytes p))
one_fault side bytes OtherSide OtherSide a b p q = refl
one_fault side bytes OtherSide (Malformed n) a b p q = absurd (other_or_at IsNoLife side bytes n p q)
one_fault side bytes OtherSide (SameTag n) a b p q = absurd (other_or_at HasTagAgain side bytes n p q)
one_fault side bytes OtherSide (Falls n) a b p q = absurd (other_or_at IsBehind side bytes n p q)
one_fault side bytes (Malformed m) NoMemory a b p q = absurd (b refl)
one_fault side bytes (Malformed m) NoHeading a b p q = absurd (not_begun side bytes q (headed_at IsNoLife side bytes m p))
one_fault side bytes (Malformed m) Foreign a b p q = absurd (not_foreign side bytes q (headed_at IsNoLife side bytes m p))
one_fault side bytes (Malformed m) OtherSide a b p q = absurd (other_or_at IsNoLife side bytes m q p)
one_fault side bytes (Malformed m) (Malformed n) a b p q = ap Malformed (one_place IsNoLife IsNoLife no_life no_life side bytes m n p q).2
one_fault side bytes (Malformed m) (SameTag n) a b p q = absurd (no_life_or_tag side bytes m n p q)
one_fault side bytes (Malformed m) (Falls n) a b p q = absurd (no_life_or_behind side bytes m n p q)
one_fault side bytes (SameTag m) NoMemory a b p q = absurd (b refl)
one_fault side bytes (SameTag m) NoHeading a b p q = absurd (not_begun side bytes q (headed_at HasTagAgain side bytes m p))
one_fault side bytes (SameTag m) Foreign a b p q = absurd (not_foreign side bytes q (headed_at HasTagAgain side bytes m p))
one_fault side bytes (SameTag m) OtherSide a b p q = absurd (other_or_at HasTagAgain side bytes m q p)
one_fault side bytes (SameTag m) (Malformed n) a b p q = absurd (no_life_or_tag side bytes n m q p)
one_fault side bytes (SameTag m) (SameTag n) a b p q = ap SameTag (one_place HasTagAgain HasTagAgain again again side bytes m n p q).2
one_fault side bytes (SameTag m) (Falls n) a b p q = absurd (tag_or_behind side bytes m n p q)
one_fault side bytes (Falls m) NoMemory a b p q = absurd (b refl)
one_fault side bytes (Falls m) NoHeading a b p q = absurd (not_begun side bytes q (headed_at IsBehind side bytes m p))
one_fault side bytes (Falls m) Foreign a b p q = absurd (not_foreign side bytes q (headed_at IsBehind side bytes m p))
one_fault side bytes (Falls m) OtherSide a b p q = absurd (other_or_at IsBehind side bytes m q p)
one_fault side bytes (Falls m) (Malformed n) a b p q = absurd (no_life_or_behind side bytes n m q p)
one_fault side bytes (Falls m) (SameTag n) a b p q = absurd (tag_or_behind side bytes n m q p)
one_fault side bytes (Falls m) (Falls n) a b p q = ap Falls (one_place IsBehind IsBehind behind behind side bytes m n p q).2
