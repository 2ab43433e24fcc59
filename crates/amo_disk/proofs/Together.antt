-- Pieces that grow, read as one.
use Rattle.std.proofs.Common.{◌≡◌, ◌≢◌, ℕ, ◌<◌, ◌≤◌, List, [], ◌∷◌, ◌++◌, length, drop, refl, sym, ap, ◌∙◌, subst, arith}
use Rattle.std.proofs.Math.Seq.{drop-append_seam}
use Rattle.amo_journal.specs.declared.version.Version.{Version}
use Rattle.amo_journal.specs.Version.{Opens, heading, lines_before}
use Rattle.amo_pieces.specs.Journal.{IsWhole}
use Rattle.amo_pieces.specs.Text.{IsTextOf, begins, goes_on}
use Rattle.amo_pieces.proofs.Openings.{opened, opens_more}
use Rattle.amo_pieces.proofs.Wholes.{whole_behind, whole_body}
use Rattle.amo_disk.specs.Kept.{AreClosed, AreHeaded, spelt}

-- what is so of the text of closed pieces
record IsFront (version : Version) (text : List ℕ) : Type 0 where
  pub body : List ℕ
  pub opens : Opens version body text
  pub some : text ≢ []
  pub whole : IsWhole text

behind_heading : (version : Version) (body piece : List ℕ) → Opens version body piece → drop (length (heading version)) piece ≡ body
behind_heading version body piece opens = ap (drop (length (heading version))) (opened version body piece opens) ∙ drop-append_seam (heading version) body

some_more : (front more : List ℕ) → front ≢ [] → front ++ more ≢ []
some_more [] more some = absurd (some refl)
some_more (x ∷ front) more some = λ e. cc

long_some : (piece : List ℕ) (limit : ℕ) → 6 < limit → limit ≤ length piece → piece ≢ []
long_some [] limit far long = λ e. let no : ⊥ = omega (arith, far, long) in no
long_some (x ∷ piece) limit far long = λ e. cc

front_is : (version : Version) (limit : ℕ) (p : List ℕ) (earlier : List (List ℕ)) → 6 < limit → AreHeaded version (p ∷ earlier) → AreClosed version limit (p ∷ earlier) → IsFront version (spelt version (p ∷ earlier))
front_is version limit p [] far headed closed = record { body = headed.0.0; opens = headed.0.1; some = long_some p limit far closed.0.long; whole = closed.0.whole }
front_is version limit p (q ∷ qs) far headed closed =
    let before = front_is version limit q qs far headed.1 closed.1 in let body = headed.0.0 in
    let more : IsFront version (spelt version (q ∷ qs) ++ body) = record {
      body = before.body ++ body;
      opens = opens_more version before.body (spelt version (q ∷ qs)) body before.some before.whole before.opens;
      some = some_more (spelt version (q ∷ qs)) body before.some;
      whole = whole_behind (spelt version (q ∷ qs)) body before.whole (whole_body version body p headed.0.1 closed.0.whole);
    } in
    subst (λ (l : List ℕ). IsFront version (spelt version (q ∷ qs) ++ l)) (sym (behind_heading version body p headed.0.1)) more

pub one_text : (version : Version) (limit : ℕ) (newest : List ℕ) (earlier : List (List ℕ)) → 6 < limit → AreHeaded version (newest ∷ earlier) → AreClosed version limit earlier → IsTextOf (newest ∷ earlier) (spelt version (newest ∷ earlier))
one_text version limit newest [] far headed closed = ([], 0, refl, begins refl refl refl)
one_text version limit newest (p ∷ earlier) far headed closed =
    let front = front_is version limit p earlier far headed.1 closed in (
      spelt version (p ∷ earlier),
      lines_before version,
      one_text version limit p earlier far headed.1 closed.1,
      goes_on version front.body headed.0.0 front.some front.whole front.opens headed.0.1 (ap (λ (l : List ℕ). spelt version (p ∷ earlier) ++ l) (behind_heading version headed.0.0 newest headed.0.1)) refl,
    )
