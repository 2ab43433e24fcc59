-- Pieces that grow.
use Rattle.std.proofs.Common.{◌≡◌, ◌≢◌, ◌⊎◌, inl, inr, ℕ, ◌+◌, ◌-◌, ◌<◌, ◌≤◌, Bool, true, false, IsTrue, Option, Some, None, IfSome, Result, Ok, Err, OnErr, List, [], ◌∷◌, ◌++◌, length, take, drop, refl, sym, ap, ◌∙◌, subst, append_assoc, arith, length-append, option_map}
use Rattle.std.proofs.lemmas.List.{append-nil, drop-append-le, drop_all, length-take, take-append-drop, take-take, take_all, take_rest}
use Rattle.std.proofs.Math.Seq.{take-add}
use Rattle.std.specs.Io.KnownBytes.{Appends, Keeps}
use Rattle.amo_journal.specs.declared.version.Version.{Version}
use Rattle.amo_journal.specs.declared.version.Version.TheVariants.{One, Two}
use Rattle.amo_journal.specs.Version.{heading}
use Rattle.amo_disk.specs.declared.newest.Newest.{Newest}
use Rattle.amo_disk.specs.Folder.{Begins, BeginsInPart, BeginsWith, Grows, Stays, with_bytes}
use Rattle.amo_disk.specs.Kept.{AreClosed, IsAlone, IsBegun, Grown, HasRoom, IsKept, IsNewest, IsWithin, spelt, spelt_known}

-- no bytes change nothing
pub grows_nothing : (pieces : Option (List (List ℕ))) → Grows pieces pieces []
grows_nothing None = refl
grows_nothing (Some []) = refl
grows_nothing (Some (p ∷ earlier)) = ap (λ (l : List ℕ). Some (l ∷ earlier)) (sym (append-nil p))

with_both : (a b : List ℕ) (pieces : Option (List (List ℕ))) → option_map (with_bytes b) (option_map (with_bytes a) pieces) ≡ option_map (with_bytes (a ++ b)) pieces
with_both a b None = refl
with_both a b (Some []) = refl
with_both a b (Some (p ∷ earlier)) = ap (λ (l : List ℕ). Some (l ∷ earlier)) (append_assoc p a b)

-- the first bytes and then more of them
pub grows_more : (old mid new : Option (List (List ℕ))) (bytes : List ℕ) (done count : ℕ) → Grows old mid (take done bytes) → Grows mid new (take count (take (length bytes - done) (drop done bytes))) → Grows old new (take (done + count) bytes)
grows_more old mid new bytes done count first second =
    let rest : Grows mid new (take count (drop done bytes)) = rw (take_rest bytes done) at second in
    rest ∙ (ap (option_map (with_bytes (take count (drop done bytes)))) first
    ∙ (with_both (take done bytes) (take count (drop done bytes)) old ∙ ap (λ (l : List ℕ). option_map (with_bytes l) old) (sym (take-add done count bytes))))

headed : (bytes : List ℕ) (pieces : Option (List (List ℕ))) → option_map (with_bytes bytes) (option_map (λ (ps : List (List ℕ)). [] ∷ ps) pieces) ≡ option_map (λ (ps : List (List ℕ)). bytes ∷ ps) pieces
headed bytes None = refl
headed bytes (Some pieces) = refl

-- a new piece gets its first bytes
pub begins_with : (old mid new : Option (List (List ℕ))) (bytes : List ℕ) → Begins old mid → Grows mid new bytes → BeginsWith old new bytes
begins_with old mid new bytes begun grown = grown ∙ (ap (option_map (with_bytes bytes)) begun ∙ headed bytes old)

-- a call that failed says so, whatever its fault
pub on_err : {T E : Type 0} (r : Result T E) (P : Type 0) → P → OnErr r P
on_err (Ok x) P p = tt
on_err (Err e) P p = p

-- a piece was closed, and a new one begun and headed
pub headed_so : (a b c d e f : Option (List (List ℕ))) (bytes heading_is : List ℕ) → Stays a b → Stays b c → Begins c d → bytes ≡ heading_is → Grows d e bytes → Stays e f → BeginsWith a f heading_is
headed_so a b c d e f bytes heading_is first second begun same grown third =
    third ∙ (begins_with c d e heading_is begun (subst (Grows d e) same grown) ∙ ap (option_map (λ (ps : List (List ℕ)). heading_is ∷ ps)) (second ∙ first))

-- all of the heading is a part of it
pub in_part_all : (old new : Option (List (List ℕ))) (bytes : List ℕ) → BeginsWith old new bytes → BeginsInPart old new bytes
in_part_all old new bytes begun = inr (length bytes, subst (BeginsWith old new) (sym (take_all (length bytes) bytes (omega arith))) begun)

-- what no part of a heading adds to the text
drop_part : (version : Version) (n : ℕ) → drop (length (heading version)) (take n (heading version)) ≡ []
drop_part version n = let long = length-take n (heading version) in drop_all (length (heading version)) (take n (heading version)) (omega (arith, long))

short_heading : (version : Version) → length (heading version) ≤ 6
short_heading One = omega arith
short_heading Two = omega arith

-- a new piece with a part of the heading adds nothing
spelt_part : (version : Version) (n : ℕ) (p : List ℕ) (pieces : List (List ℕ)) → spelt version (take n (heading version) ∷ (p ∷ pieces)) ≡ spelt version (p ∷ pieces)
spelt_part version n p pieces = ap (λ (l : List ℕ). spelt version (p ∷ pieces) ++ l) (drop_part version n) ∙ append-nil (spelt version (p ∷ pieces))

-- more bytes at the end of the newest one are more bytes of the text
spelt_more : (version : Version) (limit : ℕ) (newest bytes : List ℕ) (earlier : List (List ℕ)) → IsBegun version limit earlier newest → spelt version ((newest ++ bytes) ∷ earlier) ≡ spelt version (newest ∷ earlier) ++ bytes
spelt_more version limit newest bytes [] begun = refl
spelt_more version limit newest bytes (q ∷ qs) ((body, is), within) =
    let long = ap length is ∙ length-append (heading version) body in
    ap (λ (l : List ℕ). spelt version (q ∷ qs) ++ l) (drop-append-le (length (heading version)) newest bytes (omega (arith, long)))
    ∙ sym (append_assoc (spelt version (q ∷ qs)) (drop (length (heading version)) newest) bytes)

-- where a byte stands in two lists
record InFirst (xs ys front more : List ℕ) : Type 0 where
  pub rest : List ℕ
  pub here : xs ≡ front ++ 10 ∷ rest
  pub left : more ≡ rest ++ ys

record InSecond (xs ys front more : List ℕ) : Type 0 where
  pub rest : List ℕ
  pub before : front ≡ xs ++ rest
  pub here : ys ≡ rest ++ 10 ∷ more

in_either : (xs ys front more : List ℕ) → xs ++ ys ≡ front ++ 10 ∷ more → InFirst xs ys front more ⊎ InSecond xs ys front more
in_either [] ys front more e = inr (record { rest = front; before = refl; here = e })
in_either (x ∷ xs) ys [] more e = inl (record { rest = xs; here = cc; left = cc })
in_either (x ∷ xs) ys (f ∷ front) more e = deeper (in_either xs ys front more cc)
  where
    same : x ≡ f
    same = cc

    deeper : InFirst xs ys front more ⊎ InSecond xs ys front more → InFirst (x ∷ xs) ys (f ∷ front) more ⊎ InSecond (x ∷ xs) ys (f ∷ front) more
    deeper (inl a) = inl (record { rest = a.rest; here = let h = a.here in cc; left = a.left })
    deeper (inr b) = inr (record { rest = b.rest; before = let h = b.before in cc; here = b.here })

-- the part that a piece of this size is to get
abbrev pub IsPart : ℕ → ℕ → List ℕ → Type 0
IsPart size limit part = (front more : List ℕ) → part ≡ front ++ 10 ∷ more → more ≢ [] → size + length front + 1 < limit

longer_some : (more rest : List ℕ) → more ≢ [] → more ++ rest ≢ []
longer_some [] rest some = absurd (some refl)
longer_some (x ∷ more) rest some = λ e. cc

pub part_front : (size limit : ℕ) (part : List ℕ) (n : ℕ) → IsPart size limit part → IsPart size limit (take n part)
part_front size limit part n is = λ front more e some.
    is front (more ++ drop n part) (sym (take-append-drop n part) ∙ (ap (λ (l : List ℕ). l ++ drop n part) e ∙ append_assoc front (10 ∷ more) (drop n part))) (longer_some more (drop n part) some)

-- lines stay within the limit where a piece that is not full gets such a part
module _ (limit : ℕ) (known : Newest) (newest bytes : List ℕ) (told : IsNewest known newest) (not_full : HasRoom limit known) (part : IsPart known.length limit bytes) where
  at_end : (front rest : List ℕ) → newest ≡ front ++ 10 ∷ rest → IsWithin limit newest → length front + 1 < limit ⊎ (newest ≡ front ++ 10 ∷ [])
  at_end front [] e within = inr e
  at_end front (r ∷ rest) e within = inl (within front (r ∷ rest) e (λ no. cc))

  whole_end : (front : List ℕ) → newest ≡ front ++ 10 ∷ [] → length front + 1 < limit
  whole_end front e =
      let short = not_full (told.whole.1 (inr (front, e))) in let is = told.length_is in let long = ap length e ∙ length-append front (10 ∷ []) in
      omega (arith, short, is, long)

  by_end : (front : List ℕ) → length front + 1 < limit ⊎ (newest ≡ front ++ 10 ∷ []) → length front + 1 < limit
  by_end front (inl short) = short
  by_end front (inr e) = whole_end front e

  by_place : (front more : List ℕ) → IsWithin limit newest → more ≢ [] → InFirst newest bytes front more ⊎ InSecond newest bytes front more → length front + 1 < limit
  by_place front more within some (inl a) = by_end front (at_end front a.rest a.here within)
  by_place front more within some (inr b) =
      let short = part b.rest more b.here some in let is = told.length_is in let long = ap length b.before ∙ length-append newest b.rest in
      omega (arith, short, is, long)

  within_more : IsWithin limit newest → IsWithin limit (newest ++ bytes)
  within_more within = λ front more e some. by_place front more within some (in_either newest bytes front more e)

  begun_more : (version : Version) (earlier : List (List ℕ)) → IsBegun version limit earlier newest → IsBegun version limit earlier (newest ++ bytes)
  begun_more version [] begun = tt
  begun_more version (q ∷ qs) begun =
      ((begun.0.0 ++ bytes, ap (λ (l : List ℕ). l ++ bytes) begun.0.1 ∙ append_assoc (heading version) begun.0.0 bytes), within_more begun.1)

grown_here : (version : Version) (limit : ℕ) (known : Newest) (next : Option Newest) (pieces : List (List ℕ)) (bytes : List ℕ) → IsKept version limit known false pieces → HasRoom limit known → IsPart known.length limit bytes
    → IfSome next (λ n. (text : List ℕ) → IsNewest known text → IsNewest n (text ++ bytes)) → Grown version limit (Some pieces) (Some (with_bytes bytes pieces)) bytes next
grown_here version limit known next [] bytes kept room part counted = absurd (kept.ready refl)
grown_here version limit known next (newest ∷ earlier) bytes kept room part counted =
    let ready = kept.ready refl in record {
      text = spelt_more version limit newest bytes earlier ready.1;
      kept = still next counted;
      broken = λ other. record { closed = kept.closed; ready = λ no. cc };
    }
  where
    still : (n : Option Newest) → IfSome n (λ m. (text : List ℕ) → IsNewest known text → IsNewest m (text ++ bytes)) → IfSome n (λ m. IsKept version limit m false ((newest ++ bytes) ∷ earlier))
    still None told = tt
    still (Some m) told = record {
      closed = kept.closed;
      ready = λ _. (told newest (kept.ready refl).0, begun_more limit known newest bytes (kept.ready refl).0 room part version earlier (kept.ready refl).1);
    }

any_next : (next : Option Newest) → IfSome next (λ m. Unit {0})
any_next None = tt
any_next (Some m) = tt

pub grown : (version : Version) (limit : ℕ) (known : Newest) (next : Option Newest) (old new : Option (List (List ℕ))) (bytes : List ℕ) → Grows old new bytes → IfSome old (IsKept version limit known false) → HasRoom limit known
    → IsPart known.length limit bytes → IfSome next (λ n. (text : List ℕ) → IsNewest known text → IsNewest n (text ++ bytes)) → Grown version limit old new bytes next
grown version limit known next None new bytes grows kept room part counted = rw grows (record { text = tt; kept = any_next next; broken = λ other. tt })
grown version limit known next (Some pieces) new bytes grows kept room part counted = rw grows (grown_here version limit known next pieces bytes kept room part counted)

-- the newest piece is full, and a new one was begun, with its heading or with a part of it
module _ (version : Version) (limit : ℕ) (known : Newest) (far : 6 < limit) (long : limit ≤ known.length) (whole : IsTrue known.is_whole) where
  closed_too : (pieces : List (List ℕ)) → IsKept version limit known false pieces → (p : List ℕ) (earlier : List (List ℕ)) → pieces ≡ p ∷ earlier → AreClosed version limit (p ∷ earlier)
  closed_too [] kept p earlier e = absurd (kept.ready refl)
  closed_too (newest ∷ before) kept p earlier e =
      let ready = kept.ready refl in let is = ready.0.length_is in
      let closed : AreClosed version limit (newest ∷ before) = (record { begun = ready.1; whole = ready.0.whole.0 whole; long = omega (arith, is, long) }, kept.closed) in
      subst (AreClosed version limit) e closed

  heading_within : IsWithin limit (heading version)
  heading_within front more e some =
      let short = short_heading version in let all = ap length e ∙ length-append front (10 ∷ more) in
      omega (arith, short, all, far)

  pub begun : (old new : Option (List (List ℕ))) (next : Newest) → BeginsWith old new (heading version) → IfSome old (IsKept version limit known false) → IsNewest next (heading version)
      → Keeps (spelt_known version old) (spelt_known version new) × IfSome new (IsKept version limit next false)
  begun None new next begins kept told = rw begins (tt, tt)
  begun (Some []) new next begins kept told = absurd (kept.ready refl)
  begun (Some (newest ∷ earlier)) new next begins kept told =
      rw begins (
        ap (λ (l : List ℕ). spelt version (newest ∷ earlier) ++ l) (drop_all (length (heading version)) (heading version) (omega arith)) ∙ append-nil (spelt version (newest ∷ earlier)),
        record {
          closed = closed_too (newest ∷ earlier) kept newest earlier refl;
          ready = λ _. (told, (([], sym (append-nil (heading version))), heading_within));
        },
      )

  pub begun_in_part : (old new : Option (List (List ℕ))) (other : Newest) → BeginsInPart old new (heading version) → IfSome old (IsKept version limit known false)
      → Keeps (spelt_known version old) (spelt_known version new) × IfSome new (IsKept version limit other true)
  begun_in_part None new other (inl same) kept = rw same (tt, tt)
  begun_in_part None new other (inr (n, begins)) kept = rw begins (tt, tt)
  begun_in_part (Some pieces) new other (inl same) kept = rw same (refl, record { closed = kept.closed; ready = λ no. cc })
  begun_in_part (Some []) new other (inr (n, begins)) kept = absurd (kept.ready refl)
  begun_in_part (Some (newest ∷ earlier)) new other (inr (n, begins)) kept =
      rw begins (spelt_part version n newest earlier, record { closed = closed_too (newest ∷ earlier) kept newest earlier refl; ready = λ no. cc })

-- behind a heading alone there is room
pub headed_room : (version : Version) (limit : ℕ) (next : Newest) → 6 < limit → IsNewest next (heading version) → HasRoom limit next
headed_room version limit next far told = λ _. let short = short_heading version in let is = told.length_is in omega (arith, short, is, far)

-- the first bytes of a part of some bytes are the first of those
pub part_of_part : (bytes : List ℕ) (n k : ℕ) → n ≤ k → take n (take k bytes) ≡ take n bytes
part_of_part bytes n k within = take-take n k bytes within

-- nothing was written, and then something
pub kept_and_grown : (a b c : Option (List ℕ)) (bytes : List ℕ) → Keeps a b → Appends b c bytes → Appends a c bytes
kept_and_grown None b c bytes kept more = tt
kept_and_grown (Some x) None c bytes kept more = absurd kept
kept_and_grown (Some x) (Some y) None bytes kept more = absurd more
kept_and_grown (Some x) (Some y) (Some z) bytes kept more = more ∙ ap (λ (l : List ℕ). l ++ bytes) kept

pub stays : (version : Version) (old new : Option (List (List ℕ))) → Stays old new → Keeps (spelt_known version old) (spelt_known version new)
stays version None new same = tt
stays version (Some pieces) new same = subst (λ (ps : Option (List (List ℕ))). Keeps (spelt_known version (Some pieces)) (spelt_known version ps)) (sym same) refl

pub kept_same : (version : Version) (limit : ℕ) (known : Newest) (broken : Bool) (old new : Option (List (List ℕ))) → Stays old new → IfSome old (IsKept version limit known broken) → IfSome new (IsKept version limit known broken)
kept_same version limit known broken old new same kept = subst (λ (ps : Option (List (List ℕ))). IfSome ps (IsKept version limit known broken)) (sym same) kept

-- one piece of whole lines
pub alone : (version : Version) (limit : ℕ) (known : Newest) (pieces : Option (List (List ℕ))) → known.is_whole ≡ true → IfSome pieces (IsAlone known.length) → IfSome pieces (IsKept version limit known false)
alone version limit known None whole is = tt
alone version limit known (Some pieces) whole (piece, one, long, lines) =
    subst (IsKept version limit known false) (sym one) (record { closed = tt; ready = λ _. (record { length_is = sym long; whole = (λ _. lines, λ _. whole) }, tt) })
