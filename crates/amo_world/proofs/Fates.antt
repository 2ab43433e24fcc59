-- Backward simulation, lists of fates: joined, cut at an entry, and what they keep.
use Rattle.std.proofs.Common.{◌≡◌, ℕ, Bool, true, false, ◌||◌, List, [], ◌∷◌, ◌++◌, length, refl, sym, ◌∙◌, ap, remove}
use Rattle.amo_world.specs.Doubt.{Entry, entry}
use Rattle.amo_world.specs.Resolution.{Fate, entries_of, messages_kept, KeepsUndoubted, keeps_last}

-- an entry with its fate
abbrev pub fate : Entry → Bool → Fate
fate e kept = record { entry = e; kept = kept }

-- the entries of two lists joined are those of each
pub entries_of-append : (xs ys : List Fate) → entries_of (xs ++ ys) ≡ entries_of xs ++ entries_of ys
entries_of-append [] ys = refl
entries_of-append (x ∷ xs) ys = ap (λ (es : List Entry). x.entry ∷ es) (entries_of-append xs ys)

-- the messages kept of two lists joined are those of each
pub messages_kept-append : (xs ys : List Fate) → messages_kept (xs ++ ys) ≡ messages_kept xs ++ messages_kept ys
messages_kept-append [] ys = refl
messages_kept-append (x ∷ xs) ys = by x.kept (messages_kept-append xs ys)
  where
    by : (kept : Bool) → messages_kept (xs ++ ys) ≡ messages_kept xs ++ messages_kept ys
        → messages_kept (fate x.entry kept ∷ xs ++ ys) ≡ messages_kept (fate x.entry kept ∷ xs) ++ messages_kept ys
    by true e = ap (λ (ms : List (List ℕ)). x.entry.message ∷ ms) e
    by false e = e

-- two lists that keep what is in no doubt keep it when they are joined
pub KeepsUndoubted-append : (xs ys : List Fate) → KeepsUndoubted xs → KeepsUndoubted ys → KeepsUndoubted (xs ++ ys)
KeepsUndoubted-append [] ys first then = then
KeepsUndoubted-append (x ∷ xs) ys first then = (first.0, KeepsUndoubted-append xs ys first.1 then)

-- and each keeps it where they do together
pub KeepsUndoubted-split : (xs ys : List Fate) → KeepsUndoubted (xs ++ ys) → KeepsUndoubted xs × KeepsUndoubted ys
KeepsUndoubted-split [] ys all = (tt, all)
KeepsUndoubted-split (x ∷ xs) ys all = let rest = KeepsUndoubted-split xs ys all.1 in ((all.0, rest.0), rest.1)

-- what comes before some fate does not tell whether the last is kept
pub keeps_last-append : (xs : List Fate) (y : Fate) (ys : List Fate) → keeps_last (xs ++ y ∷ ys) ≡ keeps_last (y ∷ ys)
keeps_last-append [] y ys = refl
keeps_last-append (x ∷ []) y ys = refl
keeps_last-append (x ∷ z ∷ xs) y ys = keeps_last-append (z ∷ xs) y ys

-- where there are fates and they keep no message, the last is not kept
pub keeps_last-none : (f : Fate) (fs : List Fate) → messages_kept (f ∷ fs) ≡ [] → keeps_last (f ∷ fs) ≡ false
keeps_last-none f [] none = by f.kept none
  where
    by : (kept : Bool) → messages_kept (fate f.entry kept ∷ []) ≡ [] → kept ≡ false
    by true e = absurd cc
    by false e = refl
keeps_last-none f (g ∷ fs) none = keeps_last-none g fs (by f.kept none)
  where
    by : (kept : Bool) → messages_kept (fate f.entry kept ∷ g ∷ fs) ≡ [] → messages_kept (g ∷ fs) ≡ []
    by true e = absurd cc
    by false e = e

-- fates of two lists of entries joined, as those of the first and then those of the second
pub record Joined (fates : List Fate) (before later : List Entry) : Type 0 where
  pub first : List Fate
  pub then : List Fate
  pub all : fates ≡ first ++ then
  pub of_first : entries_of first ≡ before
  pub of_then : entries_of then ≡ later

-- fates of two lists of entries joined are such
pub joined_fates : (fates : List Fate) (before later : List Entry) → entries_of fates ≡ before ++ later → Joined fates before later
joined_fates fates [] later e = record { first = []; then = fates; all = refl; of_first = refl; of_then = e }
joined_fates [] (b ∷ before) later e = absurd cc
joined_fates (f ∷ fates) (b ∷ before) later e =
    let rest = joined_fates fates before later cc in
    record {
      first = f ∷ rest.first;
      then = rest.then;
      all = ap (λ (fs : List Fate). f ∷ fs) rest.all;
      of_first = cc;
      of_then = rest.of_then;
    }

-- fates of entries, cut at one of them
pub record Cut (fates : List Fate) (before : List Entry) (e : Entry) (later : List Entry) : Type 0 where
  pub first : List Fate
  pub kept : Bool
  pub rest : List Fate
  pub all : fates ≡ first ++ fate e kept ∷ rest
  pub of_first : entries_of first ≡ before
  pub of_rest : entries_of rest ≡ later

-- fates can be cut at each of their entries
pub cut_fates : (fates : List Fate) (before : List Entry) (e : Entry) (later : List Entry) → entries_of fates ≡ before ++ e ∷ later
    → Cut fates before e later
cut_fates fates before e later of =
    let parts = joined_fates fates before (e ∷ later) of in by parts.first parts.then parts.all parts.of_first parts.of_then
  where
    by : (first more : List Fate) → fates ≡ first ++ more → entries_of first ≡ before → entries_of more ≡ e ∷ later
        → Cut fates before e later
    by first [] all of_first of_more = absurd cc
    by first (f ∷ rest) all of_first of_more =
        let same : f.entry ≡ e = cc in
        record {
          first = first;
          kept = f.kept;
          rest = rest;
          all = all ∙ ap (λ (x : Entry). first ++ fate x f.kept ∷ rest) same;
          of_first = of_first;
          of_rest = cc;
        }

-- the mark of an entry does not tell which messages are kept
pub messages_kept-remarked : (first : List Fate) (e : Entry) (doubted kept : Bool) (rest : List Fate)
    → messages_kept (first ++ fate e kept ∷ rest) ≡ messages_kept (first ++ fate (entry doubted e.message) kept ∷ rest)
messages_kept-remarked first e doubted kept rest =
    messages_kept-append first (fate e kept ∷ rest) ∙ sym (messages_kept-append first (fate (entry doubted e.message) kept ∷ rest))

-- nor whether the last one is
pub keeps_last-remarked : (first : List Fate) (e : Entry) (doubted kept : Bool) (rest : List Fate)
    → keeps_last (first ++ fate e kept ∷ rest) ≡ keeps_last (first ++ fate (entry doubted e.message) kept ∷ rest)
keeps_last-remarked first e doubted kept rest =
    keeps_last-append first (fate e kept) rest ∙ by rest ∙ sym (keeps_last-append first (fate (entry doubted e.message) kept) rest)
  where
    by : (rest : List Fate) → keeps_last (fate e kept ∷ rest) ≡ keeps_last (fate (entry doubted e.message) kept ∷ rest)
    by [] = refl
    by (f ∷ rest) = refl

-- where one fate takes the place of another, what is in no doubt is kept as before
pub KeepsUndoubted-replaced : (first : List Fate) (f g : Fate) (rest : List Fate) → g.kept || g.entry.doubted ≡ true
    → KeepsUndoubted (first ++ f ∷ rest) → KeepsUndoubted (first ++ g ∷ rest)
KeepsUndoubted-replaced first f g rest fits all =
    let parts = KeepsUndoubted-split first (f ∷ rest) all in KeepsUndoubted-append first (g ∷ rest) parts.0 (fits, parts.1.1)

-- a message taken out of where it stands leaves those before it and those after it
pub remove-middle : {X : Type 0} (xs : List X) (x : X) (ys : List X) → remove (xs ++ x ∷ ys) (length xs) ≡ xs ++ ys
remove-middle [] x ys = refl
remove-middle {X = X} (z ∷ xs) x ys = ap (λ (rest : List X). z ∷ rest) (remove-middle xs x ys)
