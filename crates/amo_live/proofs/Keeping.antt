-- Lines of messages without an answer, as they are kept and dropped.
use Rattle.std.proofs.Common.{◌≡◌, ℕ, zero, suc, ◌+◌, ◌-◌, ◌<◌, ◌≤◌, Bool, true, false, if◌then◌else◌, List, [], ◌∷◌, ◌++◌, length, get_or, slice_set, drop, refl, sym, ap, subst, ◌∙◌, append_assoc, append-nil, arith}
use Rattle.std.specs.List.{filter}
use Rattle.std.proofs.lemmas.Grind.{flat_map-append}
use Rattle.std.proofs.lemmas.List.{set_past}
use Rattle.amo_lines.specs.Backlog.{kept_on}
use Rattle.amo_live.specs.Service.{doubtful_to}
use Rattle.amo_live.specs.Unanswered.{Kept, KeptLines, ended, is_put, keeping, kept_of, left_by, others, text_on}

-- where there is no such stream
pub not_kept : (stream : ℕ) (line : Kept) (kept : KeptLines) → (1 ≤ stream → length kept < stream) → kept ≡ keeping stream line kept
not_kept zero line kept none = refl
not_kept (suc place) line kept none =
    let far : length kept < suc place = none (omega arith) in
    sym (set_past kept place (get_or kept place [] ++ line ∷ []) (omega arith))

pub not_ended : (stream messages : ℕ) (kept : KeptLines) → (1 ≤ stream → length kept < stream) → kept ≡ ended stream messages kept
not_ended zero messages kept none = refl
not_ended (suc place) messages kept none =
    let far : length kept < suc place = none (omega arith) in
    sym (set_past kept place (left_by messages (get_or kept place [])) (omega arith))

-- none is kept of any stream
pub none_kept : (xs : KeptLines) → ((at : ℕ) → get_or xs at [] ≡ []) → (stream : ℕ) → kept_on stream xs ≡ []
none_kept xs none zero = refl
none_kept xs none (suc at) = none at

-- none is kept of one stream more
pub none_kept_more : (xs : KeptLines) (x : List Kept) → x ≡ [] → ((at : ℕ) → get_or xs at [] ≡ []) → (at : ℕ) → get_or (xs ++ x ∷ []) at [] ≡ []
none_kept_more [] x e none zero = e
none_kept_more [] x e none (suc at) = refl
none_kept_more (y ∷ ys) x e none zero = none 0
none_kept_more (y ∷ ys) x e none (suc at) = none_kept_more ys x e (λ b. none (suc b)) at

same_in : (xs : KeptLines) (place : ℕ) (one other : List Kept) → place < length xs → get_or xs place one ≡ get_or xs place other
same_in [] place one other few = absurd (omega arith)
same_in (x ∷ xs) zero one other few = refl
same_in (x ∷ xs) (suc place) one other few = same_in xs place one other (omega (arith, few))

module _ (xs : KeptLines) (place : ℕ) (old new : List Kept) (few : place < length xs) (is : old ≡ get_or xs place old) where
  here : get_or xs place [] ≡ old
  here = same_in xs place [] old few ∙ sym is

  -- one more is kept
  pub keeps : (line : Kept) → new ≡ old ++ line ∷ [] → slice_set xs place new ≡ keeping (suc place) line xs
  keeps line made = ap (slice_set xs place) (made ∙ ap (λ l. l ++ line ∷ []) (sym here))

  -- a handshake ended
  pub ends : (messages : ℕ) → new ≡ left_by messages old → slice_set xs place new ≡ ended (suc place) messages xs
  ends messages made = ap (slice_set xs place) (made ∙ ap (left_by messages) (sym here))

-- what is left out tells of no put
puts_with : (left_out : ℕ) (line : Kept) (rest : List Kept) (put : Bool) → is_put line ≡ put → filter is_put (kept_of (suc left_out) rest) ≡ filter is_put rest
    → filter is_put (kept_of left_out rest) ≡ filter is_put rest → filter is_put (if put then (line ∷ kept_of (suc left_out) rest) else kept_of left_out rest) ≡ (if put then (line ∷ filter is_put rest) else filter is_put rest)
puts_with left_out line rest true put stays goes =
    ap (λ (b : Bool). if b then (line ∷ filter is_put (kept_of (suc left_out) rest)) else filter is_put (kept_of (suc left_out) rest)) put ∙ ap (λ l. line ∷ l) stays
puts_with left_out line rest false put stays goes = goes

pub same_puts : (left_out : ℕ) (lines : List Kept) → filter is_put (kept_of left_out lines) ≡ filter is_put lines
same_puts zero lines = refl
same_puts (suc left_out) [] = refl
same_puts (suc left_out) (line ∷ rest) = puts_with left_out line rest (is_put line) refl (same_puts (suc left_out) rest) (same_puts left_out rest)

-- where all that tells of a handshake is left out, the puts are left
all_with : (left_out : ℕ) (line : Kept) (rest : List Kept) (put : Bool) → (others rest ≤ suc left_out → kept_of (suc left_out) rest ≡ filter is_put rest) → (others rest ≤ left_out → kept_of left_out rest ≡ filter is_put rest)
    → (if put then others rest else suc (others rest)) ≤ suc left_out → (if put then (line ∷ kept_of (suc left_out) rest) else kept_of left_out rest) ≡ (if put then (line ∷ filter is_put rest) else filter is_put rest)
all_with left_out line rest true stays goes few = ap (λ l. line ∷ l) (stays few)
all_with left_out line rest false stays goes few = goes (omega (arith, few))

none_with : (line : Kept) (rest : List Kept) (put : Bool) → (others rest ≤ 0 → rest ≡ filter is_put rest) → (if put then others rest else suc (others rest)) ≤ 0 → line ∷ rest ≡ (if put then (line ∷ filter is_put rest) else filter is_put rest)
none_with line rest true stays few = ap (λ l. line ∷ l) (stays few)
none_with line rest false stays few = absurd (omega (arith, few))

pub only_puts : (left_out : ℕ) (lines : List Kept) → others lines ≤ left_out → kept_of left_out lines ≡ filter is_put lines
only_puts zero [] few = refl
only_puts zero (line ∷ rest) few = none_with line rest (is_put line) (only_puts zero rest) few
only_puts (suc left_out) [] few = refl
only_puts (suc left_out) (line ∷ rest) few = all_with left_out line rest (is_put line) (only_puts (suc left_out) rest) (only_puts left_out rest) few

-- lines behind others: of these so many fewer are left out
behind_with : (left_out : ℕ) (line : Kept) (rest more : List Kept) (put : Bool) → kept_of (suc left_out) (rest ++ more) ≡ kept_of (suc left_out) rest ++ kept_of (suc left_out - others rest) more
    → kept_of left_out (rest ++ more) ≡ kept_of left_out rest ++ kept_of (left_out - others rest) more
    → (if put then (line ∷ kept_of (suc left_out) (rest ++ more)) else kept_of left_out (rest ++ more))
    ≡ (if put then (line ∷ kept_of (suc left_out) rest) else kept_of left_out rest) ++ kept_of (suc left_out - (if put then others rest else suc (others rest))) more
behind_with left_out line rest more true stays goes = ap (λ l. line ∷ l) stays
behind_with left_out line rest more false stays goes =
    let fewer : suc left_out - suc (others rest) ≡ left_out - others rest = omega arith in
    goes ∙ ap (λ n. kept_of left_out rest ++ kept_of n more) (sym fewer)

pub kept_behind : (left_out : ℕ) (lines more : List Kept) → kept_of left_out (lines ++ more) ≡ kept_of left_out lines ++ kept_of (left_out - others lines) more
kept_behind zero lines more =
    let none : 0 - others lines ≡ 0 = omega arith in
    ap (λ n. lines ++ kept_of n more) (sym none)
kept_behind (suc left_out) [] more =
    let all : suc left_out - 0 ≡ suc left_out = omega arith in
    ap (λ n. kept_of n more) (sym all)
kept_behind (suc left_out) (line ∷ rest) more = behind_with left_out line rest more (is_put line) (kept_behind (suc left_out) rest more) (kept_behind left_out rest more)

-- one line more that tells of a handshake, or of none
others_with : (one : Bool) (some more last : ℕ) → more ≡ some + last → (if one then more else suc more) ≡ (if one then some else suc some) + last
others_with true some more last is = is
others_with false some more last is = omega (arith, is)

none_more : (n : ℕ) → n ≡ 0 + n
none_more n = omega arith

pub others_more : (lines : List Kept) (line : Kept) → others (lines ++ line ∷ []) ≡ others lines + (if is_put line then 0 else 1)
others_more [] line = none_more (if is_put line then 0 else 1)
others_more (first ∷ rest) line = others_with (is_put first) (others rest) (others (rest ++ line ∷ [])) (if is_put line then 0 else 1) (others_more rest line)

pub one_kept : (left_out : ℕ) (lines : List Kept) (line : Kept) → left_out ≤ others lines → kept_of left_out (lines ++ line ∷ []) ≡ kept_of left_out lines ++ line ∷ []
one_kept left_out lines line few =
    let none : left_out - others lines ≡ 0 = omega (arith, few) in
    kept_behind left_out lines (line ∷ []) ∙ ap (λ n. kept_of left_out lines ++ kept_of n (line ∷ [])) none

nothing_kept : (left_out : ℕ) → kept_of left_out [] ≡ []
nothing_kept zero = refl
nothing_kept (suc left_out) = refl

none_of : (left_out : ℕ) (line : Kept) → is_put line ≡ false → 0 < left_out → kept_of left_out (line ∷ []) ≡ []
none_of zero line other some = absurd (omega (arith, some))
none_of (suc left_out) line other some = ap (λ (b : Bool). if b then (line ∷ kept_of (suc left_out) []) else kept_of left_out []) other ∙ nothing_kept left_out

put_of : (left_out : ℕ) (line : Kept) → is_put line ≡ true → kept_of left_out (line ∷ []) ≡ line ∷ []
put_of zero line put = refl
put_of (suc left_out) line put = ap (λ (b : Bool). if b then (line ∷ kept_of (suc left_out) []) else kept_of left_out []) put ∙ ap (λ l. line ∷ l) (nothing_kept (suc left_out))

module _ (left_out left : ℕ) (lines longer : List Kept) (line : Kept) (first before : List ℕ) (more : longer ≡ lines ++ line ∷ []) (so_far : before ≡ first ++ text_on (kept_of left_out lines)) (fewer : left ≡ left_out - others lines) where
  tells : others longer ≡ others lines + (if is_put line then 0 else 1)
  tells = ap others more ∙ others_more lines line

  all : kept_of left_out longer ≡ kept_of left_out lines ++ kept_of left (line ∷ [])
  all = ap (kept_of left_out) more ∙ (kept_behind left_out lines (line ∷ []) ∙ ap (λ n. kept_of left_out lines ++ kept_of n (line ∷ [])) (sym fewer))

  -- a line is left out
  pub leaves_out : (new : ℕ) → is_put line ≡ false → 0 < left → new ≡ left - 1 → (before ≡ first ++ text_on (kept_of left_out longer)) × (new ≡ left_out - others longer)
  leaves_out new other some is =
      let one : others longer ≡ others lines + 1 = tells ∙ ap (λ (b : Bool). others lines + (if b then 0 else 1)) other in
      let same : kept_of left_out longer ≡ kept_of left_out lines = all ∙ (ap (λ l. kept_of left_out lines ++ l) (none_of left line other some) ∙ append-nil (kept_of left_out lines)) in
      (so_far ∙ ap (λ l. first ++ text_on l) (sym same), omega (arith, one, is, fewer))

  appended : (text : List ℕ) → kept_of left (line ∷ []) ≡ line ∷ [] → text ≡ before ++ line.text → text ≡ first ++ text_on (kept_of left_out longer)
  appended text kept is =
      let one : text_on (kept_of left_out longer) ≡ text_on (kept_of left_out lines) ++ line.text =
      ap text_on (all ∙ ap (λ l. kept_of left_out lines ++ l) kept)
      ∙ (flat_map-append (λ (l : Kept). l.text) (kept_of left_out lines) (line ∷ []) ∙ ap (λ t. text_on (kept_of left_out lines) ++ t) (append-nil line.text)) in
      is ∙ (ap (λ t. t ++ line.text) so_far ∙ (append_assoc first (text_on (kept_of left_out lines)) line.text ∙ ap (λ t. first ++ t) (sym one)))

  -- the text of one is appended that tells of a put
  pub appends_put : (text : List ℕ) → is_put line ≡ true → text ≡ before ++ line.text → (text ≡ first ++ text_on (kept_of left_out longer)) × (left ≡ left_out - others longer)
  appends_put text put is =
      let none : others longer ≡ others lines + 0 = tells ∙ ap (λ (b : Bool). others lines + (if b then 0 else 1)) put in
      (appended text (put_of left line put) is, omega (arith, none, fewer))

  -- or behind those that are left out
  pub appends_later : (text : List ℕ) → left ≡ 0 → text ≡ before ++ line.text → (text ≡ first ++ text_on (kept_of left_out longer)) × (left ≡ left_out - others longer)
  appends_later text none is =
      let kept : kept_of left (line ∷ []) ≡ line ∷ [] = ap (λ n. kept_of n (line ∷ [])) none in
      (appended text kept is, omega (arith, none, fewer, tells))

-- the text of a queue's two parts is appended
pub both_parts : (left_out left : ℕ) (front behind lines : List Kept) (first middle last : List ℕ) → front ++ behind ≡ lines → left ≡ left_out - others front
    → middle ≡ first ++ text_on (kept_of left_out front) → last ≡ middle ++ text_on (kept_of left behind) → last ≡ first ++ text_on (kept_of left_out lines)
both_parts left_out left front behind lines first middle last are fewer one two =
    let all : text_on (kept_of left_out lines) ≡ text_on (kept_of left_out front) ++ text_on (kept_of left behind) =
    ap (λ l. text_on (kept_of left_out l)) (sym are) ∙ (ap text_on (kept_behind left_out front behind ∙ ap (λ n. kept_of left_out front ++ kept_of n behind) (sym fewer))
    ∙ flat_map-append (λ (l : Kept). l.text) (kept_of left_out front) (kept_of left behind)) in
    two ∙ (ap (λ t. t ++ text_on (kept_of left behind)) one ∙ (append_assoc first (text_on (kept_of left_out front)) (text_on (kept_of left behind)) ∙ ap (λ t. first ++ t) (sym all)))

-- there are no more of them than lines
one_with : (put : Bool) (some many : ℕ) → some ≤ many → (if put then some else suc some) ≤ suc many
one_with true some many few = omega (arith, few)
one_with false some many few = omega (arith, few)

pub others_few : (lines : List Kept) → others lines ≤ length lines
others_few [] = omega arith
others_few (line ∷ rest) = one_with (is_put line) (others rest) (length rest) (others_few rest)

-- puts are dropped from the front
pub put_dropped : (left new : ℕ) (line : Kept) (tail : List Kept) → is_put line ≡ true → left ≡ suc new → drop left (filter is_put (line ∷ tail)) ≡ drop new (filter is_put tail)
put_dropped left new line tail put is =
    ap (λ n. drop n (filter is_put (line ∷ tail))) is ∙ ap (λ (b : Bool). drop (suc new) (if b then (line ∷ filter is_put tail) else filter is_put tail)) put

pub other_dropped : (left : ℕ) (line : Kept) (tail : List Kept) → is_put line ≡ false → drop left (filter is_put (line ∷ tail)) ≡ drop left (filter is_put tail)
other_dropped left line tail other = ap (λ (b : Bool). drop left (if b then (line ∷ filter is_put tail) else filter is_put tail)) other

pub none_left : (n : ℕ) → drop n (filter is_put []) ≡ []
none_left zero = refl
none_left (suc n) = refl

-- one stream more was looked at, which is in doubt or not
pub one_doubtful : (doubts : ℕ → Bool) (place stream : ℕ) (found new : List ℕ) → stream ≡ suc place → found ≡ doubtful_to doubts place → doubts stream ≡ true → new ≡ found ++ stream ∷ [] → new ≡ doubtful_to doubts stream
one_doubtful doubts place stream found new is so_far doubtful made =
    subst (λ (n : ℕ). doubts n ≡ true → new ≡ found ++ n ∷ [] → new ≡ doubtful_to doubts n) (sym is)
    (λ d m. m ∙ (ap (λ (l : List ℕ). l ++ suc place ∷ []) so_far ∙ ap (λ (b : Bool). doubtful_to doubts place ++ (if b then (suc place ∷ []) else [])) (sym d))) doubtful made

pub none_doubtful : (doubts : ℕ → Bool) (place stream : ℕ) (found : List ℕ) → stream ≡ suc place → found ≡ doubtful_to doubts place → doubts stream ≡ false → found ≡ doubtful_to doubts stream
none_doubtful doubts place stream found is so_far settled =
    subst (λ (n : ℕ). doubts n ≡ false → found ≡ doubtful_to doubts n) (sym is)
    (λ d. so_far ∙ (sym (append-nil (doubtful_to doubts place)) ∙ ap (λ (b : Bool). doubtful_to doubts place ++ (if b then (suc place ∷ []) else [])) (sym d))) settled
