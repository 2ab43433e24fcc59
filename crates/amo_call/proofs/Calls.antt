-- What files keep: their texts part by part, and one call to each.
use Rattle.std.proofs.Common.{◌≡◌, ℕ, ◌<◌, ◌^◌, List, ◌∷◌, ◌++◌, codes, refl, sym, ◌∙◌, ap, arith}
use Rattle.std.specs.Int.{IsInRange}
use Rattle.std.proofs.lemmas.List.{append_cancel_left, append_cancel_right}
use Rattle.std.proofs.lemmas.Fmt.{decimal_injective}
use Rattle.std.specs.Fmt.{decimal}
use Rattle.amo_packet.specs.Stream.{IsStream}
use Rattle.amo_text.specs.Hexadecimal.{hex}
use Rattle.amo_text.specs.Line.{Lacks}
use Rattle.amo_text.specs.Message.{IsMessage}
use Rattle.amo_text.proofs.Cuts.{one_cut}
use Rattle.amo_text.proofs.Fields.{letters}
use Rattle.amo_text.proofs.HexDigits.{hex-injective}
use Rattle.amo_door.specs.declared.claim.Claim.{Claim}
use Rattle.amo_call.specs.declared.kept.Kept.{Kept}
use Rattle.amo_call.specs.declared.kept.Progress.{Progress}
use Rattle.amo_call.specs.declared.kept.Progress.TheVariants.{Putting, Put, Taking, Taken, Done}
use Rattle.amo_call.specs.Kept.{IsClaim, IsKept, IsProgress, claim_text, kept_text, line_and_message, progress_name, progress_tail}
use Rattle.amo_call.proofs.Ends.{one_number, one_word}
use Rattle.amo_call.proofs.Steps.{claim_regroup, kept_regroup, two_regroup}

-- a space is no digit
pub space : ¬ (IsInRange 48 57 32)
space digit = omega arith

-- the file, part by part
pub kept_parts : (claim : Claim) (progress : Progress) → kept_text (record { claim = claim; progress = progress })
    ≡ codes "amo call 1 " ++ (progress_name progress ++ 32 ∷ (claim_text claim ++ 32 ∷ (progress_tail progress ++ codes "\n")))
kept_parts claim progress = kept_regroup (codes "amo call 1 ") (progress_name progress) (codes " ") (claim_text claim) (progress_tail progress) (codes "\n")

-- what a call names, part by part
pub claim_parts : (claim : Claim) (rest : List ℕ) → claim_text claim ++ rest
    ≡ decimal claim.stream ++ 32 ∷ (decimal claim.number ++ 32 ∷ (claim.life ++ 32 ∷ (claim.by ++ rest)))
claim_parts claim rest = claim_regroup (decimal claim.stream) (codes " ") (decimal claim.number) claim.life claim.by rest

pub name_lacks_space : (progress : Progress) → Lacks 32 (progress_name progress)
name_lacks_space (Putting message) = (letters (codes "putting") refl).0
name_lacks_space (Put line message) = (letters (codes "put") refl).0
name_lacks_space (Taking from) = (letters (codes "taking") refl).0
name_lacks_space (Taken line message) = (letters (codes "taken") refl).0
name_lacks_space (Done line) = (letters (codes "done") refl).0

-- a stream's number is small
pub small_stream : (stream : ℕ) → IsStream stream → stream < 2 ^ 64
small_stream stream known = omega (arith, known.1)

same_claim : (s t m n : ℕ) (v w x y : List ℕ) → s ≡ t → m ≡ n → v ≡ w → x ≡ y
    → (let a : Claim = record { stream = s; number = m; life = v; by = x } in a) ≡ record { stream = t; number = n; life = w; by = y }
same_claim s t m n v w x y e f g h = rw (e, f, g, h) refl

-- two claims have two texts
pub one_claim : (a b : Claim) (x y : List ℕ) → IsClaim a → IsClaim b → claim_text a ++ 32 ∷ x ≡ claim_text b ++ 32 ∷ y → (a ≡ b) × (x ≡ y)
one_claim a b x y p q e =
    let whole = sym (claim_parts a (32 ∷ x)) ∙ e ∙ claim_parts b (32 ∷ y) in
    let streams = one_number 32 a.stream b.stream (decimal a.number ++ 32 ∷ (a.life ++ 32 ∷ (a.by ++ 32 ∷ x))) (decimal b.number ++ 32 ∷ (b.life ++ 32 ∷ (b.by ++ 32 ∷ y)))
    space (small_stream a.stream p.stream) (small_stream b.stream q.stream) whole in
    let numbers = one_number 32 a.number b.number (a.life ++ 32 ∷ (a.by ++ 32 ∷ x)) (b.life ++ 32 ∷ (b.by ++ 32 ∷ y)) space p.number q.number streams.1 in
    let lives = one_word 32 a.life b.life (a.by ++ 32 ∷ x) (b.by ++ 32 ∷ y) refl p.life q.life numbers.1 in
    let callers = one_word 32 a.by b.by x y refl p.by q.by lives.1 in
    (same_claim a.stream b.stream a.number b.number a.life b.life a.by b.by streams.0 numbers.0 lives.0 callers.0, callers.1)

pub line_parts : (line : ℕ) (message : List ℕ) → line_and_message line message ≡ decimal line ++ 32 ∷ hex message
line_parts line message = two_regroup (decimal line) (codes " ") (hex message)

-- two lines with messages have two texts
pub one_line : (l m : ℕ) (x y : List ℕ) → l < 2 ^ 64 → m < 2 ^ 64 → IsMessage x → IsMessage y → line_and_message l x ≡ line_and_message m y → (l ≡ m) × (x ≡ y)
one_line l m x y p q known known' e =
    let numbers = one_number 32 l m (hex x) (hex y) space p q (sym (line_parts l x) ∙ e ∙ line_parts m y) in
    (numbers.0, hex-injective x y known.1 known'.1 numbers.1)

same_put : (l m : ℕ) (x y : List ℕ) → l ≡ m → x ≡ y → Put l x ≡ Put m y
same_put l m x y e f = rw (e, f) refl

same_taken : (l m : ℕ) (x y : List ℕ) → l ≡ m → x ≡ y → Taken l x ≡ Taken m y
same_taken l m x y e f = rw (e, f) refl

-- two states of a call have two names, or two tails
pub one_progress : (a b : Progress) → IsProgress a → IsProgress b → progress_name a ≡ progress_name b → progress_tail a ≡ progress_tail b → a ≡ b
one_progress (Putting x) (Putting y) p q e f = ap Putting (hex-injective x y p.1 q.1 f)
one_progress (Putting x) (Put m y) p q e f = cc
one_progress (Putting x) (Taking m) p q e f = cc
one_progress (Putting x) (Taken m y) p q e f = cc
one_progress (Putting x) (Done m) p q e f = cc
one_progress (Put l x) (Putting y) p q e f = cc
one_progress (Put l x) (Put m y) p q e f = let same = one_line l m x y p.0 q.0 p.1 q.1 f in same_put l m x y same.0 same.1
one_progress (Put l x) (Taking m) p q e f = cc
one_progress (Put l x) (Taken m y) p q e f = cc
one_progress (Put l x) (Done m) p q e f = cc
one_progress (Taking l) (Putting y) p q e f = cc
one_progress (Taking l) (Put m y) p q e f = cc
one_progress (Taking l) (Taking m) p q e f = ap Taking (decimal_injective l m p q f)
one_progress (Taking l) (Taken m y) p q e f = cc
one_progress (Taking l) (Done m) p q e f = cc
one_progress (Taken l x) (Putting y) p q e f = cc
one_progress (Taken l x) (Put m y) p q e f = cc
one_progress (Taken l x) (Taking m) p q e f = cc
one_progress (Taken l x) (Taken m y) p q e f = let same = one_line l m x y p.0 q.0 p.1 q.1 f in same_taken l m x y same.0 same.1
one_progress (Taken l x) (Done m) p q e f = cc
one_progress (Done l) (Putting y) p q e f = cc
one_progress (Done l) (Put m y) p q e f = cc
one_progress (Done l) (Taking m) p q e f = cc
one_progress (Done l) (Taken m y) p q e f = cc
one_progress (Done l) (Done m) p q e f = ap Done (decimal_injective l m p q f)

same_kept : (a b : Claim) (p q : Progress) → a ≡ b → p ≡ q → (let k : Kept = record { claim = a; progress = p } in k) ≡ record { claim = b; progress = q }
same_kept a b p q e f = rw (e, f) refl

-- two calls have two texts
pub one_kept : (a b : Kept) → IsKept a → IsKept b → kept_text a ≡ kept_text b → a ≡ b
one_kept a b known known' e =
    let tail = λ (kept : Kept). progress_tail kept.progress ++ codes "\n" in
    let fields = λ (kept : Kept). claim_text kept.claim ++ 32 ∷ tail kept in
    let whole = sym (kept_parts a.claim a.progress) ∙ e ∙ kept_parts b.claim b.progress in
    let names = append_cancel_left (codes "amo call 1 ") (progress_name a.progress ++ 32 ∷ fields a) (progress_name b.progress ++ 32 ∷ fields b) whole in
    let cut = one_cut 32 (progress_name a.progress) (fields a) (progress_name b.progress) (fields b) (name_lacks_space a.progress) (name_lacks_space b.progress) names in
    let claims = one_claim a.claim b.claim (tail a) (tail b) known.0 known'.0 cut.1 in
    let tails = append_cancel_right (progress_tail a.progress) (progress_tail b.progress) (codes "\n") claims.1 in
    same_kept a.claim b.claim a.progress b.progress claims.0 (one_progress a.progress b.progress known.1 known'.1 cut.0 tails)
