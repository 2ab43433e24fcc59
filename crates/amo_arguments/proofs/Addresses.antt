-- Texts that are addresses, and texts that are none.
use Rattle.std.proofs.Common.{◌≡◌, ◌≢◌, ◌∙◌, ℕ, ◌+◌, ◌≤◌, List, [], ◌∷◌, ◌++◌, length, ap, append_assoc, arith, length-append, refl, sym}
use Rattle.std.specs.Fmt.{decimal}
use Rattle.amo_text.specs.Line.{Lacks}
use Rattle.amo_text.proofs.Cuts.{Lacks-decimal, no_cut}
use Rattle.amo_arguments.specs.Chosen.{IsAddress}

-- a byte further behind
pub further : (byte : ℕ) (text front rest more behind : List ℕ) → text ≡ front ++ byte ∷ rest → rest ≡ more ++ byte ∷ behind → text ≡ (front ++ byte ∷ more) ++ byte ∷ behind
further byte text front rest more behind is then = is ∙ (ap (λ r. front ++ byte ∷ r) then ∙ sym (append_assoc front (byte ∷ more) (byte ∷ behind)))

-- a text has one last cut
last_cut : (byte : ℕ) (a x b y : List ℕ) → Lacks byte x → Lacks byte y → a ++ byte ∷ x ≡ b ++ byte ∷ y → (a ≡ b) × (x ≡ y)
last_cut byte [] x [] y p q e = (refl, cc)
last_cut byte [] x (c ∷ b) y p q e = let tail : x ≡ b ++ byte ∷ y = cc in absurd (no_cut byte x b y p tail)
last_cut byte (c ∷ a) x [] y p q e = let tail : y ≡ a ++ byte ∷ x = cc in absurd (no_cut byte y a x q tail)
last_cut byte (c ∷ a) x (d ∷ b) y p q e =
    let head : c ≡ d = cc in
    let tail : a ++ byte ∷ x ≡ b ++ byte ∷ y = cc in
    let rest = last_cut byte a x b y p q tail in
    (let whole : c ∷ a ≡ d ∷ b = cc in whole, rest.1)

-- behind the last colon of an address stands its port
stands_last : (least : ℕ) (text front rest : List ℕ) → text ≡ front ++ 58 ∷ rest → Lacks 58 rest → (h : IsAddress least text) → (front ≡ h.0) × (rest ≡ decimal h.1)
stands_last least text front rest is lacks h =
    last_cut 58 front rest h.0 (decimal h.1) lacks (Lacks-decimal 58 h.1 (omega (arith, h.5)) (λ digit. omega arith)) (sym is ∙ h.2)

-- a text without a colon is no address
pub no_colon : (least : ℕ) (text : List ℕ) → Lacks 58 text → ¬ (IsAddress least text)
no_colon least text lacks h = no_cut 58 text h.0 (decimal h.1) lacks h.2

-- nor is one that spells no such port
pub no_port : (least : ℕ) (text front rest : List ℕ) → text ≡ front ++ 58 ∷ rest → Lacks 58 rest → ((n : ℕ) → least ≤ n → n ≤ 65535 → rest ≢ decimal n) → ¬ (IsAddress least text)
no_port least text front rest is lacks none h = none h.1 h.4 h.5 (stands_last least text front rest is lacks h).1

empty_front : (text front rest : List ℕ) → text ≡ front ++ 58 ∷ rest → length text ≤ length rest + 1 → front ≡ []
empty_front text [] rest is short = refl
empty_front text (b ∷ front) rest is short =
    let long : length text ≡ length (b ∷ front) + length (58 ∷ rest) = ap length is ∙ length-append (b ∷ front) (58 ∷ rest) in
    absurd (omega arith)

-- nor one in which nothing stands before the colon
pub no_host : (least : ℕ) (text front rest : List ℕ) → text ≡ front ++ 58 ∷ rest → Lacks 58 rest → length text ≤ length rest + 1 → ¬ (IsAddress least text)
no_host least text front rest is lacks short h =
    h.3 (sym (stands_last least text front rest is lacks h).0 ∙ empty_front text front rest is short)
