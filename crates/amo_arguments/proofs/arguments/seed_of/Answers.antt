use Rattle.std.proofs.Common.{◌≡◌, ◌∙◌, ◌++◌, ◌≤◌, [], Some, ap, codes, drop, length, rules, subst, sym, take}
use Rattle.std.proofs.lemmas.List.{append-nil, drop_all, length-take-le, take-append-drop}
use Rattle.clap.specs.Words.{first_of, found_of, rows_of}
use Rattle.amo_text.specs.Hexadecimal.{hex}
use Rattle.amo_arguments.proofs.Matched.{same_text}
use Rattle.amo_arguments.proofs.arguments.seed_of.Goals as goal

pub returns-in-Some-eq32-clause-seed : goal.returns-in-Some-eq32-clause-seed
returns-in-Some-eq32-clause-seed c =
    let seed = c.read_hex.new.room in
    let count = c.in-Some-eq32.field-0-test in
    let rest : drop 32 seed ≡ drop 32 c.as_mut_slice.result.now = subst (λ n. drop n seed ≡ drop n c.as_mut_slice.result.now) count c.in-Some-eq32.ensures.rest in
    let none_left : drop 32 seed ≡ [] = rest ∙ drop_all 32 c.as_mut_slice.result.now (search rules) in
    let whole : take 32 seed ≡ seed = sym (append-nil (take 32 seed)) ∙ (ap (λ xs. take 32 seed ++ xs) (sym none_left) ∙ take-append-drop 32 seed) in
    let bytes : c.in-Some.text.now ≡ c.as_bytes.result.now = search rules in
    let found : c.as_bytes.result.now ≡ hex (take 32 seed) = subst (λ n. c.as_bytes.result.now ≡ hex (take n seed)) count c.in-Some-eq32.ensures.found in
    c.in-Some.ensures.found ∙ ap Some (bytes ∙ (found ∙ ap hex whole))

pub returns-in-Some-read_hex-clause-none : goal.returns-in-Some-read_hex-clause-none
returns-in-Some-read_hex-clause-none c seed are_bytes size has =
    let n = c.in-Some-read_hex.field-0 in
    let room = c.read_hex.new.room in
    let bytes : c.in-Some.text.now ≡ c.as_bytes.result.now = search rules in
    let first : first_of (codes "seed") (rows_of (found_of c.args.matches.now)) ≡ Some (hex (take n room)) = c.in-Some.ensures.found ∙ ap Some (bytes ∙ c.in-Some-read_hex.ensures.found) in
    let is : seed ≡ take n room = c.hex_is_injective.ensures seed (take n room) are_bytes c.in-Some-read_hex.ensures.bytes (same_text _ _ _ has first) in
    let count : length (take n room) ≡ n = length-take-le n room c.in-Some-read_hex.ensures.within in
    let all : n ≡ 32 = sym count ∙ (ap length (sym is) ∙ size) in
    absurd (search rules)

pub returns-in-None-clause-none : goal.returns-in-None-clause-none
returns-in-None-clause-none c seed are_bytes size has =
    let bytes : c.in-Some.text.now ≡ c.as_bytes.result.now = search rules in
    let first : first_of (codes "seed") (rows_of (found_of c.args.matches.now)) ≡ Some c.as_bytes.result.now = c.in-Some.ensures.found ∙ ap Some bytes in
    let short : length seed ≤ length c.as_mut_slice.result.now = search rules in
    c.in-None.ensures.none seed are_bytes short (same_text _ _ _ first has)
