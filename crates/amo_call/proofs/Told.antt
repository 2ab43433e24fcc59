-- What answers tell: their texts part by part, and one value to each.
use Rattle.std.proofs.Common.{◌≡◌, ℕ, ◌<◌, ◌^◌, Bool, if◌then◌else◌, eqb, List, [], ◌∷◌, ◌++◌, get_or, codes, refl, sym, ◌∙◌, ap, arith}
use Rattle.std.proofs.lemmas.List.{append_cancel_left}
use Rattle.std.specs.Fmt.{decimal}
use Rattle.std.specs.Int.{IsInRange}
use Rattle.amo_door.specs.Answer.{fate_word, outcome_body, place_members}
use Rattle.amo_door.specs.declared.answer.Fate.{Fate}
use Rattle.amo_door.specs.declared.answer.Fate.TheVariants as fate
use Rattle.amo_door.specs.declared.claim.EventPlace.{EventPlace}
use Rattle.amo_door.specs.Word.{IsWord}
use Rattle.amo_call.specs.Answer.{IsEventPlace, event_members, last_name, state_members}
use Rattle.amo_call.proofs.Ends.{one_number, one_word}
use Rattle.amo_call.proofs.Steps.{conflict_regroup, event_regroup, object_regroup, outcome_regroup, place_regroup, state_regroup, three_regroup}

-- a comma and a brace are no digits
pub comma : ¬ (IsInRange 48 57 44)
comma digit = omega arith

pub brace : ¬ (IsInRange 48 57 125)
brace digit = omega arith

-- the front of an object about a message, part by part
pub place_parts : (life : List ℕ) (stream number : ℕ) (rest : List ℕ) → place_members life stream number ++ rest
    ≡ codes "{\"life\":\"" ++ (life ++ 34 ∷ (codes ",\"stream\":" ++ (decimal stream ++ 44 ∷ (codes "\"number\":" ++ (decimal number ++ rest)))))
place_parts life stream number rest = place_regroup (codes "{") (codes "\"life\":\"") life (codes "\"") (codes ",\"stream\":") (decimal stream) (codes ",\"number\":") (decimal number) rest

-- where a put stands, part by part
pub event_parts : (place : EventPlace) → event_members place ≡ 44 ∷ (codes "\"position\":" ++ (decimal place.position ++ 44 ∷ (codes "\"line\":" ++ (decimal place.line ++ codes "}"))))
event_parts place = event_regroup (codes ",\"position\":") (decimal place.position) (codes ",\"line\":") (decimal place.line) (codes "}")

-- the object about what became of a message: its place, and the word
pub outcome_parts : (life : List ℕ) (stream number : ℕ) (what : Fate) → outcome_body life stream number what
    ≡ place_members life stream number ++ 44 ∷ (codes "\"outcome\":\"" ++ fate_word what ++ codes "\"}")
outcome_parts life stream number what = outcome_regroup (place_members life stream number) (codes ",\"outcome\":\"") (fate_word what) (codes "\"}")

-- the members of how a stream is, part by part
pub state_parts : (life : List ℕ) (stream : ℕ) (puts : Bool) (last : ℕ) (rest : List ℕ) → state_members life stream puts last ++ rest
    ≡ codes "\"life\":\"" ++ (life ++ 34 ∷ (codes ",\"stream\":" ++ (decimal stream ++ (last_name puts ++ (decimal last ++ 44 ∷ rest)))))
state_parts life stream puts last rest = state_regroup (codes "\"life\":\"") life (codes "\"") (codes ",\"stream\":") (decimal stream) (last_name puts) (decimal last) (codes ",") rest

same_place : (p q l m : ℕ) → p ≡ q → l ≡ m → (let a : EventPlace = record { position = p; line = l } in a) ≡ record { position = q; line = m }
same_place p q l m e f = rw (e, f) refl

-- two places have two texts
pub one_event_place : (a b : EventPlace) → IsEventPlace a → IsEventPlace b → event_members a ≡ event_members b → a ≡ b
one_event_place a b p q e =
    let whole = sym (event_parts a) ∙ e ∙ event_parts b in
    let first = append_cancel_left (codes ",\"position\":") (decimal a.position ++ 44 ∷ (codes "\"line\":" ++ (decimal a.line ++ codes "}"))) (decimal b.position ++ 44 ∷ (codes "\"line\":" ++ (decimal b.line ++ codes "}"))) whole in
    let position = one_number 44 a.position b.position (codes "\"line\":" ++ (decimal a.line ++ codes "}")) (codes "\"line\":" ++ (decimal b.line ++ codes "}")) comma p.0 q.0 first in
    let second = append_cancel_left (codes "\"line\":") (decimal a.line ++ codes "}") (decimal b.line ++ codes "}") position.1 in
    let line = one_number 125 a.line b.line [] [] brace p.1 q.1 second in
    same_place a.position b.position a.line b.line position.0 line.0

-- the word of a fate tells it, by its letters
abbrev fate_of : List ℕ → Fate
fate_of word =
    if eqb (get_or word 0 0) 111 then fate.Open
    else (if eqb (get_or word 0 0) 117 then fate.Unknown
    else (if eqb (get_or word 0 0) 115 then fate.Settled
    else (if eqb (get_or word 0 0) 110 then fate.Never
    else (if eqb (get_or word 2 0) 116 then fate.Got else fate.Gone))))

fate_of-word : (what : Fate) (rest : List ℕ) → fate_of (fate_word what ++ rest) ≡ what
fate_of-word fate.Got rest = refl
fate_of-word fate.Gone rest = refl
fate_of-word fate.Open rest = refl
fate_of-word fate.Unknown rest = refl
fate_of-word fate.Settled rest = refl
fate_of-word fate.Never rest = refl

pub one_fate : (a b : Fate) (x y : List ℕ) → fate_word a ++ x ≡ fate_word b ++ y → a ≡ b
one_fate a b x y e = sym (fate_of-word a x) ∙ ap fate_of e ∙ fate_of-word b y

-- two last numbers of a stream have two texts
pub one_number_behind : (stream : ℕ) (puts : Bool) (last last' : ℕ) (x y : List ℕ) → last < 2 ^ 64 → last' < 2 ^ 64
    → codes ",\"stream\":" ++ (decimal stream ++ (last_name puts ++ (decimal last ++ 44 ∷ x))) ≡ codes ",\"stream\":" ++ (decimal stream ++ (last_name puts ++ (decimal last' ++ 44 ∷ y))) → last ≡ last'
one_number_behind stream puts last last' x y small small' e =
    let streams = append_cancel_left (codes ",\"stream\":") (decimal stream ++ (last_name puts ++ (decimal last ++ 44 ∷ x))) (decimal stream ++ (last_name puts ++ (decimal last' ++ 44 ∷ y))) e in
    let names = append_cancel_left (decimal stream) (last_name puts ++ (decimal last ++ 44 ∷ x)) (last_name puts ++ (decimal last' ++ 44 ∷ y)) streams in
    let numbers = append_cancel_left (last_name puts) (decimal last ++ 44 ∷ x) (decimal last' ++ 44 ∷ y) names in
    (one_number 44 last last' x y comma small small' numbers).0

-- what stands behind a life
abbrev pub behind_life : ℕ → Bool → ℕ → List ℕ → List ℕ
behind_life stream puts last rest = codes ",\"stream\":" ++ (decimal stream ++ (last_name puts ++ (decimal last ++ 44 ∷ rest)))

-- two states of a stream have two texts
pub one_state : (life life' : List ℕ) (stream : ℕ) (puts : Bool) (last last' : ℕ) (x y : List ℕ) → IsWord life → IsWord life' → last < 2 ^ 64 → last' < 2 ^ 64
    → state_members life stream puts last ++ x ≡ state_members life' stream puts last' ++ y → (life ≡ life') × (last ≡ last')
one_state life life' stream puts last last' x y p q small small' e =
    let whole = sym (state_parts life stream puts last x) ∙ e ∙ state_parts life' stream puts last' y in
    let words = append_cancel_left (codes "\"life\":\"") (life ++ 34 ∷ behind_life stream puts last x) (life' ++ 34 ∷ behind_life stream puts last' y) whole in
    let lives = one_word 34 life life' (behind_life stream puts last x) (behind_life stream puts last' y) refl p q words in
    (lives.0, one_number_behind stream puts last last' x y small small' lives.1)

-- two last numbers of a stream, in one life, have two texts
pub one_last : (life : List ℕ) (stream : ℕ) (puts : Bool) (last last' : ℕ) (x y : List ℕ) → last < 2 ^ 64 → last' < 2 ^ 64
    → state_members life stream puts last ++ x ≡ state_members life stream puts last' ++ y → last ≡ last'
one_last life stream puts last last' x y small small' e =
    let whole = sym (state_parts life stream puts last x) ∙ e ∙ state_parts life stream puts last' y in
    let words = append_cancel_left (codes "\"life\":\"") (life ++ 34 ∷ behind_life stream puts last x) (life ++ 34 ∷ behind_life stream puts last' y) whole in
    let quotes = append_cancel_left life (34 ∷ behind_life stream puts last x) (34 ∷ behind_life stream puts last' y) words in
    one_number_behind stream puts last last' x y small small' (append_cancel_left (codes "\"") (behind_life stream puts last x) (behind_life stream puts last' y) quotes)

-- an object with a state in front of it, and what is told of a conflict, part by part
pub object_parts : (life : List ℕ) (stream : ℕ) (puts : Bool) (last : ℕ) (rest : List ℕ) → codes "{" ++ state_members life stream puts last ++ rest
    ≡ codes "{\"life\":\"" ++ (life ++ 34 ∷ behind_life stream puts last rest)
object_parts life stream puts last rest = object_regroup (codes "{") (codes "\"life\":\"") life (codes "\"") (codes ",\"stream\":") (decimal stream) (last_name puts) (decimal last) (codes ",") rest

pub conflict_parts : (sentence life : List ℕ) (stream : ℕ) (puts : Bool) (last : ℕ) (rest : List ℕ)
    → codes "{\"error\":\"conflict\",\"text\":\"" ++ sentence ++ codes "\"," ++ state_members life stream puts last ++ rest
    ≡ codes "{\"error\":\"conflict\",\"text\":\"" ++ (sentence ++ 34 ∷ (codes ",\"life\":\"" ++ (life ++ 34 ∷ behind_life stream puts last rest)))
conflict_parts sentence life stream puts last rest =
    conflict_regroup (codes "{\"error\":\"conflict\",\"text\":\"") sentence (codes "\",") (codes "\"life\":\"") life (codes "\"") (codes ",\"stream\":") (decimal stream) (last_name puts) (decimal last) (codes ",") rest

pub refusal_parts : (word rest : List ℕ) → codes "{\"error\":\"" ++ word ++ codes "\"" ++ rest ≡ codes "{\"error\":\"" ++ (word ++ 34 ∷ rest)
refusal_parts word rest = three_regroup (codes "{\"error\":\"") word (codes "\"") rest
