use Rattle.std.proofs.Common.{◌≡◌, ℕ, List, ◌∷◌, ◌++◌, codes, refl, sym, ◌∙◌}
use Rattle.std.proofs.lemmas.List.{append_cancel_left}
use Rattle.amo_door.specs.Answer.{fate_word, place_members}
use Rattle.amo_text.proofs.Cuts.{one_cut}
use Rattle.amo_call.specs.Answer.{event_members}
use Rattle.amo_call.specs.declared.answer.StreamState.{StreamState}
use Rattle.amo_call.proofs.Ends.{one_word}
use Rattle.amo_call.proofs.Told.{behind_life, conflict_parts, object_parts, one_event_place, one_fate, one_number_behind, outcome_parts, refusal_parts}
use Rattle.amo_call.proofs.laws.answers_tell_one_thing.Goals as goal

same_state : (v w : List ℕ) (m n : ℕ) → v ≡ w → m ≡ n → (let a : StreamState = record { life = v; last = m } in a) ≡ record { life = w; last = n }
same_state v w m n e f = rw (e, f) refl

pub returns-clause-put : goal.returns-clause-put
returns-clause-put c = λ claim a b response p q.
    one_event_place a b p.fits q.fits (append_cancel_left (place_members claim.life claim.stream claim.number) (event_members a) (event_members b) (sym p.body ∙ q.body))

pub returns-clause-fate : goal.returns-clause-fate
returns-clause-fate c = λ claim a b response p q.
    let whole = sym (outcome_parts claim.life claim.stream claim.number a) ∙ sym p.body ∙ q.body ∙ outcome_parts claim.life claim.stream claim.number b in
    let words = append_cancel_left (place_members claim.life claim.stream claim.number) (44 ∷ (codes "\"outcome\":\"" ++ fate_word a ++ codes "\"}")) (44 ∷ (codes "\"outcome\":\"" ++ fate_word b ++ codes "\"}")) whole in
    one_fate a b (codes "\"}") (codes "\"}") (append_cancel_left (codes ",\"outcome\":\"") (fate_word a ++ codes "\"}") (fate_word b ++ codes "\"}") words)

pub returns-clause-state : goal.returns-clause-state
returns-clause-state c = λ stream puts a b response p q.
    let whole = sym (object_parts a.life stream puts a.last p.rest) ∙ sym p.body ∙ q.body ∙ object_parts b.life stream puts b.last q.rest in
    let words = append_cancel_left (codes "{\"life\":\"") (a.life ++ 34 ∷ behind_life stream puts a.last p.rest) (b.life ++ 34 ∷ behind_life stream puts b.last q.rest) whole in
    let lives = one_word 34 a.life b.life (behind_life stream puts a.last p.rest) (behind_life stream puts b.last q.rest) refl p.life q.life words in
    same_state a.life b.life a.last b.last lives.0 (one_number_behind stream puts a.last b.last p.rest q.rest p.fits q.fits lives.1)

pub returns-clause-conflict : goal.returns-clause-conflict
returns-clause-conflict c = λ claim puts a b response p q.
    let state = λ (last : ℕ) (rest : List ℕ). codes ",\"life\":\"" ++ (claim.life ++ 34 ∷ behind_life claim.stream puts last rest) in
    let whole = sym (conflict_parts p.sentence claim.life claim.stream puts a p.rest) ∙ sym p.body ∙ q.body ∙ conflict_parts q.sentence claim.life claim.stream puts b q.rest in
    let behind = append_cancel_left (codes "{\"error\":\"conflict\",\"text\":\"") (p.sentence ++ 34 ∷ state a p.rest) (q.sentence ++ 34 ∷ state b q.rest) whole in
    let cut = one_cut 34 p.sentence (state a p.rest) q.sentence (state b q.rest) p.plain q.plain behind in
    let words = append_cancel_left (codes ",\"life\":\"") (claim.life ++ 34 ∷ behind_life claim.stream puts a p.rest) (claim.life ++ 34 ∷ behind_life claim.stream puts b q.rest) cut.1 in
    let quotes = append_cancel_left claim.life (34 ∷ behind_life claim.stream puts a p.rest) (34 ∷ behind_life claim.stream puts b q.rest) words in
    one_number_behind claim.stream puts a b p.rest q.rest p.fits q.fits (append_cancel_left (codes "\"") (behind_life claim.stream puts a p.rest) (behind_life claim.stream puts b q.rest) quotes)

pub returns-clause-refusal : goal.returns-clause-refusal
returns-clause-refusal c = λ a b response p q.
    let whole = sym (refusal_parts a p.rest) ∙ sym p.body ∙ q.body ∙ refusal_parts b q.rest in
    (one_word 34 a b p.rest q.rest refl p.is_word q.is_word (append_cancel_left (codes "{\"error\":\"") (a ++ 34 ∷ p.rest) (b ++ 34 ∷ q.rest) whole)).0
