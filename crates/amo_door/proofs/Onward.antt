-- What connections come to, one thing behind another.
use Rattle.std.proofs.Common.{◌≡◌, ◌⊎◌, ℕ, ◌+◌, ◌≤◌, Bool, true, false, List, [], ◌++◌, drop, length, Result, refl, sym, ◌∙◌, ap, subst, append_assoc, inl, inr, arith}
use Rattle.std.specs.Prelude.{Option, None, Some, Ok, Err, OnOk, OnErr, IfOk, ◌==◌, if◌then◌else◌}
use Rattle.std.proofs.lemmas.List.{append-nil, drop-drop, drop_all}
use Rattle.http1.specs.declared.server.Server.{Server}
use Rattle.amo_door.specs.declared.connection.Stage.{Stage}
use Rattle.amo_door.specs.declared.connection.Stage.TheVariants as stage
use Rattle.amo_door.specs.declared.connection.Step.{Step}
use Rattle.amo_door.specs.declared.connection.Step.TheVariants.{Call, Wait, Over}
use Rattle.amo_door.specs.Connection.{ConnectionState, Extends, GoesOn, IsRest, MayCome, StaysOrEnds, closed, counted, knowing_method, knows_method, over}

-- nothing was appended
pub extends_same : (a : List ℕ) → Extends a a
extends_same a = ([], sym (append-nil a))

-- what was appended behind what was appended
pub extends_more : (a b c : List ℕ) → Extends a b → Extends b c → Extends a c
extends_more a b c (more, is) (last, ends) = (more ++ last, ends ∙ ap (λ (text : List ℕ). text ++ last) is ∙ append_assoc a more last)

-- nothing was read
pub rest_same : (a : List ℕ) → IsRest a a
rest_same a = (0, refl)

-- what was read behind what was read
pub rest_more : (a b c : List ℕ) → IsRest a b → IsRest b c → IsRest a c
rest_more a b c (front, is) (more, ends) = (front + more, ends ∙ ap (drop more) is ∙ drop-drop more front a)

-- all was read
pub rest_none : (a : List ℕ) → IsRest a []
rest_none a = (length a, sym (drop_all (length a) a (omega arith)))

-- what stays or ends, twice
pub stays_or_ends_twice : (a b c : Stage) → StaysOrEnds a b → StaysOrEnds b c → StaysOrEnds a c
stays_or_ends_twice a b c first (inl same) = subst (StaysOrEnds a) (sym same) first
stays_or_ends_twice a b c first (inr ends) = inr ends

-- nothing happened
pub goes_on_same : (c : ConnectionState) → GoesOn c c
goes_on_same c = record { input = rest_same c.input; output = extends_same c.output; stage = inl refl; has_ended = refl; thrown = refl; answered = omega arith }

-- one thing behind another
pub goes_on_twice : (a b c : ConnectionState) → GoesOn a b → GoesOn b c → GoesOn a c
goes_on_twice a b c first next = record {
  input = rest_more a.input b.input c.input first.input next.input;
  output = extends_more a.output b.output c.output first.output next.output;
  stage = stays_or_ends_twice a.stage b.stage c.stage first.stage next.stage;
  has_ended = next.has_ended ∙ first.has_ended;
  thrown = next.thrown ∙ first.thrown;
  answered = omega (arith, first.answered, next.answered);
}

-- the method is known
knows_on_at : (at : Stage) (begun : Bool) (old : ConnectionState) → GoesOn old (knows_method at begun old)
knows_on_at stage.Reading false old = record { input = rest_same old.input; output = extends_same old.output; stage = inl refl; has_ended = refl; thrown = refl; answered = omega arith }
knows_on_at stage.Reading true old = goes_on_same old
knows_on_at stage.Asked begun old = goes_on_same old
knows_on_at stage.Following begun old = goes_on_same old
knows_on_at stage.Closing begun old = goes_on_same old
knows_on_at stage.Over begun old = goes_on_same old

pub knows_on : (old new : ConnectionState) → new ≡ knowing_method old → GoesOn old new
knows_on old new is = subst (GoesOn old) (sym is) (knows_on_at old.stage old.has_begun old)

-- what an answer comes to is the same then
counted_at : (at : Stage) (begun : Bool) (old : ConnectionState) (output : List ℕ) (server : Server) → counted (knows_method at begun old) output server ≡ counted old output server
counted_at stage.Reading false old output server = refl
counted_at stage.Reading true old output server = refl
counted_at stage.Asked begun old output server = refl
counted_at stage.Following begun old output server = refl
counted_at stage.Closing begun old output server = refl
counted_at stage.Over begun old output server = refl

pub counted_knowing : (old new : ConnectionState) (output : List ℕ) (server : Server) → new ≡ knowing_method old → counted new output server ≡ counted old output server
counted_knowing old new output server is = ap (λ (c : ConnectionState). counted c output server) is ∙ counted_at old.stage old.has_begun old output server

pub output_knowing : (old new : ConnectionState) (output : List ℕ) → new ≡ knowing_method old → Extends new.output output → Extends old.output output
output_knowing old new output is more = extends_more old.output new.output output (knows_on old new is).output more

-- the same, where no more is read behind it
pub closes_knowing : (old knows told new : ConnectionState) → knows ≡ knowing_method old → (told ≡ counted knows told.output told.server) ⊎ (told ≡ over (counted knows told.output told.server)) → new ≡ closed told
    → new ≡ closed (counted old told.output new.server)
closes_knowing old knows told new is (inl counts) closes =
    closes ∙ (ap closed (counts ∙ counted_knowing old knows told.output told.server is) ∙ ap (λ (server : Server). closed (counted old told.output server)) (sym (ap (λ (c : ConnectionState). c.server) closes)))
closes_knowing old knows told new is (inr counts) closes =
    closes ∙ (ap closed (counts ∙ ap over (counted_knowing old knows told.output told.server is)) ∙ ap (λ (server : Server). closed (counted old told.output server)) (sym (ap (λ (c : ConnectionState). c.server) closes)))

-- the end of reading
pub ends_so : (b : Bool) (before : Stage) → StaysOrEnds before (if b then stage.Over else stage.Closing)
ends_so true before = inr (inr refl)
ends_so false before = inr (inl refl)

-- no more is read
pub closes_on : (old new : ConnectionState) → new ≡ closed old → GoesOn old new
closes_on old new is = record {
  input = subst (IsRest old.input) (sym (ap (λ (c : ConnectionState). c.input) is)) (rest_none old.input);
  output = ([], ap (λ (c : ConnectionState). c.output) is ∙ sym (append-nil old.output));
  stage = subst (StaysOrEnds old.stage) (sym (ap (λ (c : ConnectionState). c.stage) is)) (ends_so (length old.output == 0) old.stage);
  has_ended = ap (λ (c : ConnectionState). c.has_ended) is;
  thrown = ap (λ (c : ConnectionState). c.thrown) is;
  answered = omega (arith, ap (λ (c : ConnectionState). c.answered) is);
}

-- no more is read where the client has ended
pub closes_where : (b : Bool) (old new : ConnectionState) → new ≡ (if b then closed old else old) → GoesOn old new
closes_where true old new is = closes_on old new is
closes_where false old new is = subst (GoesOn old) (sym is) (goes_on_same old)

-- one request more was answered, or that could not be spelt
pub counts_on : (old new : ConnectionState) → Extends old.output new.output → old.answered ≤ new.answered
    → (new ≡ counted old new.output new.server) ⊎ (new ≡ over (counted old new.output new.server)) → GoesOn old new
counts_on old new more counts (inl is) = record {
  input = (0, ap (λ (c : ConnectionState). c.input) is);
  output = more;
  stage = inl (ap (λ (c : ConnectionState). c.stage) is);
  has_ended = ap (λ (c : ConnectionState). c.has_ended) is;
  thrown = ap (λ (c : ConnectionState). c.thrown) is;
  answered = counts;
}
counts_on old new more counts (inr is) = record {
  input = (0, ap (λ (c : ConnectionState). c.input) is);
  output = more;
  stage = inr (inr (ap (λ (c : ConnectionState). c.stage) is));
  has_ended = ap (λ (c : ConnectionState). c.has_ended) is;
  thrown = ap (λ (c : ConnectionState). c.thrown) is;
  answered = counts;
}

-- a call appends, or refuses and does not
pub extends_either : {T E : Type 0} (r : Result T E) (a text b : List ℕ) → OnOk r (b ≡ a ++ text) → OnErr r (b ≡ a) → Extends a b
extends_either (Ok done) a text b ok err = (text, ok)
extends_either (Err fault) a text b ok err = ([], err ∙ sym (append-nil a))

-- the same, of what was written by a call that is known to have gone well
pub write_goes_on : {T E : Type 0} (r : Result T E) (old new : ConnectionState) → Extends old.output new.output → old.answered ≤ new.answered
    → OnOk r ((new ≡ counted old new.output new.server) ⊎ (new ≡ over (counted old new.output new.server))) → OnErr r (new ≡ over (counted old new.output new.server)) → GoesOn old new
write_goes_on (Ok done) old new more counts ok err = counts_on old new more counts ok
write_goes_on (Err fault) old new more counts ok err = counts_on old new more counts (inr err)

-- what comes of reading on behind what was read
pub comes_behind : (a b c : ConnectionState) (step : Option Step) → GoesOn a b → MayCome b c step → MayCome a c step
comes_behind a b c None first next = goes_on_twice a b c first next
comes_behind a b c (Some (Call call message)) first next = record {
  input = rest_more a.input b.input c.input first.input next.input;
  output = extends_more a.output b.output c.output first.output next.output;
  bounded = next.bounded;
  stage = next.stage;
  has_begun = next.has_begun;
  asks = next.asks;
  has_ended = next.has_ended ∙ first.has_ended;
  thrown = next.thrown ∙ first.thrown;
  answered = omega (arith, first.answered, next.answered);
}
comes_behind a b c (Some Wait) first next = goes_on_twice a b c first next
comes_behind a b c (Some Over) first next = (goes_on_twice a b c first next.0, next.1)

-- the same, of a result
pub comes_so : {E : Type 0} (a b c : ConnectionState) (r : Result (Option Step) E) → GoesOn a b → IfOk r (MayCome b c) → IfOk r (MayCome a c)
comes_so a b c (Ok step) first next = comes_behind a b c step first next
comes_so a b c (Err fault) first next = tt

pub fails_so : {T E : Type 0} (a b c : ConnectionState) (r : Result T E) → GoesOn a b → OnErr r (GoesOn b c) → OnErr r (GoesOn a c)
fails_so a b c (Ok done) first next = tt
fails_so a b c (Err fault) first next = goes_on_twice a b c first next

-- a call that is known to fail, or not
pub failing : {T E : Type 0} (r : Result T E) (old new : ConnectionState) → GoesOn old new → OnErr r (GoesOn old new)
failing (Ok done) old new on = tt
failing (Err fault) old new on = on

-- a request has begun
pub begins_on : (old new : ConnectionState) → new ≡ record old { wants_head = new.wants_head; has_begun = true; asks = new.asks; body = [] } → GoesOn old new
begins_on old new is = subst (GoesOn old) (sym is) (record {
  input = rest_same old.input;
  output = extends_same old.output;
  stage = inl refl;
  has_ended = refl;
  thrown = refl;
  answered = omega arith;
})

-- what comes so ends in a step, or memory was refused
pub over_on : (old new : ConnectionState) → GoesOn old new → GoesOn old (over new)
over_on old new on = record {
  input = on.input;
  output = on.output;
  stage = inr (inr refl);
  has_ended = on.has_ended;
  thrown = on.thrown;
  answered = on.answered;
}

-- what happened behind what HTTP/1 read
pub reads_on : (old before new : ConnectionState) (server : Server) → before ≡ old → GoesOn (record before { server = server }) new → GoesOn old new
reads_on old before new server is on =
    let h : GoesOn (record old { server = server }) new = subst (λ (c : ConnectionState). GoesOn (record c { server = server }) new) is on in
    record { input = h.input; output = h.output; stage = h.stage; has_ended = h.has_ended; thrown = h.thrown; answered = h.answered }
