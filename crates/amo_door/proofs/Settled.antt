-- What connections come to where they write.
use Rattle.std.proofs.Common.{◌≡◌, ◌⊎◌, Bool, true, false, List, ℕ, ◌++◌, length, ◌∙◌, ap, subst, sym, inl, inr, refl}
use Rattle.std.specs.Prelude.{Option, None, Some, Result, Ok, Err, OnOk, ◌==◌, if◌then◌else◌}
use Rattle.std.proofs.lemmas.Bool.{false≢true}
use Rattle.http1.specs.declared.error.WriteError.{WriteError}
use Rattle.http1.specs.declared.error.WriteError.TheVariants as fault
use Rattle.http1.specs.declared.server.Server.{Server}
use Rattle.amo_door.specs.declared.connection.Stage.TheVariants as stage
use Rattle.amo_door.specs.declared.answer.Answer.{Answer}
use Rattle.amo_door.specs.Connection.{ConnectionState, Ends, PassesOver, Settles, Spells, SpellsAnswer, closed, counted, over}
use Rattle.amo_door.specs.Spelling.{Writes, after_answer, answer_fault, answer_text}

-- a fault ends the connection, unless it is that memory was refused, which the call tells
pub settled_badly : {T : Type 0} (E : Type 0) (e : WriteError) (mid new : ConnectionState) (done : T) → Settles {T = T} {E = E} mid (Err e) (Ok done) new → Ends new.stage
settled_badly E fault.State mid new done (ok, is) = inr (ap (λ (c : ConnectionState). c.stage) is)
settled_badly E fault.InvalidStartLine mid new done (ok, is) = inr (ap (λ (c : ConnectionState). c.stage) is)
settled_badly E fault.InvalidHeader mid new done (ok, is) = inr (ap (λ (c : ConnectionState). c.stage) is)
settled_badly E fault.Host mid new done (ok, is) = inr (ap (λ (c : ConnectionState). c.stage) is)
settled_badly E (fault.Framing why) mid new done (ok, is) = inr (ap (λ (c : ConnectionState). c.stage) is)
settled_badly E fault.BodySize mid new done (ok, is) = inr (ap (λ (c : ConnectionState). c.stage) is)
settled_badly E fault.MissingUpgrade mid new done (ok, is) = inr (ap (λ (c : ConnectionState). c.stage) is)
settled_badly E fault.UnusualFraming mid new done (ok, is) = inr (ap (λ (c : ConnectionState). c.stage) is)
settled_badly E fault.BodyTooLong mid new done (ok, is) = inr (ap (λ (c : ConnectionState). c.stage) is)
settled_badly E fault.BodyTooShort mid new done (ok, is) = inr (ap (λ (c : ConnectionState). c.stage) is)
settled_badly E fault.UnexpectedTrailers mid new done (ok, is) = inr (ap (λ (c : ConnectionState). c.stage) is)
settled_badly E fault.OutOfMemory mid new done (err, is) = absurd (false≢true err)

-- what was written comes to what the connection does with it
pub settled : {T E : Type 0} (why : Option WriteError) (written : Result T WriteError) (result : Result T E) (text : List ℕ) (server : Server) (old : List ℕ) (mid new : ConnectionState) → Settles mid written result new
    → Writes why written → OnOk written (mid.output ≡ old ++ text) → OnOk written (mid.server ≡ server) → OnOk result (Spells why text server old new)
settled why written (Err e) text server old mid new ends writes ok next = tt
settled None (Ok wrote) (Ok done) text server old mid new (good, is) writes ok next = (ap (λ (c : ConnectionState). c.output) is ∙ ok, ap (λ (c : ConnectionState). c.server) is ∙ next)
settled {T = T} {E = E} None (Err e) (Ok done) text server old mid new ends writes ok next =
    absurd (false≢true (subst (λ (error : WriteError). Settles {T = T} {E = E} mid (Err error) (Ok done) new) writes ends).0)
settled (Some why) (Ok wrote) (Ok done) text server old mid new ends (inl is) ok next = cc
settled (Some why) (Ok wrote) (Ok done) text server old mid new ends (inr is) ok next = cc
settled {E = E} (Some why) (Err e) (Ok done) text server old mid new ends writes ok next = settled_badly E e mid new done ends

-- the same under a premise
pub settled_where : {T E : Type 0} (r : Result T E) (A P : Type 0) → OnOk r P → OnOk r (A → P)
settled_where (Ok done) A P ok = λ _. ok
settled_where (Err e) A P ok = tt

-- the end of reading
ends_either : (b : Bool) → Ends (if b then stage.Over else stage.Closing)
ends_either true = inr refl
ends_either false = inl refl

-- no more is read behind it
pub spells_closed : (why : Option WriteError) (text : List ℕ) (server : Server) (old : List ℕ) (mid new : ConnectionState) → Spells why text server old mid → new ≡ closed mid → Spells why text server old new
spells_closed None text server old mid new (output, goes) is = (ap (λ (c : ConnectionState). c.output) is ∙ output, ap (λ (c : ConnectionState). c.server) is ∙ goes)
spells_closed (Some fault) text server old mid new ends is = subst Ends (sym (ap (λ (c : ConnectionState). c.stage) is)) (ends_either (length mid.output == 0))

-- an answer was written to a request that is refused: the next one is read, or none
pub passes_over : {T E : Type 0} (r : Result T E) (old new : ConnectionState) (answer : Answer) → OnOk r (SpellsAnswer answer false old new) → OnOk r ((new ≡ counted old new.output new.server) ⊎ (new ≡ over (counted old new.output new.server)))
    → OnOk r (Ends new.stage ⊎ PassesOver old new)
passes_over (Err e) old new answer spelt counts = tt
passes_over (Ok done) old new answer spelt (inr is) = inl (inr (ap (λ (c : ConnectionState). c.stage) is))
passes_over (Ok done) old new answer spelt (inl is) = go (answer_fault old.server answer old.wants_head false) spelt
  where
    go : (fault : Option WriteError) → Spells fault (answer_text old.server answer old.wants_head false) (after_answer old.server answer false) old.output new → Ends new.stage ⊎ PassesOver old new
    go (Some fault) ends = inl ends
    go None (output, server) = inr (record {
      stage = ap (λ (c : ConnectionState). c.stage) is;
      input = ap (λ (c : ConnectionState). c.input) is;
      asks = ap (λ (c : ConnectionState). c.asks) is;
      answer = answer;
      server = server;
    })
