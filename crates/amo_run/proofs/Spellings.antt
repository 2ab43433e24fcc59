-- The events of clients are of the book's sides, and a journal has a line for each.
use Rattle.std.proofs.Common.{◌≡◌, ℕ, zero, suc, ◌<◌, ◌≤◌, Bool, true, false, List, [], ◌∷◌, ◌++◌, Option, Some, None, Result, Ok, Err, IfOk, IfSome, IsErrOf, inl, inr, ◌⊎◌, slice_get, refl, ap, ap₂, arith}
use Rattle.std.proofs.lemmas.Bool.{cases_lt}
use Rattle.std.proofs.lemmas.List.Elements.{All-append}
use Rattle.amo_object.specs.declared.step.End.{End}
use Rattle.amo_object.specs.declared.step.End.TheVariants.{Sender, Receiver}
use Rattle.amo_text.specs.Message.{IsMessage}
use Rattle.amo_core.specs.declared.act.Act.{Act}
use Rattle.amo_core.specs.declared.act.Act.TheVariants as act
use Rattle.amo_core.specs.declared.reply.Reply.{Reply}
use Rattle.amo_core.specs.declared.reply.Reply.TheVariants as reply
use Rattle.amo_world.specs.declared.event.Event.{Event}
use Rattle.amo_book.specs.Book.{BookState}
use Rattle.amo_book.specs.Calls.{HasSide, IsPutNoStream, put_answer, get_answer, ack_answer}
use Rattle.amo_book.specs.Pass.{event}
use Rattle.amo_book.specs.declared.fault.PutFault.{PutFault}
use Rattle.amo_book.specs.declared.fault.PutFault.TheVariants as put_fault
use Rattle.amo_book.specs.declared.fault.GetFault.{GetFault}
use Rattle.amo_book.specs.declared.fault.GetFault.TheVariants as get_fault
use Rattle.amo_book.specs.declared.fault.AckFault.{AckFault}
use Rattle.amo_book.specs.declared.fault.AckFault.TheVariants as ack_fault
use Rattle.amo_journal.specs.declared.version.Version.{Version}
use Rattle.amo_journal.specs.declared.version.Version.TheVariants.{One}
use Rattle.amo_journal.specs.Journal.{HasAct, HasReply}
use Rattle.amo_run.specs.Crew.{IsCall}
use Rattle.amo_run.specs.Fits.{Fits, AllFit}
use Rattle.amo_run.specs.Roster.{is_call}
use Rattle.amo_run.specs.Told.{made_by}
use Rattle.amo_run.proofs.Turning.{fit_none, fit_one}

pub fit_both : (version : Version) (sides : List (End × ℕ)) (may_be : Event → Type 0) (xs ys : List (ℕ × Event)) → AllFit version sides may_be xs → AllFit version sides may_be ys → AllFit version sides may_be (xs ++ ys)
fit_both version sides may_be xs ys f g = All-append (λ (one : ℕ × Event). Fits version sides may_be one.1) xs ys f g

-- ---- a side is one of the book's, or none of them
abbrev Stands : List (End × ℕ) → End → ℕ → Type 0
Stands sides side stream = (place : ℕ) × (slice_get sides place ≡ Some (side, stream))

same_end : (x y : End) → (x ≡ y) ⊎ (x ≡ y → ⊥)
same_end Sender Sender = inl refl
same_end Sender Receiver = inr (λ e. cc)
same_end Receiver Sender = inr (λ e. cc)
same_end Receiver Receiver = inl refl

same_number : (m n : ℕ) → (m < n) ⊎ (n ≤ m) → (n < m) ⊎ (m ≤ n) → (m ≡ n) ⊎ (m ≡ n → ⊥)
same_number m n (inl lt) b = inr (λ e. absurd (omega arith))
same_number m n (inr le) (inl lt) = inr (λ e. absurd (omega arith))
same_number m n (inr le) (inr ge) = inl (omega arith)

both_same : (x y : End) (m n : ℕ) → (x ≡ y) ⊎ (x ≡ y → ⊥) → (m ≡ n) ⊎ (m ≡ n → ⊥) → (◌≡◌ {A = End × ℕ} (x, m) (y, n)) ⊎ (◌≡◌ {A = End × ℕ} (x, m) (y, n) → ⊥)
both_same x y m n (inl a) (inl b) = inl (ap₂ (λ (p : End) (q : ℕ). (p, q)) a b)
both_same x y m n (inl a) (inr b) = inr (λ e. b (ap (λ t. t.1) e))
both_same x y m n (inr a) b = inr (λ e. a (ap (λ t. t.0) e))

nowhere : (x : End × ℕ) (xs : List (End × ℕ)) (side : End) (stream : ℕ) → (x ≡ (side, stream) → ⊥) → (Stands xs side stream → ⊥) → (place : ℕ) → slice_get (x ∷ xs) place ≡ Some (side, stream) → ⊥
nowhere x xs side stream here there zero e = let is : x ≡ (side, stream) = cc in here is
nowhere x xs side stream here there (suc place) e = there (place, e)

found : (x : End × ℕ) (xs : List (End × ℕ)) (side : End) (stream : ℕ) → (x ≡ (side, stream)) ⊎ (x ≡ (side, stream) → ⊥) → Stands xs side stream ⊎ (Stands xs side stream → ⊥) → Stands (x ∷ xs) side stream ⊎ (Stands (x ∷ xs) side stream → ⊥)
found x xs side stream (inl e) b = inl (0, ap Some e)
found x xs side stream (inr a) (inl (place, e)) = inl (suc place, e)
found x xs side stream (inr a) (inr b) = inr (λ h. nowhere x xs side stream a b h.0 h.1)

look : (sides : List (End × ℕ)) (side : End) (stream : ℕ) → Stands sides side stream ⊎ (Stands sides side stream → ⊥)
look [] side stream = inr (λ h. let e : ◌≡◌ {A = Option (End × ℕ)} None (Some (side, stream)) = h.1 in cc)
look ((x, m) ∷ xs) side stream = found (x, m) xs side stream (both_same x side m stream (same_end x side) (same_number m stream (cases_lt m stream) (cases_lt stream m))) (look xs side stream)

surely : {A : Type 0} → A ⊎ (A → ⊥) → ((A → ⊥) → ⊥) → A
surely (inl a) h = a
surely (inr never) h = absurd (h never)

stands : (sides : List (End × ℕ)) (side : End) (stream : ℕ) → ((Stands sides side stream → ⊥) → ⊥) → Stands sides side stream
stands sides side stream h = surely (look sides side stream) h

-- ---- the events of calls
one_fits : (sides : List (End × ℕ)) (pass : ℕ) (side : End) (stream n : ℕ) (a : Act) (r : Reply) → ((Stands sides side stream → ⊥) → ⊥) → HasAct One side stream a → HasReply a r → is_call a ≡ true → AllFit One sides IsCall ((n, event pass side stream a r) ∷ [])
one_fits sides pass side stream n a r there acts replies call = let at = stands sides side stream there in fit_one One sides IsCall n (event pass side stream a r) (record { place = at.0; at = at.1; act = acts; reply = replies; made = call })

pub put_fits : (b : BookState) (pass stream : ℕ) (m : List ℕ) (r : Result ℕ PutFault) → ((HasSide b Sender stream → ⊥) → IsPutNoStream r) → IsMessage m → AllFit One b.sides IsCall (made_by pass Sender stream (act.Put m) (put_answer r))
put_fits b pass stream m (Ok n) there k = one_fits b.sides pass Sender stream n (act.Put m) reply.Ok there k tt refl
put_fits b pass stream m (Err (put_fault.Full n x)) there k = one_fits b.sides pass Sender stream n (act.Put m) reply.Full there k tt refl
put_fits b pass stream m (Err (put_fault.Down n x)) there k = one_fits b.sides pass Sender stream n (act.Put m) reply.Down there k tt refl
put_fits b pass stream m (Err (put_fault.Busy x)) there k = fit_none One b.sides IsCall
put_fits b pass stream m (Err (put_fault.NoStream x)) there k = fit_none One b.sides IsCall

-- what a get answered has its line, where its message is one
pub get_replies : (r : Result (List ℕ × ℕ) GetFault) → IfOk r (λ t. IsMessage t.0) → IfSome (get_answer r) (λ k. HasReply act.Get k.0)
get_replies (Ok (m, n)) k = k
get_replies (Err (get_fault.Nothing n)) k = tt
get_replies (Err (get_fault.Down n)) k = tt
get_replies (Err get_fault.Busy) k = tt
get_replies (Err get_fault.NoStream) k = tt

pub get_fits : (b : BookState) (pass stream : ℕ) (r : Result (List ℕ × ℕ) GetFault) → ((HasSide b Receiver stream → ⊥) → IsErrOf r get_fault.NoStream) → IfSome (get_answer r) (λ k. HasReply act.Get k.0) → AllFit One b.sides IsCall (made_by pass Receiver stream act.Get (get_answer r))
get_fits b pass stream (Ok (m, n)) there k = one_fits b.sides pass Receiver stream n act.Get (reply.Got m) (λ none. let e = there none in cc) tt k refl
get_fits b pass stream (Err (get_fault.Nothing n)) there k = one_fits b.sides pass Receiver stream n act.Get reply.Nothing (λ none. let e = there none in cc) tt tt refl
get_fits b pass stream (Err (get_fault.Down n)) there k = one_fits b.sides pass Receiver stream n act.Get reply.Down (λ none. let e = there none in cc) tt tt refl
get_fits b pass stream (Err get_fault.Busy) there k = fit_none One b.sides IsCall
get_fits b pass stream (Err get_fault.NoStream) there k = fit_none One b.sides IsCall

pub ack_fits : (b : BookState) (pass stream : ℕ) (r : Result (Bool × ℕ) AckFault) → ((HasSide b Sender stream → ⊥) → IsErrOf r ack_fault.NoStream) → AllFit One b.sides IsCall (made_by pass Sender stream act.Ack (ack_answer r))
ack_fits b pass stream (Ok (true, n)) there = one_fits b.sides pass Sender stream n act.Ack reply.Yes (λ none. let e = there none in cc) tt tt refl
ack_fits b pass stream (Ok (false, n)) there = one_fits b.sides pass Sender stream n act.Ack reply.No (λ none. let e = there none in cc) tt tt refl
ack_fits b pass stream (Err (ack_fault.NotYet n)) there = one_fits b.sides pass Sender stream n act.Ack reply.NotYet (λ none. let e = there none in cc) tt tt refl
ack_fits b pass stream (Err (ack_fault.Down n)) there = one_fits b.sides pass Sender stream n act.Ack reply.Down (λ none. let e = there none in cc) tt tt refl
ack_fits b pass stream (Err ack_fault.Busy) there = fit_none One b.sides IsCall
ack_fits b pass stream (Err ack_fault.NoStream) there = fit_none One b.sides IsCall
