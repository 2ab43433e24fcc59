-- Lists of passes, threads and charges.
use Rattle.std.proofs.Common.{◌≡◌, ℕ, zero, suc, ◌+◌, ◌<◌, List, [], ◌∷◌, ◌++◌, length, reverse, map, slice_get, Some, refl, sym, ap, ap₂, ◌∙◌, subst, arith, Bool, true, false, Vec, Result, Ok, Err, IfOk, append_assoc, append-nil}
use Rattle.std.proofs.lemmas.List.{reverse-append, map-append}
use Rattle.amo_object.specs.declared.step.End.{End}
use Rattle.amo_world.specs.declared.event.Event.{Event}
use Rattle.amo_world.specs.declared.fault.NoMemory.{NoMemory}
use Rattle.amo_book.specs.Book.{BookState, Each, Lists, first_pass}
use Rattle.amo_book.specs.Charge.{ChargeState, IsChargeOf}
use Rattle.amo_book.specs.Closed.{IsOf, AllPasses, AllCharges}
use Rattle.amo_book.specs.Pass.{PassState}
use Rattle.amo_host.specs.Station.{Station}
use Rattle.amo_run.specs.declared.home.Home.{Home}
use Rattle.amo_run.specs.declared.roster.Roster.{Roster}
use Rattle.std.proofs.lemmas.List.Elements.{All-nil, All-append}
use Rattle.amo_journal.specs.declared.version.Version.{Version}
use Rattle.amo_run.specs.Fits.{Fits, AllFit}
use Rattle.amo_run.specs.Told.{told, Tells}
use Rattle.amo_run.specs.Engine.{IsDriven, tie, ties, Recorded}
use Rattle.amo_run.specs.Crew.{Made, Adds, EachAt, IsNew, IsHome, joined, dealt, lent, SoFar}
use Rattle.amo_run.specs.Roster.{IsWhose}
use Rattle.amo_run.specs.Versions.{version_of}
use Rattle.amo_run.specs.declared.work.PumpThread.{PumpThread}

head_is : {A : Type 0} (d : A) → List A → A
head_is d [] = d
head_is d (x ∷ xs) = x

tail_is : {A : Type 0} → List A → List A
tail_is [] = []
tail_is (x ∷ xs) = xs

-- charges with the same ties are of the same book
tied_ours : (b : BookState) (x y : ChargeState) → tie y ≡ tie x → IsChargeOf b.id b.sides x → IsChargeOf b.id b.sides y
tied_ours b x y e h = (ap (λ t. t.0) e ∙ h.0, subst (λ k. slice_get b.sides k ≡ Some (y.side, y.stream)) (sym (ap (λ t. t.1.0) e)) (h.1 ∙ ap (λ t. Some t.1.1) (sym e)))

pub ties_each : (b : BookState) (xs ys : List ChargeState) → ties ys ≡ ties xs → Each (IsChargeOf b.id b.sides) xs → Each (IsChargeOf b.id b.sides) ys
ties_each b [] [] e h = tt
ties_each b [] (y ∷ ys) e h = let bad : suc (length (ties ys)) ≡ 0 = ap length e in absurd (omega arith)
ties_each b (x ∷ xs) [] e h = let bad : 0 ≡ suc (length (ties xs)) = ap length e in absurd (omega arith)
ties_each b (x ∷ xs) (y ∷ ys) e h = let first : tie y ≡ tie x = cc in let rest : ties ys ≡ ties xs = cc in (tied_ours b x y first h.0, ties_each b xs ys rest h.1)

module _ {A : Type 0} (P : ℕ → A → Type 0) where
  pub at_more : (k n : ℕ) (xs : List A) (x : A) → n ≡ k + length xs → EachAt P k xs → P n x → EachAt P k (xs ++ x ∷ [])
  at_more k n [] x is h p = (subst (λ m. P m x) (is ∙ omega arith) p, tt)
  at_more k n (y ∷ ys) x is h p = (h.0, at_more (suc k) n ys x (omega arith) h.1 p)

  pub at_less : (k n : ℕ) (xs : List A) (x : A) → n ≡ k + length xs → EachAt P k (xs ++ x ∷ []) → EachAt P k xs × P n x
  at_less k n [] x is h = (tt, subst (λ m. P m x) (omega arith) h.0)
  at_less k n (y ∷ ys) x is h = let t = at_less (suc k) n ys x (omega arith) h.1 in ((h.0, t.0), t.1)

  pub at_both : (k n : ℕ) (xs ys : List A) → n ≡ k + length xs → EachAt P k xs → EachAt P n ys → EachAt P k (xs ++ ys)
  at_both k n [] ys is h m = subst (λ j. EachAt P j ys) (is ∙ omega arith) m
  at_both k n (x ∷ xs) ys is h m = (h.0, at_both (suc k) n xs ys (omega arith) h.1 m)

  pub at_of : (k : ℕ) (xs : List A) → ((j : ℕ) (x : A) → slice_get xs j ≡ Some x → P (k + j) x) → EachAt P k xs
  at_of k [] h = tt
  at_of k (x ∷ xs) h = (subst (λ j. P j x) (omega arith) (h 0 x refl), at_of (suc k) xs (λ j y e. subst (λ i. P i y) (omega arith) (h (suc j) y e)))

  back_is : (xs : List A) (x : A) → reverse (xs ++ x ∷ []) ≡ x ∷ reverse xs
  back_is xs x = reverse-append xs (x ∷ [])

  pub back_more : (k : ℕ) (xs : List A) (x : A) → EachAt P (suc k) (reverse xs) → P k x → EachAt P k (reverse (xs ++ x ∷ []))
  back_more k xs x h p = subst (EachAt P k) (sym (back_is xs x)) (p, h)

  pub back_less : (k : ℕ) (xs : List A) (x : A) → EachAt P k (reverse (xs ++ x ∷ [])) → P k x × EachAt P (suc k) (reverse xs)
  back_less k xs x h = subst (EachAt P k) (back_is xs x) h

pub map_at : {A B : Type 0} (P : ℕ → B → Type 0) (f : A → B) (k : ℕ) (xs : List A) → EachAt P k (map f xs) → EachAt (λ n x. P n (f x)) k xs
map_at P f k [] h = tt
map_at P f k (x ∷ xs) h = (h.0, map_at P f (suc k) xs h.1)

pub at_map : {A B : Type 0} (P : ℕ → B → Type 0) (f : A → B) (k : ℕ) (xs : List A) → EachAt (λ n x. P n (f x)) k xs → EachAt P k (map f xs)
at_map P f k [] h = tt
at_map P f k (x ∷ xs) h = (h.0, at_map P f (suc k) xs h.1)

at_filled : {A : Type 0} (f : ℕ → A) (k : ℕ) (xs : List A) → ((j : ℕ) → j < length xs → slice_get xs j ≡ Some (f (k + j))) → EachAt (λ p x. x ≡ f p) k xs
at_filled f k [] h = tt
at_filled f k (x ∷ xs) h = let first : Some x ≡ Some (f (k + 0)) = h 0 (omega arith) in let is : x ≡ f (k + 0) = cc in
    (is ∙ ap f (omega arith), at_filled f (suc k) xs (λ j lt. h (suc j) (omega arith) ∙ ap (λ n. Some (f n)) (omega arith)))

pub new_passes : (b : BookState) (n : ℕ) (cs : List PassState) → Lists (first_pass b.id) n cs → EachAt (IsNew b) 0 cs
new_passes b n cs f = at_filled (first_pass b.id) 0 cs (λ j lt. let long = f.0 in f.1 j (omega arith) ∙ ap (λ m. Some (first_pass b.id m)) (omega arith))

joined_more : (cs : List PassState) (c : PassState) → joined (cs ++ c ∷ []) ≡ joined cs ++ told c
joined_more [] c = append-nil (told c)
joined_more (x ∷ xs) c = ap (λ l. told x ++ l) (joined_more xs c) ∙ sym (append_assoc (told x) (joined xs) (told c))

-- the passes that are back are of the book, and each number is there
pub homes_each : (b : BookState) (k : ℕ) (cs : List PassState) → EachAt (IsHome b) k cs → Each (IsOf b.id) cs
homes_each b k [] h = tt
homes_each b k (c ∷ cs) h = (h.0.book, homes_each b (suc k) cs h.1)

at_number : (b : BookState) (k j : ℕ) (cs : List PassState) → EachAt (IsHome b) k cs → j < length cs → (c : PassState) × (slice_get cs j ≡ Some c) × (c.number ≡ k + j)
at_number b k j [] h lt = absurd (omega arith)
at_number b k zero (c ∷ cs) h lt = (c, refl, h.0.number ∙ omega arith)
at_number b k (suc j) (c ∷ cs) h lt = let t = at_number b (suc k) j cs h.1 (omega arith) in (t.0, t.1, t.2 ∙ omega arith)

pub homes_all : (b : BookState) (cs : List PassState) → EachAt (IsHome b) 0 cs → length cs ≡ b.passes → AllPasses cs b.passes
homes_all b cs h n p lt = let t = at_number b 0 p cs h (omega arith) in (p, t.0, t.1, t.2 ∙ omega arith)

tied_at : (xs ys : List ChargeState) (j : ℕ) (x : ChargeState) → ties ys ≡ ties xs → slice_get xs j ≡ Some x → (y : ChargeState) × (slice_get ys j ≡ Some y) × (y.place ≡ x.place)
tied_at [] ys j x e is = cc
tied_at (a ∷ xs) [] j x e is = let bad : 0 ≡ suc (length (ties xs)) = ap length e in absurd (omega arith)
tied_at (a ∷ xs) (y ∷ ys) zero x e is = let same : a ≡ x = cc in let first : tie y ≡ tie a = cc in (y, refl, ap (λ t. t.1.0) first ∙ ap (λ (r : ChargeState). r.place) same)
tied_at (a ∷ xs) (y ∷ ys) (suc j) x e is = let rest : ties ys ≡ ties xs = cc in tied_at xs ys j x rest is

-- charges with the ties of all charges are all charges
pub charges_all : (n : ℕ) (xs ys : List ChargeState) → AllCharges xs n → ties ys ≡ ties xs → AllCharges ys n
charges_all n xs ys all e place lt = let h = all place lt in let t = tied_at xs ys h.0 h.1 e h.2 in (h.0, t.0, t.1, t.2 ∙ h.3)

told_home : (b : BookState) (p : ℕ) (c : PassState) (xs : List (ℕ × Event)) → Tells (first_pass b.id p) c xs → IsHome b p c
told_home b p c xs t = record { book = t.book; number = t.number }

made_home : {A : Type 0} (version : Version) (may_be : Event → Type 0) (b : BookState) (p : ℕ) (c : PassState) (made : Result (Vec (ℕ × Event) A) NoMemory) → Made version b.sides may_be (first_pass b.id p) c made → IsHome b p c
made_home version may_be b p c (Ok made) t = told_home b p c made.items t.0
made_home version may_be b p c (Err fault) t = told_home b p c t.0 t.1

made_joined : {A : Type 0} (version : Version) (may_be : Event → Type 0) (b : BookState) (p : ℕ) (cs : List PassState) (c : PassState) (made : Result (Vec (ℕ × Event) A) NoMemory) (es es' : List (ℕ × Event))
    → Made version b.sides may_be (first_pass b.id p) c made → Adds made es es' → es ≡ joined cs → es' ≡ joined (cs ++ c ∷ [])
made_joined version may_be b p cs c (Ok made) es es' t a e = a ∙ (ap₂ (λ x y. x ++ y) e (sym t.0.grew) ∙ sym (joined_more cs c))
made_joined version may_be b p cs c (Err fault) es es' t a e = absurd a

pub home_more : {A : Type 0} (version : Version) (may_be : Event → Type 0) (b : BookState) (cs : List PassState) (c : PassState) (made : Result (Vec (ℕ × Event) A) NoMemory)
    → EachAt (IsHome b) 0 cs → Made version b.sides may_be (first_pass b.id (length cs)) c made → EachAt (IsHome b) 0 (cs ++ c ∷ [])
home_more version may_be b cs c made h t = at_more (IsHome b) 0 (length cs) cs c (omega arith) h (made_home version may_be b (length cs) c made t)

pub events_more : {A : Type 0} (version : Version) (may_be : Event → Type 0) (b : BookState) (cs : List PassState) (c : PassState) (made : Result (Vec (ℕ × Event) A) NoMemory) (es es' : List (ℕ × Event)) (lost kept : Bool)
    → Made version b.sides may_be (first_pass b.id (length cs)) c made → (lost ≡ false → es ≡ joined cs) → (kept ≡ true → Adds made es es') → lost ≡ false → kept ≡ true → es' ≡ joined (cs ++ c ∷ [])
events_more version may_be b cs c made es es' lost kept t e a l k = made_joined version may_be b (length cs) cs c made es es' t (a k) (e l)

made_fit : {A : Type 0} (version : Version) (may_be : Event → Type 0) (b : BookState) (v c : PassState) (made : Result (Vec (ℕ × Event) A) NoMemory) (es es' : List (ℕ × Event)) → Made version b.sides may_be v c made → Adds made es es' → AllFit version b.sides may_be es
    → AllFit version b.sides may_be es'
made_fit version may_be b v c (Ok made) es es' t a f = subst (AllFit version b.sides may_be) (sym a) (All-append (λ (one : ℕ × Event). Fits version b.sides may_be one.1) es made.items f t.1)
made_fit version may_be b v c (Err fault) es es' t a f = absurd a

pub fit_more : {A : Type 0} (version : Version) (may_be : Event → Type 0) (b : BookState) (v c : PassState) (made : Result (Vec (ℕ × Event) A) NoMemory) (es es' : List (ℕ × Event)) (lost kept : Bool)
    → Made version b.sides may_be v c made → (lost ≡ false → AllFit version b.sides may_be es) → (kept ≡ true → Adds made es es') → lost ≡ false → kept ≡ true → AllFit version b.sides may_be es'
fit_more version may_be b v c made es es' lost kept t f a l k = made_fit version may_be b v c made es es' t (a k) (f l)

-- passes that made no call are at home
new_home : (b : BookState) (k : ℕ) (cs : List PassState) → EachAt (IsNew b) k cs → EachAt (IsHome b) k cs
new_home b k [] h = tt
new_home b k (c ∷ cs) h = (record { book = ap (λ (x : PassState). x.book) h.0; number = ap (λ (x : PassState). x.number) h.0 }, new_home b (suc k) cs h.1)

new_joined : (b : BookState) (k : ℕ) (cs : List PassState) → EachAt (IsNew b) k cs → joined cs ≡ []
new_joined b k [] h = refl
new_joined b k (c ∷ cs) h = ap₂ (λ x y. x ++ y) (ap told h.0) (new_joined b (suc k) cs h.1)

pub sofar_new : (r : Roster) (version : Version) (b : BookState) (h : Home) → EachAt (IsNew b) 0 h.passes.items → h.events.items ≡ [] → SoFar r version b h
sofar_new r version b h p e = record {
  passes = new_home b 0 h.passes.items p;
  events = λ l. e ∙ sym (new_joined b 0 h.passes.items p);
  fit = λ l. subst (AllFit version b.sides (IsWhose r)) (sym e) (All-nil (λ (one : ℕ × Event). Fits version b.sides (IsWhose r) one.1));
}

pub sofar_same : (r : Roster) (version : Version) (b : BookState) (h h' : Home) → h'.passes ≡ h.passes → h'.events ≡ h.events → (h'.is_short ≡ false → h.is_short ≡ false) → SoFar r version b h → SoFar r version b h'
sofar_same r version b h h' p e l s = record {
  passes = subst (λ v. EachAt (IsHome b) 0 v.items) (sym p) s.passes;
  events = λ n. ap (λ v. v.items) e ∙ (s.events (l n) ∙ ap (λ v. joined v.items) (sym p));
  fit = λ n. subst (AllFit version b.sides (IsWhose r)) (sym (ap (λ v. v.items) e)) (s.fit (l n));
}

-- a record that began empty is what the pass tells
pub told_all : {W : Type 0} (book : BookState) (s t : Station W) (v w : PassState) (old new : List (ℕ × Event)) → Recorded book v w s t old new → old ≡ [] → Tells v w new × AllFit (version_of s) book.sides (IsDriven (ties s.charges)) new
told_all book s t v w old new r none = let same : new ≡ r.more = r.added ∙ ap (λ l. l ++ r.more) none in (subst (Tells v w) (sym same) r.advances.tells, subst (AllFit (version_of s) book.sides (IsDriven (ties s.charges))) (sym same) r.advances.fit)

pub made_kept : {A : Type 0} (version : Version) (sides : List (End × ℕ)) (may_be : Event → Type 0) (v w : PassState) (made : Result (Vec (ℕ × Event) A) NoMemory) (new : List (ℕ × Event)) → IfOk made (λ m. m.items ≡ new) → Tells v w new × AllFit version sides may_be new → Made version sides may_be v w made
made_kept version sides may_be v w (Ok made) new is t = (subst (Tells v w) (sym is) t.0, subst (AllFit version sides may_be) (sym is) t.1)
made_kept version sides may_be v w (Err fault) new is t = (new, t.0)

pub each_less : {A : Type 0} (P : A → Type 0) (xs : List A) (x : A) → Each P (xs ++ x ∷ []) → Each P xs × P x
each_less P [] x h = (tt, h.0)
each_less P (y ∷ ys) x h = let t = each_less P ys x h.1 in ((h.0, t.0), t.1)

dealt_last : {W : Type 0} (ss : List (Station W)) (s : Station W) → dealt (ss ++ s ∷ []) ≡ dealt ss ++ s.charges
dealt_last [] s = append-nil s.charges
dealt_last (x ∷ ss) s = ap (λ l. x.charges ++ l) (dealt_last ss s) ∙ sym (append_assoc x.charges (dealt ss) s.charges)

-- the charges of one pump more
pub dealt_more : {A W : Type 0} (f : A → Station W) (xs : List A) (x : A) → dealt (map f (xs ++ x ∷ [])) ≡ dealt (map f xs) ++ (f x).charges
dealt_more f xs x = ap dealt (map-append f xs (x ∷ [])) ∙ dealt_last (map f xs) (f x)

pub lent_more : (ts : List PumpThread) (t : PumpThread) → lent (reverse (ts ++ t ∷ [])) ≡ t.thread.promise.pump.value.charges ++ lent (reverse ts)
lent_more ts t = ap lent (reverse-append ts (t ∷ []))

-- charges come back from the next thread
pub ties_back : (home back given rest : List ChargeState) → ties back ≡ ties given → ties ((home ++ back) ++ rest) ≡ ties (home ++ (given ++ rest))
ties_back home back given rest e =
    ap ties (append_assoc home back rest) ∙ (map-append tie home (back ++ rest) ∙ (ap (λ l. ties home ++ l) (map-append tie back rest ∙ (ap (λ l. l ++ ties rest) e ∙ sym (map-append tie given rest))) ∙ sym (map-append tie home (given ++ rest))))

-- once no pump waits, all charges are lent
pub all_lent : {A W : Type 0} (f : A → Station W) (jobs all : List A) (rest : List ChargeState) → jobs ≡ [] → dealt (map f jobs) ++ rest ≡ dealt (map f all) → rest ≡ dealt (map f all)
all_lent f jobs all rest none e = sym (ap (λ l. dealt (map f l) ++ rest) none) ∙ e
