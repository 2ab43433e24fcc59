-- What writing comes to, one piece behind another.
use Rattle.std.proofs.Common.{◌≡◌, ℕ, List, [], ◌++◌, refl, sym, ◌∙◌, ap, subst, append_assoc, inl, inr}
use Rattle.std.specs.Prelude.{Option, None, Some, Result, Ok, Err, IsErrAnd, OnOk}
use Rattle.std.specs.Option.{option_or}
use Rattle.http1.specs.Fields.{Header}
use Rattle.http1.specs.Head.{pairs}
use Rattle.http1.specs.declared.head.Header as Sent
use Rattle.http1.specs.declared.conn.BodySize.{BodySize}
use Rattle.http1.specs.Output.{GivesOrRefuses}
use Rattle.http1.specs.declared.error.WriteError.{WriteError}
use Rattle.http1.specs.declared.error.WriteError.TheVariants.{OutOfMemory}
use Rattle.amo_door.specs.Spelling.{Writes}

-- what the server of HTTP/1 says of it
pub written : {T : Type 0} (fault : Option WriteError) (spare bytes : ℕ) (r : Result T WriteError) → GivesOrRefuses fault spare bytes r → Writes fault r
written None spare bytes (Ok done) gives = tt
written None spare bytes (Err e) gives = gives.0
written (Some fault) spare bytes r gives = inl gives

-- where it went well there is no fault
pub no_fault : {T : Type 0} (fault : Option WriteError) (r : Result T WriteError) (done : T) → Writes fault r → r ≡ Ok done → fault ≡ None
no_fault None r done writes was = refl
no_fault (Some fault) r done (inl is) was = cc
no_fault (Some fault) r done (inr is) was = cc

-- memory may always be refused
pub no_memory : {T : Type 0} (fault : Option WriteError) (r : Result T WriteError) (e : WriteError) → e ≡ OutOfMemory → IsErrAnd r (λ error. error ≡ e) → Writes fault r
no_memory fault (Ok done) e memory is = absurd is
no_memory None (Err error) e memory is = is ∙ memory
no_memory (Some fault) (Err error) e memory is = inr (ap Err (is ∙ memory))

-- the first of two fails
pub fails_first : {S T : Type 0} (first next : Option WriteError) (a : Result S WriteError) (r : Result T WriteError) (e : WriteError) → Writes first a → a ≡ Err e → IsErrAnd r (λ error. error ≡ e) → Writes (option_or first next) r
fails_first first next a (Ok done) e writes was is = absurd is
fails_first None next a (Err error) e writes was is = no_memory next (Err error) e (subst (Writes None) was writes) is
fails_first (Some fault) next a (Err error) e (inl writes) was is = inl cc
fails_first (Some fault) next a (Err error) e (inr writes) was is = inr cc

-- the first of two went well
pub goes_next : {T : Type 0} (first next : Option WriteError) (r : Result T WriteError) → first ≡ None → Writes next r → Writes (option_or first next) r
goes_next {T = T} first next r is writes = subst (λ (fault : Option WriteError). Writes {T = T} (option_or fault next) r) (sym is) writes

-- what was appended behind what was appended
pub joined : {X : Type 0} (start front last a b : List X) → a ≡ start ++ front → b ≡ a ++ last → b ≡ start ++ (front ++ last)
joined {X = X} start front last a b is ends = ends ∙ (ap (λ (list : List X). list ++ last) is ∙ append_assoc start front last)

-- the same, by a call that may fail
pub joined_where : {X T E : Type 0} (r : Result T E) (start front last a b : List X) → a ≡ start ++ front → OnOk r (b ≡ a ++ last) → OnOk r (b ≡ start ++ (front ++ last))
joined_where (Ok done) start front last a b is ends = joined start front last a b is ends
joined_where (Err fault) start front last a b is ends = tt

-- a head by what it is made of
pub alike : {X : Type 0} (f : List ℕ → BodySize → List Header → X) (r s : List ℕ) (m n : BodySize) (a b : List Header) → r ≡ s → m ≡ n → a ≡ b → f r m a ≡ f s n b
alike {X = X} f r s m n a b same_reason same_size same_fields =
    ap (λ (x : List ℕ). f x m a) same_reason ∙ (ap (λ (x : BodySize). f s x a) same_size ∙ ap (λ (x : List Header). f s n x) same_fields)

-- the fields of an answer, one kind behind another
pub all_fields : (first kind page extra last : List Header) (none : List Sent.Header) (a b c d e : List Header)
    → none ≡ [] → a ≡ pairs none ++ first → b ≡ a ++ kind → c ≡ b ++ page → d ≡ c ++ extra → e ≡ d ++ last → e ≡ first ++ (kind ++ (page ++ (extra ++ last)))
all_fields first kind page extra last none a b c d e nothing one two three four five =
    let front = two ∙ ap (λ (x : List Header). x ++ kind) (one ∙ ap (λ (x : List Sent.Header). pairs x ++ first) nothing) in
    let middle = four ∙ ap (λ (x : List Header). x ++ extra) (three ∙ ap (λ (x : List Header). x ++ page) front) in
    five ∙ (ap (λ (x : List Header). x ++ last) middle
    ∙ (append_assoc ((first ++ kind) ++ page) extra last ∙ (append_assoc (first ++ kind) page (extra ++ last) ∙ append_assoc first kind (page ++ (extra ++ last)))))

-- a head, a body and an end
pub whole : {T E : Type 0} (r : Result T E) (old head body end a b all : List ℕ) → a ≡ old ++ head → b ≡ a ++ body → OnOk r (all ≡ b ++ end) → OnOk r (all ≡ old ++ (head ++ (body ++ end)))
whole (Ok done) old head body end a b all one two three =
    three ∙ (ap (λ (x : List ℕ). x ++ end) (two ∙ ap (λ (x : List ℕ). x ++ body) one) ∙ (append_assoc (old ++ head) body end ∙ append_assoc old head (body ++ end)))
whole (Err fault) old head body end a b all one two three = tt
