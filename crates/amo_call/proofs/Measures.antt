-- What follows of texts with the measure of a journal's next line, and of pages.
use Rattle.std.proofs.Common.{◌≡◌, ◌≢◌, ℕ, ◌<◌, ◌^◌, List, [], ◌∷◌, ◌++◌, ◌⊎◌, inl, inr, sym, ◌∙◌, ap, subst, arith, append_assoc}
use Rattle.std.specs.Prelude.{Option, None, Some, IfNone, IfSome}
use Rattle.std.specs.Option.{option_to_list}
use Rattle.std.specs.Fmt.{decimal}
use Rattle.std.specs.Int.{IsInRange}
use Rattle.std.proofs.lemmas.List.{append_cancel_left, append_cancel_right, append-nil}
use Rattle.amo_door.specs.declared.answer.GotMessage.{GotMessage}
use Rattle.amo_door.specs.Answer.{got_front, got_list, got_message}
use Rattle.amo_text.specs.Line.{Lacks}
use Rattle.amo_text.proofs.Cuts.{Lacks-append, Lacks-decimal, no_cut, one_cut}
use Rattle.amo_call.specs.declared.answer.Response.{Response}
use Rattle.amo_call.specs.Pages.{MeasuresNext, IsHere, IsBehind, TellsNextLine, next_line_name}

no_end : Lacks 10 next_line_name
no_end = ((λ e. omega (arith, e)), ((λ e. omega (arith, e)), ((λ e. omega (arith, e)), ((λ e. omega (arith, e)), ((λ e. omega (arith, e)), ((λ e. omega (arith, e)), ((λ e. omega (arith, e)), ((λ e. omega (arith, e)), ((λ e. omega (arith, e)), ((λ e. omega (arith, e)), ((λ e. omega (arith, e)), ((λ e. omega (arith, e)), ((λ e. omega (arith, e)), ((λ e. omega (arith, e)), ((λ e. omega (arith, e)), ((λ e. omega (arith, e)), ((λ e. omega (arith, e)), ((λ e. omega (arith, e)), ((λ e. omega (arith, e)), ((λ e. omega (arith, e)), ((λ e. omega (arith, e)), ((λ e. omega (arith, e)), tt))))))))))))))))))))))

no_digit : ¬ (IsInRange 48 57 10)
no_digit = λ e. omega (arith, e)

no_end_of_measure : (line : ℕ) → line < 2 ^ 64 → Lacks 10 (next_line_name ++ decimal line)
no_end_of_measure line fits = Lacks-append 10 next_line_name (decimal line) no_end (Lacks-decimal 10 line fits no_digit)

-- a text with no whole line has no measure
pub none_without_end : (line : ℕ) (text : List ℕ) → Lacks 10 text → ¬ (MeasuresNext line text)
none_without_end line text lacks (IsHere same rest is) =
    no_cut 10 text (next_line_name ++ decimal line) rest lacks (is ∙ sym (append_assoc next_line_name (decimal line) (10 ∷ rest)))
none_without_end line text lacks (IsBehind same other rest is one plain there) = no_cut 10 text other rest lacks is

-- where the first line of a text is this, it has that measure, or the rest has
pub here_or_behind : (line : ℕ) (whole text more : List ℕ) → line < 2 ^ 64 → whole ≡ text ++ 10 ∷ more → Lacks 10 text → MeasuresNext line whole
    → (text ≡ next_line_name ++ decimal line) ⊎ (((value : List ℕ) → text ≢ next_line_name ++ value) × MeasuresNext line more)
here_or_behind line whole text more fits cut one (IsHere same rest is) =
    let both = one_cut 10 text more (next_line_name ++ decimal line) rest one (no_end_of_measure line fits)
    (sym cut ∙ is ∙ sym (append_assoc next_line_name (decimal line) (10 ∷ rest))) in
    inl both.0
here_or_behind line whole text more fits cut one (IsBehind same other rest is lacks plain there) =
    let both = one_cut 10 text more other rest one lacks (sym cut ∙ is) in
    inr ((λ value e. plain value (sym both.0 ∙ e)), subst (λ (t : List ℕ). MeasuresNext line t) (sym both.1) there)

behind_other : (line : ℕ) (text more : List ℕ) → ((value : List ℕ) → text ≢ next_line_name ++ value)
    → (text ≡ next_line_name ++ decimal line) ⊎ (((value : List ℕ) → text ≢ next_line_name ++ value) × MeasuresNext line more) → MeasuresNext line more
behind_other line text more other (inl e) = absurd (other (decimal line) e)
behind_other line text more other (inr (plain, there)) = there

-- of a line of another measure the rest tells
pub passes_over : (line : ℕ) (whole text more : List ℕ) → line < 2 ^ 64 → whole ≡ text ++ 10 ∷ more → Lacks 10 text → ((value : List ℕ) → text ≢ next_line_name ++ value)
    → MeasuresNext line whole → MeasuresNext line more
passes_over line whole text more fits cut one other there = behind_other line text more other (here_or_behind line whole text more fits cut one there)

no_value : (line : ℕ) (text more digits : List ℕ) → text ≡ next_line_name ++ digits → digits ≢ decimal line
    → (text ≡ next_line_name ++ decimal line) ⊎ (((value : List ℕ) → text ≢ next_line_name ++ value) × MeasuresNext line more) → ⊥
no_value line text more digits is other (inl e) = other (append_cancel_left next_line_name digits (decimal line) (sym is ∙ e))
no_value line text more digits is other (inr (plain, there)) = plain digits is

-- a line of that measure whose value is no number tells none
pub none_of_value : (line : ℕ) (whole text more digits : List ℕ) → line < 2 ^ 64 → whole ≡ text ++ 10 ∷ more → Lacks 10 text → text ≡ next_line_name ++ digits
    → digits ≢ decimal line → ¬ (MeasuresNext line whole)
none_of_value line whole text more digits fits cut one is other there = no_value line text more digits is other (here_or_behind line whole text more fits cut one there)

-- the measure itself
pub is_here : (line : ℕ) (whole text more digits : List ℕ) → whole ≡ text ++ 10 ∷ more → text ≡ next_line_name ++ digits → digits ≡ decimal line → MeasuresNext line whole
is_here line whole text more digits cut is value =
    IsHere whole more (cut ∙ ap (λ (t : List ℕ). t ++ 10 ∷ more) (is ∙ ap (λ (d : List ℕ). next_line_name ++ d) value) ∙ append_assoc next_line_name (decimal line) (10 ∷ more))

-- what a list of one gives up is that one
pub only_one : (x y : GotMessage) (rest : List GotMessage) → x ∷ [] ≡ rest ++ y ∷ [] → x ≡ y
only_one x y [] e = cc
only_one x y (z ∷ []) e = absurd (let never : ⊥ = cc in never)
only_one x y (z ∷ w ∷ rest) e = absurd (let never : ⊥ = cc in never)

pub popped : (first : GotMessage) (messages rest : List GotMessage) (r : Option GotMessage) (P : GotMessage → Type 0) → messages ≡ first ∷ [] → messages ≡ rest ++ option_to_list r
    → P first → IfSome r P
popped first messages rest (Some got) P is parts here = subst P (only_one first got rest (sym is ∙ parts)) here
popped first messages rest None P is parts here = tt

-- what stands in front of the end of a page of one message
pub front_of_one : (stream : ℕ) (messages : List GotMessage) (first : GotMessage) (body front end : List ℕ) → messages ≡ first ∷ [] → body ≡ got_front stream ++ got_list messages ++ end
    → body ≡ front ++ end → front ≡ got_front stream ++ got_message first
front_of_one stream messages first body front end one is cut =
    append_cancel_right front (got_front stream ++ got_list messages) end (sym cut ∙ is)
    ∙ ap (λ (m : List GotMessage). got_front stream ++ got_list m) one ∙ ap (λ (t : List ℕ). got_front stream ++ t) (append-nil (got_message first))

-- what is read of the value of that measure
pub tells : (response : Response) (whole text more digits : List ℕ) (r : Option ℕ) → response.status ≡ 200
    → ((line : ℕ) → MeasuresNext line whole → MeasuresNext line response.body.items) → whole ≡ text ++ 10 ∷ more → text ≡ next_line_name ++ digits
    → IfSome r (λ n. digits ≡ decimal n) → IfSome r (λ n. n < 2 ^ 64) → IfSome r (λ line. TellsNextLine line response)
tells response whole text more digits (Some n) status up cut is value fits = record { status = status; fits = fits; body = up n (is_here n whole text more digits cut is value) }
tells response whole text more digits None status up cut is value fits = tt

pub tells_none : (response : Response) (whole text more digits : List ℕ) (r : Option ℕ)
    → ((line : ℕ) → line < 2 ^ 64 → MeasuresNext line response.body.items → MeasuresNext line whole) → whole ≡ text ++ 10 ∷ more → Lacks 10 text → text ≡ next_line_name ++ digits
    → IfNone r ((n : ℕ) → n < 2 ^ 64 → digits ≢ decimal n) → IfNone r ((line : ℕ) → ¬ (TellsNextLine line response))
tells_none response whole text more digits None down cut one is none =
    λ line told. none_of_value line whole text more digits told.fits cut one is (none line told.fits) (down line told.fits told.body)
tells_none response whole text more digits (Some n) down cut one is none = tt
