-- What the matches of a command tell of its arguments.
use Rattle.std.proofs.Common.{◌≡◌, ◌≢◌, ◌∙◌, Bool, true, false, List, codes, Option, Some, None, Result, Ok, Err, refl, rules, subst, sym}
use Rattle.std.specs.Option.{option_map}
use Rattle.std.specs.Prelude.{IfNone, IfSome, MatchBool, if◌then◌else◌}
use Rattle.std.specs.Borrow.{Bor}
use Rattle.clap.specs.Words.{ReadsOne, Text, first_of, first_value, rows_of, subcommand_rows_of}
use Rattle.clap.specs.declared.parser.matches.ArgMatches.{ArgMatches}
use Rattle.clap.specs.declared.parser.matches.Found.{Found}
use Rattle.clap.proofs.WalkLemmas.{first_value-rows}
use Rattle.amo_arguments.specs.Chosen.{Matches, Met, OfArguments}

-- the first value, by the rows
pub first_text : (found : Found) (name : Text) (o : Option (Bor Text)) (text : Option Text) → option_map (λ s. s.now) o ≡ first_value found name → option_map (λ s. s.now) o ≡ text → first_of name (rows_of found) ≡ text
first_text found name o text given is = sym (first_value-rows found name) ∙ (sym given ∙ is)

-- the first value is that text, or there is none
pub text_found : (found : Found) (name : Text) (o : Option (Bor Text)) → option_map (λ s. s.now) o ≡ first_value found name → IfSome o (λ text. first_of name (rows_of found) ≡ Some text.now)
text_found found name None given = tt
text_found found name (Some text) given = first_text found name (Some text) (Some text.now) given refl

pub no_text_found : (found : Found) (name : Text) (o : Option (Bor Text)) → option_map (λ s. s.now) o ≡ first_value found name → IfNone o (first_of name (rows_of found) ≡ None)
no_text_found found name None given = first_text found name None None given refl
no_text_found found name (Some text) given = tt

-- a value was read from a text
pub read_one : {A E : Type 0} (G : Text → Result A E → Type 0) (o : Option Text) (r : Option A) (x : A) → (o ≡ None → r ≡ None) → ((t : Text) → o ≡ Some t → ReadsOne G t r) → r ≡ Some x → (t : Text) × (o ≡ Some t) × G t (Ok x)
read_one G None r x none value is = let e : None ≡ Some x = sym (none refl) ∙ is in absurd (search rules)
read_one G (Some t) r x none value is = (t, refl, subst (λ s. ReadsOne G t s) is (value t refl))

-- the text of a flag
pub flag_text : (flag : Bool) (t : Text) → MatchBool flag (t ≡ codes "true") (t ≡ codes "false") → t ≡ (if flag then codes "true" else codes "false")
flag_text true t is = is
flag_text false t is = is

-- no value was read from a text, which is no flag's
no_flag : (flag : Bool) → ((if flag then codes "true" else codes "false") ≢ codes "true") × ((if flag then codes "true" else codes "false") ≢ codes "false") → ⊥
no_flag true h = h.0 refl
no_flag false h = h.1 refl

pub not_read : {E : Type 0} (G : Text → Result Bool E → Type 0) (o : Option Text) (r : Option Bool) (flag : Bool) → ((t : Text) (e : E) → G t (Err e) → (t ≢ codes "true") × (t ≢ codes "false"))
    → ((t : Text) → o ≡ Some t → ReadsOne G t r) → r ≡ None → o ≡ Some (if flag then codes "true" else codes "false") → ⊥
not_read {E} G o r flag unread value none is =
    let text : Text = if flag then codes "true" else codes "false" in
    let why : (e : E) × G text (Err e) = subst (λ s. ReadsOne G text s) none (value text is) in
    no_flag flag (unread text why.0 why.1)

-- there is no text where none was found
pub absent : (o : Option Text) (t : Text) → o ≡ None → o ≡ Some t → ⊥
absent o t none is = let bad : None ≡ Some t = sym none ∙ is in absurd (cc)

-- one value is one text
pub same_text : (o : Option Text) (s t : Text) → o ≡ Some s → o ≡ Some t → s ≡ t
same_text o s t a b = let both : Some s ≡ Some t = sym a ∙ b in search rules

-- what holds where there is none, and what follows from it
pub if_none : {A : Type 0} {P Q : Type 0} (o : Option A) → (P → Q) → IfNone o P → IfNone o Q
if_none None f h = f h
if_none (Some x) f h = h

-- what holds where there is one, and what follows from it
pub if_some : {A : Type 0} {P Q : A → Type 0} (o : Option A) → ((x : A) → P x → Q x) → IfSome o P → IfSome o Q
if_some None f h = h
if_some (Some x) f h = f x h

-- what holds of the command of the matches holds of the arguments
pub of_match : (P : Met → Type 0) (arguments : List Text) (matches : ArgMatches) → Matches arguments matches → P (subcommand_rows_of matches) → OfArguments arguments P
of_match P arguments matches is h = (is.0, is.1, (is.2.0, is.2.1, subst P is.2.2 h))
