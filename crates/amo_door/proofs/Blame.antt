-- Why a request that names a place is refused, from what is wrong with a part of it.
use Rattle.std.proofs.Common.{◌≡◌, ◌≢◌, ℕ, ◌<◌, ◌≤◌, ◌^◌, Bool, true, false, List, [], ◌∷◌, get_or, arith, sym, ◌∙◌, ap, subst}
use Rattle.std.specs.Fmt.{decimal}
use Rattle.std.proofs.lemmas.Fmt.{decimal_injective}
use Rattle.amo_object.specs.declared.step.End.{End}
use Rattle.amo_door.specs.declared.call.Served.{Served}
use Rattle.amo_door.specs.declared.place.Method.{Method}
use Rattle.amo_door.specs.declared.place.Place.{Place}
use Rattle.amo_door.specs.declared.place.Place.TheVariants.{Message}
use Rattle.amo_door.specs.declared.query.Parameter.{Parameter}
use Rattle.amo_door.specs.declared.query.Parameter.TheVariants.{Life, By, Number, Wait, Until, After}
use Rattle.amo_door.specs.declared.refusal.Refusal.{Refusal}
use Rattle.amo_door.specs.declared.refusal.Refusal.TheVariants as refusal
use Rattle.amo_door.specs.Call.{Blames, BlamesNumber, BlamesOption, BlamesStream, BlamesValue, IsWordly, IsWrong, needs}
use Rattle.amo_door.specs.Query.{Given, value_of}
use Rattle.amo_door.specs.Word.{IsWord}

-- what is no word is wrong for a parameter whose value is one
pub wrong_word : (side : End) (p : Parameter) (text : List ℕ) → IsWordly p → ¬ (IsWord text) → IsWrong side p text
wrong_word side Life text wordly none = none
wrong_word side By text wordly none = none
wrong_word side Number text wordly none = absurd wordly
wrong_word side Wait text wordly none = absurd wordly
wrong_word side Until text wordly none = absurd wordly
wrong_word side After text wordly none = absurd wordly

-- a parameter that the place needs
pub of_value : (served : Served) (method : Method) (place : Place) (s n : List ℕ) (given : Given) (p : Parameter) (r : Refusal)
    → needs method place p ≡ true → BlamesValue served.side p (value_of given p) r → Blames served method place s n given r
of_value served method place s n given p (refusal.Missing q) need h =
    (subst (λ (p : Parameter). needs method place p ≡ true) (sym h.0) need, ap (value_of given) h.0 ∙ h.1)
of_value served method place s n given p (refusal.Wrong q) need h =
    (h.0, ap (value_of given) h.1 ∙ h.2, subst (λ (p : Parameter). IsWrong served.side p h.0) (sym h.1) h.3)
of_value served method place s n given p _ need h = absurd h

-- a parameter that may lack
pub of_option : (served : Served) (method : Method) (place : Place) (s n : List ℕ) (given : Given) (p : Parameter) (r : Refusal)
    → BlamesOption served.side p (value_of given p) r → Blames served method place s n given r
of_option served method place s n given p (refusal.Wrong q) h =
    (h.0, ap (value_of given) h.1 ∙ h.2, subst (λ (p : Parameter). IsWrong served.side p h.0) (sym h.1) h.3)
of_option served method place s n given p _ h = absurd h

-- what stands for a stream
pub of_stream : (served : Served) (method : Method) (place : Place) (s n : List ℕ) (given : Given) (r : Refusal) → BlamesStream served s r → Blames served method place s n given r
of_stream served method place s n given refusal.NoStream h = h
of_stream served method place s n given _ h = absurd h

-- what stands for a number
pub of_number : (served : Served) (method : Method) (s n : List ℕ) (given : Given) (r : Refusal) → BlamesNumber n r → Blames served method Message s n given r
of_number served method s n given refusal.NoNumber h = h
of_number served method s n given _ h = absurd h

-- what holds of each of the list of parameters holds of all
pub each_parameter : (holds : Parameter → Bool) → ((k : ℕ) → k < 6 → holds (get_or (Life ∷ By ∷ Number ∷ Wait ∷ Until ∷ After ∷ []) k Life) ≡ false) → (p : Parameter) → holds p ≡ false
each_parameter holds h Life = h 0 (omega arith)
each_parameter holds h By = h 1 (omega arith)
each_parameter holds h Number = h 2 (omega arith)
each_parameter holds h Wait = h 3 (omega arith)
each_parameter holds h Until = h 4 (omega arith)
each_parameter holds h After = h 5 (omega arith)

-- a decimal greater than any that is meant is none of them
pub too_great : (text : List ℕ) (n most : ℕ) → n < 2 ^ 64 → most < 2 ^ 64 → most < n → text ≡ decimal n → (m : ℕ) → m ≤ most → text ≢ decimal m
too_great text n most small fits more is m within also =
    let same = decimal_injective n m small (omega arith) (sym is ∙ also) in omega (arith, same)
