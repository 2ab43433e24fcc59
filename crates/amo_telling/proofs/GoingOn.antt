-- What is listed of the puts of a journal that goes on where the other side's lacks lines.
use Rattle.std.proofs.Common.{◌≡◌, ◌∙◌, ◌⊎◌, ℕ, ◌+◌, ◌-◌, ◌≤◌, ◌<◌, Option, Some, None, List, Vec, Global, [], ◌∷◌, ◌++◌, get_or, length, length-append, map, reverse, refl, sym, ap, subst, arith, inl, inr}
use Rattle.std.specs.List.{All}
use Rattle.std.specs.Prelude.{slice_get}
use Rattle.std.specs.Option.{option_map}
use Rattle.std.proofs.lemmas.Option.{slice_get-get_or, slice_get-map}
use Rattle.amo_world.specs.declared.event.Event.{Event}
use Rattle.amo_world.specs.Stream.{IsStream}
use Rattle.amo_world.specs.History.{IsRight}
use Rattle.amo_world.proofs.Lists.{push_cases}
use Rattle.amo_outcomes.specs.declared.outcome.Outcome.{Outcome}
use Rattle.amo_outcomes.specs.declared.sender_followers.SenderFollowers.{SenderFollowers}
use Rattle.amo_outcomes.specs.Puts.{puts_after}
use Rattle.amo_outcomes.specs.SenderFollowers.{HaveFollowedSenders}
use Rattle.amo_outcomes.specs.Told.{AreOutcomes, StreamsTold}
use Rattle.amo_journal.specs.declared.lines.Lines.{Lines}
use Rattle.amo_journal.specs.Lines.{Tell}
use Rattle.amo_journal.proofs.Unambiguous.{one_events}
use Rattle.amo_telling.specs.declared.listing.Listing.{Listing}
use Rattle.amo_telling.specs.declared.listing.Listing.TheVariants.{OfBoth, OfSender, Known}
use Rattle.amo_telling.specs.declared.put_outcome.PutOutcome.{PutOutcome}
use Rattle.amo_telling.specs.declared.put_outcome.PutOutcome.TheVariants.{InDoubt}
use Rattle.amo_telling.specs.Outcomes.{IsKnown, IsKnownFurther, IsToldFurther, Manner, Tells, puts_in}
use Rattle.amo_telling.specs.Told.{AreToldFurther, Lists, StreamsToldFurther, in_list, told_text}
use Rattle.amo_telling.proofs.Counted.{puts_alone, puts_append}
use Rattle.amo_telling.proofs.Journals.{both_told}
use Rattle.amo_telling.proofs.PutLines.{text_tells}

-- nothing is told, and one put more
pub none_told_further : (own : List Event) (stream : ℕ) (outcomes : List Outcome) → AreToldFurther own stream outcomes 0 []
none_told_further own stream outcomes = record { count = refl; each = λ put known is. absurd cc }

pub one_told_further : (own : List Event) (stream : ℕ) (outcomes : List Outcome) (many : ℕ) (told : List PutOutcome) (outcome : Outcome) (known : PutOutcome) → AreToldFurther own stream outcomes many told
    → slice_get outcomes many ≡ Some outcome → (many < (puts_after stream own).count → IsToldFurther own stream many outcome known)
    → AreToldFurther own stream outcomes (many + 1) (told ++ known ∷ [])
one_told_further own stream outcomes many told outcome known so_far there tells = record {
  count = length-append told (known ∷ []) ∙ omega (arith, so_far.count);
  each = λ put other is. by put other (push_cases told known put other is);
}
  where
    by : (put : ℕ) (other : PutOutcome) → ((length told ≡ put) × (known ≡ other)) ⊎ (slice_get told put ≡ Some other)
        → (o : Outcome) × (slice_get outcomes put ≡ Some o) × (put < (puts_after stream own).count → IsToldFurther own stream put o other)
    by put other (inl (here, same)) =
        let is : many ≡ put = sym so_far.count ∙ here in (
          outcome,
          subst (λ (k : ℕ). slice_get outcomes k ≡ Some outcome) is there,
          subst (λ (k : PutOutcome). put < (puts_after stream own).count → IsToldFurther own stream put outcome k) same
              (subst (λ (k : ℕ). k < (puts_after stream own).count → IsToldFurther own stream k outcome known) is tells),
        )
    by put other (inr before) = so_far.each put other before

-- no stream is told, and one more
pub no_stream_further : (own : List Event) (all : List (List Outcome)) → StreamsToldFurther own all 0 []
no_stream_further own all = record { count = refl; each = λ place told is. absurd cc }

pub one_stream_further : (own : List Event) (all : List (List Outcome)) (many : ℕ) (listed : List (List PutOutcome)) (outcomes : List Outcome) (told : List PutOutcome) → StreamsToldFurther own all many listed
    → slice_get all many ≡ Some outcomes → AreToldFurther own (many + 1) outcomes (length outcomes) told → StreamsToldFurther own all (many + 1) (listed ++ told ∷ [])
one_stream_further own all many listed outcomes told so_far there are = record {
  count = length-append listed (told ∷ []) ∙ omega (arith, so_far.count);
  each = λ place other is. by place other (push_cases listed told place other is);
}
  where
    by : (place : ℕ) (other : List PutOutcome) → ((length listed ≡ place) × (told ≡ other)) ⊎ (slice_get listed place ≡ Some other)
        → (os : List Outcome) × (slice_get all place ≡ Some os) × AreToldFurther own (place + 1) os (length os) other
    by place other (inl (here, same)) =
        let is : many ≡ place = sym so_far.count ∙ here in (
          outcomes,
          subst (λ (k : ℕ). slice_get all k ≡ Some outcomes) is there,
          subst (λ (t : List PutOutcome). AreToldFurther own (place + 1) outcomes (length outcomes) t) same
              (subst (λ (k : ℕ). AreToldFurther own (k + 1) outcomes (length outcomes) told) is are),
        )
    by place other (inr before) = so_far.each place other before

-- what became of the puts of the stream of a place
pub outcomes_there : (all : List (Vec Outcome Global)) (place : ℕ) (outcomes : Vec Outcome Global) → place < length all → outcomes ≡ get_or all place outcomes
    → slice_get (map (λ (told : Vec Outcome Global). told.items) all) place ≡ Some outcomes.items
outcomes_there all place outcomes within is =
    slice_get-map (λ (told : Vec Outcome Global). told.items) all place
    ∙ ap (option_map (λ (told : Vec Outcome Global). told.items)) (slice_get-get_or all place outcomes within ∙ ap (λ (v : Vec Outcome Global). Some v) (sym is))

-- what is listed where all of a journal's events were followed
pub listed_further : (lines : Lines) (followed events : List Event) (all : List (List Outcome)) (listed : List (List PutOutcome)) (own : SenderFollowers) → Tell followed lines → Tell events lines
    → (IsRight (reverse followed) → HaveFollowedSenders own (reverse followed)) → ((past : List Event) → HaveFollowedSenders own past → StreamsToldFurther past all 256 listed)
    → IsRight (reverse events) → StreamsToldFurther (reverse events) all 256 listed
listed_further lines followed events all listed own told told' follows tells =
    subst (λ (es : List Event). IsRight (reverse es) → StreamsToldFurther (reverse es) all 256 listed) (one_events lines.version lines.text.now followed events told told')
    (λ right. tells (reverse followed) (follows right))

-- what is listed of a put that was taken
known_there : (history own : List Event) (all : List (List Outcome)) (listed : List (List PutOutcome)) → StreamsTold history 256 all → StreamsToldFurther own all 256 listed
    → (stream put : ℕ) → IsStream stream → put < (puts_after stream history).count → put < (puts_after stream own).count
    → (known : PutOutcome) × IsKnownFurther history own stream put known × (in_list (slice_get listed (stream - 1)) put ≡ Some known)
known_there history own all listed streams further stream put is less fewer =
    let place : stream - 1 + 1 ≡ stream = omega (arith, is.0) in
    let told = get_or listed (stream - 1) [] in
    let here : slice_get listed (stream - 1) ≡ Some told = slice_get-get_or listed (stream - 1) [] (omega (arith, is.0, is.1, further.count)) in
    let (outcomes, there, are) = further.each (stream - 1) told here in
    let of_stream = subst (λ (n : ℕ). AreOutcomes n history outcomes) place (streams.each (stream - 1) outcomes there) in
    let of_own = subst (λ (n : ℕ). AreToldFurther own n outcomes (length outcomes) told) place are in
    let known = get_or told put InDoubt in
    let at : slice_get told put ≡ Some known = slice_get-get_or told put InDoubt (omega (arith, less, of_stream.count, of_own.count)) in
    let (outcome, was, tells) = of_own.each put known at in
    (known, (outcome, of_stream.each put outcome was, tells fewer), ap (λ (o : Option (List PutOutcome)). in_list o put) here ∙ at)

-- given what became of puts in a history of both sides, and a beginning of a journal's events, of which that history has the puts
module _ (history : List Event) (lists : List (List Outcome)) (streams : StreamsTold history 256 lists) (events front behind : List Event) (is : events ≡ front ++ behind)
    (are : All (λ e. IsStream e.stream) front) (within : (number : ℕ) → puts_in number front ≤ (puts_after number history).count) (manner : Manner) where
  -- one that was judged to its end
  pub tells_whole : (listing : Listing) → Lists None lists events listing → Tells (IsKnown history) manner [] front (told_text manner listing [] front)
  tells_whole (OfBoth listed) same =
      text_tells manner (OfBoth listed) (IsKnown history) (λ number. (puts_after number history).count)
      (both_told history (map (λ told. told.items) listed.now) (subst (StreamsTold history 256) (sym same) streams)) [] front are (λ number. omega (arith, within number))
  tells_whole (OfSender listed) never = absurd never
  tells_whole (Known listed) never = absurd never

  -- and one that goes on
  pub tells_further : (line : ℕ) (listing : Listing) → Lists (Some line) lists events listing → IsRight (reverse events)
      → Tells (IsKnownFurther history (reverse events)) manner [] front (told_text manner listing [] front)
  tells_further line (Known listed) further right =
      text_tells manner (Known listed) (IsKnownFurther history (reverse events)) (λ number. puts_in number front)
      (λ stream put at less.
      let own = puts_alone stream events right in
      let both = puts_append stream front behind in
      let whole = ap (puts_in stream) is in
      known_there history (reverse events) lists (map (λ told. told.items) listed.now) streams (further right) stream put at (omega (arith, less, within stream)) (omega (arith, less, own, both, whole)))
      [] front are (λ number. omega arith)
  tells_further line (OfBoth listed) never right = absurd never
  tells_further line (OfSender listed) never right = absurd never
