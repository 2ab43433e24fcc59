-- What is told of two journals, of one that goes on where the other lacks lines, too.
use Rattle.std.proofs.Common.{◌≡◌, ◌∙◌, ℕ, ◌+◌, ◌-◌, ◌≤◌, Some, List, [], ◌++◌, length, reverse, sym, take, ap, ap₂, subst, arith}
use Rattle.std.specs.List.{All}
use Rattle.std.proofs.Math.Seq.{take-append_seam}
use Rattle.std.proofs.lemmas.List.Elements.{All-take}
use Rattle.amo_world.specs.declared.event.Event.{Event}
use Rattle.amo_world.specs.Stream.{IsStream}
use Rattle.amo_outcomes.specs.declared.outcome.Outcome.{Outcome}
use Rattle.amo_outcomes.specs.Puts.{puts_after}
use Rattle.amo_outcomes.specs.Told.{StreamsTold}
use Rattle.amo_journal.specs.declared.lines.Lines.{Lines}
use Rattle.amo_journal.specs.declared.version.Version.{Version}
use Rattle.amo_journal.specs.Lines.{Tell}
use Rattle.amo_journal.specs.Version.{lines_before}
use Rattle.amo_journal.proofs.Unambiguous.{one_events, one_opening}
use Rattle.amo_audit.specs.Audit.{AreOf}
use Rattle.amo_audit.specs.declared.reach.Reach.{Reach}
use Rattle.amo_audit.specs.declared.reach.Reach.TheVariants.{Whole, First, Second}
use Rattle.amo_audit.specs.Outcomes.{GoesOnSoundly, TellOutcomesOfBoth}
use Rattle.amo_audit.specs.Reach.{Reaches, counted}
use Rattle.amo_audit.proofs.Greedy.{preferred_interleaves}
use Rattle.amo_audit.proofs.Judged.{told_streams}
use Rattle.amo_lives.specs.declared.doubt.Span.{Span}
use Rattle.amo_telling.specs.declared.choice.Choice.{Choice}
use Rattle.amo_telling.specs.declared.listing.Listing.{Listing}
use Rattle.amo_telling.specs.Outcomes.{Manner, by, IsKnownOfFirst, IsKnownOfSecond, IsTelling, Tells, puts_in}
use Rattle.amo_telling.specs.Told.{Lists, TellsOne, first_ends, front_of, second_ends, told_text}
use Rattle.amo_telling.proofs.Counted.{puts_of_both}
use Rattle.amo_telling.proofs.GoingOn.{tells_further, tells_whole}
use Rattle.amo_telling.proofs.Journals.{same_lines}

-- beginnings are what stands in front of the lines where they end
front_is : (x front behind : List Event) (line : ℕ) (version : Version) → x ≡ front ++ behind → line ≡ length front + 1 + lines_before version → front_of (Some line) version x ≡ front
front_is x front behind line version is at =
    let many : line - (1 + lines_before version) ≡ length front = omega (arith, at) in
    ap (λ n. take n x) many ∙ ap (λ (t : List Event). take (length front) t) is ∙ take-append_seam front behind

first_front : (reach : Reach) (version other : Version) (x y front front' behind : List Event) → Reaches reach x y front front' → x ≡ front ++ behind
    → front_of (first_ends (counted version other reach)) version x ≡ front
first_front Whole version other x y front front' behind reaches is = sym reaches.0
first_front (First at) version other x y front front' behind reaches is = front_is x front behind _ version is (omega (arith, reaches.1))
first_front (Second at) version other x y front front' behind reaches is = sym reaches.0

second_front : (reach : Reach) (version other : Version) (x y front front' behind : List Event) → Reaches reach x y front front' → y ≡ front' ++ behind
    → front_of (second_ends (counted version other reach)) other y ≡ front'
second_front Whole version other x y front front' behind reaches is = sym reaches.1
second_front (First at) version other x y front front' behind reaches is = sym reaches.0
second_front (Second at) version other x y front front' behind reaches is = front_is y front' behind _ other is (omega (arith, reaches.1))

front_streams : (x front behind : List Event) → x ≡ front ++ behind → All (λ e. IsStream e.stream) x → All (λ e. IsStream e.stream) front
front_streams x front behind is all =
    subst (All (λ (e : Event). IsStream e.stream)) (ap (λ (t : List Event). take (length front) t) is ∙ take-append_seam front behind) (All-take (λ (e : Event). IsStream e.stream) (length front) x all)

-- given what became of puts in a history of both sides, which has those of a beginning of these events
module _ (history : List Event) (lists : List (List Outcome)) (streams : StreamsTold history 256 lists) (events front behind : List Event) (is : events ≡ front ++ behind)
    (are : All (λ e. IsStream e.stream) front) (within : (number : ℕ) → puts_in number front ≤ (puts_after number history).count) (manner : Manner) (listing : Listing)
    (version other : Version) (others : List Event) where
  -- what is told of the first of two journals
  first_known : (reach : Reach) → GoesOnSoundly reach events others → Lists (first_ends (counted version other reach)) lists events listing
      → Tells (IsKnownOfFirst reach history events) manner [] front (told_text manner listing [] front)
  first_known Whole on listed = tells_whole history lists streams events front behind is are within manner listing listed
  first_known (First at) on listed = tells_further history lists streams events front behind is are within manner (at + lines_before version) listing listed on.0
  first_known (Second at) on listed = tells_whole history lists streams events front behind is are within manner listing listed

  -- and of the second
  second_known : (reach : Reach) → GoesOnSoundly reach others events → Lists (second_ends (counted other version reach)) lists events listing
      → Tells (IsKnownOfSecond reach history events) manner [] front (told_text manner listing [] front)
  second_known Whole on listed = tells_whole history lists streams events front behind is are within manner listing listed
  second_known (First at) on listed = tells_whole history lists streams events front behind is are within manner listing listed
  second_known (Second at) on listed = tells_further history lists streams events front behind is are within manner (at + lines_before version) listing listed on.0

module _ (choice : Choice) (first second : List ℕ) (doubts doubts' : List Span) (lists : List (List Outcome)) (reach : Reach) (ours theirs : Lines) (opens : AreOf first ours) (opens' : AreOf second theirs)
    (both : TellOutcomesOfBoth first second reach lists) where
  pub first_tells : (events : List Event) × Tell events ours
  first_tells = let (x, y, p, q, m) = both.tell.0 in (x, same_lines first both.ours ours x both.opens.0 opens p)

  pub second_tells : (events : List Event) × Tell events theirs
  second_tells = let (x, y, p, q, m) = both.tell.0 in (y, same_lines second both.theirs theirs y both.opens.1 opens' q)

  pub all_streams : length lists ≡ 256
  all_streams = let (x, y, p, q, m) = both.tell.0 in m.told.count

  pub is_telling : (text : List ℕ) → ((front : List ℕ) × (more : List ℕ) × (text ≡ front ++ more)
      × TellsOne (first_ends reach) (by choice doubts) lists ours front × TellsOne (second_ends reach) (by choice doubts') lists theirs more)
      → IsTelling reach choice first second doubts doubts' text
  is_telling text (of_first, of_second, made, (x', listing, p', listed, made_first), (y', listing', q', listed', made_second)) =
      let (x, y, p, q, m) = both.tell.0 in
      let told = same_lines first both.ours ours x both.opens.0 opens p in
      let told' = same_lines second both.theirs theirs y both.opens.1 opens' q in
      let same = one_events ours.version ours.text.now x' x p' told in
      let same' = one_events theirs.version theirs.text.now y' y q' told' in
      let version = (one_opening first both.ours.version ours.version both.ours.text.now ours.text.now both.opens.0 opens).0 in
      let version' = (one_opening second both.theirs.version theirs.version both.theirs.text.now theirs.text.now both.opens.1 opens').0 in
      let counts : reach ≡ counted ours.version theirs.version both.found = both.is ∙ ap₂ (λ (v w : Version). counted v w both.found) version version' in
      let front : front_of (first_ends reach) ours.version x' ≡ m.first =
      ap₂ (λ (r : Reach) (t : List Event). front_of (first_ends r) ours.version t) counts same
      ∙ first_front both.found ours.version theirs.version x y m.first m.second m.beginnings.behind_first m.reaches m.beginnings.first_of in
      let front' : front_of (second_ends reach) theirs.version y' ≡ m.second =
      ap₂ (λ (r : Reach) (t : List Event). front_of (second_ends r) theirs.version t) counts same'
      ∙ second_front both.found ours.version theirs.version x y m.first m.second m.beginnings.behind_second m.reaches m.beginnings.second_of in
      let history = reverse m.merged in
      let count : (number : ℕ) → (puts_after number (reverse m.merged)).count ≡ puts_in number m.first + puts_in number m.second =
      λ number. puts_of_both number m.first m.second m.merged (preferred_interleaves [] m.first m.second m.merged m.beginnings.preferred) m.sound in
      let on = goes_on_here x y told told' in
      let listed_here : Lists (first_ends (counted ours.version theirs.version both.found)) lists x listing =
      subst (λ (t : List Event). Lists (first_ends (counted ours.version theirs.version both.found)) lists t listing) same
      (subst (λ (r : Reach). Lists (first_ends r) lists x' listing) counts listed) in
      let listed_there : Lists (second_ends (counted ours.version theirs.version both.found)) lists y listing' =
      subst (λ (t : List Event). Lists (second_ends (counted ours.version theirs.version both.found)) lists t listing') same'
      (subst (λ (r : Reach). Lists (second_ends r) lists y' listing') counts listed') in
      record {
        ours = ours;
        theirs = theirs;
        opens = (opens, opens');
        x = x;
        y = y;
        tell = (told, told');
        apart = m.apart;
        our_front = m.first;
        their_front = m.second;
        merged = m.merged;
        beginnings = m.beginnings;
        found = both.found;
        reaches = m.reaches;
        counts = counts;
        goes_on = on;
        sound = m.sound;
        of_first = told_text (by choice doubts) listing [] m.first;
        of_second = told_text (by choice doubts') listing' [] m.second;
        puts = (
          first_known history lists m.told x m.first m.beginnings.behind_first m.beginnings.first_of
              (front_streams x m.first m.beginnings.behind_first m.beginnings.first_of (told_streams ours x told)) (λ number. omega (arith, count number))
              (by choice doubts) listing ours.version theirs.version y both.found on listed_here,
          second_known history lists m.told y m.second m.beginnings.behind_second m.beginnings.second_of
              (front_streams y m.second m.beginnings.behind_second m.beginnings.second_of (told_streams theirs y told')) (λ number. omega (arith, count number))
              (by choice doubts') listing' theirs.version ours.version x both.found on listed_there,
        );
        is = made ∙ ap₂ (λ (s t : List ℕ). s ++ t)
            (made_first ∙ ap (λ (s : List Event). told_text (by choice doubts) listing [] s) front)
            (made_second ∙ ap (λ (t : List Event). told_text (by choice doubts') listing' [] t) front');
      }
    where
      goes_on_here : (x y : List Event) → Tell x ours → Tell y theirs → GoesOnSoundly both.found x y
      goes_on_here x y told told' =
          let (x'', y'', p, q, on) = both.tell.1 in
          subst (λ (t : List Event). GoesOnSoundly both.found t y) (one_events ours.version ours.text.now x'' x (same_lines first both.ours ours x'' both.opens.0 opens p) told)
          (subst (λ (t : List Event). GoesOnSoundly both.found x'' t) (one_events theirs.version theirs.text.now y'' y (same_lines second both.theirs theirs y'' both.opens.1 opens' q) told') on)
