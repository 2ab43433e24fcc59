-- Two journals that are merged while they are read.
use Rattle.std.proofs.Common.{◌≡◌, ◌∙◌, ℕ, ◌+◌, true, Option, None, Some, List, [], ◌∷◌, ◌++◌, reverse, refl, sym, ap, subst, append_assoc, arith, inl, inr}
use Rattle.std.specs.List.{All}
use Rattle.std.specs.Option.{option_to_list}
use Rattle.std.proofs.lemmas.List.{append-nil, reverse-reverse}
use Rattle.amo_world.specs.declared.event.Event.{Event}
use Rattle.amo_world.specs.History.{DeliversEmitted}
use Rattle.amo_world.specs.Stream.{IsStream}
use Rattle.amo_world.proofs.Serving.{serves}
use Rattle.amo_journal.specs.declared.lines.Lines.{Lines}
use Rattle.amo_journal.specs.Lines.{Tell}
use Rattle.amo_audit.specs.declared.journal_reader.JournalReader.{JournalReader}
use Rattle.amo_audit.specs.declared.judgement.Judgement.TheVariants.{Whole}
use Rattle.amo_audit.specs.declared.pair_audit.Which.{Which}
use Rattle.amo_audit.specs.declared.pair_audit.Which.TheVariants.{First, Second}
use Rattle.amo_audit.specs.declared.verdict.Verdict.TheVariants as verdict
use Rattle.amo_audit.specs.Audit.{AreOf, IsSound}
use Rattle.amo_audit.specs.Judgement.{JudgesBoth}
use Rattle.amo_audit.specs.Merge.{IsPreferred, MayGo, Prefers, SharesSide}
use Rattle.amo_audit.specs.declared.pair_audit.Offer.TheVariants as offer
use Rattle.amo_audit.specs.declared.pair_audit.PairAudit.{PairAudit}
use Rattle.amo_audit.specs.Marks.{Marks}
use Rattle.amo_audit.specs.Pair.{AreMerged, HaveCome, HaveComeOf, JudgesPieces, Offers}
use Rattle.amo_audit.specs.Reader.{AreAllOf, HasCome, KnowsTheSame, LooksOn}
use Rattle.amo_audit.proofs.Greedy.{shift}
use Rattle.amo_audit.proofs.Judged.{merge_judged, told_streams}

-- nothing was read yet
pub none_merged : (first second : JournalReader) → first.next ≡ None → second.next ≡ None → AreMerged [] first second [] []
none_merged first second none none' = λ more more' rest over over' preferred.
    subst (λ (n : Option Event). Prefers [] (option_to_list n ++ more) more' rest) none
    (subst (λ (n : Option Event). Prefers [] (option_to_list first.next ++ more) (option_to_list n ++ more') rest) none' preferred)

nothing_more : (fresh more : List Event) → fresh ≡ [] → more ≡ [] → fresh ++ more ≡ []
nothing_more fresh more none none' = ap (λ (t : List Event). t ++ more) none ∙ none'

module _ (past : List Event) (first second : JournalReader) (x y : List Event) (merged : AreMerged past first second x y) where
  -- the next event of one is known now
  pub first_known : (now : JournalReader) (fresh : List Event) → option_to_list now.next ≡ option_to_list first.next ++ fresh → (first.is_over ≡ true → (fresh ≡ []) × (now.is_over ≡ true)) → AreMerged past now second (x ++ fresh) y
  first_known now fresh next ended = λ more more' rest over over' preferred.
      subst (λ (t : List Event). IsPreferred t (y ++ more') (reverse past ++ rest)) (sym (append_assoc x fresh more))
      (merged (fresh ++ more) more' rest (λ o. nothing_more fresh more (ended o).0 (over (ended o).1)) over'
      (subst (λ (t : List Event). Prefers past t (option_to_list second.next ++ more') rest) (ap (λ (t : List Event). t ++ more) next ∙ append_assoc (option_to_list first.next) fresh more) preferred))

  pub second_known : (now : JournalReader) (fresh : List Event) → option_to_list now.next ≡ option_to_list second.next ++ fresh → (second.is_over ≡ true → (fresh ≡ []) × (now.is_over ≡ true)) → AreMerged past first now x (y ++ fresh)
  second_known now fresh next ended = λ more more' rest over over' preferred.
      subst (λ (t : List Event). IsPreferred (x ++ more) t (reverse past ++ rest)) (sym (append_assoc y fresh more'))
      (merged more (fresh ++ more') rest over (λ o. nothing_more fresh more' (ended o).0 (over' (ended o).1))
      (subst (λ (t : List Event). Prefers past (option_to_list first.next ++ more) t rest) (ap (λ (t : List Event). t ++ more') next ∙ append_assoc (option_to_list second.next) fresh more') preferred))

  -- it is known as it was
  pub first_same : (now : JournalReader) → now.next ≡ first.next → now.is_over ≡ first.is_over → AreMerged past now second x y
  first_same now next over = λ more more' rest ended ended' preferred.
      merged more more' rest (λ o. ended (over ∙ o)) ended' (subst (λ (n : Option Event). Prefers past (option_to_list n ++ more) (option_to_list second.next ++ more') rest) next preferred)

  pub second_same : (now : JournalReader) → now.next ≡ second.next → now.is_over ≡ second.is_over → AreMerged past first now x y
  second_same now next over = λ more more' rest ended ended' preferred.
      merged more more' rest ended (λ o. ended' (over ∙ o)) (subst (λ (n : Option Event). Prefers past (option_to_list first.next ++ more) (option_to_list n ++ more') rest) next preferred)

  -- it was taken
  pub first_goes : (now : JournalReader) (e : Event) → first.next ≡ Some e → DeliversEmitted past e → now.next ≡ None → now.is_over ≡ first.is_over → AreMerged (e ∷ past) now second x y
  first_goes now e next may none over = λ more more' rest ended ended' preferred.
      subst (λ (t : List Event). IsPreferred (x ++ more) (y ++ more') t) (sym (shift rest past e))
      (merged more more' (e ∷ rest) (λ o. ended (over ∙ o)) ended'
      (inl (
        more,
        ap (λ (n : Option Event). option_to_list n ++ more) next,
        may,
        subst (λ (n : Option Event). Prefers (e ∷ past) (option_to_list n ++ more) (option_to_list second.next ++ more') rest) none preferred,
      )))

  -- the first one waits, or has none
  waits : (more : List Event) → (first.next ≡ None → more ≡ []) → (¬ (MayGo past (option_to_list first.next))) → MayGo past (option_to_list first.next ++ more) → ⊥
  waits more ended not = by first.next refl
    where
      by : (next : Option Event) → first.next ≡ next → MayGo past (option_to_list first.next ++ more) → ⊥
      by None is may = subst (λ (t : List Event). MayGo past t) (ap (λ (n : Option Event). option_to_list n ++ more) is ∙ ended is) may
      by (Some e) is may = not (subst (λ (n : Option Event). MayGo past (option_to_list n)) (sym is) (subst (λ (n : Option Event). MayGo past (option_to_list n ++ more)) is may))

  pub second_goes : (now : JournalReader) (e : Event) → (first.next ≡ None → first.is_over ≡ true) → (¬ (MayGo past (option_to_list first.next))) → second.next ≡ Some e → DeliversEmitted past e → now.next ≡ None
      → now.is_over ≡ second.is_over → AreMerged (e ∷ past) first now x y
  second_goes now e known not next may none over = λ more more' rest ended ended' preferred.
      subst (λ (t : List Event). IsPreferred (x ++ more) (y ++ more') t) (sym (shift rest past e))
      (merged more more' (e ∷ rest) ended (λ o. ended' (over ∙ o))
      (inr (
        more',
        ap (λ (n : Option Event). option_to_list n ++ more') next,
        waits more (λ n. ended (known n)) not,
        may,
        subst (λ (n : Option Event). Prefers (e ∷ past) (option_to_list first.next ++ more) (option_to_list n ++ more') rest) none preferred,
      )))

  -- all was taken
  pub all_merged : first.next ≡ None → second.next ≡ None → IsPreferred x y (reverse past)
  all_merged none none' =
      subst (λ (t : List Event). IsPreferred t y (reverse past)) (append-nil x)
      (subst (λ (t : List Event). IsPreferred (x ++ []) t (reverse past)) (append-nil y)
      (subst (λ (t : List Event). IsPreferred (x ++ []) (y ++ []) t) (append-nil (reverse past))
      (merged [] [] [] (λ o. refl) (λ o. refl)
      (subst (λ (n : Option Event). Prefers past (option_to_list n ++ []) (option_to_list second.next ++ []) []) (sym none)
      (subst (λ (n : Option Event). Prefers past [] (option_to_list n ++ []) []) (sym none') (refl, refl))))))

-- how an audit goes on, of which these pieces have come
module _ (audit : PairAudit) (pieces pieces' : List (List ℕ)) (have : HaveCome audit pieces pieces') where
  -- more of the pieces of one has come
  pub first_comes : (now : JournalReader) (more : List (List ℕ)) → KnowsTheSame audit.first now → ((events : List Event) → HasCome audit.first pieces events → HasCome now more events)
      → HaveCome (record { world = audit.world; taken = audit.taken; first = now; second = audit.second }) more pieces'
  first_comes now more (next, over) comes = record {
    x = have.x;
    y = have.y;
    first = comes have.x have.first;
    second = have.second;
    past = have.past;
    world = have.world;
    count = have.count;
    merged = first_same have.past audit.first audit.second have.x have.y have.merged now next over;
  }

  pub second_comes : (now : JournalReader) (more : List (List ℕ)) → KnowsTheSame audit.second now → ((events : List Event) → HasCome audit.second pieces' events → HasCome now more events)
      → HaveCome (record { world = audit.world; taken = audit.taken; first = audit.first; second = now }) pieces more
  second_comes now more (next, over) comes = record {
    x = have.x;
    y = have.y;
    first = have.first;
    second = comes have.y have.second;
    past = have.past;
    world = have.world;
    count = have.count;
    merged = second_same have.past audit.first audit.second have.x have.y have.merged now next over;
  }

  -- one was looked at for its next event
  pub first_looks : (now : JournalReader) → ((ps : List (List ℕ)) (events : List Event) → HasCome audit.first ps events → LooksOn audit.first now ps events)
      → HaveCome (record { world = audit.world; taken = audit.taken; first = now; second = audit.second }) pieces pieces'
  first_looks now looks =
      let it = looks pieces have.x have.first in
      record {
        x = have.x ++ it.fresh;
        y = have.y;
        first = it.come;
        second = have.second;
        past = have.past;
        world = have.world;
        count = have.count;
        merged = first_known have.past audit.first audit.second have.x have.y have.merged now it.fresh it.next it.over;
      }

  pub second_looks : (now : JournalReader) → ((ps : List (List ℕ)) (events : List Event) → HasCome audit.second ps events → LooksOn audit.second now ps events)
      → HaveCome (record { world = audit.world; taken = audit.taken; first = audit.first; second = now }) pieces pieces'
  second_looks now looks =
      let it = looks pieces' have.y have.second in
      record {
        x = have.x;
        y = have.y ++ it.fresh;
        first = have.first;
        second = it.come;
        past = have.past;
        world = have.world;
        count = have.count;
        merged = second_known have.past audit.first audit.second have.x have.y have.merged now it.fresh it.next it.over;
      }

  -- its next event was offered, and waits
  pub first_waits : (world : List Event) (now : JournalReader) → Offers offer.Waits audit.world audit.first world now → now.is_over ≡ audit.first.is_over
      → ((ps : List (List ℕ)) (events : List Event) → HasCome audit.first ps events → HasCome now ps events) → HaveCome (record { world = world; taken = audit.taken; first = now; second = audit.second }) pieces pieces'
  first_waits world now (same, not, next) over comes = record {
    x = have.x;
    y = have.y;
    first = comes pieces have.x have.first;
    second = have.second;
    past = have.past;
    world = (same ∙ have.world.0, have.world.1);
    count = have.count;
    merged = first_same have.past audit.first audit.second have.x have.y have.merged now next over;
  }

  pub second_waits : (world : List Event) (now : JournalReader) → Offers offer.Waits audit.world audit.second world now → now.is_over ≡ audit.second.is_over
      → ((ps : List (List ℕ)) (events : List Event) → HasCome audit.second ps events → HasCome now ps events) → HaveCome (record { world = world; taken = audit.taken; first = audit.first; second = now }) pieces pieces'
  second_waits world now (same, not, next) over comes = record {
    x = have.x;
    y = have.y;
    first = have.first;
    second = comes pieces' have.y have.second;
    past = have.past;
    world = (same ∙ have.world.0, have.world.1);
    count = have.count;
    merged = second_same have.past audit.first audit.second have.x have.y have.merged now next over;
  }

  -- or it was taken
  pub first_takes : (world : List Event) (now : JournalReader) (taken : ℕ) → Offers offer.Taken audit.world audit.first world now → now.is_over ≡ audit.first.is_over
      → ((ps : List (List ℕ)) (events : List Event) → HasCome audit.first ps events → HasCome now ps events) → taken ≡ audit.taken + 1 → HaveCome (record { world = world; taken = taken; first = now; second = audit.second }) pieces pieces'
  first_takes world now taken (e, next, may, is, sound, none) over comes one = record {
    x = have.x;
    y = have.y;
    first = comes pieces have.x have.first;
    second = have.second;
    past = e ∷ have.past;
    world = (is ∙ ap (λ (t : List Event). e ∷ t) have.world.0, subst (λ (t : List Event). IsSound (e ∷ t)) have.world.0 sound);
    count = omega (arith, one, have.count);
    merged = first_goes have.past audit.first audit.second have.x have.y have.merged now e next (subst (λ (t : List Event). DeliversEmitted t e) have.world.0 may) none over;
  }

  pub second_takes : (world : List Event) (now : JournalReader) (taken : ℕ) → (audit.first.next ≡ None → audit.first.is_over ≡ true) → (¬ (MayGo audit.world (option_to_list audit.first.next)))
      → Offers offer.Taken audit.world audit.second world now → now.is_over ≡ audit.second.is_over
      → ((ps : List (List ℕ)) (events : List Event) → HasCome audit.second ps events → HasCome now ps events) → taken ≡ audit.taken + 1 → HaveCome (record { world = world; taken = taken; first = audit.first; second = now }) pieces pieces'
  second_takes world now taken known not (e, next, may, is, sound, none) over comes one = record {
    x = have.x;
    y = have.y;
    first = have.first;
    second = comes pieces' have.y have.second;
    past = e ∷ have.past;
    world = (is ∙ ap (λ (t : List Event). e ∷ t) have.world.0, subst (λ (t : List Event). IsSound (e ∷ t)) have.world.0 sound);
    count = omega (arith, one, have.count);
    merged = second_goes have.past audit.first audit.second have.x have.y have.merged now e known (subst (λ (t : List Event). ¬ (MayGo t (option_to_list audit.first.next))) have.world.0 not)
        next (subst (λ (t : List Event). DeliversEmitted t e) have.world.0 may) none over;
  }

-- two journals whose merge a world has taken
pub judged_yes : (text text' : List ℕ) (lines lines' : Lines) (x y past : List Event) → AreOf text lines → AreOf text' lines' → Tell x lines → Tell y lines' → (¬ (SharesSide x y)) → IsPreferred x y (reverse past) → IsSound past
    → JudgesBoth text text' (Whole verdict.Yes)
judged_yes text text' lines lines' x y past opens opens' told told' apart preferred sound =
    let again = subst IsSound (sym (reverse-reverse past)) sound in record {
      ours = lines;
      theirs = lines';
      opens = (opens, opens');
      found = Whole verdict.Yes;
      judged = merge_judged lines lines' x y (reverse past) verdict.Yes told told' apart preferred (again, λ number. serves number (reverse (reverse past)) again.0 again.1 again.2);
      is = refl;
    }

-- all of both was taken, and a side of none is in both
pub found_yes : (audit : PairAudit) (pieces pieces' : List (List ℕ)) → HaveCome audit pieces pieces' → audit.first.next ≡ None → audit.second.next ≡ None
    → ((ps : List (List ℕ)) (events : List Event) → HasCome audit.first ps events → AreAllOf ps events) → ((ps : List (List ℕ)) (events : List Event) → HasCome audit.second ps events → AreAllOf ps events)
    → ((x y : List Event) → Marks audit.first.sides.has x → Marks audit.second.sides.has y → All (λ e. IsStream e.stream) x → All (λ e. IsStream e.stream) y → SharesSide x y → ⊥) → JudgesPieces pieces pieces' (Whole verdict.Yes)
found_yes audit pieces pieces' have none none' tells tells' apart =
    let (text, is, (lines, of, told)) = tells pieces have.x have.first in
    let (text', is', (lines', of', told')) = tells' pieces' have.y have.second in
    let not : (¬ (SharesSide have.x have.y)) = λ shares. apart have.x have.y have.first.sides.1 have.second.sides.1 (told_streams lines have.x told) (told_streams lines' have.y told') shares in (
      text,
      text',
      is,
      is',
      judged_yes text text' lines lines' have.x have.y have.past of of' told told' not (all_merged have.past audit.first audit.second have.x have.y have.merged none none') have.world.1,
    )

-- what comes of one of both
pub first_grows : (which : Which) (audit now : PairAudit) (pieces others more : List (List ℕ)) → which ≡ First → (HaveCome audit pieces others → HaveCome now more others) → HaveComeOf which audit pieces others → HaveComeOf which now more others
first_grows First audit now pieces others more is grows have = grows have
first_grows Second audit now pieces others more is grows have = let wrong : Second ≡ First = is in cc

pub second_grows : (which : Which) (audit now : PairAudit) (pieces others more : List (List ℕ)) → which ≡ Second → (HaveCome audit others pieces → HaveCome now others more) → HaveComeOf which audit pieces others → HaveComeOf which now more others
second_grows First audit now pieces others more is grows have = let wrong : First ≡ Second = is in cc
second_grows Second audit now pieces others more is grows have = grows have
