-- Losses among calls.
use Rattle.std.proofs.Common.{◌≡◌, ℕ, zero, suc, ◌+◌, ◌-◌, ◌<◌, ◌≤◌, List, [], ◌∷◌, ◌++◌, length, take, drop, set, get_or, replicate, refl, sym, ◌∙◌, ap, subst, append_assoc, arith}
use Rattle.std.proofs.lemmas.List.{append-nil, length-append, length-drop, length-replicate, length-take-le, take_all, take_more, drop_all, take-append-le, drop-append-le, get_or-append_right, set-append_right}
use Rattle.std.proofs.lemmas.List.Edits.{swap_is}
use Rattle.std.proofs.Math.Seq.{set-append_seam}
use Rattle.std.specs.List.{swap}
use Rattle.amo_object.specs.declared.step.Step.{Step}
use Rattle.amo_object.specs.declared.step.Step.TheVariants.{Put, Get, Ack, Crash, Recover, DownReply, Lose, LoseAck}
use Rattle.amo_object.specs.Run.{without_losses}
use Rattle.amo_resolve.specs.declared.draft.Draft.{Draft}
use Rattle.amo_resolve.specs.declared.draft.Loss.{Loss}
use Rattle.amo_resolve.specs.declared.draft.Loss.TheVariants.{Message, Answer}
use Rattle.amo_resolve.specs.declared.draft.Mark.{Mark}
use Rattle.amo_resolve.specs.Weaving.{step_of, woven, calls_before, Loses, TellsOn}

-- the steps of one mark, and those of the others
one_mark : (calls : List Step) (mark : Mark) (rest more : List Step)
    → take mark.calls calls ++ step_of mark.loss ∷ (rest ++ more) ≡ (take mark.calls calls ++ step_of mark.loss ∷ rest) ++ more
one_mark calls mark rest more = sym (append_assoc (take mark.calls calls) (step_of mark.loss ∷ rest) more)

-- a loss behind all calls
woven_lost : (calls : List Step) (marks : List Mark) (mark : Mark) → calls_before marks + mark.calls ≡ length calls
    → woven calls (marks ++ mark ∷ []) ≡ woven calls marks ++ step_of mark.loss ∷ []
woven_lost calls [] mark counted =
    ap (λ (steps : List Step). steps ++ step_of mark.loss ∷ drop mark.calls calls) (take_all mark.calls calls (omega (arith, counted)))
    ∙ ap (λ (rest : List Step). calls ++ step_of mark.loss ∷ rest) (drop_all mark.calls calls (omega (arith, counted)))
woven_lost calls (first ∷ marks) mark counted =
    ap (λ (rest : List Step). take first.calls calls ++ step_of first.loss ∷ rest)
    (woven_lost (drop first.calls calls) marks mark (omega (arith, counted, length-drop first.calls calls)))
    ∙ one_mark calls first (woven (drop first.calls calls) marks) (step_of mark.loss ∷ [])

-- a call behind all losses
woven_called : (calls : List Step) (marks : List Mark) (call : Step) → calls_before marks ≤ length calls
    → woven (calls ++ call ∷ []) marks ≡ woven calls marks ++ call ∷ []
woven_called calls [] call counted = refl
woven_called calls (first ∷ marks) call counted =
    ap (λ (steps : List Step). steps ++ step_of first.loss ∷ woven (drop first.calls (calls ++ call ∷ [])) marks) (take-append-le first.calls calls (call ∷ []) (omega (arith, counted)))
    ∙ ap (λ (rest : List Step). take first.calls calls ++ step_of first.loss ∷ woven rest marks) (drop-append-le first.calls calls (call ∷ []) (omega (arith, counted)))
    ∙ ap (λ (rest : List Step). take first.calls calls ++ step_of first.loss ∷ rest) (woven_called (drop first.calls calls) marks call (omega (arith, counted, length-drop first.calls calls)))
    ∙ one_mark calls first (woven (drop first.calls calls) marks) (call ∷ [])

before_pushed : (marks : List Mark) (mark : Mark) → calls_before (marks ++ mark ∷ []) ≡ calls_before marks + mark.calls
before_pushed [] mark = omega arith
before_pushed (first ∷ marks) mark = omega (arith, before_pushed marks mark)

-- a draft with a step more
pub record Told (draft : Draft) (calls : List Step) (x : Step) (longer : Draft) : Type 0 where
  pub steps : woven (calls ++ without_losses (x ∷ [])) longer.marks.items ≡ woven calls draft.marks.items ++ x ∷ []
  pub counted : calls_before longer.marks.items + longer.since ≡ length (calls ++ without_losses (x ∷ []))

told_lost : (draft longer : Draft) (calls : List Step) (loss : Loss) → calls_before draft.marks.items + draft.since ≡ length calls → Loses draft loss longer
    → (woven (calls ++ []) longer.marks.items ≡ woven calls draft.marks.items ++ step_of loss ∷ [])
    × (calls_before longer.marks.items + longer.since ≡ length (calls ++ []))
told_lost draft longer calls loss counted lost =
    let mark : Mark = record { calls = draft.since; loss = loss } in (
      ap (λ (them : List Step). woven them longer.marks.items) (append-nil calls)
          ∙ ap (woven calls) lost.marks ∙ woven_lost calls draft.marks.items mark counted,
      omega (arith, counted, ap calls_before lost.marks, before_pushed draft.marks.items mark, lost.since, length-append calls []),
    )

told_called : (draft longer : Draft) (calls : List Step) (call : Step) → calls_before draft.marks.items + draft.since ≡ length calls
    → longer ≡ record draft { since = draft.since + 1 }
    → (woven (calls ++ call ∷ []) longer.marks.items ≡ woven calls draft.marks.items ++ call ∷ [])
    × (calls_before longer.marks.items + longer.since ≡ length (calls ++ call ∷ []))
told_called draft longer calls call counted is = (
  ap (λ (d : Draft). woven (calls ++ call ∷ []) d.marks.items) is ∙ woven_called calls draft.marks.items call (omega (arith, counted)),
  ap (λ (d : Draft). calls_before d.marks.items + d.since) is ∙ omega (arith, counted, length-append calls (call ∷ [])),
)

pub told_on : (draft longer : Draft) (calls : List Step) (x : Step) → calls_before draft.marks.items + draft.since ≡ length calls
    → TellsOn draft x longer → Told draft calls x longer
told_on draft longer calls (Lose place) counted on = let both = told_lost draft longer calls (Message place) counted on in record { steps = both.0; counted = both.1 }
told_on draft longer calls LoseAck counted on = let both = told_lost draft longer calls Answer counted on in record { steps = both.0; counted = both.1 }
told_on draft longer calls (Put m) counted on = let both = told_called draft longer calls (Put m) counted on in record { steps = both.0; counted = both.1 }
told_on draft longer calls (Get m) counted on = let both = told_called draft longer calls (Get m) counted on in record { steps = both.0; counted = both.1 }
told_on draft longer calls (Ack answer) counted on = let both = told_called draft longer calls (Ack answer) counted on in record { steps = both.0; counted = both.1 }
told_on draft longer calls (Crash side) counted on = let both = told_called draft longer calls (Crash side) counted on in record { steps = both.0; counted = both.1 }
told_on draft longer calls (Recover side) counted on = let both = told_called draft longer calls (Recover side) counted on in record { steps = both.0; counted = both.1 }
told_on draft longer calls (DownReply side) counted on = let both = told_called draft longer calls (DownReply side) counted on in record { steps = both.0; counted = both.1 }

module _ {X : Type 0} where
  -- a step in the last place of the room
  in_room : (k : ℕ) (e x : X) (done : List X) → set (e ∷ (replicate k e ++ done)) k x ≡ replicate k e ++ x ∷ done
  in_room zero e x done = refl
  in_room (suc k) e x done = ap (λ (ys : List X). e ∷ ys) (in_room k e x done)

  -- a step is put there
  put_up : (ys : List X) (n k : ℕ) (e x : X) (done : List X) → length ys ≡ n → set (ys ++ e ∷ (replicate k e ++ done)) (n + k) x ≡ ys ++ (replicate k e ++ x ∷ done)
  put_up ys n k e x done counted =
      set-append_right ys (e ∷ (replicate k e ++ done)) n (n + k) x counted (omega arith)
      ∙ ap (λ (i : ℕ). ys ++ set (e ∷ (replicate k e ++ done)) i x) {x = n + k - n} {y = k} (omega arith)
      ∙ ap (λ (zs : List X). ys ++ zs) (in_room k e x done)

  -- the last of some steps moves there
  move_up : (ys : List X) (n k : ℕ) (c e : X) (done : List X) → length ys ≡ n
      → swap (ys ++ c ∷ (replicate (suc k) e ++ done)) n (n + suc k) ≡ ys ++ (replicate (suc k) e ++ c ∷ done)
  move_up ys n k c e done counted =
      let run : List X = ys ++ c ∷ (replicate (suc k) e ++ done) in
      let long : length run ≡ n + suc (suc k + length done) =
      length-append ys (c ∷ (replicate (suc k) e ++ done)) ∙ omega (arith, counted, length-append (replicate (suc k) e) done, length-replicate (suc k) e) in
      let here : get_or run n c ≡ c =
      get_or-append_right ys (c ∷ (replicate (suc k) e ++ done)) n n c counted (omega arith)
      ∙ ap (λ (i : ℕ). get_or (c ∷ (replicate (suc k) e ++ done)) i c) {x = n - n} {y = 0} (omega arith) in
      let there : get_or run (n + suc k) c ≡ e =
      get_or-append_right ys (c ∷ (replicate (suc k) e ++ done)) n (n + suc k) c counted (omega arith)
      ∙ ap (λ (i : ℕ). get_or (c ∷ (replicate (suc k) e ++ done)) i c) {x = n + suc k - n} {y = suc k} (omega arith)
      ∙ last_one k e c done in
      let seam : set run n e ≡ ys ++ e ∷ (replicate (suc k) e ++ done) =
      subst (λ (i : ℕ). set run i e ≡ ys ++ e ∷ (replicate (suc k) e ++ done)) counted (set-append_seam ys c (replicate (suc k) e ++ done) e) in
      sym (swap_is run n (n + suc k) c (omega (arith, long)) (omega (arith, long)))
      ∙ ap (λ (y : X). set (set run n (get_or run (n + suc k) c)) (n + suc k) y) here
      ∙ ap (λ (y : X). set (set run n y) (n + suc k) c) there
      ∙ ap (λ (zs : List X). set zs (n + suc k) c) seam
      ∙ put_up ys n (suc k) e c done counted
    where
      last_one : (k : ℕ) (e d : X) (done : List X) → get_or (replicate (suc k) e ++ done) k d ≡ e
      last_one zero e d done = refl
      last_one (suc k) e d done = last_one k e d done

-- the calls before a place are still to be woven, with the first losses; between them and the woven ones there is room for these
pub record IsWoven (calls : List Step) (marks : List Mark) (place losses since : ℕ) (run : List Step) : Type 0 where
  pub done : List Step
  pub parts : run ≡ take place calls ++ (replicate losses LoseAck ++ done)
  pub rest : woven (take place calls) (take losses marks) ++ done ≡ woven calls marks
  pub counted : calls_before (take losses marks) + since ≡ place
  pub within : place ≤ length calls
  pub some : losses ≤ length marks

pub woven_none : (calls : List Step) (marks : List Mark) (since place : ℕ) (run : List Step) → place ≡ length calls → calls_before marks + since ≡ length calls
    → run ≡ calls ++ replicate (length marks) LoseAck → IsWoven calls marks place (length marks) since run
woven_none calls marks since place run whole counted roomy =
    let all : take place calls ≡ calls = take_all place calls (omega arith) in
    let each : take (length marks) marks ≡ marks = take_all (length marks) marks (omega arith) in
    record {
      done = [];
      parts = roomy ∙ ap (λ (them : List Step). them ++ replicate (length marks) LoseAck) (sym all)
          ∙ ap (λ (them : List Step). take place calls ++ them) (sym (append-nil (replicate (length marks) LoseAck)));
      rest = append-nil (woven (take place calls) (take (length marks) marks))
          ∙ ap (λ (them : List Step). woven them (take (length marks) marks)) all ∙ ap (woven calls) each;
      counted = ap (λ (them : List Mark). calls_before them + since) each ∙ omega (arith, counted, whole);
      within = omega arith;
      some = omega arith;
    }

-- a call moves up
pub woven_call : (calls : List Step) (marks : List Mark) (place losses since before fewer : ℕ) (run : List Step) → IsWoven calls marks place losses since run
    → since ≡ before + 1 → place ≡ fewer + 1 → 0 < losses → IsWoven calls marks fewer losses before (swap run fewer (fewer + losses))
woven_call calls marks place losses since before fewer run w one next some =
    by losses some w
  where
    by : (losses : ℕ) → 0 < losses → IsWoven calls marks place losses since run → IsWoven calls marks fewer losses before (swap run fewer (fewer + losses))
    by zero some w = absurd (omega arith)
    by (suc k) some w =
        let inside : fewer < length calls = omega (arith, w.within) in
        let call : Step = get_or calls fewer LoseAck in
        let marked : List Mark = take (suc k) marks in
        let split : take place calls ≡ take fewer calls ++ call ∷ [] = ap (λ (n : ℕ). take n calls) next ∙ take_more calls fewer LoseAck inside in
        let long : length (take fewer calls) ≡ fewer = length-take-le fewer calls (omega arith) in
        let whole : run ≡ take fewer calls ++ call ∷ (replicate (suc k) LoseAck ++ w.done) =
        w.parts ∙ ap (λ (them : List Step). them ++ (replicate (suc k) LoseAck ++ w.done)) split
        ∙ append_assoc (take fewer calls) (call ∷ []) (replicate (suc k) LoseAck ++ w.done) in
        record {
          done = call ∷ w.done;
          parts = ap (λ (them : List Step). swap them fewer (fewer + suc k)) whole ∙ move_up (take fewer calls) fewer k call LoseAck w.done long;
          rest = sym (append_assoc (woven (take fewer calls) marked) (call ∷ []) w.done)
              ∙ ap (λ (them : List Step). them ++ w.done) (sym (woven_called (take fewer calls) marked call (omega (arith, w.counted, long))))
              ∙ ap (λ (them : List Step). woven them marked ++ w.done) (sym split)
              ∙ w.rest;
          counted = omega (arith, w.counted);
          within = omega (arith, w.within);
          some = w.some;
        }

-- a loss takes the last place of the room
pub woven_loss : (calls : List Step) (marks : List Mark) (place losses since fewer : ℕ) (mark : Mark) (run : List Step) → IsWoven calls marks place losses since run
    → since ≡ 0 → losses ≡ fewer + 1 → mark ≡ get_or marks fewer mark → IsWoven calls marks place fewer mark.calls (set run (place + fewer) (step_of mark.loss))
woven_loss calls marks place losses since fewer mark run w none next here =
    let inside : fewer < length marks = omega (arith, w.some) in
    let split : take losses marks ≡ take fewer marks ++ mark ∷ [] =
    ap (λ (n : ℕ). take n marks) next ∙ take_more marks fewer mark inside ∙ ap (λ (m : Mark). take fewer marks ++ m ∷ []) (sym here) in
    let long : length (take place calls) ≡ place = length-take-le place calls w.within in
    let counted : calls_before (take fewer marks) + mark.calls ≡ place =
    omega (arith, w.counted, ap calls_before split, before_pushed (take fewer marks) mark) in
    let whole : run ≡ take place calls ++ LoseAck ∷ (replicate fewer LoseAck ++ w.done) =
    w.parts ∙ ap (λ (n : ℕ). take place calls ++ (replicate n LoseAck ++ w.done)) {x = losses} {y = suc fewer} (omega arith) in
    record {
      done = step_of mark.loss ∷ w.done;
      parts = ap (λ (them : List Step). set them (place + fewer) (step_of mark.loss)) whole
          ∙ put_up (take place calls) place fewer LoseAck (step_of mark.loss) w.done long;
      rest = sym (append_assoc (woven (take place calls) (take fewer marks)) (step_of mark.loss ∷ []) w.done)
          ∙ ap (λ (them : List Step). them ++ w.done) (sym (woven_lost (take place calls) (take fewer marks) mark (omega (arith, counted, long))))
          ∙ ap (λ (them : List Mark). woven (take place calls) them ++ w.done) (sym split)
          ∙ w.rest;
      counted = counted;
      within = w.within;
      some = omega (arith, w.some);
    }

-- where no loss is left all is woven
pub woven_all : (calls : List Step) (marks : List Mark) (place losses since : ℕ) (run : List Step) → IsWoven calls marks place losses since run → losses ≡ 0 → run ≡ woven calls marks
woven_all calls marks place losses since run w none =
    w.parts ∙ ap (λ (n : ℕ). take place calls ++ (replicate n LoseAck ++ w.done)) none
    ∙ ap (λ (n : ℕ). woven (take place calls) (take n marks) ++ w.done) (sym none) ∙ w.rest
