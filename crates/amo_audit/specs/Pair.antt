-- Two journals that are merged and judged while they are read. Lists of pieces, and of events that were merged, have the newest first.
use Rattle.std.specs.Prelude.{◌≡◌, ℕ, Bool, true, Option, Some, None, List, [], ◌∷◌, ◌++◌, length, reverse}
use Rattle.std.specs.Option.{option_to_list}
use Rattle.amo_world.specs.declared.event.Event.{Event}
use Rattle.amo_world.specs.History.{DeliversEmitted}
use Rattle.amo_pieces.specs.Text.{IsTextOf}
use Rattle.amo_audit.specs.declared.judgement.Judgement.{Judgement}
use Rattle.amo_audit.specs.declared.judgement.Judgement.TheVariants.{Whole}
use Rattle.amo_audit.specs.declared.journal_reader.JournalReader.{JournalReader}
use Rattle.amo_audit.specs.declared.pair_audit.Offer.{Offer}
use Rattle.amo_audit.specs.declared.pair_audit.Offer.TheVariants as offer
use Rattle.amo_audit.specs.declared.pair_audit.PairAudit.{PairAudit}
use Rattle.amo_audit.specs.declared.pair_audit.Progress.{Progress}
use Rattle.amo_audit.specs.declared.pair_audit.Progress.TheVariants.{Wants, Yes, Other}
use Rattle.amo_audit.specs.declared.pair_audit.Which.{Which}
use Rattle.amo_audit.specs.declared.pair_audit.Which.TheVariants.{First, Second}
use Rattle.amo_audit.specs.declared.verdict.Verdict.TheVariants as verdict
use Rattle.amo_audit.specs.Audit.{IsSound}
use Rattle.amo_audit.specs.Judgement.{JudgesBoth}
use Rattle.amo_audit.specs.Merge.{IsPreferred, MayGo, Prefers}
use Rattle.amo_audit.specs.Reader.{HasCome}

-- The events that were read of both journals were merged, but for the next ones: whatever more comes of each, where there is more, the preferred
-- interleaving of all of it begins with what was merged.
abbrev pub AreMerged : List Event → JournalReader → JournalReader → List Event → List Event → Type 0
AreMerged past first second x y =
    (more more' rest : List Event) → (first.is_over ≡ true → more ≡ []) → (second.is_over ≡ true → more' ≡ [])
    → Prefers past (option_to_list first.next ++ more) (option_to_list second.next ++ more') rest → IsPreferred (x ++ more) (y ++ more') (reverse past ++ rest)

-- these pieces of both journals have come, and a world has taken what was merged of their events
pub record HaveCome (audit : PairAudit) (pieces pieces' : List (List ℕ)) : Type 0 where
  pub x : List Event
  pub y : List Event
  pub first : HasCome audit.first pieces x
  pub second : HasCome audit.second pieces' y
  pub past : List Event
  pub world : (audit.world ≡ past) × IsSound past
  pub count : audit.taken ≡ length past
  pub merged : AreMerged past audit.first audit.second x y

-- the same, with the pieces of this one in front
abbrev pub HaveComeOf : Which → PairAudit → List (List ℕ) → List (List ℕ) → Type 0
HaveComeOf First audit pieces others = HaveCome audit pieces others
HaveComeOf Second audit pieces others = HaveCome audit others pieces

-- the pieces spell two texts, which are judged so
abbrev pub JudgesPieces : List (List ℕ) → List (List ℕ) → Judgement → Type 0
JudgesPieces pieces pieces' judgement = (text : List ℕ) × (text' : List ℕ) × IsTextOf pieces text × IsTextOf pieces' text' × JudgesBoth text text' judgement

-- how far the audit has come
abbrev pub Tells : Progress → PairAudit → List (List ℕ) → List (List ℕ) → Type 0
Tells (Wants which) now pieces pieces' = HaveCome now pieces pieces'
Tells Yes now pieces pieces' = JudgesPieces pieces pieces' (Whole verdict.Yes)
Tells Other now pieces pieces' = Unit {0}

-- one event more was taken, or the audit goes no further
abbrev pub Steps : Option Progress → PairAudit → List (List ℕ) → List (List ℕ) → Type 0
Steps None now pieces pieces' = HaveCome now pieces pieces'
Steps (Some progress) now pieces pieces' = Tells progress now pieces pieces'

-- what became of the next event of a journal, which was offered to a world behind a history
abbrev pub Offers : Offer → List Event → JournalReader → List Event → JournalReader → Type 0
Offers offer.Taken past old world now = (e : Event) × (old.next ≡ Some e) × DeliversEmitted past e × (world ≡ e ∷ past) × IsSound (e ∷ past) × (now.next ≡ None)
Offers offer.Waits past old world now = (world ≡ past) × (¬ (MayGo past (option_to_list old.next))) × (now.next ≡ old.next)
Offers offer.GivenUp past old world now = Unit {0}
