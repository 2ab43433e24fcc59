-- What becomes of arguments that choose nothing to do.
use Rattle.std.specs.Prelude.{◌≡◌, ◌≢◌, ◌⊎◌, ℕ, List, [], MatchResult, Result}
use Rattle.clap.specs.Words.{IsAmong, Kinds, Text, fault_of, kind_of}
use Rattle.clap.specs.declared.error.kind.ErrorKind.{ErrorKind}
use Rattle.clap.specs.declared.error.kind.ErrorKind.TheVariants.{DisplayHelp, DisplayVersion, OutOfMemory}
use Rattle.amo_arguments.specs.Chosen.{OfArguments, SuitsNone}
use Rattle.amo_arguments.specs.Commands.{Names, AreLinks, AreShells, amo}
use Rattle.amo_arguments.specs.declared.fault.ArgumentsFault.{ArgumentsFault}
use Rattle.amo_arguments.specs.declared.fault.ArgumentsFault.TheVariants as fault
use Rattle.amo_arguments.specs.declared.refusal.Refusal.{Refusal}
use Rattle.amo_arguments.specs.declared.refusal.Refusal.TheVariants as refusal
use Rattle.amo_arguments.specs.declared.refusal.Unfit.{Unfit}
use Rattle.amo_arguments.specs.declared.refusal.Unfit.TheVariants as unfit

-- what `clap` finds wrong with the arguments, or shows where they ask for it: kinds of which one is told, and none where it takes them
abbrev pub AreFaults : List Text → Kinds → Type 0
AreFaults arguments kinds = (links : Names) × AreLinks links × ((shells : Names) × AreShells shells × (fault_of (amo links shells) arguments ≡ kinds))

abbrev pub AreTaken : List Text → Type 0
AreTaken arguments = AreFaults arguments []

abbrev pub IsFaultOf : List Text → ErrorKind → Type 0
IsFaultOf arguments kind = (kinds : Kinds) × AreFaults arguments kinds × IsAmong kind kinds

-- the status that goes with an error: 0 where its text was asked for
abbrev pub status_of : ErrorKind → ℕ
status_of DisplayHelp = 0
status_of DisplayVersion = 0
status_of _ = 2

-- `clap` takes the arguments, of which no settings have the values: one breaks a rule
abbrev pub AreUnfit : List Text → Type 0
AreUnfit arguments = AreTaken arguments × OfArguments arguments SuitsNone

-- what is told of the arguments has the status of their fault, or 2 where they have none and no settings have their values; or there is no seed
abbrev pub IsToldOf : List Text → ArgumentsFault → Type 0
IsToldOf arguments (fault.Text text status) = ((kind : ErrorKind) × IsFaultOf arguments kind × (status ≡ status_of kind)) ⊎ (AreUnfit arguments × (status ≡ 2))
IsToldOf arguments fault.Seed = AreTaken arguments
IsToldOf arguments fault.NoMemory = Unit {0}

-- a text, with this status, unless there was no memory for it
abbrev pub IsTextWith : ℕ → ArgumentsFault → Type 0
IsTextWith wanted (fault.Text text status) = status ≡ wanted
IsTextWith wanted fault.Seed = ⊥
IsTextWith wanted fault.NoMemory = Unit {0}

abbrev pub IsMistake : ArgumentsFault → Type 0
IsMistake = IsTextWith 2

-- why these arguments are refused
abbrev pub IsRefusalOf : List Text → Refusal → Type 0
IsRefusalOf arguments (refusal.ByParser error) = (kind_of error ≡ OutOfMemory) ⊎ IsFaultOf arguments (kind_of error)
IsRefusalOf arguments (refusal.Unfit unfit.NoMemory) = Unit {0}
IsRefusalOf arguments (refusal.Unfit _) = AreUnfit arguments

-- what is told of a refusal
abbrev pub IsToldAs : Refusal → ArgumentsFault → Type 0
IsToldAs (refusal.ByParser error) (fault.Text text status) = (kind_of error ≢ OutOfMemory) × (status ≡ status_of (kind_of error))
IsToldAs (refusal.Unfit unfit.NoMemory) (fault.Text text status) = ⊥
IsToldAs (refusal.Unfit _) (fault.Text text status) = status ≡ 2
IsToldAs _ fault.Seed = ⊥
IsToldAs _ fault.NoMemory = Unit {0}

-- a value is blamed only for this reason, and nothing else is but want of memory
abbrev pub BlamesIf : Type 0 → Unfit → Type 0
BlamesIf reason (unfit.Value text) = reason
BlamesIf reason unfit.NoMemory = Unit {0}
BlamesIf reason _ = ⊥

-- arguments are refused only for this reason, or for want of memory
abbrev pub RefusesIf : Type 0 → Unfit → Type 0
RefusesIf reason unfit.NoMemory = Unit {0}
RefusesIf reason _ = reason

-- they are refused only where nothing has these values
abbrev pub FindsNone : {A : Type 0} → (A → Type 0) → Unfit → Type 0
FindsNone {A} has = RefusesIf ((found : A) → ¬ (has found))

-- what is found has these values, and none is only where nothing has them
abbrev pub Finds : {A : Type 0} → Result A Unfit → (A → Type 0) → Type 0
Finds result has = MatchResult result has (FindsNone has)
