-- Why arguments are refused.
use Rattle.std.proofs.Common.{◌≡◌, List, Result, Ok, Err, IfErr, inl, inr, subst, sym}
use Rattle.std.specs.Prelude.{◌⊎◌, IsErr, IsErrAnd}
use Rattle.clap.specs.Words.{HasKind, Kinds, Text, kind_of}
use Rattle.clap.specs.declared.error.Error.{Error}
use Rattle.clap.specs.declared.error.kind.ErrorKind.TheVariants.{OutOfMemory}
use Rattle.amo_arguments.specs.Arguments.{AreFaults, AreUnfit, BlamesIf, Finds, FindsNone, IsFaultOf, IsRefusalOf, IsToldAs, IsToldOf, RefusesIf}
use Rattle.amo_arguments.specs.declared.fault.ArgumentsFault.{ArgumentsFault}
use Rattle.amo_arguments.specs.declared.fault.ArgumentsFault.TheVariants as fault
use Rattle.amo_arguments.specs.declared.refusal.Refusal.{Refusal}
use Rattle.amo_arguments.specs.declared.refusal.Refusal.TheVariants as refusal
use Rattle.amo_arguments.specs.declared.refusal.Unfit.{Unfit}
use Rattle.amo_arguments.specs.declared.refusal.Unfit.TheVariants as unfit

-- an error is of one of the kinds that the arguments have
pub blamed : (arguments : List Text) (kinds : Kinds) (e : Error) → AreFaults arguments kinds → HasKind kinds e → (kind_of e ≡ OutOfMemory) ⊎ IsFaultOf arguments (kind_of e)
blamed arguments kinds e are (inl none) = inl none
blamed arguments kinds e are (inr among) = inr (kinds, are, among)

-- what `clap` takes is refused where no settings have its values
pub unfit_of : (arguments : List Text) (u : Unfit) → RefusesIf (AreUnfit arguments) u → IsRefusalOf arguments (refusal.Unfit u)
unfit_of arguments unfit.Absent is = is
unfit_of arguments (unfit.Value advice) is = is
unfit_of arguments unfit.EachAndBatch is = is
unfit_of arguments unfit.EachAndMany is = is
unfit_of arguments unfit.NoMemory is = tt

-- what is told of a refusal is told of the arguments
pub told_of : (arguments : List Text) (r : Refusal) (f : ArgumentsFault) → IsRefusalOf arguments r → IsToldAs r f → IsToldOf arguments f
told_of arguments (refusal.ByParser e) (fault.Text text status) (inl none) told = absurd (told.0 none)
told_of arguments (refusal.ByParser e) (fault.Text text status) (inr faulty) told = inl (kind_of e, faulty, told.1)
told_of arguments (refusal.ByParser e) fault.Seed by told = absurd told
told_of arguments (refusal.ByParser e) fault.NoMemory by told = tt
told_of arguments (refusal.Unfit unfit.Absent) (fault.Text text status) taken told = inr (taken, told)
told_of arguments (refusal.Unfit (unfit.Value advice)) (fault.Text text status) taken told = inr (taken, told)
told_of arguments (refusal.Unfit unfit.EachAndBatch) (fault.Text text status) taken told = inr (taken, told)
told_of arguments (refusal.Unfit unfit.EachAndMany) (fault.Text text status) taken told = inr (taken, told)
told_of arguments (refusal.Unfit unfit.NoMemory) (fault.Text text status) taken told = absurd told
told_of arguments (refusal.Unfit u) fault.Seed taken told = absurd told
told_of arguments (refusal.Unfit u) fault.NoMemory taken told = tt

-- what is blamed for one reason is refused for what follows from it
pub blames : {P Q : Type 0} (u : Unfit) → (P → Q) → BlamesIf P u → RefusesIf Q u
blames unfit.Absent f h = absurd h
blames (unfit.Value advice) f h = f h
blames unfit.EachAndBatch f h = absurd h
blames unfit.EachAndMany f h = absurd h
blames unfit.NoMemory f h = tt

-- and what is refused for one reason too
pub refuses : {P Q : Type 0} (u : Unfit) → (P → Q) → RefusesIf P u → RefusesIf Q u
refuses unfit.Absent f h = f h
refuses (unfit.Value advice) f h = f h
refuses unfit.EachAndBatch f h = f h
refuses unfit.EachAndMany f h = f h
refuses unfit.NoMemory f h = tt

-- a refusal is handed on as it is
pub handed_on : {A : Type 0} (Q : Unfit → Type 0) (r : Result A Unfit) (u : Unfit) → IsErr r × IsErrAnd r (λ other. other ≡ u) → Q u → IfErr r Q
handed_on Q (Ok x) u is h = tt
handed_on Q (Err other) u is h = subst Q (sym is.1) h

pub finds_handed_on : {A : Type 0} (P : A → Type 0) (r : Result A Unfit) (u : Unfit) → IsErr r × IsErrAnd r (λ other. other ≡ u) → FindsNone P u → Finds r P
finds_handed_on P (Ok x) u is h = absurd is.1
finds_handed_on P (Err other) u is h = subst (FindsNone P) (sym is.1) h
