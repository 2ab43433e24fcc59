-- What queries give.
use Rattle.std.specs.Prelude.{◌≡◌, ◌≢◌, ℕ, ◌≤◌, ◌==◌, Bool, false, if◌then◌else◌, Option, None, Some, List, [], ◌∷◌, length, get_or, codes, bytes_eq, option_to_list}
use Rattle.std.specs.Option.{option_copied}
use Rattle.std.specs.List.{AllByRecursion, Contains}
use Rattle.amo_door.specs.declared.query.Parameter.{Parameter}
use Rattle.amo_door.specs.declared.query.Parameter.TheVariants.{Life, By, Number, Wait, Until, After}
use Rattle.amo_door.specs.declared.query.Query.{Query}
use Rattle.amo_door.specs.declared.query.QueryFault.{QueryFault}
use Rattle.amo_door.specs.declared.query.QueryFault.TheVariants.{Unknown, Repeated}

-- the name of a parameter
abbrev pub name_of : Parameter → List ℕ
name_of Life = codes "life"
name_of By = codes "by"
name_of Number = codes "number"
name_of Wait = codes "wait"
name_of Until = codes "until"
name_of After = codes "after"

-- the parameter of a name
abbrev pub parameter_of : List ℕ → Option Parameter
parameter_of name =
    if bytes_eq name (codes "life") then Some Life
    else (if bytes_eq name (codes "by") then Some By
    else (if bytes_eq name (codes "number") then Some Number
    else (if bytes_eq name (codes "wait") then Some Wait
    else (if bytes_eq name (codes "until") then Some Until
    else (if bytes_eq name (codes "after") then Some After else None)))))

-- the place of a parameter among all
abbrev pub place_of : Parameter → ℕ
place_of Life = 0
place_of By = 1
place_of Number = 2
place_of Wait = 3
place_of Until = 4
place_of After = 5

-- whether a name is that of this parameter
abbrev pub names : Parameter → Option Parameter → Bool
names parameter None = false
names parameter (Some other) = place_of parameter == place_of other

-- what pairs of a name and a value give under the name of a parameter, in their order
abbrev pub values_of : Parameter → List (List ℕ × List ℕ) → List (List ℕ)
values_of parameter [] = []
values_of parameter (pair ∷ pairs) = if names parameter (parameter_of pair.0) then (pair.1 ∷ values_of parameter pairs) else (values_of parameter pairs)

-- what was given, each once at most
pub record Given : Type 0 where
  pub life : Option (List ℕ)
  pub by : Option (List ℕ)
  pub number : Option (List ℕ)
  pub wait : Option (List ℕ)
  pub until : Option (List ℕ)
  pub after : Option (List ℕ)

-- nothing
abbrev pub nothing : Given
nothing = record { life = None; by = None; number = None; wait = None; until = None; after = None }

-- what a query gives
abbrev pub given_of : Query → Given
given_of query =
    record {
      life = option_copied query.life;
      by = option_copied query.by;
      number = option_copied query.number;
      wait = option_copied query.wait;
      until = option_copied query.until;
      after = option_copied query.after;
    }

-- what was given, in the order of the parameters
abbrev pub all_of : Given → List (Option (List ℕ))
all_of given = given.life ∷ given.by ∷ given.number ∷ given.wait ∷ given.until ∷ given.after ∷ []

-- what was given for a parameter
abbrev pub value_of : Given → Parameter → Option (List ℕ)
value_of given parameter = get_or (all_of given) (place_of parameter) None

-- the same, and this for a parameter
abbrev pub with_value : Given → Parameter → List ℕ → Given
with_value given Life value = record given { life = Some value }
with_value given By value = record given { by = Some value }
with_value given Number value = record given { number = Some value }
with_value given Wait value = record given { wait = Some value }
with_value given Until value = record given { until = Some value }
with_value given After value = record given { after = Some value }

-- a pair has the name of a parameter
abbrev pub IsKnown : List ℕ × List ℕ → Type 0
IsKnown pair = parameter_of pair.0 ≢ None

-- pairs give this: they have names of parameters alone, and each one once at most
pub record Gives (pairs : List (List ℕ × List ℕ)) (given : Given) : Type 0 where
  pub known : AllByRecursion IsKnown pairs
  pub values : (parameter : Parameter) → values_of parameter pairs ≡ option_to_list (value_of given parameter)

-- what is wrong with pairs: a name that is that of no parameter, or one that comes again
abbrev pub Faults : List (List ℕ × List ℕ) → QueryFault → Type 0
Faults pairs Unknown = (pair : List ℕ × List ℕ) × Contains pairs pair × (parameter_of pair.0 ≡ None)
Faults pairs (Repeated parameter) = 2 ≤ length (values_of parameter pairs)
