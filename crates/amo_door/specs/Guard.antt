-- Who may ask at the door.
use Rattle.std.specs.Prelude.{ℕ, Bool, true, false, not, ◌||◌, if◌then◌else◌, Option, None, Some, Result, Ok, Err, List, String, ◌++◌, bytes_eq, codes}
use Rattle.std.specs.List.{list_any}
use Rattle.std.specs.Option.{option_copied}
use Rattle.std.specs.String.{string_bytes}
use Rattle.amo_door.specs.declared.guard.Credentials.{Credentials}
use Rattle.amo_door.specs.declared.guard.Guard.{Guard}
use Rattle.amo_door.specs.declared.refusal.Refusal.{Refusal}
use Rattle.amo_door.specs.declared.refusal.Refusal.TheVariants as refusal

-- whether a host is of this name
abbrev pub is_named : {A : Type 0} → List ℕ → String A → Bool
is_named host name = bytes_eq host (string_bytes name)

-- whether an origin is that of pages of a host of this name (RFC 6454)
abbrev pub is_origin_of : {A : Type 0} → List ℕ → String A → Bool
is_origin_of origin name = bytes_eq origin (codes "http://" ++ string_bytes name)

-- whether a request that names this host may ask
abbrev pub admits_host : Guard → Option (List ℕ) → Bool
admits_host guard None = true
admits_host guard (Some host) = list_any (is_named host) guard.hosts.items

-- whether a page of this origin may ask: those of the door itself
abbrev pub admits_origin : Guard → Option (List ℕ) → Bool
admits_origin guard None = true
admits_origin guard (Some origin) = list_any (is_origin_of origin) guard.hosts.items

-- whether a page is of another site, or of another origin of this one (Fetch Metadata Request Headers, section 2.3)
abbrev pub is_elsewhere : List ℕ → Bool
is_elsewhere site = bytes_eq site (codes "cross-site") || bytes_eq site (codes "same-site")

-- whether a page so far away may ask
abbrev pub admits_site : Option (List ℕ) → Bool
admits_site None = true
admits_site (Some site) = not (is_elsewhere site)

-- whether a field brings the token
abbrev pub brings : List ℕ → Option (List ℕ) → Bool
brings token None = false
brings token (Some field) = bytes_eq field (codes "Bearer " ++ token)

-- whether a request with this field may ask, where this token is wanted
abbrev pub admits_with : {A : Type 0} → Option (String A) → Option (List ℕ) → Bool
admits_with None field = true
admits_with (Some token) field = brings (string_bytes token) field

-- whether a request with this field may ask
abbrev pub admits_token : Guard → Option (List ℕ) → Bool
admits_token guard field = admits_with guard.token field

-- whether a request may ask that says this of its host, its origin, how far away its page is, and who it is, and why not
abbrev pub verdict_of : Guard → Option (List ℕ) → Option (List ℕ) → Option (List ℕ) → Option (List ℕ) → Result (Unit {0}) Refusal
verdict_of guard host origin site authorization =
    if not (admits_host guard host) then Err refusal.Host
    else (if not (admits_origin guard origin) then Err refusal.Origin
    else (if not (admits_site site) then Err refusal.Origin
    else (if not (admits_token guard authorization) then Err refusal.Token else Ok tt)))

abbrev pub verdict : Guard → Credentials → Result (Unit {0}) Refusal
verdict guard said = verdict_of guard (option_copied said.host) (option_copied said.origin) (option_copied said.site) (option_copied said.authorization)
