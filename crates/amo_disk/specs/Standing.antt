-- How the pieces of a folder stand, where it tells that.
use Rattle.std.specs.Prelude.{◌≡◌, Bool, true, false, if◌then◌else◌, Option, None, Some, ℕ, List}
use Rattle.std.specs.Option.{option_map}
use Rattle.amo_disk.specs.declared.standing.Standing.{Standing}

-- they stand as they did
abbrev pub StandsStill : Option Standing → Option Standing → Type 0
StandsStill old new = new ≡ old

-- bytes were appended: a loss of power may take them
abbrev pub Grew : Option Standing → Option Standing → Type 0
Grew old new = new ≡ option_map (λ (s : Standing). record s { bytes = false }) old

-- their bytes are on the disk
abbrev pub Synced : Option Standing → Option Standing → Type 0
Synced old new = new ≡ option_map (λ (s : Standing). record s { bytes = true }) old

-- the newest got its number, which need not be on the disk; its bytes are there
abbrev pub Closed : Option Standing → Option Standing → Type 0
Closed old new = new ≡ option_map (λ (s : Standing). record { bytes = true; names = false; is_closed = true }) old

-- another one was begun, whose name need not be on the disk; the bytes of those before it are there
abbrev pub Began : Option Standing → Option Standing → Type 0
Began old new = new ≡ option_map (λ (s : Standing). record { bytes = true; names = false; is_closed = false }) old

-- their names are on the disk
abbrev pub SyncedNames : Option Standing → Option Standing → Type 0
SyncedNames old new = new ≡ option_map (λ (s : Standing). record s { names = true }) old

-- a loss of power takes nothing. A folder that tells nothing is one that has nothing to lose.
abbrev pub is_on_disk : Option Standing → Bool
is_on_disk None = true
is_on_disk (Some s) = if s.bytes then s.names else false

-- what a loss of power leaves of a text, where that is told: all, or nobody knows how much
abbrev pub left_of : Option Standing → Option (List ℕ) → Option (List ℕ)
left_of standing text = if is_on_disk standing then text else None
