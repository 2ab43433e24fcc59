-- How the pieces of a folder stand.
use Rattle.std.proofs.Common.{◌≡◌, Bool, true, false, if◌then◌else◌, Option, Some, None, List, ℕ, refl, ap, ◌∙◌, option_map}
use Rattle.amo_disk.specs.declared.standing.Standing.{Standing}
use Rattle.amo_disk.specs.Standing.{StandsStill, Synced, SyncedNames, is_on_disk, left_of}

both_synced : (a : Option Standing) → is_on_disk (option_map (λ (s : Standing). record s { names = true }) (option_map (λ (s : Standing). record s { bytes = true }) a)) ≡ true
both_synced None = refl
both_synced (Some s) = refl

-- bytes, and then names
pub all_synced : (a b c : Option Standing) → Synced a b → SyncedNames b c → is_on_disk c ≡ true
all_synced a b c first second = ap is_on_disk (second ∙ ap (option_map (λ (s : Standing). record s { names = true })) first) ∙ both_synced a

second_too : (bytes names : Bool) → (if bytes then names else false) ≡ true → names ≡ true
second_too true names both = both
second_too false names both = cc

synced_still : (a : Option Standing) → is_on_disk a ≡ true → is_on_disk (option_map (λ (s : Standing). record s { bytes = true }) a) ≡ true
synced_still None all = refl
synced_still (Some s) all = second_too s.bytes s.names all

-- what fails takes nothing from the disk
pub still_there : (a b : Option Standing) → StandsStill a b → is_on_disk a ≡ true → is_on_disk b ≡ true
still_there a b same all = ap is_on_disk same ∙ all

-- names that fail behind bytes do not, either
pub still_behind : (a b c : Option Standing) → Synced a b → StandsStill b c → is_on_disk a ≡ true → is_on_disk c ≡ true
still_behind a b c first second all = ap is_on_disk (second ∙ first) ∙ synced_still a all

-- where all is on the disk, all is left
pub all_left : (standing : Option Standing) (text : Option (List ℕ)) → is_on_disk standing ≡ true → left_of standing text ≡ text
all_left standing text all = ap (λ (b : Bool). if b then text else None) all
