use Rattle.std.proofs.Common.{map, string_bytes}
use Rattle.amo_arguments.proofs.Refused.{told_of}
use Rattle.amo_arguments.proofs.arguments.settings.Goals as goal

pub returns-in-Ok-Some-clause-chosen : goal.returns-in-Ok-Some-clause-chosen
returns-in-Ok-Some-clause-chosen c =
    let chosen = rw c.in-Ok-Some.field-0-is at c.in-Ok-Some.ensures.chosen in
    let by_arguments = rw c.as_slice.ensures.value at chosen in
    rw c.in-Ok-Some.settings-is by_arguments

pub returns-in-Ok-Some-clause-refused : goal.returns-in-Ok-Some-clause-refused
returns-in-Ok-Some-clause-refused c = rw c.as_slice.ensures.value at c.in-Ok-Some.ensures.refused

pub returns-in-Ok-None-clause-refused : goal.returns-in-Ok-None-clause-refused
returns-in-Ok-None-clause-refused c = rw c.as_slice.ensures.value at c.in-Ok-None.ensures.refused

pub returns-in-Ok-None-clause-seed : goal.returns-in-Ok-None-clause-seed
returns-in-Ok-None-clause-seed c =
    let lacks = rw c.in-Ok-None.field-0-is at c.in-Ok-None.ensures.seed in
    λ _. rw c.as_slice.ensures.value at lacks

pub returns-clause-refused : goal.returns-clause-refused
returns-clause-refused c =
    let refused = rw c.as_slice.ensures.value at c.in-Err.ensures.refused in
    told_of (map string_bytes c.args.arguments.items) c.in-Err.refusal c.told.result refused c.told.ensures
