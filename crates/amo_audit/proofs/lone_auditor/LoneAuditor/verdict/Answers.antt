use Rattle.std.proofs.Common.{◌≡◌, rules, subst}
use Rattle.amo_world.specs.declared.fault.WorldFault.TheVariants.{WrongReply, Unsent, Repeat}
use Rattle.amo_audit.specs.Alone.{IsRefusedAt}
use Rattle.amo_audit.proofs.Lone.{sound_alone, refused_alone}
use Rattle.amo_audit.proofs.lone_auditor.LoneAuditor.verdict.Goals as goal

pub returns-in-Nothing : goal.returns-in-Nothing
returns-in-Nothing c = λ events finds. (sound_alone _ _ events finds c.in-Nothing.is).1

pub returns-in-AtFault-default-WrongReply : goal.returns-in-AtFault-default-WrongReply
returns-in-AtFault-default-WrongReply c = λ events finds.
    let same : c.in-AtFault-default-WrongReply.field-1 ≡ WrongReply = first_of (search rules, cc) in
    subst (IsRefusedAt events c.in-AtFault-default-WrongReply.line) same (refused_alone _ _ events finds _ _ c.in-AtFault-default-WrongReply.is)

pub returns-in-AtFault-default-Unsent : goal.returns-in-AtFault-default-Unsent
returns-in-AtFault-default-Unsent c = λ events finds.
    let same : c.in-AtFault-default-Unsent.field-1 ≡ Unsent = first_of (search rules, cc) in
    let refused = subst (IsRefusedAt events c.in-AtFault-default-Unsent.line) same (refused_alone _ _ events finds _ _ c.in-AtFault-default-Unsent.is) in
    refused.refused

pub returns-in-AtFault-default-Repeat : goal.returns-in-AtFault-default-Repeat
returns-in-AtFault-default-Repeat c = λ events finds.
    let same : c.in-AtFault-default-Repeat.field-1 ≡ Repeat = first_of (search rules, cc) in
    subst (IsRefusedAt events c.in-AtFault-default-Repeat.line) same (refused_alone _ _ events finds _ _ c.in-AtFault-default-Repeat.is)
