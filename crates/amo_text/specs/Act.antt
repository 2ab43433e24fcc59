-- The names of acts.
use Rattle.std.specs.Prelude.{ℕ, List, codes}
use Rattle.amo_text.specs.declared.act.ActName.{ActName}
use Rattle.amo_text.specs.declared.act.ActName.TheVariants.{Put, Get, Ack, Start, Batch, Resend, Deliver, Crash, Recover}

-- the field that names an act
abbrev pub act_field : ActName → List ℕ
act_field Put = codes "put"
act_field Get = codes "get"
act_field Ack = codes "ack"
act_field Start = codes "start"
act_field Batch = codes "batch"
act_field Resend = codes "resend"
act_field Deliver = codes "deliver"
act_field Crash = codes "crash"
act_field Recover = codes "recover"
