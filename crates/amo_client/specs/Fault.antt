-- What a fault of a call names.
use Rattle.std.specs.Prelude.{◌≡◌, ℕ, List, Option, Some, None, string_bytes}
use Rattle.amo_call.specs.declared.caller.CallFault.{CallFault}
use Rattle.amo_call.specs.declared.caller.CallFault.TheVariants as call
use Rattle.amo_disk.specs.declared.fault.Cause.{Cause}
use Rattle.amo_client.specs.declared.fault.ClientFault.{ClientFault}
use Rattle.amo_client.specs.declared.fault.ClientFault.TheVariants.{NoMemory, Device, File, Input, Output, NoAddress, Lookup, Token, Strange}

-- it says that this is no address that is known, unless there was no memory to say it
abbrev pub IsOfUnknown : List ℕ → ClientFault → Type 0
IsOfUnknown address (NoAddress name error) = string_bytes name ≡ address
IsOfUnknown address NoMemory = Unit {0}
IsOfUnknown address _ = ⊥

-- it says that it could not be found out of this address, unless there was no memory to say it
abbrev pub IsOfUntold : List ℕ → ClientFault → Type 0
IsOfUntold address (Lookup name cause) = string_bytes name ≡ address
IsOfUntold address NoMemory = Unit {0}
IsOfUntold address _ = ⊥

-- it says either of this address
abbrev pub IsOfAddress : List ℕ → ClientFault → Type 0
IsOfAddress address (NoAddress name error) = string_bytes name ≡ address
IsOfAddress address (Lookup name cause) = string_bytes name ≡ address
IsOfAddress address NoMemory = Unit {0}
IsOfAddress address _ = ⊥

-- it names this file, and this cause, unless there was no memory for the name
abbrev pub IsOfFile : List ℕ → Cause → ClientFault → Type 0
IsOfFile file why (File name cause) = (string_bytes name ≡ file) × (cause ≡ why)
IsOfFile file why NoMemory = Unit {0}
IsOfFile file why _ = ⊥

-- it names standard input
abbrev pub IsOfInput : ClientFault → Type 0
IsOfInput (Input cause) = Unit {0}
IsOfInput _ = ⊥

-- it names standard output
abbrev pub IsOfOutput : ClientFault → Type 0
IsOfOutput (Output cause) = Unit {0}
IsOfOutput _ = ⊥

-- it says that this file has no token, unless there was no memory to say it
abbrev pub IsOfToken : List ℕ → ClientFault → Type 0
IsOfToken file (Token name) = string_bytes name ≡ file
IsOfToken file NoMemory = Unit {0}
IsOfToken file _ = ⊥

-- it says that this file has no token, or could not be read
abbrev pub IsOfTokenFile : List ℕ → ClientFault → Type 0
IsOfTokenFile file (File name cause) = string_bytes name ≡ file
IsOfTokenFile file (Token name) = string_bytes name ≡ file
IsOfTokenFile file NoMemory = Unit {0}
IsOfTokenFile file _ = ⊥

-- that of a call which the file of this name keeps, with its cause where there is one
abbrev pub IsOfCall : List ℕ → CallFault → Option Cause → ClientFault → Type 0
IsOfCall file call.NoMemory why fault = fault ≡ NoMemory
IsOfCall file call.File (Some cause) fault = IsOfFile file cause fault
IsOfCall file call.File None fault = fault ≡ Device
IsOfCall file call.Strange why fault = fault ≡ Strange
