-- A fault by its reason or by the reason's number, with layer, line and field, and the line that is printed for it.
use Rattle.std.specs.Prelude.{ℕ, List, ◌++◌, codes, decimal}
use Rattle.faults.specs.Numbers.{number_of, reason_by}
use Rattle.faults.specs.Words.{word_of}
use Rattle.faults.specs.declared.error.Error.{Error}
use Rattle.faults.specs.declared.error.Error.TheVariants.{Refused, Memory}
use Rattle.faults.specs.declared.fault.Fault.{Fault}
use Rattle.faults.specs.declared.layer.Layer.{Layer}
use Rattle.faults.specs.declared.reason.Reason.{Reason}

abbrev pub refusal : Reason → Layer → ℕ → ℕ → Fault
refusal reason layer line field = record { reason = reason; layer = layer; line = line; field = field }

-- By number, as users know refusals and docs/refusals.md lists them: a contract holds the code to that page, not to its own names.
abbrev pub fault : ℕ → Layer → ℕ → ℕ → Fault
fault number = refusal (reason_by number)

abbrev pub fault_line : Fault → List ℕ
fault_line f = codes "refused " ++ (word_of f.layer ++ (codes " " ++ (decimal (number_of f.reason) ++ (codes " " ++ (decimal f.line ++ (codes " " ++ decimal f.field))))))

-- An error is printed as its refusal, or says that memory ran out.
abbrev pub error_text : Error → List ℕ
error_text (Refused f) = fault_line f
error_text Memory = codes "out of memory"
