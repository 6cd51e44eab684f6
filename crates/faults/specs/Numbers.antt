-- The number of each refusal, from 1 to 19; 20 to 22 are reserved.
use Rattle.std.specs.Prelude.{ℕ, ◌-◌, List, [], ◌∷◌, slice_index_or}
use Rattle.faults.specs.declared.reason.Reason.{Reason}
use Rattle.faults.specs.declared.reason.Reason.TheVariants.{SheetSize, ForeignByte, Heading, FieldCount, NumberRange, Word, NameTaken, UnknownTask, Count, Settings, TokenFreeRing, Ceiling, Missing, NeedRange, InletFull, ClockSpent, SlotsTaken, Length, Times}

abbrev pub number_of : Reason → ℕ
-- a sheet that is empty or above 8,192 bytes
number_of SheetSize = 1
-- a foreign byte, or no line end
number_of ForeignByte = 2
-- a heading or an empty line not as given
number_of Heading = 3
-- a wrong field count or spacing
number_of FieldCount = 4
-- no number, or one out of its range
number_of NumberRange = 5
-- no legal name or kind
number_of Word = 6
-- a name that another task has
number_of NameTaken = 7
-- a task that is not there
number_of UnknownTask = 8
-- a seventeenth task, a forty-ninth edge, or no task
number_of Count = 9
-- a server's settings out of range
number_of Settings = 10
-- a ring whose edges hold no token
number_of TokenFreeRing = 11
-- a figure above the ceiling
number_of Ceiling = 12
-- no such task, inlet or place, or a rack or claim list without just one place per task
number_of Missing = 13
-- a need of 0 or above the task's time
number_of NeedRange = 14
-- an inlet that has 65,535 arrivals waiting
number_of InletFull = 15
-- a tick at clock 1,000,000,000
number_of ClockSpent = 16
-- a full belt, or fewer free slots than tasks
number_of SlotsTaken = 17
-- a finish table's firings not 1 to 256, or a wrong length
number_of Length = 18
-- arrival times that fall or pass the ceiling
number_of Times = 19

-- in the order of their numbers
abbrev pub reasons : List Reason
reasons = SheetSize ∷ ForeignByte ∷ Heading ∷ FieldCount ∷ NumberRange ∷ Word ∷ NameTaken ∷ UnknownTask ∷ Count ∷ Settings ∷ TokenFreeRing ∷ Ceiling ∷ Missing ∷ NeedRange ∷ InletFull ∷ ClockSpent ∷ SlotsTaken ∷ Length ∷ Times ∷ []

-- The refusal that has a number: contracts name refusals so, as in reason_by 12.
abbrev pub reason_by : ℕ → Reason
reason_by n = slice_index_or reasons (n - 1) SheetSize
