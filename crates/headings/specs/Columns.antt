-- The columns of a sheet's tables, by the words of their headings.
use Rattle.std.specs.Prelude.{◌≡◌, ◌≢◌, ℕ, List, Result, MatchResult, codes}
use Rattle.headings.specs.declared.column.Column.{Column}
use Rattle.headings.specs.declared.column.UnknownColumn.{UnknownColumn}
use Rattle.headings.specs.declared.column.Column.TheVariants.{Goal, Task, Time, Kind, Period, Slice, Phase, Inner, Inslice, Inphase, Inlet, From, To, Tokens}

abbrev pub column_word : Column → List ℕ
column_word Goal = codes "goal"
column_word Task = codes "task"
column_word Time = codes "time"
column_word Kind = codes "kind"
column_word Period = codes "period"
column_word Slice = codes "slice"
column_word Phase = codes "phase"
column_word Inner = codes "inner"
column_word Inslice = codes "inslice"
column_word Inphase = codes "inphase"
column_word Inlet = codes "inlet"
column_word From = codes "from"
column_word To = codes "to"
column_word Tokens = codes "tokens"

-- The result is the column that this word heads, or the error where it heads none.
abbrev pub Heads : List ℕ → Result Column UnknownColumn → Type 0
Heads w r = MatchResult r (λ c. w ≡ column_word c) (λ _. (c : Column) → w ≢ column_word c)
