-- The line that a call is written as.
use Rattle.std.specs.Prelude.{ℕ, List, [], ◌∷◌, decimal}
use Rattle.lexer.specs.Text.{line_of}
use Rattle.names.specs.Names.{name_bytes}
use Rattle.calls.specs.declared.call_line.CallLine.{CallLine}
use Rattle.calls.specs.declared.call_line.CallLine.TheVariants as line
use Rattle.calls.specs.declared.call_word.CallWord.{CallWord}
use Rattle.calls.specs.declared.call_word.CallWord.TheVariants as word
use Rattle.calls.specs.Words.{word_of, all}

-- a word, whom the call is to, and a value
abbrev pub call_fields : CallWord → List ℕ → ℕ → List (List ℕ)
call_fields w whom n = word_of w ∷ whom ∷ decimal n ∷ []

abbrev pub fields_of : CallLine → List (List ℕ)
fields_of (line.Arrive task times) = call_fields word.Arrive (name_bytes task) times
fields_of (line.Need task ticks) = call_fields word.Need (name_bytes task) ticks
fields_of (line.Quiet ticks) = call_fields word.Quiet all ticks
fields_of (line.Busy ticks) = call_fields word.Busy all ticks

abbrev pub written : CallLine → List ℕ
written c = line_of (fields_of c)
