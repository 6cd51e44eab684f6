-- The word of each call, and which call a word names.
use Rattle.std.specs.Prelude.{◌≡◌, ◌≢◌, ℕ, List, Result, MatchResult, codes}
use Rattle.calls.specs.declared.call_word.CallWord.{CallWord}
use Rattle.calls.specs.declared.call_word.CallWord.TheVariants.{Arrive, Need, Quiet, Busy}
use Rattle.calls.specs.declared.call_word.UnknownCall.{UnknownCall}

abbrev pub word_of : CallWord → List ℕ
word_of Arrive = codes "arrive"
word_of Need = codes "need"
word_of Quiet = codes "quiet"
word_of Busy = codes "busy"

-- In the place of a name: a call to every task.
abbrev pub all : List ℕ
all = codes "all"

-- The result is the call whose word this is, or the error where it is the word of none.
abbrev pub Names : List ℕ → Result CallWord UnknownCall → Type 0
Names bs r = MatchResult r (λ w. bs ≡ word_of w) (λ _. (w : CallWord) → bs ≢ word_of w)
