-- Bytes that are read next, and what they put on the belt.
use Rattle.std.specs.Prelude.{◌≡◌, ℕ, ◌<◌, ◌+◌, ◌≤◌, ◌⊎◌, true, List, [], ◌++◌, length, take, drop, slice_index_or, Option, vec_len, vec_capacity}
use Rattle.lexer.specs.Text.{lines}
use Rattle.belt.specs.Turned.{Ring}
use Rattle.belt.specs.Belts.{contents, room}
use Rattle.ahead.specs.declared.ahead.Ahead.{Ahead}
use Rattle.ahead.specs.declared.given.Given.{Given}
use Rattle.ahead.specs.Texts.{Reads}

-- The first n of these bytes are read behind every text that was read before, and what they give is put on the belt.
pub record Carried (a : Ahead) (b : Ring Given) (bytes : List ℕ) (n : ℕ) (d : Ahead) (e : Ring Given) : Type 0 where
  pub few : n ≤ length bytes
  pub put : List Given
  pub belt : contents e ≡ contents b ++ put
  pub same_room : room e ≡ room b
  pub reads : (t : List ℕ) (gs : List Given) → Reads t gs a → Reads (t ++ take n bytes) (gs ++ put) d
  pub none : n ≡ 0 → (e ≡ b) × (d.is_over ≡ a.is_over)
  pub capacity : vec_capacity a.held ≤ vec_capacity d.held

-- All of the bytes were read, or those up to a line that is refused or after which the belt is full.
abbrev pub Stops : List ℕ → ℕ → Ahead → Ring Given → Type 0
Stops bytes n a b = (n ≡ length bytes) ⊎ ((a.is_over ≡ true) ⊎ (length (contents b) ≡ room b))

-- From a to d the first n bytes were read: the line that comes next is longer than what a has room for.
abbrev pub TooLong : Ahead → List ℕ → ℕ → Ahead → Type 0
TooLong a bytes n d = vec_capacity a.held < vec_len d.held + length (slice_index_or (lines (drop n bytes)) 0 [])
