-- What a session has printed of the text that it read, and how its calls carry that on.
use Rattle.std.specs.Prelude.{◌≡◌, ℕ, ◌+◌, ◌*◌, ◌<◌, ◌≤◌, ◌⊎◌, Bool, true, List, [], ◌∷◌, ◌++◌, length, take, Option, Some, None, Ok, Err, Result, Vec, vec_items, vec_len, vec_capacity}
use Rattle.std.specs.declared.alloc.AllocError.{AllocError}
use Rattle.faults.specs.Faults.{fault_line}
use Rattle.faults.specs.declared.fault.Fault.{Fault}
use Rattle.servers.specs.Service.{Service}
use Rattle.belt.specs.Belts.{contents, room}
use Rattle.lexer.specs.Text.{end}
use Rattle.cells.specs.Checks.{first}
use Rattle.texts.specs.Puts.{Added}
use Rattle.ahead.specs.declared.ahead.Ahead.{Ahead}
use Rattle.ahead.specs.Texts.{Whole, end_checks}
use Rattle.ahead.specs.Texts.{Reads as IsRead}
use Rattle.ahead.specs.declared.given.Given.{Given}
use Rattle.player.specs.Works.{call_room, calls_at_once}
use Rattle.player.specs.declared.player.Player.{Player}
use Rattle.session.specs.Played.{Played}
use Rattle.session.specs.declared.session.Session.{Session}

-- As many bytes as are to be written at once.
abbrev pub full : ℕ
full = 4096

-- The line of a fault, and nothing of none.
abbrev pub line_told : Option Fault → List ℕ
line_told None = []
line_told (Some f) = fault_line f ++ end

-- The line that the end of the text prints, of which so much was read.
abbrev pub end_line : Ahead → List ℕ
end_line a = line_told (first (end_checks a))

-- No line is under way, and none that was read is left.
pub record Idle {R : Type 0} (s : Session R) : Type 0 where
  pub player : s.player.work.left ≡ 0
  pub given : contents s.given ≡ []

-- A line was refused, and nothing above it is left.
pub record Done {R : Type 0} (s : Session R) : Type 0 where
  pub over : s.ahead.is_over ≡ true
  pub idle : Idle s

module _ {R : Type 0} (places : R → ℕ) (service : R → ℕ → Service) (steps : R → ℕ → Bool → Bool → R → Type 0) where
  -- From the player p this text was read, and these bytes are printed of its first lines, by so many calls; what the others gave lies on the belt.
  pub record Plays (p : Player R) (t bytes : List ℕ) (made : ℕ) (s : Session R) : Type 0 where
    pub gs : List Given
    pub reads : IsRead t (gs ++ contents s.given) s.ahead
    pub played : Played places service steps p gs bytes made s.player

  -- These bytes are all that is printed of a whole text. How it was cut as it was read does not show in them.
  pub record PlaysAll (p : Player R) (t bytes : List ℕ) : Type 0 where
    pub gs : List Given
    pub last : Player R
    pub made : ℕ
    pub whole : Whole t gs
    pub played : Played places service steps p gs bytes made last
    pub idle : last.work.left ≡ 0

  -- The first n of these bytes are read, and nothing is printed.
  pub record Reads (s : Session R) (bytes : List ℕ) (n : ℕ) (r : Session R) : Type 0 where
    pub few : n ≤ length bytes
    pub plays : (p : Player R) (t printed : List ℕ) (made : ℕ) → Plays p t printed made s → Plays p (t ++ take n bytes) printed made r
    pub player : r.player ≡ s.player
    pub same_room : room r.given ≡ room s.given
    pub none : n ≡ 0 → (r.given ≡ s.given) × (r.ahead.is_over ≡ s.ahead.is_over)
    pub capacity : vec_capacity s.ahead.held ≤ vec_capacity r.ahead.held

  -- These bytes are printed by so many calls, and nothing is read.
  abbrev pub Prints : Session R → List ℕ → ℕ → Session R → Type 0
  Prints s bytes n r = (p : Player R) (t printed : List ℕ) (made : ℕ) → Plays p t printed made s → Plays p t (printed ++ bytes) (made + n) r

  -- Whatever comes behind the text that was read, all that it prints is printed.
  abbrev pub Finishes : Session R → Type 0
  Finishes s = (p : Player R) (t printed more : List ℕ) (made : ℕ) → Plays p t printed made s → PlaysAll p (t ++ more) printed

  -- What was read is worked off, or as many bytes are in the buffer as are to be written at once, or as many calls were made as are at once, and fewer than twice so many.
  pub record WorksOff {Z : Type 0} (s : Session R) (v : Vec ℕ Z) (r : Session R) (w : Vec ℕ Z) : Type 0 where
    pub bytes : List ℕ
    pub calls : ℕ
    pub added : Added v bytes w
    pub prints : Prints s bytes calls r
    pub ahead : r.ahead ≡ s.ahead
    pub same_room : room r.given ≡ room s.given
    pub until : Idle r ⊎ ((full ≤ vec_len w) ⊎ (calls_at_once ≤ calls))
    pub few : calls < 2 * calls_at_once

  -- Where no memory is to be had, which a buffer with room for as many bytes as are written at once, and one call more, never wants, session and buffer are as they were.
  pub record Stays {Z : Type 0} (s : Session R) (v : Vec ℕ Z) (r : Session R) (w : Vec ℕ Z) : Type 0 where
    pub same : r ≡ s
    pub items : vec_items w ≡ vec_items v
    pub short : vec_capacity v < vec_len v + (full + call_room)

  -- What `go` does, or where memory lacks.
  abbrev pub Works : {Z : Type 0} → Session R → Vec ℕ Z → Result Unit AllocError → Session R → Vec ℕ Z → Type 0
  Works s v (Ok _) r w = WorksOff s v r w
  Works s v (Err _) r w = Stays s v r w

  -- One line that was given is played by so many calls, so far as the buffer goes and as are made at once.
  pub record Worked {Z : Type 0} (s : Session R) (g : Given) (v : Vec ℕ Z) (n : ℕ) (r : Session R) (w : Vec ℕ Z) : Type 0 where
    pub bytes : List ℕ
    pub added : Added v bytes w
    pub given : r.given ≡ s.given
    pub ahead : r.ahead ≡ s.ahead
    pub played :
        (p : Player R) (gs : List Given) (printed : List ℕ) (made : ℕ) → Played places service steps p gs printed made s.player →
        Played places service steps p (gs ++ g ∷ []) (printed ++ bytes) (made + n) r.player
    pub until : (r.player.work.left ≡ 0) ⊎ ((full ≤ vec_len w) ⊎ (n ≡ calls_at_once))
    pub few : n ≤ calls_at_once

  -- The line of the text's end is printed. Where all that was read is worked off, what is printed then is all of the text.
  pub record Closes {Z : Type 0} (s : Session R) (v w : Vec ℕ Z) : Type 0 where
    pub added : Added v (end_line s.ahead) w
    pub all : Idle s → (p : Player R) (t printed : List ℕ) (made : ℕ) → Plays p t printed made s → PlaysAll p t (printed ++ end_line s.ahead)

  -- What `end` does, or where memory lacks.
  abbrev pub Ends : {Z : Type 0} → Session R → Vec ℕ Z → Result Unit AllocError → Vec ℕ Z → Type 0
  Ends s v (Ok _) w = Closes s v w
  Ends s v (Err _) w = (vec_items w ≡ vec_items v) × (vec_capacity v < vec_len v + call_room)
