-- Which sheets are legal.
use Rattle.std.specs.Prelude.{◌≡◌, ℕ, ◌<◌, ◌≤◌, true, false, ◌⊎◌, List, [], map, length, slice_index_or}
use Rattle.std.specs.List.{AllByRecursion}
use Rattle.cells.specs.Values.{named}
use Rattle.servers.specs.Settings.{LegalFixed}
use Rattle.servers.specs.declared.settings.Settings.{Settings}
use Rattle.kinds.specs.AnyKinds.{LegalAny}
use Rattle.kinds.specs.declared.kind.Kind.TheVariants.{Own}
use Rattle.layers.specs.Stacks.{NoLayer}
use Rattle.graph.specs.Legal.{Counts, Ranges}
use Rattle.graph.specs.Edges.{Ends, NoRing}
use Rattle.graph.specs.Racked.{Told}
use Rattle.sheets.specs.Pages.{Entry, Page, names, task_of, write}
use Rattle.sheets.specs.Offers.{offered}

-- A task's name is one, its server's settings are legal, and those of the layer are 0 0 0 or a legal slice.
pub record LegalEntry (e : Entry) : Type 0 where
  pub name : named e.name ≡ true
  pub server : LegalAny e.kind e.slice
  pub layer : NoLayer e.layer ⊎ LegalFixed e.layer

-- No name stands twice.
abbrev pub Distinct : List (List ℕ) → Type 0
Distinct ns = (u v : ℕ) → u < length ns → v < length ns → slice_index_or ns u [] ≡ slice_index_or ns v [] → u ≡ v

-- Every line is in order: a sheet that is legal but for rings of its edges and for figures of its servers.
pub record InOrder (p : Page) : Type 0 where
  pub counts : Counts (map task_of p.tasks) p.edges
  pub ranges : Ranges p.goal (map task_of p.tasks) p.edges
  pub ends : Ends p.edges (length p.tasks)
  pub entries : AllByRecursion LegalEntry p.tasks
  pub distinct : Distinct (names p.tasks)
  pub room : length (write p) ≤ 8192

abbrev pub no_settings : Settings
no_settings = record { period = 0; slice = 0; phase = 0 }

-- what stands past the end
abbrev pub no_entry : Entry
no_entry = record { name = []; time = 0; kind = Own; slice = no_settings; layer = no_settings; inlet = false }

abbrev pub entry_at : List Entry → ℕ → Entry
entry_at ts v = slice_index_or ts v no_entry

-- Task v's figures on its server are at most the ceiling.
abbrev pub TaskTold : List Entry → ℕ → Type 0
TaskTold ts v = Told (offered (entry_at ts v)) (entry_at ts v).time

-- Every line is in order, no ring of edges is without tokens, and no task has a figure above the ceiling.
pub record Legal (p : Page) : Type 0 where
  pub in_order : InOrder p
  pub no_ring : NoRing p.edges (length p.tasks)
  pub told : (v : ℕ) → v < length p.tasks → TaskTold p.tasks v
