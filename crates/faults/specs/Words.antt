-- The word of each layer.
use Rattle.std.specs.Prelude.{ℕ, List, codes}
use Rattle.faults.specs.declared.layer.Layer.{Layer}
use Rattle.faults.specs.declared.layer.Layer.TheVariants.{Reader, Server, Graph, Runner, Belt, Table}

abbrev pub word_of : Layer → List ℕ
word_of Reader = codes "reader"
word_of Server = codes "server"
word_of Graph = codes "graph"
word_of Runner = codes "runner"
word_of Belt = codes "belt"
word_of Table = codes "table"
