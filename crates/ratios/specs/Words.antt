-- The word of each verdict.
use Rattle.std.specs.Prelude.{ℕ, List, codes}
use Rattle.ratios.specs.declared.verdict.Verdict.{Verdict}
use Rattle.ratios.specs.declared.verdict.Verdict.TheVariants.{Keeps, Late}

abbrev pub word_of : Verdict → List ℕ
word_of Keeps = codes "keeps"
word_of Late = codes "late"
