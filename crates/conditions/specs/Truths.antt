-- The truth values that are still possible, those of the code as those of the model.
use Rattle.matcher.specs.Conditions.{Truths}
use Rattle.conditions.specs.declared.truth.Truths as code

abbrev pub truths_of : code.Truths → Truths
truths_of a = record { yes = a.yes; no = a.no; neither = a.neither }
