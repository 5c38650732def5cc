-- What is written over a lent area of types.
use Rattle.std.specs.Prelude.{◌≡◌, List, ℕ, ltb, length, if◌then◌else◌, Result, ⊤}
use Rattle.std.proofs.Math.Option.{some}
use Rattle.meaning.specs.Query.{query_type_of}
use Rattle.meaning.specs.QueryListing.{query_in, types_or_zeros}
use Rattle.meaning.specs.QueryWords.{query_fault, query_found_words}
use Rattle.meaning.specs.Report.{over}
use Rattle.meaning.specs.Table.{padded}
use Rattle.typecode.specs.Octal.{octal}
use Rattle.query.specs.Verdict.{cause_of}
use Rattle.query.specs.declared.causes.Refusal.{Refusal}

-- the six digits of r are the six numbers of x
pub record Digits (query : List ℕ) (x r : ℕ) : Type 0 where
  pub are : octal 6 r ≡ padded (query_found_words (query_type_of (query_in query) x))

-- under 72 words: 17, and the area as it was; else the verdict, and the types or zeros over the area
pub record TypesLeft (query types after : List ℕ) (v : Result ⊤ Refusal) : Type 0 where
  pub verdict_is : cause_of v ≡ (if ltb (length types) 72 then some (17, 0) else query_fault query)
  pub types_are : after ≡ (if ltb (length types) 72 then types else over (types_or_zeros (query_fault query) query) types)
