-- What the causes before it leave to a later look.
use Rattle.std.specs.Prelude.{◌≡◌, List, false, ℕ}
use Rattle.std.proofs.Math.Option.{none}
use Rattle.meaning.specs.QueryWords.{bad_layout_lem, bad_names_lem, parts_fault, parts_of, query_fault}

-- laid out, the names right, every part's pattern accepted
pub record PartsFine (query : List ℕ) : Type 0 where
  pub laid_out : bad_layout_lem query ≡ false
  pub named : bad_names_lem (parts_of query) ≡ false
  pub accepted : parts_fault (parts_of query) ≡ none

-- nothing refuses it
pub record Accepted (query : List ℕ) : Type 0 where
  pub fine : PartsFine query
  pub no_fault : query_fault query ≡ none
