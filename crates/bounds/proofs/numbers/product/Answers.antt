-- `bounds::numbers::product` meets its contract. Assumes nothing.
use native.Mathlib.Omega.{arith}
use Rattle.bounds.proofs.RowLengths.{product_fits}
use Rattle.bounds.proofs.numbers.product.Goals as goal

pub overflow_mul-n : goal.overflow_mul-n
overflow_mul-n c = search (product_fits, arith)
