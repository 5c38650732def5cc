use Rattle.table.proofs.Plain.{fits_constant, fits_both, fits_not_both, fits_two, fits_not_two, fits_neg, fits_low, fits_high}
use Rattle.table.proofs.Descent.{p_falls_c, q_falls_c}
use borrow.Author.Rules.{rules}
use native.Mathlib.Omega.{arith}
use Rattle.table.proofs.typing.+fits.Goals as goal

pub returns-then-is_single : goal.returns-then-is_single
returns-then-is_single t c = search (fits_both, arith)

pub fits-requires : goal.fits-requires
fits-requires t c = (let h = p_falls_c c.row_at-r.ensures (search rules) {n = t} (search rules) (search rules) (search rules) in (h.0, (search rules, h.1)))

pub fits-requires-in-18-to-19 : goal.fits-requires-in-18-to-19
fits-requires-in-18-to-19 t c = (let h = p_falls_c c.row_at-r.ensures (search rules) {n = t} (search rules) (search rules) (search rules) in (h.0, (search rules, h.1)))

pub fits-requires-then-fits : goal.fits-requires-then-fits
fits-requires-then-fits t c = (let h = q_falls_c c.row_at-r.ensures (search rules) {n = t} (search rules) (search rules) (search rules) in (h.0, (search rules, h.1)))

pub returns-then-fits : goal.returns-then-fits
returns-then-fits t c = search (fits_two, arith)

pub returns-in-16 : goal.returns-in-16
returns-in-16 t c = search (fits_constant, arith)

pub returns-else-is_single : goal.returns-else-is_single
returns-else-is_single t c = search (fits_not_both, arith)

pub returns-in-20 : goal.returns-in-20
returns-in-20 t c = search (fits_neg, arith)

pub returns-else-fits : goal.returns-else-fits
returns-else-fits t c = search (fits_not_two, arith)

pub returns-in_default : goal.returns-in_default
returns-in_default t c = search (fits_low, arith)

pub returns-in_default-2 : goal.returns-in_default-2
returns-in_default-2 t c = search (fits_high, arith)
