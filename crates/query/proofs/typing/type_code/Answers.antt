use Rattle.query.proofs.TypeWays.{coded_all, coded_more, coded_none, coded_within, part_accepted}
use native.Mathlib.Omega.{arith}
use Rattle.query.proofs.typing.type_code.Goals as goal

pub loop-i-init : goal.loop-i-init
loop-i-init c = search (coded_none, arith)

pub part_at-part-requires : goal.part_at-part-requires
part_at-part-requires c = search (coded_within, arith)

pub pattern_type-own-requires : goal.pattern_type-own-requires
pattern_type-own-requires c = search (part_accepted, arith)

pub loop-i-preserved : goal.loop-i-preserved
loop-i-preserved c = search (coded_more, arith)

pub returns : goal.returns
returns c = search (coded_all, arith)
