use lib.ListN.{length-set}
use Rattle.compiled.proofs.Compiling.{graph_filled}
use native.Mathlib.Omega.{arith}
use borrow.Author.Rules.{rules}
use Rattle.compiled.proofs.fill.fill_graph.Goals as goal

pub fill_labels-requires : goal.fill_labels-requires
fill_labels-requires c = (search rules, omega (arith, simp length-set at c.fill_edges.ensures.long))

pub fill_properties-requires : goal.fill_properties-requires
fill_properties-requires c = (search rules, omega (arith, c.fill_labels.ensures.long, simp length-set at c.fill_edges.ensures.long))

pub shape_of-graph : goal.shape_of-graph
shape_of-graph c = omega (arith, c.fill_properties.ensures.long, c.fill_labels.ensures.long, simp length-set at c.fill_edges.ensures.long)

pub returns : goal.returns
returns c = search (graph_filled, arith)
