-- Nodes and edges of the code as elements of the graph.
use Rattle.meaning.specs.Graph.{the_node, the_edge}
use Rattle.meaning.specs.Graph as graph
use Rattle.compiled.specs.declared.ids.Element.{Element}
use Rattle.compiled.specs.declared.ids.Element.TheVariants.{Node, Edge}

abbrev pub element_of : Element → graph.Element
element_of (Node n) = the_node n.0
element_of (Edge e) = the_edge e.0
