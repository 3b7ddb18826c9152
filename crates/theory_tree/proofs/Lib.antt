-- Laws of the component tree: its nodes, parents, own nodes; the cut; sums over the nodes; greys of one order have one tree.
pub mod Hits
pub mod Keys
pub mod Anchors
pub mod Climb
pub mod Nodes
pub mod Rises
pub mod Losses
pub mod Children
pub mod Cuts
pub mod Leaves
pub mod NodeSets
pub mod Order
