-- Laws of openings: by any increasing criterion, by an attribute at a limit, by the area; of a plate.
pub mod Opening
pub mod Maxima
pub mod Absorb
pub mod Attribute
pub mod TrimEdge
