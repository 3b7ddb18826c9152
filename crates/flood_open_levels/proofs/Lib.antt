-- Laws of bits, of sets in words, of the three layers, those for callers, and the needs of opening and of shutting a level.
pub mod Bits
pub mod Words
pub mod Layered
pub mod Laws
pub mod Opening
pub mod Shutting
