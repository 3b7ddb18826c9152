-- Laws of paths and components, of the grid, its sizes and the kinds of connectivity.
pub mod Paths
pub mod Component
pub mod Connectivity
pub mod Touch
pub mod Sizes
