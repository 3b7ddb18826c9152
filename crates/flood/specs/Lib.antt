-- What the inner functions of flooding leave.
pub mod Tops
