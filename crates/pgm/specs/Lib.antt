-- What reading a plate file answers, in the words of docs/SPECIFICATION.md, with examples.
pub mod File
pub mod Text
pub mod Examples
