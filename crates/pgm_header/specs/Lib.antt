-- What a plate file's header is, in the words of docs/SPECIFICATION.md: its grammar on lists of bytes, and what the answers of the header
-- steps say by it.
pub mod Grammar
pub mod Steps
