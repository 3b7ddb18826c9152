-- The node list as one list of node entries.
pub mod Lists
pub mod Results
