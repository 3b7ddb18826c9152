-- From the columns of the work space to the definitions.
pub mod Results
pub mod NodeLists
